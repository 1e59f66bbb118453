-- Stretches in which no wrong file is passed over, one behind the other.
use Rattle.std.proofs.Common.{◌≡◌, ◌⊎◌, ◌++◌, ◌∙◌, ℕ, true, List, [], ◌∷◌, refl, subst, inl, inr}
use Rattle.std.specs.Prelude.{is_some}
use Rattle.std.specs.declared.result.Result.TheVariants.{Err}
use Rattle.mount_answering.specs.answers.declared.answer.Answer.{Answer}
use Rattle.mount_answering.specs.answers.declared.answer.Answer.TheVariants.{Reply as Replied}
use Rattle.block_id.specs.declared.fail.Fail.{Fail}
use Rattle.block_id.specs.declared.fail.Why.{Why}
use Rattle.fs_model.specs.declared.reply.Reply.TheVariants.{Done}
use Rattle.mount_answering.specs.store_outcome.Meanings.{Meanings, Lawful, Tells}
use Rattle.mount_answering.specs.record_saver.Saving.{Wrote}
use Rattle.mount_answering.specs.store_api.Content.{Id, Changes}
use Rattle.mount_answering.specs.store_api.Durables.{Durables}
use Rattle.mount_answering.specs.store_api.Holdings.{Holdings, Stays}
use Rattle.mount_answering.specs.mount_core.Answers.{answer_of_fail, Notices}
use Rattle.mount_answering.specs.mount_core.NoticeLaws.{none_came, notices_of}
use Rattle.mount_answering.proofs.mount_core_lemmas.Moving.{stays_same}
use Rattle.mount_answering.proofs.Lines.{stays_on}
use Rattle.mount_migrating.specs.Migrating.{error_of_fail, told}
use Rattle.mount_migrating.specs.Noticing.{IsRenewed, NoticedAlong, OnlySet, PassesNone, Stretch, Stretches}
use Rattle.mount_migrating.proofs.Anew.{fail_told}
use Rattle.mount_migrating.proofs.Batches.{one}

module _ {S : Type 0} (M : Meanings S) (H : Holdings S) (D : Durables S) (applied : S → S → Changes → Type 0) where
  -- ---- in a row

  -- where nothing came wrong, any answer passes nothing over
  pub answered : (mids : List S) (a b : S) (answer : Answer) → Stretches M H D applied mids a (Replied Done) b → Stretches M H D applied mids a answer b
  answered [] a b answer (s, none) = (s, none_came answer (M.gave s.synced s.last) none)
  answered (mid ∷ mids) a b answer (s, none, rest) = (s, none, answered mids mid b answer rest)

  pub joined : (mids others : List S) (a b c : S) (answer : Answer) → Stretches M H D applied mids a (Replied Done) b → Stretches M H D applied others b answer c → Stretches M H D applied (mids ++ b ∷ others) a answer c
  joined [] others a b c answer (s, none) next = (s, none, next)
  joined (mid ∷ mids) others a b c answer (s, none, rest) next = (s, none, joined mids others mid b c answer rest next)

  pub along_then : (a b c : S) (answer : Answer) → NoticedAlong M H D applied a (Replied Done) b → NoticedAlong M H D applied b answer c → NoticedAlong M H D applied a answer c
  along_then a b c answer (mids, first) (others, next) = (mids ++ b ∷ others, joined mids others a b c answer first next)

  pub along_answered : (a b : S) (answer : Answer) → NoticedAlong M H D applied a (Replied Done) b → NoticedAlong M H D applied a answer b
  along_answered a b answer (mids, first) = (mids, answered mids a b answer first)

  -- ---- stretches without a sync

  abbrev unsynced : (a last b : S) → M.loaded a last → (b ≡ last) ⊎ IsRenewed H applied last b → Stretch M H D applied a b
  unsynced a last b loaded renewed = record {
    synced = a;
    wrote = inl refl;
    stays = stays_same H a a refl;
    identity = refl;
    least = refl;
    last = last;
    loaded = loaded;
    renewed = renewed;
  }

  -- blocks were loaded
  pub along_loaded : (a b : S) (answer : Answer) → M.loaded a b → Notices answer (M.gave a b) → NoticedAlong M H D applied a answer b
  along_loaded a b answer loaded noticed = ([], (unsynced a b b loaded (inl refl), noticed))

  -- a load failed
  pub along_failed : (a b : S) (f : Fail) → M.loaded a b → Tells f (M.gave a b) → NoticedAlong M H D applied a (told {T = Unit} (Err (error_of_fail f))) b
  along_failed a b f loaded tells =
      subst (λ answer. NoticedAlong M H D applied a answer b) (fail_told f) (along_loaded a b (answer_of_fail f) loaded (notices_of f (M.gave a b) (M.gave a b) (λ why g. g) tells))

  -- and one was written anew
  pub along_renewed : (a last b : S) (id : Id) (payload : List ℕ) → M.loaded a last → ((why : Why) → M.gave a last why → ⊥) → is_some (H.content last id) ≡ true → applied last b (one id payload)
      → NoticedAlong M H D applied a (Replied Done) b
  along_renewed a last b id payload loaded none live batch =
      ([], (unsynced a last b loaded (inr (record { id = id; payload = payload; live = live; batch = batch })), none))

  module _ (laws : Lawful M) where
    pub along_same : (a : S) (answer : Answer) → NoticedAlong M H D applied a answer a
    along_same a answer = along_loaded a a answer (laws.same a) (none_came answer (M.gave a a) (laws.gave_same a))

    -- a sync alone
    pub along_synced : (a b : S) (answer : Answer) → (b ≡ a) ⊎ Wrote D a b → Stays H a b → D.identity b ≡ D.identity a → D.least b ≡ D.least a → NoticedAlong M H D applied a answer b
    along_synced a b answer wrote stays identity least = (
      [],
      (record { synced = b; wrote = wrote; stays = stays; identity = identity; least = least; last = b; loaded = laws.same b; renewed = inl refl }, none_came answer (M.gave b b) (laws.gave_same b)),
    )

  -- ---- to the end

  pub set_none : (a : S) → OnlySet H D a a
  set_none a = record { stays = stays_same H a a refl; identity = refl; list = refl; trace = refl }

  pub set_then : (a b c : S) → OnlySet H D a b → OnlySet H D b c → OnlySet H D a c
  set_then a b c u d = record { stays = stays_on H a b c u.stays d.stays; identity = d.identity ∙ u.identity; list = d.list ∙ u.list; trace = d.trace ∙ u.trace }

  pub passes_along : (a b : S) (answer : Answer) → NoticedAlong M H D applied a answer b → PassesNone M H D applied a answer b
  passes_along a b answer along = record { end = b; along = along; set = set_none b }
