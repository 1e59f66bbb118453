-- That no wrong file is passed over while blocks are written anew.
use Rattle.std.specs.Prelude.{◌≡◌, ◌⊎◌, ℕ, true, List, [], ◌∷◌, is_some}
use Rattle.std.specs.FinMap as fin
use Rattle.std.specs.declared.option.Option.TheVariants.{Some}
use Rattle.mount_answering.specs.answers.declared.answer.Answer.{Answer}
use Rattle.block_id.specs.declared.fail.Why.{Why}
use Rattle.mount_answering.specs.mount_core.Answers.{Notices}
use Rattle.mount_answering.specs.store_outcome.Meanings.{Meanings}
use Rattle.mount_answering.specs.record_saver.Saving.{Wrote}
use Rattle.mount_answering.specs.store_api.Content.{Id, Changes}
use Rattle.mount_answering.specs.store_api.Durables.{Durables}
use Rattle.mount_answering.specs.store_api.Holdings.{Holdings, Stays}

-- one live block got a payload anew, by a batch that names no other
pub record IsRenewed {S : Type 0} (H : Holdings S) (applied : S → S → Changes → Type 0) (a b : S) : Type 0 where
  pub id : Id
  pub payload : List ℕ
  pub live : is_some (H.content a id) ≡ true
  pub batch : applied a b (fin.insert fin.empty id (Some payload))

-- What waited was written, or a front part of it, or nothing was done. Then blocks were only loaded, and at last one was written anew, or none.
pub record Stretch {S : Type 0} (M : Meanings S) (H : Holdings S) (D : Durables S) (applied : S → S → Changes → Type 0) (a b : S) : Type 0 where
  pub synced : S
  pub wrote : (synced ≡ a) ⊎ Wrote D a synced
  pub stays : Stays H a synced
  pub identity : D.identity synced ≡ D.identity a
  pub least : D.least synced ≡ D.least a
  pub last : S
  pub loaded : M.loaded synced last
  pub renewed : (b ≡ last) ⊎ IsRenewed H applied last b

-- Such stretches follow one another, and these stores stand between them. No wrong file of a live block came but in the last one, and there this answer tells it.
abbrev pub Stretches : {S : Type 0} → Meanings S → Holdings S → Durables S → (S → S → Changes → Type 0) → List S → S → Answer → S → Type 0
Stretches M H D applied [] a answer b = (s : Stretch M H D applied a b) × Notices answer (M.gave s.synced s.last)
Stretches M H D applied (mid ∷ mids) a answer b = (s : Stretch M H D applied a mid) × ((why : Why) → M.gave s.synced s.last why → ⊥) × Stretches M H D applied mids mid answer b

-- the same, whatever stands between
abbrev pub NoticedAlong : {S : Type 0} → Meanings S → Holdings S → Durables S → (S → S → Changes → Type 0) → S → Answer → S → Type 0
NoticedAlong M H D applied a answer b = (mids : List _) × Stretches M H D applied mids a answer b

-- at most the least format was set
pub record OnlySet {S : Type 0} (H : Holdings S) (D : Durables S) (a b : S) : Type 0 where
  pub stays : Stays H a b
  pub identity : D.identity b ≡ D.identity a
  pub list : D.list b ≡ D.list a
  pub trace : D.trace b ≡ D.trace a

-- No wrong file that came is passed over: of a live block whose file is wrong, by the versions that were known when it came, the answer tells it.
pub record PassesNone {S : Type 0} (M : Meanings S) (H : Holdings S) (D : Durables S) (applied : S → S → Changes → Type 0) (a : S) (answer : Answer) (b : S) : Type 0 where
  pub end : S
  pub along : NoticedAlong M H D applied a answer end
  pub set : OnlySet H D end b
