-- What blocks that were written anew leave sealed, from what each step draws.
use Rattle.std.proofs.Common.{◌≡◌, ◌⊎◌, ◌++◌, ℕ, Bool, true, false, List, [], ◌∷◌, refl, sym, ◌∙◌, ap, subst, inl, inr}
use Rattle.std.specs.declared.option.Option.{Option}
use Rattle.std.specs.declared.option.Option.TheVariants.{Some}
use Rattle.mount_opening.specs.answers.declared.answer.Answer.{Answer}
use Rattle.mount_opening.specs.answers.Sessions.{is_violation}
use Rattle.mount.specs.block_versions.Standing.{listed}
use Rattle.mount.specs.integrity_store.WaitingLaws.{in_order}
use Rattle.mount_opening.specs.local_state.Record.{with_mark as mark_set}
use Rattle.mount.specs.declared.mount.Mount.{Mount}
use Rattle.mount.specs.Sealing.{Draw, HoldsSealed, View, ComesFrom, AreSealed, SealsKnown}
use Rattle.mount.specs.SealingLaws.{comes_first, comes_waiting, holds_marked, holds_more, holds_then, known_none, known_nothing, known_then, sealed_nothing}
use Rattle.mount.specs.Tower.{tower}
use Rattle.mount.proofs.Sealing.{step_seals, tower_applied, tower_drawn}
use Rattle.mount_opening.specs.mount_core.declared.body.Core.{Core}
use Rattle.mount_opening.specs.mount_core.Answering.{store_of}
use Rattle.mount_opening.specs.mount_core.Keeping.{IsSameOrRecord}
use Rattle.mount_migrating.specs.Drawing.{DrawsAnew, DrawsMarked, DrawsSteps, Reached, StepDraws}
use Rattle.mount.specs.mount_stores.Tower.{Cached, held_in, trace_in, tower_meanings, tower_holdings, tower_durables}
use Rattle.outside.specs.Changes.{FileChanges, IsIncreasing, change_at}
use Rattle.outside.specs.Trace.{At, Call}
use Rattle.outside.specs.declared.keeper.Keeper.{Ghosts as KeeperGhosts}
use Rattle.rand_core.specs.Stream.{Stream}
use Rattle.mount_opening.specs.record_saver.declared.saver.Saver.{Saver}
use Rattle.mount_opening.proofs.store_api_lemmas.Draws.{later_same}
use Rattle.mount_opening.specs.store_api.Durables.{with_mark}
use Rattle.mount_calls.specs.Sealing.{StaysOrSealed, SealsAnew}

-- ---- records

stays_then : (x y : List Draw) (a b : View) (first mid last : Option (List ℕ)) → AreSealed x a b → StaysOrSealed x a first mid → StaysOrSealed y b mid last → StaysOrSealed (x ++ y) a first last
stays_then x y a b first mid last sealed (inl same) (inl next) = inl (next ∙ same)
stays_then x y a b first mid last sealed (inr h) (inl next) = inr (subst (HoldsSealed (x ++ y) a) (sym next) (holds_more x y a mid h))
stays_then x y a b first mid last sealed is (inr h) = inr (holds_then x y a b last sealed h)

module _ {V : Type 0} {K : Type 0} (trace : V → Option (List Call)) (faults : V → ℕ) (G : KeeperGhosts K) where
  abbrev view_at : Cached V → View
  view_at c = record { list = (tower_durables trace).list c; calls = trace_in trace c; known = (tower_holdings trace).used c }

  abbrev Body : Type 0
  Body = Core (Cached V) K

  module _ (drawn : List Draw) (before : View) (short : Cached V) (same : (held_in short).list ≡ before.list) where
    listed_sealed : (with_list : Bool) (name : At) (change : Option (List ℕ)) → change_at name (listed with_list (held_in short).list) ≡ Some change → ComesFrom drawn before name change
    listed_sealed true name change is = comes_first [] drawn before name change (comes_waiting before name change (subst (λ (l : FileChanges). change_at name l ≡ Some change) same is))
    listed_sealed false name change is = absurd (cc)

    -- a record of a store with this list, or what it was
    stays_of : (old new : Option (List ℕ)) → IsSameOrRecord (tower_durables trace) short old new → StaysOrSealed drawn before old new
    stays_of old new (inl is) = inl is
    stays_of old new (inr (bytes, with_list, is, is_record)) = inr (record {
      state = (held_in short).state;
      waiting = listed with_list (held_in short).list;
      keeps = record { bytes = bytes; kept = is; is_record = is_record };
      sealed = listed_sealed with_list;
    })

  -- ---- steps

  record SoFar (stream now : Stream) (a b : Body) : Type 0 where
    seals : SealsKnown stream now (view_at (store_of a)) (view_at (store_of b))
    kept : StaysOrSealed seals.fresh.drawn (view_at (store_of a)) (G.kept a.saver.keeper) (G.kept b.saver.keeper)
    last : StaysOrSealed seals.fresh.drawn (view_at (store_of a)) (Some a.saver.last.items) (Some b.saver.last.items)

  so_far_then : (s t u : Stream) (a b c : Body) → SoFar s t a b → SoFar t u b c → SoFar s u a c
  so_far_then s t u a b c x y =
      let va = view_at (store_of a) in
      let vb = view_at (store_of b) in
      let first = x.seals.fresh.drawn in
      let later = y.seals.fresh.drawn in
      record {
        seals = known_then s t u va vb (view_at (store_of c)) x.seals y.seals;
        kept = stays_then first later va vb (G.kept a.saver.keeper) (G.kept b.saver.keeper) (G.kept c.saver.keeper) x.seals.fresh.sealed x.kept y.kept;
        last = stays_then first later va vb (Some a.saver.last.items) (Some b.saver.last.items) (Some c.saver.last.items) x.seals.fresh.sealed x.last y.last;
      }

  rises : (c : Cached V) → (tower_meanings trace faults).intact c → IsIncreasing (held_in c).list
  rises c intact = in_order _ _ intact.0.0.has_record

  one_step : (a b : Body) (stream left : Stream) → (tower_meanings trace faults).intact (store_of a) → StepDraws (tower trace faults G) (tower_applied trace faults) (tower_drawn trace faults) a b stream left → SoFar stream left a b
  one_step a b stream left intact step =
      let seals = step_seals trace faults (store_of a) step.synced (store_of b) stream left (rises (store_of a) intact) step.wrote step.used step.once in
      record {
        seals = seals;
        kept = stays_of seals.fresh.drawn (view_at (store_of a)) (store_of a) refl (G.kept a.saver.keeper) (G.kept b.saver.keeper) step.keeps.kept;
        last = stays_of seals.fresh.drawn (view_at (store_of a)) (store_of a) refl (Some a.saver.last.items) (Some b.saver.last.items) step.keeps.last;
      }

  each_step : (mids : List (Reached (Cached V) K)) (a b : Body) (stream left : Stream) → (tower_meanings trace faults).intact (store_of a)
      → DrawsSteps (tower trace faults G) (tower_applied trace faults) (tower_drawn trace faults) mids a b stream left → SoFar stream left a b
  each_step [] a b stream left intact step = one_step a b stream left intact step
  each_step (mid ∷ mids) a b stream left intact (step, sound, rest) =
      so_far_then stream mid.left left a mid.core b (one_step a mid.core stream mid.left intact step) (each_step mids mid.core b mid.left left sound rest)

  to_end : (a b : Body) (stream left : Stream) → (tower_meanings trace faults).intact (store_of a) → DrawsAnew (tower trace faults G) (tower_applied trace faults) (tower_drawn trace faults) a b stream left → SoFar stream left a b
  to_end a b stream left intact d =
      let ve = view_at (store_of d.end) in
      let vb = view_at (store_of b) in
      let same : vb ≡ ve = λ i. record { list = d.set.list i; calls = d.set.trace i; known = d.set.stays.used i } in
      let seals = known_none left left ve vb (later_same left) (subst (AreSealed [] ve) (sym same) (sealed_nothing ve)) in
      so_far_then stream left left a d.end b (each_step d.along.0 a d.end stream left intact d.along.1)
      (record {
        seals = seals;
        kept = stays_of seals.fresh.drawn ve d.short d.set_short.list (G.kept d.end.saver.keeper) (G.kept b.saver.keeper) d.keeps.kept;
        last = stays_of seals.fresh.drawn ve d.short d.set_short.list (Some d.end.saver.last.items) (Some b.saver.last.items) d.keeps.last;
      })

  -- ---- of a mount

  marked_by : (drawn : List Draw) (before : View) (old was : List ℕ) (first kept : Option (List ℕ)) → kept ≡ Some (with_mark was) → StaysOrSealed drawn before (Some old) (Some was)
      → (kept ≡ Some (with_mark old)) ⊎ StaysOrSealed drawn before first kept
  marked_by drawn before old was first kept is (inl same) = inl (let e : was ≡ old = cc in is ∙ ap (λ x. Some (with_mark x)) e)
  marked_by drawn before old was first kept is (inr h) = inr (inr (subst (HoldsSealed drawn before) (sym is) (holds_marked drawn before was h)))

  pub seals_anew : (old new : Mount V K) (answer : Answer) (stream left : Stream) → (tower_meanings trace faults).intact (store_of old.core)
      → DrawsMarked (tower trace faults G) (tower_applied trace faults) (tower_drawn trace faults) old.core answer new.core stream left → SealsAnew trace G stream left old answer new
  seals_anew old new answer stream left intact d =
      let x = to_end old.core d.before stream left intact d.anew in
      let drawn = x.seals.fresh.drawn in
      let view = view_at (store_of old.core) in
      let first = G.kept old.core.saver.keeper in
      let now = G.kept new.core.saver.keeper in
      let same : view_at (store_of d.before) ≡ view_at (store_of new.core) = ap view_at (sym d.same_store) in
      let seals : SealsKnown stream left (view_at (store_of old.core)) (view_at (store_of new.core)) =
      record {
        fresh = record {
          drawn = drawn;
          draws = x.seals.fresh.draws;
          sealed = subst (AreSealed drawn (view_at (store_of old.core))) same x.seals.fresh.sealed;
        };
        unnamed = x.seals.unnamed;
      } in
      record {
        seals = seals;
        kept = elim (is_violation answer) as (λ b. is_violation answer ≡ b → (now ≡ Some (with_mark old.core.saver.last.items)) ⊎ StaysOrSealed drawn view first now) [
          | true ↦ λ e. elim (d.marks e) as (λ _. (now ≡ Some (with_mark old.core.saver.last.items)) ⊎ StaysOrSealed drawn view first now) [
            | inl marked ↦ marked_by drawn view old.core.saver.last.items d.before.saver.last.items first now marked x.last
            | inr same_kept ↦ inr (subst (StaysOrSealed drawn view first) (sym same_kept) x.kept)
          ]
          | false ↦ λ e. inr (subst (λ (s : Saver K). StaysOrSealed drawn view first (G.kept s.keeper)) (sym (d.calm e)) x.kept)
        ] refl;
        last = λ e. subst (λ (s : Saver K). StaysOrSealed drawn view (Some old.core.saver.last.items) (Some s.last.items)) (sym (d.calm e)) x.last;
      }

  -- nothing was done
  pub seals_unmoved : (mount : Mount V K) (answer : Answer) (stream : Stream) → SealsAnew trace G stream stream mount answer mount
  seals_unmoved mount answer stream = record { seals = known_nothing stream (view_at (store_of mount.core)); kept = inr (inl refl); last = λ e. inl refl }
