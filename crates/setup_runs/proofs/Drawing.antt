-- What a run of `migrate` draws for the files that it seals.
use Rattle.std.proofs.Common.{◌≡◌, ◌++◌, ℕ, false, List, sym, ◌∙◌, subst, inl, inr}
use Rattle.std.specs.declared.option.Option.{Option}
use Rattle.std.specs.declared.option.Option.TheVariants.{Some}
use Rattle.session_laws.specs.answers.declared.answer.Answer.{Answer}
use Rattle.session_laws.specs.answers.Sessions.{is_violation}
use Rattle.session_laws.specs.mount.declared.mount.Mount.{Mount}
use Rattle.session_laws.specs.mount.Answering.{kept_of}
use Rattle.session_laws.specs.mount.Sealing.{Draw, HoldsSealed, View, AreSealed, view_of}
use Rattle.session_laws.specs.mount.SealingLaws.{holds_marked, holds_more, holds_then, seals_then, vectors_then}
use Rattle.mount_calls.specs.Sealing.{StaysOrSealed, SealsAnew}
use Rattle.outside.specs.Trace.{Call}
use Rattle.outside.specs.declared.keeper.Keeper.{Ghosts as KeeperGhosts}
use Rattle.rand_core.specs.Stream.{Stream}
use Rattle.session_laws.proofs.Drawing.{KnownSoFar, SealedSoFar}
use Rattle.session_laws.specs.store_api.Durables.{with_mark}

kept_then : (x y : List Draw) (a b : View) (was kept : Option (List ℕ)) → AreSealed x a b → HoldsSealed x a was → StaysOrSealed y b was kept → HoldsSealed (x ++ y) a kept
kept_then x y a b was kept sealed k (inl same) = subst (HoldsSealed (x ++ y) a) (sym same) (holds_more x y a was k)
kept_then x y a b was kept sealed k (inr h) = holds_then x y a b kept sealed h

-- blocks were written anew
sealed_anew : {V : Type 0} {K : Type 0} (trace : V → Option (List Call)) (G : KeeperGhosts K) (first : Stream) (start : View) (now after : Stream) (old new : Mount V K) (answer : Answer) → old.core.violated ≡ false
    → new.core.violated ≡ is_violation answer → SealsAnew trace G now after old answer new → SealedSoFar trace G first start now old → SealedSoFar trace G first start after new
sealed_anew trace G first start now after old new answer fresh violated s x =
    let before = x.fresh.drawn in
    let later = s.seals.fresh.drawn in
    let last = x.last fresh in
    record {
      fresh = seals_then first now after start (view_of trace old) (view_of trace new) x.fresh s.seals.fresh;
      kept = elim s.kept as (λ _. HoldsSealed (before ++ later) start (kept_of G new)) [
        | inl marked ↦ subst (HoldsSealed (before ++ later) start) (sym marked)
            (holds_more before later start (Some (with_mark old.core.saver.last.items)) (holds_marked before start old.core.saver.last.items last))
        | inr stays ↦ kept_then before later start (view_of trace old) (kept_of G old) (kept_of G new) x.fresh.sealed x.kept stays
      ];
      last = λ v. kept_then before later start (view_of trace old) (Some old.core.saver.last.items) (Some new.core.saver.last.items) x.fresh.sealed last (s.last (sym violated ∙ v));
    }

-- no seed was drawn
pub known_anew : {V : Type 0} {K : Type 0} (trace : V → Option (List Call)) (G : KeeperGhosts K) (first : Stream) (start : View) (now after : Stream) (old new : Mount V K) (answer : Answer) → old.core.violated ≡ false
    → new.core.violated ≡ is_violation answer → SealsAnew trace G now after old answer new → KnownSoFar trace G first start now old → KnownSoFar trace G first start after new
unfolding sealed_anew
known_anew trace G first start now after old new answer fresh violated s x = record {
  far = sealed_anew trace G first start now after old new answer fresh violated s x.far;
  unnamed = vectors_then x.far.fresh.drawn s.seals.fresh.drawn x.unnamed s.seals.unnamed;
}
