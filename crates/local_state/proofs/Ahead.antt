-- Used ids that lie ahead of a candidate: each candidate that is passed over leaves fewer.
use Rattle.std.proofs.Common.{◌≡◌, ℕ, ◌+◌, ◌^◌, ◌<◌, ◌≤◌, ◌⊎◌, Bool, true, false, cond, List, [], ◌∷◌, length, Option, Some, None, refl, sym, ap, subst, ◌∙◌, inl, inr, arith, add-one, below_more}
use Rattle.std.specs.Prelude.{not, ◌&&◌, is_none}
use Rattle.std.specs.Str.{bytes_eq}
use Rattle.std.specs.FinMap as fin
use Rattle.std.specs.Cmp.Lexicographic.{bytes_decides}
use Rattle.std.specs.Map.{lookup}
use Rattle.block_id.specs.Name.{next_id}
use Rattle.block_id.specs.declared.id.BlockId.{BlockId}
use Rattle.block_id.proofs.Candidates.{value, value-zero_id, behind, behind-nth_id, at_least, at_least-one, at_least-falls, at_least-passed}
use Rattle.local_state.specs.declared.life.Life.{Life}
use Rattle.local_state.specs.Known.{same_id, Lives, lives_of, zero_id, nth_id, is_free}
use Rattle.local_state.proofs.Lookups.{get-lives_of}

-- how many of the used ids, and the zero id, lie n or more places behind d
pub ahead : ℕ → ℕ → List (BlockId × Life) → ℕ
ahead d n [] = at_least d n 0
ahead d n (e ∷ es) = at_least d n (value e.0.0) + ahead d n es

ahead-start : (d : ℕ) (es : List (BlockId × Life)) → ahead d 0 es ≤ length es + 1
unfolding ahead
ahead-start d [] = at_least-one d 0 0
ahead-start d (e ∷ es) = omega (arith, at_least-one d 0 (value e.0.0), ahead-start d es)

ahead-falls : (d n : ℕ) (es : List (BlockId × Life)) → ahead d (n + 1) es ≤ ahead d n es
unfolding ahead
ahead-falls d n [] = at_least-falls d n 0
ahead-falls d n (e ∷ es) = omega (arith, at_least-falls d n (value e.0.0), ahead-falls d n es)

ahead-zero : (d n : ℕ) (es : List (BlockId × Life)) → behind d 0 ≡ n → ahead d (n + 1) es + 1 ≤ ahead d n es
unfolding ahead
ahead-zero d n [] is = at_least-passed d n 0 is
ahead-zero d n (e ∷ es) is = omega (arith, at_least-falls d n (value e.0.0), ahead-zero d n es is)

used_or_later : (id : BlockId) (e : BlockId × Life) (es : List (BlockId × Life)) (m : Life) (b : Bool) → b ≡ same_id id e.0 → cond b (Some e.1) (lookup (same_id id) es) ≡ Some m → (id.0 ≡ e.0.0) ⊎ (lookup (same_id id) es ≡ Some m)
used_or_later id e es m true is found = inl ((bytes_decides id.0 e.0.0).0 (sym is))
used_or_later id e es m false is found = inr found

ahead-used : (d n : ℕ) (id : BlockId) (m : Life) (es : List (BlockId × Life)) → behind d (value id.0) ≡ n → lookup (same_id id) es ≡ Some m → ahead d (n + 1) es + 1 ≤ ahead d n es
unfolding ahead
ahead-used d n id m [] is found = absurd (cc)
ahead-used d n id m (e ∷ es) is found =
    elim (used_or_later id e es m (same_id id e.0) refl found) [
      | inl same ↦ omega (arith, at_least-passed d n (value e.0.0) (ap (λ (x : List ℕ). behind d (value x)) (sym same) ∙ is), ahead-falls d n es)
      | inr later ↦ omega (arith, at_least-falls d n (value e.0.0), ahead-used d n id m es is later)
    ]

is_zero : (id : List ℕ) (b : Bool) → b ≡ bytes_eq id zero_id → not b ≡ false → id ≡ zero_id
is_zero id true is h = (bytes_decides id zero_id).0 (sym is)
is_zero id false is h = absurd (cc)

-- what is not free is used or the zero id
taken : (lives : Lives) (id : List ℕ) (o : Option Life) → o ≡ fin.get lives id → (is_none o && not (bytes_eq id zero_id)) ≡ false → ((m : Life) × (fin.get lives id ≡ Some m)) ⊎ (id ≡ zero_id)
taken lives id (Some m) is h = inl (m, sym is)
taken lives id None is h = inr (is_zero id (bytes_eq id zero_id) refl h)

-- ---- the loop over candidates

-- so many were passed over
pub record Passed (drawn id : BlockId) (n : ℕ) (es : List (BlockId × Life)) : Type 0 where
  pub reached : id.0 ≡ nth_id drawn.0 n
  pub first : (k : ℕ) → k < n → is_free (lives_of es) (nth_id drawn.0 k) ≡ false
  pub few : n + ahead (value drawn.0) n es ≤ length es + 1

pub at_start : (drawn : BlockId) (es : List (BlockId × Life)) → Passed drawn drawn 0 es
at_start drawn es = record { reached = refl; first = λ k lt. absurd (omega arith); few = omega (arith, ahead-start (value drawn.0) es) }

fewer : (drawn id : BlockId) (n : ℕ) (es : List (BlockId × Life)) → length es < 2 ^ 63 → Passed drawn id n es → is_free (lives_of es) id.0 ≡ false → ahead (value drawn.0) (n + 1) es + 1 ≤ ahead (value drawn.0) n es
fewer drawn id n es small passed not_free =
    let place : behind (value drawn.0) (value id.0) ≡ n = ap (λ (x : List ℕ). behind (value drawn.0) (value x)) passed.reached ∙ behind-nth_id drawn.0 n (omega (arith, passed.few)) in
    elim (taken (lives_of es) id.0 (fin.get (lives_of es) id.0) refl not_free) [
      | inl used ↦ ahead-used (value drawn.0) n id used.0 es place (sym (get-lives_of id es) ∙ used.1)
      | inr is_zero_id ↦ ahead-zero (value drawn.0) n es (sym (ap (behind (value drawn.0)) (ap value is_zero_id ∙ value-zero_id)) ∙ place)
    ]

pub goes_on : (drawn id next : BlockId) (n : ℕ) (es : List (BlockId × Life)) → length es < 2 ^ 63 → next.0 ≡ next_id id.0 → is_free (lives_of es) id.0 ≡ false → Passed drawn id n es → Passed drawn next (n + 1) es
goes_on drawn id next n es small is not_free passed =
    record {
      reached = is ∙ ap next_id passed.reached ∙ ap (nth_id drawn.0) (sym (add-one n));
      first = below_more (λ k. is_free (lives_of es) (nth_id drawn.0 k) ≡ false) n passed.first (subst (λ (x : List ℕ). is_free (lives_of es) x ≡ false) passed.reached not_free);
      few = omega (arith, passed.few, fewer drawn id n es small passed not_free);
    }

pub ends : (drawn id : BlockId) (n : ℕ) (es : List (BlockId × Life)) → length es + 2 ≤ n → Passed drawn id n es → ⊥
ends drawn id n es le passed = omega (arith, passed.few)
