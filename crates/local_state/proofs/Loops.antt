-- Reading known blocks and list entries one after the other, as the loops do.
use Rattle.std.proofs.Common.{◌≡◌, ◌≢◌, ℕ, suc, ◌-◌, ◌+◌, ◌≤◌, ◌<◌, true, false, List, [], ◌∷◌, ◌++◌, Option, Some, None, refl, sym, ap, ◌∙◌, arith}
use Rattle.std.specs.Ordering.{nat_cmp, is_lt}
use Rattle.std.specs.Cmp.Lexicographic.{slice_cmp, nat_list_cmp_total}
use Rattle.std.specs.Cmp.{tied_itself}
use Rattle.std.specs.FinMap as fin
use Rattle.block_id.proofs.Orders.{less_is}
use Rattle.outside.specs.Trace.{At}
use Rattle.local_state.specs.declared.life.Life.{Life}
use Rattle.local_state.specs.declared.state.StateError.{StateError}
use Rattle.local_state.specs.declared.state.StateError.TheVariants as errors
use Rattle.local_state.specs.Known.{Lives, zero_id, IsNext, FitsLife}
use Rattle.local_state.specs.Record.{ListEntry}
use Rattle.local_state.specs.Reading.{Fails, known_at, lives_at, entry_at, entries_at}

-- ---- known blocks

pub lives_start : (n : ℕ) (lives : Lives) (bytes : List ℕ) → lives ≡ fin.empty → lives_at (n - 0) zero_id lives bytes ≡ lives_at n zero_id fin.empty bytes
lives_start n lives bytes is =
    let all : n - 0 ≡ n = omega arith in
    ap (λ (k : ℕ). lives_at k zero_id lives bytes) all ∙ ap (λ (m : Lives). lives_at n zero_id m bytes) is

pub lives_go_on : (n i : ℕ) (previous : List ℕ) (lives : Lives) (bytes : List ℕ) (e : List ℕ × Life) (after : List ℕ) (total : Option (Lives × List ℕ)) → i < n → known_at previous bytes ≡ Some (e, after)
    → lives_at (n - i) previous lives bytes ≡ total → lives_at (n - (i + 1)) e.0 (fin.insert lives e.0 e.1) after ≡ total
unfolding lives_at
lives_go_on n i previous lives bytes e after total lt h so_far =
    let k : n - i ≡ suc (n - (i + 1)) = omega arith in
    let one : lives_at (n - i) previous lives bytes ≡ lives_at (n - (i + 1)) e.0 (fin.insert lives e.0 e.1) after = rw (k, h) refl in
    sym one ∙ so_far

pub lives_fail : (e : StateError) (n i : ℕ) (previous : List ℕ) (lives : Lives) (bytes : List ℕ) (total : Option (Lives × List ℕ)) → i < n → Fails e (known_at previous bytes)
    → lives_at (n - i) previous lives bytes ≡ total → Fails e total
unfolding lives_at
lives_fail errors.Memory n i previous lives bytes total lt h so_far = tt
lives_fail errors.BadState n i previous lives bytes total lt h so_far =
    let k : n - i ≡ suc (n - (i + 1)) = omega arith in
    let one : lives_at (n - i) previous lives bytes ≡ None = rw (k, h) refl in
    sym so_far ∙ one

pub lives_end : (n i : ℕ) (previous : List ℕ) (lives : Lives) (bytes : List ℕ) (total : Option (Lives × List ℕ)) → n ≤ i → lives_at (n - i) previous lives bytes ≡ total → total ≡ Some (lives, bytes)
unfolding lives_at
lives_end n i previous lives bytes total le so_far =
    let k : n - i ≡ 0 = omega arith in
    let one : lives_at (n - i) previous lives bytes ≡ Some (lives, bytes) = rw k refl in
    sym so_far ∙ one

-- ---- list entries

pub entries_go_on : (lives : Lives) (n i : ℕ) (previous : Option At) (before : List ListEntry) (bytes : List ℕ) (e : ListEntry) (after : List ℕ) (total : Option (List ListEntry × List ℕ)) → i < n
    → entry_at lives previous bytes ≡ Some (e, after) → entries_at lives (n - i) previous before bytes ≡ total → entries_at lives (n - (i + 1)) (Some e.0) (before ++ e ∷ []) after ≡ total
unfolding entries_at
entries_go_on lives n i previous before bytes e after total lt h so_far =
    let k : n - i ≡ suc (n - (i + 1)) = omega arith in
    let one : entries_at lives (n - i) previous before bytes ≡ entries_at lives (n - (i + 1)) (Some e.0) (before ++ e ∷ []) after = rw (k, h) refl in
    sym one ∙ so_far

pub entries_fail : (err : StateError) (lives : Lives) (n i : ℕ) (previous : Option At) (before : List ListEntry) (bytes : List ℕ) (total : Option (List ListEntry × List ℕ)) → i < n
    → Fails err (entry_at lives previous bytes) → entries_at lives (n - i) previous before bytes ≡ total → Fails err total
unfolding entries_at
entries_fail errors.Memory lives n i previous before bytes total lt h so_far = tt
entries_fail errors.BadState lives n i previous before bytes total lt h so_far =
    let k : n - i ≡ suc (n - (i + 1)) = omega arith in
    let one : entries_at lives (n - i) previous before bytes ≡ None = rw (k, h) refl in
    sym so_far ∙ one

pub entries_end : (lives : Lives) (n i : ℕ) (previous : Option At) (before : List ListEntry) (bytes : List ℕ) (total : Option (List ListEntry × List ℕ)) → n ≤ i
    → entries_at lives (n - i) previous before bytes ≡ total → total ≡ Some (before, bytes)
unfolding entries_at
entries_end lives n i previous before bytes total le so_far =
    let k : n - i ≡ 0 = omega arith in
    let one : entries_at lives (n - i) previous before bytes ≡ Some (before, bytes) = rw k refl in
    sym so_far ∙ one

-- ---- no id that comes after is the zero id

pub below_then : (x y z : List ℕ) → is_lt (slice_cmp nat_cmp x y) ≡ true → is_lt (slice_cmp nat_cmp y z) ≡ true → is_lt (slice_cmp nat_cmp x z) ≡ true
below_then x y z p q = ap is_lt (nat_list_cmp_total.trans x y z (less_is _ p) (less_is _ q))

pub not_below_itself : (x : List ℕ) → is_lt (slice_cmp nat_cmp x x) ≡ false
not_below_itself x = ap is_lt (tied_itself nat_list_cmp_total x)

abbrev pub AboveZero : List ℕ → Type 0
AboveZero previous = (id : List ℕ) → is_lt (slice_cmp nat_cmp previous id) ≡ true → id ≢ zero_id

pub above_zero : AboveZero zero_id
above_zero id lt is =
    let impossible : true ≡ false = sym lt ∙ ap (λ (x : List ℕ). is_lt (slice_cmp nat_cmp zero_id x)) is ∙ not_below_itself zero_id in
    absurd (cc)

pub above_next : (previous id : List ℕ) → is_lt (slice_cmp nat_cmp previous id) ≡ true → AboveZero previous → AboveZero id
above_next previous id lt above other below = above other (below_then previous id other lt below)

pub next_fits : (previous id : List ℕ) (life : Life) → IsNext previous id life → AboveZero previous → FitsLife id life
next_fits previous id life next above = record { length = next.length; not_zero = above id next.after; from_one = next.from_one; below = next.below }
