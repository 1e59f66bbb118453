-- What is joined is shown as it was.
use Rattle.std.proofs.Common.{◌≡◌, ℕ, Bool, true, false, List, [], ◌∷◌, ◌++◌, length, take, drop, take_at, refl, sym, ap, subst, ◌∙◌, arith}
use Rattle.std.specs.Prelude.{Option, Some, None, nat_eq, slice_set, if◌then◌else◌}
use Rattle.std.specs.List.{starts_with}
use Rattle.std.specs.Cmp.Lexicographic.{bytes_decides}
use Rattle.std.proofs.lemmas.Bool.{eqb-true}
use Rattle.std.proofs.lemmas.List.{take-append-drop}
use Rattle.block_id.proofs.Conditions.{and_true}
use Rattle.local_state.specs.Record.{magic_of}
use Rattle.local_state.specs.declared.state.Form.TheVariants.{Newer}
use Rattle.shared_records.specs.Scan.{split_at}
use Rattle.shared_keeper.specs.Shown.{front_of, shown, with_entries, splits_so, may_join, joined}

-- a record of one client begins so
pub begins : (bytes : List ℕ) → starts_with nat_eq bytes (magic_of Newer) ≡ true → bytes ≡ magic_of Newer ++ drop 19 bytes
begins bytes e = sym (ap (λ (x : List ℕ). x ++ drop 19 bytes) ((bytes_decides (magic_of Newer) (take 19 bytes)).0 e) ∙ take-append-drop 19 bytes)

split_so : (o : Option ℕ) (n : ℕ) → splits_so o n ≡ true → o ≡ Some n
split_so None n e = absurd (cc)
split_so (Some m) n e = ap Some (eqb-true m n e)

front_again : (rest entries : List ℕ) → take (length (magic_of Newer ++ rest)) (slice_set (with_entries entries (magic_of Newer ++ rest)) 17 50) ≡ magic_of Newer ++ rest
front_again rest entries = take_at (magic_of Newer ++ rest) entries (length (magic_of Newer ++ rest)) refl

pub shown_joined : (entries bytes : List ℕ) → may_join entries bytes ≡ true → shown (with_entries entries bytes) ≡ bytes
shown_joined entries bytes e =
    let both = and_true (starts_with nat_eq bytes (magic_of Newer)) (splits_so (split_at (with_entries entries bytes)) (length bytes)) e in
    let is = begins bytes both.0 in
    ap (λ (o : Option ℕ). front_of o (with_entries entries bytes)) (split_so (split_at (with_entries entries bytes)) (length bytes) both.1)
    ∙ subst (λ (x : List ℕ). take (length x) (slice_set (with_entries entries x) 17 50) ≡ x) (sym is) (front_again (drop 19 bytes) entries)

pub shown_other : (bytes : List ℕ) → split_at bytes ≡ None → shown bytes ≡ bytes
shown_other bytes e = ap (λ (o : Option ℕ). front_of o bytes) e

-- ---- what is kept of what is given

pub joined_yes : (entries bytes : List ℕ) → may_join entries bytes ≡ true → joined entries bytes ≡ with_entries entries bytes
joined_yes entries bytes e = ap (λ (b : Bool). if b then with_entries entries bytes else bytes) e

pub joined_no : (entries bytes : List ℕ) → may_join entries bytes ≡ false → joined entries bytes ≡ bytes
joined_no entries bytes e = ap (λ (b : Bool). if b then with_entries entries bytes else bytes) e

-- nothing joins nothing
pub empty_joins : (entries bytes : List ℕ) → length bytes ≡ 0 → joined entries bytes ≡ bytes
empty_joins entries [] e = refl
empty_joins entries (b ∷ bytes) e = absurd (omega (arith, e))
