-- A listing of no more files than it may give doesn't fail, and leaves the directory honest.
use Rattle.std.proofs.Common.{◌≡◌, ◌⊎◌, inl, inr, ℕ, suc, ◌+◌, ◌<◌, ◌≤◌, Bool, true, false, cond, List, [], ◌∷◌, length, refl, sym, ap, subst, arith, Result, Ok, Err, IsErrOf, OnOk}
use Rattle.std.specs.Ordering.{match_ordering, nat_cmp}
use Rattle.std.specs.Cmp.Lexicographic.{slice_cmp}
use Rattle.std.specs.BTreeMap.{is_at}
use Rattle.std.specs.declared.cmp.Ordering.{Ordering}
use Rattle.std.specs.declared.cmp.Ordering.TheVariants.{Less, Equal, Greater}
use Rattle.std.specs.declared.option.Option.{Option}
use Rattle.std.specs.declared.option.Option.TheVariants.{None, Some}
use Rattle.outside.specs.declared.vault.GetFail.{GetFail}
use Rattle.outside.specs.declared.vault.GetFail.TheVariants.{Memory, Failed}
use Rattle.outside.specs.Causes.{one_more}
use Rattle.outside.specs.Changes.{FileChanges}
use Rattle.outside.specs.FileTexts.{text_of_file}
use Rattle.memory_outside.specs.FileNames.{after_first, file_names, all_names, with_name, without_name}
use Rattle.memory_outside.specs.Vaults.{VaultState, is_listed, get_fails, names_in, after_list}
use Rattle.program_laws.specs.Honest.{IsHonestVault}

no_less : (a b : ℕ) → a ≤ b → b < a → ⊥
no_less a b h k = omega arith

shorter : (b : Bool) (x : List ℕ) (xs ys : List (List ℕ)) → length ys ≤ length xs → length (cond b xs (x ∷ ys)) ≤ suc (length xs)
shorter true x xs ys h = omega arith
shorter false x xs ys h = omega (arith, h)

without_few : (name : List ℕ) (names : List (List ℕ)) → length (without_name names name) ≤ length names
without_few name [] = omega arith
without_few name (x ∷ names) = shorter (is_at (slice_cmp nat_cmp name) x) x names (without_name names name) (without_few name names)

longer : (o : Ordering) (name x : List ℕ) (xs ys : List (List ℕ)) → length ys ≤ length xs + 1
    → length (match_ordering o (name ∷ x ∷ xs) (x ∷ xs) (x ∷ ys)) ≤ suc (length xs) + 1
longer Less name x xs ys h = omega arith
longer Equal name x xs ys h = omega arith
longer Greater name x xs ys h = omega (arith, h)

with_few : (name : List ℕ) (names : List (List ℕ)) → length (with_name names name) ≤ length names + 1
with_few name [] = omega arith
with_few name (x ∷ names) = longer (slice_cmp nat_cmp name x) name x names (with_name names name) (with_few name names)

after_few : (change : Option (List ℕ)) (name : List ℕ) (names : List (List ℕ)) (n : ℕ) → length names ≤ n → length (after_first change name names) ≤ suc n
after_few None name names n h = omega (arith, h, without_few name names)
after_few (Some bytes) name names n h = omega (arith, h, with_few name names)

-- there are no more names than changes
few_names : (files : FileChanges) → length (file_names files) ≤ length files
few_names [] = omega arith
few_names (change ∷ changes) = after_few change.1 (text_of_file change.0) (file_names changes) (length changes) (few_names changes)

few_in : (v : VaultState) → v.strange ≡ [] → length (names_in v) ≤ length v.files
few_in v none = subst (λ strange. length (all_names v.files strange) ≤ length v.files) (sym none) (few_names v.files)

none_fails : (v : VaultState) → v.failing ≡ [] → get_fails v ≡ false
none_fails v none = ap (λ failing. is_listed failing (one_more v.calls)) none

no_true : (b : Bool) → b ≡ false → b ≡ true → ⊥
no_true b h k = cc

pub never_fails : (v : VaultState) (most : ℕ) → IsHonestVault v → length v.files ≤ most → ((get_fails v ≡ true) ⊎ (most < length (names_in v))) → ⊥
never_fails v most honest few (inl listed) = no_true (get_fails v) (none_fails v honest.none_listed) listed
never_fails v most honest few (inr many) = no_less (length (names_in v)) most (omega (arith, few_in v honest.none_strange, few)) many

pub stays_honest : (v : VaultState) → IsHonestVault v → IsHonestVault (after_list v)
stays_honest v honest = record {
  truthful = honest.truthful;
  faultless = honest.faultless;
  untampered = record { none_replaced = honest.untampered.none_replaced; files_left = honest.untampered.files_left };
  none_listed = honest.none_listed;
  none_from = honest.none_from;
  none_strange = honest.none_strange;
}

-- whatever a listing answers that can't fail, the directory stays honest
pub honest_after : {T : Type 0} (v w : VaultState) (r : Result T GetFail) → IsHonestVault v → OnOk r (w ≡ after_list v) → (IsErrOf r Failed → ⊥) → (IsErrOf r Memory → w ≡ v) → IsHonestVault w
honest_after v w (Ok x) honest done failed same = subst IsHonestVault (sym done) (stays_honest v honest)
honest_after v w (Err Failed) honest done failed same = absurd (failed refl)
honest_after v w (Err Memory) honest done failed same = subst IsHonestVault (sym (same refl)) honest
