-- What a list of drafts counts, told by how many changes it has of each kind.
use Rattle.std.proofs.Common.{◌≡◌, ℕ, suc, ◌+◌, ◌-◌, ◌*◌, ◌/◌, ◌^◌, ◌<◌, ◌≤◌, min, true, List, [], ◌∷◌, length, take, get_or, refl, sym, ◌∙◌, ap, arith}
use Rattle.std.specs.Prelude.{sum_by}
use Rattle.std.specs.FinMap.Entries.{below_all, is_sorted}
use Rattle.std.specs.declared.option.Option.{Option}
use Rattle.std.specs.declared.option.Option.TheVariants.{None, Some}
use Rattle.std.proofs.Math.Nat.{suc-mul}
use Rattle.std.proofs.lemmas.Bool.{and_parts}
use Rattle.std.proofs.lemmas.List.{get_or-map, length-map}
use Rattle.std.proofs.lemmas.List.Sums.{sum_by-cons, sum_by_more}
use Rattle.outside.specs.declared.change.Pending.{Pending}
use Rattle.outside.specs.Trace.{At, config, block}
use Rattle.outside.specs.Names.{at_cmp}
use Rattle.outside.specs.Changes.{FileChanges, IsIncreasing, change_at}
use Rattle.outside.specs.View.{change_of, pending_of, list_of}
use Rattle.redo_vault.specs.Redo.{bytes_len, len_with, sum_with, buffered_len}
use Rattle.sealed_store.specs.Sums.{bytes_put, one_if_removal, puts_of, removals_in, sealed_len, sealed_sum}

-- ---- removals

one_weighs : (c : Option (List ℕ)) → len_with 64 c ≡ bytes_len c + 64 * one_if_removal c
one_weighs None = refl
one_weighs (Some bytes) = omega arith

weighs : (list : FileChanges) → sum_by (λ (e : At × Option (List ℕ)). len_with 64 e.1) list ≡ sum_by (λ (e : At × Option (List ℕ)). bytes_len e.1) list + 64 * removals_in list
weighs [] = refl
weighs (e ∷ es) =
    omega (
      arith,
      sum_by-cons (λ (c : At × Option (List ℕ)). len_with 64 c.1) e es,
      sum_by-cons (λ (c : At × Option (List ℕ)). bytes_len c.1) e es,
      sum_by-cons (λ (c : At × Option (List ℕ)). one_if_removal c.1) e es,
      one_weighs e.1,
      weighs es,
    )

-- where the weight isn't the greatest number
pub removals_told : (list : FileChanges) (weight buffered : ℕ) → weight ≡ sum_with 64 list → buffered ≡ buffered_len list → (weight ≡ 2 ^ 64 - 1 → ⊥) → (weight - buffered) / 64 ≡ removals_in list
removals_told list weight buffered w b less =
    let all : sum_by (λ (e : At × Option (List ℕ)). len_with 64 e.1) list ≡ sum_by (λ (e : At × Option (List ℕ)). bytes_len e.1) list + 64 * removals_in list = weighs list in
    omega (arith, all, w, b, less)

pub buffered_le : (list : FileChanges) (weight buffered : ℕ) → weight ≡ sum_with 64 list → buffered ≡ buffered_len list → buffered ≤ weight
buffered_le list weight buffered w b = omega (arith, weighs list, w, b)

-- one more was looked at
pub removals_more : (ps : List Pending) (i : ℕ) (p : Pending) → i < length ps → p ≡ get_or ps i p
    → removals_in (take (i + 1) (list_of ps)) ≡ removals_in (take i (list_of ps)) + one_if_removal (change_of p.change)
removals_more ps i p h is =
    let within : i < length (list_of ps) = omega (arith, length-map ps pending_of) in
    let here : get_or (list_of ps) i (pending_of p) ≡ pending_of p = get_or-map pending_of ps i p (pending_of p) h ∙ ap pending_of (sym is) in
    sum_by_more (λ (e : At × Option (List ℕ)). one_if_removal e.1) (list_of ps) i (pending_of p) within ∙ ap (λ (e : At × Option (List ℕ)). removals_in (take i (list_of ps)) + one_if_removal e.1) here

-- ---- the other changes

-- how many blocks' files are put, and whether the configuration's is, with how many bytes
abbrev files_in : FileChanges → ℕ
files_in [] = 0
files_in ((config, c) ∷ es) = files_in es
files_in ((block id, None) ∷ es) = files_in es
files_in ((block id, Some draft) ∷ es) = suc (files_in es)

abbrev config_puts : FileChanges → ℕ
config_puts [] = 0
config_puts ((config, None) ∷ es) = config_puts es
config_puts ((config, Some bytes) ∷ es) = suc (config_puts es)
config_puts ((block id, c) ∷ es) = config_puts es

abbrev config_bytes : FileChanges → ℕ
config_bytes [] = 0
config_bytes ((config, c) ∷ es) = bytes_len c + config_bytes es
config_bytes ((block id, c) ∷ es) = config_bytes es

counted : (list : FileChanges) → length list ≡ files_in list + config_puts list + removals_in list
counted [] = refl
counted ((config, None) ∷ es) = omega (arith, sum_by-cons (λ (c : At × Option (List ℕ)). one_if_removal c.1) (config, None) es, counted es)
counted ((config, Some bytes) ∷ es) = omega (arith, sum_by-cons (λ (c : At × Option (List ℕ)). one_if_removal c.1) (config, Some bytes) es, counted es)
counted ((block id, None) ∷ es) = omega (arith, sum_by-cons (λ (c : At × Option (List ℕ)). one_if_removal c.1) (block id, None) es, counted es)
counted ((block id, Some draft) ∷ es) = omega (arith, sum_by-cons (λ (c : At × Option (List ℕ)). one_if_removal c.1) (block id, Some draft) es, counted es)

-- what each kind counts
once_more : (a n r : ℕ) → a ≡ suc n → a * r ≡ n * r + r
once_more a n r e = ap (λ (k : ℕ). k * r) e ∙ suc-mul n r

abbrev gone : At × Option (List ℕ) → ℕ
gone e = one_if_removal e.1

summed : (size r : ℕ) (list : FileChanges) → sum_by (sealed_len size r) list ≡ files_in list * size + config_bytes list + removals_in list * r
summed size r [] = omega arith
summed size r ((config, None) ∷ es) =
    let more : removals_in ((config, None) ∷ es) ≡ suc (removals_in es) = omega (arith, sum_by-cons gone (config, None) es) in
    omega (arith, sum_by-cons (sealed_len size r) (config, None) es, once_more (removals_in ((config, None) ∷ es)) (removals_in es) r more, summed size r es)
summed size r ((config, Some bytes) ∷ es) =
    let same : removals_in ((config, Some bytes) ∷ es) * r ≡ removals_in es * r = ap (λ (k : ℕ). k * r) (omega (arith, sum_by-cons gone (config, Some bytes) es)) in
    omega (arith, sum_by-cons (sealed_len size r) (config, Some bytes) es, same, summed size r es)
summed size r ((block id, None) ∷ es) =
    let more : removals_in ((block id, None) ∷ es) ≡ suc (removals_in es) = omega (arith, sum_by-cons gone (block id, None) es) in
    omega (arith, sum_by-cons (sealed_len size r) (block id, None) es, once_more (removals_in ((block id, None) ∷ es)) (removals_in es) r more, summed size r es)
summed size r ((block id, Some draft) ∷ es) =
    let same : removals_in ((block id, Some draft) ∷ es) * r ≡ removals_in es * r = ap (λ (k : ℕ). k * r) (omega (arith, sum_by-cons gone (block id, Some draft) es)) in
    omega (arith, sum_by-cons (sealed_len size r) (block id, Some draft) es, same, once_more (files_in ((block id, Some draft) ∷ es)) (files_in es) size refl, summed size r es)

-- ---- the configuration's change, in a list in order

none_below : (n : At) (list : FileChanges) → below_all at_cmp config list ≡ true → (config_puts list ≡ 0) × (config_bytes list ≡ 0)
none_below n [] below = (refl, refl)
none_below n ((config, c) ∷ es) below = absurd (cc)
none_below n ((block id, c) ∷ es) below = none_below n es below

config_at : (list : FileChanges) → IsIncreasing list → (config_puts list ≡ puts_of (change_at config list)) × (config_bytes list ≡ bytes_put (change_at config list))
config_at [] rises = (refl, refl)
config_at ((config, None) ∷ es) rises =
    let none = none_below config es (and_parts (below_all at_cmp config es) (is_sorted at_cmp es) rises).0 in (omega (arith, none.0), omega (arith, none.1))
config_at ((config, Some bytes) ∷ es) rises =
    let none = none_below config es (and_parts (below_all at_cmp config es) (is_sorted at_cmp es) rises).0 in (omega (arith, none.0), omega (arith, none.1))
config_at ((block id, c) ∷ es) rises = config_at es (and_parts (below_all at_cmp (block id) es) (is_sorted at_cmp es) rises).1

-- ---- what is told

abbrev most : ℕ
most = 2 ^ 64 - 1

pub kinds_le : (list : FileChanges) (ps : List Pending) (removed puts : ℕ) → IsIncreasing list → list_of ps ≡ list → removed ≡ removals_in list → puts ≡ puts_of (change_at config list) → removed + puts ≤ length ps
kinds_le list ps removed puts rises is is_removed is_puts =
    omega (arith, counted list, (config_at list rises).0, ap length is, length-map ps pending_of, is_removed, is_puts)

-- the sum, as it was added up: the files, what the configuration puts, and the removals
pub sum_added : (size r : ℕ) (list : FileChanges) (ps : List Pending) (removed puts rest a b c d : ℕ) → IsIncreasing list → list_of ps ≡ list → removed ≡ removals_in list
    → puts ≡ puts_of (change_at config list) → rest ≡ bytes_put (change_at config list)
    → a ≡ min ((length ps - removed - puts) * size) most → b ≡ min (a + rest) most → c ≡ min (removed * r) most → d ≡ min (b + c) most → d ≡ sealed_sum size r list
sum_added size r list ps removed puts rest a b c d rises is is_removed is_puts is_rest is_a is_b is_c is_d =
    let at = config_at list rises in
    let len : length ps ≡ length list = sym (length-map ps pending_of) ∙ ap length is in
    let files : length ps - removed - puts ≡ files_in list = omega (arith, counted list, len, is_removed, is_puts, at.0) in
    let first : (length ps - removed - puts) * size ≡ files_in list * size = ap (λ (k : ℕ). k * size) files in
    let last : removed * r ≡ removals_in list * r = ap (λ (k : ℕ). k * r) is_removed in
    let whole : sum_by (sealed_len size r) list ≡ files_in list * size + rest + removed * r = omega (arith, summed size r list, last, at.1, is_rest) in
    let parts : d ≡ min (files_in list * size + rest + removed * r) most = omega (arith, first, is_a, is_b, is_c, is_d) in
    parts ∙ ap (λ (n : ℕ). min n most) (sym whole)
