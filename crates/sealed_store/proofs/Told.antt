-- Lists of drafts, and the lists that they are told as.
use Rattle.std.proofs.Common.{◌≡◌, ◌⊎◌, inl, inr, ℕ, ◌+◌, ◌-◌, ◌^◌, min, Bool, true, false, cond, List, [], ◌∷◌, map, length, refl, sym, ◌∙◌, ap, subst}
use Rattle.std.specs.Prelude.{◌&&◌, sum_by, IfSome, OnOk, OnErr, Result, Ok, Err}
use Rattle.std.specs.Option.{option_map}
use Rattle.std.specs.Ordering.{is_eq, is_lt}
use Rattle.std.specs.FinMap.Entries.{by_order, below_all, is_sorted}
use Rattle.std.specs.declared.option.Option.{Option}
use Rattle.std.specs.declared.option.Option.TheVariants.{None, Some}
use Rattle.std.specs.declared.cmp.Ordering.{Ordering}
use Rattle.std.specs.declared.cmp.Ordering.TheVariants.{Less, Equal, Greater}
use Rattle.std.proofs.lemmas.List.{length-map}
use Rattle.std.proofs.lemmas.List.Sums.{sum_by-cons}
use Rattle.outside.specs.Trace.{At, config, block}
use Rattle.outside.specs.Names.{at_cmp}
use Rattle.outside.specs.NameLaws.{at_exact}
use Rattle.outside.specs.Changes.{FileChanges, IsIncreasing, change_at, set_change, set_changes}
use Rattle.redo_vault.specs.Redo.{Redo, bytes_len, buffered_len, len_with, weight_len}
use Rattle.sealed_store.specs.Drafts.{Seal, sealed_as, sealed_change, sealed_entry, told_list, IsDraft, MayBeDraft, AreDrafts}
use Rattle.sealed_store.specs.Sums.{sealed_len, sealed_sum}

module _ (seal : Seal) (size : ℕ) where
  -- ---- names stay

  below_told : (n : At) (list : FileChanges) → below_all at_cmp n (map (sealed_entry seal size) list) ≡ below_all at_cmp n list
  below_told n [] = refl
  below_told n (e ∷ es) = ap (λ b. is_lt (at_cmp n e.0) && b) (below_told n es)

  sorted_told : (list : FileChanges) → is_sorted at_cmp (map (sealed_entry seal size) list) ≡ is_sorted at_cmp list
  sorted_told [] = refl
  sorted_told (e ∷ es) = λ i. below_told e.0 es i && sorted_told es i

  pub increasing_told : (list : FileChanges) → IsIncreasing list → IsIncreasing (map (sealed_entry seal size) list)
  increasing_told list h = sorted_told list ∙ h

  at_here : (n m : At) (c : Option (List ℕ)) (o : Ordering) (later here : Option (Option (List ℕ))) → at_cmp n m ≡ o → later ≡ option_map (sealed_change seal size n) here
      → cond (is_eq o) (Some (sealed_change seal size m c)) later ≡ option_map (sealed_change seal size n) (cond (is_eq o) (Some c) here)
  at_here n m c Less later here p so = so
  at_here n m c Equal later here p so = ap (λ k. Some (sealed_change seal size k c)) (sym (at_exact n m p))
  at_here n m c Greater later here p so = so

  -- what the told list says of a name
  pub at_told : (n : At) (list : FileChanges) → change_at n (map (sealed_entry seal size) list) ≡ option_map (sealed_change seal size n) (change_at n list)
  at_told n [] = refl
  at_told n (e ∷ es) = at_here n e.0 e.1 (at_cmp n e.0) (change_at n (map (sealed_entry seal size) es)) (change_at n es) refl (at_told n es)

  set_here : (n : At) (c : Option (List ℕ)) (e : At × Option (List ℕ)) (es later : FileChanges) (o : Ordering) → at_cmp n e.0 ≡ o
      → later ≡ map (sealed_entry seal size) (set_change n c es)
      → by_order o ((n, sealed_change seal size n c) ∷ sealed_entry seal size e ∷ map (sealed_entry seal size) es) ((e.0, sealed_change seal size n c) ∷ map (sealed_entry seal size) es) (sealed_entry seal size e ∷ later)
      ≡ map (sealed_entry seal size) (by_order o ((n, c) ∷ e ∷ es) ((e.0, c) ∷ es) (e ∷ set_change n c es))
  set_here n c e es later Less p so = refl
  set_here n c e es later Equal p so = ap (λ k. (e.0, sealed_change seal size k c) ∷ map (sealed_entry seal size) es) (at_exact n e.0 p)
  set_here n c e es later Greater p so = ap (λ xs. sealed_entry seal size e ∷ xs) so

  pub set_told : (n : At) (c : Option (List ℕ)) (list : FileChanges)
      → set_change n (sealed_change seal size n c) (map (sealed_entry seal size) list) ≡ map (sealed_entry seal size) (set_change n c list)
  set_told n c [] = refl
  set_told n c (e ∷ es) = set_here n c e es (set_change n (sealed_change seal size n c) (map (sealed_entry seal size) es)) (at_cmp n e.0) refl (set_told n c es)

  -- drafts that are set in a list of drafts
  pub sets_told : (changes list : FileChanges) → set_changes (map (sealed_entry seal size) changes) (map (sealed_entry seal size) list) ≡ map (sealed_entry seal size) (set_changes changes list)
  sets_told [] list = refl
  sets_told (e ∷ es) list = ap (set_changes (map (sealed_entry seal size) es)) (set_told e.0 e.1 list) ∙ sets_told es (set_change e.0 e.1 list)

  -- ---- what the sealed files count

  module _ (sized : (id draft : List ℕ) → IsDraft size draft → length (sealed_as seal size id draft) ≡ size) where
    len_told : (r : ℕ) (n : At) (c : Option (List ℕ)) → MayBeDraft size n c → len_with r (sealed_change seal size n c) ≡ sealed_len size r (n, c)
    len_told r config c may = refl
    len_told r (block id) None may = refl
    len_told r (block id) (Some draft) may = sized id draft may

    bytes_told : (n : At) (c : Option (List ℕ)) → MayBeDraft size n c → bytes_len (sealed_change seal size n c) ≡ sealed_len size 0 (n, c)
    bytes_told config None may = refl
    bytes_told config (Some bytes) may = refl
    bytes_told (block id) None may = refl
    bytes_told (block id) (Some draft) may = sized id draft may

    summed_told : (f : Option (List ℕ) → ℕ) (r : ℕ) → ((n : At) (c : Option (List ℕ)) → MayBeDraft size n c → f (sealed_change seal size n c) ≡ sealed_len size r (n, c)) → (list : FileChanges) → AreDrafts size list
        → sum_by (sealed_len size r) list ≡ sum_by (λ (e : At × Option (List ℕ)). f e.1) (map (sealed_entry seal size) list)
    summed_told f r same [] may = refl
    summed_told f r same (e ∷ es) may =
        sum_by-cons (sealed_len size r) e es
        ∙ (λ i. sym (same e.0 e.1 may.0) i + summed_told f r same es may.1 i)
        ∙ sym (sum_by-cons (λ (e : At × Option (List ℕ)). f e.1) (sealed_entry seal size e) (map (sealed_entry seal size) es))

    pub buffered_told : (list : FileChanges) → AreDrafts size list → sealed_sum size 0 list ≡ buffered_len (map (sealed_entry seal size) list)
    buffered_told list may = ap (λ n. min n (2 ^ 64 - 1)) (summed_told bytes_len 0 bytes_told list may)

    pub weight_told : (list : FileChanges) → AreDrafts size list → sealed_sum size 64 list ≡ weight_len (map (sealed_entry seal size) list)
    weight_told list may = ap (λ n. min n (2 ^ 64 - 1)) (summed_told (len_with 64) 64 (len_told 64) list may)

-- ---- drafts that are set in a list stay drafts

same_draft : (size : ℕ) (n m : At) (c : Option (List ℕ)) → at_cmp n m ≡ Equal → MayBeDraft size n c → MayBeDraft size m c
same_draft size n m c p may = subst (λ k. MayBeDraft size k c) (at_exact n m p) may

drafts_here : (size : ℕ) (n : At) (c : Option (List ℕ)) (e : At × Option (List ℕ)) (es : FileChanges) (o : Ordering) → at_cmp n e.0 ≡ o → MayBeDraft size n c → AreDrafts size (e ∷ es) → AreDrafts size (set_change n c es)
    → AreDrafts size (by_order o ((n, c) ∷ e ∷ es) ((e.0, c) ∷ es) (e ∷ set_change n c es))
drafts_here size n c e es Less p may all later = (may, all)
drafts_here size n c e es Equal p may all later = (same_draft size n e.0 c p may, all.1)
drafts_here size n c e es Greater p may all later = (all.0, later)

drafts_set : (size : ℕ) (n : At) (c : Option (List ℕ)) (list : FileChanges) → MayBeDraft size n c → AreDrafts size list → AreDrafts size (set_change n c list)
drafts_set size n c [] may all = (may, tt)
drafts_set size n c (e ∷ es) may all = drafts_here size n c e es (at_cmp n e.0) refl may all (drafts_set size n c es may all.1)

pub drafts_sets : (size : ℕ) (changes list : FileChanges) → AreDrafts size changes → AreDrafts size list → AreDrafts size (set_changes changes list)
drafts_sets size [] list may all = all
drafts_sets size (e ∷ es) list may all = drafts_sets size es (set_change e.0 e.1 list) may.1 (drafts_set size e.0 e.1 list may.0 all)

-- what a list of drafts says of a block
pub draft_at : (size : ℕ) (n : At) (list : FileChanges) (c : Option (List ℕ)) → AreDrafts size list → change_at n list ≡ Some c → MayBeDraft size n c
draft_at size n [] c all is = absurd (cc)
draft_at size n (e ∷ es) c all is =
    elim (at_cmp n e.0) as (λ o. at_cmp n e.0 ≡ o → cond (is_eq o) (Some e.1) (change_at n es) ≡ Some c → MayBeDraft size n c) [
      | Less ↦ λ p q. draft_at size n es c all.1 q
      | Equal ↦ λ p q.
          let here : e.1 ≡ c = cc in
          subst (λ d. MayBeDraft size n d) here (subst (λ k. MayBeDraft size k e.1) (sym (at_exact n e.0 p)) all.0)
      | Greater ↦ λ p q. draft_at size n es c all.1 q
    ] refl is

-- where drafts don't wait for a name, the list says of it what it is told to say
pub undrafted : (seal : Seal) (size : ℕ) (drafts : Bool) (n : At) (list : FileChanges) → (drafts ≡ true → change_at n list ≡ None) → change_at n (told_list drafts seal size list) ≡ change_at n list
undrafted seal size true n list none = at_told seal size n list ∙ ap (option_map (sealed_change seal size n)) (none refl) ∙ sym (none refl)
undrafted seal size false n list none = refl

-- what a list is told as, where drafts wait and where none do
pub told_sealed : (seal : Seal) (size : ℕ) (drafts : Bool) (list : FileChanges) → drafts ≡ true → map (sealed_entry seal size) list ≡ told_list drafts seal size list
told_sealed seal size true list is = refl
told_sealed seal size false list is = absurd (cc)

pub told_plain : (seal : Seal) (size : ℕ) (drafts : Bool) (list : FileChanges) → drafts ≡ false → list ≡ told_list drafts seal size list
told_plain seal size true list is = absurd (cc)
told_plain seal size false list is = refl

pub told_long : (seal : Seal) (size : ℕ) (drafts : Bool) (list : FileChanges) → length (told_list drafts seal size list) ≡ length list
told_long seal size true list = length-map list (sealed_entry seal size)
told_long seal size false list = refl

pub if_same : {T : Type 0} (o p : Option T) (P Q : Type 0) → o ≡ p → (P → Q) → IfSome o (λ _. P) → IfSome p (λ _. Q)
if_same None p P Q e f h = subst (λ x. IfSome x (λ _. Q)) e tt
if_same (Some y) p P Q e f h = subst (λ x. IfSome x (λ _. Q)) e (f h)

pub is_draft : (size : ℕ) (id : List ℕ) (c : Option (List ℕ)) → MayBeDraft size (block id) c → IfSome c (λ draft. IsDraft size draft)
is_draft size id None may = tt
is_draft size id (Some draft) may = may

-- what the told list says where a draft waits
pub told_draft : (seal : Seal) (size : ℕ) (drafts : Bool) (n : At) (list : FileChanges) (c : Option (List ℕ)) → drafts ≡ true → change_at n list ≡ Some c
    → change_at n (told_list drafts seal size list) ≡ Some (sealed_change seal size n c)
told_draft seal size true n list c d is = at_told seal size n list ∙ ap (option_map (sealed_change seal size n)) is
told_draft seal size false n list c d is = absurd (cc)

-- ---- changes that are set, and the answer

-- drafts may be set
pub ready_told : (seal : Seal) (size : ℕ) (drafts : Bool) (list : FileChanges) → (drafts ≡ true) ⊎ (list ≡ []) → told_list drafts seal size list ≡ map (sealed_entry seal size) list
ready_told seal size true list ready = refl
ready_told seal size false list (inl bad) = absurd (cc)
ready_told seal size false list (inr none) = none ∙ ap (map (sealed_entry seal size)) (sym none)

pub ready_drafts : (size : ℕ) (drafts : Bool) (list : FileChanges) → (drafts ≡ true) ⊎ (list ≡ []) → (drafts ≡ true → AreDrafts size list) → AreDrafts size list
ready_drafts size drafts list (inl is) may = may is
ready_drafts size drafts list (inr none) may = subst (AreDrafts size) (sym none) tt

pub drafts_after : {E V : Type 0} (r : Result (Unit {0}) E) (size : ℕ) (changes : FileChanges) (old new : Redo V) → OnOk r (new.list ≡ set_changes changes old.list) → OnErr r (new ≡ old)
    → AreDrafts size changes → AreDrafts size old.list → AreDrafts size new.list
drafts_after (Ok x) size changes old new ok err may all = subst (AreDrafts size) (sym ok) (drafts_sets size changes old.list may all)
drafts_after (Err e) size changes old new ok err may all = subst (λ (v : Redo _). AreDrafts size v.list) (sym err) all

pub told_after : {E : Type 0} (r : Result (Unit {0}) E) (seal : Seal) (size : ℕ) (changes old new told : FileChanges) → OnOk r (new ≡ set_changes changes old) → told ≡ map (sealed_entry seal size) old
    → OnOk r (map (sealed_entry seal size) new ≡ set_changes (map (sealed_entry seal size) changes) told)
told_after (Ok x) seal size changes old new told ok is =
    ap (map (sealed_entry seal size)) ok ∙ sym (sets_told seal size changes old) ∙ ap (set_changes (map (sealed_entry seal size) changes)) (sym is)
told_after (Err e) seal size changes old new told ok is = tt

config_told : (seal : Seal) (size : ℕ) (drafts : Bool) (bytes : Option (List ℕ)) (list : FileChanges)
    → told_list drafts seal size (set_change config bytes list) ≡ set_change config bytes (told_list drafts seal size list)
config_told seal size true bytes list = sym (set_told seal size config bytes list)
config_told seal size false bytes list = refl

pub config_after : {E : Type 0} (r : Result (Unit {0}) E) (seal : Seal) (size : ℕ) (drafts : Bool) (changes old new told : FileChanges) (bytes : Option (List ℕ)) → OnOk r (new ≡ set_changes changes old)
    → changes ≡ (config, bytes) ∷ [] → told_list drafts seal size old ≡ told → OnOk r (told_list drafts seal size new ≡ set_change config bytes told)
config_after (Ok x) seal size drafts changes old new told bytes ok one is =
    ap (told_list drafts seal size) (ok ∙ ap (λ cs. set_changes cs old) one) ∙ config_told seal size drafts bytes old ∙ ap (set_change config bytes) is
config_after (Err e) seal size drafts changes old new told bytes ok one is = tt

pub config_drafts : (size : ℕ) (changes : FileChanges) (bytes : Option (List ℕ)) → changes ≡ (config, bytes) ∷ [] → AreDrafts size changes
config_drafts size changes bytes one = subst (AreDrafts size) (sym one) (tt, tt)
