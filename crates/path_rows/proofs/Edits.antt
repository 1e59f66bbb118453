-- Entries of a directory after one comes or goes, and the limits of what a path's blob holds.
use Rattle.std.proofs.Common.{◌≡◌, ℕ, ◌+◌, true, false, cond, List, [], ◌∷◌, refl, sym, ◌∙◌, ap, subst, arith, inl, inr}
use Rattle.std.specs.Prelude.{not, T}
use Rattle.std.specs.FinMap.{find, get, put, remove, is_sorted}
use Rattle.std.specs.FinMap.Entries.{find-where_key, by_order, is_sorted-put, is_sorted-where_key}
use Rattle.std.specs.Ordering.{eq_by_cmp, is_eq}
use Rattle.std.specs.declared.cmp.Ordering.TheVariants.{Less, Equal, Greater}
use Rattle.std.specs.declared.option.Option.TheVariants.{None, Some}
use Rattle.std.specs.List.{All}
use Rattle.std.proofs.lemmas.List.Elements.{All-head, All-tail, All-cons}
use Rattle.block_id.proofs.Conditions.{true_of}
use Rattle.fs_model.specs.Names.{IsName}
use Rattle.path_walks.specs.blob_api.BlobMap.{Id}
use Rattle.fs_model.specs.Tree.{Path, Tree, name_cmp, entry_size, entries_size}
use Rattle.fs_model.proofs.TreeLemmas.{same_name, name_total, name_exact, name_same, name_apart, name_split, remove_here, remove_apart}
use Rattle.path_walks.specs.dir_entries.Layout.{EntryTarget, Listing, body_of, IsEntry, IsListing}
use Rattle.path_walks.specs.dir_entries.Places.{without}
use Rattle.path_walks.specs.Nodes.{Look, Lists}
use Rattle.path_walks.specs.Shows.{entries_at, target_for}

pub entries_without : (listing : Listing) (n k : List ℕ) → find name_cmp k (without n listing) ≡ cond (same_name k n) None (find name_cmp k listing)
entries_without listing n k =
    find-where_key name_cmp (λ x. not (eq_by_cmp name_cmp n x)) k (λ x tie. ap (λ z. not (eq_by_cmp name_cmp n z)) (sym (name_exact k x tie))) listing
    ∙ elim (name_split k n) as (λ _. cond (not (eq_by_cmp name_cmp n k)) (find name_cmp k listing) None ≡ cond (same_name k n) None (find name_cmp k listing)) [
      | inl e ↦
          ap (λ b. cond (not b) (find name_cmp k listing) None) (ap (same_name n) e ∙ name_same n)
          ∙ sym (ap (λ b. cond b None (find name_cmp k listing)) (ap (λ z. same_name z n) e ∙ name_same n))
      | inr d ↦
          ap (λ b. cond (not b) (find name_cmp k listing) None) (name_apart n k (λ e. d (sym e)))
          ∙ sym (ap (λ b. cond b None (find name_cmp k listing)) (name_apart k n d))
    ]

without_each : (n : List ℕ) (listing : Listing) → All IsEntry listing → All IsEntry (without n listing)
without_each n [] all = all
without_each n (e ∷ es) all = elim (eq_by_cmp name_cmp n e.0) as (λ b. All IsEntry (cond (not b) (e ∷ without n es) (without n es))) [
  | true ↦ without_each n es (All-tail IsEntry e es all)
  | false ↦ All-cons IsEntry e (without n es) (All-head IsEntry e es all) (without_each n es (All-tail IsEntry e es all))
]

pub without_is : (n : List ℕ) (listing : Listing) → IsListing listing → IsListing (without n listing)
without_is n listing is = record {
  entries = without_each n listing is.entries;
  order = true_of (is_sorted name_cmp (without n listing)) (is_sorted-where_key name_cmp (λ x. not (eq_by_cmp name_cmp n x)) listing (subst T (sym is.order) tt));
}

pub lists_without : (look : Look) (listing : Listing) (n : List ℕ) → ((k : List ℕ) → find name_cmp k listing ≡ look k) → IsListing (without n listing) → Lists (λ k. cond (same_name k n) None (look k)) (body_of (without n listing))
lists_without look listing n found is = record { listing = without n listing; is = record { entries = is; text = refl }; entries = λ k. entries_without listing n k ∙ ap (cond (same_name k n) None) (found k) }

pub sorted_put : (n : List ℕ) (target : EntryTarget) (listing : Listing) → is_sorted name_cmp listing ≡ true → is_sorted name_cmp (put name_cmp n target listing) ≡ true
sorted_put n target listing sorted = true_of (is_sorted name_cmp (put name_cmp n target listing)) (is_sorted-put name_cmp name_total n target listing (subst T (sym sorted) tt))

-- the name of an entry that was put is one
pub put_named : (n : List ℕ) (target : EntryTarget) (listing : Listing) → All IsEntry (put name_cmp n target listing) → IsName n
put_named n target [] all = (All-head IsEntry (n, target) [] all).name
put_named n target (e ∷ es) all = elim (name_cmp n e.0) as (λ o. name_cmp n e.0 ≡ o → All IsEntry (by_order o ((n, target) ∷ e ∷ es) ((e.0, target) ∷ es) (e ∷ put name_cmp n target es)) → IsName n) [
  | Less ↦ λ is h. (All-head IsEntry (n, target) (e ∷ es) h).name
  | Equal ↦ λ is h. let same : e.0 ≡ n = sym (name_exact n e.0 is) in subst IsName same (All-head IsEntry (e.0, target) es h).name
  | Greater ↦ λ is h. put_named n target es (All-tail IsEntry e (put name_cmp n target es) h)
] refl all

-- a new entry takes its size
pub size_put : (n : List ℕ) (target : EntryTarget) (listing : Listing) → find name_cmp n listing ≡ None → entries_size (put name_cmp n target listing) ≡ entries_size listing + entry_size n
size_put n target [] none = omega arith
size_put n target (e ∷ es) none = elim (name_cmp n e.0) as (λ o. cond (is_eq o) (Some e.1) (find name_cmp n es) ≡ None → entries_size (by_order o ((n, target) ∷ e ∷ es) ((e.0, target) ∷ es) (e ∷ put name_cmp n target es)) ≡ entries_size (e ∷ es) + entry_size n) [
  | Less ↦ λ h. omega arith
  | Equal ↦ λ h. let bad : Some e.1 ≡ None = h in cc
  | Greater ↦ λ h. let rest = size_put n target es h in omega (arith, rest)
] none

pub tails : (k n : List ℕ) (p q : Path) → k ∷ p ≡ n ∷ q → p ≡ q
tails k n p q e = cc

heads : (k n : List ℕ) (p q : Path) → k ∷ p ≡ n ∷ q → k ≡ n
heads k n p q e = cc

-- the entries of a directory whose row went
pub look_gone : (t : Tree) (ids : Path → Id) (n : List ℕ) (p : Path) (k : List ℕ) → cond (same_name k n) None (entries_at t ids p k) ≡ entries_at (remove t (n ∷ p)) ids p k
look_gone t ids n p k = elim (name_split k n) as (λ _. cond (same_name k n) None (entries_at t ids p k) ≡ entries_at (remove t (n ∷ p)) ids p k) [
  | inl e ↦
      ap (λ b. cond b None (entries_at t ids p k)) (ap (λ z. same_name z n) e ∙ name_same n)
      ∙ sym (ap (target_for (ids (k ∷ p))) (ap (λ z. get (remove t (n ∷ p)) (z ∷ p)) e ∙ remove_here t (n ∷ p)))
  | inr d ↦
      ap (λ b. cond b None (entries_at t ids p k)) (name_apart k n d)
      ∙ sym (ap (target_for (ids (k ∷ p))) (remove_apart t (n ∷ p) (k ∷ p) (λ e. d (heads k n p p e))))
]
