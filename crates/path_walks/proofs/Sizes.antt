-- The entries of a directory's blob are the rows below its path.
use Rattle.std.proofs.Common.{◌≡◌, ℕ, ◌+◌, true, false, cond, List, [], ◌∷◌, map, length, refl, sym, ◌∙◌, ap, subst, arith}
use Rattle.std.specs.Prelude.{T, ◌&&◌, All}
use Rattle.std.specs.FinMap.{get, find, entries, entries_sorted, get-entries}
use Rattle.std.specs.FinMap.Entries.{is_sorted, below_all, same_entries}
use Rattle.std.specs.declared.cmp.Ordering.{Ordering}
use Rattle.std.specs.declared.option.Option.{Option}
use Rattle.std.specs.declared.option.Option.TheVariants.{None, Some}
use Rattle.std.specs.Ordering.{eq_by_cmp, is_lt}
use Rattle.std.specs.Option.{option_map}
use Rattle.std.proofs.lemmas.List.{length-append}
use Rattle.std.proofs.lemmas.List.Concat.{flat_map-cons}
use Rattle.std.proofs.lemmas.List.Elements.{All-head, All-tail}
use Rattle.dir_blob.specs.blob_api.BlobMap.{Id}
use Rattle.fs_model.specs.Tree.{Path, Row, Tree, name_cmp, children, entry_size, entries_size, directory_size}
use Rattle.fs_model.proofs.TreeLemmas.{get-children, name_total, name_exact}
use Rattle.dir_blob.specs.dir_entries.Layout.{EntryTarget, Listing, entry_text, body_of, IsEntry}
use Rattle.dir_blob.proofs.dir_entries_lemmas.Edits.{entry_length}
use Rattle.path_walks.specs.Shows.{target_for, entries_at}

abbrev pub with_values : {K X Y : Type 0} → (X → Y) → List (K × X) → List (K × Y)
with_values f es = map (λ e. (e.0, f e.1)) es

find-with : {K X Y : Type 0} (R : K → K → Ordering) (f : X → Y) (q : K) (es : List (K × X)) → find R q (with_values f es) ≡ option_map f (find R q es)
find-with R f q [] = refl
find-with R f q (e ∷ es) = elim (eq_by_cmp R q e.0) as (λ b. cond b (Some (f e.1)) (find R q (with_values f es)) ≡ option_map f (cond b (Some e.1) (find R q es))) [ true ↦ refl | false ↦ find-with R f q es ]

below-with : {K X Y : Type 0} (R : K → K → Ordering) (f : X → Y) (x : K) (es : List (K × X)) → below_all R x (with_values f es) ≡ below_all R x es
below-with R f x [] = refl
below-with R f x (e ∷ es) = ap (λ b. is_lt (R x e.0) && b) (below-with R f x es)

sorted-with : {K X Y : Type 0} (R : K → K → Ordering) (f : X → Y) (es : List (K × X)) → is_sorted R (with_values f es) ≡ is_sorted R es
sorted-with R f [] = refl
sorted-with R f (e ∷ es) = ap (λ b. b && is_sorted R (with_values f es)) (below-with R f e.0 es) ∙ ap (λ b. below_all R e.0 es && b) (sorted-with R f es)

attr_for : (id : Id) (o : Option Row) → option_map (λ (r : Row). r.attr) o ≡ option_map (λ (x : EntryTarget). x.attr) (target_for id o)
attr_for id None = refl
attr_for id (Some row) = refl

size-with : {X Y : Type 0} (f : X → Y) (es : List (List ℕ × X)) → entries_size (with_values f es) ≡ entries_size es
size-with f [] = refl
size-with f (e ∷ es) = ap (λ n. entry_size e.0 + n) (size-with f es)

module _ (t : Tree) (ids : Path → Id) (p : Path) (listing : Listing) (sorted : is_sorted name_cmp listing ≡ true) (found : (n : List ℕ) → find name_cmp n listing ≡ entries_at t ids p n) where
  pub attrs_shown : with_values (λ (r : Row). r.attr) (entries (children t p)) ≡ with_values (λ (x : EntryTarget). x.attr) listing
  attrs_shown = same_entries name_cmp name_total name_exact _ _
      (subst T (sym (sorted-with name_cmp (λ (r : Row). r.attr) (entries (children t p)))) (entries_sorted (children t p)))
      (subst T (sym (sorted-with name_cmp (λ (x : EntryTarget). x.attr) listing ∙ sorted)) tt)
      (λ q. find-with name_cmp (λ (r : Row). r.attr) q (entries (children t p))
      ∙ (ap (option_map (λ (r : Row). r.attr)) (sym (get-entries (children t p) q) ∙ get-children t p q)
      ∙ (attr_for (ids (q ∷ p)) (get t (q ∷ p))
      ∙ (ap (option_map (λ (x : EntryTarget). x.attr)) (sym (found q))
      ∙ sym (find-with name_cmp (λ (x : EntryTarget). x.attr) q listing)))))

  pub sizes_shown : entries_size listing ≡ directory_size t p
  sizes_shown = sym (size-with (λ (x : EntryTarget). x.attr) listing) ∙ (ap entries_size (sym attrs_shown) ∙ size-with (λ (r : Row). r.attr) (entries (children t p)))

pub body_size : (listing : Listing) → All IsEntry listing → length (body_of listing) ≡ entries_size listing
body_size [] each = refl
body_size (e ∷ es) each =
    let own = entry_length e (All-head IsEntry e es each) in
    let rest = body_size es (All-tail IsEntry e es each) in
    ap length (flat_map-cons entry_text e es) ∙ (length-append (entry_text e) (body_of es) ∙ omega (arith, own, rest))

pub found_entry : (P : EntryTarget → Type 0) (n : List ℕ) (listing : Listing) (target : EntryTarget) → All (λ e. P e.1) listing → find name_cmp n listing ≡ Some target → P target
found_entry P n [] target each e = absurd cc
found_entry P n (x ∷ xs) target each e = elim (eq_by_cmp name_cmp n x.0) as (λ b. cond b (Some x.1) (find name_cmp n xs) ≡ Some target → P target) [
  | true ↦ λ h. let same : x.1 ≡ target = cc in subst P same (All-head (λ e. P e.1) x xs each)
  | false ↦ λ h. found_entry P n xs target (All-tail (λ e. P e.1) x xs each) h
] e
