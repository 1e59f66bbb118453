-- Going past the entries whose names are below one.
use Rattle.std.specs.Prelude.{◌≡◌, ℕ, true, cond, not, List, [], ◌∷◌, ◌++◌, length, All}
use Rattle.std.proofs.Common.{refl, sym, ◌∙◌, ap}
use Rattle.std.specs.Ordering.{is_lt, is_eq}
use Rattle.std.specs.FinMap.{find, put, is_sorted}
use Rattle.std.specs.FinMap.Entries.{below_all, by_order}
use Rattle.std.specs.declared.cmp.Ordering.TheVariants.{Less, Equal, Greater}
use Rattle.std.specs.declared.option.Option.TheVariants.{None, Some}
use Rattle.std.proofs.lemmas.Bool.{and_parts, and_from}
use Rattle.std.proofs.lemmas.Cmp.{nat_list_cmp_total}
use Rattle.std.proofs.lemmas.List.Elements.{All-head, All-tail}
use Rattle.block_id.proofs.Orders.{less_is}
use Rattle.fs_model.specs.Tree.{name_cmp}
use Rattle.fs_model.proofs.TreeLemmas.{name_exact}
use Rattle.dir_entries.specs.Layout.{EntryTarget, Listing, body_of, IsInOrder}
use Rattle.dir_entries.specs.Places.{without, IsPlace}

-- the name is above those of the entries
abbrev pub IsBelow : List ℕ → List ℕ × EntryTarget → Type 0
IsBelow name e = name_cmp name e.0 ≡ Greater

abbrev pub IsPast : List ℕ → Listing → Type 0
IsPast name listing = All (IsBelow name) listing

find_past : (name : List ℕ) (seen back : Listing) → IsPast name seen → find name_cmp name (seen ++ back) ≡ find name_cmp name back
find_past name [] back past = refl
find_past name (e ∷ seen) back past =
    let head : name_cmp name e.0 ≡ Greater = All-head (IsBelow name) e seen past in
    ap (λ o. cond (is_eq o) (Some e.1) (find name_cmp name (seen ++ back))) head ∙ find_past name seen back (All-tail (IsBelow name) e seen past)

put_past : (name : List ℕ) (target : EntryTarget) (seen back : Listing) → IsPast name seen → put name_cmp name target (seen ++ back) ≡ seen ++ put name_cmp name target back
put_past name target [] back past = refl
put_past name target (e ∷ seen) back past =
    let head : name_cmp name e.0 ≡ Greater = All-head (IsBelow name) e seen past in
    ap (λ o. by_order o ((name, target) ∷ e ∷ (seen ++ back)) ((e.0, target) ∷ (seen ++ back)) (e ∷ put name_cmp name target (seen ++ back))) head
    ∙ ap (λ xs. e ∷ xs) (put_past name target seen back (All-tail (IsBelow name) e seen past))

pub without_past : (name : List ℕ) (seen back : Listing) → IsPast name seen → without name (seen ++ back) ≡ seen ++ without name back
without_past name [] back past = refl
without_past name (e ∷ seen) back past =
    let head : name_cmp name e.0 ≡ Greater = All-head (IsBelow name) e seen past in
    ap (λ o. cond (not (is_eq o)) (e ∷ without name (seen ++ back)) (without name (seen ++ back))) head
    ∙ ap (λ xs. e ∷ xs) (without_past name seen back (All-tail (IsBelow name) e seen past))

below_on : (a b : List ℕ) (es : Listing) → name_cmp a b ≡ Less → below_all name_cmp b es ≡ true → below_all name_cmp a es ≡ true
below_on a b [] lt below = refl
below_on a b (e ∷ es) lt below =
    let parts = and_parts (is_lt (name_cmp b e.0)) (below_all name_cmp b es) below in
    and_from (is_lt (name_cmp a e.0)) (below_all name_cmp a es) (ap is_lt (nat_list_cmp_total.trans a b e.0 lt (less_is _ parts.0))) (below_on a b es lt parts.1)

find_below : (name : List ℕ) (es : Listing) → below_all name_cmp name es ≡ true → find name_cmp name es ≡ None
find_below name [] below = refl
find_below name (e ∷ es) below =
    let parts = and_parts (is_lt (name_cmp name e.0)) (below_all name_cmp name es) below in
    ap (λ o. cond (is_eq o) (Some e.1) (find name_cmp name es)) (less_is _ parts.0) ∙ find_below name es parts.1

pub without_below : (name : List ℕ) (es : Listing) → below_all name_cmp name es ≡ true → without name es ≡ es
without_below name [] below = refl
without_below name (e ∷ es) below =
    let parts = and_parts (is_lt (name_cmp name e.0)) (below_all name_cmp name es) below in
    ap (λ o. cond (not (is_eq o)) (e ∷ without name es) (without name es)) (less_is _ parts.0) ∙ ap (λ xs. e ∷ xs) (without_below name es parts.1)

-- ---- the place of a name

-- the name is below that of the next entry
pub place_before : (name : List ℕ) (seen : Listing) (e : List ℕ × EntryTarget) (es : Listing) → IsPast name seen → IsInOrder (e ∷ es) → name_cmp name e.0 ≡ Less
    → IsPlace name (seen ++ (e ∷ es)) (length (body_of seen)) None (body_of (e ∷ es))
place_before name seen e es past sorted lt =
    let parts = and_parts (below_all name_cmp e.0 es) (is_sorted name_cmp es) sorted in
    let below : below_all name_cmp name (e ∷ es) ≡ true = and_from (is_lt (name_cmp name e.0)) (below_all name_cmp name es) (ap is_lt lt) (below_on name e.0 es lt parts.0) in
    record {
      before = seen;
      after = e ∷ es;
      starts = refl;
      rest = refl;
      finds = find_past name seen (e ∷ es) past ∙ find_below name (e ∷ es) below;
      split = refl;
      puts = λ target. put_past name target seen (e ∷ es) past ∙ ap (λ o. seen ++ by_order o ((name, target) ∷ e ∷ es) ((e.0, target) ∷ es) (e ∷ put name_cmp name target es)) lt;
      drops = without_past name seen (e ∷ es) past ∙ ap (λ xs. seen ++ xs) (without_below name (e ∷ es) below);
    }

-- the name is that of the next entry
pub place_at : (name : List ℕ) (seen : Listing) (e : List ℕ × EntryTarget) (es : Listing) → IsPast name seen → IsInOrder (e ∷ es) → name_cmp name e.0 ≡ Equal
    → IsPlace name (seen ++ (e ∷ es)) (length (body_of seen)) (Some e.1) (body_of es)
place_at name seen e es past sorted eq =
    let parts = and_parts (below_all name_cmp e.0 es) (is_sorted name_cmp es) sorted in
    let same : name ≡ e.0 = name_exact name e.0 eq in
    let below : below_all name_cmp name es ≡ true = ap (λ n. below_all name_cmp n es) same ∙ parts.0 in
    record {
      before = seen;
      after = es;
      starts = refl;
      rest = refl;
      finds = find_past name seen (e ∷ es) past ∙ ap (λ o. cond (is_eq o) (Some e.1) (find name_cmp name es)) eq;
      split = ap (λ n. seen ++ ((n, e.1) ∷ es)) (sym same);
      puts = λ target. put_past name target seen (e ∷ es) past
          ∙ (ap (λ o. seen ++ by_order o ((name, target) ∷ e ∷ es) ((e.0, target) ∷ es) (e ∷ put name_cmp name target es)) eq
          ∙ ap (λ n. seen ++ ((n, target) ∷ es)) (sym same));
      drops = without_past name seen (e ∷ es) past
          ∙ (ap (λ o. seen ++ cond (not (is_eq o)) (e ∷ without name es) (without name es)) eq ∙ ap (λ xs. seen ++ xs) (without_below name es below));
    }

-- the name is above those of all entries
pub place_end : (name : List ℕ) (seen : Listing) → IsPast name seen → IsPlace name (seen ++ []) (length (body_of seen)) None []
place_end name seen past = record {
  before = seen;
  after = [];
  starts = refl;
  rest = refl;
  finds = find_past name seen [] past;
  split = refl;
  puts = λ target. put_past name target seen [] past;
  drops = without_past name seen [] past;
}
