-- The children of a node, one after the other.
use Rattle.std.proofs.Common.{◌≡◌, ℕ, ◌+◌, ◌<◌, ◌≤◌, List, [], ◌∷◌, ◌++◌, length, take, drop, get_or, sym, ◌∙◌, ap, arith, add-one}
use Rattle.std.proofs.lemmas.List.{drop-map, take-map, map_more, take_all, drop_all, length-map}
use Rattle.std.proofs.Math.Seq.{drop-cons}
use Rattle.block_id.specs.declared.id.BlockId.{BlockId}
use Rattle.data_nodes.specs.Layout.{ids_of}

-- the ids from a place on begin with the one that stands there
pub next_child : (children : List BlockId) (i : ℕ) (d : BlockId) → i < length children → drop i (ids_of children) ≡ (get_or children i d).0 ∷ drop (i + 1) (ids_of children)
next_child children i d lt =
    let cut : drop i children ≡ get_or children i d ∷ drop (i + 1) children = rw (add-one i) (drop-cons children i d lt) in
    drop-map (λ (x : BlockId). x.0) i children ∙ ap ids_of cut ∙ ap (λ xs. (get_or children i d).0 ∷ xs) (sym (drop-map (λ (x : BlockId). x.0) (i + 1) children))

pub no_child : (children : List BlockId) (i : ℕ) → length children ≤ i → drop i (ids_of children) ≡ []
no_child children i le = drop-map (λ (x : BlockId). x.0) i children ∙ ap ids_of (drop_all i children le)

pub last_child : (children : List BlockId) (i : ℕ) (d : BlockId) → i + 1 ≡ length children → drop i (ids_of children) ≡ (get_or children i d).0 ∷ []
last_child children i d last = next_child children i d (omega arith) ∙ ap (λ xs. (get_or children i d).0 ∷ xs) (no_child children (i + 1) (omega arith))

pub more_children : (children : List BlockId) (i : ℕ) (d : BlockId) → i < length children → take (i + 1) (ids_of children) ≡ take i (ids_of children) ++ (get_or children i d).0 ∷ []
more_children children i d lt =
    take-map (λ (x : BlockId). x.0) (i + 1) children ∙ map_more (λ (x : BlockId). x.0) children i d lt ∙ ap (λ xs. xs ++ (get_or children i d).0 ∷ []) (sym (take-map (λ (x : BlockId). x.0) i children))

pub all_children : (children : List BlockId) (i : ℕ) → length children ≤ i → take i (ids_of children) ≡ ids_of children
all_children children i le = take_all i (ids_of children) (omega (arith, length-map children (λ (x : BlockId). x.0)))
