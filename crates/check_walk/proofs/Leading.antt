-- The ways that lead to the nodes of a tree.
use Rattle.std.proofs.Common.{◌≡◌, ℕ, zero, suc, ◌<◌, Bool, true, List, [], ◌∷◌, take, refl, subst, inl, inr, arith}
use Rattle.std.specs.Prelude.{Some, nat_lt, length, ◌||◌}
use Rattle.std.specs.List.{slice_get}
use Rattle.std.proofs.lemmas.Bool.{or_cases}
use Rattle.data_tree.specs.data_nodes.Layout.{IsNode}
use Rattle.data_tree.specs.Trees.{IsTree, Forest, span}
use Rattle.data_tree.proofs.Ids.{in_one}
use Rattle.data_tree.specs.store_api.Content.{Id, Content, same_id}
use Rattle.data_tree.specs.store_api.Holdings.{has_id}
use Rattle.data_tree.proofs.store_api_lemmas.Rising.{same_id_is}
use Rattle.check_walk.specs.Needs.{NodeNeed, under, fills, Leads, LeadsAmong}

-- ---- trees side by side

-- one of them has the id
pub record Child (T : Id → List ℕ → List Id → Type 0) (children : List Id) (x : Id) : Type 0 where
  pub number : ℕ
  pub root : Id
  pub at : slice_get children number ≡ Some root
  pub bytes : List ℕ
  pub own : List Id
  pub tree : T root bytes own
  pub has : has_id own x ≡ true

pub child_of : (T : Id → List ℕ → List Id → Type 0) (size : ℕ) (children : List Id) (w : List ℕ) (ids : List Id) → Forest T size children w ids → (x : Id) → has_id ids x ≡ true → Child T children x
child_of T size [] w ids f x h = let none : has_id [] x ≡ true = subst (λ xs. has_id xs x ≡ true) f.1 h in absurd (cc)
child_of T size (child ∷ children) w ids (some, (own, (rest, (first, (others, all))))) x h =
    elim (in_one own rest x (subst (λ xs. has_id xs x ≡ true) all h)) [
      | inl here ↦ record { number = zero; root = child; at = refl; bytes = take size w; own = own; tree = first; has = here }
      | inr later ↦
          let c = child_of T size children _ rest others x later.1 in
          record { number = suc c.number; root = c.root; at = c.at; bytes = c.bytes; own = c.own; tree = c.tree; has = c.has }
    ]

in_take : {X : Type 0} (i : ℕ) (xs : List X) (j : ℕ) (x : X) → slice_get (take i xs) j ≡ Some x → (j < i) × (slice_get xs j ≡ Some x)
in_take zero xs j x e = absurd (cc)
in_take (suc i) [] j x e = absurd (cc)
in_take (suc i) (y ∷ xs) zero x e = (omega arith, e)
in_take (suc i) (y ∷ xs) (suc j) x e = let r = in_take i xs j x e in (omega (arith, r.0), r.1)

-- ---- each node has its way

pub leads_to : (payload : ℕ) (C : Content) (depth : ℕ) (id : Id) (w : List ℕ) (ids : List Id) → IsTree payload C depth id w ids → (need : NodeNeed) (x : Id) → has_id ids x ≡ true → (way : List ℕ) × ((wanted : NodeNeed) × Leads C id need way x wanted)
leads_to payload C zero id w ids n need x h =
    elim (or_cases (same_id x id) (has_id n.below x) (subst (λ xs. has_id xs x ≡ true) n.all h)) [
      | inl same ↦ ([], (need, (same_id_is x id same, refl)))
      | inr later ↦ let none : has_id [] x ≡ true = subst (λ xs. has_id xs x ≡ true) n.holds.1 later in absurd (cc)
    ]
leads_to payload C (suc depth) id w ids n need x h =
    elim (or_cases (same_id x id) (has_id n.below x) (subst (λ xs. has_id xs x ≡ true) n.all h)) [
      | inl same ↦ ([], (need, (same_id_is x id same, refl)))
      | inr later ↦
          let children = n.holds.0 in
          let c = child_of (IsTree payload C depth) (span payload depth) children w n.below n.holds.1.1 x later in
          let rest = leads_to payload C depth c.root c.bytes c.own c.tree (under depth (nat_lt (suc c.number) (length children) || fills need)) x c.has in
          (c.number ∷ rest.0, (rest.1.0, (n.text, (depth, (children, (n.there, (subst (λ node. IsNode n.text node) n.holds.1.0 n.is, (c.root, (c.at, rest.1.1)))))))))
    ]

-- a node of one of the first trees that stand side by side
pub record Before (C : Content) (depth : ℕ) (full : Bool) (children : List Id) (i : ℕ) (x : Id) : Type 0 where
  pub number : ℕ
  pub lower : number < i
  pub way : List ℕ
  pub wanted : NodeNeed
  pub leads : LeadsAmong C depth full children (number ∷ way) x wanted

pub leads_before : (payload : ℕ) (C : Content) (depth size : ℕ) (full : Bool) (children : List Id) (i : ℕ) (w : List ℕ) (ids : List Id) → Forest (IsTree payload C depth) size (take i children) w ids → (x : Id) → has_id ids x ≡ true → Before C depth full children i x
leads_before payload C depth size full children i w ids f x h =
    let c = child_of (IsTree payload C depth) size (take i children) w ids f x h in
    let at = in_take i children c.number c.root c.at in
    let rest = leads_to payload C depth c.root c.bytes c.own c.tree (under depth (nat_lt (suc c.number) (length children) || full)) x c.has in
    record { number = c.number; lower = at.0; way = rest.0; wanted = rest.1.0; leads = (c.root, (at.1, rest.1.1)) }
