-- A tree that was written anew under the id of its root.
use Rattle.std.proofs.Common.{◌≡◌, ◌⊎◌, ℕ, Bool, true, false, cond, List, [], ◌∷◌, length, refl, sym, ◌∙◌, ap, subst, inl, inr}
use Rattle.std.specs.Prelude.{Some, None, is_some, ◌||◌}
use Rattle.std.proofs.lemmas.Bool.{or_cases, or_parts, false_from_ne_true}
use Rattle.block_id.proofs.Options.{none_is}
use Rattle.data_tree.specs.data_nodes.Layout.{NodeText, IsNode}
use Rattle.data_tree.specs.store_api.Content.{Id, same_id}
use Rattle.data_tree.specs.store_api.Holdings.{Holdings, Stays, has_id}
use Rattle.data_tree.proofs.store_api_lemmas.Rising.{same_id_is}
use Rattle.data_tree.specs.Trees.{IsTree, Holds, IsDepth, NoDoubles, Replaces, depth_in}
use Rattle.data_tree.specs.Needs.{Sets, HasBelow, KeepsShape, Built, NewTree}
use Rattle.data_tree.specs.Roots.{IsRoot, IsNewRoot}
use Rattle.data_tree.proofs.Anew.{came_none, then_drops}
use Rattle.data_tree.proofs.Loads.{holds-depth}
use Rattle.data_tree.proofs.Forests.{moved}
use Rattle.data_tree.proofs.Ids.{same_self, other}
use Rattle.data_tree.proofs.Changes.{holds_frame, tree_frame}
use Rattle.data_tree.proofs.Making.{holds_there}
use Rattle.data_reads.specs.Rewriting.{HasRootNode}

pub root_made : {S : Type 0} {H : Holdings S} {a b c : S} {depth : ℕ} {node : NodeText} {w : List ℕ} (root : Id) (text : List ℕ) → is_some (H.content a root) ≡ true → IsDepth (H.payload a) depth (length w) → Built H a b depth node w
    → IsNode text node → length text ≡ H.payload b → Sets (H.content b) (H.content c) root (Some text) → KeepsShape H a b → KeepsShape H b c → IsNewRoot H a c root (root ∷ []) w
root_made {H = H} {a = a} {b = b} {c = c} {depth = depth} {node = node} {w = w} root text there deep built is sized sets one two =
    let apart_from : has_id built.ids root ≡ false = came_none (H.content a) (H.content b) built.ids built.came root there in
    let same = other (H.content b) (H.content c) root (Some text) built.ids sets apart_from in
    record {
      ids = root ∷ built.ids;
      depth = depth;
      deep = subst (λ p. IsDepth p depth (length w)) (sym (two.payload ∙ one.payload)) deep;
      tree = record {
        text = text;
        node = node;
        below = built.ids;
        there = sets root ∙ ap (λ b'. cond b' (Some text) (H.content b root)) (same_self root);
        sized = sized ∙ sym two.payload;
        is = is;
        holds = subst (λ p. Holds p (H.content c) depth node w built.ids) (sym two.payload) (holds_frame (H.payload b) (H.content b) (H.content c) depth node w built.ids same built.holds);
        all = refl;
      };
      alone = (apart_from, built.alone);
      replaces = record {
        kept = λ q o n.
            let new = or_parts (same_id q root) (has_id built.ids q) n in
            sets q ∙ ap (λ b'. cond b' (Some text) (H.content b q)) new.0 ∙ built.came.kept q refl new.1;
        gone = λ q o n. absurd (both q o n);
        came = λ q h. came_in q (or_cases (same_id q root) (has_id built.ids q) h);
      };
    }
  where
    both : (q : Id) → (same_id q root || false) ≡ true → (same_id q root || has_id built.ids q) ≡ false → ⊥
    both q o n = by (same_id q root) o (or_parts (same_id q root) (has_id built.ids q) n).0
      where
        by : (b' : Bool) → (b' || false) ≡ true → b' ≡ false → ⊥
        by true o n = absurd (cc)
        by false o n = absurd (cc)

    first : (q : Id) → same_id q root ≡ true → (same_id q root || false) ≡ true
    first q h = ap (λ b'. b' || false) h

    came_in : (q : Id) → (same_id q root ≡ true) ⊎ (has_id built.ids q ≡ true) → (has_id (root ∷ []) q ≡ true) ⊎ (H.content a q ≡ None)
    came_in q (inl same) = inl (first q same)
    came_in q (inr below) = elim (built.came.came q below) [ inl never ↦ absurd (let no_id : has_id [] q ≡ true = never in cc) | inr none ↦ inr none ]

-- a new tree is that of a new root
pub root_new : {S : Type 0} {H : Holdings S} {a b : S} {id : Id} {w : List ℕ} (depth : ℕ) → KeepsShape H a b → IsDepth (H.payload a) depth (length w) → NewTree H a b depth id w → IsNewRoot H a b id [] w
root_new {w = w} depth keeps deep new = record {
  ids = new.ids;
  depth = depth;
  deep = subst (λ p. IsDepth p depth (length w)) (sym keeps.payload) deep;
  tree = new.tree;
  alone = new.alone;
  replaces = new.came;
}

-- what stood below the root isn't of the new tree
pub old_apart : {S : Type 0} {H : Holdings S} {a b : S} {root : Id} {node : NodeText} {w : List ℕ} → (n : HasRootNode H a root node) → (r : IsNewRoot H a b root (root ∷ []) w) → (q : Id) → has_id n.ids q ≡ true → (has_id (root ∷ []) q ≡ false) × (has_id r.ids q ≡ false)
old_apart {H = H} {a = a} {root = root} {node = node} n r q h =
    let there = holds_there (H.payload a) (H.content a) (depth_in node) node n.bytes n.ids n.holds q h in
    let differs : same_id q root ≡ false = false_from_ne_true (same_id q root) (λ same. let bad : false ≡ true = sym n.alone.0 ∙ subst (λ x. has_id n.ids x ≡ true) (same_id_is q root same) h in cc) in
    let not_root : has_id (root ∷ []) q ≡ false = ap (λ b'. b' || false) differs in
    (not_root, false_from_ne_true (has_id r.ids q) (λ e. elim (r.replaces.came q e) [ inl old ↦ let bad : false ≡ true = sym not_root ∙ old in cc | inr none ↦ none_is (H.content a q) none there ]))

abbrev pub old_below : {S : Type 0} {H : Holdings S} {a b : S} {root : Id} {node : NodeText} {w : List ℕ} (depth : ℕ) → depth ≡ depth_in node → KeepsShape H a b → (n : HasRootNode H a root node) → IsNewRoot H a b root (root ∷ []) w → HasBelow H b depth node
old_below {H = H} {a = a} {b = b} {root = root} {node = node} depth level keeps n r = record {
  bytes = n.bytes;
  ids = n.ids;
  told = keeps.told ∙ n.told;
  holds = subst (λ d. Holds (H.payload b) (H.content b) d node n.bytes n.ids) (sym level) (subst (λ p. Holds p (H.content b) (depth_in node) node n.bytes n.ids) (sym keeps.payload) (holds_frame (H.payload a) (H.content a) (H.content b) (depth_in node) node n.bytes n.ids
      (λ q h. let apart = old_apart n r q h in r.replaces.kept q apart.0 apart.1) n.holds));
  alone = n.alone.1;
}

pub anew : {S : Type 0} {H : Holdings S} {a b c : S} {root : Id} {node : NodeText} {w : List ℕ} → (n : HasRootNode H a root node) → (r : IsNewRoot H a b root (root ∷ []) w) → KeepsShape H b c → Replaces (H.content b) (H.content c) n.ids [] → IsNewRoot H a c root (root ∷ n.ids) w
anew {H = H} {a = a} {b = b} {c = c} {root = root} {w = w} n r keeps drops =
    let apart : (q : Id) → has_id n.ids q ≡ true → has_id r.ids q ≡ false = λ q h. (old_apart n r q h).1 in
    let still : (q : Id) → has_id r.ids q ≡ true → H.content c q ≡ H.content b q =
    λ q h. drops.kept q (false_from_ne_true (has_id n.ids q) (λ e. let bad : false ≡ true = sym (apart q e) ∙ h in cc)) refl in
    record {
      ids = r.ids;
      depth = r.depth;
      deep = subst (λ p. IsDepth p r.depth (length w)) (sym keeps.payload) r.deep;
      tree = subst (λ p. IsTree p (H.content c) r.depth root w r.ids) (sym keeps.payload) (tree_frame (H.payload b) (H.content b) (H.content c) r.depth root w r.ids still r.tree);
      alone = r.alone;
      replaces = then_drops (H.content a) (H.content b) (H.content c) (root ∷ []) n.ids r.ids r.replaces drops apart;
    }

-- what a root's node needs, of the root
abbrev pub root_node : {S : Type 0} {H : Holdings S} {a b : S} {root : Id} (node : NodeText) → Stays H a b → H.told a ≡ true → (n : IsRoot H a root) → node ≡ n.tree.node → HasRootNode H b root node
root_node {H = H} {a = a} {b = b} {root = root} node stays told n is =
    let level : n.depth ≡ depth_in node = sym (holds-depth (H.payload a) (H.content a) n.depth n.tree.node n.bytes n.tree.below n.tree.holds) ∙ ap depth_in (sym is) in
    let holds : Holds (H.payload a) (H.content a) n.depth node n.bytes n.tree.below = subst (λ x. Holds (H.payload a) (H.content a) n.depth x n.bytes n.tree.below) (sym is) n.tree.holds in
    let there : Holds (H.payload a) (H.content a) (depth_in node) node n.bytes n.tree.below = subst (λ d. Holds (H.payload a) (H.content a) d node n.bytes n.tree.below) level holds in
    record {
      bytes = n.bytes;
      ids = n.tree.below;
      told = stays.told ∙ told;
      holds = moved H a b stays told (λ p B. Holds p B (depth_in node) node n.bytes n.tree.below) there;
      alone = subst NoDoubles n.tree.all n.alone;
    }

-- the same, told of the content before blocks were loaded
pub root_since : {S : Type 0} {H : Holdings S} {a b c : S} {root : Id} {w v : List ℕ} → Stays H a b → H.told a ≡ true → (n : IsRoot H a root) → v ≡ w → IsNewRoot H b c root (root ∷ n.tree.below) v → IsNewRoot H a c root n.ids w
root_since {H = H} {a = a} {b = b} {c = c} {root = root} {w = w} {v = v} stays told n is r =
    let path : H.content b ≡ H.content a = λ i id. stays.content told id i in
    let since : IsNewRoot H a c root (root ∷ n.tree.below) v = record {
      ids = r.ids;
      depth = r.depth;
      deep = r.deep;
      tree = r.tree;
      alone = r.alone;
      replaces = subst (λ A. Replaces A (H.content c) (root ∷ n.tree.below) r.ids) path r.replaces;
    } in
    subst (λ xs. IsNewRoot H a c root xs w) (sym n.tree.all) (subst (λ x. IsNewRoot H a c root (root ∷ n.tree.below) x) is since)
