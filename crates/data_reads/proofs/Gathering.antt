-- What is read of trees that stand side by side, one after the other.
use Rattle.std.proofs.Common.{◌≡◌, ℕ, ◌-◌, ◌≤◌, List, [], ◌∷◌, ◌++◌, length, take, drop, refl, ◌∙◌, subst, arith}
use Rattle.std.specs.Prelude.{true}
use Rattle.data_tree.specs.store_api.Content.{Id}
use Rattle.data_tree.specs.store_api.Holdings.{Holdings, Stays}
use Rattle.data_tree.specs.Trees.{IsTree, Forest, span, NoDoubles}
use Rattle.data_tree.specs.Needs.{HasTree, HasTrees}
use Rattle.data_tree.proofs.Ids.{alone-parts}
use Rattle.data_tree.proofs.Forests.{moved, holds-length}
use Rattle.data_reads.specs.Reading.{between, ReadRest}
use Rattle.data_reads.proofs.Parts.{read_on, read_out}

abbrev pub tree_on : {S : Type 0} {H : Holdings S} {a b : S} {depth : ℕ} {id : Id} → Stays H a b → HasTree H a depth id → HasTree H b depth id
tree_on {H = H} {a = a} {b = b} {depth = depth} {id = id} stays n = record {
  bytes = n.bytes;
  ids = n.ids;
  told = stays.told ∙ n.told;
  tree = moved H a b stays n.told (λ p B. IsTree p B depth id n.bytes n.ids) n.tree;
  alone = n.alone;
}

pub tree-length : {S : Type 0} {H : Holdings S} {a : S} {depth : ℕ} {id : Id} → (n : HasTree H a depth id) → length n.bytes ≤ span (H.payload a) depth
tree-length {H = H} {a = a} {depth = depth} n = holds-length (H.payload a) (H.content a) depth n.tree.node n.tree.text n.bytes n.tree.below n.tree.holds n.tree.is n.tree.sized

abbrev pub first_tree : {S : Type 0} {H : Holdings S} {s : S} {depth : ℕ} {children : List Id} {before after : List ℕ} {from to : ℕ} {all : List ℕ} (child : Id) (rest : List Id)
    → H.told s ≡ true → children ≡ child ∷ rest → ReadRest H s depth children before after from to all → HasTree H s depth child
first_tree {H = H} {s = s} {depth = depth} child rest told is r =
    let f : Forest (IsTree (H.payload s) (H.content s) depth) (span (H.payload s) depth) (child ∷ rest) r.bytes r.ids =
    subst (λ cs. Forest (IsTree (H.payload s) (H.content s) depth) (span (H.payload s) depth) cs r.bytes r.ids) is r.trees in
    record { bytes = take (span (H.payload s) depth) r.bytes; ids = f.1.0; told = told; tree = f.1.1.1.0; alone = (alone-parts f.1.0 f.1.1.0 (subst NoDoubles f.1.1.1.1.1 r.alone)).0 }

pub read_start : {S : Type 0} {H : Holdings S} {s : S} {depth : ℕ} {children : List Id} (before : List ℕ) (from to : ℕ) → (n : HasTrees H s depth children) → ReadRest H s depth (drop 0 children) before before from to (between from to n.bytes)
read_start before from to n = record { bytes = n.bytes; ids = n.ids; trees = n.trees; alone = n.alone; joined = refl }

pub read_next : {S : Type 0} {H : Holdings S} {s : S} {depth : ℕ} {children : List Id} {before after : List ℕ} {from to : ℕ} {all : List ℕ} (child : Id) (rest : List Id) (more : List ℕ) (size from2 to2 : ℕ)
    → children ≡ child ∷ rest → (r : ReadRest H s depth children before after from to all) → size ≡ span (H.payload s) depth → from2 ≡ from - size → to2 ≡ to - size
    → more ≡ after ++ between from to (take (span (H.payload s) depth) r.bytes) → ReadRest H s depth rest before more from2 to2 all
read_next {H = H} {s = s} {depth = depth} {before = before} {after = after} {from = from} {to = to} {all = all} child rest more size from2 to2 is r sized lower upper read =
    let f : Forest (IsTree (H.payload s) (H.content s) depth) (span (H.payload s) depth) (child ∷ rest) r.bytes r.ids =
    subst (λ cs. Forest (IsTree (H.payload s) (H.content s) depth) (span (H.payload s) depth) cs r.bytes r.ids) is r.trees in
    let lo : from - span (H.payload s) depth ≡ from2 = omega (arith, sized) in
    let hi : to - span (H.payload s) depth ≡ to2 = omega (arith, sized) in
    record {
      bytes = drop (span (H.payload s) depth) r.bytes;
      ids = f.1.1.0;
      trees = f.1.1.1.1.0;
      alone = (alone-parts f.1.0 f.1.1.0 (subst NoDoubles f.1.1.1.1.1 r.alone)).1;
      joined = subst (λ k. more ++ between k to2 (drop (span (H.payload s) depth) r.bytes) ≡ before ++ all) lo
          (subst (λ k. more ++ between (from - span (H.payload s) depth) k (drop (span (H.payload s) depth) r.bytes) ≡ before ++ all) hi
          (read_on (span (H.payload s) depth) from to r.bytes before after more all r.joined read));
    }

pub read_done : {S : Type 0} {H : Holdings S} {s : S} {depth : ℕ} {children : List Id} {before after : List ℕ} {from to : ℕ} {all : List ℕ} → children ≡ [] → ReadRest H s depth children before after from to all → after ≡ before ++ all
read_done {H = H} {s = s} {depth = depth} {before = before} {after = after} {from = from} {to = to} {all = all} none r =
    let f : Forest (IsTree (H.payload s) (H.content s) depth) (span (H.payload s) depth) [] r.bytes r.ids =
    subst (λ cs. Forest (IsTree (H.payload s) (H.content s) depth) (span (H.payload s) depth) cs r.bytes r.ids) none r.trees in
    read_out from to r.bytes before after all f.0 r.joined
