-- The last of the trees that stand side by side, and the length of all.
use Rattle.std.proofs.Common.{◌≡◌, ℕ, zero, suc, ◌+◌, ◌*◌, ◌<◌, ◌≤◌, List, [], ◌∷◌, ◌++◌, length, take, drop, refl, sym, ◌∙◌, ap, subst, arith, append_assoc}
use Rattle.std.proofs.lemmas.List.{length-take, length-drop}
use Rattle.std.proofs.Math.Nat.{mul-le-mul_right}
use Rattle.data_tree.specs.store_api.Content.{Id}
use Rattle.data_tree.specs.store_api.Holdings.{Holdings}
use Rattle.data_tree.specs.Trees.{IsTree, Forest, span, NoDoubles}
use Rattle.data_tree.specs.Needs.{HasTree, HasTrees}
use Rattle.data_tree.proofs.Ids.{alone-parts}

-- the trees from a place on, and how many bytes stand before it
pub record ForestFrom (T : Id → List ℕ → List Id → Type 0) (size : ℕ) (children : List Id) (i : ℕ) (w : List ℕ) (ids : List Id) : Type 0 where
  pub rest : List ℕ
  pub before : List Id
  pub after : List Id
  pub trees : Forest T size (drop i children) rest after
  pub len : length w ≡ i * size + length rest
  pub parts : ids ≡ before ++ after

forest-some : (T : Id → List ℕ → List Id → Type 0) (size i : ℕ) (children : List Id) (w : List ℕ) (ids : List Id) → i < length children → Forest T size children w ids → 0 < length w
forest-some T size i [] w ids lt f = absurd (omega arith)
forest-some T size i (child ∷ children) w ids lt f = f.0

pub forest_from : (T : Id → List ℕ → List Id → Type 0) (size i : ℕ) (children : List Id) (w : List ℕ) (ids : List Id) → i < length children → Forest T size children w ids → ForestFrom T size children i w ids
forest_from T size zero children w ids lt f = record { rest = w; before = []; after = ids; trees = f; len = omega arith; parts = refl }
forest_from T size (suc i) [] w ids lt f = absurd (omega arith)
forest_from T size (suc i) (child ∷ children) w ids lt (some, (own, (rest, (first, (others, all))))) =
    let more = forest_from T size i children (drop size w) rest (omega arith) others in
    let left : 0 < length (drop size w) = forest-some T size i children (drop size w) rest (omega arith) others in
    record {
      rest = more.rest;
      before = own ++ more.before;
      after = more.after;
      trees = more.trees;
      len = omega (arith, more.len, left, length-drop size w);
      parts = all ∙ ap (λ xs. own ++ xs) more.parts ∙ sym (append_assoc own more.before more.after);
    }

-- the last of the trees, and the length of all
pub last_of : {S : Type 0} {H : Holdings S} {a : S} {depth : ℕ} (children : List Id) (i : ℕ) (last : Id) → i < length children → drop i children ≡ last ∷ [] → HasTrees H a depth children → HasTree H a depth last
last_of {H = H} {a = a} {depth = depth} children i last lt is n =
    let from = forest_from (IsTree (H.payload a) (H.content a) depth) (span (H.payload a) depth) i children n.bytes n.ids lt n.trees in
    let f : Forest (IsTree (H.payload a) (H.content a) depth) (span (H.payload a) depth) (last ∷ []) from.rest from.after =
    subst (λ cs. Forest (IsTree (H.payload a) (H.content a) depth) (span (H.payload a) depth) cs from.rest from.after) is from.trees in
    let alone : NoDoubles (f.1.0 ++ f.1.1.0) = subst NoDoubles f.1.1.1.1.1 (alone-parts from.before from.after (subst NoDoubles from.parts n.alone)).1 in
    record { bytes = take (span (H.payload a) depth) from.rest; ids = f.1.0; told = n.told; tree = f.1.1.1.0; alone = (alone-parts f.1.0 f.1.1.0 alone).0 }

pub last-length : {S : Type 0} {H : Holdings S} {a : S} {depth : ℕ} (children : List Id) (i : ℕ) (last : Id) (lt : i < length children) (is : drop i children ≡ last ∷ []) (n : HasTrees H a depth children)
    → length n.bytes ≡ i * span (H.payload a) depth + length (last_of {H = H} {a = a} {depth = depth} children i last lt is n).bytes
unfolding last_of
last-length {H = H} {a = a} {depth = depth} children i last lt is n =
    let from = forest_from (IsTree (H.payload a) (H.content a) depth) (span (H.payload a) depth) i children n.bytes n.ids lt n.trees in
    let f : Forest (IsTree (H.payload a) (H.content a) depth) (span (H.payload a) depth) (last ∷ []) from.rest from.after =
    subst (λ cs. Forest (IsTree (H.payload a) (H.content a) depth) (span (H.payload a) depth) cs from.rest from.after) is from.trees in
    let none : length (drop (span (H.payload a) depth) from.rest) ≡ 0 = ap length f.1.1.1.1.0.0 in
    omega (arith, from.len, none, length-drop (span (H.payload a) depth) from.rest, length-take (span (H.payload a) depth) from.rest)

pub sum_is : (i x y l m : ℕ) → x ≡ y → l ≡ m → i * x + l ≡ i * y + m
sum_is i x y l m one two = ap (λ k. i * k + l) one ∙ ap (λ k. i * y + k) two

-- so many pieces and a last one have room in a node
pub last_fits : (i fan room len all : ℕ) → i < fan → fan * room ≡ all → len ≤ room → i * room + len ≤ all
last_fits i fan room len all few is short =
    let much : (i + 1) * room ≤ fan * room = mul-le-mul_right room (let le : i + 1 ≤ fan = omega arith in le) in
    omega (arith, much, is, short)
