-- One of the trees that stand side by side.
use Rattle.std.proofs.Common.{◌≡◌, ℕ, zero, suc, ◌-◌, ◌*◌, ◌<◌, ◌≤◌, true, List, [], ◌∷◌, take, drop, length, refl, sym, ◌∙◌, ap, subst, arith}
use Rattle.std.specs.Prelude.{Some, min}
use Rattle.std.specs.List.{slice_get}
use Rattle.std.proofs.lemmas.List.{length-take, length-drop}
use Rattle.check_walk.specs.data_tree.Trees.{Forest, NoDoubles}
use Rattle.check_walk.proofs.data_tree_lemmas.Ids.{in_left, in_right, alone-parts, apart}
use Rattle.check_walk.specs.store_api.Content.{Id}
use Rattle.check_walk.specs.store_api.Holdings.{has_id}

-- the tree with a number, and how many bytes it holds
pub record Piece (T : Id → List ℕ → List Id → Type 0) (size : ℕ) (children : List Id) (w : List ℕ) (ids : List Id) (i : ℕ) (child : Id) : Type 0 where
  pub bytes : List ℕ
  pub own : List Id
  pub tree : T child bytes own
  pub some : 0 < size → 0 < length bytes
  pub whole : suc i < length children → length bytes ≡ size
  pub last : length children * size ≤ length w → length bytes ≡ size
  pub inside : (x : Id) → has_id own x ≡ true → has_id ids x ≡ true
  pub alone : NoDoubles ids → NoDoubles own

-- the first piece, by its length and that of what is behind it
first_some : (size long : ℕ) → 0 < long → 0 < size → 0 < min size long
first_some size long some wide = omega arith

first_whole : (size long more : ℕ) → more ≡ long - size → 0 < more → min size long ≡ size
first_whole size long more rest some = omega arith

first_last : (size long count : ℕ) → suc count * size ≤ long → min size long ≡ size
first_last size long count full = omega (arith, full)

rest_last : (size long count more : ℕ) → more ≡ long - size → suc count * size ≤ long → count * size ≤ more
rest_last size long count more rest full = omega (arith, full)

pub piece_at : (T : Id → List ℕ → List Id → Type 0) (size : ℕ) (children : List Id) (w : List ℕ) (ids : List Id) → Forest T size children w ids → (i : ℕ) (child : Id) → slice_get children i ≡ Some child → Piece T size children w ids i child
piece_at T size [] w ids f i child e = absurd (cc)
piece_at T size (first ∷ children) w ids (some, (own, (rest, (tree, (others, all))))) zero child e =
    let same : first ≡ child = cc in
    let long = length-take size w in
    record {
      bytes = take size w;
      own = own;
      tree = subst (λ c. T c (take size w) own) same tree;
      some = λ wide. subst (λ n. 0 < n) (sym long) (first_some size (length w) some wide);
      whole = λ more. long ∙ first_whole size (length w) (length (drop size w)) (length-drop size w) (behind children rest others (omega (arith, more)));
      last = λ full. long ∙ first_last size (length w) (length children) full;
      inside = λ x h. subst (λ xs. has_id xs x ≡ true) (sym all) (in_left own rest x h);
      alone = λ h. (alone-parts own rest (subst NoDoubles all h)).0;
    }
  where
    behind : (cs : List Id) (more : List Id) → Forest T size cs (drop size w) more → 0 < length cs → 0 < length (drop size w)
    behind [] more f none = absurd (omega (arith, none))
    behind (c ∷ cs) more f one = f.0
piece_at T size (first ∷ children) w ids (some, (own, (rest, (tree, (others, all))))) (suc i) child e =
    let p = piece_at T size children (drop size w) rest others i child e in
    record {
      bytes = p.bytes;
      own = p.own;
      tree = p.tree;
      some = p.some;
      whole = λ more. p.whole (omega (arith, more));
      last = λ full. p.last (rest_last size (length w) (length children) (length (drop size w)) (length-drop size w) full);
      inside = λ x h. subst (λ xs. has_id xs x ≡ true) (sym all) (in_right own rest x (p.inside x h));
      alone = λ h. p.alone (alone-parts own rest (subst NoDoubles all h)).1;
    }

-- where no id stands twice, an id is in one piece alone
pub one_piece : (T : Id → List ℕ → List Id → Type 0) (size : ℕ) (children : List Id) (w : List ℕ) (ids : List Id) (f : Forest T size children w ids) → NoDoubles ids → (i j : ℕ) (c d : Id) (e : slice_get children i ≡ Some c) (g : slice_get children j ≡ Some d) (x : Id)
    → has_id (piece_at T size children w ids f i c e).own x ≡ true → has_id (piece_at T size children w ids f j d g).own x ≡ true → i ≡ j
unfolding piece_at
one_piece T size [] w ids f alone i j c d e g x h k = absurd (cc)
one_piece T size (first ∷ children) w ids (some, (own, (rest, (tree, (others, all))))) alone zero zero c d e g x h k = refl
one_piece T size (first ∷ children) w ids (some, (own, (rest, (tree, (others, all))))) alone zero (suc j) c d e g x h k =
    let out = (piece_at T size children (drop size w) rest others j d g).inside x k in
    let none = apart own rest (subst NoDoubles all alone) x h in
    absurd (cc (sym none ∙ out))
one_piece T size (first ∷ children) w ids (some, (own, (rest, (tree, (others, all))))) alone (suc i) zero c d e g x h k =
    let out = (piece_at T size children (drop size w) rest others i c e).inside x h in
    let none = apart own rest (subst NoDoubles all alone) x k in
    absurd (cc (sym none ∙ out))
one_piece T size (first ∷ children) w ids (some, (own, (rest, (tree, (others, all))))) alone (suc i) (suc j) c d e g x h k =
    ap suc (one_piece T size children (drop size w) rest others (alone-parts own rest (subst NoDoubles all alone)).1 i j c d e g x h k)
