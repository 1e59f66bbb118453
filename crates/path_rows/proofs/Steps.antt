-- The model's steps where a row was found, by its kind.
use Rattle.std.proofs.Common.{◌≡◌, Bool, true, false, cond, refl, sym, ◌∙◌, ap}
use Rattle.std.specs.FinMap.{remove}
use Rattle.fs_model.specs.declared.error.FsError.TheVariants.{NotDirectory, IsDirectory, Invalid, NotEmpty, Busy}
use Rattle.fs_model.specs.Instant.{Instant}
use Rattle.fs_model.specs.Tree.{Path, Row, Tree, parent, is_directory, is_root, same_path}
use Rattle.fs_model.specs.Move.{is_above}
use Rattle.fs_model.specs.LookUp.{Found, look}
use Rattle.fs_model.specs.Step.{Stepped, refused, done, touched, removed_directory, removed_file, has_child, unless_root, moved_from, moved_to, moved_onto, moved_unless_large, moved_tree}

module _ (t : Tree) (now : Instant) (p : Path) (row : Row) where
  -- without the row, its directory touched
  abbrev pub without : Tree
  without = touched (remove t p) now (parent p)

  pub folder_by : is_directory row.attr.kind ≡ true → removed_directory t now p (Found row) ≡ cond (has_child t p) (refused t NotEmpty) (done without)
  folder_by e = ap (λ b. cond b (cond (has_child t p) (refused t NotEmpty) (done without)) (refused t NotDirectory)) e

  pub folder_refused : is_directory row.attr.kind ≡ false → removed_directory t now p (Found row) ≡ refused t NotDirectory
  folder_refused e = ap (λ b. cond b (cond (has_child t p) (refused t NotEmpty) (done without)) (refused t NotDirectory)) e

  pub file_by : (b : Bool) → is_directory row.attr.kind ≡ b → removed_file t now p (Found row) ≡ cond b (refused t IsDirectory) (done without)
  file_by b e = ap (λ z. cond z (refused t IsDirectory) (done without)) e

-- ---- moves

pub onto_by : (t : Tree) (q : Path) (from onto : Bool) (s : Stepped) (m k : Bool) → m ≡ from → k ≡ onto → moved_onto t q from onto s ≡ moved_onto t q m k s
onto_by t q from onto s m k e f = ap (λ x. moved_onto t q x onto s) (sym e) ∙ ap (λ y. moved_onto t q m y s) (sym f)

busy : (t : Tree) (b : Bool) → cond b (refused t Busy) (refused t Busy) ≡ refused t Busy
busy t true = refl
busy t false = refl

-- nothing moves to the root
pub to_root : (t : Tree) (p q : Path) (s : Stepped) → is_root q ≡ true → unless_root t p (unless_root t q s) ≡ refused t Busy
to_root t p q s e = ap (λ b. cond (is_root p) (refused t Busy) (cond b (refused t Busy) s)) e ∙ busy t (is_root p)

pub not_root : (t : Tree) (q : Path) (s : Stepped) → is_root q ≡ false → unless_root t q s ≡ s
not_root t q s e = ap (λ b. cond b (refused t Busy) s) e

module _ (t : Tree) (now : Instant) (p q : Path) (row : Row) where
  pub from_by : is_root q ≡ false → (k : Bool) → is_above p q ≡ k → unless_root t q (moved_from t now p q (Found row)) ≡ cond k (refused t Invalid) (moved_to t now p q row (look t q))
  from_by r k e = not_root t q (moved_from t now p q (Found row)) r ∙ ap (λ b. cond b (refused t Invalid) (moved_to t now p q row (look t q))) e

  pub onto_unless : (old : Row) (k : Bool) → same_path p q ≡ k
      → moved_to t now p q row (Found old) ≡ cond k (done t) (moved_onto t q (is_directory row.attr.kind) (is_directory old.attr.kind) (moved_unless_large t now p q (moved_tree t now p q row)))
  onto_unless old k e = ap (λ b. cond b (done t) (moved_onto t q (is_directory row.attr.kind) (is_directory old.attr.kind) (moved_unless_large t now p q (moved_tree t now p q row)))) e
