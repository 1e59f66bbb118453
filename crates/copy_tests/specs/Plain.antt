-- What answers commands by a tree that it always tells.
use Rattle.std.specs.Prelude.{◌≡◌, ℕ}
use Rattle.std.proofs.Common.{sym, ◌∙◌}
use Rattle.fs_model.specs.Instant.{Instant}
use Rattle.fs_model.specs.Tree.{Tree}
use Rattle.tree_copy.specs.copy_laws.Questions.{Asking, LawfulAsker}

abbrev pub asking_of : {A : Type 0} → (A → Tree) → (A → Instant) → (A → ℕ) → Asking A
asking_of tree moment stops = record {
  ready = λ a. Unit {0};
  stands_for = λ a t. t ≡ tree a;
  moment = moment;
  forgeries = λ a. 0;
  stops = stops;
  went = λ a qs b. Unit {0};
}

pub lawful_of : {A : Type 0} (tree : A → Tree) (moment : A → Instant) (stops : A → ℕ) → LawfulAsker (asking_of tree moment stops)
lawful_of tree moment stops = record {
  none = λ a. tt;
  onward = λ a b c qs rs f g. tt;
  one_tree = λ a t u e f. e ∙ sym f;
}
