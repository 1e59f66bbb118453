-- Paths after a move.
use Rattle.std.proofs.Common.{◌≡◌, ◌++◌, length, drop, true, List, ℕ, sym, ◌∙◌, ap, IfOk}
use Rattle.std.specs.Prelude.{is_some}
use Rattle.std.proofs.lemmas.List.{reverse-append}
use Rattle.std.specs.declared.result.Result.{Result}
use Rattle.std.specs.declared.result.Result.TheVariants.{Ok, Err}
use Rattle.fs_model.specs.Tree.{Path, upward}
use Rattle.fs_model.specs.Move.{strip, moved, moved_by}
use Rattle.fs_model.proofs.PrefixLemmas.{strips, front_strip}

-- the path after a move, by whether it has the prefix
pub moved_front : (ns ps qs : List (List ℕ)) → is_some (strip (upward ps) (upward ns)) ≡ true → upward (qs ++ drop (length ps) ns) ≡ moved (upward ps) (upward qs) (upward ns)
moved_front ns ps qs h =
    reverse-append qs (drop (length ps) ns)
    ∙ sym (ap (λ o. moved_by o (upward qs) (upward ns)) (strips ns ps (front_strip ns ps ∙ h)))

pub joined_is : {E : Type 0} (r : Result (List (List ℕ)) E) (xs : List (List ℕ)) (m : Path) → IfOk r (λ path. path ≡ xs) → upward xs ≡ m → IfOk r (λ path. upward path ≡ m)
joined_is (Ok x) xs m is e = ap upward is ∙ e
joined_is (Err x) xs m is e = tt
