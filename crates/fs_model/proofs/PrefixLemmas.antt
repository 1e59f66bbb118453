-- Names that begin with others.
use Rattle.std.proofs.Common.{◌≡◌, ℕ, ◌-◌, ◌<◌, ◌++◌, ◌||◌, length, take, drop, reverse, true, false, cond, List, [], ◌∷◌, refl, sym, ◌∙◌, ap, arith, length-append}
use Rattle.std.specs.Prelude.{is_some}
use Rattle.std.proofs.lemmas.List.{reverse-append, reverse-reverse, take-append-drop}
use Rattle.std.proofs.Math.Seq.{take-append_seam}
use Rattle.std.specs.declared.option.Option.{Option}
use Rattle.std.specs.declared.option.Option.TheVariants.{None, Some}
use Rattle.fs_model.specs.Tree.{Path, upward, same_path}
use Rattle.fs_model.specs.Move.{strip, under, is_above}
use Rattle.fs_model.proofs.TreeLemmas.{same_path_is, path_same}
use Rattle.fs_model.proofs.MoveLemmas.{strip-append}
use Rattle.fs_model.proofs.MovedTree.{strip_none}
use Rattle.fs_model.proofs.PathLemmas.{last_split}

pub upward_same : (a b : List (List ℕ)) → upward a ≡ upward b → a ≡ b
upward_same a b e = sym (reverse-reverse a) ∙ (ap reverse e ∙ reverse-reverse b)

-- what follows a prefix stands below it
pub prefix_parts : (ns ps : List (List ℕ)) → same_path (upward (take (length ps) ns)) (upward ps) ≡ true → upward ns ≡ upward (drop (length ps) ns) ++ upward ps
prefix_parts ns ps h =
    let front : take (length ps) ns ≡ ps = upward_same (take (length ps) ns) ps (same_path_is (upward (take (length ps) ns)) (upward ps) h) in
    ap upward (sym (take-append-drop (length ps) ns)) ∙ (reverse-append (take (length ps) ns) (drop (length ps) ns) ∙ ap (λ z. upward (drop (length ps) ns) ++ upward z) front)

whole_of : (ns ps : List (List ℕ)) (s : Path) → upward ns ≡ s ++ upward ps → ns ≡ ps ++ reverse s
whole_of ns ps s e = sym (reverse-reverse ns) ∙ (ap reverse e ∙ (reverse-append s (upward ps) ∙ ap (λ z. z ++ reverse s) (reverse-reverse ps)))

pub strips : (ns ps : List (List ℕ)) → same_path (upward (take (length ps) ns)) (upward ps) ≡ true → strip (upward ps) (upward ns) ≡ Some (upward (drop (length ps) ns))
strips ns ps h = ap (strip (upward ps)) (prefix_parts ns ps h) ∙ strip-append (upward ps) (upward (drop (length ps) ns))

pub short_strip : (ns ps : List (List ℕ)) → length ns < length ps → strip (upward ps) (upward ns) ≡ None
short_strip ns ps lt = strip_none (upward ps) (upward ns) (λ s e. let long = ap length (whole_of ns ps s e) in omega (arith, length-append ps (reverse s)))

-- the test on the front of the names tells
pub front_strip : (ns ps : List (List ℕ)) → same_path (upward (take (length ps) ns)) (upward ps) ≡ is_some (strip (upward ps) (upward ns))
front_strip ns ps = elim (same_path (upward (take (length ps) ns)) (upward ps)) as (λ b. same_path (upward (take (length ps) ns)) (upward ps) ≡ b → b ≡ is_some (strip (upward ps) (upward ns))) [
  | true ↦ λ h. sym (ap is_some (strips ns ps h))
  | false ↦ λ h. sym (ap is_some (strip_none (upward ps) (upward ns) (λ s e.
      let front : take (length ps) ns ≡ ps = ap (take (length ps)) (whole_of ns ps s e) ∙ take-append_seam ps (reverse s) in
      let bad : false ≡ true = sym h ∙ (ap (λ z. same_path (upward z) (upward ps)) front ∙ path_same (upward ps)) in cc)))
] refl

under_some : (n : List ℕ) (o : Option Path) → is_some (under n o) ≡ is_some o
under_some n None = refl
under_some n (Some s) = refl

abbrev nothing_below : Option Path
nothing_below = Some []

-- a path is above another where it is a prefix of that one's parent
above_strip : (p q : Path) (n : List ℕ) → is_above p (n ∷ q) ≡ is_some (strip p q)
above_strip p [] n = elim (same_path p []) as (λ b. (b || false) ≡ is_some (cond b nothing_below None)) [ true ↦ refl | false ↦ refl ]
above_strip p (m ∷ q) n =
    ap (λ b. same_path p (m ∷ q) || b) (above_strip p q m)
    ∙ elim (same_path p (m ∷ q)) as (λ b. (b || is_some (strip p q)) ≡ is_some (cond b nothing_below (under m (strip p q)))) [ true ↦ refl | false ↦ sym (under_some m (strip p q)) ]

pub above_front : (ns ps : List (List ℕ)) → 0 < length ns → is_some (strip (upward ps) (upward (take (length ns - 1) ns))) ≡ is_above (upward ps) (upward ns)
above_front ns ps h =
    let s = last_split ns h in
    sym (ap (is_above (upward ps)) s.1 ∙ above_strip (upward ps) (upward (take (length ns - 1) ns)) s.0)
