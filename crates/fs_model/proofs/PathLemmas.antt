-- Paths from their last names on.
use Rattle.std.proofs.Common.{◌≡◌, ℕ, ◌+◌, ◌-◌, ◌<◌, length, take, get_or, List, [], ◌∷◌, refl, sym, ◌∙◌, ap, arith, false}
use Rattle.std.proofs.lemmas.List.{take_more, reverse-append, length-reverse, take_all}
use Rattle.std.specs.declared.cmp.Ordering.TheVariants.{Greater}
use Rattle.fs_model.specs.Tree.{Path, upward, parent, last_name, path_cmp, is_root}

pub names_more : (ns : List (List ℕ)) (i : ℕ) (d : List ℕ) → i < length ns → upward (take (i + 1) ns) ≡ get_or ns i d ∷ upward (take i ns)
names_more ns i d lt = ap upward (take_more ns i d lt) ∙ reverse-append (take i ns) (get_or ns i d ∷ [])

cmp_none : (zs : Path) → 0 < length zs → path_cmp zs [] ≡ Greater
cmp_none [] h = absurd (omega arith)
cmp_none (z ∷ zs) h = refl

pub more_than_none : (xs ys : List (List ℕ)) → 0 < length xs → length ys ≡ 0 → path_cmp (upward xs) (upward ys) ≡ Greater
more_than_none xs [] h e = cmp_none (upward xs) (omega (arith, length-reverse xs))
more_than_none xs (y ∷ ys) h e = absurd (omega arith)

-- the last name and the others
pub last_split : (ns : List (List ℕ)) → 0 < length ns → (x : List ℕ) × (upward ns ≡ x ∷ upward (take (length ns - 1) ns))
last_split [] h = absurd (omega arith)
last_split (n ∷ ns) h =
    let xs = n ∷ ns in
    (get_or xs (length xs - 1) n, ap upward (sym (take_all (length xs - 1 + 1) xs (omega arith))) ∙ names_more xs (length xs - 1) n (omega arith))

pub not_root : (ns : List (List ℕ)) → 0 < length ns → is_root (upward ns) ≡ false
not_root ns h = let s = last_split ns h in ap is_root s.1

pub last_at : (ns : List (List ℕ)) (d : List ℕ) → 0 < length ns → upward ns ≡ get_or ns (length ns - 1) d ∷ upward (take (length ns - 1) ns)
last_at ns d h = ap upward (sym (take_all (length ns - 1 + 1) ns (omega arith))) ∙ names_more ns (length ns - 1) d (omega arith)

pub parent_at : (ns : List (List ℕ)) → 0 < length ns → parent (upward ns) ≡ upward (take (length ns - 1) ns)
parent_at ns h = ap parent (last_split ns h).1

pub name_at : (ns : List (List ℕ)) (n : List ℕ) → 0 < length ns → n ≡ get_or ns (length ns - 1) n → last_name (upward ns) ≡ n
name_at ns n h is = ap last_name (last_at ns n h) ∙ sym is

pub some_names : (ns : List (List ℕ)) → is_root (upward ns) ≡ false → 0 < length ns
some_names [] h = cc
some_names (n ∷ ns) h = omega arith
