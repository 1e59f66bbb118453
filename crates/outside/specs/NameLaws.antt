-- The order of names is total, and names that tie are the same.
use Rattle.std.specs.Prelude.{◌≡◌, refl}
use Rattle.std.proofs.Common.{sym, ap}
use Rattle.std.specs.Ordering.{eq_by_cmp, ordering_reverse}
use Rattle.std.specs.Cmp.{IsTotalOrder}
use Rattle.std.specs.Cmp.Lexicographic.{nat_list_cmp_total}
use Rattle.std.proofs.lemmas.Map.Text.{is_eq-slice_cmp}
use Rattle.std.specs.FinMap.{IsAntisymmetric, slice_cmp-IsAntisymmetric, nat_cmp-IsAntisymmetric}
use Rattle.std.specs.declared.cmp.Ordering.TheVariants.{Less, Equal}
use Rattle.outside.specs.Trace.{At, config, block}
use Rattle.outside.specs.Names.{same_at, at_cmp}

pub same_ties : (a b : At) → same_at a b ≡ eq_by_cmp at_cmp a b
same_ties config config = refl
same_ties config (block b) = refl
same_ties (block a) config = refl
same_ties (block a) (block b) = sym (is_eq-slice_cmp a b)

flips : (a b : At) → at_cmp a b ≡ ordering_reverse (at_cmp b a)
flips config config = refl
flips config (block b) = refl
flips (block a) config = refl
flips (block a) (block b) = nat_list_cmp_total.antisymm a b

chains : (a b c : At) → at_cmp a b ≡ Less → at_cmp b c ≡ Less → at_cmp a c ≡ Less
chains config config c p q = q
chains config (block b) config p q = absurd (cc)
chains config (block b) (block c) p q = refl
chains (block a) config c p q = absurd (cc)
chains (block a) (block b) config p q = absurd (cc)
chains (block a) (block b) (block c) p q = nat_list_cmp_total.trans a b c p q

agrees : (a b c : At) → at_cmp a b ≡ Equal → at_cmp a c ≡ at_cmp b c
agrees config config c p = refl
agrees config (block b) c p = absurd (cc)
agrees (block a) config c p = absurd (cc)
agrees (block a) (block b) config p = refl
agrees (block a) (block b) (block c) p = nat_list_cmp_total.congr a b c p

pub at_total : IsTotalOrder at_cmp
at_total = record { antisymm = flips; trans = chains; congr = agrees }

-- names that tie are the same
pub at_exact : IsAntisymmetric at_cmp
at_exact config config p = refl
at_exact config (block b) p = absurd (cc)
at_exact (block a) config p = absurd (cc)
at_exact (block a) (block b) p = ap block (slice_cmp-IsAntisymmetric nat_cmp-IsAntisymmetric a b p)
