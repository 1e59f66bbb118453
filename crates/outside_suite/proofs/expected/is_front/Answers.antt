use Rattle.std.proofs.Common.{◌≡◌, min, length, take, ap, sym, ◌∙◌, arith}
use Rattle.std.specs.Option.{option_copied}
use Rattle.std.specs.declared.option.Option.TheVariants.{Some}
use Rattle.std.proofs.lemmas.Bool.Decides.{Decides-eqb}
use Rattle.std.proofs.lemmas.List.{take_min}
use Rattle.std.proofs.lemmas.Slice.Eq.{slice_eq-Decides}
use Rattle.outside.specs.Changes.{cut}
use Rattle.outside.specs.View.{bytes_of}
use Rattle.outside_suite.proofs.expected.is_front.Goals as goal

pub returns-in-Some-Some : goal.returns-in-Some-Some
returns-in-Some-Some c =
    let came = c.in-Some-Some.came in
    let want = c.in-Some-Some.want in
    let all = c.deref.result.now in
    let end : c.min.result ≡ min c.args.max (length all) = omega arith in
    let front : take c.min.result all ≡ take c.args.max want.now.items =
    ap (λ n. take n all) end ∙ take_min c.args.max all ∙ ap (take c.args.max) c.deref.ensures.value in
    let decides = slice_eq-Decides Decides-eqb c.as_slice.result.now (take c.min.result all) c.eq.result c.eq.ensures in
    let has_come = ap bytes_of c.in-Some-Some.is-0 in
    let is_wanted = ap (λ o. cut c.args.max (bytes_of (option_copied o))) c.in-Some-Some.is-1 in (
      λ t. has_come ∙ ap Some (sym c.as_slice.ensures.value ∙ decides.0 t ∙ front) ∙ sym is_wanted,
      λ e.
          let both : Some came.items ≡ Some (take c.args.max want.now.items) = sym has_come ∙ e ∙ is_wanted in
          let same : came.items ≡ take c.args.max want.now.items = cc in decides.1 (c.as_slice.ensures.value ∙ same ∙ sym front),
    )
