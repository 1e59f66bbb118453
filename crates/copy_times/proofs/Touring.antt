-- Tours and rows, one behind the other.
use Rattle.std.proofs.Common.{◌≡◌, ℕ, List, [], ◌∷◌, ◌++◌, refl, sym, ◌∙◌, ap, subst, append_assoc}
use Rattle.fs_model.specs.declared.command.Command.{Command}
use Rattle.copy_row.specs.host_folder.Folders.{HostPath}
use Rattle.host_attributes.specs.declared.row.AttributedRow.{AttributedRow}
use Rattle.copy_times.specs.Asking.{gifts, gifts_at}
use Rattle.copy_times.specs.Tours.{Dressed, Kids, RowTour, RowsTour, IsKid, AreKids, dressed}

pub rows_append : (B : HostPath → HostPath → List Dressed → Type 0) (p q : HostPath) (rows more : List AttributedRow) (ds es : List Dressed) → RowsTour B p q rows ds → RowsTour B p q more es → RowsTour B p q (rows ++ more) (ds ++ es)
rows_append B p q [] more ds es h g = subst (RowsTour B p q more) (sym (ap (λ z. z ++ es) h)) g
rows_append B p q (row ∷ rows) more ds es (below, (rest, (tour, (after, is)))) g =
    (below, (rest ++ es, (tour, (rows_append B p q rows more rest es after g, ap (λ z. z ++ es) is ∙ append_assoc below (dressed p q row ∷ rest) es))))

-- a row alone
pub one_row : (B : HostPath → HostPath → List Dressed → Type 0) (p q : HostPath) (row : AttributedRow) (below : List Dressed) → RowTour B p q row below → RowsTour B p q (row ∷ []) (below ++ dressed p q row ∷ [])
one_row B p q row below h = (below, ([], (h, (refl, refl))))

pub kids_append : (kids : Kids) (ds es : List Dressed) → AreKids kids ds → AreKids kids es → AreKids kids (ds ++ es)
kids_append kids [] es h g = g
kids_append kids (d ∷ ds) es h g = (h.0, kids_append kids ds es h.1 g)

pub gifts_append : (ds es : List Dressed) → gifts (ds ++ es) ≡ gifts ds ++ gifts es
gifts_append [] es = refl
gifts_append (d ∷ ds) es = ap (λ z. gifts_at d.tree d.attr ++ z) (gifts_append ds es) ∙ sym (append_assoc (gifts_at d.tree d.attr) (gifts ds) (gifts es))
