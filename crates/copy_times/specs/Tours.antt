-- The rows of a folder in the order in which they get their attributes: depth first by increasing names, each behind what is below it.
use Rattle.std.specs.Prelude.{◌≡◌, ℕ, zero, suc, List, [], ◌∷◌, ◌++◌}
use Rattle.std.specs.List.{Contains}
use Rattle.fs_model.specs.declared.attr.Attr.{Attr}
use Rattle.fs_model.specs.declared.attr.Kind.{Kind}
use Rattle.fs_model.specs.declared.attr.Kind.TheVariants.{Directory, File, Link}
use Rattle.copy_row.specs.host_folder.Folders.{HostPath}
use Rattle.host_attributes.specs.declared.row.AttributedRow.{AttributedRow}

-- a row's path in the folder and in the tree, and its attributes
pub record Dressed : Type 0 where
  pub host : HostPath
  pub tree : HostPath
  pub attr : Attr

-- the rows of the directory at these paths of the folder and of the tree
abbrev pub Kids : Type 0
Kids = HostPath → HostPath → List AttributedRow

abbrev pub dressed : HostPath → HostPath → AttributedRow → Dressed
dressed p q row = record { host = p ++ row.name ∷ []; tree = q ++ row.name ∷ []; attr = row.attr }

-- only below a directory there are rows
abbrev pub BelowIs : Kind → (List Dressed → Type 0) → List Dressed → Type 0
BelowIs Directory Below ds = Below ds
BelowIs File Below ds = ds ≡ []
BelowIs Link Below ds = ds ≡ []

abbrev pub RowTour : (HostPath → HostPath → List Dressed → Type 0) → HostPath → HostPath → AttributedRow → List Dressed → Type 0
RowTour Below p q row ds = BelowIs row.attr.kind (Below (p ++ row.name ∷ []) (q ++ row.name ∷ [])) ds

-- these rows of a directory, one after the other, each behind what is below it
abbrev pub RowsTour : (HostPath → HostPath → List Dressed → Type 0) → HostPath → HostPath → List AttributedRow → List Dressed → Type 0
RowsTour Below p q [] ds = ds ≡ []
RowsTour Below p q (row ∷ rows) ds =
    (below : List Dressed) × ((rest : List Dressed) × (RowTour Below p q row below × (RowsTour Below p q rows rest × (ds ≡ below ++ dressed p q row ∷ rest))))

-- all that is below a directory, which goes on for less than so many directories
abbrev pub IsTour : ℕ → Kids → HostPath → HostPath → List Dressed → Type 0
IsTour zero kids p q ds = ⊥
IsTour (suc depth) kids p q ds = RowsTour (IsTour depth kids) p q (kids p q) ds

-- a row of a directory
pub record IsKid (kids : Kids) (d : Dressed) : Type 0 where
  pub p : HostPath
  pub q : HostPath
  pub row : AttributedRow
  pub listed : Contains (kids p q) row
  pub is : d ≡ dressed p q row

abbrev pub AreKids : Kids → List Dressed → Type 0
AreKids kids [] = Unit {0}
AreKids kids (d ∷ ds) = IsKid kids d × AreKids kids ds
