-- What a look-up answers.
use Rattle.std.specs.Prelude.{◌≡◌, ℕ, length}
use Rattle.std.specs.declared.option.Option.{Option}
use Rattle.std.specs.declared.option.Option.TheVariants.{None, Some}
use Rattle.fs_model.specs.declared.error.FsError.{FsError}
use Rattle.fs_model.specs.declared.error.FsError.TheVariants.{NoEntry, IsDirectory, Invalid}
use Rattle.fs_model.specs.declared.attr.Attr.{Attr}
use Rattle.fs_model.specs.declared.attr.Kind.TheVariants.{File}
use Rattle.fs_model.specs.Tree.{Path, Row, Tree}
use Rattle.fs_model.specs.LookUp.{LookedUp, Found as Stands, Free as Missing, Bad as Refused, look}
use Rattle.fs_model.specs.Step.{by_kind}
use Rattle.plain_tree.specs.declared.look.LookUp.{LookUp}
use Rattle.plain_tree.specs.declared.look.LookUp.TheVariants.{Found, Free, Bad}

-- what was seen
abbrev pub seen_of : LookUp → LookedUp
seen_of (Found attr bytes) = Stands (record { attr = attr; bytes = bytes.now })
seen_of Free = Missing
seen_of (Bad e) = Refused e

-- why a look-up gives no row
abbrev pub refusal_of : LookedUp → Option FsError
refusal_of (Stands row) = None
refusal_of Missing = Some NoEntry
refusal_of (Refused e) = Some e

-- why the content of what was seen isn't touched
abbrev pub file_refusal : LookedUp → Option FsError
file_refusal (Stands row) = by_kind row.attr.kind (Some IsDirectory) None (Some Invalid)
file_refusal Missing = Some NoEntry
file_refusal (Refused e) = Some e

-- a file with these attributes and this length
pub record IsFileAt (t : Tree) (p : Path) (a : Attr) (n : ℕ) : Type 0 where
  pub row : Row
  pub seen : look t p ≡ Stands row
  pub attr : row.attr ≡ a
  pub len : length row.bytes ≡ n
  pub kind : row.attr.kind ≡ File
