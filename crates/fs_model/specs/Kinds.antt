-- The byte of a kind.
use Rattle.std.specs.Prelude.{ℕ, zero, suc, Option, Some, None}
use Rattle.fs_model.specs.declared.attr.Kind.{Kind}
use Rattle.fs_model.specs.declared.attr.Kind.TheVariants.{Directory, File, Link}

abbrev pub byte_of : Kind → ℕ
byte_of Directory = 0
byte_of File = 1
byte_of Link = 2

abbrev pub kind_at : ℕ → Option Kind
kind_at zero = Some Directory
kind_at (suc zero) = Some File
kind_at (suc (suc zero)) = Some Link
kind_at (suc (suc (suc byte))) = None
