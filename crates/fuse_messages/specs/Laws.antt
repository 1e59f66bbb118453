-- What is read of a structure was written so, and what is written so is read, whatever follows it.
use Rattle.std.specs.Prelude.{◌≡◌, ℕ, List, [], ◌∷◌, ◌++◌, Some}
use Rattle.byte_fields.specs.Fields.{IsBytes}
use Rattle.dir_entries.specs.Reading.{Reader}
use Rattle.fuse_messages.specs.Reading.{header_at, span_at, rename_at, set_attributes_at}
use Rattle.fuse_messages.specs.Layout.{header_text, span_text, rename_text, set_attributes_text, IsHeader, IsSpan, IsRename, IsSetAttributes}

pub record HasOneReading {A : Type 0} (reader : Reader A) (text : A → List ℕ) (Is : A → Type 0) : Type 0 where
  pub took : (bytes : List ℕ) (a : A) (rest : List ℕ) → IsBytes bytes → reader bytes ≡ Some (a, rest) → (bytes ≡ text a ++ rest) × Is a
  pub again : (a : A) (rest : List ℕ) → Is a → reader (text a ++ rest) ≡ Some (a, rest)

pub record StructuresHaveOneReading : Type 0 where
  pub header : HasOneReading header_at header_text IsHeader
  pub span : HasOneReading span_at span_text IsSpan
  pub rename : HasOneReading rename_at rename_text IsRename
  pub set_attributes : HasOneReading set_attributes_at set_attributes_text IsSetAttributes
