-- The header with which a blob begins.
use Rattle.std.specs.Prelude.{◌≡◌, ℕ, List, ◌∷◌, ◌++◌, length, drop}
use Rattle.std.specs.Int.{w16, to_le_bytes}
use Rattle.fs_model.specs.declared.attr.Kind.{Kind}
use Rattle.fs_blobs.specs.declared.header.TheConstants.{HEADER_LEN}
use Rattle.fs_model.specs.Kinds.{byte_of}

-- a u16 1, the kind's byte and the parent's id
abbrev pub header_text : Kind → List ℕ → List ℕ
header_text kind parent = to_le_bytes w16 1 ++ byte_of kind ∷ parent

-- a blob of this kind, parent and body
abbrev pub blob : Kind → List ℕ → List ℕ → List ℕ
blob kind parent body = header_text kind parent ++ body

-- the bytes begin with this header, and an id has 16 bytes
pub record BeginsWith (bytes : List ℕ) (kind : Kind) (parent : List ℕ) : Type 0 where
  pub id : length parent ≡ 16
  pub text : bytes ≡ blob kind parent (drop HEADER_LEN bytes)
