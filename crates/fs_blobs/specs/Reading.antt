-- Reading a header, as a function of the bytes.
use Rattle.std.specs.Prelude.{ℕ, List, [], ◌∷◌, Option, None, option_and_then, not, ◌==◌, if◌then◌else◌}
use Rattle.std.specs.Option.{option_map}
use Rattle.std.specs.Int.{w16}
use Rattle.byte_fields.specs.Fields.{front_at, number_at}
use Rattle.fs_model.specs.declared.attr.Kind.{Kind}
use Rattle.fs_blobs.specs.declared.header.Header.{Header}
use Rattle.fs_model.specs.Kinds.{kind_at}

abbrev pub parts_of : Header → Kind × List ℕ
parts_of h = (h.kind, h.parent.0)

-- the kind's byte and the parent's id
abbrev pub parts_at : List ℕ → Option (Kind × List ℕ)
parts_at [] = None
parts_at (byte ∷ rest) = option_and_then (λ kind. option_map (λ parent. (kind, parent.0)) (front_at 16 rest)) (kind_at byte)

unfoldable pub header_at : List ℕ → Option (Kind × List ℕ)
header_at bytes = option_and_then (λ format. if not (format.0 == 1) then None else parts_at format.1) (number_at w16 bytes)
