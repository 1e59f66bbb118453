-- Reading from left to right, as a function of the bytes.
use Rattle.std.specs.Prelude.{ℕ, zero, suc, ◌*◌, ◌/◌, Bool, not, ◌||◌, List, [], ◌∷◌, length, take, drop, slice_index, Option, Some, None, nat_lt, ◌==◌, if◌then◌else◌}
use Rattle.std.specs.List.{list_all}
use Rattle.std.specs.Int.{w16, w32, from_le_bytes}
use Rattle.data_nodes.specs.Layout.{NodeText, leaf, inner}

abbrev pub is_zeros : List ℕ → Bool
is_zeros bytes = list_all (λ byte. byte == 0) bytes

-- the ids that stand one after the other
abbrev pub cut : ℕ → List ℕ → List (List ℕ)
cut zero bytes = []
cut (suc count) bytes = take 16 bytes ∷ cut count (drop 16 bytes)

unfoldable pub leaf_in : ℕ → List ℕ → Option NodeText
leaf_in size contents =
    if nat_lt (length contents) size || not (is_zeros (drop size contents)) then None
    else Some (leaf (take size contents))

unfoldable pub inner_in : ℕ → ℕ → List ℕ → Option NodeText
inner_in depth size contents =
    if size == 0 || nat_lt (length contents / 16) size || not (is_zeros (drop (size * 16) contents)) then None
    else Some (inner depth (cut size (take (size * 16) contents)))

abbrev pub contents_at : ℕ → ℕ → List ℕ → Option NodeText
contents_at depth size contents = if depth == 0 then leaf_in size contents else inner_in depth size contents

unfoldable pub node_at : List ℕ → Option NodeText
node_at payload =
    if nat_lt (length payload) 8 || not (from_le_bytes w16 (take 2 payload) == 0) || not (slice_index payload 2 == 0) then None
    else contents_at (slice_index payload 3) (from_le_bytes w32 (take 4 (drop 4 payload))) (drop 8 payload)
