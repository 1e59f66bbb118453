-- The layout of a payload that holds a node.
use Rattle.std.specs.Prelude.{◌≡◌, ◌<◌, ◌≤◌, ◌-◌, ◌/◌, ◌^◌, ℕ, List, ◌∷◌, ◌++◌, length, map, replicate, All}
use Rattle.std.specs.List.{concat}
use Rattle.std.specs.Int.{w16, w32, to_le_bytes}
use Rattle.block_id.specs.declared.id.BlockId.{BlockId}
use Rattle.block_id.specs.declared.sizes.TheConstants.{MIN_PAYLOAD, MAX_BLOCK}
use Rattle.data_nodes.specs.declared.node.Node.{Node}
use Rattle.data_nodes.specs.declared.node.Node.TheVariants.{Leaf, Inner}

-- a node as plain data: a leaf's bytes, or an inner node's depth and the ids of its children
pub data NodeText : Type 0 where
  leaf : List ℕ → NodeText
  inner : ℕ → List (List ℕ) → NodeText

abbrev pub ids_of : List BlockId → List (List ℕ)
ids_of ids = map (λ id. id.0) ids

abbrev pub node_of : Node → NodeText
node_of (Leaf bytes) = leaf bytes.items
node_of (Inner depth children) = inner depth (ids_of children.items)

-- the bytes behind the header of a payload
abbrev pub room : ℕ → ℕ
room payload = payload - 8

-- how many children a payload has room for
abbrev pub fan_out : ℕ → ℕ
fan_out payload = room payload / 16

abbrev pub IsPayloadLen : ℕ → Type 0
IsPayloadLen payload = (MIN_PAYLOAD ≤ payload) × (payload ≤ MAX_BLOCK)

-- the bounds on a node in a payload of this many bytes
abbrev pub FitsPayload : ℕ → NodeText → Type 0
FitsPayload payload (leaf bytes) = length bytes ≤ room payload
FitsPayload payload (inner depth children) = (0 < depth) × (0 < length children) × (length children ≤ fan_out payload)

-- a u16 0, a zero byte, the depth as a byte, and the size as a u32
abbrev pub header : ℕ → ℕ → List ℕ
header depth size = to_le_bytes w16 0 ++ 0 ∷ depth ∷ to_le_bytes w32 size

-- what stands before the fill: the header with the number of bytes or children, and these
abbrev pub text_of : NodeText → List ℕ
text_of (leaf bytes) = header 0 (length bytes) ++ bytes
text_of (inner depth children) = header depth (length children) ++ concat children

-- how many levels stand below a node
abbrev pub depth_in : NodeText → ℕ
depth_in (leaf bytes) = 0
depth_in (inner depth children) = depth

-- what the header counts
abbrev pub size_of : NodeText → ℕ
size_of (leaf bytes) = length bytes
size_of (inner depth children) = length children

-- the numbers of a node are of the layout's types, and its ids have 16 bytes
abbrev pub HasTypes : NodeText → Type 0
HasTypes (leaf bytes) = length bytes < 2 ^ 32
HasTypes (inner depth children) = (depth < 2 ^ 8) × (length children < 2 ^ 32) × All (λ id. length id ≡ 16) children

-- the payload holds this node: its text, and zeros up to the end
pub record IsNode (payload : List ℕ) (node : NodeText) : Type 0 where
  pub types : HasTypes node
  pub fits : FitsPayload (length payload) node
  pub text : payload ≡ text_of node ++ replicate (length payload - length (text_of node)) 0
