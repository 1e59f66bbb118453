-- The head of the node that a payload holds stands in its front.
use Rattle.std.proofs.Common.{◌≡◌, ℕ, ◌^◌, ◌<◌, List, ◌++◌, take, drop, refl, sym, ap, ◌∙◌, arith}
use Rattle.std.specs.Prelude.{Option, Some, None}
use Rattle.std.proofs.lemmas.List.{take-append-drop}
use Rattle.byte_fields.specs.Fields.{IsBytes}
use Rattle.data_nodes.specs.Layout.{NodeText, leaf, inner, header, depth_in, size_of, HasTypes, IsNode}
use Rattle.data_nodes.specs.Reading.{contents_at, node_at}
use Rattle.data_nodes.proofs.Fields.{header_again}
use Rattle.data_nodes.proofs.Laws.{node_takes}

pub head_of : (payload : List ℕ) (node : NodeText) → IsNode payload node → take 8 payload ≡ header (depth_in node) (size_of node)
head_of payload (leaf bytes) is = ap (take 8) is.text
head_of payload (inner depth children) is = ap (take 8) is.text

pub depth_small : (node : NodeText) → HasTypes node → depth_in node < 2 ^ 8
depth_small (leaf bytes) types = omega arith
depth_small (inner depth children) types = types.0

pub size_small : (node : NodeText) → HasTypes node → size_of node < 2 ^ 32
size_small (leaf bytes) types = types
size_small (inner depth children) types = types.1

-- ---- for the code's answers

-- a payload that begins with a head holds what its contents are of that head
pub headed : (payload : List ℕ) (depth size : ℕ) → size < 2 ^ 32 → take 8 payload ≡ header depth size → node_at payload ≡ contents_at depth size (drop 8 payload)
headed payload depth size small front =
    ap node_at (sym (take-append-drop 8 payload) ∙ ap (λ text. text ++ drop 8 payload) front) ∙ header_again depth size (drop 8 payload) small

-- a payload that begins with none holds no node
pub headless : (payload : List ℕ) → IsBytes payload → ((depth size : ℕ) → depth < 2 ^ 8 → size < 2 ^ 32 → take 8 payload ≡ header depth size → ⊥) → node_at payload ≡ None
headless payload fits none = by (node_at payload) refl
  where
    by : (found : Option NodeText) → node_at payload ≡ found → found ≡ None
    by None e = refl
    by (Some node) e =
        let is = node_takes payload node fits e in
        absurd (none (depth_in node) (size_of node) (depth_small node is.types) (size_small node is.types) (head_of payload node is))
