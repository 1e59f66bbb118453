-- Drafts: what stands in the unwritten list for the file of a block that isn't sealed yet.
use Rattle.std.specs.Prelude.{◌≡◌, ℕ, ◌+◌, ◌-◌, ◌≤◌, nat_lt, Bool, List, ◌++◌, length, take, drop, map, replicate, if◌then◌else◌}
use Rattle.std.specs.List.{AllByRecursion}
use Rattle.std.specs.declared.option.Option.{Option}
use Rattle.std.specs.declared.option.Option.TheVariants.{None, Some}
use Rattle.block_id.specs.Formats.{format_in, prefix_of}
use Rattle.block_id.specs.declared.format.Format.TheVariants.{WithId}
use Rattle.outside.specs.Trace.{At, config, block}
use Rattle.outside.specs.Changes.{FileChanges}
use Rattle.sealed_store.specs.BlockFiles.{SeenFile, absent, old_format, plain, opens_file}

-- these bytes, filled up with zeros to so many
abbrev pub filled : ℕ → List ℕ → List ℕ
filled len front = front ++ replicate (len - length front) 0

-- A draft is the front of a plaintext, then the IV. The plaintext is that front, filled up with zeros.
pub record IsDraft (size : ℕ) (draft : List ℕ) : Type 0 where
  pub iv : 16 ≤ length draft
  pub front : length draft + 32 ≤ size

abbrev pub front_in : List ℕ → List ℕ
front_in draft = take (length draft - 16) draft

abbrev pub plain_in : ℕ → List ℕ → List ℕ
plain_in size draft = filled (size - 48) (front_in draft)

abbrev pub iv_in_draft : List ℕ → List ℕ
iv_in_draft draft = drop (length draft - 16) draft

-- the sealed text of an IV, extra bytes and a plaintext
abbrev pub Seal : Type 0
Seal = List ℕ → List ℕ → List ℕ → List ℕ

-- the file of this block that a draft is sealed to
abbrev pub sealed_as : Seal → ℕ → List ℕ → List ℕ → List ℕ
sealed_as seal size id draft = prefix_of WithId ++ seal (iv_in_draft draft) id (plain_in size draft)

-- what a change of this name is when its draft is sealed; only block files are drafts
abbrev pub sealed_change : Seal → ℕ → At → Option (List ℕ) → Option (List ℕ)
sealed_change seal size config change = change
sealed_change seal size (block id) None = None
sealed_change seal size (block id) (Some draft) = Some (sealed_as seal size id draft)

abbrev pub sealed_entry : Seal → ℕ → At × Option (List ℕ) → At × Option (List ℕ)
sealed_entry seal size entry = (entry.0, sealed_change seal size entry.0 entry.1)

-- what a list is told as, whose entries may be drafts
abbrev pub told_list : Bool → Seal → ℕ → FileChanges → FileChanges
told_list drafts seal size list = if drafts then map (sealed_entry seal size) list else list

-- a change of this name may be a draft's: it isn't that of a block, it is a removal, or a draft
abbrev pub MayBeDraft : ℕ → At → Option (List ℕ) → Type 0
MayBeDraft size config change = Unit {0}
MayBeDraft size (block id) None = Unit {0}
MayBeDraft size (block id) (Some draft) = IsDraft size draft

abbrev pub AreDrafts : ℕ → FileChanges → Type 0
AreDrafts size list = AllByRecursion (λ entry. MayBeDraft size entry.0 entry.1) list

-- how the file is seen that a draft's change is sealed to, by the least number of a format that is taken
abbrev pub seen_draft : ℕ → ℕ → Option (List ℕ) → SeenFile
seen_draft size least None = absent
seen_draft size least (Some draft) = if nat_lt 2 least then old_format else plain (plain_in size draft)

-- a file of this block in format 2, with this IV, that opens to this plaintext
pub record IsBlockFile (opens : List ℕ → List ℕ → Option (List ℕ)) (size : ℕ) (id plain iv file : List ℕ) : Type 0 where
  pub len : length file ≡ size
  pub prefix : take 16 file ≡ prefix_of WithId
  pub format : format_in file ≡ Some WithId
  pub has_iv : take 16 (drop 16 file) ≡ iv
  pub opened : opens_file opens size id file ≡ Some plain

-- a draft of this plaintext and IV, and the file that it is sealed to as whichever block's
pub record IsDraftOf (opens : List ℕ → List ℕ → Option (List ℕ)) (seal : Seal) (size : ℕ) (plain iv draft : List ℕ) : Type 0 where
  pub short : IsDraft size draft
  pub has_plain : plain_in size draft ≡ plain
  pub has_iv : iv_in_draft draft ≡ iv
  pub file : (id : List ℕ) → IsBlockFile opens size id plain iv (sealed_as seal size id draft)
