-- What a store of sealed blocks was made with, and what it sees.
use Rattle.std.specs.Prelude.{◌≡◌, ℕ, ◌+◌, ◌≤◌, List}
use Rattle.std.specs.declared.option.Option.{Option}
use Rattle.std.specs.declared.option.Option.TheVariants.{None}
use Rattle.block_id.specs.declared.sizes.TheConstants.{MIN_BLOCK, MAX_BLOCK}
use Rattle.outside.specs.Trace.{Call, block}
use Rattle.outside.specs.declared.vault.GetFail.{GetFail}
use Rattle.outside.specs.declared.vault.GetFail.TheVariants.{Memory, Failed}
use Rattle.redo_vault.specs.Redo.{Redo, Gave}
use Rattle.sealed_store.specs.declared.seen.Seen.{Seen}
use Rattle.sealed_store.specs.declared.seen.Seen.TheVariants.{Absent, BadLength, BadPrefix, OldFormat, NotOpened, Plain}
use Rattle.sealed_store.specs.BlockFiles.{SeenFile, absent, bad_length, bad_prefix, old_format, not_opened, plain, front_seen, seen_file_in, IsWhole}

abbrev pub seen_file_of : Seen → SeenFile
seen_file_of Absent = absent
seen_file_of BadLength = bad_length
seen_file_of BadPrefix = bad_prefix
seen_file_of OldFormat = old_format
seen_file_of NotOpened = not_opened
seen_file_of (Plain bytes) = plain bytes.items

-- a block size within its limits, and an IV of 16 bytes
pub record IsIntact (block_size iv_size : ℕ) : Type 0 where
  pub least : MIN_BLOCK ≤ block_size
  pub most : block_size ≤ MAX_BLOCK
  pub iv : iv_size ≡ 16

-- a directory of sealed files with its unwritten list, and the parts that its store was made of
pub record Sealed (V C : Type 0) : Type 0 where
  pub vault : Redo V
  pub cipher : C
  pub key : List ℕ
  pub block_size : ℕ

abbrev pub block_size_of : {V C : Type 0} → Sealed V C → ℕ
block_size_of s = s.block_size

abbrev pub key_of : {V C : Type 0} → Sealed V C → List ℕ
key_of s = s.key

abbrev pub cipher_of : {V C : Type 0} → Sealed V C → C
cipher_of s = s.cipher

-- The file of a block, by what the list says of it or else by one call, was asked for with one byte more than a file has. It is seen so, of a plaintext no
-- more than so many first bytes.
pub record Sees (opens : List ℕ → List ℕ → Option (List ℕ)) (block_size least most : ℕ) (change : Option (Option (List ℕ))) (old new : Option (List Call)) (id : List ℕ) (sight : SeenFile) : Type 0 where
  pub answer : Option (List ℕ)
  pub gave : Gave change old new (block id) (block_size + 1) answer
  pub shows : sight ≡ front_seen most (seen_file_in opens block_size least id answer)
  pub whole : IsWhole block_size (seen_file_in opens block_size least id answer)

-- Nothing is seen, and no file came: memory was wanting, or the directory failed, as it was asked for what doesn't wait.
abbrev pub Unseen : Option (Option (List ℕ)) → Option (List Call) → Option (List Call) → GetFail → Type 0
Unseen change old new Memory = new ≡ old
Unseen change old new Failed = (new ≡ old) × (change ≡ None)
