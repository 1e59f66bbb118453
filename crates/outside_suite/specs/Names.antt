-- The names that are put, got and removed.
use Rattle.std.specs.Prelude.{ℕ, List, [], ◌∷◌, ◌++◌}
use Rattle.block_id.specs.Contents.{zeros}
use Rattle.outside.specs.declared.change.FileName.{FileName}
use Rattle.outside.specs.declared.change.FileName.TheVariants.{Config, Block}

-- the block whose id begins with these two bytes, ends with this one, and is zeros between
abbrev pub block_of : List ℕ → ℕ → FileName
block_of front last = Block (record { 0 = front ++ (zeros 13 ++ last ∷ []) })

-- the configuration, a block, and blocks of which each differs from that one in one place of its name
abbrev pub six_names : List FileName
six_names =
    Config ∷ block_of (0xA0 ∷ 0x10 ∷ []) 1 ∷ block_of (0xA0 ∷ 0x10 ∷ []) 2 ∷ block_of (0xA0 ∷ 0x11 ∷ []) 1
    ∷ block_of (0xA0 ∷ 0x20 ∷ []) 1 ∷ block_of (0xB0 ∷ 0x10 ∷ []) 1 ∷ []
