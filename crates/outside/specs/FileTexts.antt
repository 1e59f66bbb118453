-- The names of a block directory's own files, as a listing gives them.
use Rattle.std.specs.Prelude.{ℕ, List, ◌∷◌, ◌++◌, take, drop, codes}
use Rattle.block_id.specs.Name.{name_of}
use Rattle.outside.specs.Trace.{At, config, block}

-- the folder's name and the file's in it, joined by `/`, which is 47: a block lies in the folder of its name's first three digits
abbrev pub text_of_file : At → List ℕ
text_of_file config = codes "cryfs.config"
text_of_file (block id) = take 3 (name_of id) ++ 47 ∷ drop 3 (name_of id)
