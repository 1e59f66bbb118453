-- What `info` prints.
use Rattle.std.specs.Prelude.{ℕ, List, ◌++◌, codes}
use Rattle.std.specs.Fmt.{decimal}
use Rattle.block_id.specs.Name.{name_of}
use Rattle.run_frame.specs.config_file.Settings.{Settings, cipher_name}
use Rattle.mount_migrating.specs.script_text.Texts.{line, word}
use Rattle.scrypt_kdf.specs.Cost.{Cost}

-- the lines of both ids
abbrev pub ids_text : Settings → List ℕ
ids_text s = line (codes "filesystem " ++ name_of s.fs_id) ++ line (codes "root " ++ name_of s.root)

-- the lines of the cipher, the blocks' size and the parameters
abbrev pub sealing_text : Settings → Cost → List ℕ
sealing_text s cost =
    line (codes "cipher " ++ cipher_name s.cipher)
    ++ line (codes "blocksize" ++ word (decimal s.block_size))
    ++ line (codes "scrypt" ++ word (decimal cost.n) ++ word (decimal cost.r) ++ word (decimal cost.p))

-- the five lines that are printed
abbrev pub info_text : Settings → Cost → List ℕ
info_text s cost = ids_text s ++ sealing_text s cost
