-- The five lines need no memory beyond 256 bytes.
use Rattle.std.proofs.Common.{◌≡◌, ◌≤◌, ◌+◌, ◌<◌, ℕ, ◌^◌, List, ◌++◌, length, arith, length-append, codes}
use Rattle.std.specs.Fmt.{decimal}
use Rattle.std.specs.Prelude.{Result, OnErr}
use Rattle.std.specs.declared.result.Result.TheVariants.{Ok, Err}
use Rattle.block_id.specs.Name.{name_of}
use Rattle.block_id.proofs.Names.{length-name_of}
use Rattle.mount_migrating.specs.script_text.Texts.{line, word}
use Rattle.run_frame.proofs.answers_lemmas.Short.{decimal_short}
use Rattle.scrypt_kdf.specs.Cost.{Cost}
use Rattle.run_frame.specs.config_file.Settings.{Settings, cipher_name}
use Rattle.run_frame.specs.config_file.declared.config.Cipher.{Cipher}
use Rattle.run_frame.specs.config_file.declared.config.Cipher.TheVariants.{Aes256Gcm}
use Rattle.setup_runs.specs.InfoText.{info_text}
use Rattle.setup_runs.specs.MigrateText.{count_text}

cipher_short : (c : Cipher) → length (codes "cipher " ++ cipher_name c) ≤ 18
cipher_short Aes256Gcm = omega arith

pub info_short : (s : Settings) (cost : Cost) → length s.fs_id ≡ 16 → length s.root ≡ 16 → s.block_size < 2 ^ 64 → cost.n < 2 ^ 64 → cost.r < 2 ^ 64 → cost.p < 2 ^ 64 → length (info_text s cost) ≤ 256
info_short s cost fs_id root size n r p =
    sums (name_of s.fs_id) (name_of s.root) (codes "cipher " ++ cipher_name s.cipher) (decimal s.block_size) (decimal cost.n) (decimal cost.r) (decimal cost.p)
    (length-name_of s.fs_id fs_id) (length-name_of s.root root) (cipher_short s.cipher) (decimal_short s.block_size size) (decimal_short cost.n n) (decimal_short cost.r r) (decimal_short cost.p p)
  where
    sums : (a b d e f g h : List ℕ) → length a ≡ 32 → length b ≡ 32 → length d ≤ 18 → length e ≤ 20 → length f ≤ 20 → length g ≤ 20 → length h ≤ 20
        → length ((line (codes "filesystem " ++ a) ++ line (codes "root " ++ b)) ++ (line d ++ line (codes "blocksize" ++ word e) ++ line (codes "scrypt" ++ word f ++ word g ++ word h))) ≤ 256
    sums a b d e f g h la lb ld le lf lg lh = simp length-append (omega arith)

-- nor does the line of a number of blocks
count_short : (n : ℕ) → n < 2 ^ 64 → length (count_text n) ≤ 256
count_short n fits = sums (decimal n) (decimal_short n fits)
  where
    sums : (d : List ℕ) → length d ≤ 20 → length (line (codes "migrated" ++ word d)) ≤ 256
    sums d l = simp length-append (omega (arith, l))

-- and where there was no room for it there wasn't for 256 bytes
pub count_wants : {E : Type 0} (result : Result Unit E) (room len items n : ℕ) → items ≡ len → n < 2 ^ 64 → OnErr result (room < items + length (count_text n)) → OnErr result (room < len + 256)
count_wants (Ok u) room len items n same fits full = tt
count_wants (Err e) room len items n same fits full = let short = count_short n fits in omega (arith, same, short, full)
