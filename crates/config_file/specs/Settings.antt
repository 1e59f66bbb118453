-- What a configuration says.
use Rattle.std.specs.Prelude.{ℕ, ◌≡◌, ◌≤◌, List, codes, length}
use Rattle.hex.specs.Hex.{IsBytes}
use Rattle.block_id.specs.declared.sizes.TheConstants.{MIN_BLOCK, MAX_BLOCK}
use Rattle.config_file.specs.declared.config.Cipher.{Cipher}
use Rattle.config_file.specs.declared.config.Cipher.TheVariants.{Aes256Gcm}
use Rattle.config_file.specs.declared.config.Config.{Config}

-- a configuration, with its ids as their bytes
pub record Settings : Type 0 where
  pub root : List ℕ
  pub key : List ℕ
  pub cipher : Cipher
  pub block_size : ℕ
  pub fs_id : List ℕ

abbrev pub settings_of : Config → Settings
settings_of c = record { root = c.root.0; key = c.key; cipher = c.cipher; block_size = c.block_size; fs_id = c.fs_id.0 }

abbrev pub cipher_name : Cipher → List ℕ
cipher_name Aes256Gcm = codes "aes-256-gcm"

-- a block has 128 to 1,048,576 bytes
pub record IsBlockSize (size : ℕ) : Type 0 where
  pub low : MIN_BLOCK ≤ size
  pub high : size ≤ MAX_BLOCK

pub record AreBytes (len : ℕ) (bytes : List ℕ) : Type 0 where
  pub size : length bytes ≡ len
  pub fit : IsBytes bytes

-- a block size in range, and ids and a key of their sizes
pub record AreInLimits (s : Settings) : Type 0 where
  pub root : AreBytes 16 s.root
  pub key : AreBytes 32 s.key
  pub block_size : IsBlockSize s.block_size
  pub fs_id : AreBytes 16 s.fs_id
