-- The random bytes of a new file system, and of a new password.
use Rattle.rand_core.specs.Stream.{Stream, fill_bytes}
use Rattle.config_file.specs.declared.seal.SealDraws.{SealDraws}
use Rattle.mount_stores.specs.declared.draws.Draws.{Draws}

-- what seals a configuration: each is one fill, in this order, and a stream is left
abbrev pub seal_drawn : Stream → SealDraws × Stream
seal_drawn stream =
    let scrypt_salt = fill_bytes 32 stream in
    let fill = fill_bytes 960 scrypt_salt.1 in
    let inner_iv = fill_bytes 16 fill.1 in
    let outer_iv = fill_bytes 16 inner_iv.1 in
    (record { scrypt_salt = scrypt_salt.0; fill = fill.0; inner_iv = inner_iv.0; outer_iv = outer_iv.0 }, outer_iv.1)

-- what a file system is made of, and what seals its configuration
abbrev pub drawn : Stream → Draws × Stream
drawn stream =
    let fs_id = fill_bytes 16 stream in
    let root = fill_bytes 16 fs_id.1 in
    let key = fill_bytes 32 root.1 in
    let key_salt = fill_bytes 32 key.1 in
    let seal = seal_drawn key_salt.1 in
    (record { fs_id = fs_id.0; root = root.0; key = key.0; key_salt = key_salt.0; seal = seal.0 }, seal.1)
