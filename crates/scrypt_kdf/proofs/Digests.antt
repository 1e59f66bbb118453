-- The lengths of digests.
use Rattle.std.proofs.Common.{◌≡◌, ℕ, List, length, refl}
use Rattle.sha2.specs.Sha256.{sha256, digest_bytes, final_hash, initial_hash_256}

pub length-digest_bytes : (h : List ℕ) → length (digest_bytes h 8) ≡ 32
unfolding digest_bytes
length-digest_bytes h = refl

pub length-sha256 : (m : List ℕ) → length (sha256 m) ≡ 32
unfolding sha256
length-sha256 m = length-digest_bytes (final_hash initial_hash_256 m)
