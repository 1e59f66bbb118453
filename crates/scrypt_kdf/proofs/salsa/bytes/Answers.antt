use Rattle.std.proofs.lemmas.Simd.{below_from_Fits}
use mir.Syntax.{w32}
use Rattle.scrypt_kdf.proofs.Lanes.{bytes_of_row}
use Rattle.scrypt_kdf.proofs.salsa.bytes.Goals as goal

pub returns : goal.returns
returns c = bytes_of_row c.args.x c.fits-x.0 (below_from_Fits w32 c.args.x c.fits-x.1)
