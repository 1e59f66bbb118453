use Rattle.scrypt_kdf.proofs.Lanes.{words_of_bytes}
use Rattle.scrypt_kdf.proofs.salsa.words.Goals as goal

pub returns : goal.returns
returns c = words_of_bytes c.args.x c.fits-x.0 c.fits-x.1
