use Rattle.std.proofs.Common.{sym, ap, ◌∙◌}
use Rattle.scrypt_kdf.specs.Rows.{quarters}
use Rattle.scrypt_kdf.specs.Scrypt.{xor_bytes}
use Rattle.scrypt_kdf.proofs.Sixteen.{sixty_four}
use Rattle.scrypt_kdf.proofs.salsa.xor.Goals as goal

pub returns : goal.returns
returns c = λ b d long long' same same'.
    rw (same ∙ ap quarters (sixty_four b long), same' ∙ ap quarters (sixty_four d long'))
    (λ t. quarters (xor_bytes (sym (sixty_four b long) t) (sym (sixty_four d long') t)))
