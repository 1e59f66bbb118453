use Rattle.std.proofs.Common.{true, false, refl, drop, sym, ◌∙◌, arith, length-drop}
use Rattle.std.proofs.lemmas.List.{length-take-le}
use Rattle.config_file.specs.Format.{begins_with, cipher_field}
use Rattle.config_file.proofs.Sealed.{begins_after, both_right, sealed_by}
use Rattle.config_file.proofs.format.sealed_from.Goals as goal

pub returns-then-not-starts_with-clause-value : goal.returns-then-not-starts_with-clause-value
returns-then-not-starts_with-clause-value c =
    let inner = c.args.inner.now in
    sym (sealed_by inner false (begins_with (drop 21 inner) cipher_field) (sym c.starts_with.ensures.value ∙ c.if-not-starts_with.true) refl)

pub returns-then-not-names_cipher-clause-value : goal.returns-then-not-names_cipher-clause-value
returns-then-not-names_cipher-clause-value c =
    let inner = c.args.inner.now in
    let cipher = begins_after inner cipher_field 21 false (sym c.names_cipher.ensures ∙ c.if-not-names_cipher.true) in
    sym (sealed_by inner true false (sym c.starts_with.ensures.value ∙ c.if-not-starts_with.false) cipher)

pub returns-clause-value : goal.returns-clause-value
returns-clause-value c =
    let inner = c.args.inner.now in
    let cipher = begins_after inner cipher_field 21 true (sym c.names_cipher.ensures ∙ c.if-not-names_cipher.false) in
    sym (both_right inner (sym c.starts_with.ensures.value ∙ c.if-not-starts_with.false) cipher)

pub returns-clause-len : goal.returns-clause-len
returns-clause-len c =
    let inner = c.args.inner.now in
    length-take-le 932 (drop 33 inner) (omega (arith, length-drop 33 inner, c.requires))
