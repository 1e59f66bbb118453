use Rattle.std.proofs.Common.{[], ◌≡◌, ℕ, List, None, Some, sym, ap, ◌∙◌, Vec, Global}
use Rattle.std.proofs.lemmas.Result.{IfOk-weaker}
use Rattle.std.specs.Option.{option_map}
use Rattle.aes_gcm.specs.Gcm.{opened_of}
use Rattle.config_file.proofs.Held.{held, is_opened, not_held, not_opened, not_sealed}
use Rattle.config_file.specs.ConfigOf.{json_in}
use Rattle.config_file.specs.Format.{text_in}
use Rattle.config_file.specs.Settings.{settings_of}
use Rattle.config_file.proofs.open.held_config.Goals as goal

pub returns-in_default-clause-holds : goal.returns-in_default-clause-holds
returns-in_default-clause-holds c =
    let key = c.args.key.now in
    let part = c.args.part.now in
    not_held key part (not_sealed key part (sym c.in_default.ensures.value))

pub returns-in_default-2-clause-holds : goal.returns-in_default-2-clause-holds
returns-in_default-2-clause-holds c =
    let key = c.args.key.now in
    let part = c.args.part.now in
    let sealed = c.in-Some.sealed.now in
    let shut : opened_of key [] sealed ≡ None = sym c.in_ok-innermost.ensures.plain ∙ ap (option_map {T = Vec ℕ Global} {U = List ℕ} (λ plain. plain.items)) c.in_default-2.is in
    not_held key part (not_opened key part sealed (sym c.in-Some.ensures.value) shut)

pub returns-in_default-text_from-clause-holds : goal.returns-in_default-text_from-clause-holds
returns-in_default-text_from-clause-holds c =
    let key = c.args.key.now in
    let part = c.args.part.now in
    let sealed = c.in-Some.sealed.now in
    let innermost = c.in-Some-2.innermost.items in
    let opens : opened_of key [] sealed ≡ Some innermost = sym c.in_ok-innermost.ensures.plain ∙ ap (option_map {T = Vec ℕ Global} {U = List ℕ} (λ plain. plain.items)) c.in-Some-2.is in
    let none : json_in key part ≡ None = is_opened key part sealed innermost (sym c.in-Some.ensures.value) opens ∙ ap text_in (sym c.deref.ensures.value) ∙ sym c.in_default-text_from.ensures in
    not_held key part none

pub returns-clause-holds : goal.returns-clause-holds
returns-clause-holds c =
    let key = c.args.key.now in
    let part = c.args.part.now in
    let sealed = c.in-Some.sealed.now in
    let innermost = c.in-Some-2.innermost.items in
    let text = c.in-Some-text_from.text.now in
    let opens : opened_of key [] sealed ≡ Some innermost = sym c.in_ok-innermost.ensures.plain ∙ ap (option_map {T = Vec ℕ Global} {U = List ℕ} (λ plain. plain.items)) c.in-Some-2.is in
    let some : json_in key part ≡ Some text = is_opened key part sealed innermost (sym c.in-Some.ensures.value) opens ∙ ap text_in (sym c.deref.ensures.value) ∙ sym c.in-Some-text_from.ensures in
    IfOk-weaker c.config_from.result _ _ (λ answer iff. held key part text (option_map settings_of answer) some iff) c.config_from.ensures.reads
