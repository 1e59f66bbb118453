use Rattle.std.proofs.Common.{◌≡◌, ℕ, List, None, Some, sym, ap, ◌∙◌, subst, Vec, Global}
use Rattle.std.specs.Option.{option_map}
use Rattle.config_file.proofs.Held.{opens_part}
use Rattle.config_file.specs.ConfigOf.{HoldsSettings, key_in}
use Rattle.config_file.specs.Format.{inner_in, inner_key, salt_in}
use Rattle.config_file.specs.Settings.{Settings, settings_of}
use Rattle.config_file.proofs.open.opened_by.Goals as goal

pub returns-in_default-clause-locked : goal.returns-in_default-clause-locked
returns-in_default-clause-locked c =
    let password = c.args.password.now in
    let bytes = c.args.bytes.now in
    let shut : inner_in password bytes ≡ None =
    sym (opens_part password bytes c.args.params.now c.in_ok-keys.keys.outer c.requires.cost c.in_ok-keys.ensures.outer)
    ∙ sym c.in_ok-part.ensures.plain ∙ ap (option_map {T = Vec ℕ Global} {U = List ℕ} (λ plain. plain.items)) c.in_default.is in
    λ _. (c.requires.form, shut)

pub returns-in-Some-2-clause-found : goal.returns-in-Some-2-clause-found
returns-in-Some-2-clause-found c =
    let password = c.args.password.now in
    let bytes = c.args.bytes.now in
    let part = c.in-Some.part.items in
    let s : Settings = settings_of c.in-Some-2.config in
    let opens : inner_in password bytes ≡ Some part =
    sym (opens_part password bytes c.args.params.now c.in_ok-keys.keys.outer c.requires.cost c.in_ok-keys.ensures.outer)
    ∙ sym c.in_ok-part.ensures.plain ∙ ap (option_map {T = Vec ℕ Global} {U = List ℕ} (λ plain. plain.items)) c.in-Some.is in
    let key : c.in_ok-keys.keys.inner ≡ key_in password bytes = c.in_ok-keys.ensures.inner ∙ ap (inner_key password (salt_in bytes)) c.requires.cost in
    let has = (c.in_ok-config.ensures.holds s).0 (ap (option_map settings_of) c.in-Some-2.is) in
    let holds = subst (λ (k : List ℕ). HoldsSettings k part s) key (subst (λ (p : List ℕ). HoldsSettings c.in_ok-keys.keys.inner p s) c.deref.ensures.value has) in
    (c.requires.form, c.requires.cost, (part, opens, holds))

pub returns-clause-inner : goal.returns-clause-inner
returns-clause-inner c =
    let password = c.args.password.now in
    let bytes = c.args.bytes.now in
    let part = c.in-Some.part.items in
    let opens : inner_in password bytes ≡ Some part =
    sym (opens_part password bytes c.args.params.now c.in_ok-keys.keys.outer c.requires.cost c.in_ok-keys.ensures.outer)
    ∙ sym c.in_ok-part.ensures.plain ∙ ap (option_map {T = Vec ℕ Global} {U = List ℕ} (λ plain. plain.items)) c.in-Some.is in
    let key : c.in_ok-keys.keys.inner ≡ key_in password bytes = c.in_ok-keys.ensures.inner ∙ ap (inner_key password (salt_in bytes)) c.requires.cost in
    λ _. (
      c.requires.form,
      (
        part,
        opens,
        λ s holds.
            let has = subst (λ (p : List ℕ). HoldsSettings c.in_ok-keys.keys.inner p s) (sym c.deref.ensures.value) (subst (λ (k : List ℕ). HoldsSettings k part s) (sym key) holds) in
            let wrong : None ≡ Some s = sym (ap (option_map settings_of) c.in-None.is) ∙ (c.in_ok-config.ensures.holds s).1 has in
            absurd (cc wrong),
      ),
    )
