use Rattle.std.proofs.Common.{[], ◌≡◌, ℕ, List, ◌++◌, ap, ◌∙◌, rules, sym, subst}
use Rattle.aes_gcm.specs.Gcm.{sealed_of}
use Rattle.config_file.proofs.Opening.{config_text-opens}
use Rattle.config_file.specs.ConfigOf.{IsOnly, opened}
use Rattle.config_file.specs.Json.{json_text}
use Rattle.config_file.specs.Sealing.{AreFit, Inputs, config_text, inner_text, innermost_text}
use Rattle.config_file.specs.Settings.{settings_of}
use Rattle.config_file.proofs.seal.seal_config.Goals as goal

pub returns-clause-text : goal.returns-clause-text
unfolding config_text
returns-clause-text c =
    let draws = c.args.draws.now in
    let fill = draws.fill in
    let json : c.deref.result.now ≡ json_text (settings_of c.args.config.now) = c.deref.ensures.value ∙ c.in_ok-json.ensures.text in
    let innermost : c.deref-2.result.now ≡ innermost_text (json_text (settings_of c.args.config.now)) fill =
    c.deref-2.ensures.value ∙ c.in_ok-innermost.ensures ∙ ap (λ (t : List ℕ). innermost_text t fill) json in
    let inner = c.deref-3.ensures.value ∙ c.in_ok-inner.ensures ∙ (λ i. inner_text (c.in_ok-keys.ensures.inner i) draws.inner_iv (innermost i) fill) in
    c.in_ok-append_sealed.ensures.ok ∙ (λ i. c.in_ok-out.ensures.text i ++ sealed_of (c.in_ok-keys.ensures.outer i) draws.outer_iv [] (inner i))

pub returns-clause-opens : goal.returns-clause-opens
returns-clause-opens c =
    let inputs : Inputs = record {
      password = c.args.password.now;
      cost = c.args.params.now;
      salt = c.args.draws.now.scrypt_salt;
      fill = c.args.draws.now.fill;
      inner_iv = c.args.draws.now.inner_iv;
      outer_iv = c.args.draws.now.outer_iv;
    } in
    let fit : AreFit inputs = record { cost = c.in_ok-out.ensures.allowed; salt = search rules; fill = search rules; inner_iv = search rules; outer_iv = search rules } in
    let only = config_text-opens inputs (settings_of c.args.config.now) fit c.in_ok-json.ensures.limits in
    subst (λ (text : List ℕ). IsOnly inputs.password text (opened (settings_of c.args.config.now) inputs.cost)) (sym (returns-clause-text c)) only
