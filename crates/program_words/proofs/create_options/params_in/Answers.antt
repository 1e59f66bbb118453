use Rattle.std.proofs.Common.{ℕ, Option, Some, None, cond, ◌∙◌, option_and_then}
use Rattle.scrypt_kdf.specs.Cost.{Cost}
use Rattle.program_words.proofs.Powers.{made}
use Rattle.program_words.specs.CreateOptions.{cost_at, is_power}
use Rattle.program_words.proofs.create_options.params_in.Goals as goal

abbrev cost_of : Option ℕ → Option ℕ → Option ℕ → Option Cost
cost_of ns rs ps =
    option_and_then (λ n. option_and_then (λ r. option_and_then (λ p. cond (is_power n) (Some (record { n = n; r = r; p = p })) None) ps) rs) ns

pub returns : goal.returns
unfolding cost_at
returns c =
    c.ok.ensures.value
    ∙ made c.in_ok-n.n c.in_ok-r.r c.in_ok-p.p c.in_ok-r.ensures.bounds c.in_ok-p.ensures.bounds c.new.result c.new.ensures.ok c.new.ensures.allowed
    ∙ (λ i. cost_of (c.in_ok-n.ensures i) (c.in_ok-r.ensures.value i) (c.in_ok-p.ensures.value i))
