use Rattle.std.proofs.Common.{◌≡◌, ℕ, List, [], ◌++◌, ap, ◌∙◌, rules}
use Rattle.std.specs.List.{slice_range}
use Rattle.aes_gcm.specs.Gcm.{sealed_of}
use Rattle.config_file.specs.Format.{cipher_field, inner_front}
use Rattle.config_file.specs.Sealing.{inner_text}
use Rattle.config_file.proofs.seal.inner_part.Goals as goal

pub returns : goal.returns
unfolding inner_text
returns c =
    let empty : c.in_ok-part.part.items ≡ [] = search rules in
    let front = c.in_ok-extend_from_slice.ensures.items ∙ ap (λ (l : List ℕ). l ++ inner_front) empty in
    let named = c.in_ok-extend_from_slice-2.ensures.items ∙ ap (λ (l : List ℕ). l ++ cipher_field) front in
    let sealed = c.in_ok-append_sealed.ensures.ok ∙ ap (λ (l : List ℕ). l ++ sealed_of c.args.keys.now.inner c.args.iv.now [] c.args.innermost.now) named in
    c.in_ok-extend_from_slice-3.ensures.items ∙ ap (λ (l : List ℕ). l ++ slice_range c.args.fill.now 900 959) sealed
