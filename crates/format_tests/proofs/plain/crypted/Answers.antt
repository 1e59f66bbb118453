use Rattle.std.proofs.Common.{◌≡◌, ℕ, ◌++◌, List, length, ap, ◌∙◌}
use Rattle.std.proofs.lemmas.List.{take_at}
use Rattle.aes_block.specs.KeyExpansion.{aes256}
use Rattle.aes_gcm.specs.Gctr.{gctr}
use Rattle.aes_gcm.specs.Lengths.{length-gctr}
use Rattle.format_tests.proofs.plain.crypted.Goals as goal

pub returns : goal.returns
returns c =
    let cipher : List ℕ → List ℕ = aes256 c.args.keys.now in
    let initial : List ℕ = c.args.initial in
    let all : c.deref_mut.result.now ≡ c.args.text.now =
    c.deref_mut.ensures.value ∙ c.in_ok-extend_from_slice.ensures.items ∙ ap (λ (l : List ℕ). l ++ c.args.text.now) c.new-bytes.ensures.items in
    let done : c.gctr.new.text ≡ gctr cipher initial c.args.text.now = c.gctr.ensures ∙ ap (gctr cipher initial) all in
    let len : length c.gctr.new.text ≡ length c.deref_mut.result.now = ap length c.gctr.ensures ∙ length-gctr cipher initial c.deref_mut.result.now in
    take_at c.gctr.new.text _ c.extend_from_slice.new.self.len (len ∙ c.deref_mut.ensures.len) ∙ done
