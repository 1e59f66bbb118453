use Rattle.std.proofs.Common.{◌≡◌, List, ℕ, ◌++◌, length, sym, ap, ◌∙◌, arith, length-append}
use Rattle.aes_block.specs.KeyExpansion.{aes256}
use Rattle.aes_gcm.specs.Gctr.{gctr, inc32}
use Rattle.aes_gcm.specs.Lengths.{length-gctr}
use Rattle.aes_gcm.proofs.Ends.{end_of, end_written}
use Rattle.aes_gcm.proofs.gcm_key.append_crypted.Goals as goal

pub returns-clause-ok : goal.returns-clause-ok
returns-clause-ok c =
    let old = c.args.out.now.items in
    let text = c.args.text.now in
    let all = c.deref_mut.result.now in
    let start = c.len-start.result in
    let cipher = aes256 c.args.planes.now in
    let is_all : all ≡ old ++ text = c.deref_mut.ensures.value ∙ c.in_ok-extend_from_slice.ensures.items in
    let is_start : start ≡ length old =
    omega (arith, c.len-start.ensures, c.in_ok-extend_from_slice.ensures.len, c.deref_mut.ensures.len, ap length is_all, length-append old text) in
    let written : c.crypt.new.text ≡ gctr cipher (inc32 c.args.first) text = c.crypt.ensures ∙ ap (gctr cipher (inc32 c.args.first)) (end_of old text all start is_all is_start) in
    end_written old text all c.crypt.new.text _ c.extend_from_slice.new.self.len start is_all is_start (sym c.deref_mut.ensures.len)
    (ap length written ∙ length-gctr cipher (inc32 c.args.first) text)
    ∙ ap (λ (l : List ℕ). old ++ l) written
