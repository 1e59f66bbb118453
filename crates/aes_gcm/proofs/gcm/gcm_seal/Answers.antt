use Rattle.std.proofs.Common.{◌≡◌, List, ℕ, ◌++◌, length, sym, ap, ◌∙◌, arith, length-append}
use Rattle.aes_block.specs.KeyExpansion.{aes256}
use Rattle.aes_gcm.specs.Gcm.{crypt, tag_of}
use Rattle.aes_gcm.specs.Lengths.{length-crypt}
use Rattle.aes_gcm.proofs.Ends.{end_of, end_written}
use Rattle.aes_gcm.proofs.gcm.gcm_seal.Goals as goal

pub returns-clause-text : goal.returns-clause-text
returns-clause-text c =
    let old = c.args.out.now.items in
    let plain = c.args.plain.now in
    let all = c.deref_mut.result.now in
    let start = c.len-start.result in
    let cipher = aes256 c.args.keys.now in
    let is_all : all ≡ old ++ plain = c.deref_mut.ensures.value ∙ c.in_ok-extend_from_slice.ensures.items in
    let is_start : start ≡ length old =
    omega (arith, c.len-start.ensures, c.in_ok-extend_from_slice.ensures.len, c.deref_mut.ensures.len, ap length is_all, length-append old plain) in
    let written : c.seal.new.text ≡ crypt cipher c.args.iv.now plain =
    c.seal.ensures.text ∙ (λ i. crypt (aes256 (c.new.ensures i)) c.args.iv.now (end_of old plain all start is_all is_start i)) in
    end_written old plain all c.seal.new.text _ c.extend_from_slice.new.self.len start is_all is_start (sym c.deref_mut.ensures.len)
    (ap length written ∙ length-crypt cipher c.args.iv.now plain)
    ∙ ap (λ (l : List ℕ). old ++ l) written

pub returns-clause-tag : goal.returns-clause-tag
returns-clause-tag c =
    let old = c.args.out.now.items in
    let plain = c.args.plain.now in
    let all = c.deref_mut.result.now in
    let start = c.len-start.result in
    let iv = c.args.iv.now in
    let is_all : all ≡ old ++ plain = c.deref_mut.ensures.value ∙ c.in_ok-extend_from_slice.ensures.items in
    let is_start : start ≡ length old =
    omega (arith, c.len-start.ensures, c.in_ok-extend_from_slice.ensures.len, c.deref_mut.ensures.len, ap length is_all, length-append old plain) in
    c.seal.ensures.tag ∙ (λ i. tag_of (aes256 (c.new.ensures i)) iv c.args.extra.now (crypt (aes256 (c.new.ensures i)) iv (end_of old plain all start is_all is_start i)))
