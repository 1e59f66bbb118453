use Rattle.std.proofs.Common.{◌≡◌, ℕ, ◌-◌, List, length, drop, ◌∙◌, arith, length-drop, length-take-le}
use borrow.Rule.Slice.PartMut.{put_mid}
use Rattle.aes_block.specs.KeyExpansion.{aes256}
use Rattle.seal_api.specs.Sealing.{middle}
use Rattle.aes_gcm.specs.Gcm.{crypt, tag_of}
use Rattle.aes_gcm.specs.Lengths.{length-crypt}
use Rattle.aes_gcm.proofs.Ends.{begun, parts_written}
use Rattle.aes_gcm.proofs.aes256_gcm.seal_text.Goals as goal

pub returns : goal.returns
returns c =
    let cipher = aes256 c.args.key.now in
    let iv : List ℕ = c.args.iv.now in
    let extra : List ℕ = c.args.extra.now in
    let old : List ℕ = c.args.text.now in
    let n : ℕ = length old in
    let plain : List ℕ = middle 16 16 old in
    let text : List ℕ = crypt cipher iv plain in
    let is_text = c.seal-tag.ensures.text ∙ (λ i. crypt (aes256 (c.from_key.ensures i)) iv plain) in
    let is_tag = c.copy_from_slice-2.ensures.after ∙ c.seal-tag.ensures.tag ∙ (λ i. tag_of (aes256 (c.from_key.ensures i)) iv extra (crypt (aes256 (c.from_key.ensures i)) iv plain)) in
    let len_plain : length plain ≡ n - 16 - 16 = length-take-le (n - 16 - 16) (drop 16 old) (omega (arith, length-drop 16 old)) in
    (λ i. put_mid (n - 16) (length (begun old (c.copy_from_slice.ensures.after i) (is_text i)) - (n - 16)) (begun old (c.copy_from_slice.ensures.after i) (is_text i)) (is_tag i))
    ∙ parts_written old iv text (tag_of cipher iv extra text) c.requires.room c.requires.iv (length-crypt cipher iv plain ∙ len_plain)
