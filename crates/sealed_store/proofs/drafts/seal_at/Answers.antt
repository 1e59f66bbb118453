use Rattle.std.proofs.Common.{◌≡◌, ℕ, ◌-◌, List, ◌++◌, length, drop, refl, ap, ◌∙◌, arith, length-take-le}
use lib.Seq.{paste}
use Rattle.sealed_store.proofs.Sealing.{file_written}
use Rattle.sealed_store.proofs.drafts.seal_at.Goals as goal

pub copy_from_slice-requires : goal.copy_from_slice-requires
copy_from_slice-requires g c = length-take-le 16 c.copy_within.new.self (omega (arith, c.copy_within.ensures.len, c.requires.least))

pub returns : goal.returns
returns g c =
    let file : List ℕ = c.args.file.now in
    let size : ℕ = length file in
    let end : ℕ = size - 48 in
    let seal = g.C.Sealer.sealed c.args.cipher.now c.args.key.now in
    let whole : end - 0 ≡ end = omega arith in
    let copied : c.copy_within.new.self ≡ paste file 32 file end = c.copy_within.ensures.after ∙ ap (λ n. paste file 32 file n) whole in
    let begun = ap (λ (l : List ℕ). l ++ drop 16 c.copy_within.new.self) c.copy_from_slice.ensures.after in
    file_written seal size (g.C.Sealer.iv_size c.args.cipher.now) c.args.id.now.0 c.args.iv.now file c.copy_within.new.self _ c.seal_in_place.new.text
    (omega (arith, c.requires.least)) refl c.requires.iv copied begun c.seal_in_place.ensures
