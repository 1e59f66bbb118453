use Rattle.std.proofs.Common.{◌≡◌, ◌*◌, ◌∙◌, ap, sym, take, refl, arith}
use Rattle.std.proofs.lemmas.List.{length-set, take_all}
use Rattle.hex.specs.Hex.{encode_with}
use Rattle.block_id.specs.Name.{name_of}
use Rattle.block_id.proofs.Names.{name_more}
use Rattle.block_id.proofs.id.BlockId.to_name.Goals as goal

pub bytes-init : goal.bytes-init
unfolding encode_with
bytes-init c = record { whole = refl; written = refl }

pub bytes-preserved : goal.bytes-preserved
bytes-preserved c = record {
  whole = simp length-set c.bytes.invariant.whole;
  written = name_more c.args.self.now.0 c.bytes.name c.bytes.i _ (omega arith) (omega arith) refl c.bytes.invariant.written;
}

pub returns : goal.returns
returns c =
    let name = c.bytes.name in
    let id = c.args.self.now.0 in
    let done : 2 * c.bytes.i ≡ 32 = omega (arith, c.bytes.auto.i-end) in
    let sixteen : c.bytes.i ≡ 16 = omega (arith, c.bytes.auto.i-end) in
    sym (take_all 32 name (omega arith)) ∙ ap (λ n. take n name) (sym done) ∙ c.bytes.invariant.written
    ∙ ap (λ n. name_of (take n id)) sixteen ∙ ap name_of (take_all 16 id (omega arith))
