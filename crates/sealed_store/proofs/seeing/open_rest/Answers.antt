use Rattle.std.proofs.Common.{ℕ, List, take, sym, ap, ◌∙◌}
use Rattle.std.proofs.lemmas.List.{take_rest}
use Rattle.std.specs.Option.{option_map}
use Rattle.seal_api.specs.Sealing.{middle, shown}
use Rattle.block_id.specs.Formats.{extra_of}
use Rattle.sealed_store.proofs.Fronts.{rest_written}
use Rattle.sealed_store.proofs.seeing.open_rest.Goals as goal

pub returns-in-Alone : goal.returns-in-Alone
returns-in-Alone g c =
    let cipher = c.args.cipher.now in
    let file : List ℕ = c.args.file.now in
    ap (λ (l : List ℕ). shown c.args.most c.unseal_in_place.result (middle (g.C.Sealer.iv_size cipher) 16 l)) (rest_written file c.unseal_in_place.new.text c.requires)
    ∙ c.unseal_in_place.ensures.opened
    ∙ ap (option_map (take c.args.most)) (λ i. g.C.Sealer.opens cipher c.args.key.now (extra_of (sym c.in-Alone.is i) c.args.id.now.0) (take_rest file 16 i))

pub returns-in-WithId : goal.returns-in-WithId
returns-in-WithId g c =
    let cipher = c.args.cipher.now in
    let file : List ℕ = c.args.file.now in
    ap (λ (l : List ℕ). shown c.args.most c.unseal_in_place-in-WithId.result (middle (g.C.Sealer.iv_size cipher) 16 l)) (rest_written file c.unseal_in_place-in-WithId.new.text c.requires)
    ∙ c.unseal_in_place-in-WithId.ensures.opened
    ∙ ap (option_map (take c.args.most)) (λ i. g.C.Sealer.opens cipher c.args.key.now (extra_of (sym c.in-WithId.is i) c.args.id.now.0) (take_rest file 16 i))
