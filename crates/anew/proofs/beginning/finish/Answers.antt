use Rattle.std.proofs.Common.{rules, ◌≡◌, refl, sym, ◌∙◌, ap, subst, arith}
use Rattle.integrity_store.specs.sealed_store.BlockFiles.{OpensAlike}
use Rattle.integrity_store.specs.sealed_store.Stores.{cipher_of, key_of}
use Rattle.integrity_store.specs.block_versions.Held.{wanted}
use Rattle.integrity_store.specs.block_versions.Standing.{Stands, identity_of}
use Rattle.integrity_store.specs.block_versions.Views.{held_of}
use Rattle.integrity_store.specs.block_versions.local_state.Record.{HasRecord, record_bytes}
use Rattle.anew.proofs.Kept.{its_record, stands_anew}
use Rattle.anew.proofs.beginning.finish.Goals as goal

pub returns-clause-sound : goal.returns-clause-sound
returns-clause-sound g c file before no_block client begun =
    let h = held_of g.C.Sealer.opens c.args.sealed c.args.state in
    let trace = g.V.Vault.trace c.args.sealed.vault.vault in
    let kept = record_bytes h.state h.list in
    let alike : OpensAlike h.opens = λ extra other text plain again one two. g.met.C.Sealer.agrees (cipher_of c.args.sealed) (key_of c.args.sealed) extra other text plain again one two in
    let has : HasRecord h.state h.list = search rules in
    let made = c.new.ensures.made in
    let stands = stands_anew h file before trace alike no_block has c.requires.unmarked client begun in
    c.new.ensures.sound.opened (wanted h trace) kept (its_record h has)
    (subst (λ i. Stands i kept (g.V.Vault.trace c.new.result.sealed.vault.vault) (wanted h trace)) (sym made.identity)
    (subst (λ t. Stands (identity_of h) kept t (wanted h trace)) (sym made.trace) stands))
