use Rattle.std.proofs.Common.{◌≡◌, ℕ, ◌<◌, List, length, sym, ◌∙◌, ap, subst, arith}
use Rattle.std.proofs.lemmas.List.{length-map}
use Rattle.outside.specs.declared.change.Pending.{Pending}
use Rattle.outside.specs.View.{at_of, change_of, pending_of, list_of}
use Rattle.sealed_store.specs.Drafts.{sealed_entry, MayBeDraft}
use Rattle.sealed_store.specs.Sums.{HasRoomFor}
use Rattle.sealed_store.proofs.Sealing.{all_sealed, next_draft, room_here, room_later, sealed_more}
use Rattle.sealed_store.proofs.drafts.seal_list.Goals as goal

pub seal_change-requires-clause-draft : goal.seal_change-requires-clause-draft
seal_change-requires-clause-draft g c =
    let seal = g.C.Sealer.sealed c.args.cipher.now c.args.key.now in
    let list : List Pending = c.args.list.now.items in
    let items : List Pending = c.loop-pending.pending-items in
    let i : ℕ = c.loop-pending.pending-index in
    let here : i < length items = omega (arith, c.loop-pending.auto.pending-items, c.loop-pending-test.true) in
    let within : i < length (list_of list) = omega (arith, ap length c.deref_mut-pending-items.ensures.value, length-map list pending_of, c.loop-pending-test.true) in
    subst (λ (p : Pending). MayBeDraft c.args.block_size (at_of p.name) (change_of p.change)) c.pending-item.is
    (next_draft seal c.args.block_size list items i c.pending-item.result within here c.pending-item.is c.loop-pending.invariant.done c.requires.drafts)

pub seal_change-requires-clause-room : goal.seal_change-requires-clause-room
seal_change-requires-clause-room g c =
    let items : List Pending = c.loop-pending.pending-items in
    let i : ℕ = c.loop-pending.pending-index in
    let here : i < length items = omega (arith, c.loop-pending.auto.pending-items, c.loop-pending-test.true) in
    subst (λ (p : Pending). HasRoomFor c.args.block_size p.name p.change) c.pending-item.is (room_here c.args.block_size items i c.pending-item.result here c.pending-item.is c.loop-pending.invariant.room)

pub loop-pending-preserved : goal.loop-pending-preserved
loop-pending-preserved g c =
    let seal = g.C.Sealer.sealed c.args.cipher.now c.args.key.now in
    let list : List Pending = c.args.list.now.items in
    let items : List Pending = c.loop-pending.pending-items in
    let i : ℕ = c.loop-pending.pending-index in
    let here : i < length items = omega (arith, c.loop-pending.auto.pending-items, c.loop-pending-test.true) in
    let within : i < length (list_of list) = omega (arith, ap length c.deref_mut-pending-items.ensures.value, length-map list pending_of, c.loop-pending-test.true) in
    record {
      done = sealed_more seal c.args.block_size list items i c.pending-item.result within here c.pending-item.is c.loop-pending.invariant.done c.seal_change.new.pending
          (c.seal_change.ensures ∙ ap (λ (p : Pending). sealed_entry seal c.args.block_size (pending_of p)) (sym c.pending-item.is));
      room = room_later c.args.block_size items i c.pending-item.result c.seal_change.new.pending here c.pending-item.is c.loop-pending.invariant.room;
    }

pub returns : goal.returns
returns g c =
    let seal = g.C.Sealer.sealed c.args.cipher.now c.args.key.now in
    let same : length c.loop-pending.pending-items ≡ length c.args.list.now.items = c.loop-pending.auto.pending-items ∙ ap length c.deref_mut-pending-items.ensures.value in
    let len : length c.args.list.now.items ≡ c.args.list.now.len = omega (arith, c.args.list.now.ok.0) in
    all_sealed seal c.args.block_size c.args.list.now.items c.loop-pending.pending-items _ c.args.list.now.len c.loop-pending.pending-index (same ∙ len) len
    (omega (arith, ap length c.deref_mut-pending-items.ensures.value, len, c.loop-pending-test.false)) c.loop-pending.invariant.done
