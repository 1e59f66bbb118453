use Rattle.std.proofs.Common.{◌≡◌, ℕ, ◌<◌, List, length, ◌∙◌, ap, arith}
use Rattle.std.proofs.Math.ListN.{set}
use Rattle.std.proofs.lemmas.List.{length-set}
use Rattle.outside.specs.declared.change.Pending.{Pending}
use Rattle.outside.specs.View.{list_of}
use Rattle.sealed_store.proofs.Sealing.{put_back, room_more, told_alike}
use Rattle.sealed_store.proofs.drafts.make_room.Goals as goal

pub loop-pending-preserved : goal.loop-pending-preserved
loop-pending-preserved c =
    let items : List Pending = c.loop-pending.pending-items in
    let i : ℕ = c.loop-pending.pending-index in
    let here : i < length items = omega (arith, c.loop-pending.auto.pending-items, c.loop-pending-test.true) in
    record {
      done = room_more c.args.block_size items i c.make_room_for.new.pending here c.loop-pending.invariant.done c.in_ok-make_room_for.ensures.ok;
      same = told_alike items i c.pending-item.result c.make_room_for.new.pending c.make_room_for.ensures.same ∙ c.loop-pending.invariant.same;
    }

pub returns-in_err-make_room_for-clause-same : goal.returns-in_err-make_room_for-clause-same
returns-in_err-make_room_for-clause-same c =
    let items : List Pending = c.loop-pending.pending-items in
    let i : ℕ = c.loop-pending.pending-index in
    let new : List Pending = set items i c.make_room_for.new.pending in
    let after : list_of new ≡ list_of c.args.list.now.items = told_alike items i c.pending-item.result c.make_room_for.new.pending c.make_room_for.ensures.same ∙ c.loop-pending.invariant.same in
    let same : length items ≡ length c.args.list.now.items = c.loop-pending.auto.pending-items ∙ ap length c.deref_mut-pending-items.ensures.value in
    let len : length new ≡ c.args.list.now.len = omega (arith, length-set {A = Pending}, same, c.args.list.now.ok.0) in
    put_back c.args.list.now.items new _ c.args.list.now.len len after
