use Rattle.std.proofs.Common.{inl, inr}
use Rattle.block_cache.proofs.Puts.{put_or_not}
use Rattle.block_cache.specs.Payloads.{with_payload}
use Rattle.block_cache.proofs.payloads.cache.Goals as goal

pub returns-in-Ok : goal.returns-in-Ok
returns-in-Ok c = elim (put_or_not c.put.result c.args.payloads.now c.put.new.self (with_payload c.args.id.now c.in-Ok.copy c.args.payloads.now) c.put.ensures.entries c.put.ensures.err) [
  | inl same ↦ inl same
  | inr put ↦ inr (c.in-Ok.copy, c.in-Ok.ensures.items_if_clones_equal (λ x y e. e), put)
]
