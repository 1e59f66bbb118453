use Rattle.std.proofs.Common.{◌≡◌, sym, ◌∙◌, ap, true}
use Rattle.std.specs.Prelude.{take}
use Rattle.std.proofs.lemmas.Result.{err_from_is_err_and}
use Rattle.outside.specs.View.{bytes_of}
use Rattle.store_api.specs.store_outcome.Outcome.{first_, then_, failed_, answered, no_memory}
use Rattle.store_api.specs.declared.tx.Tx.{Tx}
use Rattle.store_api.specs.Content.{Changes, over}
use Rattle.store_api.specs.Ids.{Drawn, stream_left}
use Rattle.store_api.specs.Overlay.{holdings_over, lawful_over, changed_over}
use Rattle.memory_stores.specs.Followed.{ContentFollows}
use Rattle.memory_stores.proofs.Following.{found_none, found_some, put_over}
use Rattle.memory_stores.proofs.client.follow.Goals as goal

pub returns-in-None-2 : goal.returns-in-None-2
returns-in-None-2 g c =
    let f : Tx g.row.S.Denot → g.row.S.Denot = λ t. t.store in
    let changes : Tx g.row.S.Denot → Changes = λ t. t.overlay in
    let drawn : Tx g.row.S.Denot → Drawn = λ t. record { seed = t.seed; left = stream_left t.ids } in
    let H = holdings_over f changes g.S.Blocks.holdings in
    let laws = lawful_over f changes drawn g.S.Blocks.meanings g.S.Blocks.holdings g.met.S.Blocks.lawful in
    let a = c.args.tx.now in
    let b = c.load.new.self in
    let one = first_ {N = H.told a ≡ true} {R = λ n y. bytes_of y ≡ H.content a c.args.id.now.0} (λ n. tt) c.in_ok-bytes.ensures.outcome (λ n y h. h) in
    let both = then_ laws {R = λ n y. (bytes_of c.in_ok-bytes.field-0 ≡ H.content a c.args.id.now.0) × (bytes_of y ≡ H.content b c.first_id-next.result.0)} one (λ n h. tt) c.in_ok-bytes-2.ensures.outcome (λ n h y k. (h, k)) in
    answered both (λ n p. found_none (H.content a) (H.content b) (H.content c.load-2.new.self) c.args.id.now.0 c.in-Some.bytes.items c.first_id-next.result.0
    (c.in_ok-bytes.ensures.stays.content n) (c.in_ok-bytes-2.ensures.stays.content (c.in_ok-bytes.ensures.stays.told ∙ n))
    (ap bytes_of (sym c.in-Some.is) ∙ p.0) (c.first_id-next.ensures ∙ ap (take 16) c.deref.ensures.value) (ap bytes_of (sym c.in-None-2.is) ∙ p.1))

pub returns-in-Ok : goal.returns-in-Ok
returns-in-Ok g c =
    let f : Tx g.row.S.Denot → g.row.S.Denot = λ t. t.store in
    let changes : Tx g.row.S.Denot → Changes = λ t. t.overlay in
    let drawn : Tx g.row.S.Denot → Drawn = λ t. record { seed = t.seed; left = stream_left t.ids } in
    let H = holdings_over f changes g.S.Blocks.holdings in
    let laws = lawful_over f changes drawn g.S.Blocks.meanings g.S.Blocks.holdings g.met.S.Blocks.lawful in
    let a = c.args.tx.now in
    let b = c.load.new.self in
    let late = c.load-2.new.self in
    let end = c.put.new.self in
    let id = c.args.id.now.0 in
    let one = first_ {N = H.told a ≡ true} {R = λ n y. bytes_of y ≡ H.content a id} (λ n. tt) c.in_ok-bytes.ensures.outcome (λ n y h. h) in
    let both = then_ laws {R = λ n y. (bytes_of c.in_ok-bytes.field-0 ≡ H.content a id) × (bytes_of y ≡ H.content b c.first_id-next.result.0)} one (λ n h. tt) c.in_ok-bytes-2.ensures.outcome (λ n h y k. (h, k)) in
    changed_over f changes drawn g.S.Blocks.meanings g.S.Blocks.holdings a late end c.put.ensures.store c.put.ensures.seed c.put.ensures.intact both
    (λ n p. found_some (H.content a) (H.content b) (H.content late) (H.content end) id c.in-Some.bytes.items c.first_id-next.result.0 c.in-Some-2.bytes.items
    (c.in_ok-bytes.ensures.stays.content n) (c.in_ok-bytes-2.ensures.stays.content (c.in_ok-bytes.ensures.stays.told ∙ n))
    (ap bytes_of (sym c.in-Some.is) ∙ p.0) (c.first_id-next.ensures ∙ ap (take 16) c.deref.ensures.value) (ap bytes_of (sym c.in-Some-2.is) ∙ p.1)
    (λ other. ap (λ s. over end.overlay (g.S.Blocks.holdings.content s) other) c.put.ensures.store
    ∙ (ap (λ m. over m (g.S.Blocks.holdings.content late.store) other) c.in-Ok.ensures.ok ∙ put_over late.overlay (g.S.Blocks.holdings.content late.store) id c.in-Some-2.bytes.items other)))

pub returns-in_err-bytes-2 : goal.returns-in_err-bytes-2
returns-in_err-bytes-2 g c =
    let f : Tx g.row.S.Denot → g.row.S.Denot = λ t. t.store in
    let changes : Tx g.row.S.Denot → Changes = λ t. t.overlay in
    let drawn : Tx g.row.S.Denot → Drawn = λ t. record { seed = t.seed; left = stream_left t.ids } in
    let H = holdings_over f changes g.S.Blocks.holdings in
    let laws = lawful_over f changes drawn g.S.Blocks.meanings g.S.Blocks.holdings g.met.S.Blocks.lawful in
    let a = c.args.tx.now in
    let b = c.load.new.self in
    let one = first_ {N = H.told a ≡ true} {R = λ n y. bytes_of y ≡ H.content a c.args.id.now.0} (λ n. tt) c.in_ok-bytes.ensures.outcome (λ n y h. h) in
    let e = err_from_is_err_and c.from_residual-in_err-bytes-2.result c.from_residual-in_err-bytes-2.ensures.1 in
    rw (e.1, e.2) (failed_ laws one (λ n h. tt) c.in_err-bytes-2.ensures.outcome)

pub returns : goal.returns
returns g c =
    let f : Tx g.row.S.Denot → g.row.S.Denot = λ t. t.store in
    let changes : Tx g.row.S.Denot → Changes = λ t. t.overlay in
    let drawn : Tx g.row.S.Denot → Drawn = λ t. record { seed = t.seed; left = stream_left t.ids } in
    let H = holdings_over f changes g.S.Blocks.holdings in
    let laws = lawful_over f changes drawn g.S.Blocks.meanings g.S.Blocks.holdings g.met.S.Blocks.lawful in
    let a = c.args.tx.now in
    let b = c.load.new.self in
    let one = first_ {N = H.told a ≡ true} {R = λ n y. bytes_of y ≡ H.content a c.args.id.now.0} (λ n. tt) c.in_ok-bytes.ensures.outcome (λ n y h. h) in
    let both = then_ laws {R = λ n y. Unit {0}} one (λ n h. tt) c.in_ok-bytes-2.ensures.outcome (λ n h y k. tt) in
    no_memory {Q = λ n found. ContentFollows (H.content a) (H.content c.put.new.self) c.args.id.now.0 found} (changed_over f changes drawn g.S.Blocks.meanings g.S.Blocks.holdings {y = c.in_ok-bytes-2.field-0} {Q = λ n y. Unit {0}} a c.load-2.new.self c.put.new.self c.put.ensures.store c.put.ensures.seed c.put.ensures.intact both (λ n p. p))
