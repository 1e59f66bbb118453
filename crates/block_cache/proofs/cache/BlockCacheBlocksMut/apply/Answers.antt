use Rattle.std.proofs.Common.{refl}
use Rattle.block_cache.proofs.Caching.{agree-stays, live-stays, live-renewed, changed-renewed}
use Rattle.block_cache.proofs.cache.BlockCacheBlocksMut.apply.Goals as goal

pub returns-in-Err : goal.returns-in-Err
returns-in-Err g c =
    let M = g.S.Blocks.meanings in
    let H = g.S.Blocks.holdings in
    let s = c.args.self.now.store in
    let t = c.apply.new.self in
    let p = c.args.self.now.cached in
    let e = c.in-Err.ensures in
    let none = e.err in
    let stays = g.met.S.BlocksMut.settled s t none.loaded in
    record {
      intact = (e.intact, live-stays M H s t p stays c.requires.intact.1);
      ok = tt;
      err = record { nothing = none.nothing; loaded = none.loaded; sound = λ sound. (none.sound sound.0, agree-stays M H g.met.S.Blocks.steady s t p stays sound); later = none.later };
      counts = record { forgeries = e.counts.forgeries; lies = e.counts.lies; faults = e.counts.faults };
      spent = e.spent;
      cached = record { renewed = tt; kept = refl {a = p}; capacity = refl {a = p.cap} };
    }

pub returns-in-Ok : goal.returns-in-Ok
returns-in-Ok g c =
    let M = g.S.Blocks.meanings in
    let H = g.S.Blocks.holdings in
    let s = c.args.self.now.store in
    let t = c.apply.new.self in
    let p = c.args.self.now.cached in
    let q = c.renew_all.new.payloads in
    let batch = c.args.batch.now in
    let e = c.in-Ok.ensures in
    let all = e.ok in
    let renewed = c.renew_all.ensures.renewed in
    record {
      intact = (e.intact, live-renewed M H s t batch p q c.requires.fits.sized all.changed renewed c.requires.intact.1);
      ok = record { changed = changed-renewed M H g.met.S.Blocks.steady s t batch p q all.changed renewed; makes = all.makes; draws = all.draws };
      err = tt;
      counts = record { forgeries = e.counts.forgeries; lies = e.counts.lies; faults = e.counts.faults };
      spent = e.spent;
      cached = record { renewed = renewed; kept = tt; capacity = c.renew_all.ensures.capacity };
    }
