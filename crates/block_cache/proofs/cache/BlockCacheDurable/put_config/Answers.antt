use Rattle.block_cache.proofs.Caching.{agree-stays, live-stays}
use Rattle.block_cache.proofs.cache.BlockCacheDurable.put_config.Goals as goal

pub returns-clause-meant : goal.returns-clause-meant
returns-clause-meant g c =
    let M = g.S.Blocks.meanings in
    let H = g.S.Blocks.holdings in
    let s = c.args.self.now.store in
    let t = c.put_config.new.self in
    let p = c.args.self.now.cached in
    let e = c.put_config.ensures in
    record {
      intact = (e.meant.intact, live-stays M H s t p e.stays c.requires.intact.1);
      sound = λ sound. (e.meant.sound sound.0, agree-stays M H g.met.S.Blocks.steady s t p e.stays sound);
      forgeries = e.meant.forgeries;
      lies = e.meant.lies;
    }
