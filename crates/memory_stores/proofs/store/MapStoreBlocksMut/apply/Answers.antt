use Rattle.std.proofs.Common.{refl, sym, ap}
use Rattle.std.specs.FinMap as fin
use Rattle.std.specs.FinMap.{get-empty}
use Rattle.store_api.specs.Content.{id_cmp}
use Rattle.store_api.proofs.Draws.{later_same}
use Rattle.memory_stores.specs.Rows.{newer}
use Rattle.memory_stores.specs.declared.store.MapStore.{MapStore}
use Rattle.memory_stores.proofs.Changing.{kept_with, changed_with}
use Rattle.memory_stores.proofs.store.MapStoreBlocksMut.apply.Goals as goal

pub returns-in-Ok-clause-ok : goal.returns-in-Ok-clause-ok
returns-in-Ok-clause-ok g c =
    let after : MapStore = record { payload = c.args.self.now.payload; rows = c.in-Ok.rows } in
    record {
      changed = changed_with (λ (s : MapStore). s.payload) (λ (s : MapStore). s.rows) c.args.self.now after c.args.batch.now refl c.in-Ok.ensures.with c.in-Ok.ensures.few;
      makes = (refl, c.in-Ok.ensures.with);
      draws = refl;
    }

pub returns-in-Ok-clause-intact : goal.returns-in-Ok-clause-intact
returns-in-Ok-clause-intact g c =
    let after : MapStore = record { payload = c.args.self.now.payload; rows = c.in-Ok.rows } in
    kept_with (λ (s : MapStore). s.payload) (λ (s : MapStore). s.rows) c.args.self.now after c.args.batch.now c.requires.intact c.requires.fits refl c.in-Ok.ensures.with

pub returns-in-Err-clause-err : goal.returns-in-Err-clause-err
returns-in-Err-clause-err g c = record {
  nothing = (refl, λ id. sym (ap (λ o. newer o (fin.get c.args.self.now.rows id)) (get-empty id_cmp id)));
  loaded = (refl, refl);
  sound = λ sound. tt;
  later = later_same (g.R.Rng.stream c.args.chance.now);
}
