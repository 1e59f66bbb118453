use Rattle.std.proofs.Common.{◌≡◌, true, false, inl, inr, refl, sym, ◌∙◌, ap, subst, arith}
use Rattle.std.specs.declared.result.Result.TheVariants.{Err}
use Rattle.outside.specs.Causes.{RoseBy}
use Rattle.outside.specs.Going.{goes_on_same}
use Rattle.outside.specs.Writes.{after_writes}
use Rattle.mount_core.specs.record_saver.Saving.{RepresentsContent}
use Rattle.mount_core.specs.path_layer.Showing.{ShowsFiles}
use Rattle.mount_core.proofs.path_layer_lemmas.Shows.{files_same}
use Rattle.mount_core.specs.declared.body.Core.{Core}
use Rattle.mount_core.proofs.Moving.{stays_same}
use Rattle.mount_core.specs.record_saver.declared.saver.Saver.{Saver}
use Rattle.mount_core.proofs.record_saver_lemmas.Steps.{unless_state, short_configures, true_is_false}
use Rattle.mount_opening.proofs.Beginning.{Written, written_at, begun, cause_of, configured}
use Rattle.mount_opening.proofs.starting.start.Given.{Over}
use Rattle.mount_opening.proofs.starting.start.Goals as goal
use Rattle.mount_opening.proofs.starting.start.Goals.{then-waits+in-Ok-write_waiting, else-waits}

abbrev CoreOf : Over → Type 0
CoreOf g = Core g.row.S.Denot g.row.K.Denot

abbrev SaverOf : Over → Type 0
SaverOf g = Saver g.row.K.Denot

pub returns-in-Err-clause-halted : goal.returns-in-Err-clause-halted
returns-in-Err-clause-halted g c =
    let M = g.S.Blocks.meanings in
    let H = g.S.Blocks.holdings in
    let D = g.S.Durable.durables in
    let endures = g.met.S.Durable.enduring in
    let old = c.args.store in
    let kept = c.prepare.ensures.kept ∙ c.requires.long.kept in
    record {
      identity = refl;
      stands = λ now sound unmarked same. (c.args.last.items, kept, endures.stands_same _ _ _ (H.content old) now (λ id. sym (same id)) (endures.stands_now old c.args.last.items c.requires.intact sound unmarked c.requires.long.last));
      configures = λ bytes told h. (c.args.last.items, kept, h);
      keeps = inl c.prepare.ensures.kept;
      stops = inl refl;
      goes_on = goes_on_same _;
      forgeries = refl;
      lies = refl;
      vault_grows = omega arith;
      keeper_grows = omega (arith, c.prepare.ensures.faults);
      vault_quiet = refl;
      keeper_quiet = c.prepare.ensures.faults;
      cause = tt;
    }

pub returns-in-Err-write_waiting-clause-halted : goal.returns-in-Err-write_waiting-clause-halted
returns-in-Err-write_waiting-clause-halted g c =
    let D = g.S.Durable.durables in
    let m = c.in-Err-write_waiting.ensures.moves in
    let z = c.in-Err-write_waiting.ensures.finishes in
    let l = m.leaves in
    record {
      identity = l.identity;
      stands = λ now sound unmarked same. subst (λ i. RepresentsContent g.S.Durable.records i (g.K.Keeper.kept c.write_waiting.new.self.keeper) (D.trace c.write_waiting.new.store) now) l.identity (z.stands now sound unmarked same);
      configures = λ bytes told h. z.configures c.args.last.items bytes told c.requires.long.last h;
      keeps = elim z.keeps [ inl same ↦ inl (same ∙ c.prepare.ensures.kept) | inr short ↦ inr short ];
      stops = m.wrote;
      goes_on = l.goes_on;
      forgeries = l.forgeries;
      lies = l.lies;
      vault_grows = l.vault_grows;
      keeper_grows = omega (arith, l.keeper_grows, c.prepare.ensures.faults);
      vault_quiet = l.vault_quiet;
      keeper_quiet = unless_state (Err c.in-Err-write_waiting.error) _ _ (λ e. e ∙ c.prepare.ensures.faults) l.keeper_quiet;
      cause = cause_of _ _ _ _ c.in-Err-write_waiting.error l.vault_cause (λ is. subst (λ n. RoseBy 1 n (g.K.Keeper.faults c.write_waiting.new.self.keeper)) c.prepare.ensures.faults (l.keeper_cause is));
    }

written : (g : Over) (c : goal.After-new g) → Written g.S.Blocks.meanings g.S.Blocks.holdings g.S.Durable.durables g.S.Durable.records g.K.Keeper c.args.store c.args.keeper c.args.last.items c.if-waits.store c.if-waits.saver
written g c =
    let M = g.S.Blocks.meanings in
    let H = g.S.Blocks.holdings in
    let D = g.S.Durable.durables in
    let R = g.S.Durable.records in
    let endures = g.met.S.Durable.enduring in
    let old = c.args.store in
    elim c.if-waits.branch [
      | then-waits+in-Ok-write_waiting w ↦
          let z = w.in-Ok-write_waiting.ensures.finishes in
          let m = w.in-Ok-write_waiting.ensures.moves in
          let l = m.leaves in
          written_at M H D R g.K.Keeper old c.args.keeper c.args.last.items _ _ _ _ w.store-is w.saver-is
          (record {
            room = m.room;
            can_mark = z.can_mark;
            whole = m.whole;
            unchanged = m.ok;
            kept = (_, m.whole.kept m.ok, z.last);
            least = l.least;
            stays = l.stays;
            sound = l.sound;
            identity = l.identity;
            represents = λ sound unmarked. z.stands (H.content old) sound unmarked (λ id. refl);
            present = λ bytes told h. m.present c.args.last.items bytes told c.requires.long.last h;
            writes = m.writes;
            forgeries = l.forgeries;
            lies = l.lies;
            vault_quiet = l.vault_quiet;
            keeper_quiet = l.keeper_quiet ∙ c.prepare.ensures.faults;
          })
      | else-waits w ↦
          let none = c.requires.waits w.if-waits.false in
          let short = endures.short_record old c.args.last.items none c.requires.long.last in
          let kept = c.prepare.ensures.kept ∙ c.requires.long.kept in
          written_at M H D R g.K.Keeper old c.args.keeper c.args.last.items _ _ _ _ w.store-is w.saver-is
          (record {
            room = omega (arith, c.in-Ok.ensures.ok, c.len.ensures);
            can_mark = record {
              marks = endures.marked old true c.args.last.items c.requires.long.last;
              long = endures.long old true c.args.last.items c.requires.long.last;
              plain = endures.plain_marked old true c.args.last.items c.requires.long.last;
            };
            whole = record { kept = λ u. kept; last = λ u. short; none = λ u. none };
            unchanged = w.if-waits.false;
            kept = (c.args.last.items, kept, short);
            least = refl;
            stays = stays_same H old old refl;
            sound = λ sound. sound;
            identity = refl;
            represents = λ sound unmarked. (c.args.last.items, kept, endures.stands_now old c.args.last.items c.requires.intact sound unmarked c.requires.long.last);
            present = λ bytes told h. endures.configures_now old (D.local_record_of old true) bytes (endures.written old true c.requires.intact) (endures.configured_now old c.args.last.items bytes c.requires.long.last h);
            writes = sym (ap (λ l. after_writes l (D.trace old)) none);
            forgeries = refl;
            lies = refl;
            vault_quiet = refl;
            keeper_quiet = c.prepare.ensures.faults;
          })
    ]

unsaved : (g : Over) (c : goal.After-new g) → c.args.waits ≡ false → g.K.Keeper.kept c.if-waits.saver.keeper ≡ g.K.Keeper.kept c.args.keeper
unsaved g c none = elim c.if-waits.branch [
  | then-waits+in-Ok-write_waiting w ↦ absurd (true_is_false (sym w.if-waits.true ∙ none))
  | else-waits w ↦ ap (λ (s : SaverOf g). g.K.Keeper.kept s.keeper) w.saver-is ∙ c.prepare.ensures.kept
]

pub returns : goal.returns
returns g c =
    let M = g.S.Blocks.meanings in
    let H = g.S.Blocks.holdings in
    let D = g.S.Durable.durables in
    let R = g.S.Durable.records in
    let endures = g.met.S.Durable.enduring in
    let old = c.args.store in
    let core : CoreOf g = record { blobs = record { tx = c.new.result }; saver = c.if-waits.saver; root = c.args.root; violated = false } in
    let w = written_at M H D R g.K.Keeper old c.args.keeper c.args.last.items c.if-waits.store core.blobs.tx.store core.saver core.saver c.new.ensures.store refl (written g c) in
    record {
      begins = record {
        ready = record {
          intact = c.new.ensures.intact.0;
          empty = c.new.ensures.overlay;
          few = c.new.ensures.intact.1.few;
          room = w.room;
          can_mark = w.can_mark;
          whole = w.whole;
        };
        fresh = refl;
        unchanged = w.unchanged;
        root = refl;
        stands = λ first sound unmarked shown. begun M H D R g.K.Keeper ShowsFiles files_same old c.args.keeper c.args.last.items core first (g.met.S.Blocks.steady.sound_told old sound) sound unmarked shown w;
        configures = λ bytes told h. configured M H D R g.K.Keeper old c.args.keeper c.args.last.items core bytes (λ short none is said. short_configures M H D R g.K.Keeper g.S.BlocksMut.applied endures core.blobs.tx.store short bytes c.new.ensures.intact.0 none is said) told h w;
        kept = w.kept;
      };
      leaves = record {
        identity = w.identity;
        least = w.least;
        stays = w.stays;
        writes = w.writes;
        forgeries = w.forgeries;
        lies = w.lies;
        vault_quiet = w.vault_quiet;
        keeper_quiet = w.keeper_quiet;
      };
      unsaved = unsaved g c;
      halted = tt;
    }
