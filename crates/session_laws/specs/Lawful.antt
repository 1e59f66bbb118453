-- A mount answers by the laws.
use Rattle.std.proofs.Common.{◌≡◌, ◌≢◌, ℕ, Bool, true, false, List, refl, ap}
use Rattle.std.specs.declared.option.Option.{Option}
use Rattle.outside.specs.Trace.{Call}
use Rattle.outside.specs.declared.keeper.Keeper.{Ghosts as KeeperGhosts}
use Rattle.rand_core.specs.Stream.{Stream}
use Rattle.run_frame.specs.answers.declared.answer.Answer.{Answer}
use Rattle.run_frame.specs.answers.declared.answer.Answer.TheVariants.{Reply as Replied, Memory, Spent, FaultDirectory, FaultState, Violation, Refused}
use Rattle.run_frame.specs.answers.Hosts.{LawfulHost}
use Rattle.run_frame.specs.answers.Sessions.{is_refused}
use Rattle.mount.specs.block_versions.Standing.{records}
use Rattle.mount.specs.mount_core.LineLaws.{refused, bad, wanting, unsaid}
use Rattle.mount.specs.mount_core.Showing.{Showing}
use Rattle.mount.specs.declared.mount.Mount.{Mount}
use Rattle.run_frame.specs.mount_stores.Tower.{tower_meanings, tower_holdings, tower_durables}
use Rattle.run_frame.specs.mount_stores.TowerLaws.{tower_lawful}
use Rattle.mount.specs.Sealing.{SealsFresh, view_of}
use Rattle.mount.specs.OwningLaws.{owns_nothing}
use Rattle.mount.specs.SealingLaws.{seals_nothing}
use Rattle.session_laws.specs.Answering.{mount_hosting, drawing_hosting}

unrefused : (answer : Answer) → answer ≢ Refused → is_refused answer ≡ false
unrefused (Replied reply) h = refl
unrefused Memory h = refl
unrefused Spent h = refl
unrefused FaultDirectory h = refl
unrefused FaultState h = refl
unrefused (Violation why) h = refl
unrefused Refused h = absurd (h refl)

refusal_of : (v : Bool) (answer : Answer) → (v ≡ true → answer ≡ Refused) → (v ≡ false → answer ≢ Refused) → is_refused answer ≡ v
refusal_of true answer refuses serves = ap is_refused (refuses refl)
refusal_of false answer refuses serves = unrefused answer (serves refl)

pub mount_lawful : {H : Type 0} {V : Type 0} {K : Type 0} (mount : H → Mount V K) (shows : Showing) (trace : V → Option (List Call)) (faults : V → ℕ) (G : KeeperGhosts K)
    → LawfulHost (mount_hosting mount shows trace faults G)
mount_lawful mount shows trace faults G =
    let M = tower_meanings trace faults in
    let Hd = tower_holdings trace in
    let D = tower_durables trace in
    let laws = tower_lawful trace faults in
    record {
      refused = λ h now asked ready e. record { opened = refl; line = refused shows M Hd D records G laws now (mount h).core asked e; own = owns_nothing _ _ };
      bad = λ h now error ready e. record { opened = refl; line = bad shows M Hd D records G laws now (mount h).core error e; own = owns_nothing _ _ };
      wanting = λ h now asked ready e. record { opened = refl; line = wanting shows M Hd D records G laws now (mount h).core asked e; own = owns_nothing _ _ };
      unsaid = λ h k now asked reply w long. record { opened = w.opened; line = unsaid shows M Hd D records G laws now (mount h).core (mount k).core asked reply long w.line; own = w.own };
      flag = λ h k now asked answer w. w.line.form.violated;
      refusal = λ h k now asked answer w. refusal_of (mount h).core.violated answer (λ t. (w.line.form.refused t).0) w.line.form.served;
    }

-- and so does one that draws: what gets its answer without a call draws nothing
pub drawing_lawful : {H : Type 0} {V : Type 0} {K : Type 0} (mount : H → Mount V K) (stream : H → Stream) (chance : H → ℕ) (shows : Showing) (trace : V → Option (List Call)) (faults : V → ℕ) (G : KeeperGhosts K)
    → LawfulHost (drawing_hosting mount stream chance shows trace faults G)
drawing_lawful {H = H} mount stream chance shows trace faults G =
    let laws = mount_lawful mount shows trace faults G in
    let nothing : (h : H) → SealsFresh (stream h) (stream h) (view_of trace (mount h)) (view_of trace (mount h)) = λ h. seals_nothing (stream h) (view_of trace (mount h)) in
    record {
      refused = λ h now asked ready e. (laws.refused h now asked ready e, nothing h);
      bad = λ h now error ready e. (laws.bad h now error ready e, nothing h);
      wanting = λ h now asked ready e. (laws.wanting h now asked ready e, nothing h);
      unsaid = λ h k now asked reply w long. (laws.unsaid h k now asked reply w.0 long, w.1);
      flag = λ h k now asked answer w. laws.flag h k now asked answer w.0;
      refusal = λ h k now asked answer w. laws.refusal h k now asked answer w.0;
    }
