-- A run of a check that opened no file system.
use Rattle.std.proofs.Common.{List, ℕ, false, refl}
use Rattle.mount.specs.mount_core.Showing.{Showing}
use Rattle.session_laws.specs.Runs.{Outside, IsExaminedRun, IsQuietRun}

pub quiet_examined : (shows : Showing) (password : List ℕ) (before after : Outside) → IsQuietRun shows password before after → IsExaminedRun shows password before after false
quiet_examined shows password before after q = record {
  stands = λ c tree f fine. q.stands c tree f;
  condemned = λ c tree f bad. absurd (cc);
  calm = λ c tree f honest. refl;
  marked = λ m. (refl, (q.marked m).0, (q.marked m).1);
  least = q.least;
}
