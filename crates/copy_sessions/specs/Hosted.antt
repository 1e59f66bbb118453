-- What holds a host of commands, as what answers a copy. It tells no tree: which trees its answers leave is said of its exchanges.
use Rattle.std.specs.Prelude.{◌≡◌, ℕ}
use Rattle.std.specs.declared.option.Option.{Option}
use Rattle.fs_model.specs.Instant.{Instant}
use Rattle.session_lines.specs.answers.declared.answer.Answer.{Answer}
use Rattle.session_lines.specs.answers.Hosts.{Hosting}
use Rattle.copy_laws.specs.Questions.{Asking}
use Rattle.copy_sessions.specs.Fitting.{WentBy}

abbrev pub host_asking : {A : Type 0} → {H : Type 0} → Hosting H → (A → H) → (A → Instant) → (A → Option Answer) → (A → ℕ) → Asking A
host_asking M host moment kept stops = record {
  ready = λ a. M.ready (host a);
  stands_for = λ a t. ⊥;
  moment = moment;
  forgeries = λ a. 0;
  stops = stops;
  went = λ a qs b. (moment b ≡ moment a) × (M.chance (host b) ≡ M.chance (host a)) × WentBy M (moment a) (host a) (kept a) qs (host b) (kept b);
}
