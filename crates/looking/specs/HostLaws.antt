-- Looks answer by the laws of hosts.
use Rattle.std.specs.Prelude.{◌≡◌, true, false, Ok, Err, refl}
use Rattle.std.proofs.Common.{inl, inr, sym, ◌∙◌}
use Rattle.fs_model.specs.Instant.{Instant}
use Rattle.fs_model.specs.declared.error.FsError.{FsError}
use Rattle.fs_model.specs.declared.reply.Reply.{Reply}
use Rattle.fs_model.specs.declared.reply.Reply.TheVariants.{Error}
use Rattle.mount_answering.specs.answers.Hosts.{LawfulHost}
use Rattle.mount_answering.specs.answers.Sessions.{Asked}
use Rattle.mount_answering.specs.answers.declared.answer.Answer.TheVariants.{Reply as Replied, Memory, Refused}
use Rattle.mount_answering.specs.store_api.Holdings.{Holdings}
use Rattle.mount_answering.specs.store_outcome.Meanings.{Meanings, Lawful}
use Rattle.looking.specs.Hosting.{IsAskedLook, LookAnswers, looked_hosting, store_of}
use Rattle.looking.specs.declared.host.Looked.{Looked}

true_is_false : true ≡ false → ⊥
true_is_false e = cc

module _ {S : Type 0} (M : Meanings S) (H : Holdings S) (laws : Lawful M) where
  wanted : (l : Looked S) (now : Instant) (asked : Asked) → IsAskedLook M H now l asked Memory l
  wanted l now (Ok command) = (tt, (λ looks tree s sound few. (refl, refl)), (λ changes. inr refl))
  wanted l now (Err error) = inr refl

  refused : (l : Looked S) (now : Instant) (asked : Asked) → l.violated ≡ true → LookAnswers M H now l asked Refused l
  refused l now asked e = record {
    loads = record { loaded = laws.same (store_of l); sound = λ s f. s; met = tt; faults = refl; noticed = laws.gave_same (store_of l) };
    root = refl;
    flag = refl;
    refusal = sym e;
    idle = λ _. refl;
    asked_of = λ served. absurd (true_is_false (sym e ∙ served));
  }

  bad : (l : Looked S) (now : Instant) (error : FsError) → l.violated ≡ false → LookAnswers M H now l (Err error) (Replied (Error error)) l
  bad l now error e = record {
    loads = record { loaded = laws.same (store_of l); sound = λ s f. s; met = tt; faults = refl; noticed = laws.gave_same (store_of l) };
    root = refl;
    flag = refl;
    refusal = sym e;
    idle = λ _. refl;
    asked_of = λ served. inl refl;
  }

  wanting : (l : Looked S) (now : Instant) (asked : Asked) → l.violated ≡ false → LookAnswers M H now l asked Memory l
  wanting l now asked e = record {
    loads = record { loaded = laws.same (store_of l); sound = λ s f. s; met = tt; faults = refl; noticed = laws.gave_same (store_of l) };
    root = refl;
    flag = refl;
    refusal = sym e;
    idle = λ _. refl;
    asked_of = λ served. wanted l now asked;
  }

  unsaid_of : (h k : Looked S) (now : Instant) (asked : Asked) → IsAskedLook M H now h asked Memory k
  unsaid_of h k now (Ok command) = (tt, (λ looks tree s sound few. (refl, refl)), (λ changes. inr refl))
  unsaid_of h k now (Err error) = inr refl

  unsaid : (h k : Looked S) (now : Instant) (asked : Asked) (reply : Reply) → LookAnswers M H now h asked (Replied reply) k → LookAnswers M H now h asked Memory k
  unsaid h k now asked reply a = record {
    loads = record { loaded = a.loads.loaded; sound = a.loads.sound; met = tt; faults = a.loads.faults; noticed = a.loads.noticed };
    root = a.root;
    flag = a.flag;
    refusal = a.refusal;
    idle = a.idle;
    asked_of = λ served. unsaid_of h k now asked;
  }

  pub looked_lawful : LawfulHost (looked_hosting M H)
  looked_lawful = record {
    refused = λ h now asked ready e. refused h now asked e;
    bad = λ h now error ready e. bad h now error e;
    wanting = λ h now asked ready e. wanting h now asked e;
    unsaid = λ h k now asked reply a long. unsaid h k now asked reply a;
    flag = λ h k now asked answer a. a.flag;
    refusal = λ h k now asked answer a. a.refusal;
  }
