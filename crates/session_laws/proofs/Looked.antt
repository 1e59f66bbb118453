-- A look leaves what was kept standing for what it stood for.
use Rattle.std.proofs.Common.{◌≡◌, ◌++◌, ℕ, List, [], ◌∷◌, ap, subst, sym, ◌∙◌}
use Rattle.std.specs.declared.option.Option.{Option}
use Rattle.std.specs.declared.option.Option.TheVariants.{None, Some}
use Rattle.outside.specs.Trace.{Call, got, put, removed}
use Rattle.fs_model.specs.Tree.{Tree}
use Rattle.mount.specs.block_versions.Held.{Held}
use Rattle.mount.specs.block_versions.Standing.{Stands, Configures, records}
use Rattle.mount.specs.config_file.Settings.{Settings}
use Rattle.mount.specs.integrity_store.EnduringLaws.{enduring_by}
use Rattle.mount.specs.mount_core.Showing.{Showing}
use Rattle.mount.specs.record_saver.Saving.{KeptConfigures}
use Rattle.mount.specs.record_saver.store_api.Content.{Content}
use Rattle.mount.specs.record_saver.store_api.Durables.{Identity}
use Rattle.mount.specs.Representing.{Represents}
use Rattle.session_laws.specs.Resting.{AreAsking, OnlyAsked}
use Rattle.session_laws.specs.Runs.{Outside, OutsideStandsFor, PasswordOpens, IsLookedRun}

module _ (kept : List ℕ) where
  stands_by : (identity : Identity) (content : Content) (asked old : List Call) → AreAsking asked → Stands identity kept (Some old) content → Stands identity kept (Some (asked ++ old)) content
  stands_by identity content [] old all s = s
  stands_by identity content (got name max answer ∷ asked) old all s =
      let laws = enduring_by {S = Held} (λ h. h) (λ h. None) (λ h. 0) (λ h. Unit {0}) in
      laws.got_stands identity kept (Some (asked ++ old)) content name max answer (stands_by identity content asked old all.1 s)
  stands_by identity content (put name bytes ok ∷ asked) old all s = absurd all.0
  stands_by identity content (removed name ok ∷ asked) old all s = absurd all.0

  asked_stands : (identity : Identity) (content : Content) (a b : Option (List Call)) → OnlyAsked a b → Stands identity kept a content → Stands identity kept b content
  asked_stands identity content None b w s = subst (λ x. Stands identity kept x content) (sym w) s
  asked_stands identity content (Some old) b w s = subst (λ x. Stands identity kept x content) (sym w.1) (stands_by identity content w.0 old w.2 s)

  configures_by : (bytes : List ℕ) (asked old : List Call) → AreAsking asked → Configures kept (Some old) bytes → Configures kept (Some (asked ++ old)) bytes
  configures_by bytes [] old all s = s
  configures_by bytes (got name max answer ∷ asked) old all s =
      let laws = enduring_by {S = Held} (λ h. h) (λ h. None) (λ h. 0) (λ h. Unit {0}) in
      laws.got_configures kept (Some (asked ++ old)) bytes name max answer (configures_by bytes asked old all.1 s)
  configures_by bytes (put name written ok ∷ asked) old all s = absurd all.0
  configures_by bytes (removed name ok ∷ asked) old all s = absurd all.0

  asked_configures : (bytes : List ℕ) (a b : Option (List Call)) → OnlyAsked a b → Configures kept a bytes → Configures kept b bytes
  asked_configures bytes None b w s = subst (λ x. Configures kept x bytes) (sym w) s
  asked_configures bytes (Some old) b w s = subst (λ x. Configures kept x bytes) (sym w.1) (configures_by bytes w.0 old w.2 s)

module _ (before after : Outside) (look : IsLookedRun before after) where
  pub looked_stands : (shows : Showing) (c : Settings) (tree : Tree) → OutsideStandsFor shows c tree before → OutsideStandsFor shows c tree after
  looked_stands shows c tree s =
      let old = s.keeps.represents in
      record {
        holder = s.holder;
        keeps = record {
          content = s.keeps.content;
          represents = (old.0, look.kept ∙ old.1, asked_stands old.0 _ s.keeps.content before.calls after.calls look.asked old.2);
          shown = s.keeps.shown;
        };
      }

  looked_configures : (file : List ℕ) → KeptConfigures records before.kept before.calls file → KeptConfigures records after.kept after.calls file
  looked_configures file k = (k.0, look.kept ∙ k.1, asked_configures k.0 file before.calls after.calls look.asked k.2)

  -- each password that opened the configuration still does
  pub looked_opens : (password : List ℕ) (c : Settings) → PasswordOpens password c before → PasswordOpens password c after
  looked_opens password c (file, cost, holds, opens) = (file, cost, looked_configures file holds, opens)
