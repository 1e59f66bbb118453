-- The two passes of a copy as one list of questions.
use Rattle.std.proofs.Common.{◌≡◌, List, [], ◌++◌, inl, inr, refl, sym, subst}
use Rattle.std.specs.declared.option.Option.{Option}
use Rattle.std.specs.declared.result.Result.{Result}
use Rattle.std.specs.declared.result.Result.TheVariants.{Ok, Err}
use Rattle.fs_model.specs.Tree.{Tree}
use Rattle.tree_copy.specs.Copies.{ImportRun}
use Rattle.tree_copy.specs.Exports.{ExportRun}
use Rattle.tree_copy.specs.host_folder.Folders.{HostPath, HostTree}
use Rattle.tree_copy.specs.copy_laws.declared.copied.CopyFail.{CopyFail}
use Rattle.tree_copy.specs.copy_laws.declared.copied.Totals.{Totals}
use Rattle.tree_copy.specs.copy_laws.Exporting.{IsExport}
use Rattle.tree_copy.specs.copy_laws.Questions.{Question, Asking, AreAnswered, LawfulAsker}
use Rattle.copy_times.specs.declared.paths.TheConstants.{MOST_DEEP}
use Rattle.copy_times.specs.Giving.{GaveBelow}
use Rattle.copy_times.specs.Taking.{TookBelow}
use Rattle.copy_times.proofs.copy_row_lemmas.copy_laws_lemmas.Asking.{answered_done, asked_then}
use Rattle.copy_times.proofs.copy_row_lemmas.Served.{served_answered}
use Rattle.copy_attributes.specs.Exports.{IsAttributedExport}
use Rattle.copy_attributes.specs.Imports.{IsAttributedImport}
use Rattle.copy_attributes.specs.Passes.{Asks, end_of}

export_answered : (before after : Option HostTree) (q : HostPath) (qs : List Question) (totals : Totals) → IsExport before after q qs (Ok totals) → AreAnswered qs
export_answered before after q qs totals (inl idle) = absurd idle.ends
export_answered before after q qs totals (inr begun) = served_answered qs begun.ends.served

module _ {A : Type 0} (M : Asking A) (lawful : LawfulAsker M) where
  pub import_fails : (a b : A) (folder : Option HostTree) (attributes : Option Tree) (q : HostPath) (e : CopyFail) → ImportRun M a b folder q (Err e) → Asks M a b (λ qs. IsAttributedImport folder attributes q qs (Err e))
  import_fails a b folder attributes q e r = record { qs = r.qs; asked = r.asked; are = inl (record { fail = e; tree = r.tree; import = r.is; is = refl }) }

  pub import_then : (a b c : A) (folder : Option HostTree) (told attributes : Option Tree) (q : HostPath) (totals : Totals) (passed : Result (Unit {0}) CopyFail) → attributes ≡ told → ImportRun M a b folder q (Ok totals) → GaveBelow M b c told [] q MOST_DEEP passed
      → Asks M a c (λ qs. IsAttributedImport folder attributes q qs (end_of totals passed))
  import_then a b c folder told attributes q totals passed same r gave = subst (λ (z : Option Tree). Asks M a c (λ qs. IsAttributedImport folder z q qs (end_of totals passed))) (sym same) (record {
    qs = r.qs ++ gave.qs;
    asked = asked_then M lawful a b c r.qs gave.qs r.asked (answered_done r.qs r.is.ends.done) gave.asked;
    are = inr (record {
      tree = r.tree;
      totals = totals;
      copied = r.qs;
      given = gave.qs;
      passed = passed;
      are = refl;
      import = r.is;
      gives = record { rows = gave.rows; ends = gave.ends; commands = gave.commands; kids = gave.kids; whole = gave.whole };
      is = refl;
    });
  })

  pub export_fails : (a b : A) (before after : Option HostTree) (attributes : Option Tree) (q : HostPath) (e : CopyFail) → ExportRun M a b before after q (Err e) → Asks M a b (λ qs. IsAttributedExport before after attributes q qs (Err e))
  export_fails a b before after attributes q e r = record { qs = r.qs; asked = r.asked; are = inl (record { fail = e; export = r.is; is = refl }) }

  pub export_then : (a b c : A) (before mid after : Option HostTree) (left attributes : Option Tree) (q : HostPath) (totals : Totals) (passed : Result (Unit {0}) CopyFail) → after ≡ mid → ExportRun M a b before mid q (Ok totals)
      → TookBelow M b c left attributes [] q MOST_DEEP passed → Asks M a c (λ qs. IsAttributedExport before after attributes q qs (end_of totals passed))
  export_then a b c before mid after left attributes q totals passed same r took = subst (λ (z : Option HostTree). Asks M a c (λ qs. IsAttributedExport before z attributes q qs (end_of totals passed))) (sym same) (record {
    qs = r.qs ++ took.qs;
    asked = asked_then M lawful a b c r.qs took.qs r.asked (export_answered before mid q r.qs totals r.is) took.asked;
    are = inr (record {
      totals = totals;
      copied = r.qs;
      taken = took.qs;
      left = left;
      passed = passed;
      are = refl;
      export = r.is;
      takes = record { rows = took.rows; ends = took.ends; set = took.set; kids = λ t tells. took.kids t tt tells; whole = took.whole };
      is = refl;
    });
  })
