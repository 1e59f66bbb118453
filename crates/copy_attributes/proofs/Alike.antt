-- Copies with attributes: the laws.
use Rattle.std.proofs.Common.{◌≡◌, inl, inr, List, [], ◌∷◌, ◌++◌, refl, sym, ◌∙◌, ap, subst}
use Rattle.std.specs.Prelude.{IfSome, Some, None}
use Rattle.std.specs.FinMap.{get}
use Rattle.std.specs.declared.option.Option.{Option}
use Rattle.std.specs.declared.result.Result.{Result}
use Rattle.std.specs.declared.result.Result.TheVariants.{Ok, Err}
use Rattle.fs_model.specs.declared.attr.Attr.{Attr}
use Rattle.fs_model.specs.Instant.{Instant}
use Rattle.fs_model.specs.Tree.{Tree, IsWellFormed, upward}
use Rattle.tree_copy.specs.host_folder.Folders.{HostPath, HostTree}
use Rattle.tree_copy.specs.copy_laws.declared.copied.CopyFail.{CopyFail}
use Rattle.tree_copy.specs.copy_laws.declared.copied.Totals.{Totals}
use Rattle.tree_copy.specs.copy_laws.ExportLaws.{IsCopyOf}
use Rattle.tree_copy.specs.copy_laws.Exporting.{OnTold}
use Rattle.tree_copy.specs.copy_laws.Questions.{Question, Followed}
use Rattle.copy_times.specs.declared.paths.TheConstants.{MOST_DEEP}
use Rattle.copy_times.specs.Laws.{HasFolders, given_attr}
use Rattle.copy_times.specs.Taking.{tree_kids}
use Rattle.copy_times.specs.Tours.{IsTour}
use Rattle.copy_times.proofs.Leaving.{gives_all, gives_plain}
use Rattle.copy_times.proofs.copy_row_lemmas.copy_laws_lemmas.Copying.{done_merges, import_same}
use Rattle.copy_times.proofs.copy_row_lemmas.copy_laws_lemmas.Exported.{export_same}
use Rattle.copy_attributes.specs.Exports.{ExportTakes, Takes}
use Rattle.copy_attributes.specs.Imports.{Gives, ImportGives}
use Rattle.copy_attributes.specs.Laws.{AlikeBelow, AreAlike, AttributedCopyIsSame, AttributedExportLeaves, AttributedImportLeaves, IsExportedAlike, IsImportedAlike}
use Rattle.copy_attributes.specs.Passes.{end_of}
use Rattle.copy_attributes.proofs.Setting.{looks_told, sets_all}

followed_split : (now : Instant) (qs rs : List Question) (t last : Tree) → Followed t now (qs ++ rs) last → (mid : Tree) × (Followed t now qs mid × Followed mid now rs last)
followed_split now [] rs t last h = (t, (refl, h))
followed_split now (q ∷ qs) rs t last (next, (a, h)) = let more = followed_split now qs rs next last h in (more.0, ((next, (a, more.1.0)), more.1.1))

abbrev totals_or : Totals → Result Totals CopyFail → Totals
totals_or a (Ok x) = x
totals_or a (Err f) = a

-- ---- what an import leaves

given_alike : (attr old : Attr) (now : Instant) → AreAlike attr (given_attr attr now old)
given_alike attr old now = record { mode = refl; uid = refl; gid = refl; atime = refl; mtime = refl }

rows_alike : (attributes : Option Tree) (q : HostPath) (qs : List Question) (now : Instant) (mid new : Tree) (x : Unit {0}) (g : Gives attributes q qs (Ok x)) → Followed mid now qs new → IfSome attributes (λ u. HasFolders u → AlikeBelow u [] new q)
rows_alike None q qs now mid new x g h = tt
rows_alike (Some u) q qs now mid new x g h = λ folders n r row there. let at = (gives_all u q MOST_DEEP g.rows qs now mid new folders g.whole g.ends g.commands h).each n r row there in
    (record { attr = given_attr row.attr now at.row.attr; bytes = at.row.bytes }, (at.is, given_alike row.attr at.row.attr now))

imported : (folder : Option HostTree) (attributes : Option Tree) (q : HostPath) (qs : List Question) (totals : Totals) (now : Instant) (old new : Tree) (g : ImportGives folder attributes q qs (Ok totals)) → Followed old now qs new
    → (passed : Result (Unit {0}) CopyFail) → Ok totals ≡ end_of g.totals passed → Gives attributes q g.given passed → IsImportedAlike folder attributes old new q
imported folder attributes q qs totals now old new g h (Ok x) is gives =
    let parts = followed_split now g.copied g.given old new (subst (λ z. Followed old now z new) g.are h) in
    let mid = parts.0 in
    let merged = done_merges folder q g.tree g.copied g.totals now old mid g.import parts.1.0 in
    record {
      tree = g.tree;
      same = g.import.same;
      merged = record {
        each = λ n r row there. gives_plain gives.rows g.given now mid new (upward (q ++ n ∷ r)) gives.ends gives.commands parts.1.1 ∙ merged.each n r row there;
        rest = λ p apart. gives_plain gives.rows g.given now mid new p gives.ends gives.commands parts.1.1 ∙ merged.rest p apart;
      };
      free = λ free n r. gives_plain gives.rows g.given now mid new (upward (q ++ n ∷ r)) gives.ends gives.commands parts.1.1 ∙ import_same folder q g.tree g.copied g.totals now old mid g.import parts.1.0 free n r;
      alike = rows_alike attributes q g.given now mid new x gives parts.1.1;
    }
imported folder attributes q qs totals now old new g h (Err e) is gives = let bad : Ok totals ≡ Err e = is in cc

pub import_leaves : AttributedImportLeaves
import_leaves folder attributes q qs totals now old new (inl f) h = let bad : Ok totals ≡ Err f.fail = f.is in cc
import_leaves folder attributes q qs totals now old new (inr g) h = imported folder attributes q qs totals now old new g h g.passed g.is g.gives

-- ---- what an export leaves

set_alike : (attributes left : Option Tree) (q : HostPath) (tree : Tree) (x : Unit {0}) (qs : List Question) (t : Takes left attributes q qs (Ok x)) → HasFolders tree → IsTour MOST_DEEP (tree_kids tree) [] q t.rows → IfSome attributes (λ u. AlikeBelow tree q u [])
set_alike None left q tree x qs t folders tour = tt
set_alike (Some u) left q tree x qs t folders tour = sets_all tree q MOST_DEEP t.rows left u folders tour t.set

exported : (before after : Option HostTree) (attributes : Option Tree) (q : HostPath) (qs : List Question) (totals : Totals) (now : Instant) (old new : Tree) → IsWellFormed old → (g : ExportTakes before after attributes q qs (Ok totals)) → Followed old now qs new
    → (passed : Result (Unit {0}) CopyFail) → Ok totals ≡ end_of g.totals passed → Takes g.left attributes q g.taken passed → (new ≡ old) × IsExportedAlike before after attributes old q totals
exported before after attributes q qs totals now old new wf g h (Ok x) is takes =
    let parts = followed_split now g.copied g.taken old new (subst (λ z. Followed old now z new) g.are h) in
    let copy = export_same before after q g.copied g.totals now old parts.0 g.export wf parts.1.0 in
    let told = looks_told old now g.taken new takes.ends (subst (λ z. Followed z now g.taken new) copy.0 parts.1.1) in (
      told.1,
      record {
        copy = subst (IsCopyOf before after old q) (sym (ap (totals_or totals) is)) copy.1;
        alike = set_alike attributes g.left q old x g.taken takes wf.rooted.parents (takes.whole old told.0);
      },
    )
exported before after attributes q qs totals now old new wf g h (Err e) is takes = let bad : Ok totals ≡ Err e = is in cc

pub export_leaves : AttributedExportLeaves
export_leaves before after attributes q qs totals now old new wf (inl f) h = let bad : Ok totals ≡ Err f.fail = f.is in cc
export_leaves before after attributes q qs totals now old new wf (inr g) h = exported before after attributes q qs totals now old new wf g h g.passed g.is g.takes

-- ---- out and in again

alike_then : (a b c : Attr) → AreAlike a b → AreAlike b c → AreAlike a c
alike_then a b c x y = record { mode = y.mode ∙ x.mode; uid = y.uid ∙ x.uid; gid = y.gid ∙ x.gid; atime = y.atime ∙ x.atime; mtime = y.mtime ∙ x.mtime }

some_tree : (a b : HostTree) → Some a ≡ Some b → a ≡ b
some_tree a b e = ap (λ o. of o) e
  where
    of : Option HostTree → HostTree
    of (Some z) = z
    of None = a

made_is : (before : Option HostTree) (folder u : HostTree) → OnTold before (Some folder) (λ v. v ≡ u) → folder ≡ u
made_is None folder u h = let bad : Some folder ≡ None = h in cc
made_is (Some first) folder u (v, (is, same)) = some_tree folder v is ∙ same

pub copy_same : AttributedCopyIsSame
copy_same before folder attributes first p q qs totals now old new was folders asked followed free =
    let out = export_leaves before (Some folder) (Some attributes) p was.qs was.totals was.now first was.left was.formed was.asked was.followed in
    let in_again = import_leaves (Some folder) (Some attributes) q qs totals now old new asked followed in
    let same : in_again.tree ≡ out.1.copy.u = sym in_again.same ∙ made_is before folder out.1.copy.u out.1.copy.made in
    record {
      plain = λ n r. in_again.free free n r ∙ (ap (λ (z : HostTree). get z (n ∷ r)) same ∙ sym (out.1.copy.same n r));
      alike = λ n r row there. let a = out.1.alike n r row there in let b = in_again.alike folders n r a.0 a.1.0 in (b.0, (b.1.0, alike_then row.attr a.0.attr b.0.attr a.1.1 b.1.1));
    }
