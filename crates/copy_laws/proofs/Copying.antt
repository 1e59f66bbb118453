-- What a copy leaves.
use Rattle.std.proofs.Common.{◌≡◌, List, [], ◌∷◌, ◌++◌, refl, sym, ◌∙◌, ap, subst}
use Rattle.std.specs.Prelude.{Option, Some, None, is_some, true}
use Rattle.std.specs.FinMap.{get}
use Rattle.fs_model.specs.Instant.{Instant}
use Rattle.fs_model.specs.Tree.{Tree, upward}
use Rattle.host_folder.specs.Folders.{HostPath, HostRow, HostTree}
use Rattle.copy_laws.specs.Importing.{plain_of, Merged, AllDone}
use Rattle.copy_laws.specs.Laws.{SameBelow, IsFree, DoneImportMerges, ImportIsSame, CopyIsSame}
use Rattle.copy_laws.specs.Questions.{Question, Followed, Answered, AreDone, commands_of}
use Rattle.copy_laws.proofs.Merging.{merges, upward_is}

pub done_follows : (now : Instant) (qs : List Question) (t last : Tree) → AreDone qs → Followed t now qs last → AllDone t now (commands_of qs) last
done_follows now [] t last done h = h
done_follows now (q ∷ qs) t last done (mid, (a, h)) = (mid, (subst (λ z. Answered t now q.command z mid) done.0 a, done_follows now qs mid last done.1 h))

pub done_merges : DoneImportMerges
done_merges told q t qs totals now old new is h =
    merges t q now old new is.plain (subst (λ cs. AllDone old now cs new) is.ends.asked (done_follows now qs old new is.ends.done h))

same_by : (old new : Tree) (q : HostPath) (t : HostTree) → Merged old new q t → IsFree old q → SameBelow new q t
same_by old new q t m free n r = by (get t (n ∷ r)) refl
  where
    never : (o : Option HostRow) → o ≡ None → is_some o ≡ true → ⊥
    never o e h = let bad : is_some {T = HostRow} None ≡ true = ap is_some (sym e) ∙ h in cc

    by : (o : Option HostRow) → get t (n ∷ r) ≡ o → plain_of (get new (upward (q ++ n ∷ r))) ≡ get t (n ∷ r)
    by (Some row) e = m.each n r row e ∙ sym e
    by None e =
        m.rest (upward (q ++ n ∷ r)) (λ k s some at. never (get t (n ∷ r)) e (subst (λ z. is_some (get t z) ≡ true) (sym (upward_is q (n ∷ r) (k ∷ s) at)) some))
        ∙ (ap plain_of (free n r) ∙ sym e)

pub import_same : ImportIsSame
import_same told q t qs totals now old new is h free = same_by old new q t (done_merges told q t qs totals now old new is h) free

pub copy_same : CopyIsSame
copy_same first p told q t qs totals now old new same is h free n r = import_same told q t qs totals now old new is h free n r ∙ sym (same n r)
