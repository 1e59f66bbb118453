-- One step of a copy, and what it leaves.
use Rattle.std.proofs.Common.{◌≡◌, ℕ, ◌<◌, ◌≤◌, Bool, true, false, List, [], ◌∷◌, ◌++◌, length, refl, sym, ◌∙◌, ap, subst, arith, append-nil}
use Rattle.std.specs.Prelude.{Some, None, IfSome, IsTrue, ◌↔◌}
use Rattle.std.specs.FinMap.{get, find, from_sorted, get-from_sorted}
use Rattle.std.specs.declared.option.Option.{Option}
use Rattle.std.specs.declared.result.Result.{Result}
use Rattle.std.specs.declared.result.Result.TheVariants.{Ok, Err}
use Rattle.outside.specs.Causes.{GetHasCause, RoseBy}
use Rattle.outside.specs.declared.vault.GetFail.{GetFail}
use Rattle.outside.specs.declared.vault.GetFail.TheVariants.{Memory, Failed}
use Rattle.fs_model.specs.declared.attr.Kind.{Kind}
use Rattle.fs_model.specs.declared.attr.Kind.TheVariants.{Directory}
use Rattle.fs_model.specs.Tree.{name_cmp, path_cmp}
use Rattle.copy_row.specs.host_folder.Folders.{HostRow, HostPath, HostTree, IsHostTree, kind_in}
use Rattle.copy_row.specs.copy_laws.declared.copied.Totals.{Totals}
use Rattle.copy_row.specs.copy_laws.declared.copied.CopyFail.{CopyFail}
use Rattle.copy_row.specs.copy_laws.declared.copied.CopyFail.TheVariants as fail
use Rattle.copy_row.specs.copy_laws.Ends.{HostCause, StopCause, text_size}
use Rattle.copy_row.specs.copy_laws.Questions.{Asking, LawfulAsker}
use Rattle.copy_row.specs.copy_laws.Walks.{Todo, todo_in, HasKinds}
use Rattle.copy_row.proofs.copy_laws_lemmas.Asking.{asked_none}
use Rattle.copy_row.specs.declared.stop.Stop.{Stop}
use Rattle.copy_row.specs.declared.stop.Stop.TheVariants as stop
use Rattle.copy_row.specs.Rows.{RowCopied, FaultsBy, StopsBy, IsPlaced, none_copied}
use Rattle.tree_copy.specs.declared.levels.Level.{Level}
use Rattle.tree_copy.specs.Copies.{IsAt, Failed as HasFailed, StepEnds, fail_of}
use Rattle.tree_copy.specs.Levels.{left_of, todo_of, HasTargets, AreKnown, IsEntered}
use Rattle.tree_copy.proofs.Places.{row_met, no_kids, begun, row_fails, list_fails}
use Rattle.tree_copy.proofs.Stack.{todo_push, targets_push}

pub short_of : (b : Bool) (n : ℕ) → (IsTrue b ↔ (n ≤ 4096)) → b ≡ true → n ≤ 4096
short_of b n h e = h.0 e

pub long_of : (b : Bool) (n : ℕ) → (IsTrue b ↔ (n ≤ 4096)) → b ≡ false → 4096 < n
long_of b n h e =
    let no : n ≤ 4096 → ⊥ = λ le. never b (h.1 le) e in
    omega (arith, no)
  where
    never : (b : Bool) → b ≡ true → b ≡ false → ⊥
    never b t f = let bad : true ≡ false = sym t ∙ f in cc

pub host_fails : (before now : ℕ) (e : Stop) (p : HostPath) (r : CopyFail) → r ≡ fail_of e p → FaultsBy {X = Unit {0}} before now (Err e) → HostCause {X = Unit {0}} before now (Err r)
host_fails before now e p r is h = subst (λ z. HostCause {X = Unit {0}} before now (Err z)) (sym is) (by e h)
  where
    by : (e : Stop) → FaultsBy {X = Unit {0}} before now (Err e) → HostCause {X = Unit {0}} before now (Err (fail_of e p))
    by stop.Memory h = h
    by stop.Host h = h
    by stop.Stopped h = h
    by (stop.Refused error) h = h

pub stop_fails : (before now : ℕ) (e : Stop) (p : HostPath) (r : CopyFail) → r ≡ fail_of e p → StopsBy {X = Unit {0}} before now (Err e) → StopCause {X = Unit {0}} before now (Err r)
stop_fails before now e p r is h = subst (λ z. StopCause {X = Unit {0}} before now (Err z)) (sym is) (by e h)
  where
    by : (e : Stop) → StopsBy {X = Unit {0}} before now (Err e) → StopCause {X = Unit {0}} before now (Err (fail_of e p))
    by stop.Memory h = h
    by stop.Host h = h
    by stop.Stopped h = h
    by (stop.Refused error) h = h

pub memory_quiet : {X : Type 0} (before now : ℕ) (e : GetFail) → e ≡ Memory → GetHasCause {T = X} before now (Err e) → now ≡ before
memory_quiet {X = X} before now e is h = (subst (λ z. GetHasCause {T = X} before now (Err z)) is h).quiet

pub failed_rose : {X : Type 0} (before mid now : ℕ) (e : GetFail) → e ≡ Failed → mid ≡ before → GetHasCause {T = X} mid now (Err e) → (before ≤ now) × RoseBy 1 before now
failed_rose {X = X} before mid now e is same h =
    let k = subst (λ z. GetHasCause {T = X} mid now (Err z)) is h in
    subst (λ z. (z ≤ now) × RoseBy 1 z now) same (k.grows, k.failed refl)

module _ {A : Type 0} (M : Asking A) (lawful : LawfulAsker M) where
  -- a directory is entered
  pub entered : (a b c : A) (told now : Option HostTree) (q : HostPath) (p : HostPath) (k : Kind) (to : HostPath) (levels new : List Level) (before after : Totals) → now ≡ told → to ≡ q ++ p → HasTargets q levels → IsAt M a b told q ((p, k) ∷ todo_of levels) before
      → text_size to ≤ 4096 → RowCopied M b c told k p to before after {X = Unit {0}} (Ok tt) → IsEntered now p to levels new → IsAt M a c told q (todo_of new) after × HasTargets q new
  entered a b c told now q p k to levels new before after same at targets x short r e =
      let rows = subst (λ z. IfSome z (λ t. (n : List ℕ) → find name_cmp n (left_of e.level) ≡ kind_in (get t (p ++ n ∷ [])))) same e.rows in
      let met = row_met M lawful a b c told q p k (todo_of levels) before after (left_of e.level) x (subst (λ z. text_size z ≤ 4096) at short) (subst (λ z. RowCopied M b c told k p z before after {X = Unit {0}} (Ok tt)) at r) e.rise rows in
      let todo : todo_of new ≡ todo_in p (left_of e.level) ++ todo_of levels = ap todo_of e.is ∙ (todo_push levels e.level ∙ ap (λ h. todo_in h (left_of e.level) ++ todo_of levels) e.host) in
      (subst (λ z. IsAt M a c told q z after) (sym todo) met, subst (HasTargets q) (sym e.is) (targets_push q levels e.level targets (e.tree ∙ (at ∙ ap (λ h. q ++ h) (sym e.host)))))

  -- a file or a link is copied
  pub leaf : (a b c : A) (told : Option HostTree) (q : HostPath) (p : HostPath) (k : Kind) (to : HostPath) (levels : List Level) (before after : Totals) → (k ≡ Directory → ⊥) → to ≡ q ++ p → HasTargets q levels → IsAt M a b told q ((p, k) ∷ todo_of levels) before
      → text_size to ≤ 4096 → RowCopied M b c told k p to before after {X = Unit {0}} (Ok tt) → IsAt M a c told q (todo_of levels) after × HasTargets q levels
  leaf a b c told q p k to levels before after flat at targets x short r = (
    row_met M lawful a b c told q p k (todo_of levels) before after [] x (subst (λ z. text_size z ≤ 4096) at short) (subst (λ z. RowCopied M b c told k p z before after {X = Unit {0}} (Ok tt)) at r) tt
        (no_kids told x.met p k (todo_of levels) r.row x.walk r.of_kind flat r.there),
    targets,
  )

  -- the copy of a row fails
  pub row_stops : (a b c : A) (told : Option HostTree) (q : HostPath) (p : HostPath) (k : Kind) (to : HostPath) (levels : List Level) (before after : Totals) (e : Stop) (r : CopyFail) → r ≡ fail_of e to → to ≡ q ++ p → IsAt M a b told q ((p, k) ∷ todo_of levels) before
      → RowCopied M b c told k p to before after {X = Unit {0}} (Err e) → HasFailed M a c told q r
  row_stops a b c told q p k to levels before after e r is at x copied =
      subst (λ z. HasFailed M a c told q z) (sym (is ∙ ap (fail_of e) at))
      (row_fails M lawful a b c told q p k (todo_of levels) before after e x (subst (λ z. RowCopied M b c told k p z before after {X = Unit {0}} (Err e)) at copied))

  pub list_stops : (a b c : A) (told : Option HostTree) (q : HostPath) (p : HostPath) (k : Kind) (to : HostPath) (levels : List Level) (before after : Totals) → to ≡ q ++ p → IsAt M a b told q ((p, k) ∷ todo_of levels) before
      → RowCopied M b c told k p to before after {X = Unit {0}} (Ok tt) → HasFailed M a c told q fail.Memory × HasFailed M a c told q fail.Host
  list_stops a b c told q p k to levels before after at x copied = list_fails M lawful a b c told q p k (todo_of levels) before after x (subst (λ z. RowCopied M b c told k p z before after {X = Unit {0}} (Ok tt)) at copied)

  -- the root's list fails
  pub none_fails : (a : A) (told : Option HostTree) (q : HostPath) → IfSome told IsHostTree → HasFailed M a a told q fail.Memory × HasFailed M a a told q fail.Host
  none_fails a None q tree = (
    record { qs = []; tree = from_sorted {R = path_cmp} []; asked = asked_none M lawful a; same = tt; plain = none; fails = (tt, (_, refl)) },
    record { qs = []; tree = from_sorted {R = path_cmp} []; asked = asked_none M lawful a; same = tt; plain = none; fails = (tt, (_, refl)) },
  )
    where
      none : (r : HostPath) (row : HostRow) → get (from_sorted {R = path_cmp} []) r ≡ Some row → row.kind ≡ Directory → row.bytes ≡ []
      none r row e d = let bad : None ≡ Some row = sym (get-from_sorted path_cmp [] r tt) ∙ e in absurd cc
  none_fails a (Some t) q tree = (
    record { qs = []; tree = t; asked = asked_none M lawful a; same = refl; plain = λ r row e. tree.plain r row e; fails = (tt, (_, refl)) },
    record { qs = []; tree = t; asked = asked_none M lawful a; same = refl; plain = λ r row e. tree.plain r row e; fails = (tt, (_, refl)) },
  )

  -- the root's rows are to be met
  pub first_at : (a : A) (told now : Option HostTree) (q : HostPath) (new : List Level) → now ≡ told → IfSome told IsHostTree → IsEntered now [] q [] new → IsAt M a a told q (todo_of new) none_copied × HasTargets q new
  first_at a told now q new same tree e =
      let rows = subst (λ z. IfSome z (λ t. (n : List ℕ) → find name_cmp n (left_of e.level) ≡ kind_in (get t ([] ++ n ∷ [])))) same e.rows in
      let at = begun M lawful a told q (left_of e.level) tree e.rise rows in
      let todo : todo_of new ≡ todo_in [] (left_of e.level) ++ [] = ap todo_of e.is ∙ (todo_push [] e.level ∙ ap (λ h. todo_in h (left_of e.level) ++ []) e.host) in
      (subst (λ z. IsAt M a a told q z none_copied) (sym todo) at, subst (HasTargets q) (sym e.is) ((e.tree ∙ (sym (append-nil q) ∙ ap (λ h. q ++ h) (sym e.host)), tt)))

-- what the walk knows of the told tree
pub known : {A : Type 0} (M : Asking A) (a b : A) (told : Option HostTree) (q : HostPath) (levels : List Level) (totals : Totals) → IsAt M a b told q (todo_of levels) totals → IfSome told (λ t. AreKnown t levels)
known M a b None q levels totals x = tt
known M a b (Some t) q levels totals x = record { tree = x.walk.covers.tree; kinds = x.walk.covers.kinds }

pub placed : (told : Option HostTree) (levels : List Level) (p : HostPath) (k : Kind) (todo : Todo) → todo_of levels ≡ (p, k) ∷ todo → IfSome told (λ t. AreKnown t levels) → IfSome told (λ t. IsPlaced t p k)
placed None levels p k todo e h = tt
placed (Some t) levels p k todo e h = let kinds = subst (λ z. HasKinds t z) e h.kinds in record { tree = h.tree; there = kinds.0 }

pub nothing : {X : Type 0} (w : List X) → length w ≡ 0 → w ≡ []
nothing [] e = refl
nothing (x ∷ w) e = absurd (omega arith)

module _ {A : Type 0} (M : Asking A) where
  -- a step over the folder as it is now is one over the folder as it was
  pub told_step : {X : Type 0} (a old new : A) (from told : Option HostTree) (q : HostPath) (levels now : List Level) (before after : Totals) (r : Result X CopyFail) → from ≡ told
      → ((first : A) (p : HostPath) → HasTargets p levels → IsAt M first old from p (todo_of levels) before → StepEnds M {X = X} first new from p now after r)
      → HasTargets q levels → IsAt M a old told q (todo_of levels) before → StepEnds M {X = X} a new told q now after r
  told_step {X = X} a old new from told q levels now before after r same step =
      subst (λ z. (first : A) (p : HostPath) → HasTargets p levels → IsAt M first old z p (todo_of levels) before → StepEnds M {X = X} first new z p now after r) same step a q

pub host_from : (before mid now : ℕ) (r : CopyFail) → mid ≡ before → HostCause {X = Bool} mid now (Err r) → HostCause {X = Totals} before now (Err r)
host_from before mid now r same h = by r (subst (λ z. HostCause {X = Bool} z now (Err r)) same h)
  where
    by : (r : CopyFail) → HostCause {X = Bool} before now (Err r) → HostCause {X = Totals} before now (Err r)
    by fail.Memory h = h
    by fail.Host h = h
    by fail.Stopped h = h
    by (fail.LongPath p) h = h
    by (fail.Refused p e) h = h

pub stop_from : (before mid now : ℕ) (r : CopyFail) → mid ≡ before → StopCause {X = Bool} mid now (Err r) → StopCause {X = Totals} before now (Err r)
stop_from before mid now r same h = by r (subst (λ z. StopCause {X = Bool} z now (Err r)) same h)
  where
    by : (r : CopyFail) → StopCause {X = Bool} before now (Err r) → StopCause {X = Totals} before now (Err r)
    by fail.Memory h = h
    by fail.Host h = h
    by fail.Stopped h = h
    by (fail.LongPath p) h = h
    by (fail.Refused p e) h = h
