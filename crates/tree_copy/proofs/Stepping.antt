-- One step of a copy into a folder.
use Rattle.std.proofs.Common.{◌≡◌, inl, inr, ℕ, ◌<◌, ◌≤◌, true, false, cond, List, [], ◌∷◌, ◌++◌, length, map, refl, sym, ◌∙◌, ap, subst, arith, append-nil}
use Rattle.std.specs.Prelude.{is_some, Some, None, IfSome}
use Rattle.std.specs.FinMap.{get, find}
use Rattle.std.specs.Cmp.{tied_itself}
use Rattle.std.specs.Ordering.{is_eq}
use Rattle.std.specs.declared.option.Option.{Option}
use Rattle.std.specs.declared.result.Result.{Result}
use Rattle.std.specs.declared.result.Result.TheVariants.{Ok, Err}
use Rattle.fs_model.specs.declared.attr.Kind.{Kind}
use Rattle.fs_model.specs.declared.attr.Kind.TheVariants.{Directory}
use Rattle.fs_model.specs.declared.limits.TheConstants.{MAX_PATH_TEXT}
use Rattle.fs_model.specs.declared.reply.ListRow.{ListRow}
use Rattle.fs_model.specs.Tree.{name_cmp}
use Rattle.fs_model.proofs.TreeLemmas.{name_total}
use Rattle.copy_row.specs.host_folder.Folders.{HostRow, HostPath, HostTree, IsHostTree, AreRowsOf, kind_in, row_pair}
use Rattle.copy_row.specs.copy_laws.declared.copied.Totals.{Totals}
use Rattle.copy_row.specs.copy_laws.declared.copied.CopyFail.{CopyFail}
use Rattle.copy_row.specs.copy_laws.declared.copied.CopyFail.TheVariants as fail
use Rattle.copy_row.specs.copy_laws.Ends.{AreShort, HostCause, text_size}
use Rattle.copy_row.specs.copy_laws.Exporting.{AreServed, FailsOut, HasRows, IsBare, IsIdleBy, totals_in}
use Rattle.copy_row.specs.copy_laws.Questions.{Question, Asking, LawfulAsker, Asked}
use Rattle.copy_row.proofs.copy_laws_lemmas.Asking.{asked_none}
use Rattle.copy_row.proofs.copy_laws_lemmas.Walking.{above}
use Rattle.copy_row.specs.copy_laws.Walks.{todo_in}
use Rattle.copy_row.specs.declared.stop.Stop.{Stop}
use Rattle.copy_row.specs.declared.stop.Stop.TheVariants as stop
use Rattle.copy_row.specs.Reads.{ReadEnds, Reads, RowOut, SaysRows}
use Rattle.copy_row.specs.Rows.{NeverHost, none_copied}
use Rattle.copy_row.proofs.Served.{ends_error, ends_then, served_append, tells_front, tells_rest, asked_more}
use Rattle.tree_copy.specs.declared.levels.Level.{Level}
use Rattle.tree_copy.specs.Copies.{fail_of}
use Rattle.tree_copy.specs.Exports.{ExportRun, FailedOut, IsFar, IsOutAt, OutRun, SaysKids, TreeEntered}
use Rattle.tree_copy.specs.Levels.{left_of, todo_of, HasTargets}
use Rattle.tree_copy.proofs.Outward.{far_some, far_kind, far_next, far_leaf, far_part, far_none, far_same, far_entries, row_part, part_row, bare_part}
use Rattle.tree_copy.proofs.Stack.{todo_push, targets_push}

-- the end of a row's questions is that of the copy
fails_by : (X : Type 0) (q p : HostPath) (qs : List Question) (e : Stop) → ReadEnds {X = X} p qs (Err e) → FailsOut q qs (fail_of e p)
fails_by X q p qs stop.Memory h = h
fails_by X q p qs stop.Host h = h
fails_by X q p qs stop.Stopped h = (p, h)
fails_by X q p qs (stop.Refused e) h = h

module _ {A : Type 0} (M : Asking A) where
  -- memory is wanting before the next row
  pub out_memory : (a b : A) (before mid : Option HostTree) (q : HostPath) (todo : List (HostPath × Kind)) (totals : Totals) → IsOutAt M a b before mid q todo totals → FailedOut M a b before mid q fail.Memory
  out_memory a b before mid q todo totals x = record {
    qs = x.qs;
    asked = x.asked;
    fails = x.served;
    part = λ u rooted tells. far_part u before mid todo totals (x.of u rooted tells);
  }

  -- the text of the next row's path is too long
  pub out_long : (a b : A) (before mid : Option HostTree) (q p : HostPath) (k : Kind) (todo : List (HostPath × Kind)) (totals : Totals) → IsOutAt M a b before mid q ((p, k) ∷ todo) totals → MAX_PATH_TEXT < text_size p → FailedOut M a b before mid q (fail.LongPath p)
  out_long a b before mid q p k todo totals x long = record {
    qs = x.qs;
    asked = x.asked;
    fails = ((x.served, long), λ u rooted tells. there u (far_kind u before mid p k todo totals (x.of u rooted tells)));
    part = λ u rooted tells. far_part u before mid ((p, k) ∷ todo) totals (x.of u rooted tells);
  }
    where
      there : (u : HostTree) → kind_in (get u p) ≡ Some k → is_some (get u p) ≡ true
      there u h = by (get u p) h
        where
          by : (o : Option HostRow) → kind_in o ≡ Some k → is_some o ≡ true
          by None e = let bad : None ≡ Some k = e in absurd cc
          by (Some row) e = refl

  -- all is met
  pub out_end : (a b : A) (before after : Option HostTree) (q : HostPath) (totals : Totals) → IsOutAt M a b before after q [] totals → OutRun M a b before after q (Ok totals)
  out_end a b before after q totals x = record {
    qs = x.qs;
    asked = x.asked;
    ends = record {
      served = x.served;
      same = λ u rooted tells. far_same u before after totals (x.of u rooted tells);
      counts = λ u rooted tells. let far = x.of u rooted tells in far.counts ∙ ap totals_in (sym (far_entries u before after totals far));
      short = λ u rooted tells. let far = x.of u rooted tells in subst (AreShort []) (sym (far_entries u before after totals far)) far.short;
    };
  }

  pub failed_out : (a b : A) (before after : Option HostTree) (q : HostPath) (e : CopyFail) → FailedOut M a b before after q e → OutRun M a b before after q (Err e)
  failed_out a b before after q e x = record { qs = x.qs; asked = x.asked; ends = (x.fails, x.part) }

module _ {A : Type 0} (M : Asking A) (lawful : LawfulAsker M) where
  -- the next row isn't copied whole
  pub out_row_fails : (a b c : A) (before mid after : Option HostTree) (q p tree : HostPath) (k : Kind) (todo : List (HostPath × Kind)) (first totals : Totals) (e : Stop) (r : CopyFail) → r ≡ fail_of e tree → tree ≡ q ++ p → IsOutAt M a b before mid q ((p, k) ∷ todo) first
      → RowOut M b c mid after k tree p first totals {X = Unit {0}} (Err e) → FailedOut M a c before after q r
  out_row_fails a b c before mid after q p tree k todo first totals e r is at x row = subst (FailedOut M a c before after q) (sym is) (record {
    qs = x.qs ++ row.qs;
    asked = asked_more M lawful a b c x.qs row.qs x.asked x.served row.asked;
    fails = fails_by (Unit {0}) q tree (x.qs ++ row.qs) e (ends_then {X = Unit {0}} tree x.qs row.qs (Err e) x.served row.ends);
    part = λ u rooted tells.
        let far = x.of u rooted (tells_front u q x.qs row.qs tells) in
        part_row u before mid after p (far_part u before mid ((p, k) ∷ todo) first far)
        (row.of u q at (far_some u before mid p k todo first far) rooted (tells_rest u q x.qs row.qs tells) (far_kind u before mid p k todo first far));
  })

  -- a file or a link is copied
  pub out_leaf : (a b c : A) (before mid after : Option HostTree) (q p tree : HostPath) (k : Kind) (levels : List Level) (first totals : Totals) → (k ≡ Directory → ⊥) → tree ≡ q ++ p → HasTargets q levels → text_size p ≤ MAX_PATH_TEXT
      → IsOutAt M a b before mid q ((p, k) ∷ todo_of levels) first → RowOut M b c mid after k tree p first totals {X = Unit {0}} (Ok tt) → IsOutAt M a c before after q (todo_of levels) totals × HasTargets q levels
  out_leaf a b c before mid after q p tree k levels first totals leaf at targets short x row = (
    record {
      qs = x.qs ++ row.qs;
      asked = asked_more M lawful a b c x.qs row.qs x.asked x.served row.asked;
      served = served_append x.qs row.qs x.served row.ends;
      of = λ u rooted tells.
          let far = x.of u rooted (tells_front u q x.qs row.qs tells) in
          far_leaf u before mid after p k (todo_of levels) first totals far short
          (row.of u q at (far_some u before mid p k (todo_of levels) first far) rooted (tells_rest u q x.qs row.qs tells) (far_kind u before mid p k (todo_of levels) first far)) leaf;
    },
    targets,
  )

  -- a directory is made, and its rows aren't given
  pub out_unlisted : (a b c d : A) (before mid after : Option HostTree) (q p tree : HostPath) (k : Kind) (todo : List (HostPath × Kind)) (levels now : List Level) (first totals : Totals) (e : Stop) (r : CopyFail) → r ≡ fail_of e tree → tree ≡ q ++ p
      → IsOutAt M a b before mid q ((p, k) ∷ todo) first → RowOut M b c mid after k tree p first totals {X = Unit {0}} (Ok tt) → TreeEntered M c d p tree levels now (Err e) → FailedOut M a d before after q r
  out_unlisted a b c d before mid after q p tree k todo levels now first totals e r is at x row list =
      let qs : List Question = x.qs ++ row.qs in
      let asked : Asked M a c qs = asked_more M lawful a b c x.qs row.qs x.asked x.served row.asked in
      let served : AreServed qs = served_append x.qs row.qs x.served row.ends in
      subst (FailedOut M a d before after q) (sym is) (record {
        qs = qs ++ list.qs;
        asked = asked_more M lawful a c d qs list.qs asked served list.asked;
        fails = fails_by (Unit {0}) q tree (qs ++ list.qs) e (ends_then {X = Unit {0}} tree qs list.qs (Err e) served list.ends);
        part = λ u rooted tells.
            let told = tells_front u q qs list.qs tells in
            let far = x.of u rooted (tells_front u q x.qs row.qs told) in
            part_row u before mid after p (far_part u before mid ((p, k) ∷ todo) first far)
            (row_part u mid after p first totals (row.of u q at (far_some u before mid p k todo first far) rooted (tells_rest u q x.qs row.qs told) (far_kind u before mid p k todo first far)));
      })

  -- a directory is entered
  pub out_entered : (a b c d : A) (before mid after : Option HostTree) (q p tree : HostPath) (k : Kind) (levels now : List Level) (first totals : Totals) → tree ≡ q ++ p → HasTargets q levels → text_size p ≤ MAX_PATH_TEXT
      → IsOutAt M a b before mid q ((p, k) ∷ todo_of levels) first → RowOut M b c mid after k tree p first totals {X = Unit {0}} (Ok tt) → TreeEntered M c d p tree levels now (Ok tt) → IsOutAt M a d before after q (todo_of now) totals × HasTargets q now
  out_entered a b c d before mid after q p tree k levels now first totals at targets short x row list =
      let qs : List Question = x.qs ++ row.qs in
      let asked : Asked M a c qs = asked_more M lawful a b c x.qs row.qs x.asked x.served row.asked in
      let served : AreServed qs = served_append x.qs row.qs x.served row.ends in
      let l : Level = list.opened.level in
      let todo : todo_of now ≡ todo_in p (left_of l) ++ todo_of levels = ap todo_of list.opened.is ∙ (todo_push levels l ∙ ap (λ h. todo_in h (left_of l) ++ todo_of levels) list.opened.of_host) in (
        record {
          qs = qs ++ list.qs;
          asked = asked_more M lawful a c d qs list.qs asked served list.asked;
          served = served_append qs list.qs served list.ends;
          of = λ u rooted tells.
              let told = tells_front u q qs list.qs tells in
              let far = x.of u rooted (tells_front u q x.qs row.qs told) in
              subst (λ z. IsFar u before after z totals) (sym todo)
              (far_next u before mid after p k (todo_of levels) first totals (left_of l) far short
              (row.of u q at (far_some u before mid p k (todo_of levels) first far) rooted (tells_rest u q x.qs row.qs told) (far_kind u before mid p k (todo_of levels) first far))
              (list.opened.rows u q p at (tells_rest u q qs list.qs tells)));
        },
        subst (HasTargets q) (sym list.opened.is) (targets_push q levels l targets (list.opened.of_tree ∙ (at ∙ ap (λ h. q ++ h) (sym list.opened.of_host)))),
      )

  -- the source's rows are to be met
  pub out_first : (a b : A) (before : Option HostTree) (q : HostPath) (now : List Level) → IfSome before IsHostTree → IfSome before IsBare → TreeEntered M a b [] q [] now (Ok tt) → IsOutAt M a b before before q (todo_of now) none_copied × HasTargets q now
  out_first a b before q now rooted bare list =
      let l : Level = list.opened.level in
      let todo : todo_of now ≡ todo_in [] (left_of l) ++ [] = ap todo_of list.opened.is ∙ (ap (λ h. todo_in h (left_of l)) list.opened.of_host ∙ sym (append-nil (todo_in [] (left_of l)))) in (
        record {
          qs = list.qs;
          asked = list.asked;
          served = list.ends;
          of = λ u tree tells. subst (λ z. IsFar u before before z none_copied) (sym todo) (far_none u before (left_of l) tree rooted bare (list.opened.rows u q [] (sym (append-nil q)) tells));
        },
        subst (HasTargets q) (sym list.opened.is) ((list.opened.of_tree ∙ (sym (append-nil q) ∙ ap (λ h. q ++ h) (sym list.opened.of_host)), tt)),
      )

  -- they aren't given
  pub out_never : (a b : A) (before : Option HostTree) (q : HostPath) (levels now : List Level) (e : Stop) (r : CopyFail) → r ≡ fail_of e q → IfSome before IsBare → TreeEntered M a b [] q levels now (Err e) → FailedOut M a b before before q r
  out_never a b before q levels now e r is bare list = subst (FailedOut M a b before before q) (sym is) (record {
    qs = list.qs;
    asked = list.asked;
    fails = fails_by (Unit {0}) q q list.qs e list.ends;
    part = λ u rooted tells. bare_part u before bare;
  })

  -- memory is wanting before anything is asked
  pub out_unasked : (a : A) (before : Option HostTree) (q : HostPath) → IfSome before IsBare → FailedOut M a a before before q fail.Memory
  out_unasked a before q bare = record {
    qs = [];
    asked = asked_none M lawful a;
    fails = tt;
    part = λ u rooted tells. bare_part u before bare;
  }

-- the rows of a listing, as the children of what is entered
kids_said : (u : HostTree) (r : HostPath) (rows : List ListRow) → SaysRows u r rows → SaysKids u r (map row_pair rows)
kids_said u r rows h = record { rise = h.1; each = λ n. h.0.each n }

module _ {A : Type 0} (M : Asking A) (lawful : LawfulAsker M) where
  pub tree_unasked : (a : A) (host tree : HostPath) (levels now : List Level) → TreeEntered M a a host tree levels now (Err stop.Memory)
  tree_unasked a host tree levels now = record { qs = []; asked = asked_none M lawful a; ends = tt; opened = tt }

module _ {A : Type 0} (M : Asking A) where
  pub tree_unread : (a b : A) (host tree : HostPath) (levels now : List Level) (e : Stop) → Reads M a b tree {X = List ListRow} SaysRows (Err e) → TreeEntered M a b host tree levels now (Err e)
  tree_unread a b host tree levels now e r = record { qs = r.qs; asked = r.asked; ends = ends_error (List ListRow) (Unit {0}) tree r.qs e r.ends; opened = tt }

  pub tree_unpushed : (a b : A) (host tree : HostPath) (levels now : List Level) (rows : List ListRow) → Reads M a b tree SaysRows (Ok rows) → TreeEntered M a b host tree levels now (Err stop.Memory)
  tree_unpushed a b host tree levels now rows r = record { qs = r.qs; asked = r.asked; ends = r.ends; opened = tt }

  pub tree_entered : (a b : A) (host tree : HostPath) (levels now : List Level) (path : HostPath) (rows : List ListRow) → Reads M a b tree SaysRows (Ok rows) → path ≡ tree → now ≡ levels ++ record { host = host; tree = path; rows = rows; next = 0 } ∷ []
      → TreeEntered M a b host tree levels now (Ok tt)
  tree_entered a b host tree levels now path rows r at is = record {
    qs = r.qs;
    asked = r.asked;
    ends = r.ends;
    opened = record {
      level = record { host = host; tree = path; rows = rows; next = 0 };
      is = is;
      of_host = refl;
      of_tree = at;
      rows = λ u q s is tells. kids_said u s rows (r.says u q s is tells);
    };
  }

-- the folder has no part in it
pub never_host : (n : ℕ) (e : Stop) (p : HostPath) (r : CopyFail) → r ≡ fail_of e p → NeverHost {X = Unit {0}} (Err e) → HostCause {X = Unit {0}} n n (Err r)
never_host n e p r is never = subst (λ z. HostCause {X = Unit {0}} n n (Err z)) (sym is) (by e never)
  where
    by : (e : Stop) → NeverHost {X = Unit {0}} (Err e) → HostCause {X = Unit {0}} n n (Err (fail_of e p))
    by stop.Memory never = refl
    by stop.Host never = absurd never
    by stop.Stopped never = refl
    by (stop.Refused error) never = refl

-- a folder whose root has no rows, and one whose root has some
bare_root : (t : HostTree) (rows : List ListRow) → IsHostTree t → AreRowsOf t [] rows → length rows ≡ 0 → IsBare t
bare_root t [] tree are none n r = by (get t (n ∷ r)) refl
  where
    never : is_some (get t ([] ++ n ∷ [])) ≡ true → ⊥
    never some = kind_none (get t ([] ++ n ∷ [])) (are.each n) some
      where
        kind_none : (o : Option HostRow) → None ≡ kind_in o → is_some o ≡ true → ⊥
        kind_none None e h = let bad : false ≡ true = h in cc
        kind_none (Some row) e h = let bad : None ≡ Some row.kind = e in cc

    by : (o : Option HostRow) → get t (n ∷ r) ≡ o → get t (n ∷ r) ≡ None
    by None e = e
    by (Some row) e = absurd (never (above t tree r [] n (ap is_some e)))
bare_root t (x ∷ rows) tree are none n r = absurd (omega arith)

rows_root : (t : HostTree) (rows : List ListRow) → AreRowsOf t [] rows → 0 < length rows → HasRows t
rows_root t [] are some = absurd (omega arith)
rows_root t (x ∷ rows) are some = (x.name, kind_some (get t ([] ++ x.name ∷ [])) (sym (ap (λ b. cond (is_eq b) (Some x.kind) (find name_cmp x.name (map row_pair rows))) (tied_itself name_total x.name)) ∙ are.each x.name))
  where
    kind_some : (o : Option HostRow) → Some x.kind ≡ kind_in o → is_some o ≡ true
    kind_some None e = let bad : Some x.kind ≡ None = e in absurd cc
    kind_some (Some row) e = refl

pub bare_told : (told : Option HostTree) (rows : List ListRow) → IfSome told IsHostTree → IfSome told (λ t. AreRowsOf t [] rows) → length rows ≡ 0 → IfSome told IsBare
bare_told None rows tree are none = tt
bare_told (Some t) rows tree are none = bare_root t rows tree are none

pub rows_told : (told : Option HostTree) (rows : List ListRow) → IfSome told (λ t. AreRowsOf t [] rows) → 0 < length rows → IfSome told HasRows
rows_told None rows are some = tt
rows_told (Some t) rows are some = rows_root t rows are some

module _ {A : Type 0} (M : Asking A) where
  pub run_begun : (a b : A) (before mid after : Option HostTree) (q : HostPath) (r : Result Totals CopyFail) → mid ≡ before → IfSome before IsBare → OutRun M a b mid after q r → ExportRun M a b before after q r
  run_begun a b before mid after q r same bare x = by (subst (λ z. OutRun M a b z after q r) same x)
    where
      by : OutRun M a b before after q r → ExportRun M a b before after q r
      by y = record { qs = y.qs; asked = y.asked; is = inr (record { bare = bare; ends = y.ends }) }

module _ {A : Type 0} (M : Asking A) (lawful : LawfulAsker M) where
  pub run_idle : (a : A) (before after : Option HostTree) (q : HostPath) (r : Result Totals CopyFail) → after ≡ before → IsIdleBy before r → ExportRun M a a before after q r
  run_idle a before after q r same ends = record { qs = []; asked = asked_none M lawful a; is = inl (record { none = refl; same = same; ends = ends }) }
