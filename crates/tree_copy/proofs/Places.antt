-- The row that is the next: it is too long, fails, or is copied.
use Rattle.std.proofs.Common.{◌≡◌, inl, inr, ℕ, ◌<◌, ◌≤◌, true, false, List, [], ◌∷◌, ◌++◌, refl, sym, ◌∙◌, ap, subst, append-nil, append_assoc}
use Rattle.std.specs.Prelude.{T, is_some, Some, None, IfSome}
use Rattle.std.specs.FinMap.{get, find, entries, is_sorted}
use Rattle.std.specs.declared.option.Option.{Option}
use Rattle.std.specs.declared.result.Result.TheVariants.{Ok, Err}
use Rattle.fs_model.specs.declared.attr.Kind.{Kind}
use Rattle.fs_model.specs.declared.attr.Kind.TheVariants.{Directory}
use Rattle.fs_model.specs.declared.command.Command.{Command}
use Rattle.fs_model.specs.declared.limits.TheConstants.{MAX_PATH_TEXT}
use Rattle.fs_model.specs.declared.reply.Reply.TheVariants.{Error}
use Rattle.fs_model.specs.Tree.{path_cmp, name_cmp}
use Rattle.copy_row.specs.host_folder.Folders.{HostRow, HostPath, HostTree, IsHostTree, directory_row, kind_in}
use Rattle.copy_row.specs.copy_laws.declared.copied.Totals.{Totals}
use Rattle.copy_row.specs.copy_laws.declared.copied.CopyFail.{CopyFail}
use Rattle.copy_row.specs.copy_laws.declared.copied.CopyFail.TheVariants as fail
use Rattle.copy_row.specs.copy_laws.Ends.{AreShort, FailsBy, IsFront, IsLong, text_size, counted}
use Rattle.copy_row.specs.copy_laws.Importing.{commands_in, commands_for, import_commands}
use Rattle.copy_row.specs.copy_laws.Questions.{Question, Asking, LawfulAsker, Asked, AreDone, commands_of}
use Rattle.copy_row.specs.copy_laws.Walks.{Met, Todo, todo_in, AreLess, IsPlain, IsWalk, IsRowAt, Covers}
use Rattle.copy_row.proofs.copy_laws_lemmas.Asking.{asked_none, asked_then, answered_done, done_append, last_append, counted_then, counted_all, commands_append}
use Rattle.copy_row.proofs.copy_laws_lemmas.Cutting.{rows_append}
use Rattle.copy_row.proofs.copy_laws_lemmas.Ending.{walk_of, walk_done, walk_next}
use Rattle.copy_row.proofs.copy_laws_lemmas.Walking.{walk_more, found_left, find_less}
use Rattle.copy_row.specs.declared.stop.Stop.{Stop}
use Rattle.copy_row.specs.declared.stop.Stop.TheVariants as stop
use Rattle.copy_row.specs.Rows.{RowCopied, RowEnds, none_copied}
use Rattle.tree_copy.specs.Copies.{IsAt, Failed, ImportRun, fail_of}

-- the row at the path that is the next
kind_row : (t : HostTree) (p : HostPath) (k : Kind) (o : Option HostRow) → get t p ≡ o → kind_in (get t p) ≡ Some k → (row : HostRow) × ((row.kind ≡ k) × (get t p ≡ Some row))
kind_row t p k None e h = let bad : None ≡ Some k = sym (ap kind_in e) ∙ h in absurd cc
kind_row t p k (Some row) e h = let is : Some row.kind ≡ Some k = sym (ap kind_in e) ∙ h in (row, (cc, e))

pub next_row : (told : Option HostTree) (met : Met) (p : HostPath) (k : Kind) (todo : Todo) → IsWalk told met ((p, k) ∷ todo)
    → (row : HostRow) × (IsPlain row × IfSome told (λ t. get t p ≡ Some row))
next_row None met p k todo w = (record { kind = k; bytes = [] }, ((λ e. refl), tt))
next_row (Some t) met p k todo w =
    let found = kind_row t p k (get t p) refl w.covers.kinds.0 in
    (found.0, ((λ e. w.covers.tree.plain p found.0 found.1.1 e), found.1.1))

-- the path that is the next isn't the root
pub never_root : (met : Met) (p : HostPath) → AreLess met p → is_some (find path_cmp [] met) ≡ true → p ≡ [] → ⊥
never_root met p less root e =
    let none : find path_cmp [] met ≡ None = ap (λ z. find path_cmp z met) (sym e) ∙ find_less p met less in
    let bad : false ≡ true = sym (ap is_some none) ∙ root in cc

-- the commands of a tree whose entries begin with what was met
all_of : (q : HostPath) (t : HostTree) (met rest : Met) (qs : List Question) → entries t ≡ met ++ rest → commands_of qs ≡ commands_in q met → import_commands t q ≡ commands_of qs ++ commands_in q rest
all_of q t met rest qs e c = ap (commands_in q) e ∙ (rows_append q met rest ∙ ap (λ z. z ++ commands_in q rest) (sym c))

front_of : (q : HostPath) (t : HostTree) (met rest : Met) (qs rs : List Question) (cs : List Command) → entries t ≡ met ++ rest → commands_of qs ≡ commands_in q met → (more : List Command) × (commands_in q rest ≡ cs ++ more) → IsFront (commands_of rs) cs
    → IsFront (commands_of (qs ++ rs)) (import_commands t q)
front_of q t met rest qs rs cs e c more front = (
  front.0 ++ more.0,
  all_of q t met rest qs e c
      ∙ (ap (λ z. commands_of qs ++ z) (more.1 ∙ (ap (λ z. z ++ more.0) front.1 ∙ append_assoc (commands_of rs) front.0 more.0))
      ∙ (sym (append_assoc (commands_of qs) (commands_of rs) (front.0 ++ more.0))
      ∙ ap (λ z. z ++ (front.0 ++ more.0)) (sym (commands_append qs rs)))),
)

row_first : (q : HostPath) (p : HostPath) (row : HostRow) (after : Met) → (p ≡ [] → ⊥) → (more : List Command) × (commands_in q ((p, row) ∷ after) ≡ commands_for (q ++ p) row.kind row.bytes ++ more)
row_first q [] row after some = absurd (some refl)
row_first q (n ∷ r) row after some = (commands_in q after, refl)

long_at : (q : HostPath) (t : HostTree) (met after : Met) (p : HostPath) (row : HostRow) (qs : List Question) → (p ≡ [] → ⊥) → entries t ≡ met ++ (p, row) ∷ after → MAX_PATH_TEXT < text_size (q ++ p) → AreShort q met → AreDone qs
    → commands_of qs ≡ commands_in q met → IsLong q t qs (q ++ p)
long_at q t met after [] row qs some e long short done c = absurd (some refl)
long_at q t met after (n ∷ r) row qs some e long short done c = record {
  front = met;
  rest = after;
  name = n;
  below = r;
  row = row;
  are = e;
  here = refl;
  long = long;
  short = short;
  done = done;
  asked = c;
}

pub short_push : (q : HostPath) (met : Met) (p : HostPath) (row : HostRow) → AreShort q met → text_size (q ++ p) ≤ MAX_PATH_TEXT → AreShort q (met ++ (p, row) ∷ [])
short_push q [] [] row h le = tt
short_push q [] (n ∷ r) row h le = (le, tt)
short_push q (([], x) ∷ met) p row h le = short_push q met p row h le
short_push q ((n ∷ r, x) ∷ met) p row h le = (h.0, short_push q met p row h.1 le)

module _ {A : Type 0} (M : Asking A) where
  -- before the next row
  pub at_memory : (a b : A) (told : Option HostTree) (q : HostPath) (todo : Todo) (totals : Totals) → IsAt M a b told q todo totals → Failed M a b told q fail.Memory
  at_memory a b told q todo totals x =
      let of = walk_of told x.met todo x.walk in
      record { qs = x.qs; tree = of.0; asked = x.asked; same = of.1.0.same; plain = of.1.0.plain; fails = (x.done, (commands_in q of.1.1.0, all_of q of.0 x.met of.1.1.0 x.qs of.1.1.1.0 x.commands)) }

  -- the next row's path is too long
  pub at_long : (a b : A) (told : Option HostTree) (q : HostPath) (p : HostPath) (k : Kind) (todo : Todo) (totals : Totals) → IsAt M a b told q ((p, k) ∷ todo) totals → MAX_PATH_TEXT < text_size (q ++ p) → Failed M a b told q (fail.LongPath (q ++ p))
  at_long a b told q p k todo totals x long =
      let row = next_row told x.met p k todo x.walk in
      let of = walk_next told x.met p k todo row.0 x.walk row.1.0 row.1.1 in
      record {
        qs = x.qs;
        tree = of.0;
        asked = x.asked;
        same = of.1.0.same;
        plain = of.1.0.plain;
        fails = long_at q of.0 x.met of.1.1.0 p row.0 x.qs (λ e. never_root x.met p x.walk.ahead.0 x.root e) of.1.1.1 long x.short x.done x.commands;
      }

  -- all is met
  pub at_end : (a b : A) (told : Option HostTree) (q : HostPath) (totals : Totals) → IsAt M a b told q [] totals → ImportRun M a b told q (Ok totals)
  at_end a b told q totals x =
      let of = walk_done told x.met x.walk in
      record {
        qs = x.qs;
        tree = of.0;
        asked = x.asked;
        is = record {
          same = of.1.0.same;
          plain = of.1.0.plain;
          ends = record {
            done = x.done;
            asked = x.commands ∙ ap (commands_in q) (sym of.1.1);
            short = subst (λ z. AreShort q z) (sym of.1.1) x.short;
            counts = x.counts ∙ counted_all (commands_of x.qs);
          };
        };
      }

  pub failed_run : (a b : A) (told : Option HostTree) (q : HostPath) (e : CopyFail) → Failed M a b told q e → ImportRun M a b told q (Err e)
  failed_run a b told q e x = record { qs = x.qs; tree = x.tree; asked = x.asked; is = record { same = x.same; plain = x.plain; ends = x.fails } }

module _ {A : Type 0} (M : Asking A) (lawful : LawfulAsker M) where
  -- the next row fails
  pub row_fails : (a b c : A) (told : Option HostTree) (q : HostPath) (p : HostPath) (k : Kind) (todo : Todo) (before after : Totals) (e : Stop) → IsAt M a b told q ((p, k) ∷ todo) before → RowCopied M b c told k p (q ++ p) before after {X = Unit {0}} (Err e)
      → Failed M a c told q (fail_of e (q ++ p))
  row_fails a b c told q p k todo before after e x r =
      let of = walk_next told x.met p k todo r.row x.walk r.plain r.there in
      record {
        qs = x.qs ++ r.asks.qs;
        tree = of.0;
        asked = asked_then M lawful a b c x.qs r.asks.qs x.asked (answered_done x.qs x.done) r.asks.asked;
        same = of.1.0.same;
        plain = of.1.0.plain;
        fails = by of.0 e r.asks.ends (front_of q of.0 x.met ((p, r.row) ∷ of.1.1.0) x.qs r.asks.qs (commands_for (q ++ p) r.row.kind r.row.bytes) of.1.1.1 x.commands
            (row_first q p r.row of.1.1.0 (λ n. never_root x.met p x.walk.ahead.0 x.root n)) r.asks.commands);
      }
    where
      by : (t : HostTree) (e : Stop) → RowEnds {X = Unit {0}} (q ++ p) r.asks.qs (Err e) → IsFront (commands_of (x.qs ++ r.asks.qs)) (import_commands t q) → FailsBy q t (x.qs ++ r.asks.qs) (fail_of e (q ++ p))
      by t stop.Memory ends front = (done_append x.qs r.asks.qs x.done ends, front)
      by t stop.Host ends front = (done_append x.qs r.asks.qs x.done ends, front)
      by t stop.Stopped ends front = ((q ++ p, ends.0, last_append x.qs r.asks.qs (q ++ p) (Err ends.0) x.done ends.1), front)
      by t (stop.Refused error) ends front = (last_append x.qs r.asks.qs (q ++ p) (Ok (Error error)) x.done ends, front)

  -- the next row is copied, and its children's list fails
  pub list_fails : (a b c : A) (told : Option HostTree) (q : HostPath) (p : HostPath) (k : Kind) (todo : Todo) (before after : Totals) → IsAt M a b told q ((p, k) ∷ todo) before → RowCopied M b c told k p (q ++ p) before after {X = Unit {0}} (Ok tt)
      → Failed M a c told q fail.Memory × Failed M a c told q fail.Host
  list_fails a b c told q p k todo before after x r =
      let of = walk_next told x.met p k todo r.row x.walk r.plain r.there in
      let qs : List Question = x.qs ++ r.asks.qs in
      let asked : Asked M a c qs = asked_then M lawful a b c x.qs r.asks.qs x.asked (answered_done x.qs x.done) r.asks.asked in
      let done : AreDone qs = done_append x.qs r.asks.qs x.done r.asks.ends in
      let front : IsFront (commands_of qs) (import_commands of.0 q) =
      front_of q of.0 x.met ((p, r.row) ∷ of.1.1.0) x.qs r.asks.qs (commands_for (q ++ p) r.row.kind r.row.bytes) of.1.1.1 x.commands
      (row_first q p r.row of.1.1.0 (λ n. never_root x.met p x.walk.ahead.0 x.root n)) ([], sym (append-nil (commands_of r.asks.qs) ∙ r.asks.commands)) in (
        record { qs = qs; tree = of.0; asked = asked; same = of.1.0.same; plain = of.1.0.plain; fails = (done, front) },
        record { qs = qs; tree = of.0; asked = asked; same = of.1.0.same; plain = of.1.0.plain; fails = (done, front) },
      )

  -- the next row is copied, and these are its children
  pub row_met : (a b c : A) (told : Option HostTree) (q : HostPath) (p : HostPath) (k : Kind) (todo : Todo) (before after : Totals) (kids : List (List ℕ × Kind)) → IsAt M a b told q ((p, k) ∷ todo) before → text_size (q ++ p) ≤ MAX_PATH_TEXT
      → RowCopied M b c told k p (q ++ p) before after {X = Unit {0}} (Ok tt) → T (is_sorted name_cmp kids) → IfSome told (λ t. (n : List ℕ) → find name_cmp n kids ≡ kind_in (get t (p ++ n ∷ []))) → IsAt M a c told q (todo_in p kids ++ todo) after
  row_met a b c told q p k todo before after kids x short r rise each = record {
    met = x.met ++ (p, r.row) ∷ [];
    qs = x.qs ++ r.asks.qs;
    asked = asked_then M lawful a b c x.qs r.asks.qs x.asked (answered_done x.qs x.done) r.asks.asked;
    done = done_append x.qs r.asks.qs x.done r.asks.ends;
    commands = commands_append x.qs r.asks.qs ∙ (ap (λ z. z ++ commands_of r.asks.qs) x.commands ∙ (ap (λ z. commands_in q x.met ++ z) (r.asks.commands ∙ alone p r.row some) ∙ sym (rows_append q x.met ((p, r.row) ∷ []))));
    walk = walk_more told x.met p k todo r.row kids x.walk r.plain rise (row_told told r.row r.there each);
    root = found_left [] x.met ((p, r.row) ∷ []) x.root;
    short = short_push q x.met p r.row x.short short;
    counts = r.counts ∙ (ap (λ z. counted z (commands_for (q ++ p) r.row.kind r.row.bytes)) x.counts ∙ (counted_then none_copied (commands_of x.qs) (commands_for (q ++ p) r.row.kind r.row.bytes)
        ∙ ap (counted none_copied) (ap (λ z. commands_of x.qs ++ z) (sym r.asks.commands) ∙ sym (commands_append x.qs r.asks.qs))));
  }
    where
      some : p ≡ [] → ⊥
      some e = never_root x.met p x.walk.ahead.0 x.root e

      alone : (p : HostPath) (row : HostRow) → (p ≡ [] → ⊥) → commands_for (q ++ p) row.kind row.bytes ≡ commands_in q ((p, row) ∷ [])
      alone [] row some = absurd (some refl)
      alone (n ∷ s) row some = sym (append-nil (commands_for (q ++ n ∷ s) row.kind row.bytes))

      row_told : (told : Option HostTree) (row : HostRow) → IfSome told (λ t. get t p ≡ Some row) → IfSome told (λ t. (n : List ℕ) → find name_cmp n kids ≡ kind_in (get t (p ++ n ∷ []))) → IfSome told (λ t. IsRowAt t p row kids)
      row_told None row there each = tt
      row_told (Some t) row there each = record { here = there; each = each }

-- what is no directory has no children
pub no_kids : (told : Option HostTree) (met : Met) (p : HostPath) (k : Kind) (todo : Todo) (row : HostRow) → IsWalk told met ((p, k) ∷ todo) → row.kind ≡ k → (k ≡ Directory → ⊥) → IfSome told (λ t. get t p ≡ Some row)
    → IfSome told (λ t. (n : List ℕ) → find name_cmp n [] ≡ kind_in (get t (p ++ n ∷ [])))
no_kids None met p k todo row w of leaf there = tt
no_kids (Some t) met p k todo row w of leaf there = λ n. by n (get t (p ++ n ∷ [])) refl
  where
    by : (n : List ℕ) (o : Option HostRow) → get t (p ++ n ∷ []) ≡ o → None ≡ kind_in (get t (p ++ n ∷ []))
    by n None e = sym (ap kind_in e)
    by n (Some kid) e =
        let above : get t p ≡ Some directory_row = w.covers.tree.parents p n (ap is_some e) in
        let rows : Some row.kind ≡ Some Directory = ap kind_in (sym there ∙ above) in
        let same : row.kind ≡ Directory = cc in
        absurd (leaf (sym of ∙ same))

-- the root is met, and its rows are to be met
pub first_walk : (told : Option HostTree) (kids : List (List ℕ × Kind)) → IfSome told IsHostTree → T (is_sorted name_cmp kids) → IfSome told (λ t. (n : List ℕ) → find name_cmp n kids ≡ kind_in (get t ([] ++ n ∷ [])))
    → IsWalk told (([], directory_row) ∷ []) (todo_in [] kids ++ [])
first_walk told kids tree rise each = walk_more told [] [] Directory [] directory_row kids (first told tree) (λ e. refl) rise (top told tree each)
  where
    cover : (t : HostTree) → IsHostTree t → Covers t [] (([], Directory) ∷ [])
    cover t tree = record { tree = tree; rows = tt; kinds = (ap kind_in tree.root, tt); whole = λ p h. inr (inl (p, refl)) }

    first : (told : Option HostTree) → IfSome told IsHostTree → IsWalk told [] (([], Directory) ∷ [])
    first None tree = record { rising = tt; ahead = (tt, tt); order = (tt, tt); plain = tt; covers = tt }
    first (Some t) tree = record { rising = tt; ahead = (tt, tt); order = (tt, tt); plain = tt; covers = cover t tree }

    top : (told : Option HostTree) → IfSome told IsHostTree → IfSome told (λ t. (n : List ℕ) → find name_cmp n kids ≡ kind_in (get t ([] ++ n ∷ []))) → IfSome told (λ t. IsRowAt t [] directory_row kids)
    top None tree each = tt
    top (Some t) tree each = record { here = tree.root; each = each }

pub begun : {A : Type 0} (M : Asking A) (lawful : LawfulAsker M) (a : A) (told : Option HostTree) (q : HostPath) (kids : List (List ℕ × Kind)) → IfSome told IsHostTree → T (is_sorted name_cmp kids)
    → IfSome told (λ t. (n : List ℕ) → find name_cmp n kids ≡ kind_in (get t ([] ++ n ∷ []))) → IsAt M a a told q (todo_in [] kids ++ []) none_copied
begun M lawful a told q kids tree rise each = record {
  met = ([], directory_row) ∷ [];
  qs = [];
  asked = asked_none M lawful a;
  done = tt;
  commands = refl;
  walk = first_walk told kids tree rise each;
  root = refl;
  short = tt;
  counts = refl;
}
