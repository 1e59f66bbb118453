-- Attributes that are taken out of a tree, row by row.
use Rattle.std.proofs.Common.{◌≡◌, inl, inr, ℕ, suc, Bool, true, false, cond, List, [], ◌∷◌, ◌++◌, map, refl, sym, ◌∙◌, ap, subst}
use Rattle.std.specs.Prelude.{◌⊎◌, OnOk, OnErr, IfOk, Some, None}
use Rattle.std.specs.List.{Contains}
use Rattle.std.specs.FinMap.{get, entries}
use Rattle.std.specs.declared.option.Option.{Option}
use Rattle.std.specs.declared.result.Result.{Result}
use Rattle.std.specs.declared.result.Result.TheVariants.{Ok, Err}
use Rattle.fs_model.specs.declared.attr.Attr.{Attr}
use Rattle.fs_model.specs.declared.attr.Kind.{Kind}
use Rattle.fs_model.specs.declared.attr.Kind.TheVariants.{Directory, File, Link}
use Rattle.fs_model.specs.declared.command.Command.{Command}
use Rattle.fs_model.specs.declared.command.Command.TheVariants as command
use Rattle.fs_model.specs.declared.error.FsError.{FsError}
use Rattle.fs_model.specs.declared.error.FsError.TheVariants.{NoEntry, NotDirectory}
use Rattle.fs_model.specs.declared.reply.ListRow.{ListRow}
use Rattle.fs_model.specs.declared.reply.Reply.{Reply}
use Rattle.fs_model.specs.declared.reply.Reply.TheVariants.{Done, Rows, Info, Target, Content, Error}
use Rattle.fs_model.specs.LookUp.{LookedUp, Found, Free, Bad, look}
use Rattle.fs_model.specs.Step.{answered, refused, listed, told, list_row}
use Rattle.fs_model.specs.Tree.{Tree, children, upward, is_directory}
use Rattle.fs_model.proofs.LookUpLemmas.{get-found}
use Rattle.copy_row.specs.Rows.{refusal}
use Rattle.copy_row.specs.host_folder.Folders.{HostPath}
use Rattle.copy_row.specs.copy_laws.declared.asker.Stopped.{Stopped}
use Rattle.copy_row.specs.copy_laws.declared.copied.CopyFail.{CopyFail}
use Rattle.copy_row.specs.copy_laws.declared.copied.CopyFail.TheVariants as fail
use Rattle.copy_row.specs.copy_laws.Ends.{StopCause}
use Rattle.copy_row.specs.copy_laws.Exporting.{IsServed}
use Rattle.copy_row.specs.copy_laws.Questions.{Question, Asking, LawfulAsker, Asked, IsReplyTo}
use Rattle.copy_row.proofs.copy_laws_lemmas.Asking.{asked_none, asked_then}
use Rattle.host_attributes.specs.declared.row.AttributedRow.{AttributedRow}
use Rattle.host_attributes.specs.Attributes.{AreLookedUp, IsSet, attr_in, rows_in}
use Rattle.host_attributes.proofs.Rows.{rows_found, looked_more}
use Rattle.copy_times.specs.Asking.{IsLook, IsSeen, Each, EndsBy, path_in}
use Rattle.copy_times.specs.Giving.{IsDeepOrMemory}
use Rattle.copy_times.specs.Taking.{AreSet, IsOutcomeOf, Looked, NeverAsked, SaysAttr, SaysLooked, SaysNames, Sees, Tells, Took, info_in, TookBelow, TookRow, TookRows, TookUnder, tree_kids}
use Rattle.copy_times.specs.Tours.{Dressed, BelowIs, RowsTour, IsTour, AreKids, dressed}
use Rattle.copy_times.proofs.Asked.{each_append, ends_append, seen_answered}
use Rattle.copy_times.proofs.Touring.{rows_append, one_row, kids_append}

pub tells_append : (t : Tree) (qs rs : List Question) → Tells t (qs ++ rs) → Tells t qs × Tells t rs
tells_append t [] rs h = (tt, h)
tells_append t (q ∷ qs) rs h = let more = tells_append t qs rs h.1 in ((h.0, more.0), more.1)

set_append : (a b c : Option Tree) (ds es : List Dressed) → AreSet a ds b → AreSet b es c → AreSet a (ds ++ es) c
set_append a b c [] es h g = subst (λ z. AreSet z es c) h g
set_append a b c (d ∷ ds) es (mid, (set, more)) g = (mid, (set, set_append mid b c ds es more g))

pub stop_never : {X : Type 0} (before now : ℕ) (result : Result X CopyFail) → NeverAsked result → now ≡ before → StopCause before now result
stop_never before now (Ok x) h e = e
stop_never before now (Err fail.Memory) h e = e
stop_never before now (Err fail.Host) h e = e
stop_never before now (Err fail.Stopped) h e = absurd h
stop_never before now (Err (fail.LongPath p)) h e = absurd h
stop_never before now (Err (fail.Refused p e)) h is = absurd h

never_ends : (X : Type 0) (e : CopyFail) → NeverAsked {X = X} (Err e) → EndsBy {X = X} IsSeen [] (Err e)
never_ends X fail.Memory h = tt
never_ends X fail.Host h = tt
never_ends X fail.Stopped h = absurd h
never_ends X (fail.LongPath p) h = absurd h
never_ends X (fail.Refused p e) h = absurd h

-- what a reply says of each tree whose reply it is
pub list_says : (t : Tree) (p : HostPath) (rows : List ListRow) → IsOutcomeOf t (command.List p) (Ok (Rows rows)) → rows ≡ map list_row (entries (children t (upward p)))
list_says t p rows h = by (look t (upward p)) h
  where
    rows_of : Reply → List ListRow
    rows_of (Rows xs) = xs
    rows_of other = []

    at : (b : Bool) (xs : List ListRow) → (cond b (answered t (Rows xs)) (refused t NotDirectory)).reply ≡ Rows rows → rows ≡ xs
    at true xs e = sym (ap rows_of e)
    at false xs e = let bad : Error NotDirectory ≡ Rows rows = e in cc

    by : (l : LookedUp) → (listed t (upward p) l).reply ≡ Rows rows → rows ≡ map list_row (entries (children t (upward p)))
    by (Found row) e = at (is_directory row.attr.kind) (map list_row (entries (children t (upward p)))) e
    by Free e = let bad : Error NoEntry ≡ Rows rows = e in cc
    by (Bad f) e = let bad : Error f ≡ Rows rows = e in cc

pub stat_says : (t : Tree) (p : HostPath) (attr : Attr) (n : ℕ) → IsOutcomeOf t (command.Stat p) (Ok (Info attr n)) → attr_in (get t (upward p)) ≡ Some attr
stat_says t p attr n h = by (look t (upward p)) refl h
  where
    attr_of : Reply → Option Attr
    attr_of (Info a k) = Some a
    attr_of other = None

    by : (l : LookedUp) → look t (upward p) ≡ l → (told t l).reply ≡ Info attr n → attr_in (get t (upward p)) ≡ Some attr
    by (Found row) is e = ap attr_in (get-found t (upward p) row is) ∙ ap attr_of e
    by Free is e = let bad : Error NoEntry ≡ Info attr n = e in cc
    by (Bad f) is e = let bad : Error f ≡ Info attr n = e in cc

info_says : (t : Tree) (p : HostPath) (reply : Reply) (attr : Attr) → info_in reply ≡ Some attr → IsOutcomeOf t (command.Stat p) (Ok reply) → attr_in (get t (upward p)) ≡ Some attr
info_says t p (Info x n) attr is h = stat_says t p x n h ∙ is
info_says t p Done attr is h = let bad : None ≡ Some attr = is in cc
info_says t p (Rows rows) attr is h = let bad : None ≡ Some attr = is in cc
info_says t p (Target w) attr is h = let bad : None ≡ Some attr = is in cc
info_says t p (Content w) attr is h = let bad : None ≡ Some attr = is in cc
info_says t p (Error e) attr is h = let bad : None ≡ Some attr = is in cc

-- such a command is answered by attributes or an error
pub stat_told : (p : HostPath) (reply : Reply) → IsServed (Ok reply) → IsReplyTo (command.Stat p) reply → info_in reply ≡ None → ⊥
stat_told p (Info x n) served variant is = let bad : Some x ≡ None = is in cc
stat_told p Done served variant is = variant
stat_told p (Rows rows) served variant is = variant
stat_told p (Target w) served variant is = variant
stat_told p (Content w) served variant is = variant
stat_told p (Error e) served variant is = served

served_of : (reply : Reply) → refusal reply ≡ None → IsServed (Ok reply)
served_of (Error e) h = let bad : Some e ≡ None = h in cc
served_of Done h = tt
served_of (Rows rows) h = tt
served_of (Info attr n) h = tt
served_of (Target w) h = tt
served_of (Content w) h = tt

module _ {A : Type 0} (M : Asking A) (lawful : LawfulAsker M) where
  -- one question
  pub look_given : (a b : A) (c : Command) (reply : Reply) → Asked M a b (record { command = c; outcome = Ok reply } ∷ []) → refusal reply ≡ None → IsReplyTo c reply → Looked M a b c (Ok reply)
  look_given a b c reply asked h variant = (asked, (served_of reply h, variant))

  pub look_refused : (a b : A) (c : Command) (p : HostPath) (e : FsError) (reply : Reply) → p ≡ path_in c → Asked M a b (record { command = c; outcome = Ok reply } ∷ []) → reply ≡ Error e → Looked M a b c (Err (fail.Refused p e))
  look_refused a b c p e reply at asked is = record {
    qs = record { command = c; outcome = Ok reply } ∷ [];
    asked = asked;
    ends = record { front = []; last = c; are = ap (λ z. record { command = c; outcome = Ok z } ∷ []) is; well = tt; at = sym at };
    says = λ t h. tt;
  }

  pub look_stopped : (a b : A) (c : Command) (stopped : Stopped) → Asked M a b (record { command = c; outcome = Err stopped } ∷ []) → Looked M a b c (Err fail.Stopped)
  look_stopped a b c stopped asked = record {
    qs = record { command = c; outcome = Err stopped } ∷ [];
    asked = asked;
    ends = (path_in c, (stopped, record { front = []; last = c; are = refl; well = tt; at = refl }));
    says = λ t h. tt;
  }

  -- nothing was asked
  pub sees_memory : {X : Type 0} (a : A) (Says : Tree → X → Type 0) → Sees M a a Says (Err fail.Memory)
  sees_memory a Says = record { qs = []; asked = asked_none M lawful a; ends = tt; says = λ t h. tt }

  pub sees_fails : {X Y : Type 0} (a b : A) (Says : Tree → X → Type 0) (Tell : Tree → Y → Type 0) (e : CopyFail) → Sees M a b Says (Err e) → Sees M a b Tell (Err e)
  sees_fails a b Says Tell e h = record { qs = h.qs; asked = h.asked; ends = h.ends; says = λ t k. tt }

  pub sees_one : {X : Type 0} (a b : A) (c : Command) (reply : Reply) (x : X) (Says : Tree → X → Type 0) → IsLook c → Looked M a b c (Ok reply) → ((t : Tree) → IsOutcomeOf t c (Ok reply) → Says t x) → Sees M a b Says (Ok x)
  sees_one a b c reply x Says isk h f = record { qs = record { command = c; outcome = Ok reply } ∷ []; asked = h.0; ends = ((isk, h.1.0), tt); says = λ t k. f t k.0 }

  pub sees_then : {X Y : Type 0} (a b c : A) (x : X) (result : Result Y CopyFail) (Says : Tree → X → Type 0) (Tell : Tree → Y → Type 0) → Sees M a b Says (Ok x) → Sees M b c Tell result → Sees M a c (λ t y. Says t x × Tell t y) result
  sees_then {Y = Y} a b c x result Says Tell h g = record {
    qs = h.qs ++ g.qs;
    asked = asked_then M lawful a b c h.qs g.qs h.asked (seen_answered h.qs h.ends) g.asked;
    ends = ends_append IsSeen h.qs g.qs result h.ends g.ends;
    says = λ t k. both result t (h.says t (tells_append t h.qs g.qs k).0) (g.says t (tells_append t h.qs g.qs k).1);
  }
    where
      both : (r : Result Y CopyFail) (t : Tree) → Says t x → IfOk r (Tell t) → IfOk r (λ y. Says t x × Tell t y)
      both (Ok y) t p q = (p, q)
      both (Err e) t p q = tt

  pub sees_as : {X : Type 0} (a b : A) (x : X) (Says Tell : Tree → X → Type 0) → ((t : Tree) → Says t x → Tell t x) → Sees M a b Says (Ok x) → Sees M a b Tell (Ok x)
  sees_as a b x Says Tell f h = record { qs = h.qs; asked = h.asked; ends = h.ends; says = λ t k. f t (h.says t k) }

  pub sees_memory_after : {X Y : Type 0} (a b : A) (Says : Tree → X → Type 0) (Tell : Tree → Y → Type 0) (x : X) → Sees M a b Says (Ok x) → Sees M a b Tell (Err fail.Memory)
  sees_memory_after a b Says Tell x h = record { qs = h.qs; asked = h.asked; ends = h.ends; says = λ t k. tt }

  pub sees_fails_after : {X Y Z : Type 0} (a b c : A) (x : X) (e : CopyFail) (Says : Tree → X → Type 0) (Tell : Tree → Y → Type 0) (Last : Tree → Z → Type 0) → Sees M a b Says (Ok x) → Sees M b c Tell (Err e) → Sees M a c Last (Err e)
  sees_fails_after {Y = Y} a b c x e Says Tell Last h g = sees_fails a c (λ t y. Says t x × Tell t y) Last e (sees_then a b c x (Err e) Says Tell h g)

  pub names_seen : (a b : A) (p path : HostPath) (reply : Reply) (rows : List ListRow) → path ≡ p → reply ≡ Rows rows → Looked M a b (command.List path) (Ok reply) → Sees M a b (SaysNames p) (Ok rows)
  names_seen a b p path reply rows at is h =
      let one = subst (λ z. Looked M a b (command.List path) (Ok z)) is h in
      sees_one a b (command.List path) (Rows rows) rows (SaysNames p) tt one (λ t said. subst (λ z. SaysNames z t rows) at (list_says t path rows said))

  pub attr_seen : (a b : A) (p path : HostPath) (reply : Reply) (attr : Attr) → path ≡ p → info_in reply ≡ Some attr → Looked M a b (command.Stat path) (Ok reply) → Sees M a b (SaysAttr p) (Ok attr)
  attr_seen a b p path reply attr at is h =
      sees_one a b (command.Stat path) reply attr (SaysAttr p) tt h (λ t said. subst (λ z. SaysAttr z t attr) at (info_says t path reply attr is said))

  -- the rows of a listing, looked up one after the other
  pub looked_none : (a b : A) (p : HostPath) (names listed : List ListRow) (rows : List AttributedRow) → listed ≡ names → rows ≡ [] → Sees M a b (SaysNames p) (Ok names) → Sees M a b (SaysLooked p listed []) (Ok rows)
  looked_none a b p names listed rows same is h = record { qs = h.qs; asked = h.asked; ends = h.ends; says = λ t k. (subst (SaysNames p t) (sym same) (h.says t k), is) }

  pub looked_one : (a b c : A) (p : HostPath) (listed done next : List ListRow) (l : ListRow) (rows more : List AttributedRow) (attr : Attr) → next ≡ done ++ l ∷ [] → more ≡ rows ++ record { name = l.name; attr = attr } ∷ []
      → Sees M a b (SaysLooked p listed done) (Ok rows) → Sees M b c (SaysAttr (p ++ l.name ∷ [])) (Ok attr) → Sees M a c (SaysLooked p listed next) (Ok more)
  looked_one a b c p listed done next l rows more attr e f h g =
      let both = sees_then a b c rows (Ok attr) (SaysLooked p listed done) (SaysAttr (p ++ l.name ∷ [])) h g in record {
        qs = both.qs;
        asked = both.asked;
        ends = both.ends;
        says = λ t k. (
          (both.says t k).0.0,
          subst (λ z. AreLookedUp t p z more) (sym e) (subst (AreLookedUp t p (done ++ l ∷ [])) (sym f) (looked_more t p done l rows (record { name = l.name; attr = attr }) (both.says t k).0.1 refl (both.says t k).1)),
        );
      }

  pub looked_all : (a b : A) (p : HostPath) (listed done : List ListRow) (rows : List AttributedRow) → done ≡ listed → Sees M a b (SaysLooked p listed done) (Ok rows) → Sees M a b {X = List AttributedRow} (λ t xs. xs ≡ rows_in t p) (Ok rows)
  looked_all a b p listed done rows e h = record { qs = h.qs; asked = h.asked; ends = h.ends; says = λ t k. rows_found t p listed rows (h.says t k).0 (subst (λ z. AreLookedUp t p z rows) e (h.says t k).1) }

  -- rows that are set
  pub took_none : {X : Type 0} (a : A) (f : Option Tree) (all : List AttributedRow) (p q : HostPath) (depth : ℕ) (x : X) → TookRows M a a f f all [] p q depth {X = X} (Ok x)
  took_none a f all p q depth x = record { qs = []; rows = []; asked = asked_none M lawful a; ends = tt; set = refl; kids = λ t k h. tt; whole = λ t h. refl }

  pub took_memory : {X : Type 0} (a : A) (f : Option Tree) (Known : Tree → Type 0) (W : Tree → List Dressed → Type 0) → Took M a a f f Known W {X = X} (Err fail.Memory)
  took_memory a f Known W = record { qs = []; rows = []; asked = asked_none M lawful a; ends = tt; set = refl; kids = λ t k h. tt; whole = tt }

  pub took_deep : {X : Type 0} (a : A) (f : Option Tree) (Known : Tree → Type 0) (W : Tree → List Dressed → Type 0) (p : HostPath) (e : CopyFail) → IsDeepOrMemory p e → Took M a a f f Known W {X = X} (Err e)
  took_deep a f Known W p fail.Memory h = took_memory a f Known W
  took_deep a f Known W p fail.Host h = absurd h
  took_deep a f Known W p fail.Stopped h = absurd h
  took_deep a f Known W p (fail.LongPath q) h = record { qs = []; rows = []; asked = asked_none M lawful a; ends = tt; set = refl; kids = λ t k h. tt; whole = tt }
  took_deep a f Known W p (fail.Refused q e) h = absurd h

  pub took_unseen : {X Y : Type 0} (a b : A) (f : Option Tree) (Says : Tree → Y → Type 0) (Known : Tree → Type 0) (W : Tree → List Dressed → Type 0) (e : CopyFail) → Sees M a b Says (Err e) → Took M a b f f Known W {X = X} (Err e)
  took_unseen a b f Says Known W e h = record { qs = h.qs; rows = []; asked = h.asked; ends = h.ends; set = refl; kids = λ t k g. tt; whole = tt }

  pub took_fails : {X Y : Type 0} (a b : A) (f g : Option Tree) (K Known : Tree → Type 0) (V W : Tree → List Dressed → Type 0) (e : CopyFail) → ((t : Tree) → Known t → K t) → Took M a b f g K V {X = X} (Err e) → Took M a b f g Known W {X = Y} (Err e)
  took_fails a b f g K Known V W e known h = record { qs = h.qs; rows = h.rows; asked = h.asked; ends = h.ends; set = h.set; kids = λ t k tells. h.kids t (known t k) tells; whole = tt }

  whole_then : {X : Type 0} (qs rs : List Question) (V W Z : Tree → List Dressed → Type 0) (ds es : List Dressed) (result : Result X CopyFail) → ((t : Tree) → V t ds → W t es → Z t (ds ++ es)) → ((t : Tree) → Tells t qs → V t ds) → OnOk result ((t : Tree) → Tells t rs → W t es)
      → OnOk result ((t : Tree) → Tells t (qs ++ rs) → Z t (ds ++ es))
  whole_then qs rs V W Z ds es (Ok x) f h g = λ t k. f t (h t (tells_append t qs rs k).0) (g t (tells_append t qs rs k).1)
  whole_then qs rs V W Z ds es (Err e) f h g = tt

  pub took_then : {X Y : Type 0} (a b c : A) (f g k : Option Tree) (K L Known : Tree → Type 0) (V W Z : Tree → List Dressed → Type 0) (x : X) (result : Result Y CopyFail) → ((t : Tree) → Known t → K t) → ((t : Tree) → Known t → L t) → ((t : Tree) (ds es : List Dressed) → V t ds → W t es → Z t (ds ++ es))
      → Took M a b f g K V {X = X} (Ok x) → Took M b c g k L W result → Took M a c f k Known Z result
  took_then a b c f g k K L Known V W Z x result first second join h n = record {
    qs = h.qs ++ n.qs;
    rows = h.rows ++ n.rows;
    asked = asked_then M lawful a b c h.qs n.qs h.asked (seen_answered h.qs h.ends) n.asked;
    ends = ends_append IsSeen h.qs n.qs result h.ends n.ends;
    set = set_append f g k h.rows n.rows h.set n.set;
    kids = λ t known tells. kids_append (tree_kids t) h.rows n.rows (h.kids t (first t known) (tells_append t h.qs n.qs tells).0) (n.kids t (second t known) (tells_append t h.qs n.qs tells).1);
    whole = whole_then h.qs n.qs V W Z h.rows n.rows result (λ t. join t h.rows n.rows) h.whole n.whole;
  }

  -- the rows of a directory, which were asked for
  pub took_listed : {X : Type 0} (a b c : A) (f g : Option Tree) (rows : List AttributedRow) (p q : HostPath) (n depth : ℕ) (result : Result X CopyFail) → depth ≡ suc n → Sees M a b {X = List AttributedRow} (λ t xs. xs ≡ rows_in t q) (Ok rows) → TookRows M b c f g rows rows p q n result → TookBelow M a c f g p q depth result
  took_listed {X = X} a b c f g rows p q n depth result is h k = record {
    qs = h.qs ++ k.qs;
    rows = k.rows;
    asked = asked_then M lawful a b c h.qs k.qs h.asked (seen_answered h.qs h.ends) k.asked;
    ends = ends_append IsSeen h.qs k.qs result h.ends k.ends;
    set = k.set;
    kids = λ t known tells. k.kids t (h.says t (tells_append t h.qs k.qs tells).0) (tells_append t h.qs k.qs tells).1;
    whole = whole_listed result k.whole;
  }
    where
      whole_listed : (r : Result X CopyFail) → OnOk r ((t : Tree) → Tells t k.qs → RowsTour (IsTour n (tree_kids t)) p q rows k.rows) → OnOk r ((t : Tree) → Tells t (h.qs ++ k.qs) → IsTour depth (tree_kids t) p q k.rows)
      whole_listed (Ok x) w = λ t tells. subst (λ d. IsTour d (tree_kids t) p q k.rows) (sym is) (subst (λ z. RowsTour (IsTour n (tree_kids t)) p q z k.rows) (h.says t (tells_append t h.qs k.qs tells).0) (w t (tells_append t h.qs k.qs tells).1))
      whole_listed (Err e) w = tt

  -- a row alone, without what is below it
  pub took_own : {X : Type 0} (a : A) (f g : Option Tree) (row : AttributedRow) (p q : HostPath) (result : Result X CopyFail) → NeverAsked result → OnOk result (IsSet f g (p ++ row.name ∷ []) row.attr) → OnErr result ((g ≡ f) ⊎ IsSet f g (p ++ row.name ∷ []) row.attr)
      → Took M a a f g (λ t. Contains (rows_in t q) row) (λ t ds. ds ≡ dressed p q row ∷ []) result
  took_own {X = X} a f g row p q (Ok x) never ok err = record { qs = []; rows = dressed p q row ∷ []; asked = asked_none M lawful a; ends = tt; set = (g, (ok, refl)); kids = λ t k h. (record { p = p; q = q; row = row; listed = k; is = refl }, tt); whole = λ t h. refl }
  took_own {X = X} a f g row p q (Err e) never ok (inl same) = record { qs = []; rows = []; asked = asked_none M lawful a; ends = never_ends X e never; set = same; kids = λ t k h. tt; whole = tt }
  took_own {X = X} a f g row p q (Err e) never ok (inr set) = record { qs = []; rows = dressed p q row ∷ []; asked = asked_none M lawful a; ends = never_ends X e never; set = (g, (set, refl)); kids = λ t k h. (record { p = p; q = q; row = row; listed = k; is = refl }, tt); whole = tt }

  -- what is below a row, by its kind
  pub took_directory : {X : Type 0} (a b : A) (f g : Option Tree) (kind : Kind) (p q : HostPath) (depth : ℕ) (result : Result X CopyFail) → kind ≡ Directory → TookBelow M a b f g p q depth result → TookUnder M a b f g kind p q depth result
  took_directory a b f g kind p q depth result is h = subst (λ k. TookUnder M a b f g k p q depth result) (sym is) h

  bare : {X : Type 0} (a : A) (f : Option Tree) (W : Tree → List Dressed → Type 0) (x : X) → ((t : Tree) → W t []) → Took M a a f f (λ t. Unit {0}) W {X = X} (Ok x)
  bare a f W x h = record { qs = []; rows = []; asked = asked_none M lawful a; ends = tt; set = refl; kids = λ t k n. tt; whole = λ t n. h t }

  pub took_file : {X : Type 0} (a : A) (f : Option Tree) (kind : Kind) (p q : HostPath) (depth : ℕ) (x : X) → kind ≡ File → TookUnder M a a f f kind p q depth {X = X} (Ok x)
  took_file {X = X} a f kind p q depth x is = subst (λ k. TookUnder M a a f f k p q depth {X = X} (Ok x)) (sym is) (bare a f (λ t. BelowIs File (IsTour depth (tree_kids t) p q)) x (λ t. refl))

  pub took_link : {X : Type 0} (a : A) (f : Option Tree) (kind : Kind) (p q : HostPath) (depth : ℕ) (x : X) → kind ≡ Link → TookUnder M a a f f kind p q depth {X = X} (Ok x)
  took_link {X = X} a f kind p q depth x is = subst (λ k. TookUnder M a a f f k p q depth {X = X} (Ok x)) (sym is) (bare a f (λ t. BelowIs Link (IsTour depth (tree_kids t) p q)) x (λ t. refl))

  -- a row, behind what is below it
  pub took_row : {X Y : Type 0} (a b : A) (f g k : Option Tree) (row : AttributedRow) (p q from to : HostPath) (depth : ℕ) (x : X) (result : Result Y CopyFail) → from ≡ p ++ row.name ∷ [] → to ≡ q ++ row.name ∷ [] → TookUnder M a b f g row.attr.kind from to depth {X = X} (Ok x)
      → NeverAsked result → OnOk result (IsSet g k from row.attr) → OnErr result ((k ≡ g) ⊎ IsSet g k from row.attr) → TookRow M a b f k row p q depth result
  took_row {X = X} a b f g k row p q from to depth x result e h under never ok err =
      let below : TookUnder M a b f g row.attr.kind (p ++ row.name ∷ []) (q ++ row.name ∷ []) depth {X = X} (Ok x) = subst (λ z. TookUnder M a b f g row.attr.kind (p ++ row.name ∷ []) z depth {X = X} (Ok x)) h (subst (λ z. TookUnder M a b f g row.attr.kind z to depth {X = X} (Ok x)) e under) in
      took_then a b b f g k (λ t. Unit {0}) (λ t. Contains (rows_in t q) row) (λ t. Contains (rows_in t q) row) (λ t. BelowIs row.attr.kind (IsTour depth (tree_kids t) (p ++ row.name ∷ []) (q ++ row.name ∷ []))) (λ t ds. ds ≡ dressed p q row ∷ []) (λ t. RowsTour (IsTour depth (tree_kids t)) p q (row ∷ [])) x result
      (λ t known. tt) (λ t known. known)
      (λ t ds es tour own. subst (λ z. RowsTour (IsTour depth (tree_kids t)) p q (row ∷ []) (ds ++ z)) (sym own) (one_row (IsTour depth (tree_kids t)) p q row ds tour))
      below (took_own b g k row p q result never (subst (λ z. OnOk result (IsSet g k z row.attr)) e ok) (subst (λ z. OnErr result ((k ≡ g) ⊎ IsSet g k z row.attr)) e err))

  -- a row more
  pub took_more : {X Y : Type 0} (a b c : A) (f g k : Option Tree) (all rows : List AttributedRow) (row : AttributedRow) (p q : HostPath) (depth : ℕ) (x : X) (result : Result Y CopyFail) → Contains all row → TookRows M a b f g all rows p q depth {X = X} (Ok x) → TookRow M b c g k row p q depth result
      → TookRows M a c f k all (rows ++ row ∷ []) p q depth result
  took_more a b c f g k all rows row p q depth x result listed h n =
      took_then a b c f g k (λ t. all ≡ rows_in t q) (λ t. Contains (rows_in t q) row) (λ t. all ≡ rows_in t q) (λ t. RowsTour (IsTour depth (tree_kids t)) p q rows) (λ t. RowsTour (IsTour depth (tree_kids t)) p q (row ∷ [])) (λ t. RowsTour (IsTour depth (tree_kids t)) p q (rows ++ row ∷ [])) x result
      (λ t known. known) (λ t known. subst (λ z. Contains z row) known listed)
      (λ t ds es. rows_append (IsTour depth (tree_kids t)) p q rows (row ∷ []) ds es) h n
