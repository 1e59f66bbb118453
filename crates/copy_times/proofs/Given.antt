-- Attributes that are given, row by row.
use Rattle.std.proofs.Common.{◌≡◌, ◌≤◌, ℕ, suc, List, [], ◌∷◌, ◌++◌, refl, sym, ◌∙◌, ap, subst}
use Rattle.std.specs.Prelude.{IfSome, OnOk, Some, None}
use Rattle.std.specs.List.{Contains}
use Rattle.std.specs.declared.option.Option.{Option}
use Rattle.std.specs.declared.result.Result.{Result}
use Rattle.std.specs.declared.result.Result.TheVariants.{Ok, Err}
use Rattle.fs_model.specs.declared.attr.Kind.{Kind}
use Rattle.fs_model.specs.declared.attr.Kind.TheVariants.{Directory, File, Link}
use Rattle.outside.specs.Causes.{GetHasCause, RoseBy}
use Rattle.outside.specs.declared.vault.GetFail.{GetFail}
use Rattle.outside.specs.declared.vault.GetFail.TheVariants.{Memory, Failed}
use Rattle.fs_model.specs.declared.attr.Attr.{Attr}
use Rattle.fs_model.specs.declared.command.Command.{Command}
use Rattle.fs_model.specs.declared.command.Command.TheVariants as command
use Rattle.fs_model.specs.declared.error.FsError.{FsError}
use Rattle.fs_model.specs.declared.reply.ListRow.{ListRow}
use Rattle.fs_model.specs.declared.reply.Reply.{Reply}
use Rattle.fs_model.specs.declared.reply.Reply.TheVariants.{Done, Rows, Info, Target, Content, Error}
use Rattle.fs_model.specs.Tree.{Tree}
use Rattle.copy_row.specs.host_folder.Folders.{HostPath}
use Rattle.copy_row.specs.Rows.{refusal}
use Rattle.copy_row.specs.copy_laws.declared.asker.Stopped.{Stopped}
use Rattle.copy_row.specs.copy_laws.declared.copied.CopyFail.{CopyFail}
use Rattle.copy_row.specs.copy_laws.declared.copied.CopyFail.TheVariants as fail
use Rattle.copy_row.specs.copy_laws.Ends.{IsFront, HostCause, StopCause}
use Rattle.copy_row.specs.copy_laws.Questions.{Question, Asking, LawfulAsker, Asked, IsReplyTo, commands_of}
use Rattle.copy_row.proofs.copy_laws_lemmas.Asking.{asked_none, asked_then, commands_append}
use Rattle.host_attributes.specs.declared.row.AttributedRow.{AttributedRow}
use Rattle.host_attributes.specs.Attributes.{rows_in}
use Rattle.copy_times.specs.Asking.{IsGift, IsGiven, HasPath, Each, EndsBy, gifts, gifts_at, path_in}
use Rattle.copy_times.specs.Giving.{AsksFor, GaveAll, Gave, GaveBelow, GaveRow, GaveRows, GaveUnder, NeverHost, IsDeepOrMemory, told_kids}
use Rattle.copy_times.specs.Tours.{Dressed, Kids, BelowIs, RowsTour, IsTour, IsKid, AreKids, dressed}
use Rattle.copy_times.proofs.Asked.{ends_append, given_answered, front_after, front_more}
use Rattle.copy_times.proofs.Touring.{rows_append, one_row, kids_append, gifts_append}

pub told_all : (told : Option Tree) (P : Tree → Type 0) → ((t : Tree) → P t) → IfSome told P
told_all None P h = tt
told_all (Some t) P h = h t

pub told_both : (told : Option Tree) (P Q R : Tree → Type 0) → ((t : Tree) → P t → Q t → R t) → IfSome told P → IfSome told Q → IfSome told R
told_both None P Q R f h g = tt
told_both (Some t) P Q R f h g = f t h g

-- causes, over a call that leaves the counts
pub host_never : {X : Type 0} (before now : ℕ) (result : Result X CopyFail) → NeverHost result → now ≡ before → HostCause before now result
host_never before now (Ok x) h e = e
host_never before now (Err fail.Memory) h e = e
host_never before now (Err fail.Host) h e = absurd h
host_never before now (Err fail.Stopped) h e = e
host_never before now (Err (fail.LongPath p)) h e = absurd h
host_never before now (Err (fail.Refused p e)) h is = is

pub host_from : {X : Type 0} (before mid now : ℕ) (result : Result X CopyFail) → mid ≡ before → HostCause mid now result → HostCause before now result
host_from before mid now result e h = subst (λ z. HostCause z now result) e h

pub stop_from : {X : Type 0} (before mid now : ℕ) (result : Result X CopyFail) → mid ≡ before → StopCause mid now result → StopCause before now result
stop_from before mid now result e h = subst (λ z. StopCause z now result) e h

pub deep_host : (X : Type 0) (n : ℕ) (p : HostPath) (e : CopyFail) → IsDeepOrMemory p e → HostCause {X = X} n n (Err e)
deep_host X n p fail.Memory h = refl
deep_host X n p fail.Host h = absurd h
deep_host X n p fail.Stopped h = absurd h
deep_host X n p (fail.LongPath q) h = refl
deep_host X n p (fail.Refused q e) h = absurd h

pub deep_stop : (X : Type 0) (n : ℕ) (p : HostPath) (e : CopyFail) → IsDeepOrMemory p e → StopCause {X = X} n n (Err e)
deep_stop X n p fail.Memory h = refl
deep_stop X n p fail.Host h = absurd h
deep_stop X n p fail.Stopped h = absurd h
deep_stop X n p (fail.LongPath q) h = refl
deep_stop X n p (fail.Refused q e) h = absurd h

pub memory_quiet : {X : Type 0} (before now : ℕ) (e : GetFail) → e ≡ Memory → GetHasCause {T = X} before now (Err e) → now ≡ before
memory_quiet {X = X} before now e is h = (subst (λ z. GetHasCause {T = X} before now (Err z)) is h).quiet

pub failed_rose : {X : Type 0} (before now : ℕ) (e : GetFail) → e ≡ Failed → GetHasCause {T = X} before now (Err e) → (before ≤ now) × RoseBy 1 before now
failed_rose {X = X} before now e is h = let k = subst (λ z. GetHasCause {T = X} before now (Err z)) is h in (k.grows, k.failed refl)

asks_then : {X : Type 0} (cs ds all more : List Command) (result : Result X CopyFail) → cs ≡ all → AsksFor result ds more → AsksFor result (cs ++ ds) (all ++ more)
asks_then cs ds all more (Ok x) e h = ap (λ z. z ++ ds) e ∙ ap (λ z. all ++ z) h
asks_then cs ds all more (Err fail) e h = subst (λ z. IsFront (z ++ ds) (all ++ more)) (sym e) (front_after all ds more h)

by_reply : (P : Reply → Type 0) → ((rows : List ListRow) → P (Rows rows) → ⊥) → ((attr : Attr) (n : ℕ) → P (Info attr n) → ⊥) → ((w : List ℕ) → P (Target w) → ⊥) → ((w : List ℕ) → P (Content w) → ⊥)
    → (reply : Reply) → P reply → refusal reply ≡ None → reply ≡ Done
by_reply P a b c d Done h n = refl
by_reply P a b c d (Rows rows) h n = absurd (a rows h)
by_reply P a b c d (Info attr k) h n = absurd (b attr k h)
by_reply P a b c d (Target w) h n = absurd (c w h)
by_reply P a b c d (Content w) h n = absurd (d w h)
by_reply P a b c d (Error e) h n = let bad : Some e ≡ None = n in cc

-- such a command answers Done or an error
pub gift_done : (c : Command) (reply : Reply) → IsGift c → IsReplyTo c reply → refusal reply ≡ None → reply ≡ Done
gift_done (command.Chown p u g) reply gift v n = by_reply (IsReplyTo (command.Chown p u g)) (λ r h. h) (λ a k h. h) (λ w h. h) (λ w h. h) reply v n
gift_done (command.Chmod p m) reply gift v n = by_reply (IsReplyTo (command.Chmod p m)) (λ r h. h) (λ a k h. h) (λ w h. h) (λ w h. h) reply v n
gift_done (command.Utime p a m) reply gift v n = by_reply (IsReplyTo (command.Utime p a m)) (λ r h. h) (λ x k h. h) (λ w h. h) (λ w h. h) reply v n
gift_done c reply gift v n = absurd gift

pub is_refused : (reply : Reply) (e : FsError) → refusal reply ≡ Some e → reply ≡ Error e
is_refused (Error f) e h = ap Error (some_error f e h)
  where
    some_error : (a b : FsError) → Some a ≡ Some b → a ≡ b
    some_error a b e = cc
is_refused Done e h = let bad : None ≡ Some e = h in cc
is_refused (Rows rows) e h = let bad : None ≡ Some e = h in cc
is_refused (Info attr n) e h = let bad : None ≡ Some e = h in cc
is_refused (Target w) e h = let bad : None ≡ Some e = h in cc
is_refused (Content w) e h = let bad : None ≡ Some e = h in cc

pub gift_path : (c : Command) → IsGift c → HasPath c
gift_path (command.Chown p u g) h = tt
gift_path (command.Chmod p m) h = tt
gift_path (command.Utime p a m) h = tt
gift_path c h = absurd h

module _ {A : Type 0} (M : Asking A) (lawful : LawfulAsker M) where
  pub one_done : {X : Type 0} (a b : A) (c : Command) (x : X) (reply : Reply) → IsGift c → Asked M a b (record { command = c; outcome = Ok reply } ∷ []) → reply ≡ Done → GaveAll M a b (c ∷ []) {X = X} (Ok x)
  one_done a b c x reply gift asked is = record { qs = record { command = c; outcome = Ok reply } ∷ []; asked = asked; ends = ((gift, ap Ok is), tt); commands = refl }

  pub one_refused : {X : Type 0} (a b : A) (c : Command) (p : HostPath) (e : FsError) (reply : Reply) → p ≡ path_in c → Asked M a b (record { command = c; outcome = Ok reply } ∷ []) → reply ≡ Error e → GaveAll M a b (c ∷ []) {X = X} (Err (fail.Refused p e))
  one_refused a b c p e reply at asked is = record {
    qs = record { command = c; outcome = Ok reply } ∷ [];
    asked = asked;
    ends = record { front = []; last = c; are = ap (λ z. record { command = c; outcome = Ok z } ∷ []) is; well = tt; at = sym at };
    commands = ([], refl);
  }

  pub one_stopped : {X : Type 0} (a b : A) (c : Command) (stopped : Stopped) → Asked M a b (record { command = c; outcome = Err stopped } ∷ []) → GaveAll M a b (c ∷ []) {X = X} (Err fail.Stopped)
  one_stopped a b c stopped asked = record {
    qs = record { command = c; outcome = Err stopped } ∷ [];
    asked = asked;
    ends = (path_in c, (stopped, record { front = []; last = c; are = refl; well = tt; at = refl }));
    commands = ([], refl);
  }

  -- nothing was asked
  pub all_none : {X : Type 0} (a : A) (all : List Command) → GaveAll M a a all {X = X} (Err fail.Memory)
  all_none a all = record { qs = []; asked = asked_none M lawful a; ends = tt; commands = (all, refl) }

  pub all_then : {X Y : Type 0} (a b c : A) (cs ds : List Command) (x : X) (result : Result Y CopyFail) → GaveAll M a b cs {X = X} (Ok x) → GaveAll M b c ds result → GaveAll M a c (cs ++ ds) result
  all_then a b c cs ds x result h g = record {
    qs = h.qs ++ g.qs;
    asked = asked_then M lawful a b c h.qs g.qs h.asked (given_answered h.qs h.ends) g.asked;
    ends = ends_append IsGiven h.qs g.qs result h.ends g.ends;
    commands = subst (λ z. AsksFor result z (cs ++ ds)) (sym (commands_append h.qs g.qs)) (asks_then (commands_of h.qs) (commands_of g.qs) cs ds result h.commands g.commands);
  }

  pub all_fails : {X Y : Type 0} (a b : A) (cs ds : List Command) (e : CopyFail) → GaveAll M a b cs {X = X} (Err e) → GaveAll M a b (cs ++ ds) {X = Y} (Err e)
  all_fails a b cs ds e h = record { qs = h.qs; asked = h.asked; ends = h.ends; commands = front_more (commands_of h.qs) cs ds h.commands }

  pub gave_memory : {X : Type 0} (a : A) (told : Option Tree) (W : Tree → List Dressed → Type 0) → Gave M a a told W {X = X} (Err fail.Memory)
  gave_memory a told W = record { qs = []; rows = []; asked = asked_none M lawful a; ends = tt; commands = ([], refl); kids = told_all told (λ t. AreKids (told_kids t) []) (λ t. tt); whole = tt }

  pub gave_host : {X : Type 0} (a : A) (told : Option Tree) (W : Tree → List Dressed → Type 0) → Gave M a a told W {X = X} (Err fail.Host)
  gave_host a told W = record { qs = []; rows = []; asked = asked_none M lawful a; ends = tt; commands = ([], refl); kids = told_all told (λ t. AreKids (told_kids t) []) (λ t. tt); whole = tt }

  pub gave_deep : {X : Type 0} (a : A) (told : Option Tree) (W : Tree → List Dressed → Type 0) (p : HostPath) (e : CopyFail) → IsDeepOrMemory p e → Gave M a a told W {X = X} (Err e)
  gave_deep a told W p fail.Memory h = gave_memory a told W
  gave_deep a told W p fail.Host h = absurd h
  gave_deep a told W p fail.Stopped h = absurd h
  gave_deep a told W p (fail.LongPath q) h = record { qs = []; rows = []; asked = asked_none M lawful a; ends = tt; commands = ([], refl); kids = told_all told (λ t. AreKids (told_kids t) []) (λ t. tt); whole = tt }
  gave_deep a told W p (fail.Refused q e) h = absurd h

  -- no row yet
  pub gave_none : {X : Type 0} (a : A) (told : Option Tree) (p q : HostPath) (depth : ℕ) (x : X) → GaveRows M a a told [] p q depth {X = X} (Ok x)
  gave_none a told p q depth x = record { qs = []; rows = []; asked = asked_none M lawful a; ends = tt; commands = refl; kids = told_all told (λ t. AreKids (told_kids t) []) (λ t. tt); whole = told_all told (λ t. RowsTour (IsTour depth (told_kids t)) p q [] []) (λ t. refl) }

  -- what was given before a failure is no less
  pub gave_fails : {X Y : Type 0} (a b : A) (told : Option Tree) (V W : Tree → List Dressed → Type 0) (e : CopyFail) → Gave M a b told V {X = X} (Err e) → Gave M a b told W {X = Y} (Err e)
  gave_fails a b told V W e h = record { qs = h.qs; rows = h.rows; asked = h.asked; ends = h.ends; commands = h.commands; kids = h.kids; whole = tt }

  whole_then : {X : Type 0} (told : Option Tree) (V W Z : Tree → List Dressed → Type 0) (ds es : List Dressed) (result : Result X CopyFail) → ((t : Tree) → V t ds → W t es → Z t (ds ++ es)) → IfSome told (λ t. V t ds) → OnOk result (IfSome told (λ t. W t es)) → OnOk result (IfSome told (λ t. Z t (ds ++ es)))
  whole_then told V W Z ds es (Ok x) f h g = told_both told (λ t. V t ds) (λ t. W t es) (λ t. Z t (ds ++ es)) f h g
  whole_then told V W Z ds es (Err e) f h g = tt

  pub gave_then : {X Y : Type 0} (a b c : A) (told : Option Tree) (V W Z : Tree → List Dressed → Type 0) (x : X) (result : Result Y CopyFail) → ((t : Tree) (ds es : List Dressed) → V t ds → W t es → Z t (ds ++ es)) → Gave M a b told V {X = X} (Ok x) → Gave M b c told W result → Gave M a c told Z result
  gave_then a b c told V W Z x result f h g = record {
    qs = h.qs ++ g.qs;
    rows = h.rows ++ g.rows;
    asked = asked_then M lawful a b c h.qs g.qs h.asked (given_answered h.qs h.ends) g.asked;
    ends = ends_append IsGiven h.qs g.qs result h.ends g.ends;
    commands = subst (λ z. AsksFor result z (gifts (h.rows ++ g.rows))) (sym (commands_append h.qs g.qs)) (subst (AsksFor result (commands_of h.qs ++ commands_of g.qs)) (sym (gifts_append h.rows g.rows)) (asks_then (commands_of h.qs) (commands_of g.qs) (gifts h.rows) (gifts g.rows) result h.commands g.commands));
    kids = told_both told (λ t. AreKids (told_kids t) h.rows) (λ t. AreKids (told_kids t) g.rows) (λ t. AreKids (told_kids t) (h.rows ++ g.rows)) (λ t. kids_append (told_kids t) h.rows g.rows) h.kids g.kids;
    whole = whole_then told V W Z h.rows g.rows result (λ t. f t h.rows g.rows) h.whole g.whole;
  }

  -- a row alone, without what is below it
  pub gave_one : {X : Type 0} (a b : A) (told : Option Tree) (row : AttributedRow) (p q : HostPath) (result : Result X CopyFail) → IfSome told (λ t. Contains (rows_in t p) row) → GaveAll M a b (gifts_at (q ++ row.name ∷ []) row.attr) result
      → Gave M a b told (λ t ds. ds ≡ dressed p q row ∷ []) result
  gave_one {X = X} a b told row p q result listed h = record {
    qs = h.qs;
    rows = dressed p q row ∷ [];
    asked = h.asked;
    ends = h.ends;
    commands = h.commands;
    kids = told_both told (λ t. Contains (rows_in t p) row) (λ t. Contains (rows_in t p) row) (λ t. AreKids (told_kids t) (dressed p q row ∷ [])) (λ t l m. (record { p = p; q = q; row = row; listed = l; is = refl }, tt)) listed listed;
    whole = whole_one result;
  }
    where
      whole_one : (r : Result X CopyFail) → OnOk r (IfSome told (λ t. dressed p q row ∷ [] ≡ dressed p q row ∷ []))
      whole_one (Ok x) = told_all told (λ t. dressed p q row ∷ [] ≡ dressed p q row ∷ []) (λ t. refl)
      whole_one (Err e) = tt

  -- what is below a row, by its kind
  pub gave_directory : {X : Type 0} (a b : A) (told : Option Tree) (kind : Kind) (p q : HostPath) (depth : ℕ) (result : Result X CopyFail) → kind ≡ Directory → GaveBelow M a b told p q depth result → GaveUnder M a b told kind p q depth result
  gave_directory a b told kind p q depth result is h = subst (λ k. GaveUnder M a b told k p q depth result) (sym is) h

  bare : {X : Type 0} (a : A) (told : Option Tree) (W : Tree → List Dressed → Type 0) (x : X) → ((t : Tree) → W t []) → Gave M a a told W {X = X} (Ok x)
  bare a told W x h = record { qs = []; rows = []; asked = asked_none M lawful a; ends = tt; commands = refl; kids = told_all told (λ t. AreKids (told_kids t) []) (λ t. tt); whole = told_all told (λ t. W t []) h }

  pub gave_file : {X : Type 0} (a : A) (told : Option Tree) (kind : Kind) (p q : HostPath) (depth : ℕ) (x : X) → kind ≡ File → GaveUnder M a a told kind p q depth {X = X} (Ok x)
  gave_file {X = X} a told kind p q depth x is = subst (λ k. GaveUnder M a a told k p q depth {X = X} (Ok x)) (sym is) (bare a told (λ t. BelowIs File (IsTour depth (told_kids t) p q)) x (λ t. refl))

  pub gave_link : {X : Type 0} (a : A) (told : Option Tree) (kind : Kind) (p q : HostPath) (depth : ℕ) (x : X) → kind ≡ Link → GaveUnder M a a told kind p q depth {X = X} (Ok x)
  gave_link {X = X} a told kind p q depth x is = subst (λ k. GaveUnder M a a told k p q depth {X = X} (Ok x)) (sym is) (bare a told (λ t. BelowIs Link (IsTour depth (told_kids t) p q)) x (λ t. refl))

  -- a row, behind what is below it
  pub gave_row : {X Y : Type 0} (a b c : A) (told : Option Tree) (row : AttributedRow) (p q from to : HostPath) (depth : ℕ) (x : X) (result : Result Y CopyFail) → from ≡ p ++ row.name ∷ [] → to ≡ q ++ row.name ∷ [] → IfSome told (λ t. Contains (rows_in t p) row)
      → GaveUnder M a b told row.attr.kind from to depth {X = X} (Ok x) → GaveAll M b c (gifts_at to row.attr) result → GaveRow M a c told row p q depth result
  gave_row {X = X} a b c told row p q from to depth x result e f listed h g =
      let under : GaveUnder M a b told row.attr.kind (p ++ row.name ∷ []) (q ++ row.name ∷ []) depth {X = X} (Ok x) = subst (λ z. GaveUnder M a b told row.attr.kind (p ++ row.name ∷ []) z depth {X = X} (Ok x)) f (subst (λ z. GaveUnder M a b told row.attr.kind z to depth {X = X} (Ok x)) e h) in
      gave_then a b c told (λ t. BelowIs row.attr.kind (IsTour depth (told_kids t) (p ++ row.name ∷ []) (q ++ row.name ∷ []))) (λ t ds. ds ≡ dressed p q row ∷ []) (λ t. RowsTour (IsTour depth (told_kids t)) p q (row ∷ [])) x result
      (λ t ds es below is. subst (λ z. RowsTour (IsTour depth (told_kids t)) p q (row ∷ []) (ds ++ z)) (sym is) (one_row (IsTour depth (told_kids t)) p q row ds below))
      under (gave_one b c told row p q result listed (subst (λ z. GaveAll M b c (gifts_at z row.attr) result) f g))

  -- a row more
  pub gave_more : {X Y : Type 0} (a b c : A) (told : Option Tree) (rows : List AttributedRow) (row : AttributedRow) (p q : HostPath) (depth : ℕ) (x : X) (result : Result Y CopyFail) → GaveRows M a b told rows p q depth {X = X} (Ok x) → GaveRow M b c told row p q depth result → GaveRows M a c told (rows ++ row ∷ []) p q depth result
  gave_more a b c told rows row p q depth x result h g =
      gave_then a b c told (λ t. RowsTour (IsTour depth (told_kids t)) p q rows) (λ t. RowsTour (IsTour depth (told_kids t)) p q (row ∷ [])) (λ t. RowsTour (IsTour depth (told_kids t)) p q (rows ++ row ∷ [])) x result
      (λ t ds es. rows_append (IsTour depth (told_kids t)) p q rows (row ∷ []) ds es) h g

  -- the rows of a directory, which were listed
  pub gave_listed : {X : Type 0} (a b : A) (told now : Option Tree) (rows : List AttributedRow) (p q : HostPath) (n depth : ℕ) (result : Result X CopyFail) → now ≡ told → depth ≡ suc n → IfSome told (λ t. rows ≡ rows_in t p) → GaveRows M a b now rows p q n result → GaveBelow M a b told p q depth result
  gave_listed {X = X} a b told now rows p q n depth result same is listed h =
      let k = subst (λ z. GaveRows M a b z rows p q n result) same h in record {
        qs = k.qs;
        rows = k.rows;
        asked = k.asked;
        ends = k.ends;
        commands = k.commands;
        kids = k.kids;
        whole = whole_listed result k.rows k.whole;
      }
    where
      whole_listed : (r : Result X CopyFail) (ds : List Dressed) → OnOk r (IfSome told (λ t. RowsTour (IsTour n (told_kids t)) p q rows ds)) → OnOk r (IfSome told (λ t. IsTour depth (told_kids t) p q ds))
      whole_listed (Ok x) ds w = told_both told (λ t. rows ≡ rows_in t p) (λ t. RowsTour (IsTour n (told_kids t)) p q rows ds) (λ t. IsTour depth (told_kids t) p q ds) (λ t e tour. subst (λ d. IsTour d (told_kids t) p q ds) (sym is) (subst (λ z. RowsTour (IsTour n (told_kids t)) p q z ds) e tour)) listed w
      whole_listed (Err e) ds w = tt
