-- What a put leaves.
use Rattle.std.proofs.Common.{◌≡◌, inl, inr, ℕ, ◌+◌, List, [], ◌∷◌, ◌++◌, length, refl, sym, ◌∙◌, ap, subst, arith, append_assoc}
use Rattle.std.specs.Prelude.{Some, None}
use Rattle.std.specs.FinMap.{get}
use Rattle.std.specs.declared.option.Option.{Option}
use Rattle.std.specs.declared.result.Result.{Result}
use Rattle.std.specs.declared.result.Result.TheVariants.{Ok, Err}
use Rattle.fs_model.specs.declared.attr.Kind.TheVariants.{File}
use Rattle.fs_model.specs.declared.attr.TheConstants.{FILE_MODE}
use Rattle.fs_model.specs.declared.command.Command.{Command}
use Rattle.fs_model.specs.declared.command.Command.TheVariants as command
use Rattle.fs_model.specs.declared.error.FsError.TheVariants.{Exists}
use Rattle.fs_model.specs.declared.reply.Reply.{Reply}
use Rattle.fs_model.specs.declared.reply.Reply.TheVariants.{Done, Error}
use Rattle.fs_model.specs.Instant.{Instant}
use Rattle.fs_model.specs.LookUp.{LookedUp, Found, Free, Bad, look, seen}
use Rattle.fs_model.specs.Step.{Stepped, made, new_row}
use Rattle.fs_model.specs.Tree.{Path, Row, Tree, upward}
use Rattle.fs_model.proofs.LawLemmas.{error_stays}
use Rattle.copy_row.specs.host_folder.Folders.{HostPath}
use Rattle.copy_row.specs.copy_laws.declared.asker.Stopped.{Stopped}
use Rattle.copy_row.specs.copy_laws.Ends.{LastWas, IsFront}
use Rattle.copy_row.specs.copy_laws.Importing.{AllDone, writes, pieces_of, joined, plain_of}
use Rattle.copy_row.specs.copy_laws.Questions.{Question, Answered, Followed, commands_of}
use Rattle.copy_row.proofs.copy_laws_lemmas.Asking.{commands_append}
use Rattle.copy_row.proofs.copy_laws_lemmas.Copying.{done_follows}
use Rattle.copy_row.proofs.copy_laws_lemmas.Cutting.{joined_append}
use Rattle.copy_row.proofs.copy_laws_lemmas.Pieces.{AreSome, joined-cut, some-cut}
use Rattle.copy_row.proofs.copy_laws_lemmas.Steps.{row_sets, writes_set}
use Rattle.copy_sessions.specs.answers.Sessions.{latest}
use Rattle.copy_sessions.proofs.Following.{follows}
use Rattle.copy_row.specs.declared.stop.Stop.{Stop}
use Rattle.copy_row.specs.declared.stop.Stop.TheVariants as stop
use Rattle.copy_file.specs.Laws.{IsPutIn, IsPutPart, PutLeaves, PutLeavesPart}
use Rattle.copy_file.specs.Putting.{put_commands, IsPut}
use Rattle.copy_row.proofs.copy_laws_lemmas.Exported.{reply_is}

-- ---- the file is new

seen_free : (t : Tree) (p : Path) (o : Option Row) → get t p ≡ o → seen t p o ≡ Free → get t p ≡ None
seen_free t p None e h = e
seen_free t p (Some row) e h = absurd cc

made_free : (t : Tree) (now : Instant) (p : Path) (row : Row) (s : LookedUp) (next : Tree) → look t p ≡ s → made t now p row s ≡ record { reply = Done; tree = next } → get t p ≡ None
made_free t now p row (Found old) next e h = let bad : Error Exists ≡ Done = reply_is _ _ h in absurd cc
made_free t now p row Free next e h = seen_free t p (get t p) refl e
made_free t now p row (Bad x) next e h = let bad : Error x ≡ Done = reply_is _ _ h in absurd cc

-- ---- pieces of it were written

some_front : (a b : List (List ℕ)) → AreSome (a ++ b) → AreSome a
some_front [] b h = tt
some_front (v ∷ a) b h = (h.0, some_front a b h.1)

put_file : (now : Instant) (p : HostPath) (ps : List (List ℕ)) (first last : Tree) → AreSome ps → AllDone first now (command.Mkfile p ∷ writes p 0 ps) last → IsPutIn first last p (joined ps)
put_file now p ps first last some (mid, (made_it, rest)) =
    let new = row_sets now p File [] first mid (mid, (made_it, refl)) in
    let all = writes_set now p ps mid last new.row [] new.here new.of_kind new.holds some rest in
    record {
      free = made_free first now (upward p) (new_row File FILE_MODE now []) (look first (upward p)) mid refl made_it;
      file =
          ap plain_of all.here ∙ (ap (λ z. Some (record { kind = z; bytes = all.row.bytes })) all.of_kind
          ∙ ap (λ z. Some (record { kind = File; bytes = z })) all.holds);
      others = λ q differ. all.others q differ ∙ new.others q differ;
    }

-- a front part of the writes are those of the first pieces
record AreFirst (p : HostPath) (k : ℕ) (ps : List (List ℕ)) (cs : List Command) : Type 0 where
  front : List (List ℕ)
  rest : List (List ℕ)
  are : ps ≡ front ++ rest
  commands : cs ≡ writes p k front

first_writes : (p : HostPath) (k : ℕ) (ps : List (List ℕ)) (cs ds : List Command) → writes p k ps ≡ cs ++ ds → AreFirst p k ps cs
first_writes p k ps [] ds e = record { front = []; rest = ps; are = refl; commands = refl }
first_writes p k [] (c ∷ cs) ds e = absurd cc
first_writes p k (v ∷ ps) (c ∷ cs) ds e =
    let head : command.Write p k v ≡ c = cc in
    let tail : writes p (k + length v) ps ≡ cs ++ ds = cc in
    let more = first_writes p (k + length v) ps cs ds tail in
    record {
      front = v ∷ more.front;
      rest = more.rest;
      are = ap (λ z. v ∷ z) more.are;
      commands = ap (λ z. z ∷ cs) (sym head) ∙ ap (λ z. command.Write p k v ∷ z) more.commands;
    }

whole_is : (bytes : List ℕ) → joined (pieces_of bytes) ≡ bytes
whole_is bytes = joined-cut 1048576 (length bytes) bytes (omega arith) (omega arith)

-- a front part of the commands was done
front_leaves : (now : Instant) (p : HostPath) (bytes : List ℕ) (cs : List Command) (first last : Tree) → IsFront cs (put_commands p bytes) → AllDone first now cs last → IsPutPart first last p bytes
front_leaves now p bytes [] first last f done = inl done
front_leaves now p bytes (c ∷ cs) first last f done =
    let head : command.Mkfile p ≡ c = cons_head (command.Mkfile p) c (writes p 0 (pieces_of bytes)) (cs ++ f.0) f.1 in
    let tail : writes p 0 (pieces_of bytes) ≡ cs ++ f.0 = cons_tail (command.Mkfile p) c (writes p 0 (pieces_of bytes)) (cs ++ f.0) f.1 in
    let w = first_writes p 0 (pieces_of bytes) cs f.0 tail in
    let are : c ∷ cs ≡ command.Mkfile p ∷ writes p 0 w.front = ap (λ z. z ∷ cs) (sym head) ∙ ap (λ z. command.Mkfile p ∷ z) w.commands in
    let some : AreSome w.front = some_front w.front w.rest (subst AreSome w.are (some-cut 1048576 (length bytes) bytes (omega arith))) in
    inr (
      joined w.front,
      joined w.rest,
      sym (whole_is bytes) ∙ (ap joined w.are ∙ joined_append w.front w.rest),
      put_file now p w.front first last some (subst (λ z. AllDone first now z last) are done),
    )
  where
    cons_head : (a b : Command) (xs ys : List Command) → a ∷ xs ≡ b ∷ ys → a ≡ b
    cons_head a b xs ys e = cc

    cons_tail : (a b : Command) (xs ys : List Command) → a ∷ xs ≡ b ∷ ys → xs ≡ ys
    cons_tail a b xs ys e = cc

-- ---- the last command wasn't done

follow_parts : (now : Instant) (qs rs : List Question) (t last : Tree) → Followed t now (qs ++ rs) last → (mid : Tree) × (Followed t now qs mid × Followed mid now rs last)
follow_parts now [] rs t last h = (t, (refl, h))
follow_parts now (q ∷ qs) rs t last (mid, (a, h)) = let parts = follow_parts now qs rs mid last h in (parts.0, ((mid, (a, parts.1.0)), parts.1.1))

abbrev IsNotDone : Result Reply Stopped → Type 0
IsNotDone (Ok (Error e)) = Unit {0}
IsNotDone (Ok reply) = ⊥
IsNotDone (Err stopped) = Unit {0}

stays : (now : Instant) (t last : Tree) (c : Command) (o : Result Reply Stopped) → IsNotDone o → Answered t now c o last → last ≡ t
stays now t last c (Ok (Error e)) n a = sym (ap (λ (s : Stepped). s.tree) a) ∙ (error_stays t now c).stays e (reply_is _ _ a)
stays now t last c (Ok reply) n a = absurd n
stays now t last c (Err stopped) n a = a

last_leaves : (now : Instant) (p : HostPath) (bytes : List ℕ) (qs : List Question) (o : Result Reply Stopped) (first last : Tree) → LastWas qs p o → IsNotDone o → IsFront (commands_of qs) (put_commands p bytes) → Followed first now qs last
    → IsPutPart first last p bytes
last_leaves now p bytes qs o first last l n f h =
    let end : List Question = record { command = l.last; outcome = o } ∷ [] in
    let parts = follow_parts now l.front end first last (subst (λ z. Followed first now z last) l.are h) in
    let same : last ≡ parts.0 = parts.1.1.1.1 ∙ stays now parts.0 parts.1.1.0 l.last o n parts.1.1.1.0 in
    let commands : commands_of qs ≡ commands_of l.front ++ l.last ∷ [] = ap commands_of l.are ∙ commands_append l.front end in
    let front : IsFront (commands_of l.front) (put_commands p bytes) = (l.last ∷ f.0, f.1 ∙ (ap (λ z. z ++ f.0) commands ∙ append_assoc (commands_of l.front) (l.last ∷ []) f.0)) in
    subst (λ z. IsPutPart first z p bytes) (sym same) (front_leaves now p bytes (commands_of l.front) first parts.0 front (done_follows now l.front first parts.0 l.done parts.1.0))

-- ---- the laws

pub leaves : PutLeaves
leaves p bytes totals now first qs es trees is f at s =
    let last : Tree = latest first trees in
    let h = done_follows now qs first last is.ends (follows now first qs es trees f at s) in
    let done : AllDone first now (put_commands p bytes) last = subst (λ cs. AllDone first now cs last) is.commands h in
    subst (IsPutIn first last p) (whole_is bytes) (put_file now p (pieces_of bytes) first last (some-cut 1048576 (length bytes) bytes (omega arith)) done)

part_by : (now : Instant) (p : HostPath) (bytes : List ℕ) (qs : List Question) (e : Stop) (first last : Tree) → IsPut p bytes qs (Err e) → Followed first now qs last → IsPutPart first last p bytes
part_by now p bytes qs stop.Memory first last is h = front_leaves now p bytes (commands_of qs) first last is.commands (done_follows now qs first last is.ends h)
part_by now p bytes qs stop.Host first last is h = front_leaves now p bytes (commands_of qs) first last is.commands (done_follows now qs first last is.ends h)
part_by now p bytes qs stop.Stopped first last is h = last_leaves now p bytes qs (Err is.ends.0) first last is.ends.1 tt is.commands h
part_by now p bytes qs (stop.Refused e) first last is h = last_leaves now p bytes qs (Ok (Error e)) first last is.ends tt is.commands h

pub part_leaves : PutLeavesPart
part_leaves p bytes e now first qs es trees is f at s = part_by now p bytes qs e first (latest first trees) is (follows now first qs es trees f at s)
