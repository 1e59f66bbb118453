-- Pieces of a file that are read and written, one after the other.
use Rattle.std.proofs.Common.{◌≡◌, ℕ, ◌+◌, ◌*◌, ◌<◌, ◌≤◌, List, [], ◌∷◌, ◌++◌, length, refl, sym, ◌∙◌, ap, subst, arith, append-nil}
use Rattle.std.proofs.lemmas.List.{length-append}
use Rattle.std.specs.declared.option.Option.{Option}
use Rattle.std.specs.declared.result.Result.{Result}
use Rattle.std.specs.declared.result.Result.TheVariants.{Ok, Err}
use Rattle.outside.specs.Causes.{RoseBy}
use Rattle.outside.specs.Streams.{appends}
use Rattle.copy_sessions.specs.line_io.Streams.{Stream, Cut}
use Rattle.copy_sessions.proofs.line_io_lemmas.Flow.{appends-append, appends-nil}
use Rattle.fs_model.specs.declared.reply.Reply.{Reply}
use Rattle.fs_model.specs.declared.reply.Reply.TheVariants.{Content, Error}
use Rattle.copy_row.specs.host_folder.Folders.{HostPath}
use Rattle.copy_row.specs.copy_laws.declared.asker.Stopped.{Stopped}
use Rattle.copy_row.specs.copy_laws.Importing.{joined}
use Rattle.copy_row.specs.copy_laws.Questions.{Asking, LawfulAsker, Asked, AreAnswered}
use Rattle.copy_row.proofs.copy_laws_lemmas.Asking.{asked_none, asked_then}
use Rattle.copy_row.proofs.copy_laws_lemmas.Cutting.{joined_append}
use Rattle.copy_row.specs.declared.stop.Stop.{Stop}
use Rattle.copy_row.specs.declared.stop.Stop.TheVariants as stop
use Rattle.copy_file.specs.Getting.{read_at, reads, AreWhole, place_behind, Wrote, FileGot, PieceAsked}

reads_append : (p : HostPath) (from : ℕ) (ps qs : List (List ℕ)) → reads p from (ps ++ qs) ≡ reads p from ps ++ reads p (from + place_behind ps) qs
reads_append p from [] qs = ap (λ k. reads p k qs) (omega arith)
reads_append p from (v ∷ ps) qs =
    let sum : from + 1048576 + 1048576 * length ps ≡ from + 1048576 * length (v ∷ ps) = omega arith in
    ap (λ z. read_at p from (Ok (Content v)) ∷ z) (reads_append p (from + 1048576) ps qs ∙ ap (λ k. reads p (from + 1048576) ps ++ reads p k qs) sum)

pub reads_push : (p : HostPath) (ps : List (List ℕ)) (piece : List ℕ) → reads p 0 (ps ++ piece ∷ []) ≡ reads p 0 ps ++ read_at p (place_behind ps) (Ok (Content piece)) ∷ []
reads_push p ps piece =
    let here : 0 + 1048576 * length ps ≡ 1048576 * length ps = omega arith in
    reads_append p 0 ps (piece ∷ []) ∙ ap (λ k. reads p 0 ps ++ read_at p k (Ok (Content piece)) ∷ []) here

all_answered : (p : HostPath) (from : ℕ) (ps : List (List ℕ)) → AreAnswered (reads p from ps)
all_answered p from [] = tt
all_answered p from (v ∷ ps) = (tt, all_answered p (from + 1048576) ps)

whole_push : (ps : List (List ℕ)) (piece : List ℕ) → AreWhole ps → 1048576 ≤ length piece → AreWhole (ps ++ piece ∷ [])
whole_push [] piece w long = (long, tt)
whole_push (v ∷ ps) piece w long = (w.0, whole_push ps piece w.1 long)

-- whole pieces up to this place were read and written
pub record IsGotTo {A : Type 0} (M : Asking A) (old new : A) (p : HostPath) (place : ℕ) (output : Stream) : Type 0 where
  pub pieces : List (List ℕ)
  pub whole : AreWhole pieces
  pub long : place ≡ place_behind pieces
  pub asked : Asked M old new (reads p 0 pieces)
  pub wrote : Wrote output (joined pieces)

pub joined_push : (ps : List (List ℕ)) (piece : List ℕ) → joined (ps ++ piece ∷ []) ≡ joined ps ++ piece
joined_push ps piece = joined_append ps (piece ∷ []) ∙ ap (λ z. joined ps ++ z) (append-nil piece)

abbrev Output : Option (List ℕ) → Option (List ℕ) → ℕ → ℕ → Stream
Output old new faults risen = record { old = old; new = new; faults = faults; risen = risen }

-- more was written behind it
wrote_more : (old mid new : Option (List ℕ)) (f0 f1 f2 : ℕ) (bytes piece : List ℕ) → Wrote (Output old mid f0 f1) bytes → new ≡ appends mid piece → f2 ≡ f1 → Wrote (Output old new f0 f2) (bytes ++ piece)
wrote_more old mid new f0 f1 f2 bytes piece w more quiet = (more ∙ (ap (λ z. appends z piece) w.0 ∙ appends-append old bytes piece), quiet ∙ w.1)

module _ {A : Type 0} (M : Asking A) (lawful : LawfulAsker M) where
  pub got_none : (a : A) (p : HostPath) (written : Option (List ℕ)) (faults : ℕ) → IsGotTo M a a p 0 (Output written written faults faults)
  got_none a p written faults = record {
    pieces = [];
    whole = tt;
    long = refl;
    asked = asked_none M lawful a;
    wrote = (appends-nil written, refl);
  }

  -- one question more
  asked_on : (a b c : A) (p : HostPath) (ps : List (List ℕ)) (place : ℕ) (outcome : Result Reply Stopped) → place ≡ place_behind ps → Asked M a b (reads p 0 ps) → Asked M b c (read_at p place outcome ∷ [])
      → Asked M a c (reads p 0 ps ++ read_at p (place_behind ps) outcome ∷ [])
  asked_on a b c p ps place outcome long before one =
      asked_then M lawful a b c (reads p 0 ps) (read_at p (place_behind ps) outcome ∷ []) before (all_answered p 0 ps) (subst (λ k. Asked M b c (read_at p k outcome ∷ [])) long one)

  asked_piece : (a b c : A) (p : HostPath) (ps : List (List ℕ)) (place : ℕ) (piece : List ℕ) → place ≡ place_behind ps → Asked M a b (reads p 0 ps) → Asked M b c (read_at p place (Ok (Content piece)) ∷ [])
      → Asked M a c (reads p 0 (ps ++ piece ∷ []))
  asked_piece a b c p ps place piece long before one = subst (Asked M a c) (sym (reads_push p ps piece)) (asked_on a b c p ps place (Ok (Content piece)) long before one)

  -- there is no memory to go on
  pub got_memory : {X : Type 0} (a b : A) (p : HostPath) (place : ℕ) (output : Stream) → IsGotTo M a b p place output → FileGot M a b p output {X = X} (Err stop.Memory)
  got_memory a b p place output g = record { qs = reads p 0 g.pieces; asked = g.asked; is = record { pieces = g.pieces; whole = g.whole; ends = (refl, g.wrote) } }

  -- the next piece doesn't come
  pub got_unread : {X : Type 0} (a b c : A) (p : HostPath) (place : ℕ) (output : Stream) (e : Stop) → IsGotTo M a b p place output → PieceAsked M b c p place (Err e) → FileGot M a c p output {X = X} (Err e)
  got_unread {X = X} a b c p place output stop.Memory g one = subst (λ z. FileGot M a z p output {X = X} (Err stop.Memory)) (sym one) (got_memory a b p place output g)
  got_unread a b c p place output stop.Host g one = absurd one
  got_unread a b c p place output stop.Stopped g one = record {
    qs = reads p 0 g.pieces ++ read_at p (place_behind g.pieces) (Err one.0) ∷ [];
    asked = asked_on a b c p g.pieces place (Err one.0) g.long g.asked one.1;
    is = record { pieces = g.pieces; whole = g.whole; ends = (one.0, (refl, g.wrote)) };
  }
  got_unread a b c p place output (stop.Refused e) g one = record {
    qs = reads p 0 g.pieces ++ read_at p (place_behind g.pieces) (Ok (Error e)) ∷ [];
    asked = asked_on a b c p g.pieces place (Ok (Error e)) g.long g.asked one;
    is = record { pieces = g.pieces; whole = g.whole; ends = (refl, g.wrote) };
  }

  -- it comes, and isn't written whole
  pub got_unwritten : {X : Type 0} (a b c : A) (p : HostPath) (place : ℕ) (old mid new : Option (List ℕ)) (f0 f1 f2 : ℕ) (piece : List ℕ) → IsGotTo M a b p place (Output old mid f0 f1) → PieceAsked M b c p place (Ok piece)
      → Cut mid new piece → RoseBy 1 f1 f2 → FileGot M a c p (Output old new f0 f2) {X = X} (Err stop.Host)
  got_unwritten a b c p place old mid new f0 f1 f2 piece g one cut rose = record {
    qs = reads p 0 (g.pieces ++ piece ∷ []);
    asked = asked_piece a b c p g.pieces place piece g.long g.asked one;
    is = record {
      pieces = g.pieces;
      whole = g.whole;
      ends = (piece, (refl, (subst (λ z. Cut z new piece) g.wrote.0 cut, subst (λ z. RoseBy 1 z f2) g.wrote.1 rose)));
    };
  }

  -- it is the last
  pub got_last : {X : Type 0} (x : X) (a b c : A) (p : HostPath) (place : ℕ) (old mid new : Option (List ℕ)) (f0 f1 f2 : ℕ) (piece : List ℕ) → IsGotTo M a b p place (Output old mid f0 f1) → PieceAsked M b c p place (Ok piece)
      → length piece < 1048576 → new ≡ appends mid piece → f2 ≡ f1 → FileGot M a c p (Output old new f0 f2) {X = X} (Ok x)
  got_last x a b c p place old mid new f0 f1 f2 piece g one few wrote quiet = record {
    qs = reads p 0 (g.pieces ++ piece ∷ []);
    asked = asked_piece a b c p g.pieces place piece g.long g.asked one;
    is = record {
      pieces = g.pieces;
      whole = g.whole;
      ends = (piece, ((few, refl), wrote_more old mid new f0 f1 f2 (joined g.pieces) piece g.wrote wrote quiet));
    };
  }

  -- it is whole, and more are to follow
  pub got_more : (a b c : A) (p : HostPath) (place next : ℕ) (old mid new : Option (List ℕ)) (f0 f1 f2 : ℕ) (piece : List ℕ) → IsGotTo M a b p place (Output old mid f0 f1) → PieceAsked M b c p place (Ok piece)
      → 1048576 ≤ length piece → next ≡ place + 1048576 → new ≡ appends mid piece → f2 ≡ f1 → IsGotTo M a c p next (Output old new f0 f2)
  got_more a b c p place next old mid new f0 f1 f2 piece g one long at wrote quiet =
      let before : place ≡ 1048576 * length g.pieces = g.long in
      record {
        pieces = g.pieces ++ piece ∷ [];
        whole = whole_push g.pieces piece g.whole long;
        long = omega (arith, at, before, length-append g.pieces (piece ∷ []));
        asked = asked_piece a b c p g.pieces place piece g.long g.asked one;
        wrote = subst (Wrote (Output old new f0 f2)) (sym (joined_push g.pieces piece)) (wrote_more old mid new f0 f1 f2 (joined g.pieces) piece g.wrote wrote quiet);
      }

-- a question by what its command and its reply are
pub at_path : {A : Type 0} (M : Asking A) (a b : A) (path p : HostPath) (place : ℕ) (outcome : Result Reply Stopped) → path ≡ p → Asked M a b (read_at path place outcome ∷ []) → Asked M a b (read_at p place outcome ∷ [])
at_path M a b path p place outcome same asked = subst (λ z. Asked M a b (read_at z place outcome ∷ [])) same asked

pub answered_so : {A : Type 0} (M : Asking A) (a b : A) (p : HostPath) (place : ℕ) (given reply : Reply) → given ≡ reply → Asked M a b (read_at p place (Ok given) ∷ []) → Asked M a b (read_at p place (Ok reply) ∷ [])
answered_so M a b p place given reply same asked = subst (λ z. Asked M a b (read_at p place (Ok z) ∷ [])) same asked
