-- What a get writes.
use Rattle.std.proofs.Common.{◌≡◌, inl, inr, ℕ, ◌+◌, ◌*◌, ◌<◌, List, [], ◌∷◌, ◌++◌, length, take, drop, refl, sym, ◌∙◌, ap, subst, arith, append_assoc, append-nil}
use Rattle.std.specs.Prelude.{Some}
use Rattle.std.specs.FinMap.{get}
use Rattle.std.specs.declared.result.Result.TheVariants.{Ok, Err}
use Rattle.std.proofs.lemmas.List.{length-take, take_all, take-append-drop, drop-drop}
use Rattle.std.proofs.lemmas.Option.{same_Some}
use Rattle.outside.specs.Streams.{appends}
use Rattle.copy_sessions.specs.line_io.Streams.{Stream, Cut}
use Rattle.copy_sessions.proofs.line_io_lemmas.Flow.{appends-append, appends-nil}
use Rattle.fs_model.specs.declared.attr.Kind.TheVariants.{File}
use Rattle.fs_model.specs.declared.command.Command.TheVariants as command
use Rattle.fs_model.specs.declared.error.FsError.{FsError}
use Rattle.fs_model.specs.declared.reply.Reply.{Reply}
use Rattle.fs_model.specs.declared.reply.Reply.TheVariants.{Content, Error}
use Rattle.fs_model.specs.Instant.{Instant}
use Rattle.fs_model.specs.LookUp.{Found}
use Rattle.fs_model.specs.Step.{Stepped, step, answered, content_read, on_file}
use Rattle.fs_model.specs.Tree.{Row, Tree, upward}
use Rattle.fs_model.proofs.LawLemmas.{looking_stays}
use Rattle.fs_model.proofs.LookUpLemmas.{look-found}
use Rattle.copy_row.specs.host_folder.Folders.{HostPath}
use Rattle.copy_row.specs.copy_laws.Importing.{joined, plain_of}
use Rattle.copy_row.specs.copy_laws.Questions.{Question, Followed}
use Rattle.copy_row.proofs.copy_laws_lemmas.Exported.{read_says}
use Rattle.copy_sessions.specs.answers.Sessions.{latest}
use Rattle.copy_sessions.proofs.Following.{follows}
use Rattle.copy_row.specs.declared.stop.Stop.{Stop}
use Rattle.copy_row.specs.declared.stop.Stop.TheVariants as stop
use Rattle.copy_file.specs.Getting.{read_at, reads, AreWhole, place_behind, IsGet}
use Rattle.copy_file.specs.Laws.{HasFile, IsWrittenPart, GetFails, GetTells, GetTellsPart}
use Rattle.copy_file.proofs.Getting.{reads_push}

-- ---- a read leaves the tree, and says what stands there

read_stays : (t : Tree) (now : Instant) (p : HostPath) (from : ℕ) (reply : Reply) (mid : Tree) → step t now (command.Read p from 1048576) ≡ record { reply = reply; tree = mid } → mid ≡ t
read_stays t now p from reply mid h = sym (ap (λ (s : Stepped). s.tree) h) ∙ looking_stays t now (command.Read p from 1048576) tt

has_file : (t : Tree) (p : HostPath) (row : Row) (bytes : List ℕ) → get t (upward p) ≡ Some row → row.attr.kind ≡ File → row.bytes ≡ bytes → HasFile t p bytes
has_file t p row bytes here kind same =
    ap plain_of here ∙ (ap (λ z. Some (record { kind = z; bytes = row.bytes })) kind ∙ ap (λ z. Some (record { kind = File; bytes = z })) same)

-- the questions behind these
reads_stay : (now : Instant) (p : HostPath) (from : ℕ) (ps : List (List ℕ)) (rest : List Question) (t last : Tree) → Followed t now (reads p from ps ++ rest) last → Followed t now rest last
reads_stay now p from [] rest t last h = h
reads_stay now p from (v ∷ ps) rest t last (mid, (a, h)) =
    reads_stay now p (from + 1048576) ps rest t last (subst (λ z. Followed z now (reads p (from + 1048576) ps ++ rest) last) (read_stays t now p from (Content v) mid a) h)

-- they give the file's bytes from this place on
reads_give : (now : Instant) (p : HostPath) (from : ℕ) (ps : List (List ℕ)) (rest : List Question) (t last : Tree) (row : Row) → get t (upward p) ≡ Some row → AreWhole ps → Followed t now (reads p from ps ++ rest) last
    → drop from row.bytes ≡ joined ps ++ drop (from + place_behind ps) row.bytes
reads_give now p from [] rest t last row here whole h = let same : from ≡ from + 0 = omega arith in ap (λ k. drop k row.bytes) same
reads_give now p from (v ∷ ps) rest t last row here whole (mid, (a, h)) =
    let c = read_says t (upward p) from 1048576 v mid a in
    let one : c.row ≡ row = same_Some _ _ (sym c.there ∙ here) in
    let left : List ℕ = drop from row.bytes in
    let piece : v ≡ take 1048576 left = c.is ∙ ap (λ (r : Row). take 1048576 (drop from r.bytes)) one in
    let long : length v ≡ 1048576 = omega (arith, ap length piece, length-take 1048576 left, whole.0) in
    let more = reads_give now p (from + 1048576) ps rest t last row here whole.1 (subst (λ z. Followed z now (reads p (from + 1048576) ps ++ rest) last) (read_stays t now p from (Content v) mid a) h) in
    let behind : drop 1048576 left ≡ joined ps ++ drop (from + 1048576 + 1048576 * length ps) row.bytes = drop-drop 1048576 from row.bytes ∙ more in
    let sum : from + 1048576 + 1048576 * length ps ≡ from + 1048576 * length (v ∷ ps) = omega arith in
    sym (take-append-drop 1048576 left)
    ∙ (ap (λ z. z ++ drop 1048576 left) (sym piece)
    ∙ (ap (λ z. v ++ z) behind
    ∙ (sym (append_assoc v (joined ps) (drop (from + 1048576 + 1048576 * length ps) row.bytes))
    ∙ ap (λ k. (v ++ joined ps) ++ drop k row.bytes) sum)))

short_rest : (rest piece : List ℕ) → piece ≡ take 1048576 rest → length piece < 1048576 → rest ≡ piece
short_rest rest piece h few =
    let is : length piece ≡ length (take 1048576 rest) = ap length h in
    sym (take_all 1048576 rest (omega (arith, length-take 1048576 rest, is, few))) ∙ sym h

-- ---- a piece more behind them

record IsReadOn (t last : Tree) (p : HostPath) (ps : List (List ℕ)) (piece : List ℕ) : Type 0 where
  row : Row
  here : get t (upward p) ≡ Some row
  kind : row.attr.kind ≡ File
  front : row.bytes ≡ joined ps ++ drop (place_behind ps) row.bytes
  next : piece ≡ take 1048576 (drop (place_behind ps) row.bytes)
  same : last ≡ t

read_on : (now : Instant) (p : HostPath) (ps : List (List ℕ)) (piece : List ℕ) (qs : List Question) (t last : Tree) → AreWhole ps → qs ≡ reads p 0 (ps ++ piece ∷ []) → Followed t now qs last → IsReadOn t last p ps piece
read_on now p ps piece qs t last whole are h =
    let end : List Question = read_at p (place_behind ps) (Ok (Content piece)) ∷ [] in
    let all : Followed t now (reads p 0 ps ++ end) last = subst (λ z. Followed t now z last) (are ∙ reads_push p ps piece) h in
    let one = reads_stay now p 0 ps end t last all in
    let c = read_says t (upward p) (place_behind ps) 1048576 piece one.0 one.1.0 in
    let here : 0 + 1048576 * length ps ≡ 1048576 * length ps = omega arith in
    record {
      row = c.row;
      here = c.there;
      kind = c.of_kind;
      front = reads_give now p 0 ps end t last c.row c.there whole all ∙ ap (λ k. joined ps ++ drop k c.row.bytes) here;
      next = c.is;
      same = one.1.1 ∙ read_stays t now p (place_behind ps) (Content piece) one.0 one.1.0;
    }

-- ---- whole pieces were written, and then nothing

written_part : (now : Instant) (p : HostPath) (ps : List (List ℕ)) (rest : List Question) (t last : Tree) (output : Stream) → AreWhole ps → Followed t now (reads p 0 ps ++ rest) last → output.new ≡ appends output.old (joined ps) → IsWrittenPart t p output
written_part now p [] rest t last output whole h w = inl (w ∙ sym (appends-nil output.old))
written_part now p (v ∷ ps) rest t last output whole h w =
    let c = read_says t (upward p) 0 1048576 v h.0 h.1.0 in
    let all = reads_give now p 0 (v ∷ ps) rest t last c.row c.there whole h in
    inr (c.row.bytes, (has_file t p c.row c.row.bytes c.there c.of_kind refl, (joined (v ∷ ps), drop (0 + place_behind (v ∷ ps)) c.row.bytes, all, w)))

-- a file that was read isn't refused afterwards
never_refused : (now : Instant) (p : HostPath) (from : ℕ) (t mid : Tree) (row : Row) (e : FsError) → get t (upward p) ≡ Some row → row.attr.kind ≡ File → step t now (command.Read p from 1048576) ≡ record { reply = Error e; tree = mid } → ⊥
never_refused now p from t mid row e here kind h =
    let seen : content_read t from 1048576 (Found row) ≡ record { reply = Error e; tree = mid } = ap (content_read t from 1048576) (sym (look-found t (upward p) row here)) ∙ h in
    let file : on_file t File (answered t (Content (take 1048576 (drop from row.bytes)))) ≡ record { reply = Error e; tree = mid } =
    ap (λ k. on_file t k (answered t (Content (take 1048576 (drop from row.bytes))))) (sym kind) ∙ seen in
    let bad : Content (take 1048576 (drop from row.bytes)) ≡ Error e = ap (λ (s : Stepped). s.reply) file in
    cc

refused_first : (now : Instant) (p : HostPath) (ps : List (List ℕ)) (e : FsError) (t last : Tree) (output : Stream) → Followed t now (reads p 0 ps ++ read_at p (place_behind ps) (Ok (Error e)) ∷ []) last → output.new ≡ appends output.old (joined ps)
    → GetFails t now p output (stop.Refused e)
refused_first now p [] e t last output h w = (ap (λ (s : Stepped). s.reply) h.1.0, w ∙ sym (appends-nil output.old))
refused_first now p (v ∷ ps) e t last output h w =
    let c = read_says t (upward p) 0 1048576 v h.0 h.1.0 in
    let one = reads_stay now p 0 (v ∷ ps) (read_at p (place_behind (v ∷ ps)) (Ok (Error e)) ∷ []) t last h in
    absurd (never_refused now p (place_behind (v ∷ ps)) t one.0 c.row e c.there c.of_kind one.1.0)

-- ---- the laws

pub tells : GetTells
tells p output now first qs es trees is f at s =
    let end = is.ends in
    let r = read_on now p is.pieces end.0 qs first (latest first trees) is.whole end.1.0.1 (follows now first qs es trees f at s) in
    let all : r.row.bytes ≡ joined is.pieces ++ end.0 = r.front ∙ ap (λ z. joined is.pieces ++ z) (short_rest (drop (place_behind is.pieces) r.row.bytes) end.0 r.next end.1.0.0) in
    (r.same, (joined is.pieces ++ end.0, (has_file first p r.row (joined is.pieces ++ end.0) r.here r.kind all, end.1.1.0)))

-- a piece was written in part
cut_part : (t last : Tree) (p : HostPath) (ps : List (List ℕ)) (piece : List ℕ) (output : Stream) → IsReadOn t last p ps piece → Cut (appends output.old (joined ps)) output.new piece → IsWrittenPart t p output
cut_part t last p ps piece output r (part, rest, are, new) =
    let left : List ℕ = drop (place_behind ps) r.row.bytes in
    let more : List ℕ = drop 1048576 left in
    let split : r.row.bytes ≡ (joined ps ++ part) ++ (rest ++ more) =
    r.front
    ∙ (ap (λ z. joined ps ++ z) (sym (take-append-drop 1048576 left) ∙ ap (λ z. z ++ more) (sym r.next ∙ are) ∙ append_assoc part rest more)
    ∙ sym (append_assoc (joined ps) part (rest ++ more))) in
    inr (r.row.bytes, (has_file t p r.row r.row.bytes r.here r.kind refl, (joined ps ++ part, rest ++ more, split, new ∙ appends-append output.old (joined ps) part)))

fails_by : (p : HostPath) (output : Stream) (e : Stop) (now : Instant) (first last : Tree) (qs : List Question) → IsGet p qs output {X = Unit {0}} (Err e) → Followed first now qs last → (last ≡ first) × GetFails first now p output e
fails_by p output stop.Memory now first last qs is h =
    let all : Followed first now (reads p 0 is.pieces ++ []) last = subst (λ z. Followed first now z last) (is.ends.0 ∙ sym (append-nil (reads p 0 is.pieces))) h in
    (reads_stay now p 0 is.pieces [] first last all, written_part now p is.pieces [] first last output is.whole all is.ends.1.0)
fails_by p output stop.Host now first last qs is h =
    let r = read_on now p is.pieces is.ends.0 qs first last is.whole is.ends.1.0 h in
    (r.same, cut_part first last p is.pieces is.ends.0 output r is.ends.1.1.0)
fails_by p output stop.Stopped now first last qs is h =
    let end : List Question = read_at p (place_behind is.pieces) (Err is.ends.0) ∷ [] in
    let all : Followed first now (reads p 0 is.pieces ++ end) last = subst (λ z. Followed first now z last) is.ends.1.0 h in
    let one = reads_stay now p 0 is.pieces end first last all in
    (one.1.1 ∙ one.1.0, written_part now p is.pieces end first last output is.whole all is.ends.1.1.0)
fails_by p output (stop.Refused e) now first last qs is h =
    let end : List Question = read_at p (place_behind is.pieces) (Ok (Error e)) ∷ [] in
    let all : Followed first now (reads p 0 is.pieces ++ end) last = subst (λ z. Followed first now z last) is.ends.0 h in
    let one = reads_stay now p 0 is.pieces end first last all in
    (one.1.1 ∙ read_stays first now p (place_behind is.pieces) (Error e) one.0 one.1.0, refused_first now p is.pieces e first last output all is.ends.1.0)

pub part_tells : GetTellsPart
part_tells p output e now first qs es trees is f at s = fails_by p output e now first (latest first trees) qs is (follows now first qs es trees f at s)
