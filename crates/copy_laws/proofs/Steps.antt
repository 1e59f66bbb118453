-- What one command that is done leaves.
use Rattle.std.proofs.Common.{◌≡◌, ◌≢◌, ℕ, ◌+◌, ◌<◌, Bool, true, false, cond, List, [], ◌∷◌, ◌++◌, length, drop, refl, sym, ◌∙◌, ap, subst, arith, append-nil, append_assoc, eqb-true}
use Rattle.std.specs.Prelude.{Some, nat_lt, ◌==◌, max}
use Rattle.std.specs.FinMap.{get, insert}
use Rattle.std.proofs.lemmas.List.{drop_all, length-append}
use Rattle.std.proofs.Math.Seq.{take-length}
use Rattle.block_id.specs.Contents.{overwritten}
use Rattle.block_id.proofs.Contents.{overwritten_within}
use Rattle.fs_model.specs.declared.attr.Kind.{Kind}
use Rattle.fs_model.specs.declared.attr.Kind.TheVariants.{Directory, File, Link}
use Rattle.fs_model.specs.declared.attr.TheConstants.{DIRECTORY_MODE, FILE_MODE, LINK_MODE}
use Rattle.fs_model.specs.declared.error.FsError.{FsError}
use Rattle.fs_model.specs.declared.error.FsError.TheVariants.{Exists, TooLarge}
use Rattle.fs_model.specs.declared.limits.TheConstants.{MAX_ENTRIES}
use Rattle.fs_model.specs.declared.reply.Reply.TheVariants.{Done, Error}
use Rattle.fs_model.specs.Instant.{Instant}
use Rattle.fs_model.specs.LookUp.{LookedUp, Found, Free, Bad, look}
use Rattle.fs_model.specs.Step.{Stepped, made, touched, written, on_file, new_row, with_content, refused, done, is_too_long}
use Rattle.fs_model.specs.Tree.{Path, Row, Tree, upward, parent, last_name, directory_size, entry_size}
use Rattle.fs_model.proofs.LookUpLemmas.{look-found}
use Rattle.fs_model.proofs.Touches.{touched-apart}
use Rattle.fs_model.proofs.TreeLemmas.{insert_here, insert_apart}
use Rattle.host_folder.specs.Folders.{HostPath}
use Rattle.copy_laws.specs.Importing.{AllDone, writes, commands_for, pieces_of, joined, plain_of}
use Rattle.copy_laws.proofs.Pieces.{AreSome, joined-cut, some-cut}
use Rattle.copy_laws.proofs.Touching.{longer_not, touched_plain}

-- this path has such a row now, and every other path has the kind and the bytes that it had
pub record Sets (old new : Tree) (p : Path) (kind : Kind) (bytes : List ℕ) : Type 0 where
  pub row : Row
  pub here : get new p ≡ Some row
  pub of_kind : row.attr.kind ≡ kind
  pub holds : row.bytes ≡ bytes
  pub others : (q : Path) → q ≢ p → plain_of (get new q) ≡ plain_of (get old q)

abbrev IsDone : Stepped → Tree → Type 0
IsDone s next = s ≡ record { reply = Done; tree = next }

refused_not : (t : Tree) (e : FsError) (next : Tree) → IsDone (refused t e) next → ⊥
refused_not t e next h = let bad : Error e ≡ Done = ap (λ s. s.reply) h in cc

done_is : (t next : Tree) → IsDone (done t) next → t ≡ next
done_is t next h = ap (λ s. s.tree) h

unless : (b : Bool) (t : Tree) (e : FsError) (after next : Tree) → IsDone (cond b (refused t e) (done after)) next → after ≡ next
unless true t e after next h = absurd (refused_not t e next h)
unless false t e after next h = done_is after next h

-- the new row, and its directory touched
abbrev with_new : Tree → Instant → Path → Row → Tree
with_new t now p row = touched (insert t p row) now (parent p)

made_is : (t : Tree) (now : Instant) (p : Path) (row : Row) (s : LookedUp) (next : Tree) → IsDone (made t now p row s) next → with_new t now p row ≡ next
made_is t now p row (Found old) next h = absurd (refused_not t Exists next h)
made_is t now p row Free next h = unless (nat_lt MAX_ENTRIES (directory_size t (parent p) + entry_size (last_name p))) t TooLarge (with_new t now p row) next h
made_is t now p row (Bad e) next h = absurd (refused_not t e next h)

new_here : (t : Tree) (now : Instant) (p : Path) (row : Row) → get (with_new t now p row) p ≡ Some row
new_here t now [] row = insert_here t [] row
new_here t now (n ∷ d) row = touched-apart (insert t (n ∷ d) row) now d (n ∷ d) (longer_not n d) ∙ insert_here t (n ∷ d) row

made_sets : (t next : Tree) (now : Instant) (p : Path) (row : Row) → with_new t now p row ≡ next → Sets t next p row.attr.kind row.bytes
made_sets t next now p row is = subst (λ n. Sets t n p row.attr.kind row.bytes) is (record {
  row = row;
  here = new_here t now p row;
  of_kind = refl;
  holds = refl;
  others = λ q differ. touched_plain (insert t p row) now (parent p) q ∙ ap plain_of (insert_apart t p row q differ);
})

appended : (w v : List ℕ) → overwritten w (length w) v ≡ w ++ v
appended w v =
    overwritten_within w (length w) v (omega arith)
    ∙ (ap (λ xs. (xs ++ v) ++ drop (length w + length v) w) (take-length w)
    ∙ (ap (λ xs. (w ++ v) ++ xs) (drop_all (length w + length v) w (omega arith)) ∙ append-nil (w ++ v)))

-- a file got more bytes
abbrev longer : Tree → Instant → Path → Row → List ℕ → Tree
longer t now p row v = insert t p (with_content row now (overwritten row.bytes (length row.bytes) v))

abbrev unless_long : Tree → Instant → Path → Row → List ℕ → Stepped
unless_long t now p row v = cond (is_too_long (length row.bytes) (max (length row.bytes) (length row.bytes + length v))) (refused t TooLarge) (done (longer t now p row v))

abbrev wrote : Tree → Instant → Path → Row → List ℕ → Stepped
wrote t now p row v = cond (length v == 0) (done t) (unless_long t now p row v)

wrote_some : (t : Tree) (now : Instant) (p : Path) (row : Row) (v : List ℕ) (next : Tree) (b : Bool) → (length v == 0) ≡ b → 0 < length v → IsDone (cond b (done t) (unless_long t now p row v)) next → longer t now p row v ≡ next
wrote_some t now p row v next true e some h = absurd (let none = eqb-true (length v) 0 e in omega arith)
wrote_some t now p row v next false e some h = unless (is_too_long (length row.bytes) (max (length row.bytes) (length row.bytes + length v))) t TooLarge (longer t now p row v) next h

written_is : (t : Tree) (now : Instant) (p : Path) (row : Row) (v : List ℕ) (next : Tree) → row.attr.kind ≡ File → 0 < length v → IsDone (written t now p (length row.bytes) v (Found row)) next
    → insert t p (with_content row now (overwritten row.bytes (length row.bytes) v)) ≡ next
written_is t now p row v next kind some h =
    let file : IsDone (wrote t now p row v) next = subst (λ k. IsDone (on_file t k (wrote t now p row v)) next) kind h in
    wrote_some t now p row v next (length v == 0) refl some file

-- pieces behind what a file has
pub writes_set : (now : Instant) (q : HostPath) (ps : List (List ℕ)) (t last : Tree) (row : Row) (w : List ℕ) → get t (upward q) ≡ Some row → row.attr.kind ≡ File → row.bytes ≡ w → AreSome ps
    → AllDone t now (writes q (length w) ps) last → Sets t last (upward q) File (w ++ joined ps)
writes_set now q [] t last row w here kind bytes some h = record {
  row = row;
  here = ap (λ x. get x (upward q)) h ∙ here;
  of_kind = kind;
  holds = bytes ∙ sym (append-nil w);
  others = λ r differ. ap (λ x. plain_of (get x r)) h;
}
writes_set now q (v ∷ more) t last row w here kind bytes some (mid, (h, rest)) =
    let p : Path = upward q in
    let seen_so : IsDone (written t now (upward q) (length w) v (Found row)) mid = subst (λ s. IsDone (written t now (upward q) (length w) v s) mid) (look-found t (upward q) row here) h in
    let wrote : IsDone (written t now (upward q) (length row.bytes) v (Found row)) mid = subst (λ k. IsDone (written t now (upward q) k v (Found row)) mid) (sym (ap length bytes)) seen_so in
    let next : Row = with_content row now (overwritten row.bytes (length row.bytes) v) in
    let is : insert t (upward q) next ≡ mid = written_is t now (upward q) row v mid kind some.0 wrote in
    let there : get mid (upward q) ≡ Some next = ap (λ x. get x (upward q)) (sym is) ∙ insert_here t (upward q) next in
    let long : overwritten row.bytes (length row.bytes) v ≡ w ++ v = appended row.bytes v ∙ ap (λ xs. xs ++ v) bytes in
    let onward : AllDone mid now (writes q (length (w ++ v)) more) last = subst (λ k. AllDone mid now (writes q k more) last) (sym (length-append w v)) rest in
    let all = writes_set now q more mid last next (w ++ v) there kind long some.1 onward in
    record {
      row = all.row;
      here = all.here;
      of_kind = all.of_kind;
      holds = all.holds ∙ append_assoc w v (joined more);
      others = λ r differ. all.others r differ ∙ ap plain_of (ap (λ x. get x r) (sym is) ∙ insert_apart t (upward q) next r differ);
    }

abbrev pub bytes_by : Kind → List ℕ → List ℕ
bytes_by Directory w = []
bytes_by File w = w
bytes_by Link w = w

-- the commands of one row
pub row_sets : (now : Instant) (q : HostPath) (kind : Kind) (w : List ℕ) (t last : Tree) → AllDone t now (commands_for q kind w) last → Sets t last (upward q) kind (bytes_by kind w)
row_sets now q Directory w t last (mid, (h, e)) =
    subst (λ x. Sets t x (upward q) Directory []) (sym e) (made_sets t mid now (upward q) (new_row Directory DIRECTORY_MODE now []) (made_is t now (upward q) (new_row Directory DIRECTORY_MODE now []) (look t (upward q)) mid h))
row_sets now q Link w t last (mid, (h, e)) =
    subst (λ x. Sets t x (upward q) Link w) (sym e) (made_sets t mid now (upward q) (new_row Link LINK_MODE now w) (made_is t now (upward q) (new_row Link LINK_MODE now w) (look t (upward q)) mid h))
row_sets now q File w t last (mid, (h, rest)) =
    let first = made_sets t mid now (upward q) (new_row File FILE_MODE now []) (made_is t now (upward q) (new_row File FILE_MODE now []) (look t (upward q)) mid h) in
    let all = writes_set now q (pieces_of w) mid last first.row [] first.here first.of_kind first.holds (some-cut 1048576 (length w) w (omega arith)) rest in
    record {
      row = all.row;
      here = all.here;
      of_kind = all.of_kind;
      holds = all.holds ∙ joined-cut 1048576 (length w) w (omega arith) (omega arith);
      others = λ r differ. all.others r differ ∙ first.others r differ;
    }
