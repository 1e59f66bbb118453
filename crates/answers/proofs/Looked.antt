-- Replies that tell something leave the tree.
use Rattle.std.proofs.Common.{◌≡◌, ◌⊎◌, inl, inr, ℕ, Bool, true, false, cond, nat_lt, List, [], length, take, drop, refl, sym, ap, ◌∙◌, subst, map}
use Rattle.fs_model.specs.Instant.{Instant}
use Rattle.fs_model.specs.declared.attr.TheConstants.{DIRECTORY_MODE, FILE_MODE, LINK_MODE}
use Rattle.fs_model.specs.declared.limits.TheConstants.{MAX_ENTRIES}
use Rattle.fs_model.specs.declared.attr.Attr.{Attr}
use Rattle.fs_model.specs.declared.attr.Kind.{Kind}
use Rattle.fs_model.specs.declared.attr.Kind.TheVariants.{Directory, File, Link}
use Rattle.fs_model.specs.declared.error.FsError.{FsError}
use Rattle.fs_model.specs.declared.error.FsError.TheVariants.{TooLarge, NotDirectory, NotLink}
use Rattle.fs_model.specs.declared.command.Command.{Command}
use Rattle.fs_model.specs.declared.command.Command.TheVariants as command
use Rattle.fs_model.specs.declared.reply.Reply.{Reply}
use Rattle.fs_model.specs.declared.reply.Reply.TheVariants.{Done, Rows, Info, Target, Content, Error}
use Rattle.fs_model.specs.Tree.{Path, Tree, Row, upward, parent, is_root, directory_size, is_directory, children}
use Rattle.std.specs.FinMap.{entries}
use Rattle.fs_model.specs.LookUp.{LookedUp, Found, Free, Bad, look}
use Rattle.answers.specs.Hosts.{IsLongReply}
use Rattle.fs_model.specs.Step.{Stepped, new_row, with_mode, with_owner, with_times, moved_tree, list_row, answered, refused, done, by_kind, unless_root, listed, told, made, removed_directory, removed_file, target_read, on_file, content_read, written, truncated, attributes_set, moved_onto, moved_to, moved_from, moved_unless_large, step}

-- the reply is Done, or the tree stays
record IsFair (t : Tree) (s : Stepped) : Type 0 where
  fair : (s.reply ≡ Done) ⊎ (s.tree ≡ t)

changes : (t next : Tree) → IsFair t (done next)
changes t next = record { fair = inl refl }

stays : (t : Tree) (reply : Reply) → IsFair t (answered t reply)
stays t reply = record { fair = inr refl }

fair_cond : (t : Tree) (b : Bool) (x y : Stepped) → IsFair t x → IsFair t y → IsFair t (cond b x y)
fair_cond t true x y p q = p
fair_cond t false x y p q = q

fair_refused : (t : Tree) (e : FsError) → IsFair t (refused t e)
fair_refused t e = stays t (Error e)

fair_kind : (t : Tree) (k : Kind) (d f l : Stepped) → IsFair t d → IsFair t f → IsFair t l → IsFair t (by_kind k d f l)
fair_kind t Directory d f l p q r = p
fair_kind t File d f l p q r = q
fair_kind t Link d f l p q r = r

fair_listed : (t : Tree) (p : Path) (s : LookedUp) → IsFair t (listed t p s)
fair_listed t p (Found row) = fair_cond t (is_directory row.attr.kind) _ _ (stays t (Rows (map list_row (entries (children t p))))) (fair_refused t NotDirectory)
fair_listed t p Free = fair_refused t _
fair_listed t p (Bad e) = fair_refused t _

fair_told : (t : Tree) (s : LookedUp) → IsFair t (told t s)
fair_told t (Found row) = stays t (Info row.attr (length row.bytes))
fair_told t Free = fair_refused t _
fair_told t (Bad e) = fair_refused t _

fair_made : (t : Tree) (now : Instant) (p : Path) (row : Row) (s : LookedUp) → IsFair t (made t now p row s)
fair_made t now p row (Found old) = fair_refused t _
fair_made t now p row Free = fair_cond t _ _ _ (fair_refused t _) (changes t _)
fair_made t now p row (Bad e) = fair_refused t _

fair_removed_directory : (t : Tree) (now : Instant) (p : Path) (s : LookedUp) → IsFair t (removed_directory t now p s)
fair_removed_directory t now p (Found row) = fair_cond t _ _ _ (fair_cond t _ _ _ (fair_refused t _) (changes t _)) (fair_refused t _)
fair_removed_directory t now p Free = fair_refused t _
fair_removed_directory t now p (Bad e) = fair_refused t _

fair_removed_file : (t : Tree) (now : Instant) (p : Path) (s : LookedUp) → IsFair t (removed_file t now p s)
fair_removed_file t now p (Found row) = fair_cond t _ _ _ (fair_refused t _) (changes t _)
fair_removed_file t now p Free = fair_refused t _
fair_removed_file t now p (Bad e) = fair_refused t _

fair_target_read : (t : Tree) (s : LookedUp) → IsFair t (target_read t s)
fair_target_read t (Found row) = fair_kind t row.attr.kind _ _ _ (fair_refused t NotLink) (fair_refused t NotLink) (stays t (Target row.bytes))
fair_target_read t Free = fair_refused t _
fair_target_read t (Bad e) = fair_refused t _

fair_on_file : (t : Tree) (k : Kind) (s : Stepped) → IsFair t s → IsFair t (on_file t k s)
fair_on_file t k s p = fair_kind t k _ _ _ (fair_refused t _) p (fair_refused t _)

fair_content_read : (t : Tree) (from count : ℕ) (s : LookedUp) → IsFair t (content_read t from count s)
fair_content_read t from count (Found row) = fair_on_file t _ _ (fair_cond t _ _ _ (fair_refused t TooLarge) (stays t (Content (take count (drop from row.bytes)))))
fair_content_read t from count Free = fair_refused t _
fair_content_read t from count (Bad e) = fair_refused t _

fair_written : (t : Tree) (now : Instant) (p : Path) (from : ℕ) (bytes : List ℕ) (s : LookedUp) → IsFair t (written t now p from bytes s)
fair_written t now p from bytes (Found row) = fair_on_file t _ _ (fair_cond t _ _ _ (changes t _) (fair_cond t _ _ _ (fair_refused t _) (changes t _)))
fair_written t now p from bytes Free = fair_refused t _
fair_written t now p from bytes (Bad e) = fair_refused t _

fair_truncated : (t : Tree) (now : Instant) (p : Path) (n : ℕ) (s : LookedUp) → IsFair t (truncated t now p n s)
fair_truncated t now p n (Found row) = fair_on_file t _ _ (fair_cond t _ _ _ (fair_refused t _) (changes t _))
fair_truncated t now p n Free = fair_refused t _
fair_truncated t now p n (Bad e) = fair_refused t _

fair_attributes : (t : Tree) (p : Path) (change : Attr → Attr) (s : LookedUp) → IsFair t (attributes_set t p change s)
fair_attributes t p change (Found row) = changes t _
fair_attributes t p change Free = fair_refused t _
fair_attributes t p change (Bad e) = fair_refused t _

fair_unless_root : (t : Tree) (p : Path) (s : Stepped) → IsFair t s → IsFair t (unless_root t p s)
fair_unless_root t p s h = fair_cond t (is_root p) _ _ (fair_refused t _) h

fair_large : (t : Tree) (now : Instant) (p q : Path) (next : Tree) → IsFair t (moved_unless_large t now p q next)
fair_large t now p q next = fair_cond t (nat_lt MAX_ENTRIES (directory_size next (parent q))) _ _ (fair_refused t _) (changes t _)

fair_onto : (t : Tree) (q : Path) (a b : Bool) (s : Stepped) → IsFair t s → IsFair t (moved_onto t q a b s)
fair_onto t q true true s h = fair_cond t _ _ _ (fair_refused t _) h
fair_onto t q true false s h = fair_refused t _
fair_onto t q false true s h = fair_refused t _
fair_onto t q false false s h = h

fair_to : (t : Tree) (now : Instant) (p q : Path) (row : Row) (s : LookedUp) → IsFair t (moved_to t now p q row s)
fair_to t now p q row (Found old) = fair_cond t _ _ _ (changes t _) (fair_onto t q (is_directory row.attr.kind) (is_directory old.attr.kind) _ (fair_large t now p q (moved_tree t now p q row)))
fair_to t now p q row Free = fair_large t now p q (moved_tree t now p q row)
fair_to t now p q row (Bad e) = fair_refused t _

fair_from : (t : Tree) (now : Instant) (p q : Path) (s : LookedUp) → IsFair t (moved_from t now p q s)
fair_from t now p q (Found row) = fair_cond t _ _ _ (fair_refused t _) (fair_to t now p q row (look t q))
fair_from t now p q Free = fair_refused t _
fair_from t now p q (Bad e) = fair_refused t _

fair_step : (t : Tree) (now : Instant) (c : Command) → IsFair t (step t now c)
fair_step t now (command.List p) = fair_listed t (upward p) (look t (upward p))
fair_step t now (command.Stat p) = fair_told t (look t (upward p))
fair_step t now (command.Mkdir p) = fair_made t now (upward p) (new_row Directory DIRECTORY_MODE now []) (look t (upward p))
fair_step t now (command.Rmdir p) = fair_unless_root t (upward p) _ (fair_removed_directory t now (upward p) (look t (upward p)))
fair_step t now (command.Mkfile p) = fair_made t now (upward p) (new_row File FILE_MODE now []) (look t (upward p))
fair_step t now (command.Rm p) = fair_unless_root t (upward p) _ (fair_removed_file t now (upward p) (look t (upward p)))
fair_step t now (command.Mv p q) =
    fair_unless_root t (upward p) _ (fair_unless_root t (upward q) _ (fair_from t now (upward p) (upward q) (look t (upward p))))
fair_step t now (command.Symlink target p) = fair_made t now (upward p) (new_row Link LINK_MODE now target) (look t (upward p))
fair_step t now (command.Readlink p) = fair_target_read t (look t (upward p))
fair_step t now (command.Write p from bytes) = fair_written t now (upward p) from bytes (look t (upward p))
fair_step t now (command.Read p from count) = fair_content_read t from count (look t (upward p))
fair_step t now (command.Truncate p n) = fair_truncated t now (upward p) n (look t (upward p))
fair_step t now (command.Chmod p mode) = fair_unless_root t (upward p) _ (fair_attributes t (upward p) (with_mode mode now) (look t (upward p)))
fair_step t now (command.Chown p uid gid) = fair_unless_root t (upward p) _ (fair_attributes t (upward p) (with_owner uid gid now) (look t (upward p)))
fair_step t now (command.Utime p atime mtime) = fair_unless_root t (upward p) _ (fair_attributes t (upward p) (with_times atime mtime now) (look t (upward p)))
fair_step t now command.Sync = changes t t

-- a step whose reply tells something leaves the tree
told_stays : (t : Tree) (s : Stepped) → IsFair t s → IsLongReply s.reply → s.tree ≡ t
told_stays t s fair long = elim fair.fair [
  | inl done ↦ absurd (subst IsLongReply done long)
  | inr same ↦ same
]

pub long_stays : (t : Tree) (now : Instant) (command : Command) (reply : Reply) (next : Tree)
    → step t now command ≡ record { reply = reply; tree = next } → IsLongReply reply → next ≡ t
long_stays t now command reply next e long =
    sym (ap (λ (s : Stepped). s.tree) e)
    ∙ told_stays t (step t now command) (fair_step t now command) (subst IsLongReply (sym (ap (λ (s : Stepped). s.reply) e)) long)
