-- One command on the tree: its reply and the next tree.
use Rattle.std.specs.Prelude.{ℕ, ◌+◌, max, Bool, true, false, cond, ◌||◌, ◌==◌, nat_lt, List, [], ◌∷◌, length, take, drop, map}
use Rattle.std.specs.FinMap.{entries, get, insert, remove, len}
use Rattle.std.specs.declared.option.Option.{Option}
use Rattle.std.specs.declared.option.Option.TheVariants.{None, Some}
use Rattle.block_id.specs.Contents.{resized, overwritten}
use Rattle.fs_model.specs.declared.attr.Attr.{Attr}
use Rattle.fs_model.specs.declared.attr.Kind.{Kind}
use Rattle.fs_model.specs.declared.attr.Kind.TheVariants.{Directory, File, Link}
use Rattle.fs_model.specs.declared.attr.TheConstants.{DIRECTORY_MODE, FILE_MODE, LINK_MODE}
use Rattle.fs_model.specs.declared.limits.TheConstants.{MAX_FILE, MAX_GROWTH, MAX_ENTRIES, MAX_READ}
use Rattle.fs_model.specs.declared.error.FsError.{FsError}
use Rattle.fs_model.specs.declared.error.FsError.TheVariants.{NoEntry, Exists, NotDirectory, IsDirectory, NotEmpty, Invalid, Busy, TooLarge, NotLink}
use Rattle.fs_model.specs.declared.command.Command.{Command}
use Rattle.fs_model.specs.declared.command.Command.TheVariants as command
use Rattle.fs_model.specs.declared.reply.ListRow.{ListRow}
use Rattle.fs_model.specs.declared.reply.Reply.{Reply}
use Rattle.fs_model.specs.declared.reply.Reply.TheVariants.{Done, Rows, Info, Target, Content, Error}
use Rattle.fs_model.specs.Instant.{Instant}
use Rattle.fs_model.specs.Tree.{Path, Tree, Row, upward, parent, last_name, is_root, same_path, is_directory, children, entry_size, directory_size}
use Rattle.fs_model.specs.LookUp.{LookedUp, Found, Free, Bad, look}
use Rattle.fs_model.specs.Move.{is_above, renamed}

pub record Stepped : Type 0 where
  pub reply : Reply
  pub tree : Tree

-- the tree stays
abbrev pub answered : Tree → Reply → Stepped
answered t reply = record { reply = reply; tree = t }

abbrev pub refused : Tree → FsError → Stepped
refused t e = answered t (Error e)

-- the tree is the next one
abbrev pub done : Tree → Stepped
done t = record { reply = Done; tree = t }

-- a case for each kind
abbrev pub by_kind : {X : Type 0} → Kind → X → X → X → X
by_kind Directory d f l = d
by_kind File d f l = f
by_kind Link d f l = l

-- the root is refused
abbrev pub unless_root : Tree → Path → Stepped → Stepped
unless_root t p s = cond (is_root p) (refused t Busy) s

-- List: kind and name of each child, by increasing name bytes
abbrev pub list_row : List ℕ × Row → ListRow
list_row e = record { kind = e.1.attr.kind; name = e.0 }

abbrev pub listed : Tree → Path → LookedUp → Stepped
listed t p (Found row) = cond (is_directory row.attr.kind) (answered t (Rows (map list_row (entries (children t p))))) (refused t NotDirectory)
listed t p Free = refused t NoEntry
listed t p (Bad e) = refused t e

-- Stat: the attributes and the number of bytes
abbrev pub told : Tree → LookedUp → Stepped
told t (Found row) = answered t (Info row.attr (length row.bytes))
told t Free = refused t NoEntry
told t (Bad e) = refused t e

-- a directory whose children changed: its mtime and ctime are now, but for the root's
abbrev pub with_moments : Row → Instant → Row
with_moments row now = record row { attr = record row.attr { mtime = now; ctime = now } }

abbrev pub touched_at : Tree → Instant → Path → Option Row → Tree
touched_at t now d None = t
touched_at t now d (Some row) = insert t d (with_moments row now)

abbrev pub touched : Tree → Instant → Path → Tree
touched t now [] = t
touched t now (n ∷ d) = touched_at t now (n ∷ d) (get t (n ∷ d))

-- Mkdir, Mkfile and Symlink: a new row
abbrev pub new_row : Kind → ℕ → Instant → List ℕ → Row
new_row kind mode now bytes = record {
  attr = record { kind = kind; mode = mode; uid = 0; gid = 0; atime = now; mtime = now; ctime = now };
  bytes = bytes;
}

abbrev pub made : Tree → Instant → Path → Row → LookedUp → Stepped
made t now p row (Found old) = refused t Exists
made t now p row Free = cond (nat_lt MAX_ENTRIES (directory_size t (parent p) + entry_size (last_name p))) (refused t TooLarge) (done (touched (insert t p row) now (parent p)))
made t now p row (Bad e) = refused t e

-- Rmdir: an empty directory goes
abbrev pub has_child : Tree → Path → Bool
has_child t p = nat_lt 0 (len (children t p))

abbrev pub removed_directory : Tree → Instant → Path → LookedUp → Stepped
removed_directory t now p (Found row) = cond (is_directory row.attr.kind) (cond (has_child t p) (refused t NotEmpty) (done (touched (remove t p) now (parent p)))) (refused t NotDirectory)
removed_directory t now p Free = refused t NoEntry
removed_directory t now p (Bad e) = refused t e

-- Rm: a file or a link goes
abbrev pub removed_file : Tree → Instant → Path → LookedUp → Stepped
removed_file t now p (Found row) = cond (is_directory row.attr.kind) (refused t IsDirectory) (done (touched (remove t p) now (parent p)))
removed_file t now p Free = refused t NoEntry
removed_file t now p (Bad e) = refused t e

-- Readlink: the target
abbrev pub target_read : Tree → LookedUp → Stepped
target_read t (Found row) = by_kind row.attr.kind (refused t NotLink) (refused t NotLink) (answered t (Target row.bytes))
target_read t Free = refused t NoEntry
target_read t (Bad e) = refused t e

-- a file is served, a directory and a link are refused
abbrev pub on_file : Tree → Kind → Stepped → Stepped
on_file t kind s = by_kind kind (refused t IsDirectory) s (refused t Invalid)

-- Read: at most `count` bytes from `from`, cut at the end
abbrev pub content_read : Tree → ℕ → ℕ → LookedUp → Stepped
content_read t from count (Found row) = on_file t row.attr.kind (cond (nat_lt MAX_READ count) (refused t TooLarge) (answered t (Content (take count (drop from row.bytes)))))
content_read t from count Free = refused t NoEntry
content_read t from count (Bad e) = refused t e

-- a file of the old length may not get this length
abbrev pub is_too_long : ℕ → ℕ → Bool
is_too_long old new = nat_lt MAX_FILE new || nat_lt (old + MAX_GROWTH) new

-- the row with another content: mtime and ctime are now
abbrev pub with_content : Row → Instant → List ℕ → Row
with_content row now bytes = record { attr = record row.attr { mtime = now; ctime = now }; bytes = bytes }

-- Write: an empty write changes nothing
abbrev pub written : Tree → Instant → Path → ℕ → List ℕ → LookedUp → Stepped
written t now p from bytes (Found row) =
    on_file t row.attr.kind (cond (length bytes == 0) (done t)
    (cond (is_too_long (length row.bytes) (max (length row.bytes) (from + length bytes))) (refused t TooLarge)
    (done (insert t p (with_content row now (overwritten row.bytes from bytes))))))
written t now p from bytes Free = refused t NoEntry
written t now p from bytes (Bad e) = refused t e

-- Truncate
abbrev pub truncated : Tree → Instant → Path → ℕ → LookedUp → Stepped
truncated t now p n (Found row) =
    on_file t row.attr.kind (cond (is_too_long (length row.bytes) n) (refused t TooLarge)
    (done (insert t p (with_content row now (resized row.bytes n)))))
truncated t now p n Free = refused t NoEntry
truncated t now p n (Bad e) = refused t e

-- Chmod, Chown and Utime: the row with other attributes
abbrev pub attributes_set : Tree → Path → (Attr → Attr) → LookedUp → Stepped
attributes_set t p change (Found row) = done (insert t p (record row { attr = change row.attr }))
attributes_set t p change Free = refused t NoEntry
attributes_set t p change (Bad e) = refused t e

abbrev pub with_mode : ℕ → Instant → Attr → Attr
with_mode mode now attr = record attr { mode = mode; ctime = now }

abbrev pub with_owner : ℕ → ℕ → Instant → Attr → Attr
with_owner uid gid now attr = record attr { uid = uid; gid = gid; ctime = now }

abbrev pub with_times : Instant → Instant → Instant → Attr → Attr
with_times atime mtime now attr = record attr { atime = atime; mtime = mtime; ctime = now }

-- Mv: the tree without q's old row, in which every path that has the prefix p gets the prefix q, and the moved row's ctime is now
abbrev pub with_ctime : Row → Instant → Row
with_ctime row now = record row { attr = record row.attr { ctime = now } }

abbrev pub moved_tree : Tree → Instant → Path → Path → Row → Tree
moved_tree t now p q row = insert (renamed (remove t q) p q) q (with_ctime row now)

abbrev pub moved_unless_large : Tree → Instant → Path → Path → Tree → Stepped
moved_unless_large t now p q next = cond (nat_lt MAX_ENTRIES (directory_size next (parent q))) (refused t TooLarge) (done (touched (touched next now (parent p)) now (parent q)))

-- q is found: p is a directory or not, and so is q
abbrev pub moved_onto : Tree → Path → Bool → Bool → Stepped → Stepped
moved_onto t q true true s = cond (has_child t q) (refused t NotEmpty) s
moved_onto t q true false s = refused t NotDirectory
moved_onto t q false true s = refused t IsDirectory
moved_onto t q false false s = s

abbrev pub moved_to : Tree → Instant → Path → Path → Row → LookedUp → Stepped
moved_to t now p q row (Found old) =
    cond (same_path p q) (done t) (moved_onto t q (is_directory row.attr.kind) (is_directory old.attr.kind) (moved_unless_large t now p q (moved_tree t now p q row)))
moved_to t now p q row Free = moved_unless_large t now p q (moved_tree t now p q row)
moved_to t now p q row (Bad e) = refused t e

abbrev pub moved_from : Tree → Instant → Path → Path → LookedUp → Stepped
moved_from t now p q (Found row) = cond (is_above p q) (refused t Invalid) (moved_to t now p q row (look t q))
moved_from t now p q Free = refused t NoEntry
moved_from t now p q (Bad e) = refused t e

-- a command on paths of the tree, the last names first
abbrev pub step : Tree → Instant → Command → Stepped
step t now (command.List p) = listed t (upward p) (look t (upward p))
step t now (command.Stat p) = told t (look t (upward p))
step t now (command.Mkdir p) = made t now (upward p) (new_row Directory DIRECTORY_MODE now []) (look t (upward p))
step t now (command.Rmdir p) = unless_root t (upward p) (removed_directory t now (upward p) (look t (upward p)))
step t now (command.Mkfile p) = made t now (upward p) (new_row File FILE_MODE now []) (look t (upward p))
step t now (command.Rm p) = unless_root t (upward p) (removed_file t now (upward p) (look t (upward p)))
step t now (command.Mv p q) = unless_root t (upward p) (unless_root t (upward q) (moved_from t now (upward p) (upward q) (look t (upward p))))
step t now (command.Symlink target p) = made t now (upward p) (new_row Link LINK_MODE now target) (look t (upward p))
step t now (command.Readlink p) = target_read t (look t (upward p))
step t now (command.Write p from bytes) = written t now (upward p) from bytes (look t (upward p))
step t now (command.Read p from count) = content_read t from count (look t (upward p))
step t now (command.Truncate p n) = truncated t now (upward p) n (look t (upward p))
step t now (command.Chmod p mode) = unless_root t (upward p) (attributes_set t (upward p) (with_mode mode now) (look t (upward p)))
step t now (command.Chown p uid gid) = unless_root t (upward p) (attributes_set t (upward p) (with_owner uid gid now) (look t (upward p)))
step t now (command.Utime p atime mtime) = unless_root t (upward p) (attributes_set t (upward p) (with_times atime mtime now) (look t (upward p)))
step t now command.Sync = done t
