-- What steps keep.
use Rattle.std.specs.Prelude.{◌≡◌, ℕ, Bool, true, false, cond, List, []}
use Rattle.std.proofs.Common.{refl}
use Rattle.fs_model.specs.declared.attr.Attr.{Attr}
use Rattle.fs_model.specs.declared.attr.Kind.{Kind}
use Rattle.fs_model.specs.declared.attr.Kind.TheVariants.{Directory, File, Link}
use Rattle.fs_model.specs.declared.attr.TheConstants.{DIRECTORY_MODE, FILE_MODE, LINK_MODE}
use Rattle.fs_model.specs.declared.error.FsError.{FsError}
use Rattle.fs_model.specs.declared.error.FsError.TheVariants.{NotEmpty, Invalid}
use Rattle.fs_model.specs.declared.command.Command.{Command}
use Rattle.fs_model.specs.declared.command.Command.TheVariants as command
use Rattle.fs_model.specs.declared.reply.Reply.{Reply}
use Rattle.fs_model.specs.declared.reply.Reply.TheVariants.{Error}
use Rattle.fs_model.specs.Instant.{Instant}
use Rattle.fs_model.specs.Tree.{Path, Tree, Row, same_path, is_root, is_directory, upward}
use Rattle.fs_model.specs.LookUp.{LookedUp, Found, Free, Bad, look}
use Rattle.fs_model.specs.Move.{is_above}
use Rattle.fs_model.specs.Step.{Stepped, answered, refused, done, by_kind, on_file, unless_root, made, removed_directory, removed_file, written, truncated, attributes_set, moved_tree, moved_unless_large, moved_onto, moved_to, moved_from, has_child, new_row, with_mode, with_owner, with_times, step}
use Rattle.fs_model.specs.Laws.{OnlyLooks}
use Rattle.fs_model.proofs.WellFormedStep.{listed_stays, told_stays, target_stays, content_stays}

-- an error leaves the tree t
pub record StaysOnError (t : Tree) (s : Stepped) : Type 0 where
  pub stays : (e : FsError) → s.reply ≡ Error e → s.tree ≡ t

module _ (t : Tree) where
  the_same : (r : Reply) → StaysOnError t (answered t r)
  the_same r = record { stays = λ e h. refl }

  no_error : (u : Tree) → StaysOnError t (done u)
  no_error u = record { stays = λ e h. cc }

  either : (b : Bool) (x y : Stepped) → StaysOnError t x → StaysOnError t y → StaysOnError t (cond b x y)
  either true x y f g = f
  either false x y f g = g

  kinds : (k : Kind) (d f l : Stepped) → StaysOnError t d → StaysOnError t f → StaysOnError t l → StaysOnError t (by_kind k d f l)
  kinds Directory d f l a b c = a
  kinds File d f l a b c = b
  kinds Link d f l a b c = c

  file : (k : Kind) (s : Stepped) → StaysOnError t s → StaysOnError t (on_file t k s)
  file k s h = kinds k _ _ _ (the_same _) h (the_same _)

  not_root : (p : Path) (s : Stepped) → StaysOnError t s → StaysOnError t (unless_root t p s)
  not_root p s h = either (is_root p) _ s (the_same _) h

  made_error : (now : Instant) (p : Path) (row : Row) (s : LookedUp) → StaysOnError t (made t now p row s)
  made_error now p row (Found old) = the_same _
  made_error now p row Free = search (either, the_same, no_error)
  made_error now p row (Bad e) = the_same _

  removed_directory_error : (now : Instant) (p : Path) (s : LookedUp) → StaysOnError t (removed_directory t now p s)
  removed_directory_error now p (Found row) = search (either, the_same, no_error)
  removed_directory_error now p Free = the_same _
  removed_directory_error now p (Bad e) = the_same _

  removed_file_error : (now : Instant) (p : Path) (s : LookedUp) → StaysOnError t (removed_file t now p s)
  removed_file_error now p (Found row) = search (either, the_same, no_error)
  removed_file_error now p Free = the_same _
  removed_file_error now p (Bad e) = the_same _

  written_error : (now : Instant) (p : Path) (from : ℕ) (bytes : List ℕ) (s : LookedUp) → StaysOnError t (written t now p from bytes s)
  written_error now p from bytes (Found row) = search (either, the_same, no_error, kinds)
  written_error now p from bytes Free = the_same _
  written_error now p from bytes (Bad e) = the_same _

  truncated_error : (now : Instant) (p : Path) (n : ℕ) (s : LookedUp) → StaysOnError t (truncated t now p n s)
  truncated_error now p n (Found row) = search (either, the_same, no_error, kinds)
  truncated_error now p n Free = the_same _
  truncated_error now p n (Bad e) = the_same _

  attributes_error : (p : Path) (change : Attr → Attr) (s : LookedUp) → StaysOnError t (attributes_set t p change s)
  attributes_error p change (Found row) = no_error _
  attributes_error p change Free = the_same _
  attributes_error p change (Bad e) = the_same _

  not_root_set : (p : Path) (change : Attr → Attr) → StaysOnError t (unless_root t p (attributes_set t p change (look t p)))
  not_root_set p change = not_root p (attributes_set t p change (look t p)) (attributes_error p change (look t p))

  onto_error : (q : Path) (a b : Bool) (s : Stepped) → StaysOnError t s → StaysOnError t (moved_onto t q a b s)
  onto_error q true true s h = either (has_child t q) _ s (the_same (Error NotEmpty)) h
  onto_error q true false s h = the_same _
  onto_error q false true s h = the_same _
  onto_error q false false s h = h

  large_error : (now : Instant) (p q : Path) (next : Tree) → StaysOnError t (moved_unless_large t now p q next)
  large_error now p q next = search (either, the_same, no_error)

  moved_to_error : (now : Instant) (p q : Path) (row : Row) (s : LookedUp) → StaysOnError t (moved_to t now p q row s)
  moved_to_error now p q row (Found old) =
      let onto = onto_error q (is_directory row.attr.kind) (is_directory old.attr.kind) (moved_unless_large t now p q (moved_tree t now p q row)) (large_error now p q (moved_tree t now p q row)) in
      either (same_path p q) (done t) (moved_onto t q (is_directory row.attr.kind) (is_directory old.attr.kind) (moved_unless_large t now p q (moved_tree t now p q row))) (no_error t) onto
  moved_to_error now p q row Free = large_error now p q (moved_tree t now p q row)
  moved_to_error now p q row (Bad e) = the_same _

  moved_from_error : (now : Instant) (p q : Path) (s : LookedUp) → StaysOnError t (moved_from t now p q s)
  moved_from_error now p q (Found row) =
      either (is_above p q) (refused t Invalid) (moved_to t now p q row (look t q)) (the_same (Error Invalid)) (moved_to_error now p q row (look t q))
  moved_from_error now p q Free = the_same _
  moved_from_error now p q (Bad e) = the_same _

  looked : (s : Stepped) → s.tree ≡ t → StaysOnError t s
  looked s h = record { stays = λ e _. h }

  pub error_stays : (now : Instant) (c : Command) → StaysOnError t (step t now c)
  error_stays now (command.List p) = looked _ (listed_stays t (upward p) (look t (upward p)))
  error_stays now (command.Stat p) = looked _ (told_stays t (look t (upward p)))
  error_stays now (command.Mkdir p) = made_error now (upward p) (new_row Directory DIRECTORY_MODE now []) (look t (upward p))
  error_stays now (command.Rmdir p) = not_root (upward p) (removed_directory t now (upward p) (look t (upward p))) (removed_directory_error now (upward p) (look t (upward p)))
  error_stays now (command.Mkfile p) = made_error now (upward p) (new_row File FILE_MODE now []) (look t (upward p))
  error_stays now (command.Rm p) = not_root (upward p) (removed_file t now (upward p) (look t (upward p))) (removed_file_error now (upward p) (look t (upward p)))
  error_stays now (command.Mv p q) =
      let moves = moved_from t now (upward p) (upward q) (look t (upward p)) in
      not_root (upward p) (unless_root t (upward q) moves) (not_root (upward q) moves (moved_from_error now (upward p) (upward q) (look t (upward p))))
  error_stays now (command.Symlink target p) = made_error now (upward p) (new_row Link LINK_MODE now target) (look t (upward p))
  error_stays now (command.Readlink p) = looked _ (target_stays t (look t (upward p)))
  error_stays now (command.Write p from bytes) = written_error now (upward p) from bytes (look t (upward p))
  error_stays now (command.Read p from count) = looked _ (content_stays t from count (look t (upward p)))
  error_stays now (command.Truncate p n) = truncated_error now (upward p) n (look t (upward p))
  error_stays now (command.Chmod p mode) = not_root_set (upward p) (with_mode mode now)
  error_stays now (command.Chown p uid gid) = not_root_set (upward p) (with_owner uid gid now)
  error_stays now (command.Utime p atime mtime) = not_root_set (upward p) (with_times atime mtime now)
  error_stays now command.Sync = no_error t

  pub looking_stays : (now : Instant) (c : Command) → OnlyLooks c → (step t now c).tree ≡ t
  looking_stays now (command.List p) h = listed_stays t (upward p) (look t (upward p))
  looking_stays now (command.Stat p) h = told_stays t (look t (upward p))
  looking_stays now (command.Readlink p) h = target_stays t (look t (upward p))
  looking_stays now (command.Read p from count) h = content_stays t from count (look t (upward p))
  looking_stays now command.Sync h = refl
  looking_stays now (command.Mkdir p) h = absurd h
  looking_stays now (command.Rmdir p) h = absurd h
  looking_stays now (command.Mkfile p) h = absurd h
  looking_stays now (command.Rm p) h = absurd h
  looking_stays now (command.Mv p q) h = absurd h
  looking_stays now (command.Symlink target p) h = absurd h
  looking_stays now (command.Write p from bytes) h = absurd h
  looking_stays now (command.Truncate p n) h = absurd h
  looking_stays now (command.Chmod p mode) h = absurd h
  looking_stays now (command.Chown p uid gid) h = absurd h
  looking_stays now (command.Utime p atime mtime) h = absurd h
