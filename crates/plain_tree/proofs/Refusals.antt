-- Steps that are refused.
use Rattle.std.proofs.Common.{◌≡◌, ℕ, true, false, cond, List, ◌∙◌, ap}
use Rattle.std.specs.declared.option.Option.TheVariants.{None, Some}
use Rattle.fs_model.specs.declared.attr.Attr.{Attr}
use Rattle.fs_model.specs.declared.attr.Kind.{Kind}
use Rattle.fs_model.specs.declared.attr.Kind.TheVariants.{Directory, File, Link}
use Rattle.fs_model.specs.declared.error.FsError.{FsError}
use Rattle.fs_model.specs.declared.error.FsError.TheVariants.{Busy, IsDirectory, Invalid}
use Rattle.fs_model.specs.declared.reply.Reply.TheVariants.{Error}
use Rattle.fs_model.specs.Instant.{Instant}
use Rattle.fs_model.specs.Tree.{Path, Tree, is_root}
use Rattle.fs_model.specs.LookUp.{LookedUp, Found, Free, Bad, look}
use Rattle.fs_model.specs.Step.{Stepped, refused, unless_root, by_kind, on_file, removed_directory, removed_file, attributes_set, written, truncated, moved_from}
use Rattle.plain_tree.specs.Sights.{refusal_of, file_refusal}
use Rattle.plain_tree.specs.Answers.{IsAnswer}
use Rattle.plain_tree.proofs.StepLemmas.{stays, named_step}

error_is : {a b : FsError} → Some a ≡ Some b → a ≡ b
error_is h = cc

-- the root is refused
pub root_step : (t : Tree) (p : Path) (s : Stepped) → is_root p ≡ true → IsAnswer t (Error Busy) (unless_root t p s)
root_step t p s root = stays t (Error Busy) (unless_root t p s) (ap (λ b. cond b (refused t Busy) s) root)

pub file_refused : (s : LookedUp) (e : FsError) → refusal_of s ≡ Some e → file_refusal s ≡ Some e
file_refused (Found row) e h = cc
file_refused Free e h = h
file_refused (Bad x) e h = h

directory_none : (t : Tree) (now : Instant) (p : Path) (s : LookedUp) (e : FsError) → refusal_of s ≡ Some e → removed_directory t now p s ≡ refused t e
directory_none t now p (Found row) e h = cc
directory_none t now p Free e h = ap (refused t) (error_is h)
directory_none t now p (Bad x) e h = ap (refused t) (error_is h)

pub directory_refused : (t : Tree) (now : Instant) (p : Path) (e : FsError) → is_root p ≡ false → refusal_of (look t p) ≡ Some e → IsAnswer t (Error e) (unless_root t p (removed_directory t now p (look t p)))
directory_refused t now p e named h = stays t (Error e) (unless_root t p (removed_directory t now p (look t p))) (named_step t p (removed_directory t now p (look t p)) named ∙ directory_none t now p (look t p) e h)

file_none : (t : Tree) (now : Instant) (p : Path) (s : LookedUp) (e : FsError) → refusal_of s ≡ Some e → removed_file t now p s ≡ refused t e
file_none t now p (Found row) e h = cc
file_none t now p Free e h = ap (refused t) (error_is h)
file_none t now p (Bad x) e h = ap (refused t) (error_is h)

pub removal_refused : (t : Tree) (now : Instant) (p : Path) (e : FsError) → is_root p ≡ false → refusal_of (look t p) ≡ Some e → IsAnswer t (Error e) (unless_root t p (removed_file t now p (look t p)))
removal_refused t now p e named h = stays t (Error e) (unless_root t p (removed_file t now p (look t p))) (named_step t p (removed_file t now p (look t p)) named ∙ file_none t now p (look t p) e h)

attributes_none : (t : Tree) (p : Path) (change : Attr → Attr) (s : LookedUp) (e : FsError) → refusal_of s ≡ Some e → attributes_set t p change s ≡ refused t e
attributes_none t p change (Found row) e h = cc
attributes_none t p change Free e h = ap (refused t) (error_is h)
attributes_none t p change (Bad x) e h = ap (refused t) (error_is h)

pub attributes_refused : (t : Tree) (p : Path) (change : Attr → Attr) (e : FsError) → is_root p ≡ false → refusal_of (look t p) ≡ Some e → IsAnswer t (Error e) (unless_root t p (attributes_set t p change (look t p)))
attributes_refused t p change e named h = stays t (Error e) (unless_root t p (attributes_set t p change (look t p))) (named_step t p (attributes_set t p change (look t p)) named ∙ attributes_none t p change (look t p) e h)

kind_none : (t : Tree) (k : Kind) (s : Stepped) (e : FsError) → by_kind k (Some IsDirectory) None (Some Invalid) ≡ Some e → on_file t k s ≡ refused t e
kind_none t Directory s e h = ap (refused t) (error_is h)
kind_none t File s e h = cc
kind_none t Link s e h = ap (refused t) (error_is h)

written_none : (t : Tree) (now : Instant) (p : Path) (from : ℕ) (bytes : List ℕ) (s : LookedUp) (e : FsError) → file_refusal s ≡ Some e → written t now p from bytes s ≡ refused t e
written_none t now p from bytes (Found row) e h = kind_none t row.attr.kind _ e h
written_none t now p from bytes Free e h = ap (refused t) (error_is h)
written_none t now p from bytes (Bad x) e h = ap (refused t) (error_is h)

pub write_refused : (t : Tree) (now : Instant) (p : Path) (from : ℕ) (bytes : List ℕ) (e : FsError) → file_refusal (look t p) ≡ Some e → IsAnswer t (Error e) (written t now p from bytes (look t p))
write_refused t now p from bytes e h = stays t (Error e) (written t now p from bytes (look t p)) (written_none t now p from bytes (look t p) e h)

truncated_none : (t : Tree) (now : Instant) (p : Path) (n : ℕ) (s : LookedUp) (e : FsError) → file_refusal s ≡ Some e → truncated t now p n s ≡ refused t e
truncated_none t now p n (Found row) e h = kind_none t row.attr.kind _ e h
truncated_none t now p n Free e h = ap (refused t) (error_is h)
truncated_none t now p n (Bad x) e h = ap (refused t) (error_is h)

pub truncate_refused : (t : Tree) (now : Instant) (p : Path) (n : ℕ) (e : FsError) → file_refusal (look t p) ≡ Some e → IsAnswer t (Error e) (truncated t now p n (look t p))
truncate_refused t now p n e h = stays t (Error e) (truncated t now p n (look t p)) (truncated_none t now p n (look t p) e h)

pub move_none : (t : Tree) (now : Instant) (p q : Path) (s : LookedUp) (e : FsError) → refusal_of s ≡ Some e → moved_from t now p q s ≡ refused t e
move_none t now p q (Found row) e h = cc
move_none t now p q Free e h = ap (refused t) (error_is h)
move_none t now p q (Bad x) e h = ap (refused t) (error_is h)
