-- The model's steps where a row was found, by its kind.
use Rattle.std.proofs.Common.{◌≡◌, ℕ, ◌+◌, Bool, false, cond, List, length, take, drop, map, ◌∙◌, ap}
use Rattle.std.specs.Prelude.{nat_lt, ◌==◌, max}
use Rattle.std.specs.FinMap.{entries, insert}
use Rattle.fs_model.specs.declared.attr.Kind.{Kind}
use Rattle.fs_model.specs.declared.error.FsError.TheVariants.{NotDirectory, NotLink, TooLarge}
use Rattle.fs_model.specs.declared.limits.TheConstants.{MAX_READ}
use Rattle.fs_model.specs.declared.reply.Reply.TheVariants.{Rows, Info, Target, Content}
use Rattle.fs_model.specs.Instant.{Instant}
use Rattle.fs_model.specs.Tree.{Path, Row, Tree, is_directory, children}
use Rattle.fs_model.specs.LookUp.{Found, look}
use Rattle.block_id.specs.Contents.{overwritten, resized}
use Rattle.fs_model.specs.Step.{Stepped, answered, refused, done, by_kind, on_file, listed, list_row, told, target_read, content_read, written, truncated, is_too_long, with_content}

module _ (t : Tree) (p : Path) (row : Row) (found : look t p ≡ Found row) where
  pub list_refused : is_directory row.attr.kind ≡ false → listed t p (look t p) ≡ refused t NotDirectory
  list_refused e = ap (listed t p) found ∙ ap (λ b. cond b (answered t (Rows (map list_row (entries (children t p))))) (refused t NotDirectory)) e

  pub told_by : told t (look t p) ≡ answered t (Info row.attr (length row.bytes))
  told_by = ap (told t) found

  pub target_by : (k : Kind) → row.attr.kind ≡ k → target_read t (look t p) ≡ by_kind k (refused t NotLink) (refused t NotLink) (answered t (Target row.bytes))
  target_by k e = ap (target_read t) found ∙ ap (λ z. by_kind z (refused t NotLink) (refused t NotLink) (answered t (Target row.bytes))) e

  pub content_by : (from count : ℕ) (k : Kind) → row.attr.kind ≡ k
      → content_read t from count (look t p) ≡ on_file t k (cond (nat_lt MAX_READ count) (refused t TooLarge) (answered t (Content (take count (drop from row.bytes)))))
  content_by from count k e = ap (content_read t from count) found ∙ ap (λ z. on_file t z (cond (nat_lt MAX_READ count) (refused t TooLarge) (answered t (Content (take count (drop from row.bytes)))))) e

module _ (t : Tree) (p : Path) (row : Row) where
  -- what a write of a file comes to
  pub write_by : (now : Instant) (from : ℕ) (bytes : List ℕ) (k : Kind) → row.attr.kind ≡ k
      → written t now p from bytes (Found row) ≡ on_file t k (cond (length bytes == 0) (done t) (cond (is_too_long (length row.bytes) (max (length row.bytes) (from + length bytes))) (refused t TooLarge) (done (insert t p (with_content row now (overwritten row.bytes from bytes))))))
  write_by now from bytes k e = ap (λ z. on_file t z (cond (length bytes == 0) (done t) (cond (is_too_long (length row.bytes) (max (length row.bytes) (from + length bytes))) (refused t TooLarge) (done (insert t p (with_content row now (overwritten row.bytes from bytes))))))) e

  pub write_empty : (now : Instant) (from : ℕ) (bytes : List ℕ) (k : Bool) → (length bytes == 0) ≡ k
      → cond (length bytes == 0) (done t) (cond (is_too_long (length row.bytes) (max (length row.bytes) (from + length bytes))) (refused t TooLarge) (done (insert t p (with_content row now (overwritten row.bytes from bytes)))))
      ≡ cond k (done t) (cond (is_too_long (length row.bytes) (max (length row.bytes) (from + length bytes))) (refused t TooLarge) (done (insert t p (with_content row now (overwritten row.bytes from bytes)))))
  write_empty now from bytes k e = ap (λ b. cond b (done t) (cond (is_too_long (length row.bytes) (max (length row.bytes) (from + length bytes))) (refused t TooLarge) (done (insert t p (with_content row now (overwritten row.bytes from bytes)))))) e

  pub unless_long : (old new : ℕ) (next : Stepped) (k : Bool) → is_too_long old new ≡ k → cond (is_too_long old new) (refused t TooLarge) next ≡ cond k (refused t TooLarge) next
  unless_long old new next k e = ap (λ b. cond b (refused t TooLarge) next) e

  pub cut_by : (now : Instant) (n : ℕ) (k : Kind) → row.attr.kind ≡ k
      → truncated t now p n (Found row) ≡ on_file t k (cond (is_too_long (length row.bytes) n) (refused t TooLarge) (done (insert t p (with_content row now (resized row.bytes n)))))
  cut_by now n k e = ap (λ z. on_file t z (cond (is_too_long (length row.bytes) n) (refused t TooLarge) (done (insert t p (with_content row now (resized row.bytes n)))))) e
