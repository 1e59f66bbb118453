-- The step of a move, exit by exit.
use Rattle.std.proofs.Common.{◌≡◌, ℕ, ◌<◌, ◌≤◌, Bool, true, false, cond, List, ◌∷◌, refl, sym, ◌∙◌, ap, arith, IfOk}
use Rattle.std.proofs.lemmas.Bool.{le-ltb, lt-ltb, ltb-false}
use Rattle.std.specs.FinMap.{get, len}
use Rattle.std.specs.declared.option.Option.TheVariants.{None, Some}
use Rattle.std.specs.declared.result.Result.{Result}
use Rattle.std.specs.declared.result.Result.TheVariants.{Ok, Err}
use Rattle.block_id.specs.declared.fail.Memory.{Memory}
use Rattle.fs_model.specs.declared.limits.TheConstants.{MAX_ENTRIES}
use Rattle.fs_model.specs.declared.error.FsError.{FsError}
use Rattle.fs_model.specs.declared.error.FsError.TheVariants.{TooLarge, Busy, Invalid, NotEmpty, NotDirectory, IsDirectory}
use Rattle.fs_model.specs.declared.reply.Reply.{Reply}
use Rattle.fs_model.specs.declared.reply.Reply.TheVariants.{Done, Error}
use Rattle.fs_model.specs.declared.attr.Attr.{Attr}
use Rattle.fs_model.specs.Instant.{Instant}
use Rattle.fs_model.specs.Tree.{Path, Row, Tree, parent, is_root, is_directory, same_path, children, directory_size}
use Rattle.fs_model.specs.LookUp.{LookedUp, Found, Bad, look}
use Rattle.fs_model.specs.Move.{is_above}
use Rattle.fs_model.specs.Step.{Stepped, refused, done, unless_root, has_child, moved_tree, touched, moved_unless_large, moved_onto, moved_to, moved_from}
use Rattle.fs_model.proofs.SizeLemmas.{no_children}
use Rattle.plain_tree.specs.Sights.{refusal_of}
use Rattle.plain_tree.specs.Answers.{IsAnswer}
use Rattle.plain_tree.proofs.StepLemmas.{stays, goes_on_to}
use Rattle.plain_tree.proofs.Refusals.{move_none}

pub answer_map : (r : Result Reply Memory) (P Q : Reply → Type 0) → ((x : Reply) → P x → Q x) → IfOk r P → IfOk r Q
answer_map (Ok x) P Q f h = f x h
answer_map (Err e) P Q f h = tt

module _ (t : Tree) (p q : Path) (now : Instant) where
  abbrev large : Row → Stepped
  large row = moved_unless_large t now p q (moved_tree t now p q row)

  -- with both directories touched
  abbrev pub both : Tree → Tree
  both next = touched (touched next now (parent p)) now (parent q)

  pub large_done : (new : Tree) (row : Row) → new ≡ both (moved_tree t now p q row) → directory_size (moved_tree t now p q row) (parent q) ≤ MAX_ENTRIES → IsAnswer new Done (large row)
  large_done new row is fits = goes_on_to new (both (moved_tree t now p q row)) (large row) is
      (ap (λ b. cond b (refused t TooLarge) (done (both (moved_tree t now p q row)))) (le-ltb MAX_ENTRIES (directory_size (moved_tree t now p q row) (parent q)) fits))

  pub large_refused : (row : Row) → MAX_ENTRIES < directory_size (moved_tree t now p q row) (parent q) → IsAnswer t (Error TooLarge) (large row)
  large_refused row passes = stays t (Error TooLarge) (large row)
      (ap (λ b. cond b (refused t TooLarge) (done (both (moved_tree t now p q row)))) (lt-ltb MAX_ENTRIES (directory_size (moved_tree t now p q row) (parent q)) passes))

  pub onto_same : (row old : Row) → look t q ≡ Found old → same_path p q ≡ true → IsAnswer t Done (moved_to t now p q row (look t q))
  onto_same row old to same = stays t Done (moved_to t now p q row (look t q))
      (ap (moved_to t now p q row) to
      ∙ ap (λ b. cond b (done t) (moved_onto t q (is_directory row.attr.kind) (is_directory old.attr.kind) (large row))) same)

  pub onto_step : (row old : Row) → look t q ≡ Found old → same_path p q ≡ false → (a b : Bool) → is_directory row.attr.kind ≡ a → is_directory old.attr.kind ≡ b
      → moved_to t now p q row (look t q) ≡ moved_onto t q a b (large row)
  onto_step row old to same a b ha hb =
      ap (moved_to t now p q row) to
      ∙ (ap (λ c. cond c (done t) (moved_onto t q (is_directory row.attr.kind) (is_directory old.attr.kind) (large row))) same
      ∙ (ap (λ c. moved_onto t q c (is_directory old.attr.kind) (large row)) ha ∙ ap (λ c. moved_onto t q a c (large row)) hb))

  pub onto_directory : (row old : Row) → look t q ≡ Found old → same_path p q ≡ false → is_directory row.attr.kind ≡ true → is_directory old.attr.kind ≡ true → has_child t q ≡ false
      → moved_to t now p q row (look t q) ≡ large row
  onto_directory row old to same ha hb none = onto_step row old to same true true ha hb ∙ ap (λ b. cond b (refused t NotEmpty) (large row)) none

  pub onto_full : (row old : Row) → look t q ≡ Found old → same_path p q ≡ false → is_directory row.attr.kind ≡ true → is_directory old.attr.kind ≡ true → has_child t q ≡ true
      → IsAnswer t (Error NotEmpty) (moved_to t now p q row (look t q))
  onto_full row old to same ha hb more = stays t (Error NotEmpty) (moved_to t now p q row (look t q)) (onto_step row old to same true true ha hb ∙ ap (λ b. cond b (refused t NotEmpty) (large row)) more)

  pub onto_other : (row old : Row) → look t q ≡ Found old → same_path p q ≡ false → is_directory row.attr.kind ≡ true → is_directory old.attr.kind ≡ false → IsAnswer t (Error NotDirectory) (moved_to t now p q row (look t q))
  onto_other row old to same ha hb = stays t (Error NotDirectory) (moved_to t now p q row (look t q)) (onto_step row old to same true false ha hb)

  pub other_onto : (row old : Row) → look t q ≡ Found old → same_path p q ≡ false → is_directory row.attr.kind ≡ false → is_directory old.attr.kind ≡ true → IsAnswer t (Error IsDirectory) (moved_to t now p q row (look t q))
  other_onto row old to same ha hb = stays t (Error IsDirectory) (moved_to t now p q row (look t q)) (onto_step row old to same false true ha hb)

  abbrev pub whole : Stepped
  whole = unless_root t p (unless_root t q (moved_from t now p q (look t p)))

  pub whole_from : (s : LookedUp) → is_root p ≡ false → is_root q ≡ false → look t p ≡ s → whole ≡ moved_from t now p q s
  whole_from s named_p named_q here =
      ap (λ b. cond b (refused t Busy) (unless_root t q (moved_from t now p q (look t p)))) named_p
      ∙ (ap (λ b. cond b (refused t Busy) (moved_from t now p q (look t p))) named_q
      ∙ ap (moved_from t now p q) here)

  pub whole_step : (row : Row) → is_root p ≡ false → is_root q ≡ false → look t p ≡ Found row → is_above p q ≡ false → whole ≡ moved_to t now p q row (look t q)
  whole_step row named_p named_q here above = whole_from (Found row) named_p named_q here ∙ ap (λ b. cond b (refused t Invalid) (moved_to t now p q row (look t q))) above

  pub whole_invalid : (row : Row) → is_root p ≡ false → is_root q ≡ false → look t p ≡ Found row → is_above p q ≡ true → IsAnswer t (Error Invalid) whole
  whole_invalid row named_p named_q here above = stays t (Error Invalid) whole
      (whole_from (Found row) named_p named_q here ∙ ap (λ b. cond b (refused t Invalid) (moved_to t now p q row (look t q))) above)

  pub whole_bad : (row : Row) (e : FsError) → is_root p ≡ false → is_root q ≡ false → look t p ≡ Found row → is_above p q ≡ false → look t q ≡ Bad e → IsAnswer t (Error e) whole
  whole_bad row e named_p named_q here above bad = stays t (Error e) whole (whole_step row named_p named_q here above ∙ ap (moved_to t now p q row) bad)

  pub busy_from : is_root p ≡ true → IsAnswer t (Error Busy) whole
  busy_from root = stays t (Error Busy) whole (ap (λ b. cond b (refused t Busy) (unless_root t q (moved_from t now p q (look t p)))) root)

  pub busy_to : is_root p ≡ false → is_root q ≡ true → IsAnswer t (Error Busy) whole
  busy_to named root = stays t (Error Busy) whole
      (ap (λ b. cond b (refused t Busy) (unless_root t q (moved_from t now p q (look t p)))) named ∙ ap (λ b. cond b (refused t Busy) (moved_from t now p q (look t p))) root)

pub childless : (t : Tree) (q : Path) → has_child t q ≡ false → (m : List ℕ) → get t (m ∷ q) ≡ None
childless t q bare = no_children t q (let zero = ltb-false 0 (len (children t q)) bare in omega arith)

-- of one row
pub kind_of : (t : Tree) (p : Path) (row first : Row) (a : Attr) (b : Bool) → look t p ≡ Found row → look t p ≡ Found first → first.attr ≡ a → is_directory a.kind ≡ b → is_directory row.attr.kind ≡ b
kind_of t p row first a b here there of is =
    let both : Found first ≡ Found row = sym there ∙ here in
    let same : first ≡ row = cc in
    ap (λ (r : Row). is_directory r.attr.kind) (sym same) ∙ (ap (λ (z : Attr). is_directory z.kind) of ∙ is)

pub whole_refused : (t : Tree) (p q : Path) (now : Instant) (e : FsError) → is_root p ≡ false → is_root q ≡ false → refusal_of (look t p) ≡ Some e → IsAnswer t (Error e) (whole t p q now)
whole_refused t p q now e np nq h = stays t (Error e) (whole t p q now) (whole_from t p q now (look t p) np nq refl ∙ move_none t now p q (look t p) e h)
