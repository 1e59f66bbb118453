-- Each command keeps a tree well formed.
use Rattle.std.specs.Prelude.{◌≡◌, ℕ, ◌+◌, ◌≤◌, ◌==◌, max, Bool, true, false, cond, List, [], ◌∷◌, ◌++◌, length, is_some, nat_lt, reverse}
use Rattle.std.specs.List.{All}
use Rattle.std.proofs.Common.{refl, sym, ◌∙◌, ap, subst, arith, lit≤}
use Rattle.std.proofs.lemmas.List.{reverse-append, reverse-reverse}
use Rattle.std.proofs.lemmas.List.Elements.{All-head, All-tail, All-same}
use Rattle.std.proofs.lemmas.Bool.{cond_both, ltb-false, leb-true}
use Rattle.std.specs.FinMap.{get, insert, remove, len, empty, get-empty}
use Rattle.std.specs.declared.option.Option.TheVariants.{None, Some}
use Rattle.block_id.specs.Contents.{resized, overwritten}
use Rattle.block_id.proofs.Contents.{length-resized, length-overwritten}
use Rattle.fs_model.specs.declared.attr.Attr.{Attr}
use Rattle.fs_model.specs.declared.attr.Kind.{Kind}
use Rattle.fs_model.specs.declared.attr.Kind.TheVariants.{Directory, File, Link}
use Rattle.fs_model.specs.declared.attr.TheConstants.{DIRECTORY_MODE, FILE_MODE, LINK_MODE}
use Rattle.fs_model.specs.declared.limits.TheConstants.{MAX_FILE, MAX_MODE, MAX_READ}
use Rattle.fs_model.specs.declared.error.FsError.TheVariants.{NotEmpty, NotDirectory, TooLarge}
use Rattle.fs_model.specs.declared.command.Command.{Command}
use Rattle.fs_model.specs.declared.command.Command.TheVariants as command
use Rattle.fs_model.specs.Instant.{Instant}
use Rattle.fs_model.specs.Names.{IsName}
use Rattle.fs_model.specs.Fitting.{IsFitting, HoldsNames}
use Rattle.fs_model.specs.Tree.{Path, Tree, Row, upward, same_path, is_directory, is_folder, children, directory_size, FitsKind, IsRooted, IsWithinLimits, IsWellFormed, empty_tree, root_row, path_cmp}
use Rattle.fs_model.specs.LookUp.{LookedUp, Found, Free, Bad, look}
use Rattle.fs_model.specs.Move.{CanMove, is_above}
use Rattle.fs_model.specs.Step.{Stepped, refused, done, touched, by_kind, on_file, unless_root, listed, told, made, new_row, removed_directory, removed_file, has_child, target_read, content_read, is_too_long, with_content, written, truncated, attributes_set, with_mode, with_owner, with_times, moved_tree, moved_unless_large, moved_onto, moved_to, moved_from, step}
use Rattle.fs_model.proofs.TreeLemmas.{path_same, get-children, insert_here, insert_apart}
use Rattle.fs_model.proofs.Lengths.{short_enough}
use Rattle.fs_model.proofs.LookUpLemmas.{get-found, get-free, IsFree}
use Rattle.fs_model.proofs.SizeLemmas.{map_size, no_children, no_names, size-empty}
use Rattle.fs_model.proofs.MovedTree.{moved_well_formed}
use Rattle.fs_model.proofs.PutRows.{rows_insert, insert_free, insert_found, remove_bare, below_file, below_none, bare_below, root_found}
use Rattle.fs_model.proofs.Touches.{touched_well}

abbrev pub Keeps : Stepped → Type 0
Keeps s = IsWellFormed s.tree

either : (b : Bool) (x y : Stepped) → (b ≡ true → Keeps x) → (b ≡ false → Keeps y) → Keeps (cond b x y)
either b x y f g = cond_both b x y Keeps f g

-- the last of names is one
last_named : (ns : List (List ℕ)) → All IsName ns → (n : List ℕ) (q : Path) → upward ns ≡ n ∷ q → IsName n
last_named ns named n q e = at_end (reverse q) (All-same IsName (reverse q ++ n ∷ []) ns (sym (sym (reverse-reverse ns) ∙ (ap reverse e ∙ reverse-append (n ∷ []) q))) named)
  where
    at_end : (front : List (List ℕ)) → All IsName (front ++ n ∷ []) → IsName n
    at_end [] h = All-head IsName n [] h
    at_end (m ∷ front) h = at_end front (All-tail IsName m (front ++ n ∷ []) h)

made_keeps : (t : Tree) (now : Instant) (p : Path) (row : Row) (s : LookedUp) → IsWellFormed t → ((n : List ℕ) (q : Path) → p ≡ n ∷ q → IsName n) → IsWithinLimits row → look t p ≡ s → Keeps (made t now p row s)
made_keeps t now p row (Found old) wf named limits h = wf
made_keeps t now p row (Bad e) wf named limits h = wf
made_keeps t now p row Free wf named limits h = free_keeps (get-free t wf.rooted p h)
  where
    free_keeps : (n : List ℕ) × ((q : Path) × IsFree t p n q) → Keeps (made t now p row Free)
    free_keeps f =
        let free = f.1.1 in
        subst (λ z. Keeps (made t now z row Free)) (sym free.path)
        (either _ _ _ (λ _. wf) (λ small. touched_well (insert t (f.0 ∷ f.1.0) row) now f.1.0 (insert_free t f.0 f.1.0 row wf (named f.0 f.1.0 free.path) free.folder (ap (get t) (sym free.path) ∙ free.absent) limits (ltb-false _ _ small))))

-- on a file alone
file_keeps : (t : Tree) (kind : Kind) (s : Stepped) → IsWellFormed t → (is_directory kind ≡ false → kind ≡ File → Keeps s) → Keeps (on_file t kind s)
file_keeps t Directory s wf f = wf
file_keeps t Link s wf f = wf
file_keeps t File s wf f = f refl refl

content_set : (t : Tree) (now : Instant) (p : Path) (row : Row) (bytes : List ℕ) → IsWellFormed t → get t p ≡ Some row → is_directory row.attr.kind ≡ false → row.attr.kind ≡ File → length bytes ≤ MAX_FILE
    → IsWellFormed (insert t p (with_content row now bytes))
content_set t now [] row bytes wf there file is short = let bad : false ≡ true = sym file ∙ root_found t row wf there in cc
content_set t now (n ∷ p) row bytes wf there file is short =
    insert_found t n p (with_content row now bytes) row wf there refl (record {
      content = subst (λ k. FitsKind k bytes) (sym is) short;
      mode = (wf.rows (n ∷ p) row there).mode;
    })

-- another content of n bytes, where that is let through
unless_long_keeps : (t : Tree) (now : Instant) (p : Path) (row : Row) (bytes : List ℕ) (n : ℕ) → IsWellFormed t → get t p ≡ Some row → is_directory row.attr.kind ≡ false → row.attr.kind ≡ File → length bytes ≡ n
    → Keeps (cond (is_too_long (length row.bytes) n) (refused t TooLarge) (done (insert t p (with_content row now bytes))))
unless_long_keeps t now p row bytes n wf there file is size =
    either (is_too_long (length row.bytes) n) (refused t TooLarge) (done (insert t p (with_content row now bytes))) (λ _. wf)
    (λ short. content_set t now p row bytes wf there file is (let bound = short_enough (length row.bytes) n short in omega arith))

written_keeps : (t : Tree) (now : Instant) (p : Path) (from : ℕ) (bytes : List ℕ) (s : LookedUp) → IsWellFormed t → look t p ≡ s → Keeps (written t now p from bytes s)
written_keeps t now p from bytes (Found row) wf h = file_keeps t row.attr.kind _ wf (λ file is. either (length bytes == 0) (done t) _ (λ _. wf) (λ _.
    unless_long_keeps t now p row (overwritten row.bytes from bytes) (max (length row.bytes) (from + length bytes)) wf (get-found t p row h) file is (length-overwritten row.bytes from bytes)))
written_keeps t now p from bytes Free wf h = wf
written_keeps t now p from bytes (Bad e) wf h = wf

truncated_keeps : (t : Tree) (now : Instant) (p : Path) (n : ℕ) (s : LookedUp) → IsWellFormed t → look t p ≡ s → Keeps (truncated t now p n s)
truncated_keeps t now p n (Found row) wf h = file_keeps t row.attr.kind _ wf (λ file is.
    unless_long_keeps t now p row (resized row.bytes n) n wf (get-found t p row h) file is (length-resized row.bytes n))
truncated_keeps t now p n Free wf h = wf
truncated_keeps t now p n (Bad e) wf h = wf

unless_keeps : (t : Tree) (r : Path) (s : Stepped) → IsWellFormed t → ((n : List ℕ) (q : Path) → r ≡ n ∷ q → Keeps s) → Keeps (unless_root t r s)
unless_keeps t [] s wf f = wf
unless_keeps t (n ∷ q) s wf f = f n q refl

attributes_keep : (t : Tree) (n : List ℕ) (q : Path) (change : Attr → Attr) (s : LookedUp) → IsWellFormed t → ((a : Attr) → a.kind ≡ (change a).kind) → ((a : Attr) → a.mode ≤ MAX_MODE → (change a).mode ≤ MAX_MODE)
    → look t (n ∷ q) ≡ s → Keeps (attributes_set t (n ∷ q) change s)
attributes_keep t n q change (Found row) wf kinds modes h =
    let there = get-found t (n ∷ q) row h in
    let limits = wf.rows (n ∷ q) row there in
    insert_found t n q (record row { attr = change row.attr }) row wf there (ap is_directory (kinds row.attr)) (record {
      content = subst (λ k. FitsKind k row.bytes) (kinds row.attr) limits.content;
      mode = modes row.attr limits.mode;
    })
attributes_keep t n q change Free wf kinds modes h = wf
attributes_keep t n q change (Bad e) wf kinds modes h = wf

removed_directory_keeps : (t : Tree) (now : Instant) (n : List ℕ) (q : Path) (s : LookedUp) → IsWellFormed t → Keeps (removed_directory t now (n ∷ q) s)
removed_directory_keeps t now n q (Found row) wf = either (is_directory row.attr.kind) (cond (has_child t (n ∷ q)) (refused t NotEmpty) (done (touched (remove t (n ∷ q)) now q))) (refused t NotDirectory) (λ _.
    either (has_child t (n ∷ q)) (refused t NotEmpty) (done (touched (remove t (n ∷ q)) now q)) (λ _. wf) (λ none.
    touched_well (remove t (n ∷ q)) now q (remove_bare t n q wf (no_children t (n ∷ q) (let zero = ltb-false 0 (len (children t (n ∷ q))) none in omega arith))))) (λ _. wf)
removed_directory_keeps t now n q Free wf = wf
removed_directory_keeps t now n q (Bad e) wf = wf

removed_file_keeps : (t : Tree) (now : Instant) (n : List ℕ) (q : Path) (s : LookedUp) → IsWellFormed t → look t (n ∷ q) ≡ s → Keeps (removed_file t now (n ∷ q) s)
removed_file_keeps t now n q (Found row) wf h = either _ _ _ (λ _. wf) (λ file. touched_well (remove t (n ∷ q)) now q (remove_bare t n q wf (below_file t (n ∷ q) row wf.rooted (get-found t (n ∷ q) row h) file)))
removed_file_keeps t now n q Free wf h = wf
removed_file_keeps t now n q (Bad e) wf h = wf

unless_large_keeps : (t : Tree) (now : Instant) (pn : List ℕ) (pd : Path) (qn : List ℕ) (qd : Path) (row : Row) → IsWellFormed t → IsName qn → CanMove t pn pd qn qd row
    → Keeps (moved_unless_large t now (pn ∷ pd) (qn ∷ qd) (moved_tree t now (pn ∷ pd) (qn ∷ qd) row))
unless_large_keeps t now pn pd qn qd row wf named can = either _ _ _ (λ _. wf) (λ fits.
    let next = moved_tree t now (pn ∷ pd) (qn ∷ qd) row in
    touched_well (touched next now pd) now qd (touched_well next now pd (moved_well_formed t now pn pd qn qd row can wf named (ltb-false _ _ fits))))

-- a move that is let through
pub can_move_free : (t : Tree) (pn : List ℕ) (pd : Path) (qn : List ℕ) (qd : Path) (row : Row) → IsRooted t → look t (pn ∷ pd) ≡ Found row → is_above (pn ∷ pd) (qn ∷ qd) ≡ false → look t (qn ∷ qd) ≡ Free → CanMove t pn pd qn qd row
can_move_free t pn pd qn qd row wf found above free = from_free (get-free t wf (qn ∷ qd) free)
  where
    from_free : (n : List ℕ) × ((r : Path) × IsFree t (qn ∷ qd) n r) → CanMove t pn pd qn qd row
    from_free f =
        let is = f.1.1 in
        let same : qd ≡ f.1.0 = let e = is.path in cc in
        record {
          here = get-found t (pn ∷ pd) row found;
          above = above;
          differ = λ e. let bad : Some row ≡ None = sym (get-found t (pn ∷ pd) row found) ∙ (ap (get t) e ∙ is.absent) in cc;
          folder = ap (λ z. is_folder (get t z)) same ∙ is.folder;
          bare = bare_below t (qn ∷ qd) wf (below_none t (qn ∷ qd) wf is.absent);
        }

pub can_move_found : (t : Tree) (pn : List ℕ) (pd : Path) (qn : List ℕ) (qd : Path) (row old : Row) → IsRooted t → look t (pn ∷ pd) ≡ Found row → is_above (pn ∷ pd) (qn ∷ qd) ≡ false → look t (qn ∷ qd) ≡ Found old
    → same_path (pn ∷ pd) (qn ∷ qd) ≡ false → ((m : List ℕ) → get t (m ∷ (qn ∷ qd)) ≡ None) → CanMove t pn pd qn qd row
can_move_found t pn pd qn qd row old wf found above there differ bare = record {
  here = get-found t (pn ∷ pd) row found;
  above = above;
  differ = λ e. let bad : false ≡ true = sym differ ∙ (ap (λ z. same_path z (qn ∷ qd)) e ∙ path_same (qn ∷ qd)) in cc;
  folder = wf.parents qn qd (ap is_some (get-found t (qn ∷ qd) old there));
  bare = bare_below t (qn ∷ qd) wf bare;
}

-- q is bare where no test refused it
pub onto_keeps : (t : Tree) (q : Path) (from onto : Bool) (s : Stepped) → IsWellFormed t → (((m : List ℕ) → onto ≡ true → get t (m ∷ q) ≡ None) → Keeps s) → Keeps (moved_onto t q from onto s)
onto_keeps t q true true s wf f = either _ _ _ (λ _. wf) (λ none. f (λ m _. no_children t q (let zero = ltb-false 0 (len (children t q)) none in omega arith) m))
onto_keeps t q true false s wf f = wf
onto_keeps t q false true s wf f = wf
onto_keeps t q false false s wf f = f (λ m bad. absurd (cc))

moved_to_keeps : (t : Tree) (now : Instant) (pn : List ℕ) (pd : Path) (qn : List ℕ) (qd : Path) (row : Row) (s : LookedUp) → IsWellFormed t → IsName qn → look t (pn ∷ pd) ≡ Found row → is_above (pn ∷ pd) (qn ∷ qd) ≡ false → look t (qn ∷ qd) ≡ s
    → Keeps (moved_to t now (pn ∷ pd) (qn ∷ qd) row s)
moved_to_keeps t now pn pd qn qd row (Found old) wf named found above h = either _ _ _ (λ _. wf) (λ differ.
    onto_keeps t (qn ∷ qd) (is_directory row.attr.kind) (is_directory old.attr.kind) _ wf (λ bare.
    unless_large_keeps t now pn pd qn qd row wf named (can_move_found t pn pd qn qd row old wf.rooted found above h differ (childless bare (is_directory old.attr.kind) refl))))
  where
    childless : ((m : List ℕ) → is_directory old.attr.kind ≡ true → get t (m ∷ (qn ∷ qd)) ≡ None) → (b : Bool) → is_directory old.attr.kind ≡ b → (m : List ℕ) → get t (m ∷ (qn ∷ qd)) ≡ None
    childless bare true e m = bare m e
    childless bare false e m = below_file t (qn ∷ qd) old wf.rooted (get-found t (qn ∷ qd) old h) e m
moved_to_keeps t now pn pd qn qd row Free wf named found above h = unless_large_keeps t now pn pd qn qd row wf named (can_move_free t pn pd qn qd row wf.rooted found above h)
moved_to_keeps t now pn pd qn qd row (Bad e) wf named found above h = wf

moved_from_keeps : (t : Tree) (now : Instant) (pn : List ℕ) (pd : Path) (qn : List ℕ) (qd : Path) (s : LookedUp) → IsWellFormed t → IsName qn → look t (pn ∷ pd) ≡ s → Keeps (moved_from t now (pn ∷ pd) (qn ∷ qd) s)
moved_from_keeps t now pn pd qn qd (Found row) wf named h = either _ _ _ (λ _. wf) (λ above. moved_to_keeps t now pn pd qn qd row (look t (qn ∷ qd)) wf named h above refl)
moved_from_keeps t now pn pd qn qd Free wf named h = wf
moved_from_keeps t now pn pd qn qd (Bad e) wf named h = wf

-- the commands that only look
pub listed_stays : (t : Tree) (p : Path) (s : LookedUp) → (listed t p s).tree ≡ t
listed_stays t p (Found row) = cond_both (is_directory row.attr.kind) _ _ (λ (s : Stepped). s.tree ≡ t) (λ _. refl) (λ _. refl)
listed_stays t p Free = refl
listed_stays t p (Bad e) = refl

pub told_stays : (t : Tree) (s : LookedUp) → (told t s).tree ≡ t
told_stays t (Found row) = refl
told_stays t Free = refl
told_stays t (Bad e) = refl

kind_stays : (t : Tree) (k : Kind) (d f l : Stepped) → d.tree ≡ t → f.tree ≡ t → l.tree ≡ t → (by_kind k d f l).tree ≡ t
kind_stays t Directory d f l a b c = a
kind_stays t File d f l a b c = b
kind_stays t Link d f l a b c = c

pub target_stays : (t : Tree) (s : LookedUp) → (target_read t s).tree ≡ t
target_stays t (Found row) = kind_stays t row.attr.kind _ _ _ refl refl refl
target_stays t Free = refl
target_stays t (Bad e) = refl

pub content_stays : (t : Tree) (from count : ℕ) (s : LookedUp) → (content_read t from count s).tree ≡ t
content_stays t from count (Found row) = kind_stays t row.attr.kind _ _ _ refl (cond_both (nat_lt MAX_READ count) _ _ (λ (s : Stepped). s.tree ≡ t) (λ _. refl) (λ _. refl)) refl
content_stays t from count Free = refl
content_stays t from count (Bad e) = refl

same_keeps : (t u : Tree) → u ≡ t → IsWellFormed t → IsWellFormed u
same_keeps t u e wf = subst IsWellFormed (sym e) wf

fresh_row : (kind : Kind) (mode : ℕ) (now : Instant) (bytes : List ℕ) → FitsKind kind bytes → mode ≤ MAX_MODE → IsWithinLimits (new_row kind mode now bytes)
fresh_row kind mode now bytes content limit = record { content = content; mode = limit }

-- every command that fits keeps a tree well formed
pub well_formed-step : (t : Tree) (now : Instant) (c : Command) → IsWellFormed t → IsFitting c → HoldsNames c → IsWellFormed (step t now c).tree
well_formed-step t now (command.List p) wf fits named = same_keeps t _ (listed_stays t (upward p) (look t (upward p))) wf
well_formed-step t now (command.Stat p) wf fits named = same_keeps t _ (told_stays t (look t (upward p))) wf
well_formed-step t now (command.Mkdir p) wf fits named = made_keeps t now (upward p) _ _ wf (last_named p named) (fresh_row Directory DIRECTORY_MODE now [] refl (lit≤ tt)) refl
well_formed-step t now (command.Rmdir p) wf fits named = unless_keeps t (upward p) _ wf (λ n q e. subst (λ r. Keeps (removed_directory t now r (look t r))) (sym e) (removed_directory_keeps t now n q (look t (n ∷ q)) wf))
well_formed-step t now (command.Mkfile p) wf fits named = made_keeps t now (upward p) _ _ wf (last_named p named) (fresh_row File FILE_MODE now [] (omega arith) (lit≤ tt)) refl
well_formed-step t now (command.Rm p) wf fits named = unless_keeps t (upward p) _ wf (λ n q e. subst (λ r. Keeps (removed_file t now r (look t r))) (sym e) (removed_file_keeps t now n q (look t (n ∷ q)) wf refl))
well_formed-step t now (command.Mv p q) wf fits named =
    unless_keeps t (upward p) _ wf (λ pn pd pe. unless_keeps t (upward q) _ wf (λ qn qd qe.
    subst (λ r. Keeps (moved_from t now r (upward q) (look t r))) (sym pe) (subst (λ r. Keeps (moved_from t now (pn ∷ pd) r (look t (pn ∷ pd)))) (sym qe)
    (moved_from_keeps t now pn pd qn qd (look t (pn ∷ pd)) wf (last_named q named.1 qn qd qe) refl))))
well_formed-step t now (command.Symlink target p) wf fits named = made_keeps t now (upward p) _ _ wf (last_named p named) (fresh_row Link LINK_MODE now target fits (lit≤ tt)) refl
well_formed-step t now (command.Readlink p) wf fits named = same_keeps t _ (target_stays t (look t (upward p))) wf
well_formed-step t now (command.Write p from bytes) wf fits named = written_keeps t now (upward p) from bytes _ wf refl
well_formed-step t now (command.Read p from count) wf fits named = same_keeps t _ (content_stays t from count (look t (upward p))) wf
well_formed-step t now (command.Truncate p n) wf fits named = truncated_keeps t now (upward p) n _ wf refl
well_formed-step t now (command.Chmod p mode) wf fits named = unless_keeps t (upward p) _ wf (λ n q e. subst (λ r. Keeps (attributes_set t r (with_mode mode now) (look t r))) (sym e)
    (attributes_keep t n q (with_mode mode now) _ wf (λ a. refl) (λ a _. leb-true mode MAX_MODE fits) refl))
well_formed-step t now (command.Chown p uid gid) wf fits named = unless_keeps t (upward p) _ wf (λ n q e. subst (λ r. Keeps (attributes_set t r (with_owner uid gid now) (look t r))) (sym e)
    (attributes_keep t n q (with_owner uid gid now) _ wf (λ a. refl) (λ a h. h) refl))
well_formed-step t now (command.Utime p atime mtime) wf fits named = unless_keeps t (upward p) _ wf (λ n q e. subst (λ r. Keeps (attributes_set t r (with_times atime mtime now) (look t r))) (sym e)
    (attributes_keep t n q (with_times atime mtime now) _ wf (λ a. refl) (λ a h. h) refl))
well_formed-step t now command.Sync wf fits named = wf

pub empty_at : (n : List ℕ) (p : Path) → get empty_tree (n ∷ p) ≡ None
empty_at n p = insert_apart empty [] root_row (n ∷ p) (λ e. cc) ∙ get-empty path_cmp (n ∷ p)

root_row_fits : IsWithinLimits root_row
root_row_fits = record { content = refl; mode = lit≤ tt }

-- the tree of the root alone
pub empty_well_formed : IsWellFormed empty_tree
empty_well_formed = record {
  rooted = record {
    root = insert_here empty [] root_row;
    parents = λ n p there. let bad : false ≡ true = ap is_some (sym (empty_at n p)) ∙ there in cc;
  };
  names = λ n p there. let bad : false ≡ true = ap is_some (sym (empty_at n p)) ∙ there in cc;
  rows = rows_insert empty (λ r x there. let bad : None ≡ Some x = sym (get-empty path_cmp r) ∙ there in cc) [] root_row root_row_fits;
  directories = λ p. let size : directory_size empty_tree p ≡ 0 = ap map_size (no_names (children empty_tree p) (λ n. get-children empty_tree p n ∙ empty_at n p)) ∙ size-empty Row in omega arith;
}
