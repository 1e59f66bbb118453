-- The step on a tree, exit by exit.
use Rattle.std.proofs.Common.{◌≡◌, ℕ, ◌+◌, ◌-◌, ◌<◌, ◌≤◌, length, take, get_or, max, Bool, true, false, cond, List, [], ◌∷◌, refl, sym, ◌∙◌, ap, subst, arith, IfOk, inl, inr}
use Rattle.std.specs.Prelude.{nat_lt, ◌==◌, IsSome}
use Rattle.std.specs.Option.{option_map}
use Rattle.std.proofs.lemmas.Bool.{le-ltb, lt-ltb}
use Rattle.std.specs.FinMap as tree
use Rattle.std.specs.FinMap.{get, same_map}
use Rattle.std.specs.Result.{OnErr}
use Rattle.std.specs.declared.option.Option.{Option}
use Rattle.std.specs.declared.option.Option.TheVariants.{None, Some}
use Rattle.std.specs.declared.result.Result.{Result}
use Rattle.std.specs.declared.result.Result.TheVariants.{Ok, Err}
use Rattle.block_id.specs.declared.fail.Memory.{Memory}
use Rattle.fs_model.specs.declared.attr.Attr.{Attr}
use Rattle.fs_model.specs.declared.attr.Kind.TheVariants.{Directory, File}
use Rattle.fs_model.specs.declared.command.Command.{Command}
use Rattle.fs_model.specs.declared.limits.TheConstants.{MAX_ENTRIES}
use Rattle.fs_model.specs.declared.error.FsError.TheVariants.{Busy, NotEmpty, NotDirectory, IsDirectory, TooLarge}
use Rattle.fs_model.specs.declared.reply.Reply.{Reply}
use Rattle.fs_model.specs.declared.reply.Reply.TheVariants.{Done, Error}
use Rattle.fs_model.specs.Instant.{Instant}
use Rattle.fs_model.specs.Tree.{Path, Row, Tree, upward, parent, last_name, is_root, is_directory, entry_size, directory_size, root_row, IsWellFormed}
use Rattle.fs_model.specs.LookUp.{LookedUp, Found, Free, look, goes_on}
use Rattle.block_id.specs.Contents.{overwritten, resized}
use Rattle.fs_model.specs.Step.{Stepped, answered, refused, done, step, unless_root, made, touched, has_child, removed_directory, removed_file, attributes_set, written, truncated, on_file, is_too_long, with_content}
use Rattle.fs_model.proofs.TreeLemmas.{path_total, path_exact, path_split, insert_here, insert_apart, set_again}
use Rattle.fs_model.proofs.LookUpLemmas.{look-walk, get-found, get-free}
use Rattle.fs_model.proofs.PathLemmas.{last_at}
use Rattle.plain_tree.specs.Answers.{IsAnswer}

-- names that aren't none
pub any_names : {empty : Bool} (ns : List (List ℕ)) → empty ≡ (length ns == 0) → empty ≡ false → 0 < length ns
any_names [] said some = absurd (cc)
any_names (n ∷ ns) said some = omega arith

-- the tree stays
pub stays : (t : Tree) (r : Reply) (s : Stepped) → s ≡ answered t r → IsAnswer t r s
stays t r s e = record { replies = sym (ap (λ z. z.reply) e); tree = sym (ap (λ z. z.tree) e) }

pub goes_on_to : (new t : Tree) (s : Stepped) → new ≡ t → s ≡ done t → IsAnswer new Done s
goes_on_to new t s is e = record { replies = sym (ap (λ z. z.reply) e); tree = is ∙ sym (ap (λ z. z.tree) e) }

pub named_step : (t : Tree) (p : Path) (s : Stepped) → is_root p ≡ false → unless_root t p s ≡ s
named_step t p s named = ap (λ b. cond b (refused t Busy) s) named

-- what follows a step
pub formed_after : (old new : Tree) (now : Instant) (c : Command) (r : Result Reply Memory) → IsWellFormed old → ((t : Tree) → IsWellFormed t → IsWellFormed (step t now c).tree)
    → IfOk r (λ reply. IsAnswer new reply (step old now c)) → OnErr r (new ≡ old) → IsWellFormed new
formed_after old new now c (Ok reply) formed keeps answer same = subst IsWellFormed (sym answer.tree) (keeps old formed)
formed_after old new now c (Err e) formed keeps answer same = subst IsWellFormed (sym same) formed

-- what a look-up says of a row
pub there_of : (t : Tree) (p : Path) (row : Row) → look t p ≡ Found row → IsSome (get t p)
there_of t p row h = subst IsSome (sym (get-found t p row h)) refl

pub free_absent : (t : Tree) (p : Path) → IsWellFormed t → look t p ≡ Free → get t p ≡ None
free_absent t p formed h = let free = get-free t formed.rooted p h in free.1.1.absent

-- the look-up of a path without a row, by its parent's
pub seen_above : (t : Tree) (ns : List (List ℕ)) (s : LookedUp) → IsWellFormed t → 0 < length ns → get t (upward ns) ≡ None → look t (upward (take (length ns - 1) ns)) ≡ s → look t (upward ns) ≡ goes_on s None
seen_above t [] s formed some none above = absurd (omega arith)
seen_above t (m ∷ ms) s formed some none above =
    let ns = m ∷ ms in
    let n = get_or ns (length ns - 1) m in
    let q = upward (take (length ns - 1) ns) in
    let is = last_at ns m some in
    let rooted = formed.rooted in
    ap (look t) is
    ∙ (look-walk t rooted (n ∷ q)
    ∙ (ap (λ z. goes_on z (get t (n ∷ q))) (sym (look-walk t rooted q) ∙ above)
    ∙ ap (goes_on s) (ap (get t) (sym is) ∙ none)))

-- a new row
pub made_new : (t new : Tree) (now : Instant) (ns : List (List ℕ)) (n : List ℕ) (row : Row) → 0 < length ns → n ≡ get_or ns (length ns - 1) n → look t (upward ns) ≡ Free
    → directory_size t (upward (take (length ns - 1) ns)) + entry_size n ≤ MAX_ENTRIES → new ≡ touched (tree.insert t (upward ns) row) now (parent (upward ns)) → IsAnswer new Done (made t now (upward ns) row (look t (upward ns)))
made_new t new now ns n row some at free fits is =
    let q = upward (take (length ns - 1) ns) in
    let p = upward ns in
    goes_on_to new (touched (tree.insert t p row) now (parent p)) (made t now p row (look t p)) is
    (ap (made t now p row) free
    ∙ ap (λ b. cond b (refused t TooLarge) (done (touched (tree.insert t p row) now (parent p))))
    (ap (λ z. nat_lt MAX_ENTRIES (directory_size t (parent z) + entry_size (last_name z))) (last_at ns n some ∙ ap (λ z. z ∷ q) (sym at)) ∙ le-ltb MAX_ENTRIES (directory_size t q + entry_size n) fits))

pub made_large : (t : Tree) (now : Instant) (ns : List (List ℕ)) (n : List ℕ) (row : Row) → 0 < length ns → n ≡ get_or ns (length ns - 1) n → look t (upward ns) ≡ Free
    → MAX_ENTRIES < directory_size t (upward (take (length ns - 1) ns)) + entry_size n → IsAnswer t (Error TooLarge) (made t now (upward ns) row (look t (upward ns)))
made_large t now ns n row some at free passes =
    let q = upward (take (length ns - 1) ns) in
    let p = upward ns in
    stays t (Error TooLarge) (made t now p row (look t p))
    (ap (made t now p row) free
    ∙ ap (λ b. cond b (refused t TooLarge) (done (touched (tree.insert t p row) now (parent p))))
    (ap (λ z. nat_lt MAX_ENTRIES (directory_size t (parent z) + entry_size (last_name z))) (last_at ns n some ∙ ap (λ z. z ∷ q) (sym at)) ∙ lt-ltb MAX_ENTRIES (directory_size t q + entry_size n) passes))

-- rows that go
module _ (t new : Tree) (now : Instant) (p : Path) (row : Row) (named : is_root p ≡ false) (seen : look t p ≡ Found row) where
  pub directory_gone : is_directory row.attr.kind ≡ true → has_child t p ≡ false → new ≡ touched (tree.remove t p) now (parent p) → IsAnswer new Done (unless_root t p (removed_directory t now p (look t p)))
  directory_gone kind bare is = goes_on_to new (touched (tree.remove t p) now (parent p)) (unless_root t p (removed_directory t now p (look t p))) is
      (named_step t p (removed_directory t now p (look t p)) named
      ∙ (ap (removed_directory t now p) seen
      ∙ (ap (λ b. cond b (cond (has_child t p) (refused t NotEmpty) (done (touched (tree.remove t p) now (parent p)))) (refused t NotDirectory)) kind
      ∙ ap (λ b. cond b (refused t NotEmpty) (done (touched (tree.remove t p) now (parent p)))) bare)))

  pub directory_full : is_directory row.attr.kind ≡ true → has_child t p ≡ true → IsAnswer t (Error NotEmpty) (unless_root t p (removed_directory t now p (look t p)))
  directory_full kind more = stays t (Error NotEmpty) (unless_root t p (removed_directory t now p (look t p)))
      (named_step t p (removed_directory t now p (look t p)) named
      ∙ (ap (removed_directory t now p) seen
      ∙ (ap (λ b. cond b (cond (has_child t p) (refused t NotEmpty) (done (touched (tree.remove t p) now (parent p)))) (refused t NotDirectory)) kind
      ∙ ap (λ b. cond b (refused t NotEmpty) (done (touched (tree.remove t p) now (parent p)))) more)))

  pub no_directory : is_directory row.attr.kind ≡ false → IsAnswer t (Error NotDirectory) (unless_root t p (removed_directory t now p (look t p)))
  no_directory kind = stays t (Error NotDirectory) (unless_root t p (removed_directory t now p (look t p)))
      (named_step t p (removed_directory t now p (look t p)) named
      ∙ (ap (removed_directory t now p) seen
      ∙ ap (λ b. cond b (cond (has_child t p) (refused t NotEmpty) (done (touched (tree.remove t p) now (parent p)))) (refused t NotDirectory)) kind))

  pub file_gone : is_directory row.attr.kind ≡ false → new ≡ touched (tree.remove t p) now (parent p) → IsAnswer new Done (unless_root t p (removed_file t now p (look t p)))
  file_gone kind is = goes_on_to new (touched (tree.remove t p) now (parent p)) (unless_root t p (removed_file t now p (look t p))) is
      (named_step t p (removed_file t now p (look t p)) named
      ∙ (ap (removed_file t now p) seen ∙ ap (λ b. cond b (refused t IsDirectory) (done (touched (tree.remove t p) now (parent p)))) kind))

  pub no_file : is_directory row.attr.kind ≡ true → IsAnswer t (Error IsDirectory) (unless_root t p (removed_file t now p (look t p)))
  no_file kind = stays t (Error IsDirectory) (unless_root t p (removed_file t now p (look t p)))
      (named_step t p (removed_file t now p (look t p)) named
      ∙ (ap (removed_file t now p) seen ∙ ap (λ b. cond b (refused t IsDirectory) (done (touched (tree.remove t p) now (parent p)))) kind))

  pub attributes_done : (change : Attr → Attr) → new ≡ tree.insert t p (record { attr = change row.attr; bytes = row.bytes }) → IsAnswer new Done (unless_root t p (attributes_set t p change (look t p)))
  attributes_done change is = goes_on_to new (tree.insert t p (record { attr = change row.attr; bytes = row.bytes })) (unless_root t p (attributes_set t p change (look t p))) is
      (named_step t p (attributes_set t p change (look t p)) named ∙ ap (attributes_set t p change) seen)

-- a row set and put back
pub set_back : (t : Tree) (p : Path) (x row : Row) → get t p ≡ Some row → tree.insert (tree.insert t p x) p row ≡ t
set_back t p x row there = same_map path_total path_exact _ _ (λ r. elim (path_split r p) [
  | inl e ↦ ap (get (tree.insert (tree.insert t p x) p row)) e ∙ (insert_here (tree.insert t p x) p row ∙ sym (ap (get t) e ∙ there))
  | inr d ↦ insert_apart (tree.insert t p x) p row r d ∙ insert_apart t p x r d
])

-- the second of two rows set
pub set_after : (t t1 new : Tree) (p : Path) (x y : Row) → t1 ≡ tree.insert t p x → new ≡ tree.insert t1 p y → new ≡ tree.insert t p y
set_after t t1 new p x y first second = second ∙ (ap (λ z. tree.insert z p y) first ∙ set_again t p x y)

pub put_back : (t t1 new : Tree) (p : Path) (x y row : Row) → t1 ≡ tree.insert t p x → new ≡ tree.insert t1 p y → get t p ≡ Some row → y ≡ row → new ≡ t
put_back t t1 new p x y row first second there same = second ∙ (ap (λ z. tree.insert z p y) first ∙ (ap (tree.insert (tree.insert t p x) p) same ∙ set_back t p x row there))

pub bytes_are : (o : Option Row) (row : Row) (bytes : List ℕ) → o ≡ Some row → option_map (λ (r : Row). r.bytes) o ≡ Some bytes → bytes ≡ row.bytes
bytes_are o row bytes e h = let both : Some row.bytes ≡ Some bytes = sym (ap (option_map (λ (r : Row). r.bytes)) e) ∙ h in cc

pub same_row : (row : Row) (attr : Attr) (bytes : List ℕ) → attr ≡ row.attr → bytes ≡ row.bytes → record { attr = attr; bytes = bytes } ≡ row
same_row row attr bytes a b = ap (λ (z : Attr). record { attr = z; bytes = bytes }) a ∙ ap (λ (z : List ℕ). record { attr = row.attr; bytes = z }) b

pub set_there : (t : Tree) (p : Path) (x : Row) → IsSome (get (tree.insert t p x) p)
set_there t p x = subst IsSome (sym (insert_here t p x)) refl

-- a file isn't the root
pub file_named : (t : Tree) (p : Path) (row : Row) → IsWellFormed t → look t p ≡ Found row → row.attr.kind ≡ File → is_root p ≡ false
file_named t [] row formed seen kind =
    let both : Some root_row ≡ Some row = sym formed.rooted.root ∙ get-found t [] row seen in
    let same : root_row ≡ row = cc in
    let bad : Directory ≡ File = ap (λ (r : Row). r.attr.kind) same ∙ kind in cc
file_named t (n ∷ p) row formed seen kind = refl

pub content_set : (t t1 new : Tree) (p : Path) (x row : Row) (now : Instant) (attr next : Attr) (whole last : List ℕ) → row.attr ≡ attr → t1 ≡ tree.insert t p x → next ≡ record attr { mtime = now; ctime = now } → whole ≡ last
    → new ≡ tree.insert t1 p (record { attr = next; bytes = whole }) → new ≡ tree.insert t p (with_content row now last)
content_set t t1 new p x row now attr next whole last of first touched is second =
    set_after t t1 new p x (record { attr = next; bytes = whole }) first second
    ∙ ap (tree.insert t p) (same_row (with_content row now last) next whole (touched ∙ ap (λ (z : Attr). record z { mtime = now; ctime = now }) (sym of)) is)

-- contents
module _ (t new : Tree) (p : Path) (row : Row) (now : Instant) (seen : look t p ≡ Found row) (kind : row.attr.kind ≡ File) where
  pub written_done : (from : ℕ) (bytes : List ℕ) → (length bytes == 0) ≡ false → is_too_long (length row.bytes) (max (length row.bytes) (from + length bytes)) ≡ false
      → new ≡ tree.insert t p (with_content row now (overwritten row.bytes from bytes)) → IsAnswer new Done (written t now p from bytes (look t p))
  written_done from bytes some short is = goes_on_to new (tree.insert t p (with_content row now (overwritten row.bytes from bytes))) (written t now p from bytes (look t p)) is
      (ap (written t now p from bytes) seen
      ∙ (ap (λ k. on_file t k (cond (length bytes == 0) (done t) (cond (is_too_long (length row.bytes) (max (length row.bytes) (from + length bytes))) (refused t TooLarge) whole))) kind
      ∙ (ap (λ b. cond b (done t) (cond (is_too_long (length row.bytes) (max (length row.bytes) (from + length bytes))) (refused t TooLarge) whole)) some
      ∙ ap (λ b. cond b (refused t TooLarge) whole) short)))
    where
      whole : Stepped
      whole = done (tree.insert t p (with_content row now (overwritten row.bytes from bytes)))

  pub truncated_done : (n : ℕ) → is_too_long (length row.bytes) n ≡ false → new ≡ tree.insert t p (with_content row now (resized row.bytes n)) → IsAnswer new Done (truncated t now p n (look t p))
  truncated_done n short is = goes_on_to new (tree.insert t p (with_content row now (resized row.bytes n))) (truncated t now p n (look t p)) is
      (ap (truncated t now p n) seen
      ∙ (ap (λ k. on_file t k (cond (is_too_long (length row.bytes) n) (refused t TooLarge) whole)) kind
      ∙ ap (λ b. cond b (refused t TooLarge) whole) short))
    where
      whole : Stepped
      whole = done (tree.insert t p (with_content row now (resized row.bytes n)))

-- contents that stay
module _ (t : Tree) (p : Path) (row : Row) (now : Instant) (seen : look t p ≡ Found row) (kind : row.attr.kind ≡ File) where
  pub written_nothing : (from : ℕ) (bytes : List ℕ) → (length bytes == 0) ≡ true → IsAnswer t Done (written t now p from bytes (look t p))
  written_nothing from bytes none = goes_on_to t t (written t now p from bytes (look t p)) refl
      (ap (written t now p from bytes) seen
      ∙ (ap (λ k. on_file t k (cond (length bytes == 0) (done t) (cond (is_too_long (length row.bytes) (max (length row.bytes) (from + length bytes))) (refused t TooLarge) (done (tree.insert t p (with_content row now (overwritten row.bytes from bytes))))))) kind
      ∙ ap (λ b. cond b (done t) (cond (is_too_long (length row.bytes) (max (length row.bytes) (from + length bytes))) (refused t TooLarge) (done (tree.insert t p (with_content row now (overwritten row.bytes from bytes)))))) none))

  pub written_large : (from : ℕ) (bytes : List ℕ) → (length bytes == 0) ≡ false → is_too_long (length row.bytes) (max (length row.bytes) (from + length bytes)) ≡ true → IsAnswer t (Error TooLarge) (written t now p from bytes (look t p))
  written_large from bytes some long = stays t (Error TooLarge) (written t now p from bytes (look t p))
      (ap (written t now p from bytes) seen
      ∙ (ap (λ k. on_file t k (cond (length bytes == 0) (done t) (cond (is_too_long (length row.bytes) (max (length row.bytes) (from + length bytes))) (refused t TooLarge) (done (tree.insert t p (with_content row now (overwritten row.bytes from bytes))))))) kind
      ∙ (ap (λ b. cond b (done t) (cond (is_too_long (length row.bytes) (max (length row.bytes) (from + length bytes))) (refused t TooLarge) (done (tree.insert t p (with_content row now (overwritten row.bytes from bytes)))))) some
      ∙ ap (λ b. cond b (refused t TooLarge) (done (tree.insert t p (with_content row now (overwritten row.bytes from bytes))))) long)))

  pub truncated_large : (n : ℕ) → is_too_long (length row.bytes) n ≡ true → IsAnswer t (Error TooLarge) (truncated t now p n (look t p))
  truncated_large n long = stays t (Error TooLarge) (truncated t now p n (look t p))
      (ap (truncated t now p n) seen
      ∙ (ap (λ k. on_file t k (cond (is_too_long (length row.bytes) n) (refused t TooLarge) (done (tree.insert t p (with_content row now (resized row.bytes n)))))) kind
      ∙ ap (λ b. cond b (refused t TooLarge) (done (tree.insert t p (with_content row now (resized row.bytes n))))) long))

-- along the names of a path
pub answers_at : (r : Result Reply Memory) (new : Tree) (F : List (List ℕ) → Stepped) (s : Stepped) (names path : List (List ℕ)) → names ≡ path → F path ≡ s → IfOk r (λ reply. IsAnswer new reply (F names)) → IfOk r (λ reply. IsAnswer new reply s)
answers_at r new F s names path e is h = subst (λ z. IfOk r (λ reply. IsAnswer new reply z)) (ap F e ∙ is) h

pub answer_at : (reply : Reply) (new : Tree) (F : List (List ℕ) → Stepped) (s : Stepped) (names path : List (List ℕ)) → names ≡ path → F path ≡ s → IsAnswer new reply (F names) → IsAnswer new reply s
answer_at reply new F s names path e is h = subst (IsAnswer new reply) (ap F e ∙ is) h

pub looked_at : (reply : Reply) (t : Tree) (F : List (List ℕ) → Stepped) (s : Stepped) (names path : List (List ℕ)) → names ≡ path → F path ≡ s → ((ns : List (List ℕ)) → (F ns).tree ≡ t) → reply ≡ (F names).reply → IsAnswer t reply s
looked_at reply t F s names path e is kept h = let at = ap F e ∙ is in record { replies = h ∙ ap (λ z. z.reply) at; tree = sym (kept names) ∙ ap (λ z. z.tree) at }

pub looks_at : (r : Result Reply Memory) (t : Tree) (F : List (List ℕ) → Stepped) (s : Stepped) (names path : List (List ℕ)) → names ≡ path → F path ≡ s → ((ns : List (List ℕ)) → (F ns).tree ≡ t) → IfOk r (λ reply. reply ≡ (F names).reply) → IfOk r (λ reply. IsAnswer t reply s)
looks_at (Ok reply) t F s names path e is kept h = looked_at reply t F s names path e is kept h
looks_at (Err x) t F s names path e is kept h = tt
