-- What an export leaves: the replies of a tree are told by what stands below its source.
use Rattle.std.proofs.Common.{◌≡◌, inl, inr, ℕ, Bool, true, false, cond, List, [], ◌∷◌, ◌++◌, map, take, drop, refl, sym, ◌∙◌, ap, subst}
use Rattle.std.specs.Prelude.{Some, None, nat_lt}
use Rattle.std.specs.FinMap.{get, entries}
use Rattle.std.specs.declared.option.Option.{Option}
use Rattle.std.specs.declared.result.Result.{Result}
use Rattle.std.specs.declared.result.Result.TheVariants.{Ok, Err}
use Rattle.fs_model.specs.declared.attr.Kind.{Kind}
use Rattle.fs_model.specs.declared.attr.Kind.TheVariants.{Directory, File, Link}
use Rattle.fs_model.specs.declared.command.Command.{Command}
use Rattle.fs_model.specs.declared.command.Command.TheVariants as command
use Rattle.fs_model.specs.declared.error.FsError.TheVariants.{NotDirectory, IsDirectory, NotLink, Invalid, TooLarge}
use Rattle.fs_model.specs.declared.limits.TheConstants.{MAX_READ}
use Rattle.fs_model.specs.declared.reply.ListRow.{ListRow}
use Rattle.fs_model.specs.declared.reply.Reply.{Reply}
use Rattle.fs_model.specs.declared.reply.Reply.TheVariants.{Done, Rows, Info, Target, Content, Error}
use Rattle.fs_model.specs.Instant.{Instant}
use Rattle.fs_model.specs.LookUp.{LookedUp, Found, Free, Bad, look}
use Rattle.fs_model.specs.Step.{Stepped, step, answered, refused, listed, list_row, content_read, target_read, on_file, by_kind}
use Rattle.fs_model.specs.Tree.{Path, Row, Tree, is_directory, children, upward}
use Rattle.fs_model.proofs.LawLemmas.{looking_stays}
use Rattle.fs_model.proofs.LookUpLemmas.{get-found}
use Rattle.host_folder.specs.Folders.{HostPath, HostTree, AreRowsOf, RowsRise, kind_in}
use Rattle.host_folder.proofs.Listings.{row_kind, rows_rise, rows_each}
use Rattle.copy_laws.specs.declared.asker.Stopped.{Stopped}
use Rattle.copy_laws.specs.declared.copied.CopyFail.{CopyFail}
use Rattle.copy_laws.specs.declared.copied.CopyFail.TheVariants as fail
use Rattle.copy_laws.specs.Exporting.{IsReader, AreServed, LastRead, IsOutcomeOf, Tells, OnTold, IsPartOf, FailsOut, IsFrontRow}
use Rattle.copy_laws.specs.ExportLaws.{IsPartBelow, ExportIsSame, ExportIsPart}
use Rattle.copy_laws.specs.Importing.{plain_of}
use Rattle.copy_laws.specs.Questions.{Question, Followed, Answered}
use Rattle.copy_laws.proofs.Below.{below, get_below, get_top, get_child, below_is}

pub reply_is : (a b : Stepped) → a ≡ b → a.reply ≡ b.reply
reply_is a b e = ap (λ (s : Stepped). s.reply) e

-- what a directory's rows say
record IsListed (t : Tree) (p : Path) (rows : List ListRow) : Type 0 where
  row : Row
  there : get t p ≡ Some row
  of_kind : row.attr.kind ≡ Directory
  are : rows ≡ map list_row (entries (children t p))

list_says : (t : Tree) (p : Path) (rows : List ListRow) (mid : Tree) → listed t p (look t p) ≡ record { reply = Rows rows; tree = mid } → IsListed t p rows
list_says t p rows mid h = by (look t p) refl h
  where
    the_rows : Reply → List ListRow
    the_rows (Rows rs) = rs
    the_rows Done = []
    the_rows (Info a s) = []
    the_rows (Target w) = []
    the_rows (Content w) = []
    the_rows (Error e) = []

    found : (row : Row) → look t p ≡ Found row → (k : Kind) → row.attr.kind ≡ k → cond (is_directory k) (answered t (Rows (map list_row (entries (children t p))))) (refused t NotDirectory) ≡ record { reply = Rows rows; tree = mid } → IsListed t p rows
    found row s Directory k h = record { row = row; there = get-found t p row s; of_kind = k; are = sym (ap the_rows (reply_is _ _ h)) }
    found row s File k h = let bad : Error NotDirectory ≡ Rows rows = reply_is _ _ h in absurd cc
    found row s Link k h = let bad : Error NotDirectory ≡ Rows rows = reply_is _ _ h in absurd cc

    by : (s : LookedUp) → look t p ≡ s → listed t p s ≡ record { reply = Rows rows; tree = mid } → IsListed t p rows
    by (Found row) s h = found row s row.attr.kind refl h
    by Free s h = let bad = reply_is _ _ h in absurd cc
    by (Bad e) s h = let bad = reply_is _ _ h in absurd cc

-- what bytes of a file say
pub record IsContent (t : Tree) (p : Path) (from count : ℕ) (bytes : List ℕ) : Type 0 where
  pub row : Row
  pub there : get t p ≡ Some row
  pub of_kind : row.attr.kind ≡ File
  pub is : bytes ≡ take count (drop from row.bytes)

pub read_says : (t : Tree) (p : Path) (from count : ℕ) (bytes : List ℕ) (mid : Tree) → content_read t from count (look t p) ≡ record { reply = Content bytes; tree = mid } → IsContent t p from count bytes
read_says t p from count bytes mid h = by (look t p) refl h
  where
    the_bytes : Reply → List ℕ
    the_bytes (Content w) = w
    the_bytes Done = []
    the_bytes (Info a s) = []
    the_bytes (Target w) = []
    the_bytes (Rows w) = []
    the_bytes (Error e) = []

    within : (row : Row) → look t p ≡ Found row → row.attr.kind ≡ File → (b : Bool) → cond b (refused t TooLarge) (answered t (Content (take count (drop from row.bytes)))) ≡ record { reply = Content bytes; tree = mid } → IsContent t p from count bytes
    within row s k true h = let bad : Error TooLarge ≡ Content bytes = reply_is _ _ h in absurd cc
    within row s k false h = record { row = row; there = get-found t p row s; of_kind = k; is = sym (ap the_bytes (reply_is _ _ h)) }

    found : (row : Row) → look t p ≡ Found row → (k : Kind) → row.attr.kind ≡ k → on_file t k (cond (nat_lt MAX_READ count) (refused t TooLarge) (answered t (Content (take count (drop from row.bytes))))) ≡ record { reply = Content bytes; tree = mid } → IsContent t p from count bytes
    found row s Directory k h = let bad : Error IsDirectory ≡ Content bytes = reply_is _ _ h in absurd cc
    found row s File k h = within row s k (nat_lt MAX_READ count) h
    found row s Link k h = let bad : Error Invalid ≡ Content bytes = reply_is _ _ h in absurd cc

    by : (s : LookedUp) → look t p ≡ s → content_read t from count s ≡ record { reply = Content bytes; tree = mid } → IsContent t p from count bytes
    by (Found row) s h = found row s row.attr.kind refl h
    by Free s h = let bad = reply_is _ _ h in absurd cc
    by (Bad e) s h = let bad = reply_is _ _ h in absurd cc

-- what a link's target says
record IsTargetOf (t : Tree) (p : Path) (target : List ℕ) : Type 0 where
  row : Row
  there : get t p ≡ Some row
  of_kind : row.attr.kind ≡ Link
  is : target ≡ row.bytes

link_says : (t : Tree) (p : Path) (target : List ℕ) (mid : Tree) → target_read t (look t p) ≡ record { reply = Target target; tree = mid } → IsTargetOf t p target
link_says t p target mid h = by (look t p) refl h
  where
    the_target : Reply → List ℕ
    the_target (Target w) = w
    the_target Done = []
    the_target (Info a s) = []
    the_target (Content w) = []
    the_target (Rows w) = []
    the_target (Error e) = []

    found : (row : Row) → look t p ≡ Found row → (k : Kind) → row.attr.kind ≡ k → by_kind k (refused t NotLink) (refused t NotLink) (answered t (Target row.bytes)) ≡ record { reply = Target target; tree = mid } → IsTargetOf t p target
    found row s Directory k h = let bad : Error NotLink ≡ Target target = reply_is _ _ h in absurd cc
    found row s File k h = let bad : Error NotLink ≡ Target target = reply_is _ _ h in absurd cc
    found row s Link k h = record { row = row; there = get-found t p row s; of_kind = k; is = sym (ap the_target (reply_is _ _ h)) }

    by : (s : LookedUp) → look t p ≡ s → target_read t s ≡ record { reply = Target target; tree = mid } → IsTargetOf t p target
    by (Found row) s h = found row s row.attr.kind refl h
    by Free s h = let bad = reply_is _ _ h in absurd cc
    by (Bad e) s h = let bad = reply_is _ _ h in absurd cc

kind_below : (o : Option Row) → row_kind o ≡ kind_in (plain_of o)
kind_below None = refl
kind_below (Some row) = refl

rows_below : (t : Tree) (q r : HostPath) (rows : List ListRow) → IsListed t (upward (q ++ r)) rows → AreRowsOf (below t q) r rows × RowsRise rows
rows_below t q r rows l = (
  record { there = top r l.there; each = λ n. rows_each t (upward (q ++ r)) rows l.are n ∙ (kind_below (get t (n ∷ upward (q ++ r))) ∙ sym (ap kind_in (get_child t q r n))) },
  rows_rise t (upward (q ++ r)) rows l.are,
)
  where
    top : (r : HostPath) → get t (upward (q ++ r)) ≡ Some l.row → kind_in (get (below t q) r) ≡ Some Directory
    top [] e = ap kind_in (get_top t q)
    top (n ∷ s) e = ap kind_in (get_below t q n s ∙ ap plain_of e) ∙ ap Some l.of_kind

row_below : (t : Tree) (q : HostPath) (n : List ℕ) (r : HostPath) (row : Row) (k : Kind) → get t (upward (q ++ n ∷ r)) ≡ Some row → row.attr.kind ≡ k → get (below t q) (n ∷ r) ≡ Some (record { kind = k; bytes = row.bytes })
row_below t q n r row k e is = get_below t q n r ∙ (ap plain_of e ∙ ap (λ z. Some (record { kind = z; bytes = row.bytes })) is)

-- the reply of a question of an export is told by what stands below
reply_told : (t : Tree) (q : HostPath) (now : Instant) (c : Command) (reply : Reply) (mid : Tree) → IsReader c → step t now c ≡ record { reply = reply; tree = mid } → IsOutcomeOf (below t q) q c (Ok reply)
reply_told t q now (command.List p) (Rows rows) mid reader h = λ r e. subst (λ z. IsListed t (upward z) rows → AreRowsOf (below t q) r rows × RowsRise rows) (sym e) (rows_below t q r rows) (list_says t (upward p) rows mid h)
reply_told t q now (command.List p) Done mid reader h = tt
reply_told t q now (command.List p) (Info a s) mid reader h = tt
reply_told t q now (command.List p) (Target w) mid reader h = tt
reply_told t q now (command.List p) (Content w) mid reader h = tt
reply_told t q now (command.List p) (Error e) mid reader h = tt
reply_told t q now (command.Read p from count) (Content bytes) mid reader h = λ n r e.
    let c = subst (λ z. IsContent t (upward z) from count bytes) e (read_says t (upward p) from count bytes mid h) in
    record { all = c.row.bytes; there = row_below t q n r c.row File c.there c.of_kind; is = c.is }
reply_told t q now (command.Read p from count) Done mid reader h = tt
reply_told t q now (command.Read p from count) (Info a s) mid reader h = tt
reply_told t q now (command.Read p from count) (Target w) mid reader h = tt
reply_told t q now (command.Read p from count) (Rows w) mid reader h = tt
reply_told t q now (command.Read p from count) (Error e) mid reader h = tt
reply_told t q now (command.Readlink p) (Target target) mid reader h = λ n r e.
    let l = subst (λ z. IsTargetOf t (upward z) target) e (link_says t (upward p) target mid h) in
    row_below t q n r l.row Link l.there l.of_kind ∙ ap (λ w. Some (record { kind = Link; bytes = w })) (sym l.is)
reply_told t q now (command.Readlink p) Done mid reader h = tt
reply_told t q now (command.Readlink p) (Info a s) mid reader h = tt
reply_told t q now (command.Readlink p) (Content w) mid reader h = tt
reply_told t q now (command.Readlink p) (Rows w) mid reader h = tt
reply_told t q now (command.Readlink p) (Error e) mid reader h = tt
reply_told t q now (command.Stat p) reply mid reader h = absurd reader
reply_told t q now (command.Mkdir p) reply mid reader h = absurd reader
reply_told t q now (command.Rmdir p) reply mid reader h = absurd reader
reply_told t q now (command.Mkfile p) reply mid reader h = absurd reader
reply_told t q now (command.Rm p) reply mid reader h = absurd reader
reply_told t q now (command.Mv p r) reply mid reader h = absurd reader
reply_told t q now (command.Symlink w p) reply mid reader h = absurd reader
reply_told t q now (command.Write p f b) reply mid reader h = absurd reader
reply_told t q now (command.Truncate p n) reply mid reader h = absurd reader
reply_told t q now (command.Chmod p m) reply mid reader h = absurd reader
reply_told t q now (command.Chown p u g) reply mid reader h = absurd reader
reply_told t q now (command.Utime p a m) reply mid reader h = absurd reader
reply_told t q now command.Sync reply mid reader h = absurd reader

reader_stays : (t : Tree) (now : Instant) (c : Command) → IsReader c → (step t now c).tree ≡ t
reader_stays t now (command.List p) r = looking_stays t now (command.List p) tt
reader_stays t now (command.Read p f n) r = looking_stays t now (command.Read p f n) tt
reader_stays t now (command.Readlink p) r = looking_stays t now (command.Readlink p) tt
reader_stays t now (command.Stat p) r = absurd r
reader_stays t now (command.Mkdir p) r = absurd r
reader_stays t now (command.Rmdir p) r = absurd r
reader_stays t now (command.Mkfile p) r = absurd r
reader_stays t now (command.Rm p) r = absurd r
reader_stays t now (command.Mv p q) r = absurd r
reader_stays t now (command.Symlink w p) r = absurd r
reader_stays t now (command.Write p f b) r = absurd r
reader_stays t now (command.Truncate p n) r = absurd r
reader_stays t now (command.Chmod p m) r = absurd r
reader_stays t now (command.Chown p u g) r = absurd r
reader_stays t now (command.Utime p a m) r = absurd r
reader_stays t now command.Sync r = absurd r

abbrev AreReaders : List Question → Type 0
AreReaders [] = Unit {0}
AreReaders (x ∷ qs) = IsReader x.command × AreReaders qs

outcome_told : (t : Tree) (q : HostPath) (now : Instant) (c : Command) (o : Result Reply Stopped) (mid : Tree) → IsReader c → Answered t now c o mid → IsOutcomeOf (below t q) q c o × (mid ≡ t)
outcome_told t q now c (Ok reply) mid reader h = (reply_told t q now c reply mid reader h, sym (ap (λ (s : Stepped). s.tree) h) ∙ reader_stays t now c reader)
outcome_told t q now c (Err stopped) mid reader h = (tt, h)

-- readers leave the tree, and its replies are told by what stands below
all_told : (t : Tree) (q : HostPath) (now : Instant) (qs : List Question) (last : Tree) → AreReaders qs → Followed t now qs last → Tells (below t q) q qs × (last ≡ t)
all_told t q now [] last readers h = (tt, h)
all_told t q now (x ∷ qs) last readers (mid, (a, rest)) =
    let one = outcome_told t q now x.command x.outcome mid readers.0 a in
    let more = all_told t q now qs last readers.1 (subst (λ z. Followed z now qs last) one.1 rest) in
    ((one.0, more.0), more.1)

served_readers : (qs : List Question) → AreServed qs → AreReaders qs
served_readers [] h = tt
served_readers (x ∷ qs) h = (h.0.0, served_readers qs h.1)

last_readers : (qs : List Question) (p : HostPath) (o : Result Reply Stopped) → LastRead qs p o → AreReaders qs
last_readers qs p o l = subst AreReaders (sym l.are) (by l.front l.served)
  where
    by : (front : List Question) → AreServed front → AreReaders (front ++ record { command = l.last; outcome = o } ∷ [])
    by [] h = (l.reader, tt)
    by (x ∷ front) h = (h.0.0, by front h.1)

fail_readers : (q : HostPath) (qs : List Question) (e : CopyFail) → FailsOut q qs e → AreReaders qs
fail_readers q qs fail.Memory h = served_readers qs h
fail_readers q qs fail.Host h = served_readers qs h
fail_readers q qs fail.Stopped h = last_readers qs h.0 (Err h.1.0) h.1.1
fail_readers q qs (fail.LongPath p) h = served_readers qs h.0.0
fail_readers q qs (fail.Refused p e) h = last_readers qs p (Ok h.0) h.1.1

pub export_same : ExportIsSame
export_same before after q qs totals now old new (inl idle) wf h = absurd idle.ends
export_same before after q qs totals now old new (inr begun) wf h =
    let told = all_told old q now qs new (served_readers qs begun.ends.served) h in
    let folder = below_is old q wf in (
      told.1,
      record {
        u = below old q;
        folder = folder;
        same = λ n r. sym (get_below old q n r);
        made = begun.ends.same (below old q) folder told.0;
        counts = begun.ends.counts (below old q) folder told.0;
      },
    )

part_below : (before after : Option HostTree) (t : Tree) (q : HostPath) → OnTold before after (λ v. IsPartOf v (below t q)) → OnTold before after (λ v. IsPartBelow v t q)
part_below None after t q h = h
part_below (Some first) after t q h = (h.0, (h.1.0, λ n r row e. subst (λ z. IsFrontRow row z) (get_below t q n r) (h.1.1 n r row e)))

pub export_part : ExportIsPart
export_part before after q qs e now old new begun wf h =
    let told = all_told old q now qs new (fail_readers q qs e begun.ends.0) h in
    (told.1, part_below before after old q (begun.ends.1 (below old q) (below_is old q wf) told.0))
