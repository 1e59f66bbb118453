-- What giving attributes leaves: the law.
use Rattle.std.specs.Prelude.{◌≡◌, ◌≢◌, true, ℕ, List, [], ◌∷◌, ◌++◌, is_some}
use Rattle.std.specs.FinMap.{get}
use Rattle.std.specs.declared.option.Option.TheVariants.{Some}
use Rattle.fs_model.specs.declared.attr.Attr.{Attr}
use Rattle.fs_model.specs.Instant.{Instant}
use Rattle.fs_model.specs.Step.{with_mode, with_owner, with_times}
use Rattle.fs_model.specs.Tree.{Path, Row, Tree, upward, is_folder}
use Rattle.copy_row.specs.host_folder.Folders.{HostPath}
use Rattle.copy_row.specs.copy_laws.Questions.{Question, Followed, commands_of}
use Rattle.copy_times.specs.Asking.{IsGiven, Each, gifts}
use Rattle.copy_times.specs.Giving.{told_kids}
use Rattle.copy_times.specs.Tours.{Dressed, IsTour}

-- the attributes of a row that was given others at this moment: its kind stays, and its ctime is now
abbrev pub given_attr : Attr → Instant → Attr → Attr
given_attr attr now old = with_times attr.atime attr.mtime now (with_mode attr.mode now (with_owner attr.uid attr.gid now old))

-- each row but the root stands in a directory
abbrev pub HasFolders : Tree → Type 0
HasFolders t = (n : List ℕ) (p : Path) → is_some (get t (n ∷ p)) ≡ true → is_folder (get t p) ≡ true

-- the row that stood there has these attributes, and its bytes
pub record IsGivenAt (old new : Tree) (now : Instant) (p : Path) (attr : Attr) : Type 0 where
  pub row : Row
  pub was : get old p ≡ Some row
  pub is : get new p ≡ Some (record { attr = given_attr attr now row.attr; bytes = row.bytes })

-- each path of the folder but its root has the folder's attributes below q; every other row is what it was
pub record AreGiven (old new : Tree) (now : Instant) (q : HostPath) (t : Tree) : Type 0 where
  pub each : (n : List ℕ) (r : HostPath) (row : Row) → get t (upward (n ∷ r)) ≡ Some row → IsGivenAt old new now (upward (q ++ n ∷ r)) row.attr
  pub rest : (p : Path) → ((n : List ℕ) (r : HostPath) → is_some (get t (upward (n ∷ r))) ≡ true → p ≢ upward (q ++ n ∷ r)) → get new p ≡ get old p

abbrev pub GivesAll : Type 0
GivesAll = (t : Tree) (q : HostPath) (depth : ℕ) (rows : List Dressed) (qs : List Question) (now : Instant) (old new : Tree) → HasFolders t → IsTour depth (told_kids t) [] q rows → Each IsGiven qs → commands_of qs ≡ gifts rows → Followed old now qs new → AreGiven old new now q t
