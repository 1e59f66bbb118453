-- Copying a tree into a folder: what is asked, what the replies say of the tree, and what the copy ends with.
use Rattle.std.specs.Prelude.{◌≡◌, ◌⊎◌, ℕ, ◌+◌, ◌<◌, true, List, [], ◌∷◌, ◌++◌, length, take, drop, IfSome, IsTrue, is_some}
use Rattle.std.specs.FinMap.{get, entries}
use Rattle.std.specs.declared.option.Option.{Option}
use Rattle.std.specs.declared.option.Option.TheVariants.{None, Some}
use Rattle.std.specs.declared.result.Result.{Result}
use Rattle.std.specs.declared.result.Result.TheVariants.{Ok, Err}
use Rattle.fs_model.specs.declared.attr.Kind.TheVariants.{File, Link}
use Rattle.fs_model.specs.declared.command.Command.{Command}
use Rattle.fs_model.specs.declared.command.Command.TheVariants as command
use Rattle.fs_model.specs.declared.error.FsError.{FsError}
use Rattle.fs_model.specs.declared.error.FsError.TheVariants.{Invalid, NotEmpty}
use Rattle.fs_model.specs.declared.limits.TheConstants.{MAX_PATH_TEXT}
use Rattle.fs_model.specs.declared.reply.Reply.{Reply}
use Rattle.fs_model.specs.declared.reply.Reply.TheVariants.{Rows, Target, Content, Error}
use Rattle.fs_model.specs.Fitting.{is_target}
use Rattle.fs_model.specs.Step.{by_kind}
use Rattle.host_folder.specs.Folders.{HostRow, HostPath, HostTree, IsHostTree, AreRowsOf, RowsRise}
use Rattle.copy_laws.specs.declared.asker.Stopped.{Stopped}
use Rattle.copy_laws.specs.declared.copied.Totals.{Totals}
use Rattle.copy_laws.specs.declared.copied.CopyFail.{CopyFail}
use Rattle.copy_laws.specs.declared.copied.CopyFail.TheVariants as fail
use Rattle.copy_laws.specs.Ends.{AreShort, path_of, text_size, up_to}
use Rattle.copy_laws.specs.Questions.{Question}

-- a question of an export: files are read a piece of this size at a time
abbrev pub IsReader : Command → Type 0
IsReader (command.List p) = Unit {0}
IsReader (command.Read p from count) = count ≡ 1048576
IsReader (command.Readlink p) = Unit {0}
IsReader c = ⊥

-- answered, and by no error
abbrev pub IsServed : Result Reply Stopped → Type 0
IsServed (Ok (Error e)) = ⊥
IsServed (Ok reply) = Unit {0}
IsServed (Err stopped) = ⊥

abbrev pub AreServed : List Question → Type 0
AreServed [] = Unit {0}
AreServed (q ∷ qs) = (IsReader q.command × IsServed q.outcome) × AreServed qs

-- all were served but the last, which is for this path
pub record LastRead (qs : List Question) (p : HostPath) (outcome : Result Reply Stopped) : Type 0 where
  pub front : List Question
  pub last : Command
  pub are : qs ≡ front ++ record { command = last; outcome = outcome } ∷ []
  pub served : AreServed front
  pub reader : IsReader last
  pub at : path_of last ≡ p

-- bytes of the file from this place on, so many at most
pub record IsRead (u : HostTree) (r : HostPath) (from count : ℕ) (bytes : List ℕ) : Type 0 where
  pub all : List ℕ
  pub there : get u r ≡ Some (record { kind = File; bytes = all })
  pub is : bytes ≡ take count (drop from all)

-- the reply is that of a tree whose rows below q are those of u
abbrev pub IsOf : HostTree → HostPath → Command → Reply → Type 0
IsOf u q (command.List p) (Rows rows) = (r : HostPath) → p ≡ q ++ r → AreRowsOf u r rows × RowsRise rows
IsOf u q (command.Read p from count) (Content bytes) = (n : List ℕ) (r : HostPath) → p ≡ q ++ n ∷ r → IsRead u (n ∷ r) from count bytes
IsOf u q (command.Readlink p) (Target target) = (n : List ℕ) (r : HostPath) → p ≡ q ++ n ∷ r → get u (n ∷ r) ≡ Some (record { kind = Link; bytes = target })
IsOf u q c reply = Unit {0}

abbrev pub IsOutcomeOf : HostTree → HostPath → Command → Result Reply Stopped → Type 0
IsOutcomeOf u q c (Ok reply) = IsOf u q c reply
IsOutcomeOf u q c (Err stopped) = Unit {0}

abbrev pub Tells : HostTree → HostPath → List Question → Type 0
Tells u q [] = Unit {0}
Tells u q (x ∷ qs) = IsOutcomeOf u q x.command x.outcome × Tells u q qs

-- it holds of each folder's tree that the replies tell
abbrev pub OfEach : HostPath → List Question → (HostTree → Type 0) → Type 0
OfEach q qs P = (u : HostTree) → IsHostTree u → Tells u q qs → P u

-- where the folder's tree was told, it is told afterwards as well, and this holds of it
abbrev pub OnTold : Option HostTree → Option HostTree → (HostTree → Type 0) → Type 0
OnTold None after P = after ≡ None
OnTold (Some before) after P = (v : HostTree) × ((after ≡ Some v) × P v)

-- nothing but its root stands in the folder
abbrev pub IsBare : HostTree → Type 0
IsBare t = (n : List ℕ) (r : HostPath) → get t (n ∷ r) ≡ None

abbrev pub HasRows : HostTree → Type 0
HasRows t = (n : List ℕ) × (is_some (get t (n ∷ [])) ≡ true)

-- the same kind, and a front part of the bytes
abbrev pub IsFrontRow : HostRow → Option HostRow → Type 0
IsFrontRow row there = (rest : List ℕ) × (there ≡ Some (record { kind = row.kind; bytes = row.bytes ++ rest }))

-- each path of the one but its root stands in the other, with its kind, and with its bytes or more
abbrev pub IsPartOf : HostTree → HostTree → Type 0
IsPartOf v u = (n : List ℕ) (r : HostPath) (row : HostRow) → get v (n ∷ r) ≡ Some row → IsFrontRow row (get u (n ∷ r))

-- a number of each row but the root, added together
abbrev pub sum_in : (HostRow → ℕ) → List (HostPath × HostRow) → ℕ
sum_in f [] = 0
sum_in f (([], row) ∷ es) = sum_in f es
sum_in f ((n ∷ r, row) ∷ es) = f row + sum_in f es

-- the directories, files and links, and the bytes of the files
abbrev pub totals_in : List (HostPath × HostRow) → Totals
totals_in es = record {
  dirs = up_to (sum_in (λ row. by_kind row.kind 1 0 0) es);
  files = up_to (sum_in (λ row. by_kind row.kind 0 1 0) es);
  links = up_to (sum_in (λ row. by_kind row.kind 0 0 1) es);
  bytes = up_to (sum_in (λ row. by_kind row.kind 0 (length row.bytes) 0) es);
}

-- the folder is the tree that the replies tell, the totals are its counts, and each path's text is within its limit
pub record IsSame (before after : Option HostTree) (q : HostPath) (qs : List Question) (totals : Totals) : Type 0 where
  pub served : AreServed qs
  pub same : OfEach q qs (λ u. OnTold before after (λ v. v ≡ u))
  pub counts : OfEach q qs (λ u. totals ≡ totals_in (entries u))
  pub short : OfEach q qs (λ u. AreShort [] (entries u))

-- the error that a reply is; a target that no link has counts as one
abbrev pub Refuses : FsError → Reply → Type 0
Refuses e (Error error) = error ≡ e
Refuses e (Target target) = (e ≡ Invalid) × (IsTrue (is_target target) → ⊥)
Refuses e reply = ⊥

abbrev pub FailsOut : HostPath → List Question → CopyFail → Type 0
FailsOut q qs fail.Memory = AreServed qs
FailsOut q qs fail.Host = AreServed qs
FailsOut q qs fail.Stopped = (p : HostPath) × ((stopped : Stopped) × LastRead qs p (Err stopped))
FailsOut q qs (fail.LongPath p) = (AreServed qs × (MAX_PATH_TEXT < text_size p)) × OfEach q qs (λ u. is_some (get u p) ≡ true)
FailsOut q qs (fail.Refused p e) = (reply : Reply) × (Refuses e reply × LastRead qs p (Ok reply))

-- after an error the folder is a part of the tree that the replies tell
abbrev pub EndsOut : Option HostTree → Option HostTree → HostPath → List Question → Result Totals CopyFail → Type 0
EndsOut before after q qs (Ok totals) = IsSame before after q qs totals
EndsOut before after q qs (Err e) = FailsOut q qs e × OfEach q qs (λ u. OnTold before after (λ v. IsPartOf v u))

-- nothing was asked: the folder has rows, or its list failed
abbrev pub IsIdleBy : Option HostTree → Result Totals CopyFail → Type 0
IsIdleBy before (Ok totals) = ⊥
IsIdleBy before (Err fail.Memory) = Unit {0}
IsIdleBy before (Err fail.Host) = Unit {0}
IsIdleBy before (Err fail.Stopped) = ⊥
IsIdleBy before (Err (fail.LongPath p)) = ⊥
IsIdleBy before (Err (fail.Refused p e)) = ((p ≡ []) × (e ≡ NotEmpty)) × IfSome before HasRows

pub record IsIdle (before after : Option HostTree) (qs : List Question) (result : Result Totals CopyFail) : Type 0 where
  pub none : qs ≡ []
  pub same : after ≡ before
  pub ends : IsIdleBy before result

-- the folder has no rows, so it was copied into
pub record IsBegun (before after : Option HostTree) (q : HostPath) (qs : List Question) (result : Result Totals CopyFail) : Type 0 where
  pub bare : IfSome before IsBare
  pub ends : EndsOut before after q qs result

abbrev pub IsExport : Option HostTree → Option HostTree → HostPath → List Question → Result Totals CopyFail → Type 0
IsExport before after q qs result = IsIdle before after qs result ⊎ IsBegun before after q qs result
