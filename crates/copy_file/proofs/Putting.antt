-- A new file, and then its bytes.
use Rattle.std.proofs.Common.{◌≡◌, ◌⊎◌, ℕ, ◌+◌, ◌^◌, List, [], ◌∷◌, length, inl, inr, refl, sym, ◌∙◌, ap, subst, arith}
use Rattle.std.specs.Prelude.{IfSome, Some, None}
use Rattle.std.specs.declared.option.Option.{Option}
use Rattle.std.specs.declared.result.Result.{Result}
use Rattle.std.specs.declared.result.Result.TheVariants.{Ok, Err}
use Rattle.std.proofs.lemmas.List.{length-append}
use Rattle.outside.specs.Causes.{RoseBy}
use Rattle.copy_sessions.specs.line_io.Reading.{total}
use Rattle.copy_sessions.specs.line_io.Streams.{Stream, HasFailed, TookMost}
use Rattle.copy_sessions.specs.session_lines.Driven.{IsUnfailed}
use Rattle.fs_model.specs.declared.command.Command.TheVariants as command
use Rattle.copy_row.specs.host_folder.Folders.{HostPath}
use Rattle.copy_row.specs.copy_laws.declared.copied.Totals.{Totals}
use Rattle.copy_row.specs.copy_laws.Ends.{total as total_of, counted, totals_of, up_to, dirs_by, files_by, links_by, bytes_by}
use Rattle.copy_row.specs.copy_laws.Importing.{writes, pieces_of, joined}
use Rattle.copy_row.specs.copy_laws.Questions.{Question, Asking, LawfulAsker}
use Rattle.copy_row.proofs.copy_laws_lemmas.Asking.{counted_then, counted_all}
use Rattle.copy_row.proofs.copy_laws_lemmas.Pieces.{joined-cut}
use Rattle.copy_row.specs.declared.stop.Stop.{Stop}
use Rattle.copy_row.specs.declared.stop.Stop.TheVariants as stop
use Rattle.copy_row.specs.Rows.{Asks, RowEnds, NeverHost, none_copied}
use Rattle.copy_row.proofs.Chains.{asks_then, asks_front}
use Rattle.copy_file.specs.Putting.{put_commands, one_file, FilePut, InputBy, BytesPut}

-- ---- how the input goes

pub still_input : {X : Type 0} (taken : ℕ) (input : Stream) (r : Result X Stop) (e : Stop) → r ≡ Err e → NeverHost r → IsUnfailed input → InputBy taken input r
still_input taken input (Ok x) e is never quiet = absurd cc
still_input taken input (Err stop.Memory) e is never quiet = quiet
still_input taken input (Err stop.Host) e is never quiet = absurd never
still_input taken input (Err stop.Stopped) e is never quiet = quiet
still_input taken input (Err (stop.Refused error)) e is never quiet = quiet

-- an input that failed after reads that didn't
pub input_fails : (taken read now : ℕ) (before mid after : Option (List ℕ)) (f0 f1 f2 : ℕ) → f1 ≡ f0 → total read mid ≡ total taken before → total now after ≡ total read mid
    → HasFailed (record { old = mid; new = after; faults = f1; risen = f2 }) ⊎ (now ≡ 2 ^ 63) → HasFailed (record { old = before; new = after; faults = f0; risen = f2 }) ⊎ TookMost taken (record { old = before; new = after; faults = f0; risen = f2 })
input_fails taken read now before mid after f0 f1 f2 quiet so_far counted (inl failed) = inl (subst (λ f. RoseBy 1 f f2) quiet failed)
input_fails taken read now before mid after f0 f1 f2 quiet so_far counted (inr most) = inr (ap (λ n. total n after) (sym most) ∙ (counted ∙ so_far))

-- ---- what the commands of a file count

no_dirs : (p : HostPath) (k : ℕ) (ps : List (List ℕ)) → total_of dirs_by (writes p k ps) ≡ 0
no_dirs p k [] = refl
no_dirs p k (v ∷ ps) = let more = no_dirs p (k + length v) ps in omega (arith, more)

no_files : (p : HostPath) (k : ℕ) (ps : List (List ℕ)) → total_of files_by (writes p k ps) ≡ 0
no_files p k [] = refl
no_files p k (v ∷ ps) = let more = no_files p (k + length v) ps in omega (arith, more)

no_links : (p : HostPath) (k : ℕ) (ps : List (List ℕ)) → total_of links_by (writes p k ps) ≡ 0
no_links p k [] = refl
no_links p k (v ∷ ps) = let more = no_links p (k + length v) ps in omega (arith, more)

all_bytes : (p : HostPath) (k : ℕ) (ps : List (List ℕ)) → total_of bytes_by (writes p k ps) ≡ length (joined ps)
all_bytes p k [] = refl
all_bytes p k (v ∷ ps) = ap (λ n. length v + n) (all_bytes p (k + length v) ps) ∙ sym (length-append v (joined ps))

counts_one : (p : HostPath) (bytes : List ℕ) → totals_of (put_commands p bytes) ≡ one_file bytes
counts_one p bytes =
    let ps : List (List ℕ) = pieces_of bytes in
    let whole : joined ps ≡ bytes = joined-cut 1048576 (length bytes) bytes (omega arith) (omega arith) in
    let d = no_dirs p 0 ps in
    let f = no_files p 0 ps in
    let l = no_links p 0 ps in
    let b = all_bytes p 0 ps in
    let all : length (joined ps) ≡ length bytes = ap length whole in
    let dirs : up_to (total_of dirs_by (put_commands p bytes)) ≡ 0 = omega (arith, d) in
    let files : up_to (total_of files_by (put_commands p bytes)) ≡ 1 = omega (arith, f) in
    let links : up_to (total_of links_by (put_commands p bytes)) ≡ 0 = omega (arith, l) in
    let size : up_to (total_of bytes_by (put_commands p bytes)) ≡ up_to (length bytes) = omega (arith, b, all) in
    λ i. record { dirs = dirs i; files = files i; links = links i; bytes = size i }

-- ---- the file, and then its bytes

-- what an end says of the questions holds whatever the result would have been
other_ends : (X Y : Type 0) (p : HostPath) (qs : List Question) (e : Stop) → RowEnds {X = X} p qs (Err e) → RowEnds {X = Y} p qs (Err e)
other_ends X Y p qs stop.Memory h = h
other_ends X Y p qs stop.Host h = h
other_ends X Y p qs stop.Stopped h = h
other_ends X Y p qs (stop.Refused e) h = h

abbrev bytes_of : Option (List ℕ) → List ℕ
bytes_of None = []
bytes_of (Some w) = w

told_bytes : (come : Option (List ℕ)) → IfSome come (λ w. w ≡ bytes_of come)
told_bytes None = tt
told_bytes (Some w) = refl

module _ {A : Type 0} (M : Asking A) (lawful : LawfulAsker M) where
  -- the commands for these bytes were asked, but not all
  put_stops : (a b : A) (come : Option (List ℕ)) (p : HostPath) (bytes : List ℕ) (e : Stop) → IfSome come (λ w. w ≡ bytes) → Asks M a b p (put_commands p bytes) {X = Unit {0}} (Err e) → FilePut M a b come p (Err e)
  put_stops a b come p bytes e told asks = record {
    bytes = bytes;
    qs = asks.qs;
    told = told;
    asked = asks.asked;
    is = record { ends = other_ends (Unit {0}) Totals p asks.qs e asks.ends; commands = asks.commands; counts = tt };
  }

  -- the file isn't made
  pub put_unmade : (a b : A) (come : Option (List ℕ)) (p : HostPath) (e : Stop) → Asks M a b p (command.Mkfile p ∷ []) {X = Unit {0}} (Err e) → FilePut M a b come p (Err e)
  put_unmade a b come p e asks =
      put_stops a b come p (bytes_of come) e (told_bytes come) (asks_front M a b p (command.Mkfile p ∷ []) (writes p 0 (pieces_of (bytes_of come))) e asks)

  -- it is made, but not all of its bytes are written
  pub put_unwritten : (a b c : A) (come : Option (List ℕ)) (p : HostPath) (before after : Totals) (e : Stop) → Asks M a b p (command.Mkfile p ∷ []) {X = Unit {0}} (Ok tt) → BytesPut M b c come p before after {X = Unit {0}} (Err e)
      → FilePut M a c come p (Err e)
  put_unwritten a b c come p before after e made w =
      put_stops a c come p w.bytes e w.told (asks_then M lawful a b c p (command.Mkfile p ∷ []) (writes p 0 (pieces_of w.bytes)) (Err e) made w.asks)

  pub put_whole : (a b c : A) (come : Option (List ℕ)) (p : HostPath) (before after : Totals) → Asks M a b p (command.Mkfile p ∷ []) {X = Unit {0}} (Ok tt) → before ≡ counted none_copied (command.Mkfile p ∷ [])
      → BytesPut M b c come p before after {X = Unit {0}} (Ok tt) → FilePut M a c come p (Ok after)
  put_whole a b c come p before after made count w =
      let asks = asks_then M lawful a b c p (command.Mkfile p ∷ []) (writes p 0 (pieces_of w.bytes)) (Ok tt) made w.asks in
      record {
        bytes = w.bytes;
        qs = asks.qs;
        told = w.told;
        asked = asks.asked;
        is = record {
          ends = asks.ends;
          commands = asks.commands;
          counts =
              w.counts ∙ (ap (λ z. counted z (writes p 0 (pieces_of w.bytes))) count
              ∙ (counted_then none_copied (command.Mkfile p ∷ []) (writes p 0 (pieces_of w.bytes))
              ∙ (counted_all (put_commands p w.bytes) ∙ counts_one p w.bytes)));
        };
      }
