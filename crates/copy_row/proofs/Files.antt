-- A file that is copied piece by piece.
use Rattle.std.proofs.Common.{◌≡◌, ℕ, ◌+◌, ◌<◌, ◌≤◌, List, [], ◌∷◌, ◌++◌, length, take, drop, refl, sym, ◌∙◌, ap, subst, arith, append-nil, append_assoc}
use Rattle.std.specs.Prelude.{IfSome, Some, None}
use Rattle.std.specs.FinMap.{get}
use Rattle.std.specs.declared.option.Option.{Option}
use Rattle.std.specs.declared.result.Result.TheVariants.{Ok, Err}
use Rattle.std.proofs.lemmas.List.{length-take, length-append, take_all, take-append-drop, drop_at}
use Rattle.std.proofs.lemmas.Option.{same_Some}
use Rattle.fs_model.specs.declared.attr.Kind.TheVariants.{File}
use Rattle.fs_model.specs.declared.command.Command.{Command}
use Rattle.fs_model.specs.declared.command.Command.TheVariants as command
use Rattle.copy_laws.specs.host_folder.Folders.{HostRow, HostPath, HostTree}
use Rattle.copy_laws.specs.declared.copied.Totals.{Totals}
use Rattle.copy_laws.specs.Ends.{counted}
use Rattle.copy_laws.specs.Importing.{writes, pieces_of, cut, joined, AreFull}
use Rattle.copy_laws.specs.Questions.{Asking, LawfulAsker}
use Rattle.copy_laws.proofs.Asking.{counted_then}
use Rattle.copy_laws.proofs.Cutting.{cut_full, cut_last, cut_first, full_push, joined_append, writes_append}
use Rattle.copy_row.specs.declared.stop.Stop.{Stop}
use Rattle.copy_row.specs.declared.stop.Stop.TheVariants as stop
use Rattle.copy_row.specs.Rows.{Asks, IsWritten, FileCopied, IsPiece, HasFile}
use Rattle.copy_row.proofs.Chains.{asks_then, asks_none, asks_front, asks_memory, asks_host, asks_same}

abbrev IsFile : HostTree → HostPath → List ℕ → Type 0
IsFile t p w = get t p ≡ Some (record { kind = File; bytes = w })

one_file : (t : HostTree) (p : HostPath) (w v : List ℕ) → IsFile t p w → IsFile t p v → w ≡ v
one_file t p w v h g =
    let rows : ◌≡◌ {A = HostRow} (record { kind = File; bytes = w }) (record { kind = File; bytes = v }) = same_Some _ _ (sym h ∙ g) in
    ap (λ (row : HostRow). row.bytes) rows

-- what is left of the file begins with this piece
rest_with : (told : Option HostTree) (p : HostPath) (ps : List (List ℕ)) (place : ℕ) (piece : List ℕ) → place ≡ length (joined ps) → length piece ≤ 1048576
    → IfSome told (λ t. (rest : List ℕ) × IsFile t p (joined ps ++ rest)) → IfSome told (λ t. IsPiece t p place piece)
    → (rest : List ℕ) × (IfSome told (λ t. IsFile t p (joined ps ++ rest)) × (take 1048576 rest ≡ piece))
rest_with None p ps place piece long few file is = (piece, (tt, take_all 1048576 piece few))
rest_with (Some t) p ps place piece long few file is =
    let same : is.bytes ≡ joined ps ++ file.0 = one_file t p is.bytes (joined ps ++ file.0) is.there file.1 in
    let left : drop place is.bytes ≡ file.0 = ap (drop place) same ∙ drop_at (joined ps) file.0 place (sym long) in
    (file.0, (file.1, ap (take 1048576) (sym left) ∙ sym is.is))

some_rest : (told : Option HostTree) (p : HostPath) (ps : List (List ℕ)) → IfSome told (λ t. (rest : List ℕ) × IsFile t p (joined ps ++ rest)) → (rest : List ℕ) × IfSome told (λ t. IsFile t p (joined ps ++ rest))
some_rest None p ps file = ([], tt)
some_rest (Some t) p ps file = file

again : (told : Option HostTree) (p : HostPath) (w v : List ℕ) → w ≡ v → IfSome told (λ t. IsFile t p w) → IfSome told (λ t. IsFile t p v)
again told p w v e h = subst (λ z. IfSome told (λ t. IsFile t p z)) e h

from_rest : (told : Option HostTree) (p : HostPath) (ps : List (List ℕ)) (rest : List ℕ) → IfSome told (λ t. IsFile t p (joined ps ++ rest)) → IfSome told (λ t. (rest : List ℕ) × IsFile t p (joined ps ++ rest))
from_rest None p ps rest h = tt
from_rest (Some t) p ps rest h = (rest, h)

-- the pieces of a file that begins with full ones
pieces_with : (ps : List (List ℕ)) (rest : List ℕ) → AreFull 1048576 ps → pieces_of (joined ps ++ rest) ≡ ps ++ pieces_of rest
pieces_with ps rest full = cut_full 1048576 (length (joined ps ++ rest)) ps rest (omega arith) full (omega arith)

all_writes : (to : HostPath) (ps : List (List ℕ)) (rest : List ℕ) → AreFull 1048576 ps → writes to 0 ps ++ writes to (0 + length (joined ps)) (pieces_of rest) ≡ writes to 0 (pieces_of (joined ps ++ rest))
all_writes to ps rest full = sym (writes_append to 0 ps (pieces_of rest)) ∙ ap (writes to 0) (sym (pieces_with ps rest full))

no_rest : (rest : List ℕ) → take 1048576 rest ≡ [] → rest ≡ []
no_rest rest h = nothing rest (omega (arith, length-take 1048576 rest, ap length h))
  where
    nothing : (w : List ℕ) → length w ≡ 0 → w ≡ []
    nothing [] e = refl
    nothing (b ∷ w) e = absurd (omega arith)

short_rest : (rest piece : List ℕ) → take 1048576 rest ≡ piece → length piece < 1048576 → rest ≡ piece
short_rest rest piece h few =
    let long = length-take 1048576 rest in
    let is : length (take 1048576 rest) ≡ length piece = ap length h in
    sym (take_all 1048576 rest (omega (arith, long, is))) ∙ h

some_left : (rest piece : List ℕ) → take 1048576 rest ≡ piece → 0 < length piece → 0 < length rest
some_left rest piece h some =
    let long = length-take 1048576 rest in
    let is : length (take 1048576 rest) ≡ length piece = ap length h in
    omega (arith, long, is)

write_at : (to : HostPath) (place : ℕ) (ps : List (List ℕ)) (piece : List ℕ) → place ≡ length (joined ps) → writes to 0 (ps ++ piece ∷ []) ≡ writes to 0 ps ++ command.Write to place piece ∷ []
write_at to place ps piece long =
    let here : 0 + length (joined ps) ≡ place = omega (arith, long) in
    writes_append to 0 ps (piece ∷ []) ∙ ap (λ k. writes to 0 ps ++ command.Write to k piece ∷ []) here

module _ {A : Type 0} (M : Asking A) (lawful : LawfulAsker M) where
  -- before the first piece
  pub written_none : (a : A) (told : Option HostTree) (from to : HostPath) (totals : Totals) → IfSome told (λ t. HasFile t from) → IsWritten M a a told from to 0 totals totals
  written_none a told from to totals file = record {
    pieces = [];
    full = tt;
    long = refl;
    file = begin told file;
    asks = asks_none M lawful a to;
    counts = refl;
  }
    where
      begin : (told : Option HostTree) → IfSome told (λ t. HasFile t from) → IfSome told (λ t. (rest : List ℕ) × IsFile t from (joined [] ++ rest))
      begin None h = tt
      begin (Some t) h = (h.bytes, h.there)

  -- reading the next piece fails
  pub read_memory : {X : Type 0} (a b : A) (told : Option HostTree) (from to : HostPath) (place : ℕ) (before after : Totals) → IsWritten M a b told from to place before after → FileCopied M a b told from to before after {X = X} (Err stop.Memory)
  read_memory a b told from to place before after w =
      let rest = some_rest told from w.pieces w.file in
      record {
        bytes = joined w.pieces ++ rest.0;
        there = rest.1;
        asks = asks_same M a b to _ _ (Err stop.Memory) (all_writes to w.pieces rest.0 w.full) (asks_memory M a b to (writes to 0 w.pieces) (writes to (0 + length (joined w.pieces)) (pieces_of rest.0)) w.asks);
        counts = tt;
      }

  pub read_host : {X : Type 0} (a b : A) (told : Option HostTree) (from to : HostPath) (place : ℕ) (before after : Totals) → IsWritten M a b told from to place before after → FileCopied M a b told from to before after {X = X} (Err stop.Host)
  read_host a b told from to place before after w =
      let rest = some_rest told from w.pieces w.file in
      record {
        bytes = joined w.pieces ++ rest.0;
        there = rest.1;
        asks = asks_same M a b to _ _ (Err stop.Host) (all_writes to w.pieces rest.0 w.full) (asks_host M a b to (writes to 0 w.pieces) (writes to (0 + length (joined w.pieces)) (pieces_of rest.0)) w.asks);
        counts = tt;
      }

  -- no byte is left
  pub read_all : (a b : A) (told : Option HostTree) (from to : HostPath) (place : ℕ) (before after : Totals) (piece : List ℕ) → IsWritten M a b told from to place before after → length piece ≡ 0
      → IfSome told (λ t. IsPiece t from place piece) → FileCopied M a b told from to before after {X = Unit {0}} (Ok tt)
  read_all a b told from to place before after piece w none is =
      let rest = rest_with told from w.pieces place piece w.long (omega arith) w.file is in
      let empty : rest.0 ≡ [] = no_rest rest.0 (rest.1.1 ∙ nothing piece none) in
      let same : writes to 0 w.pieces ≡ writes to 0 (pieces_of (joined w.pieces ++ rest.0)) =
      ap (writes to 0) (sym (append-nil w.pieces)) ∙ (ap (λ z. writes to 0 (w.pieces ++ pieces_of z)) (sym empty) ∙ ap (writes to 0) (sym (pieces_with w.pieces rest.0 w.full))) in
      record {
        bytes = joined w.pieces ++ rest.0;
        there = rest.1.0;
        asks = asks_same M a b to _ _ (Ok tt) same w.asks;
        counts = w.counts ∙ ap (counted before) same;
      }
    where
      nothing : (v : List ℕ) → length v ≡ 0 → v ≡ []
      nothing [] e = refl
      nothing (b ∷ v) e = absurd (omega arith)

  -- the write of a piece ends the copy
  pub write_fails : {X : Type 0} (a b c : A) (told : Option HostTree) (from to : HostPath) (place : ℕ) (before mid after : Totals) (piece : List ℕ) (e : Stop) → IsWritten M a b told from to place before mid → 0 < length piece → length piece ≤ 1048576
      → IfSome told (λ t. IsPiece t from place piece) → Asks M b c to (command.Write to place piece ∷ []) {X = X} (Err e) → FileCopied M a c told from to before after {X = X} (Err e)
  write_fails {X = X} a b c told from to place before mid after piece e w some few is asks =
      let rest = rest_with told from w.pieces place piece w.long few w.file is in
      let more : List (List ℕ) = cut 1048576 (length (drop 1048576 rest.0)) (drop 1048576 rest.0) in
      let first : pieces_of rest.0 ≡ piece ∷ more = cut_first 1048576 rest.0 (omega arith) (some_left rest.0 piece rest.1.1 some) ∙ ap (λ z. z ∷ more) rest.1.1 in
      let here : 0 + length (joined w.pieces) ≡ place = omega (arith, w.long) in
      let tail : List Command = writes to (place + length piece) more in
      let same : (writes to 0 w.pieces ++ command.Write to place piece ∷ []) ++ tail ≡ writes to 0 (pieces_of (joined w.pieces ++ rest.0)) =
      append_assoc (writes to 0 w.pieces) (command.Write to place piece ∷ []) tail
      ∙ (ap (λ k. writes to 0 w.pieces ++ writes to k (piece ∷ more)) (sym here)
      ∙ (ap (λ z. writes to 0 w.pieces ++ writes to (0 + length (joined w.pieces)) z) (sym first)
      ∙ all_writes to w.pieces rest.0 w.full)) in
      record {
        bytes = joined w.pieces ++ rest.0;
        there = rest.1.0;
        asks = asks_same M a c to _ _ (Err e) same
            (asks_front M a c to (writes to 0 w.pieces ++ command.Write to place piece ∷ []) tail e (asks_then M lawful a b c to (writes to 0 w.pieces) (command.Write to place piece ∷ []) (Err e) w.asks asks));
        counts = tt;
      }

  -- the last piece, which is shorter
  pub write_last : (a b c : A) (told : Option HostTree) (from to : HostPath) (place : ℕ) (before mid after : Totals) (piece : List ℕ) → IsWritten M a b told from to place before mid → 0 < length piece → length piece < 1048576
      → IfSome told (λ t. IsPiece t from place piece) → Asks M b c to (command.Write to place piece ∷ []) {X = Unit {0}} (Ok tt) → after ≡ counted mid (command.Write to place piece ∷ []) → FileCopied M a c told from to before after {X = Unit {0}} (Ok tt)
  write_last a b c told from to place before mid after piece w some few is asks count =
      let rest = rest_with told from w.pieces place piece w.long (omega arith) w.file is in
      let left : rest.0 ≡ piece = short_rest rest.0 piece rest.1.1 few in
      let last : pieces_of rest.0 ≡ piece ∷ [] = ap pieces_of left ∙ cut_last 1048576 piece some (omega arith) in
      let same : writes to 0 w.pieces ++ command.Write to place piece ∷ [] ≡ writes to 0 (pieces_of (joined w.pieces ++ rest.0)) =
      sym (write_at to place w.pieces piece w.long) ∙ (ap (λ z. writes to 0 (w.pieces ++ z)) (sym last) ∙ ap (writes to 0) (sym (pieces_with w.pieces rest.0 w.full))) in
      record {
        bytes = joined w.pieces ++ rest.0;
        there = rest.1.0;
        asks = asks_same M a c to _ _ (Ok tt) same (asks_then M lawful a b c to (writes to 0 w.pieces) (command.Write to place piece ∷ []) (Ok tt) w.asks asks);
        counts = count ∙ (ap (λ z. counted z (command.Write to place piece ∷ [])) w.counts ∙ (counted_then before (writes to 0 w.pieces) (command.Write to place piece ∷ []) ∙ ap (counted before) same));
      }

  -- a full piece more
  pub write_more : (a b c : A) (told : Option HostTree) (from to : HostPath) (place next : ℕ) (before mid after : Totals) (piece : List ℕ) → IsWritten M a b told from to place before mid → length piece ≡ 1048576 → next ≡ place + length piece
      → IfSome told (λ t. IsPiece t from place piece) → Asks M b c to (command.Write to place piece ∷ []) {X = Unit {0}} (Ok tt) → after ≡ counted mid (command.Write to place piece ∷ []) → IsWritten M a c told from to next before after
  write_more a b c told from to place next before mid after piece w whole at is asks count =
      let rest = rest_with told from w.pieces place piece w.long (omega arith) w.file is in
      let split : joined w.pieces ++ rest.0 ≡ joined (w.pieces ++ piece ∷ []) ++ drop 1048576 rest.0 =
      ap (λ z. joined w.pieces ++ z) (sym (take-append-drop 1048576 rest.0) ∙ ap (λ z. z ++ drop 1048576 rest.0) rest.1.1)
      ∙ (sym (append_assoc (joined w.pieces) piece (drop 1048576 rest.0))
      ∙ ap (λ z. z ++ drop 1048576 rest.0) (ap (λ z. joined w.pieces ++ z) (sym (append-nil piece)) ∙ sym (joined_append w.pieces (piece ∷ [])))) in
      let size : length (joined (w.pieces ++ piece ∷ [])) ≡ length (joined w.pieces) + length piece =
      ap length (joined_append w.pieces (piece ∷ []) ∙ ap (λ z. joined w.pieces ++ z) (append-nil piece)) ∙ length-append (joined w.pieces) piece in
      record {
        pieces = w.pieces ++ piece ∷ [];
        full = full_push 1048576 w.pieces piece w.full whole;
        long = at ∙ (ap (λ k. k + length piece) w.long ∙ sym size);
        file = from_rest told from (w.pieces ++ piece ∷ []) (drop 1048576 rest.0) (again told from _ _ split rest.1.0);
        asks = asks_same M a c to _ _ (Ok tt) (sym (write_at to place w.pieces piece w.long)) (asks_then M lawful a b c to (writes to 0 w.pieces) (command.Write to place piece ∷ []) (Ok tt) w.asks asks);
        counts = count ∙ (ap (λ z. counted z (command.Write to place piece ∷ [])) w.counts ∙ (counted_then before (writes to 0 w.pieces) (command.Write to place piece ∷ []) ∙ ap (counted before) (sym (write_at to place w.pieces piece w.long))));
      }
