-- Pieces of the bytes that come, as those of a file that is told.
use Rattle.std.proofs.Common.{◌≡◌, ℕ, ◌+◌, ◌<◌, ◌≤◌, Bool, true, false, List, [], ◌∷◌, ◌++◌, length, take, drop, refl, sym, ◌∙◌, ap, subst, arith, append-nil}
use Rattle.std.specs.Prelude.{IfSome, Some, None, nat_lt}
use Rattle.std.specs.FinMap.{get, insert, empty}
use Rattle.std.specs.declared.option.Option.{Option}
use Rattle.std.specs.declared.result.Result.{Result}
use Rattle.std.proofs.lemmas.Bool.Decides.{nat_tests}
use Rattle.std.proofs.lemmas.List.{length-take, take_all, take_at, drop_at, drop-drop}
use Rattle.std.proofs.lemmas.Option.{same_Some}
use Rattle.outside.specs.Streams.{WereTaken, Ends}
use Rattle.fs_model.specs.declared.attr.Kind.TheVariants.{File}
use Rattle.copy_row.specs.host_folder.Folders.{HostRow, HostPath, HostTree}
use Rattle.copy_row.proofs.host_folder_lemmas.Inserts.{here}
use Rattle.copy_row.specs.copy_laws.declared.copied.Totals.{Totals}
use Rattle.copy_row.specs.copy_laws.Questions.{Asking}
use Rattle.copy_row.specs.declared.stop.Stop.{Stop}
use Rattle.copy_row.specs.Rows.{FileCopied, IsPiece, HasFile}
use Rattle.copy_file.specs.Putting.{IsTaken, BytesPut}

-- a block of which this was filled is a piece
pub taken_cut : (before after : Option (List ℕ)) (n : ℕ) (block cut : List ℕ) → length block ≡ 1048576 → n ≤ length block → cut ≡ take n block → WereTaken before after (take n block) → (n < length block → Ends after) → IsTaken before after cut
taken_cut before after n block cut whole fits is took short =
    let long : length cut ≡ n = omega (arith, ap length is, length-take n block, fits) in
    record {
      took = subst (λ z. WereTaken before after z) (sym is) took;
      few = omega (arith, long, fits, whole);
      last = λ h. short (omega (arith, h, long, whole));
    }

abbrev at : HostPath
at = [] ∷ []

abbrev no_rows : HostTree
no_rows = empty

abbrev file_row : List ℕ → HostRow
file_row w = record { kind = File; bytes = w }

-- a folder that tells these bytes as a file
abbrev pub told_file : Option (List ℕ) → Option HostTree
told_file None = None
told_file (Some w) = Some (insert no_rows at (file_row w))

abbrev pub file_path : HostPath
file_path = at

pub file_told : (come : Option (List ℕ)) → IfSome (told_file come) (λ t. HasFile t file_path)
file_told None = tt
file_told (Some w) = record { bytes = w; there = here no_rows at (file_row w) }

-- what is left of the bytes behind this place
abbrev pub Left : Option (List ℕ) → ℕ → Option (List ℕ) → Type 0
Left None place now = now ≡ None
Left (Some w) place now = now ≡ Some (drop place w)

pub left_all : (come : Option (List ℕ)) → Left come 0 come
left_all None = refl
left_all (Some w) = refl

taken_front : (piece rest : List ℕ) (after : Option (List ℕ)) → after ≡ Some rest → length piece ≤ 1048576 → (length piece < 1048576 → Ends after) → piece ≡ take 1048576 (piece ++ rest)
taken_front piece rest after left few last = by (nat_lt (length piece) 1048576) refl
  where
    by : (b : Bool) → nat_lt (length piece) 1048576 ≡ b → piece ≡ take 1048576 (piece ++ rest)
    by true e =
        let less : length piece < 1048576 = grind (arith, nat_tests) in
        let none : rest ≡ [] = subst Ends left (last less) in
        sym (ap (λ z. take 1048576 (piece ++ z)) none ∙ (ap (take 1048576) (append-nil piece) ∙ take_all 1048576 piece few))
    by false e =
        let more : 1048576 ≤ length piece = grind (arith, nat_tests) in
        sym (take_at piece rest 1048576 (omega (arith, more, few)))

-- the next piece is one of that file
pub next_told : (come before after : Option (List ℕ)) (place : ℕ) (piece : List ℕ) → Left come place before → IsTaken before after piece
    → IfSome (told_file come) (λ t. IsPiece t file_path place piece) × Left come (place + length piece) after
next_told None before after place piece left is = (tt, subst (λ z. WereTaken z after piece) left is.took)
next_told (Some w) before after place piece left is =
    let took : WereTaken (Some (drop place w)) after piece = subst (λ z. WereTaken z after piece) left is.took in (
      record {
        bytes = w;
        there = here no_rows at (file_row w);
        is = taken_front piece took.0 after took.2 is.few is.last ∙ ap (take 1048576) (sym took.1);
      },
      took.2 ∙ ap Some (sym (drop_at piece took.0 (length piece) refl) ∙ (ap (drop (length piece)) (sym took.1) ∙ drop-drop (length piece) place w)),
    )

-- what was written of the file was written of the bytes
pub bytes_put : {A : Type 0} (M : Asking A) (a b : A) (come : Option (List ℕ)) (to : HostPath) (before after : Totals) {X : Type 0} (r : Result X Stop) → FileCopied M a b (told_file come) file_path to before after r
    → BytesPut M a b come to before after r
bytes_put M a b come to before after r f = record { bytes = f.bytes; told = told come f.there; asks = f.asks; counts = f.counts }
  where
    told : (come : Option (List ℕ)) → IfSome (told_file come) (λ t. get t file_path ≡ Some (record { kind = File; bytes = f.bytes })) → IfSome come (λ w. w ≡ f.bytes)
    told None h = tt
    told (Some w) h =
        let rows : ◌≡◌ {A = HostRow} (file_row w) (file_row f.bytes) = same_Some _ _ (sym (here no_rows at (file_row w)) ∙ h) in
        ap (λ (row : HostRow). row.bytes) rows
