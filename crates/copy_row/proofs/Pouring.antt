-- A file of a tree that is put into a folder piece by piece.
use Rattle.std.proofs.Common.{◌≡◌, inl, inr, ◌⊎◌, ℕ, ◌+◌, ◌<◌, ◌≤◌, List, [], ◌++◌, length, take, drop, refl, sym, ◌∙◌, ap, subst, arith, append_assoc}
use Rattle.std.specs.Prelude.{Some, None}
use Rattle.std.specs.FinMap.{get, insert}
use Rattle.std.specs.declared.option.Option.{Option}
use Rattle.std.specs.declared.result.Result.TheVariants.{Ok, Err}
use Rattle.std.proofs.lemmas.List.{length-take, length-append, take_all, take-append-drop, drop_at}
use Rattle.std.proofs.lemmas.Option.{same_Some}
use Rattle.fs_model.specs.declared.attr.Kind.TheVariants.{File}
use Rattle.copy_laws.specs.host_folder.Folders.{HostRow, HostPath, HostTree, IsMade, IsAppended}
use Rattle.copy_laws.proofs.host_folder_lemmas.Inserts.{here, again}
use Rattle.copy_laws.specs.Exporting.{IsRead}
use Rattle.copy_laws.specs.Questions.{Asking, LawfulAsker}
use Rattle.copy_laws.proofs.Asking.{asked_none}
use Rattle.copy_row.specs.declared.stop.Stop.{Stop}
use Rattle.copy_row.specs.declared.stop.Stop.TheVariants as stop
use Rattle.copy_row.specs.Reads.{Reads, NeverAsked, SaysPiece, IsSoFar, IsAllOut, BytesOut, IsOutTo}
use Rattle.copy_row.proofs.ByKind.{row_of}
use Rattle.copy_row.proofs.Served.{ends_then, ends_error, ends_never, served_append, tells_front, tells_rest, asked_more}

abbrev file_row : List ℕ → HostRow
file_row w = record { kind = File; bytes = w }

same_bytes : (w v : List ℕ) → Some (file_row w) ≡ Some (file_row v) → w ≡ v
same_bytes w v e = ap (λ (row : HostRow). row.bytes) (same_Some _ _ e)

-- bytes behind those of a file that was made
appended_told : (t m : HostTree) (now : Option HostTree) (p : HostPath) (w v : List ℕ) → get t p ≡ None → m ≡ insert t p (file_row w) → IsAppended (Some m) now p v → IsMade (Some t) now p File (w ++ v)
appended_told t m now p w v free is (x, (there, after)) =
    let same : x ≡ w = same_bytes x w (sym there ∙ (ap (λ z. get z p) is ∙ here t p (file_row w))) in
    (free, after ∙ ap Some (ap (λ z. insert z p (file_row (x ++ v))) is ∙ (again t p (file_row w) (file_row (x ++ v)) ∙ ap (λ z. insert t p (file_row (z ++ v))) same)))

pub appended : (first mid now : Option HostTree) (p : HostPath) (w v : List ℕ) → IsMade first mid p File w → IsAppended mid now p v → IsMade first now p File (w ++ v)
appended None mid now p w v made h = subst (λ z. IsAppended z now p v) made h
appended (Some t) mid now p w v made h = appended_told t (insert t p (file_row w)) now p w v made.0 refl (subst (λ z. IsAppended z now p v) made.1 h)

one_file : (u : HostTree) (p : HostPath) (w v : List ℕ) → get u p ≡ Some (file_row w) → get u p ≡ Some (file_row v) → w ≡ v
one_file u p w v h g = same_bytes w v (sym h ∙ g)

-- what is left of the file begins with the piece
piece_left : (u : HostTree) (first mid : Option HostTree) (host : HostPath) (place : ℕ) (piece : List ℕ) (x : IsSoFar u first mid host) → length x.bytes ≡ place → IsRead u host place 1048576 piece → piece ≡ take 1048576 x.rest
piece_left u first mid host place piece x long r =
    r.is ∙ ap (take 1048576) (ap (drop place) (one_file u host r.all (x.bytes ++ x.rest) r.there x.there) ∙ drop_at x.bytes x.rest place long)

so_far_more : (u : HostTree) (first mid now : Option HostTree) (host : HostPath) (piece : List ℕ) (x : IsSoFar u first mid host) → piece ≡ take 1048576 x.rest → IsAppended mid now host piece
    → (y : IsSoFar u first now host) × (y.bytes ≡ x.bytes ++ piece)
so_far_more u first mid now host piece x is h = (
  record {
    bytes = x.bytes ++ piece;
    rest = drop 1048576 x.rest;
    there = x.there ∙ ap (λ w. Some (file_row w)) (ap (λ z. x.bytes ++ z) (sym (take-append-drop 1048576 x.rest) ∙ ap (λ z. z ++ drop 1048576 x.rest) (sym is)) ∙ sym (append_assoc x.bytes piece (drop 1048576 x.rest)));
    made = appended first mid now host x.bytes piece x.made h;
  },
  refl,
)

so_far_last : (u : HostTree) (first mid now : Option HostTree) (host : HostPath) (place count : ℕ) (piece : List ℕ) (x : IsSoFar u first mid host) → length x.bytes ≡ place → piece ≡ take 1048576 x.rest → length piece < 1048576 → count ≡ place + length piece
    → IsAppended mid now host piece → IsAllOut u first now host count
so_far_last u first mid now host place count piece x long is few sum h =
    let size : length piece ≡ length (take 1048576 x.rest) = ap length is in
    let all : piece ≡ x.rest = is ∙ take_all 1048576 x.rest (omega (arith, size, length-take 1048576 x.rest, few)) in
    record {
      bytes = x.bytes ++ piece;
      there = x.there ∙ ap (λ w. Some (file_row (x.bytes ++ w))) (sym all);
      made = appended first mid now host x.bytes piece x.made h;
      long = omega (arith, length-append x.bytes piece, long, sum);
    }

-- a part of the piece was put there, or nothing
so_far_part : (u : HostTree) (first mid now : Option HostTree) (host : HostPath) (piece : List ℕ) (x : IsSoFar u first mid host) → piece ≡ take 1048576 x.rest → (now ≡ mid) ⊎ ((k : ℕ) × IsAppended mid now host (take k piece)) → IsSoFar u first now host
so_far_part u first mid now host piece x is (inl same) = subst (λ z. IsSoFar u first z host) (sym same) x
so_far_part u first mid now host piece x is (inr (k, h)) = record {
  bytes = x.bytes ++ take k piece;
  rest = drop k piece ++ drop 1048576 x.rest;
  there = x.there ∙ ap (λ w. Some (file_row w)) (ap (λ z. x.bytes ++ z) split ∙ sym (append_assoc x.bytes (take k piece) (drop k piece ++ drop 1048576 x.rest)));
  made = appended first mid now host x.bytes (take k piece) x.made h;
}
  where
    split : x.rest ≡ take k piece ++ (drop k piece ++ drop 1048576 x.rest)
    split =
        sym (take-append-drop 1048576 x.rest)
        ∙ (ap (λ z. z ++ drop 1048576 x.rest) (sym is ∙ sym (take-append-drop k piece))
        ∙ append_assoc (take k piece) (drop k piece) (drop 1048576 x.rest))

module _ {A : Type 0} (M : Asking A) (lawful : LawfulAsker M) where
  -- before the first piece
  pub out_none : (a : A) (before : Option HostTree) (tree host : HostPath) → IsOutTo M a a before before tree host 0
  out_none a before tree host = record {
    qs = [];
    asked = asked_none M lawful a;
    served = tt;
    of = λ u q first at some tells kind made.
        let found = row_of u host File (get u host) refl kind in
        (record { bytes = []; rest = found.0; there = found.1; made = made }, refl);
  }

  -- the next piece isn't given
  pub out_unread : (a b c : A) (before mid : Option HostTree) (tree host : HostPath) (place : ℕ) (e : Stop) → IsOutTo M a b before mid tree host place → Reads M b c tree {X = List ℕ} (SaysPiece place) (Err e) → BytesOut M a c before mid tree host (Err e)
  out_unread a b c before mid tree host place e w r = record {
    qs = w.qs ++ r.qs;
    asked = asked_more M lawful a b c w.qs r.qs w.asked w.served r.asked;
    ends = ends_error (List ℕ) ℕ tree (w.qs ++ r.qs) e (ends_then {X = List ℕ} tree w.qs r.qs (Err e) w.served r.ends);
    of = λ u q first at some tells kind made. (w.of u q first at some (tells_front u q w.qs r.qs tells) kind made).0;
  }

  -- it can't be put into the folder
  pub out_unput : (a b c : A) (before mid now : Option HostTree) (tree host : HostPath) (place : ℕ) (piece : List ℕ) (e : Stop) → IsOutTo M a b before mid tree host place → Reads M b c tree (SaysPiece place) (Ok piece) → NeverAsked {X = Unit {0}} (Err e)
      → (now ≡ mid) ⊎ ((k : ℕ) × IsAppended mid now host (take k piece)) → BytesOut M a c before now tree host (Err e)
  out_unput a b c before mid now tree host place piece e w r never h = record {
    qs = w.qs ++ r.qs;
    asked = asked_more M lawful a b c w.qs r.qs w.asked w.served r.asked;
    ends = ends_never (Unit {0}) ℕ tree (w.qs ++ r.qs) e (served_append w.qs r.qs w.served r.ends) never;
    of = λ u q first at some tells kind made.
        let x = w.of u q first at some (tells_front u q w.qs r.qs tells) kind made in
        so_far_part u first mid now host piece x.0 (piece_left u first mid host place piece x.0 x.1 (r.says u q host at (tells_rest u q w.qs r.qs tells) some)) h;
  }

  -- the last piece, which is shorter
  pub out_last : (a b c : A) (before mid now : Option HostTree) (tree host : HostPath) (place count : ℕ) (piece : List ℕ) → IsOutTo M a b before mid tree host place → Reads M b c tree (SaysPiece place) (Ok piece) → length piece < 1048576 → count ≡ place + length piece
      → IsAppended mid now host piece → BytesOut M a c before now tree host (Ok count)
  out_last a b c before mid now tree host place count piece w r few sum h = record {
    qs = w.qs ++ r.qs;
    asked = asked_more M lawful a b c w.qs r.qs w.asked w.served r.asked;
    ends = served_append w.qs r.qs w.served r.ends;
    of = λ u q first at some tells kind made.
        let x = w.of u q first at some (tells_front u q w.qs r.qs tells) kind made in
        so_far_last u first mid now host place count piece x.0 x.1 (piece_left u first mid host place piece x.0 x.1 (r.says u q host at (tells_rest u q w.qs r.qs tells) some)) few sum h;
  }

  -- a whole piece more
  pub out_more : (a b c : A) (before mid now : Option HostTree) (tree host : HostPath) (place next : ℕ) (piece : List ℕ) → IsOutTo M a b before mid tree host place → Reads M b c tree (SaysPiece place) (Ok piece) → 1048576 ≤ length piece → next ≡ place + 1048576
      → IsAppended mid now host piece → IsOutTo M a c before now tree host next
  out_more a b c before mid now tree host place next piece w r whole sum h = record {
    qs = w.qs ++ r.qs;
    asked = asked_more M lawful a b c w.qs r.qs w.asked w.served r.asked;
    served = served_append w.qs r.qs w.served r.ends;
    of = λ u q first at some tells kind made.
        let x = w.of u q first at some (tells_front u q w.qs r.qs tells) kind made in
        let is = piece_left u first mid host place piece x.0 x.1 (r.says u q host at (tells_rest u q w.qs r.qs tells) some) in
        let y = so_far_more u first mid now host piece x.0 is h in
        (y.0, ap length y.1 ∙ long x.0.bytes x.0.rest is x.1);
  }
    where
      long : (w rest : List ℕ) → piece ≡ take 1048576 rest → length w ≡ place → length (w ++ piece) ≡ next
      long w rest is at = let size : length piece ≡ length (take 1048576 rest) = ap length is in omega (arith, length-append w piece, size, length-take 1048576 rest, whole, at, sum)

  -- no more is asked
  pub out_ends : (a b : A) (before mid : Option HostTree) (tree host : HostPath) (place : ℕ) → IsOutTo M a b before mid tree host place → BytesOut M a b before mid tree host (Err stop.Memory)
  out_ends a b before mid tree host place w = record {
    qs = w.qs;
    asked = w.asked;
    ends = w.served;
    of = λ u q first at some tells kind made. (w.of u q first at some tells kind made).0;
  }
