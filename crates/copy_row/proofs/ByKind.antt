-- A row that is copied, by its kind.
use Rattle.std.proofs.Common.{◌≡◌, ℕ, List, [], ◌∷◌, ◌++◌, refl, sym, ◌∙◌, ap, subst}
use Rattle.std.specs.Prelude.{IfSome, OnOk, Some, None}
use Rattle.std.specs.FinMap.{get}
use Rattle.std.specs.declared.option.Option.{Option}
use Rattle.std.specs.declared.result.Result.{Result}
use Rattle.std.specs.declared.result.Result.TheVariants.{Ok, Err}
use Rattle.fs_model.specs.declared.attr.Kind.{Kind}
use Rattle.fs_model.specs.declared.attr.Kind.TheVariants.{Directory, File, Link}
use Rattle.fs_model.specs.declared.command.Command.{Command}
use Rattle.fs_model.specs.declared.command.Command.TheVariants as command
use Rattle.copy_laws.specs.host_folder.Folders.{HostRow, HostPath, HostTree, directory_row, kind_in}
use Rattle.copy_laws.specs.declared.copied.Totals.{Totals}
use Rattle.copy_laws.specs.Ends.{counted}
use Rattle.copy_laws.specs.Importing.{writes, pieces_of}
use Rattle.copy_laws.specs.Questions.{Asking, LawfulAsker}
use Rattle.copy_laws.proofs.Asking.{counted_then}
use Rattle.copy_row.specs.declared.stop.Stop.{Stop}
use Rattle.copy_row.specs.Rows.{Asks, StopsBy, FaultsBy, HasFile, HasLink, FileCopied, LinkCopied, IsPlaced, RowCopied}
use Rattle.copy_row.proofs.Chains.{asks_then, asks_front}

-- what the told tree has where a row of this kind is
pub row_of : (t : HostTree) (p : HostPath) (k : Kind) (o : Option HostRow) → get t p ≡ o → kind_in (get t p) ≡ Some k → (w : List ℕ) × (get t p ≡ Some (record { kind = k; bytes = w }))
row_of t p k None e h = let bad : None ≡ Some k = sym (ap kind_in e) ∙ h in absurd cc
row_of t p k (Some row) e h =
    let is : Some row.kind ≡ Some k = sym (ap kind_in e) ∙ h in
    let same : row.kind ≡ k = cc in
    (row.bytes, e ∙ ap (λ z. Some (record { kind = z; bytes = row.bytes })) same)

pub has_file : (told : Option HostTree) (p : HostPath) (k : Kind) → k ≡ File → IfSome told (λ t. IsPlaced t p k) → IfSome told (λ t. HasFile t p)
has_file None p k e h = tt
has_file (Some t) p k e h = let found = row_of t p File (get t p) refl (h.there ∙ ap Some e) in record { bytes = found.0; there = found.1 }

pub has_link : (told : Option HostTree) (p : HostPath) (k : Kind) → k ≡ Link → IfSome told (λ t. IsPlaced t p k) → IfSome told (λ t. HasLink t p)
has_link None p k e h = tt
has_link (Some t) p k e h = let found = row_of t p Link (get t p) refl (h.there ∙ ap Some e) in record { bytes = found.0; there = found.1 }

has_directory : (told : Option HostTree) (p : HostPath) (k : Kind) → k ≡ Directory → IfSome told (λ t. IsPlaced t p k) → IfSome told (λ t. get t p ≡ Some directory_row)
has_directory None p k e h = tt
has_directory (Some t) p k e h =
    let found = row_of t p Directory (get t p) refl (h.there ∙ ap Some e) in
    let empty : found.0 ≡ [] = h.tree.plain p (record { kind = Directory; bytes = found.0 }) found.1 refl in
    found.1 ∙ ap (λ z. Some (record { kind = Directory; bytes = z })) empty

file_there : (told : Option HostTree) (p : HostPath) → IfSome told (λ t. HasFile t p) → (w : List ℕ) × IfSome told (λ t. get t p ≡ Some (record { kind = File; bytes = w }))
file_there None p h = ([], tt)
file_there (Some t) p h = (h.bytes, h.there)

pub stops_from : {X : Type 0} (old mid new : ℕ) (r : Result X Stop) → mid ≡ old → StopsBy mid new r → StopsBy old new r
stops_from {X = X} old mid new r e h = subst (λ z. StopsBy {X = X} z new r) e h

pub faults_from : {X : Type 0} (old mid new : ℕ) (r : Result X Stop) → mid ≡ old → FaultsBy mid new r → FaultsBy old new r
faults_from {X = X} old mid new r e h = subst (λ z. FaultsBy {X = X} z new r) e h

counts_then : (r : Result (Unit {0}) Stop) (before mid after : Totals) (cs ds : List Command) → mid ≡ counted before cs → OnOk r (after ≡ counted mid ds) → OnOk r (after ≡ counted before (cs ++ ds))
counts_then (Ok x) before mid after cs ds e h = h ∙ (ap (λ z. counted z ds) e ∙ counted_then before cs ds)
counts_then (Err x) before mid after cs ds e h = tt

module _ {A : Type 0} (M : Asking A) where
  -- the file isn't made
  pub file_stops : (a b : A) (told : Option HostTree) (from to : HostPath) (before after : Totals) (e : Stop) → IfSome told (λ t. HasFile t from) → Asks M a b to (command.Mkfile to ∷ []) {X = Unit {0}} (Err e)
      → RowCopied M a b told File from to before after {X = Unit {0}} (Err e)
  file_stops a b told from to before after e has asks =
      let file = file_there told from has in
      record {
        row = record { kind = File; bytes = file.0 };
        of_kind = refl;
        plain = λ bad. absurd (no_directory bad);
        there = file.1;
        asks = asks_front M a b to (command.Mkfile to ∷ []) (writes to 0 (pieces_of file.0)) e asks;
        counts = tt;
      }
    where
      no_directory : File ≡ Directory → ⊥
      no_directory bad = cc

  pub directory_made : (a b : A) (told : Option HostTree) (k : Kind) (from to : HostPath) (before after : Totals) (r : Result (Unit {0}) Stop) → k ≡ Directory → IfSome told (λ t. IsPlaced t from k) → Asks M a b to (command.Mkdir to ∷ []) r
      → OnOk r (after ≡ counted before (command.Mkdir to ∷ [])) → RowCopied M a b told k from to before after r
  directory_made a b told k from to before after r e placed asks counts = record {
    row = directory_row;
    of_kind = sym e;
    plain = λ h. refl;
    there = has_directory told from k e placed;
    asks = asks;
    counts = counts;
  }

  pub link_made : (a b : A) (told : Option HostTree) (k : Kind) (from to : HostPath) (before after : Totals) (r : Result (Unit {0}) Stop) → k ≡ Link → LinkCopied M a b told from to before after r → RowCopied M a b told k from to before after r
  link_made a b told k from to before after r e l = record {
    row = record { kind = Link; bytes = l.bytes };
    of_kind = sym e;
    plain = λ bad. absurd (no_directory bad);
    there = l.there;
    asks = l.asks;
    counts = l.counts;
  }
    where
      no_directory : Link ≡ Directory → ⊥
      no_directory bad = cc

  pub as_kind : (a b : A) (told : Option HostTree) (k : Kind) (from to : HostPath) (before after : Totals) (r : Result (Unit {0}) Stop) → k ≡ File → RowCopied M a b told File from to before after r → RowCopied M a b told k from to before after r
  as_kind a b told k from to before after r e x = subst (λ z. RowCopied M a b told z from to before after r) (sym e) x

module _ {A : Type 0} (M : Asking A) (lawful : LawfulAsker M) where
  -- the file is made, and its bytes are copied
  pub file_row : (a b c : A) (told : Option HostTree) (from to : HostPath) (before mid after : Totals) (r : Result (Unit {0}) Stop) → Asks M a b to (command.Mkfile to ∷ []) {X = Unit {0}} (Ok tt) → mid ≡ counted before (command.Mkfile to ∷ [])
      → FileCopied M b c told from to mid after r → RowCopied M a c told File from to before after r
  file_row a b c told from to before mid after r made count f = record {
    row = record { kind = File; bytes = f.bytes };
    of_kind = refl;
    plain = λ bad. absurd (no_directory bad);
    there = f.there;
    asks = asks_then M lawful a b c to (command.Mkfile to ∷ []) (writes to 0 (pieces_of f.bytes)) r made f.asks;
    counts = counts_then r before mid after (command.Mkfile to ∷ []) (writes to 0 (pieces_of f.bytes)) count f.counts;
  }
    where
      no_directory : File ≡ Directory → ⊥
      no_directory bad = cc
