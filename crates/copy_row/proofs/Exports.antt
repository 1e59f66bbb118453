-- A row of a tree that is made in a folder, by its kind.
use Rattle.std.proofs.Common.{◌≡◌, inl, inr, ◌⊎◌, ℕ, List, [], refl, sym, ◌∙◌, ap, subst, append-nil}
use Rattle.std.specs.Prelude.{Some}
use Rattle.std.specs.FinMap.{get}
use Rattle.std.specs.declared.option.Option.{Option}
use Rattle.std.specs.declared.result.Result.{Result}
use Rattle.std.specs.declared.result.Result.TheVariants.{Ok, Err}
use Rattle.fs_model.specs.declared.attr.Kind.{Kind}
use Rattle.fs_model.specs.declared.attr.Kind.TheVariants.{Directory, File, Link}
use Rattle.copy_laws.specs.host_folder.Folders.{HostPath, HostTree, IsHostTree, IsMade, directory_row, kind_in}
use Rattle.copy_laws.specs.declared.copied.Totals.{Totals}
use Rattle.copy_laws.specs.Questions.{Asking, LawfulAsker}
use Rattle.copy_laws.proofs.Asking.{asked_none}
use Rattle.copy_row.specs.declared.stop.Stop.{Stop}
use Rattle.copy_row.specs.Reads.{Reads, NeverAsked, SaysTarget, IsAllOut, IsSoFar, BytesOut, DirectoryOut, IsRowOut, IsRowPart, RowOut, with_row}
use Rattle.copy_row.proofs.ByKind.{row_of}
use Rattle.copy_row.proofs.Served.{ends_error, ends_never}

-- nothing, or an empty row of this kind
empty_part : (u : HostTree) (before after : Option HostTree) (host : HostPath) (k : Kind) → kind_in (get u host) ≡ Some k → (after ≡ before) ⊎ IsMade before after host k [] → IsRowPart u before after host
empty_part u before after host k kind (inl same) = inl same
empty_part u before after host k kind (inr made) = let found = row_of u host k (get u host) refl kind in inr (record { kind = k; bytes = [] }, (made, (found.0, found.1)))

directory_there : (u : HostTree) (host : HostPath) → IsHostTree u → kind_in (get u host) ≡ Some Directory → get u host ≡ Some directory_row
directory_there u host tree kind =
    let found = row_of u host Directory (get u host) refl kind in
    found.1 ∙ ap (λ w. Some (record { kind = Directory; bytes = w })) (tree.plain host (record { kind = Directory; bytes = found.0 }) found.1 refl)

module _ {A : Type 0} (M : Asking A) (lawful : LawfulAsker M) where
  -- the row isn't made, for want of memory or since the folder failed
  pub row_unmade : (a : A) (before after : Option HostTree) (k : Kind) (tree host : HostPath) (first totals : Totals) (e : Stop) → NeverAsked {X = Unit {0}} (Err e) → (after ≡ before) ⊎ IsMade before after host k [] → RowOut M a a before after k tree host first totals {X = Unit {0}} (Err e)
  row_unmade a before after k tree host first totals e never h = record {
    qs = [];
    asked = asked_none M lawful a;
    ends = ends_never (Unit {0}) (Unit {0}) tree [] e tt never;
    of = λ u q at some rooted tells kind. empty_part u before after host k kind h;
  }

  pub directory_row_out : (a : A) (before after : Option HostTree) (tree host : HostPath) (first totals : Totals) (r : Result (Unit {0}) Stop) → NeverAsked r → DirectoryOut before after host first totals r → RowOut M a a before after Directory tree host first totals r
  directory_row_out a before after tree host first totals (Ok x) never h = record {
    qs = [];
    asked = asked_none M lawful a;
    ends = tt;
    of = λ u q at some rooted tells kind. record { row = directory_row; there = directory_there u host rooted kind; made = h.0; counts = h.1 };
  }
  directory_row_out a before after tree host first totals (Err e) never h = row_unmade a before after Directory tree host first totals e never h

module _ {A : Type 0} (M : Asking A) where
  -- a new file's bytes aren't all put there
  pub file_row_part : (a b : A) (before mid after : Option HostTree) (tree host : HostPath) (first totals : Totals) (e : Stop) → IsMade before mid host File [] → BytesOut M a b mid after tree host (Err e) → RowOut M a b before after File tree host first totals {X = Unit {0}} (Err e)
  file_row_part a b before mid after tree host first totals e made w = record {
    qs = w.qs;
    asked = w.asked;
    ends = ends_error ℕ (Unit {0}) tree w.qs e w.ends;
    of = λ u q at some rooted tells kind. part u (w.of u q before at some tells kind made);
  }
    where
      part : (u : HostTree) → IsSoFar u before after host → IsRowPart u before after host
      part u x = inr (record { kind = File; bytes = x.bytes }, (x.made, (x.rest, x.there)))

  pub file_row_out : (a b : A) (before mid after : Option HostTree) (tree host : HostPath) (first totals : Totals) (count : ℕ) → IsMade before mid host File [] → BytesOut M a b mid after tree host (Ok count) → totals ≡ with_row first File count
      → RowOut M a b before after File tree host first totals {X = Unit {0}} (Ok tt)
  file_row_out a b before mid after tree host first totals count made w counts = record {
    qs = w.qs;
    asked = w.asked;
    ends = w.ends;
    of = λ u q at some rooted tells kind. whole u (w.of u q before at some tells kind made);
  }
    where
      whole : (u : HostTree) → IsAllOut u before after host count → IsRowOut u before after host first totals
      whole u x = record { row = record { kind = File; bytes = x.bytes }; there = x.there; made = x.made; counts = counts ∙ ap (with_row first File) x.long }

  -- the link's target isn't given
  pub link_row_unread : (a b : A) (before : Option HostTree) (tree host : HostPath) (first totals : Totals) (e : Stop) → Reads M a b tree {X = List ℕ} SaysTarget (Err e) → RowOut M a b before before Link tree host first totals {X = Unit {0}} (Err e)
  link_row_unread a b before tree host first totals e r = record {
    qs = r.qs;
    asked = r.asked;
    ends = ends_error (List ℕ) (Unit {0}) tree r.qs e r.ends;
    of = λ u q at some rooted tells kind. inl refl;
  }

  pub link_row_part : (a b : A) (before after : Option HostTree) (tree host : HostPath) (first totals : Totals) (target : List ℕ) (e : Stop) → Reads M a b tree SaysTarget (Ok target) → NeverAsked {X = Unit {0}} (Err e) → (after ≡ before) ⊎ IsMade before after host Link target
      → RowOut M a b before after Link tree host first totals {X = Unit {0}} (Err e)
  link_row_part a b before after tree host first totals target e r never h = record {
    qs = r.qs;
    asked = r.asked;
    ends = ends_never (Unit {0}) (Unit {0}) tree r.qs e r.ends never;
    of = λ u q at some rooted tells kind. part u (r.says u q host at tells some) h;
  }
    where
      part : (u : HostTree) → get u host ≡ Some (record { kind = Link; bytes = target }) → (after ≡ before) ⊎ IsMade before after host Link target → IsRowPart u before after host
      part u there (inl same) = inl same
      part u there (inr made) = inr (record { kind = Link; bytes = target }, (made, ([], there ∙ ap (λ w. Some (record { kind = Link; bytes = w })) (sym (append-nil target)))))

  pub link_row_out : (a b : A) (before after : Option HostTree) (tree host : HostPath) (first totals : Totals) (target : List ℕ) → Reads M a b tree SaysTarget (Ok target) → IsMade before after host Link target → totals ≡ with_row first Link 0
      → RowOut M a b before after Link tree host first totals {X = Unit {0}} (Ok tt)
  link_row_out a b before after tree host first totals target r made counts = record {
    qs = r.qs;
    asked = r.asked;
    ends = r.ends;
    of = λ u q at some rooted tells kind. record { row = record { kind = Link; bytes = target }; there = r.says u q host at tells some; made = made; counts = counts };
  }

  pub of_kind : (a b : A) (before after : Option HostTree) (k l : Kind) (tree host : HostPath) (first totals : Totals) (r : Result (Unit {0}) Stop) → k ≡ l → RowOut M a b before after l tree host first totals r → RowOut M a b before after k tree host first totals r
  of_kind a b before after k l tree host first totals r e x = subst (λ z. RowOut M a b before after z tree host first totals r) (sym e) x
