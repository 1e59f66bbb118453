-- One step of a walk.
use Rattle.std.proofs.Common.{◌≡◌, ℕ, ◌+◌, ◌<◌, false, cond, List, ◌∷◌, take, get_or, length, refl, sym, ◌∙◌, ap, subst}
use Rattle.std.specs.Prelude.{Vec}
use Rattle.std.specs.FinMap.{get, find}
use Rattle.std.specs.declared.alloc.Global.{Global}
use Rattle.std.specs.declared.option.Option.{Option}
use Rattle.std.specs.declared.option.Option.TheVariants.{None, Some}
use Rattle.std.proofs.lemmas.Option.{same_Some, none-some}
use Rattle.block_id.specs.declared.id.BlockId.{BlockId}
use Rattle.dir_blob.specs.blob_api.BlobMap.{Id, BlobMap, BlobHoldings}
use Rattle.fs_model.specs.declared.attr.Attr.{Attr}
use Rattle.fs_model.specs.declared.attr.Kind.TheVariants.{Directory}
use Rattle.fs_model.specs.declared.error.FsError.TheVariants.{NoEntry, NotDirectory}
use Rattle.fs_model.specs.Tree.{Path, Row, Tree, name_cmp, is_directory, upward}
use Rattle.fs_model.specs.LookUp.{LookedUp, Found, Free, Bad, goes_on, walk}
use Rattle.fs_model.specs.declared.error.FsError.{FsError}
use Rattle.fs_model.proofs.PutRows.{below_file, below_none}
use Rattle.dir_blob.specs.dir_entries.Layout.{EntryTarget, body_of}
use Rattle.dir_blob.specs.dir_entries.Places.{target_of}
use Rattle.dir_blob.specs.Directories.{IsDirectory}
use Rattle.fs_model.proofs.PathLemmas.{names_more}
use Rattle.path_walks.specs.Shows.{target_for, ShowsBy}
use Rattle.path_walks.specs.declared.spots.Place.{Place}
use Rattle.path_walks.specs.declared.spots.Spot.{Spot}
use Rattle.path_walks.specs.declared.spots.Spot.TheVariants.{Here, Wrong}
use Rattle.path_walks.specs.Showing.{BlobsShow}
use Rattle.path_walks.specs.Sights.{IsAt, IsWrong, SpotIs, SightIs, sight_of, Walking}
use Rattle.path_walks.proofs.Nodes.{lists_at, directory_at}

pub folder_is : (t : Tree) (ids : Path → Id) (p : Path) (dir : Place) (at : IsAt t ids p dir) → dir.attr.kind ≡ Directory → at.row.attr.kind ≡ Directory
folder_is t ids p dir at kind = ap (λ (a : Attr). a.kind) at.attr ∙ kind

-- the walk's directory as its blob
abbrev pub directory_seen : {S : Type 0} {H : BlobHoldings S} {a : S} {m : BlobMap} {root : Id} {t : Tree} {ids : Path → Id} → ShowsBy m root t ids → H.stands_for a m
    → (p : Path) (dir : Place) (at : IsAt t ids p dir) → dir.attr.kind ≡ Directory → IsDirectory H a dir.blob.0
directory_seen {t = t} {ids = ids} shows stands p dir at kind = directory_at shows stands p at.row at.there (folder_is t ids p dir at kind) dir.blob.0 at.blob

goes_in : (row : Row) (o : Option Row) → row.attr.kind ≡ Directory → goes_on (Found row) o ≡ elim o as (λ _. LookedUp) [ None ↦ Free | Some next ↦ Found next ]
goes_in row None kind = ap (λ k. cond (is_directory k) Free (Bad NotDirectory)) kind
goes_in row (Some next) kind = ap (λ k. cond (is_directory k) (Found next) (Bad NotDirectory)) kind

module _ {m : BlobMap} {root : Id} {t : Tree} {ids : Path → Id} (shows : ShowsBy m root t ids) (p : Path) (dir : Place) (at : IsAt t ids p dir) (kind : dir.attr.kind ≡ Directory) (n : List ℕ) where
  abbrev pub row_kind : at.row.attr.kind ≡ Directory
  row_kind = folder_is t ids p dir at kind

  walks : (o : Option Row) → get t (n ∷ p) ≡ o → walk t (n ∷ p) ≡ elim o as (λ _. LookedUp) [ None ↦ Free | Some next ↦ Found next ]
  walks o e = ap (λ s. goes_on s (get t (n ∷ p))) at.walked ∙ (ap (goes_on (Found at.row)) e ∙ goes_in at.row o row_kind)

  -- the entry that was found is the row below
  pub stepped_to : (attr : Attr) (blob : BlockId) → find name_cmp n (lists_at shows p at.row at.there row_kind).listing ≡ Some (record { attr = attr; blob = blob.0 })
      → IsAt t ids (n ∷ p) (record { attr = attr; blob = blob; holder = dir.blob })
  stepped_to attr blob found = below (get t (n ∷ p)) refl (sym ((lists_at shows p at.row at.there row_kind).entries n) ∙ found)
    where
      attr_is : (x y : EntryTarget) → Some x ≡ Some y → x.attr ≡ y.attr
      attr_is x y e = ap (λ (z : EntryTarget). z.attr) (same_Some _ _ e)

      blob_is : (x y : EntryTarget) → Some x ≡ Some y → x.blob ≡ y.blob
      blob_is x y e = ap (λ (z : EntryTarget). z.blob) (same_Some _ _ e)

      below : (o : Option Row) → get t (n ∷ p) ≡ o → target_for (ids (n ∷ p)) (get t (n ∷ p)) ≡ Some (record { attr = attr; blob = blob.0 }) → IsAt t ids (n ∷ p) (record { attr = attr; blob = blob; holder = dir.blob })
      below None e h = absurd (none-some {A = EntryTarget} (record { attr = attr; blob = blob.0 }) (sym (ap (target_for (ids (n ∷ p))) e) ∙ h))
      below (Some row) e h =
          let same : Some (record { attr = row.attr; blob = ids (n ∷ p) }) ≡ Some (record { attr = attr; blob = blob.0 }) = sym (ap (target_for (ids (n ∷ p))) e) ∙ h in
          record { row = row; there = e; walked = walks (Some row) e; attr = attr_is _ _ same; blob = blob_is _ _ same; holder = at.blob }

  pub stepped_out : find name_cmp n (lists_at shows p at.row at.there row_kind).listing ≡ None → get t (n ∷ p) ≡ None
  stepped_out found = below (get t (n ∷ p)) refl (sym ((lists_at shows p at.row at.there row_kind).entries n) ∙ found)
    where
      below : (o : Option Row) → get t (n ∷ p) ≡ o → target_for (ids (n ∷ p)) (get t (n ∷ p)) ≡ None → get t (n ∷ p) ≡ None
      below None e h = e
      below (Some row) e h = absurd (none-some {A = EntryTarget} (record { attr = row.attr; blob = ids (n ∷ p) }) (sym (sym (ap (target_for (ids (n ∷ p))) e) ∙ h)))

  pub walk_free : get t (n ∷ p) ≡ None → walk t (n ∷ p) ≡ Free
  walk_free e = walks None e

  -- below a free path there is no entry
  pub free_wrong : get t (n ∷ p) ≡ None → IsWrong t (n ∷ p) NoEntry
  free_wrong e = record { none = e; below = λ k. ap (λ s. goes_on s (get t (k ∷ (n ∷ p)))) (walk_free e) }

pub seen_under : {m : BlobMap} {root : Id} {t : Tree} {ids : Path → Id} (shows : ShowsBy m root t ids) (p : Path) (dir : Place) (at : IsAt t ids p dir) (kind : dir.attr.kind ≡ Directory) (n : List ℕ) (body : Vec ℕ Global) (o : Option (Attr × BlockId))
    → find name_cmp n (lists_at shows p at.row at.there (row_kind shows p dir at kind n)).listing ≡ target_of o → body.items ≡ body_of (lists_at shows p at.row at.there (row_kind shows p dir at kind n)).listing
    → SightIs t ids p n (sight_of dir body o)
seen_under shows p dir at kind n body None found text =
    let lists = lists_at shows p at.row at.there (row_kind shows p dir at kind n) in
    record {
      vacant = record { above = at; folder = kind; none = stepped_out shows p dir at kind n found };
      lists = record { listing = lists.listing; is = record { entries = lists.is.entries; text = text }; entries = lists.entries };
    }
seen_under shows p dir at kind n body (Some x) found text =
    let lists = lists_at shows p at.row at.there (row_kind shows p dir at kind n) in
    record {
      found = record { above = at; folder = kind; here = stepped_to shows p dir at kind n x.0 x.1 found };
      lists = record { listing = lists.listing; is = record { entries = lists.is.entries; text = text }; entries = lists.entries };
    }

pub names_on : (ns : List (List ℕ)) (i : ℕ) (n : List ℕ) → i < length ns → n ≡ get_or ns i n → n ∷ upward (take i ns) ≡ upward (take (i + 1) ns)
names_on ns i n lt e = ap (λ x. x ∷ upward (take i ns)) e ∙ sym (names_more ns i n lt)

abbrev pub at_spot : {S : Type 0} {H : BlobHoldings S} {a : S} {spot : Spot} (w : Walking H a spot) (dir : Place) → spot ≡ Here dir → IsAt w.tree w.ids w.path dir
at_spot w dir is = subst (SpotIs w.tree w.ids w.path) is w.is

abbrev pub walking : {S : Type 0} {H : BlobHoldings S} {a b : S} {root : Id} {spot : Spot} (n : BlobsShow H a root) → (p : Path) → H.stands_for b n.map → SpotIs n.tree n.ids p spot → Walking H b spot
walking {root = root} n p stands is = record { map = n.map; stands = stands; root = root; tree = n.tree; ids = n.ids; shows = n.shows; path = p; is = is }

abbrev pub at_here : (t : Tree) (ids : Path → Id) (p : Path) (spot : Spot) → SpotIs t ids p spot → (dir : Place) → spot ≡ Here dir → IsAt t ids p dir
at_here t ids p spot h dir is = subst (SpotIs t ids p) is h

abbrev pub wrong_here : (t : Tree) (ids : Path → Id) (p : Path) (spot : Spot) → SpotIs t ids p spot → (e : FsError) → spot ≡ Wrong e → IsWrong t p e
wrong_here t ids p spot h e is = subst (SpotIs t ids p) is h

wrong_below : (row : Row) (o : Option Row) → is_directory row.attr.kind ≡ false → goes_on (Found row) o ≡ Bad NotDirectory
wrong_below row None e = ap (λ b. cond b Free (Bad NotDirectory)) e
wrong_below row (Some next) e = ap (λ b. cond b (Found next) (Bad NotDirectory)) e

pub no_folder : (t : Tree) (ids : Path → Id) (p : Path) (dir : Place) → IsAt t ids p dir → is_directory dir.attr.kind ≡ false → (n : List ℕ) → walk t (n ∷ p) ≡ Bad NotDirectory
no_folder t ids p dir at e n = ap (λ s. goes_on s (get t (n ∷ p))) at.walked ∙ wrong_below at.row (get t (n ∷ p)) (ap (λ (a : Attr). is_directory a.kind) at.attr ∙ e)

-- below a file or a link is no directory
pub file_wrong : {m : BlobMap} {root : Id} {t : Tree} {ids : Path → Id} → ShowsBy m root t ids → (p : Path) (dir : Place) → IsAt t ids p dir → is_directory dir.attr.kind ≡ false → (n : List ℕ) → IsWrong t (n ∷ p) NotDirectory
file_wrong {t = t} {ids = ids} shows p dir at e n = record {
  none = below_file t p at.row shows.well_formed.rooted at.there (ap (λ (a : Attr). is_directory a.kind) at.attr ∙ e) n;
  below = λ k. ap (λ s. goes_on s (get t (k ∷ (n ∷ p)))) (no_folder t ids p dir at e n);
}

-- and what is wrong stays so
pub wrong_on : {m : BlobMap} {root : Id} {t : Tree} {ids : Path → Id} → ShowsBy m root t ids → (p : Path) (e : FsError) → IsWrong t p e → (n : List ℕ) → IsWrong t (n ∷ p) e
wrong_on {t = t} shows p e wrong n = record {
  none = below_none t p shows.well_formed.rooted wrong.none n;
  below = λ k. ap (λ s. goes_on s (get t (k ∷ (n ∷ p)))) (wrong.below n);
}

abbrev pub wrong_spot : {S : Type 0} {H : BlobHoldings S} {a : S} {spot : Spot} (w : Walking H a spot) (e : FsError) → spot ≡ Wrong e → IsWrong w.tree w.path e
wrong_spot w e is = subst (SpotIs w.tree w.ids w.path) is w.is
