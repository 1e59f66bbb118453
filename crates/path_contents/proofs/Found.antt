-- What stands under a name, to be taken away or changed.
use Rattle.std.proofs.Common.{◌≡◌, ℕ, ◌≤◌, List, ◌∷◌, refl, sym, ◌∙◌, ap, subst}
use Rattle.std.specs.FinMap.{get, insert}
use Rattle.std.specs.declared.option.Option.TheVariants.{Some}
use Rattle.path_walks.specs.blob_api.BlobMap.{Id, BlobHoldings}
use Rattle.fs_model.specs.declared.attr.Attr.{Attr}
use Rattle.fs_model.specs.declared.limits.TheConstants.{MAX_MODE}
use Rattle.fs_model.specs.declared.reply.Reply.TheVariants.{Done}
use Rattle.fs_model.specs.Instant.{Instant}
use Rattle.fs_model.specs.Tree.{is_directory, FitsKind, IsWellFormed}
use Rattle.fs_model.specs.Step.{done}
use Rattle.fs_model.proofs.PutRows.{insert_found}
use Rattle.path_walks.specs.Showing.{IsShownBy, Performed}
use Rattle.path_walks.specs.Nodes.{Lists}
use Rattle.path_walks.specs.Shows.{entries_at}
use Rattle.path_walks.specs.declared.spots.Occupancy.{Occupancy}
use Rattle.path_walks.specs.Entries.{SettingIn}
use Rattle.fs_model.specs.declared.attributes.AttrChange.{AttrChange}
use Rattle.fs_model.specs.declared.attributes.AttrChange.TheVariants.{Mode, Owner, Times}
use Rattle.fs_model.specs.Changes.{changed_by}
use Rattle.path_contents.specs.Attributes.{ChangeFits}
use Rattle.path_walks.specs.Sights.{Finding}
use Rattle.path_walks.proofs.Told.{shown_done}
use Rattle.path_walks.proofs.Found.{q, is_kind}

pub kind_kept : (c : AttrChange) (now : Instant) (a : Attr) → a.kind ≡ (changed_by c now a).kind
kind_kept (Mode mode) now a = refl
kind_kept (Owner uid gid) now a = refl
kind_kept (Times atime mtime) now a = refl

pub mode_fits : (c : AttrChange) (now : Instant) (a : Attr) → ChangeFits c → a.mode ≤ MAX_MODE → (changed_by c now a).mode ≤ MAX_MODE
mode_fits (Mode mode) now a fits old = fits
mode_fits (Owner uid gid) now a fits old = old
mode_fits (Times atime mtime) now a fits old = old

module _ {S : Type 0} {H : BlobHoldings S} {a : S} {at : Occupancy} (w : Finding H a at) where
  abbrev n : List ℕ
  n = at.name.now

  pub there_as : (z : List ℕ) → n ≡ z → get w.tree (z ∷ w.path) ≡ Some w.is.here.row
  there_as z e = ap (λ x. get w.tree (x ∷ w.path)) (sym e) ∙ w.is.here.there

  pub blob_as : (z : List ℕ) → n ≡ z → w.ids (z ∷ w.path) ≡ at.place.blob.0
  blob_as z e = ap (λ x. w.ids (x ∷ w.path)) (sym e) ∙ w.is.here.blob

  pub formed_as : (z : List ℕ) → n ≡ z → (attr : Attr) → at.place.attr.kind ≡ attr.kind → attr.mode ≤ MAX_MODE → (bytes : List ℕ) → FitsKind attr.kind bytes
      → IsWellFormed (insert w.tree (z ∷ w.path) (record { attr = attr; bytes = bytes }))
  formed_as z e attr kind mode bytes fits =
      insert_found w.tree z w.path (record { attr = attr; bytes = bytes }) w.is.here.row w.shows.well_formed (there_as z e) (ap is_directory (is_kind w attr.kind kind)) (record { content = fits; mode = mode })

  abbrev pub setting_by : (b : S) → H.stands_for b w.map → (z : List ℕ) → n ≡ z → (attr : Attr) → at.place.attr.kind ≡ attr.kind → attr.mode ≤ MAX_MODE → (blob : Id) → at.place.blob.0 ≡ blob
      → SettingIn H b at.dir.place.blob.0 at.body.items (z, record { attr = attr; blob = blob })
  setting_by b stands z e attr kind mode blob is = record {
    setting = record {
      map = w.map;
      stands = stands;
      root = w.root;
      tree = w.tree;
      ids = w.ids;
      shows = w.shows;
      path = w.path;
      row = w.is.here.row;
      there = there_as z e;
      dir_id = w.is.above.blob;
      blob = blob_as z e ∙ is;
      kind = is_kind w attr.kind kind;
      well_formed = formed_as z e attr kind mode;
    };
    lists = w.lists;
  }

  abbrev pub setting : (b : S) → H.stands_for b w.map → (z : List ℕ) → n ≡ z → (attr : Attr) → at.place.attr.kind ≡ attr.kind → attr.mode ≤ MAX_MODE → (read : List ℕ) → read ≡ at.body.items → SettingIn H b at.dir.place.blob.0 read (z, record { attr = attr; blob = at.place.blob.0 })
  setting b stands z e attr kind mode read same =
      record { setting = (setting_by b stands z e attr kind mode at.place.blob.0 refl).setting; lists = subst (Lists (entries_at w.tree w.ids w.path)) (sym same) w.lists }

  pub set_done : (z : List ℕ) → n ≡ z → (attr attr2 : Attr) → attr ≡ attr2 → (bytes : List ℕ) (c : S) → IsShownBy H c w.root (insert w.tree (z ∷ w.path) (record { attr = attr; bytes = bytes })) w.ids
      → Performed H c w.root (done (insert w.tree (q w) (record { attr = attr2; bytes = bytes }))) Done
  set_done z e attr attr2 same bytes c shown =
      shown_done (insert w.tree (q w) (record { attr = attr2; bytes = bytes })) w.ids
      (subst (λ x. IsShownBy H c w.root (insert w.tree (q w) (record { attr = x; bytes = bytes })) w.ids) same
      (subst (λ x. IsShownBy H c w.root (insert w.tree (x ∷ w.path) (record { attr = attr; bytes = bytes })) w.ids) (sym e) shown))
