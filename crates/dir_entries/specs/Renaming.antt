-- What an edit makes of the body of a directory.
use Rattle.std.specs.Prelude.{◌≡◌, ℕ, List, ◌++◌, take, drop}
use Rattle.std.specs.FinMap.{put}
use Rattle.fs_model.specs.Tree.{name_cmp}
use Rattle.dir_entries.specs.declared.edit.Edit.{Edit}
use Rattle.dir_entries.specs.Layout.{EntryTarget, Listing, IsListing, body_of}
use Rattle.dir_entries.specs.Places.{without}

-- the entries, where the one of a name went and another one came
abbrev pub renamed : List ℕ → List ℕ × EntryTarget → Listing → Listing
renamed name e listing = without name (put name_cmp e.0 e.1 listing)

-- the body with the edit's bytes between its places is that of these entries
pub record IsEdit (body : List ℕ) (edit : Edit) (listing : Listing) : Type 0 where
  pub entries : IsListing listing
  pub text : take edit.front body ++ (edit.bytes.items ++ drop edit.back body) ≡ body_of listing
