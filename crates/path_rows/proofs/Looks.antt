-- What stands under another name of a directory whose body was read.
use Rattle.std.proofs.Common.{◌≡◌, ℕ, List, sym, ◌∙◌, ap, subst}
use Rattle.std.specs.Prelude.{Vec}
use Rattle.std.specs.FinMap.{find}
use Rattle.std.specs.declared.alloc.Global.{Global}
use Rattle.std.specs.declared.option.Option.{Option}
use Rattle.block_id.specs.declared.id.BlockId.{BlockId}
use Rattle.path_walks.specs.blob_api.BlobMap.{BlobHoldings}
use Rattle.fs_model.specs.declared.attr.Attr.{Attr}
use Rattle.fs_model.specs.declared.attr.Kind.TheVariants.{Directory}
use Rattle.fs_model.specs.Tree.{Path, name_cmp, upward}
use Rattle.path_walks.specs.dir_entries.Places.{target_of}
use Rattle.path_walks.specs.Shows.{entries_at}
use Rattle.path_walks.specs.declared.spots.Occupancy.{Occupancy}
use Rattle.path_walks.specs.Sights.{Finding, SightIs, sight_of}
use Rattle.path_walks.proofs.Nodes.{lists_at, same_lists, read_is}
use Rattle.path_walks.proofs.Steps.{folder_is, seen_under}

module _ {S : Type 0} {H : BlobHoldings S} {a : S} {at : Occupancy} (w : Finding H a at) where
  abbrev kind : w.is.above.row.attr.kind ≡ Directory
  kind = folder_is w.tree w.ids w.path at.dir.place w.is.above w.is.folder

  pub seen_beside : (p : Path) → p ≡ upward at.dir.names.now → (n : List ℕ) (body : Vec ℕ Global) → body.items ≡ at.body.items → (o : Option (Attr × BlockId)) → find name_cmp n w.lists.listing ≡ target_of o
      → SightIs w.tree w.ids p n (sight_of at.dir.place body o)
  seen_beside p at_p n body text o finds =
      let lists = lists_at w.shows w.path w.is.above.row w.is.above.there kind in
      let same = same_lists (entries_at w.tree w.ids w.path) at.body.items (w.shows.forest.nodes w.path w.is.above.row w.is.above.there).body w.lists lists in
      subst (λ z. SightIs w.tree w.ids z n (sight_of at.dir.place body o)) (w.names ∙ sym at_p)
      (seen_under w.shows w.path at.dir.place w.is.above w.is.folder n body o (sym (ap (find name_cmp n) same) ∙ finds) (text ∙ read_is w.shows w.path w.is.above.row w.is.above.there kind at.body.items w.lists))
