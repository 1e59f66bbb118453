-- A certificate's owners are fixed by what was given.
use Rattle.std.proofs.Common.{◌≡◌, ℕ, true, List, refl, sym, ◌∙◌, ap, subst}
use Rattle.std.specs.Prelude.{is_some}
use Rattle.std.specs.Cmp.Lexicographic.{nat_list_cmp_total}
use Rattle.std.specs.FinMap.{find, get, slice_cmp-IsAntisymmetric, nat_cmp-IsAntisymmetric}
use Rattle.std.specs.FinMap.Entries.{same_entries}
use Rattle.std.specs.declared.option.Option.{Option}
use Rattle.std.specs.declared.option.Option.TheVariants.{None, Some}
use Rattle.block_id.proofs.Options.{some_of}
use Rattle.check_walk.specs.Given.{Given, content_of}
use Rattle.check_walk.specs.data_tree.Stored.{BlobTree}
use Rattle.path_walks.specs.Shows.{above}
use Rattle.path_walks.specs.fs_blobs.Headers.{blob}
use Rattle.fs_model.specs.Tree.{Path}
use Rattle.check_walk.specs.store_api.Content.{Id, id_cmp}
use Rattle.check_walk.specs.store_api.Holdings.{has_id}
use Rattle.check_rules.specs.Certificates.{Owners, Certifies}
use Rattle.check_rules.proofs.OneTree.{same_blob}
use Rattle.check_rules.proofs.Refuting.{needed_there}
use Rattle.check_rules.proofs.Standing.{reached_at, shown_reached}

module _ (payload : ℕ) (root : Id) (live : List Id) (given : Given) (one other : Owners) (c : Certifies payload root live given one) (d : Certifies payload root live given other) where
  -- a path of the one tree has the same blob in the other
  same_blobs : (path : Path) → is_some (get c.tree path) ≡ true → (is_some (get d.tree path) ≡ true) × (d.ids path ≡ c.ids path)
  same_blobs path some =
      let G = content_of given in
      let row = some_of (get c.tree path) some in
      let whole = needed_there payload root G G (λ x text h. h) c.stores c.shows in
      let reached = shown_reached payload root G G (λ x text h. h) c.stores c.shows whole path row.0 row.1 in
      let at = reached_at payload root G G (λ x text h. h) d.stores d.shows path row.0.attr.kind (c.ids path) (above c.ids path) reached in
      (ap is_some at.there, at.id_is)

  -- an owner of an id in the one list is the one in the other
  same_owner : (id : Id) (p q : Path) → find id_cmp id one ≡ Some p → find id_cmp id other ≡ Some q → p ≡ q
  same_owner id p q e f =
      let a = c.owners.owned id p e in
      let b = d.owners.owned id q f in
      let s = same_blobs p a.there in
      let row = some_of (get d.tree p) s.0 in
      let node = d.shows.forest.nodes p row.0 row.1 in
      let text = blob row.0.attr.kind (above d.ids p) node.body in
      let stored = d.stores.blob (d.ids p) text node.there in
      let moved = subst (λ i. BlobTree payload (content_of given) i a.bytes a.nodes) (sym s.1) a.blob in
      let ids = (same_blob payload (content_of given) (d.ids p) a.bytes text a.nodes (d.stores.ids (d.ids p)) moved stored).1 in
      let in_one : has_id (d.stores.ids (d.ids p)) id ≡ true = subst (λ xs. has_id xs id ≡ true) ids a.among in
      let kept = d.stores.blob (d.ids q) b.bytes b.stored in
      let own = (same_blob payload (content_of given) (d.ids q) b.bytes b.bytes b.nodes (d.stores.ids (d.ids q)) b.blob kept).1 in
      let in_other : has_id (d.stores.ids (d.ids q)) id ≡ true = subst (λ xs. has_id xs id ≡ true) own b.among in
      let blobs = d.stores.apart (d.ids p) (d.ids q) id (ap is_some node.there) (ap is_some b.stored) in_one in_other in
      d.shows.forest.distinct p q s.0 b.there blobs

  same_found : (id : Id) (x y : Option Path) → find id_cmp id one ≡ x → find id_cmp id other ≡ y → is_some x ≡ is_some y → x ≡ y
  same_found id None None e f same = refl
  same_found id None (Some q) e f same = absurd (cc)
  same_found id (Some p) None e f same = absurd (cc)
  same_found id (Some p) (Some q) e f same = ap Some (same_owner id p q e f)

  pub one_list : one ≡ other
  one_list = same_entries id_cmp nat_list_cmp_total (slice_cmp-IsAntisymmetric nat_cmp-IsAntisymmetric) one other c.owners.order d.owners.order
      (λ id. same_found id (find id_cmp id one) (find id_cmp id other) refl refl (c.owners.all id ∙ sym (d.owners.all id)))
