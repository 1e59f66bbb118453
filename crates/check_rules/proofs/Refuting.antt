-- A flaw leaves no tree to show.
use Rattle.std.proofs.Common.{◌≡◌, ℕ, Bool, true, false, cond, List, [], ◌∷◌, map, refl, sym, ◌∙◌, ap, subst}
use Rattle.std.specs.Prelude.{is_some}
use Rattle.std.specs.FinMap.{get, find}
use Rattle.std.specs.declared.option.Option.TheVariants.{None, Some}
use Rattle.std.proofs.lemmas.Bool.{or_parts}
use Rattle.path_walks.specs.blob_api.BlobMap.{BlobMap}
use Rattle.block_id.proofs.Options.{some_of}
use Rattle.check_walk.specs.declared.flaw.Flaw.{Flaw}
use Rattle.check_walk.specs.declared.flaw.Flaw.TheVariants.{BadNode, BadBlob, Parent, Twice, NotLive, Unowned}
use Rattle.check_walk.specs.Given.{Given, AgreesWith, content_of}
use Rattle.check_walk.specs.Needs.{NodeNeed, top, Leads}
use Rattle.check_walk.proofs.Leading.{leads_to}
use Rattle.check_walk.specs.data_tree.Stored.{StoresBlobs}
use Rattle.path_walks.specs.Shows.{above, ShowsBy, ShowsTree}
use Rattle.path_walks.specs.fs_blobs.Headers.{blob}
use Rattle.fs_model.specs.Tree.{Path, Tree}
use Rattle.check_walk.specs.store_api.Content.{Id, Content, id_cmp, same_id}
use Rattle.check_walk.specs.store_api.Holdings.{has_id}
use Rattle.check_walk.proofs.store_api_lemmas.Rising.{same_id_is}
use Rattle.check_rules.specs.Flaws.{HasBadNode, HasBadBlob, HasParent, HasTwice, HasNotLive, HasUnowned, HasFlaw, Refutes}
use Rattle.check_rules.specs.Reached.{Place, NeedsNode}
use Rattle.check_rules.proofs.Nodes.{TreeAt, serves_at}
use Rattle.check_rules.proofs.Standing.{reached_at, one_text, parent_wide, body_fits, blob_parts, top_at, shown_reached}
use Rattle.check_rules.proofs.Ways.{below_at, has_at, one_way, leads_on}

-- what was given for an id is in each content that agrees
pub agreed : (B : Content) (given : Given) → AgreesWith B given → (x : Id) (text : List ℕ) → content_of given x ≡ Some text → B x ≡ Some text
agreed B [] agrees x text e = absurd (cc)
agreed B (g ∷ gs) agrees x text e = by (agreed B gs agrees.1 x text) (same_id x g.0) refl e
  where
    by : (content_of gs x ≡ Some text → B x ≡ Some text) → (b : Bool) → same_id x g.0 ≡ b → cond b (Some g.1) (find id_cmp x gs) ≡ Some text → B x ≡ Some text
    by rest true same h = ap B (same_id_is x g.0 same) ∙ (agrees.0 ∙ h)
    by rest false same h = rest h

module _ (payload : ℕ) (root : Id) (G B : Content) (sub : (x : Id) (text : List ℕ) → G x ≡ Some text → B x ≡ Some text) {m : BlobMap} {t : Tree} {ids : Path → Id} (stores : StoresBlobs payload B (get m)) (shows : ShowsBy m root t ids) where
  -- a needed node's tree
  needed_at : (place : Place) (id : Id) (need : NodeNeed) → NeedsNode payload G root place id need → TreeAt payload B need id
  needed_at place id need n =
      let at = reached_at payload root G B sub stores shows place.path n.kind n.start n.parent n.reached in
      let tree = top_at payload root G B sub stores shows place.path n.kind n.start n.parent at in
      (below_at payload G B sub place.way top n.start tree.0 id need n.leads).at

  pub needed_there : (place : Place) (id : Id) (need : NodeNeed) → NeedsNode payload G root place id need → is_some (B id) ≡ true
  needed_there place id need n = ap is_some (needed_at place id need n).tree.there

  bad_node : (id : Id) → HasBadNode payload root G id → ⊥
  bad_node id f = f.unfit (serves_at payload B f.need id (needed_at f.place id f.need f.needs) f.text (sub id f.text f.there))

  bad_blob : (id : Id) → HasBadBlob payload root G id → ⊥
  bad_blob id f =
      let at = reached_at payload root G B sub stores shows f.path f.kind id f.parent f.reached in
      f.unfit f.parent (shows.forest.nodes f.path at.row at.there).body (parent_wide payload root G B sub stores shows f.path f.kind id f.parent at)
      (one_text payload root G B sub stores shows f.path f.kind id f.parent at f.bytes f.ids f.tree)
      (body_fits payload root G B sub stores shows f.path f.kind id f.parent at)

  other_parent : (id : Id) → HasParent payload root G id → ⊥
  other_parent id f =
      let at = reached_at payload root G B sub stores shows f.path f.kind id f.parent f.reached in
      let text = one_text payload root G B sub stores shows f.path f.kind id f.parent at (blob f.kind f.other f.body) f.ids f.tree in
      f.differs (blob_parts f.kind f.other f.parent f.body (shows.forest.nodes f.path at.row at.there).body (f.wide ∙ sym (parent_wide payload root G B sub stores shows f.path f.kind id f.parent at)) text).0

  -- an id is in the blob of one path, and there in one place
  twice : (id : Id) → HasTwice payload root G id → ⊥
  twice id f =
      let n = f.needs in
      let k = f.wants in
      let a = reached_at payload root G B sub stores shows f.one.path n.kind n.start n.parent n.reached in
      let b = reached_at payload root G B sub stores shows f.other.path k.kind k.start k.parent k.reached in
      let s = top_at payload root G B sub stores shows f.one.path n.kind n.start n.parent a in
      let r = top_at payload root G B sub stores shows f.other.path k.kind k.start k.parent b in
      let in_one : has_id (stores.ids (ids f.one.path)) id ≡ true = subst (λ xs. has_id xs id ≡ true) s.1.0 (has_at payload G B sub f.one.way top n.start s.0 id f.need n.leads) in
      let in_other : has_id (stores.ids (ids f.other.path)) id ≡ true = subst (λ xs. has_id xs id ≡ true) r.1.0 (has_at payload G B sub f.other.way top k.start r.0 id f.wanted k.leads) in
      let blobs : ids f.one.path ≡ ids f.other.path = stores.apart (ids f.one.path) (ids f.other.path) id (ap is_some (shows.forest.nodes f.one.path a.row a.there).there) (ap is_some (shows.forest.nodes f.other.path b.row b.there).there) in_one in_other in
      let paths : f.one.path ≡ f.other.path = shows.forest.distinct f.one.path f.other.path (ap is_some a.there) (ap is_some b.there) blobs in
      let start : k.start ≡ n.start = sym b.id_is ∙ (sym blobs ∙ a.id_is) in
      let leads : Leads G n.start top f.other.way id f.wanted = subst (λ x. Leads G x top f.other.way id f.wanted) start k.leads in
      let ways : f.one.way ≡ f.other.way = one_way payload G B sub f.one.way f.other.way top n.start s.0 s.1.1 id f.need f.wanted n.leads leads in
      f.apart (λ i. record { path = paths i; way = ways i })

  not_live : (live : List Id) → ((id : Id) → is_some (B id) ≡ has_id live id) → (id : Id) → HasNotLive payload root live G id → ⊥
  not_live live same id f =
      let bad : true ≡ false = sym (needed_there f.place id f.need f.needs) ∙ (same id ∙ f.dead) in
      absurd (cc)

  unowned : (live : List Id) → ((id : Id) → is_some (B id) ≡ has_id live id) → (id : Id) → HasUnowned payload root live G id → ⊥
  unowned live same id f =
      let start = stores.all id (same id ∙ f.lives) in
      let path = shows.forest.all start.0 start.1.0 in
      let row = some_of (get t path.0) path.1 in
      let bytes = some_of (get m (ids path.0)) (ap (λ i. is_some (get m i)) path.2 ∙ start.1.0) in
      let stored = stores.blob (ids path.0) bytes.0 bytes.1 in
      let reached = shown_reached payload root G B sub stores shows f.whole path.0 row.0 row.1 in
      let inside : has_id (stores.ids (ids path.0)) id ≡ true = subst (λ i. has_id (stores.ids i) id ≡ true) (sym path.2) start.1.1 in
      let to = leads_to payload B stored.depth (ids path.0) bytes.0 (stores.ids (ids path.0)) stored.tree top id inside in
      let on = leads_on payload G B sub (ids path.0) top
      (λ way x need leads. f.whole (record { path = path.0; way = way }) x need (record { kind = row.0.attr.kind; start = ids path.0; parent = above ids path.0; reached = reached; leads = leads }))
      to.0 [] (ids path.0) top id to.1.0 (refl, refl) to.1.1 in
      f.unneeded (record { path = path.0; way = on.0 }) to.1.0 (record { kind = row.0.attr.kind; start = ids path.0; parent = above ids path.0; reached = reached; leads = on.1 })

  no_flaw : (live : List Id) → ((id : Id) → is_some (B id) ≡ has_id live id) → (flaw : Flaw) → HasFlaw payload root live G flaw → ⊥
  no_flaw live same (BadNode id) f = bad_node id.0 f
  no_flaw live same (BadBlob id) f = bad_blob id.0 f
  no_flaw live same (Parent id) f = other_parent id.0 f
  no_flaw live same (Twice id) f = twice id.0 f
  no_flaw live same (NotLive id) f = not_live live same id.0 f
  no_flaw live same (Unowned id) f = unowned live same id.0 f

pub refutes : (payload : ℕ) (root : Id) (live : List Id) (given : Given) (flaw : Flaw) → HasFlaw payload root live (content_of given) flaw → Refutes payload root live given
refutes payload root live given flaw f B agrees same blobs stores tree (ids, shows) = no_flaw payload root (content_of given) B (agreed B given agrees) stores shows live same flaw f

-- ---- what wasn't given

not_given : (given : Given) (id : Id) → has_id (map (λ g. g.0) given) id ≡ false → content_of given id ≡ None
not_given [] id h = refl
not_given (g ∷ gs) id h =
    let parts = or_parts (same_id id g.0) (has_id (map (λ g. g.0) gs) id) h in
    ap (λ b. cond b (Some g.1) (find id_cmp id gs)) parts.0 ∙ not_given gs id parts.1

pub has_unowned : (payload : ℕ) (root : Id) (live : List Id) (given : Given) (blobs : BlobMap) (tree : Tree) (id : Id) → StoresBlobs payload (content_of given) (get blobs) → ShowsTree blobs root tree → has_id live id ≡ true → has_id (map (λ g. g.0) given) id ≡ false
    → HasUnowned payload root live (content_of given) id
has_unowned payload root live given blobs tree id stores (ids, shows) lives none =
    let G = content_of given in
    let whole = needed_there payload root G G (λ x text h. h) stores shows in
    record {
      lives = lives;
      unneeded = λ place need n. let bad : true ≡ false = sym (whole place id need n) ∙ ap is_some (not_given given id none) in absurd (cc);
      whole = whole;
    }
