-- What the blobs of a content that shows a tree have at each path that is reached.
use Rattle.std.proofs.Common.{◌≡◌, ℕ, true, List, [], ◌∷◌, ◌++◌, length, refl, sym, ◌∙◌, ap, subst, append_assoc, arith}
use Rattle.std.specs.Prelude.{is_some, take}
use Rattle.std.specs.Int.{w16, to_le_bytes}
use Rattle.std.specs.FinMap.{get, find}
use Rattle.std.specs.declared.option.Option.{Option}
use Rattle.std.specs.declared.option.Option.TheVariants.{None, Some}
use Rattle.std.proofs.lemmas.List.{append_cancel_left}
use Rattle.std.proofs.lemmas.Option.{same_Some}
use Rattle.std.proofs.Math.Seq.{take-append_seam}
use Rattle.path_walks.specs.blob_api.BlobMap.{BlobMap}
use Rattle.block_id.proofs.Options.{some_of}
use Rattle.check_walk.proofs.Leading.{leads_to}
use Rattle.check_walk.specs.Needs.{NodeNeed, top, Leads}
use Rattle.check_walk.specs.data_tree.Trees.{IsTree, NoDoubles}
use Rattle.check_walk.specs.data_tree.Stored.{BlobTree, StoresBlobs}
use Rattle.check_walk.proofs.data_tree_lemmas.Changes.{tree_frame}
use Rattle.check_walk.proofs.data_tree_lemmas.Making.{tree_there}
use Rattle.path_walks.specs.dir_entries.Layout.{EntryTarget, IsBody}
use Rattle.path_walks.proofs.dir_entries_lemmas.Bodies.{one_listing}
use Rattle.path_walks.specs.Nodes.{Lists, IsBodyOf}
use Rattle.path_walks.specs.Shows.{above, target_for, entries_at, ShowsBy}
use Rattle.path_walks.proofs.Shown.{folder_row}
use Rattle.path_walks.specs.fs_blobs.Headers.{blob, header_text}
use Rattle.path_walks.proofs.fs_blobs_lemmas.Parts.{length-blob}
use Rattle.fs_model.specs.declared.attr.Kind.{Kind}
use Rattle.fs_model.specs.declared.attr.Kind.TheVariants.{Directory, File, Link}
use Rattle.fs_model.specs.Kinds.{byte_of}
use Rattle.fs_model.specs.Tree.{Path, Row, Tree, root_row, name_cmp, directory_size, FitsKind}
use Rattle.path_walks.proofs.Nodes.{lists_at, above_wide, content_fits}
use Rattle.path_walks.proofs.Sizes.{sizes_shown, body_size}
use Rattle.check_walk.specs.store_api.Content.{Id, Content}
use Rattle.check_walk.specs.store_api.Holdings.{has_id}
use Rattle.check_rules.specs.Flaws.{FitsBody}
use Rattle.check_rules.specs.Reached.{IsEntryIn, IsReached, Place, NeedsNode}
use Rattle.check_rules.proofs.OneTree.{same_blob}
use Rattle.check_rules.proofs.Nodes.{TreeAt}
use Rattle.check_rules.proofs.Ways.{leads_on}

-- a row, where an entry names a target
from_target : (id : Id) (o : Option Row) (target : EntryTarget) → target_for id o ≡ Some target → (row : Row) × ((o ≡ Some row) × ((row.attr ≡ target.attr) × (id ≡ target.blob)))
from_target id None target e = absurd (cc)
from_target id (Some row) target e =
    let same = same_Some _ _ e in
    (row, (refl, (ap (λ (x : EntryTarget). x.attr) same, ap (λ (x : EntryTarget). x.blob) same)))

-- blobs of one kind, with parents of one width, are equal part by part
pub blob_parts : (kind : Kind) (p q a b : List ℕ) → length p ≡ length q → blob kind p a ≡ blob kind q b → (p ≡ q) × (a ≡ b)
blob_parts kind p q a b wide e =
    let tails : p ++ a ≡ q ++ b = tail_of e in
    let parents : p ≡ q = sym (take-append_seam p a) ∙ (ap (λ n. take n (p ++ a)) wide ∙ (ap (take (length q)) tails ∙ take-append_seam q b)) in
    (parents, append_cancel_left q a b (ap (λ x. x ++ a) (sym parents) ∙ tails))
  where
    tail_of : blob kind p a ≡ blob kind q b → p ++ a ≡ q ++ b
    tail_of e =
        let rest : byte_of kind ∷ (p ++ a) ≡ byte_of kind ∷ (q ++ b) = append_cancel_left (to_le_bytes w16 1) (byte_of kind ∷ (p ++ a)) (byte_of kind ∷ (q ++ b)) (sym (append_assoc (to_le_bytes w16 1) (byte_of kind ∷ p) a) ∙ (e ∙ append_assoc (to_le_bytes w16 1) (byte_of kind ∷ q) b)) in
        cc

module _ (payload : ℕ) (root : Id) (G B : Content) (sub : (x : Id) (text : List ℕ) → G x ≡ Some text → B x ≡ Some text) {m : BlobMap} {t : Tree} {ids : Path → Id} (stores : StoresBlobs payload B (get m)) (shows : ShowsBy m root t ids) where
  -- the row of a path, with its blob and that of the directory above
  pub record At (path : Path) (kind : Kind) (id parent : Id) : Type 0 where
    pub row : Row
    pub there : get t path ≡ Some row
    pub kind_is : row.attr.kind ≡ kind
    pub id_is : ids path ≡ id
    pub parent_is : above ids path ≡ parent

  -- a tree of what was given is one of the content
  pub grown : (id : Id) (w : List ℕ) (own : List Id) → BlobTree payload G id w own → BlobTree payload B id w own
  grown id w own b = record {
    depth = b.depth;
    deep = b.deep;
    tree = tree_frame payload G B b.depth id w own (λ q h. let text = some_of (G q) (tree_there payload G b.depth id w own b.tree q h) in sub q text.0 text.1 ∙ sym text.1) b.tree;
    alone = b.alone;
  }

  -- the bytes of a reached blob are those of the path's
  pub one_text : (path : Path) (kind : Kind) (id parent : Id) (at : At path kind id parent) (w : List ℕ) (own : List Id) → BlobTree payload G id w own → w ≡ blob kind parent (shows.forest.nodes path at.row at.there).body
  one_text path kind id parent at w own b =
      let node = shows.forest.nodes path at.row at.there in
      let text = blob at.row.attr.kind (above ids path) node.body in
      let stored = stores.blob (ids path) text node.there in
      let here : BlobTree payload B id text (stores.ids (ids path)) = subst (λ i. BlobTree payload B i text (stores.ids (ids path))) at.id_is stored in
      (same_blob payload B id w text own (stores.ids (ids path)) (grown id w own b) here).0
      ∙ (ap (λ k. blob k (above ids path) node.body) at.kind_is ∙ ap (λ p. blob kind p node.body) at.parent_is)

  pub parent_wide : (path : Path) (kind : Kind) (id parent : Id) → At path kind id parent → length parent ≡ 16
  parent_wide path kind id parent at = ap length (sym at.parent_is) ∙ above_wide shows path at.row at.there

  entry_at : (name : List ℕ) (path : Path) (kind : Kind) (id parent : Id) (e : IsEntryIn payload G (IsReached payload G root path) name kind id parent) → At path Directory parent e.up → At (name ∷ path) kind id parent
  entry_at name path kind id parent e up =
      let node = shows.forest.nodes path up.row up.there in
      let whole = one_text path Directory parent e.up up (blob Directory e.up e.body) e.ids e.tree in
      let body : e.body ≡ node.body = append_cancel_left (header_text Directory e.up) e.body node.body whole in
      let lists : Lists (entries_at t ids path) node.body = lists_at shows path up.row up.there up.kind_is in
      let listing : e.listing ≡ lists.listing = one_listing node.body e.listing lists.listing (subst (λ b. IsBody b e.listing) body e.is) lists.is in
      let found : target_for (ids (name ∷ path)) (get t (name ∷ path)) ≡ Some e.target = sym (lists.entries name) ∙ (ap (find name_cmp name) (sym listing) ∙ e.listed) in
      let row = from_target (ids (name ∷ path)) (get t (name ∷ path)) e.target found in
      record {
        row = row.0;
        there = row.1.0;
        kind_is = ap (λ a. a.kind) row.1.1.0 ∙ sym e.kind_is;
        id_is = row.1.1.1 ∙ sym e.id_is;
        parent_is = up.id_is;
      }

  pub reached_at : (path : Path) (kind : Kind) (id parent : Id) → IsReached payload G root path kind id parent → At path kind id parent
  reached_at [] kind id parent (directory, (first, none)) = record {
    row = root_row;
    there = shows.well_formed.rooted.root;
    kind_is = sym directory;
    id_is = shows.at_root ∙ sym first;
    parent_is = sym none;
  }
  reached_at (name ∷ path) kind id parent e = entry_at name path kind id parent e (reached_at path Directory parent e.up e.directory)

  -- what a path's body holds is within its limits
  fits_body : (path : Path) (kind : Kind) (bytes body : List ℕ) → FitsKind kind bytes → IsBodyOf kind bytes (entries_at t ids path) body → FitsBody kind body
  fits_body path Directory bytes body fits c =
      let size = sizes_shown t ids path c.listing c.is.entries.order c.entries in
      let long : length body ≡ directory_size t path = ap length c.is.text ∙ (body_size c.listing c.is.entries.entries ∙ size) in
      let small = shows.well_formed.directories path in
      ((c.listing, c.is), omega (arith, long, small))
  fits_body path File bytes body fits c = omega (arith, ap length c, fits)
  fits_body path Link bytes body fits c = subst (λ x. FitsKind Link x) (sym c) fits

  pub body_fits : (path : Path) (kind : Kind) (id parent : Id) (at : At path kind id parent) → FitsBody kind (shows.forest.nodes path at.row at.there).body
  body_fits path kind id parent at =
      let node = shows.forest.nodes path at.row at.there in
      subst (λ k. FitsBody k node.body) at.kind_is (fits_body path at.row.attr.kind at.row.bytes node.body (shows.well_formed.rows path at.row at.there).content node.content)

  -- the blob's tree
  pub top_at : (path : Path) (kind : Kind) (id parent : Id) → At path kind id parent → (tree : TreeAt payload B top id) × ((tree.own ≡ stores.ids (ids path)) × NoDoubles tree.own)
  top_at path kind id parent at =
      let node = shows.forest.nodes path at.row at.there in
      let text = blob at.row.attr.kind (above ids path) node.body in
      let stored = stores.blob (ids path) text node.there in
      let small = content_fits t ids path at.row.attr.kind at.row.bytes (entries_at t ids path) node.body (shows.well_formed.directories path) (shows.well_formed.rows path at.row at.there).content (λ n. refl) node.content in
      let long = length-blob at.row.attr.kind (above ids path) node.body (above_wide shows path at.row at.there) in (
        record {
          depth = stored.depth;
          bytes = text;
          own = stores.ids (ids path);
          tree = subst (λ i. IsTree payload B stored.depth i text (stores.ids (ids path))) at.id_is stored.tree;
          fits = (stored.deep, omega (arith, small, long));
        },
        (refl, stored.alone),
      )

  -- ---- where all that is needed was given

  module _ (whole : (place : Place) (x : Id) (need : NodeNeed) → NeedsNode payload G root place x need → is_some (G x) ≡ true) where
    -- a reached blob's tree is one of what was given
    pub shrunk : (path : Path) (kind : Kind) (id parent : Id) → IsReached payload G root path kind id parent → (w : List ℕ) (own : List Id) → BlobTree payload B id w own → BlobTree payload G id w own
    shrunk path kind id parent reached w own b = record {
      depth = b.depth;
      deep = b.deep;
      tree = tree_frame payload B G b.depth id w own same b.tree;
      alone = b.alone;
    }
      where
        needs : (way : List ℕ) (x : Id) (need : NodeNeed) → Leads G id top way x need → NeedsNode payload G root (record { path = path; way = way }) x need
        needs way x need leads = record { kind = kind; start = id; parent = parent; reached = reached; leads = leads }

        given : (way : List ℕ) (x : Id) (need : NodeNeed) → Leads G id top way x need → is_some (G x) ≡ true
        given way x need leads = whole (record { path = path; way = way }) x need (needs way x need leads)

        same : (x : Id) → has_id own x ≡ true → G x ≡ B x
        same x h =
            let to = leads_to payload B b.depth id w own b.tree top x h in
            let on = leads_on payload G B sub id top given to.0 [] id top x to.1.0 (refl, refl) to.1.1 in
            let got = some_of (G x) (given on.0 x to.1.0 on.1) in
            got.1 ∙ sym (sub x got.0 got.1)

    -- each row is reached
    pub shown_reached : (path : Path) (row : Row) → get t path ≡ Some row → IsReached payload G root path row.attr.kind (ids path) (above ids path)
    shown_reached [] row there =
        let same : root_row ≡ row = same_Some _ _ (sym shows.well_formed.rooted.root ∙ there) in
        (sym (ap (λ (r : Row). r.attr.kind) same), (shows.at_root, refl))
    shown_reached (name ∷ path) row there =
        let folder = folder_row t path (shows.well_formed.rooted.parents name path (ap is_some there)) in
        let node = shows.forest.nodes path folder.row folder.there in
        let lists = lists_at shows path folder.row folder.there folder.kind in
        let up : IsReached payload G root path Directory (ids path) (above ids path) = subst (λ k. IsReached payload G root path k (ids path) (above ids path)) folder.kind (shown_reached path folder.row folder.there) in
        let stored : BlobTree payload B (ids path) (blob Directory (above ids path) node.body) (stores.ids (ids path)) =
        subst (λ k. BlobTree payload B (ids path) (blob k (above ids path) node.body) (stores.ids (ids path))) folder.kind (stores.blob (ids path) (blob folder.row.attr.kind (above ids path) node.body) node.there) in
        record {
          up = above ids path;
          directory = up;
          body = node.body;
          ids = stores.ids (ids path);
          tree = shrunk path Directory (ids path) (above ids path) up (blob Directory (above ids path) node.body) (stores.ids (ids path)) stored;
          listing = lists.listing;
          is = lists.is;
          target = record { attr = row.attr; blob = ids (name ∷ path) };
          listed = lists.entries name ∙ ap (target_for (ids (name ∷ path))) there;
          kind_is = refl;
          id_is = refl;
        }
