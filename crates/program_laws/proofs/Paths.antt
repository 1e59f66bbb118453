-- Two trees that the same blobs show, path by path.
use Rattle.std.proofs.Common.{◌≡◌, ◌∙◌, ℕ, true, false, List, [], ◌∷◌, refl, sym, ap, subst}
use Rattle.std.specs.Prelude.{is_some}
use Rattle.std.specs.FinMap.{get, find, same_map}
use Rattle.std.specs.declared.option.Option.{Option}
use Rattle.std.specs.declared.option.Option.TheVariants.{None, Some}
use Rattle.std.proofs.lemmas.List.{append_cancel_left}
use Rattle.std.proofs.lemmas.Option.{same_Some}
use Rattle.mount.specs.blob_api.BlobMap.{Id, BlobMap}
use Rattle.mount.specs.dir_entries.Layout.{EntryTarget, IsBody}
use Rattle.mount.proofs.dir_entries_lemmas.Bodies.{one_listing}
use Rattle.mount.specs.path_walks.Nodes.{Look, Lists, IsBodyOf}
use Rattle.mount.specs.path_walks.Shows.{above, target_for, entries_at, ShowsBy, ShowsTree}
use Rattle.mount.specs.fs_blobs.Headers.{blob, header_text}
use Rattle.fs_model.specs.declared.attr.Attr.{Attr}
use Rattle.fs_model.specs.declared.attr.Kind.{Kind}
use Rattle.fs_model.specs.declared.attr.Kind.TheVariants.{Directory, File, Link}
use Rattle.fs_model.specs.Tree.{Path, Row, Tree, FitsKind, is_folder, is_directory, name_cmp}
use Rattle.fs_model.proofs.TreeLemmas.{path_total, path_exact}

-- ---- one blob

-- of one kind and parent, two blobs of an id have one body
one_body : (m : BlobMap) (id jd : Id) (kind other : Kind) (p q : Id) (a b : List ℕ) → id ≡ jd → kind ≡ other → p ≡ q → get m id ≡ Some (blob kind p a) → get m jd ≡ Some (blob other q b) → a ≡ b
one_body m id jd kind other p q a b same alike above here there =
    let one : Some (blob kind p a) ≡ Some (blob other q b) = sym here ∙ (ap (get m) same ∙ there) in
    let both : blob kind p a ≡ blob kind p b = same_Some _ _ one ∙ (ap (λ (k : Kind). blob k q b) (sym alike) ∙ ap (λ (x : Id). blob kind x b) (sym above)) in
    append_cancel_left (header_text kind p) a b both

-- the bytes of two rows of a kind whose bodies are one
one_content : (kind : Kind) (x y a b : List ℕ) (look other : Look) → FitsKind kind x → FitsKind kind y → IsBodyOf kind x look a → IsBodyOf kind y other b → a ≡ b → x ≡ y
one_content Directory x y a b look other fx fy ix iy same = fx ∙ sym fy
one_content File x y a b look other fx fy ix iy same = sym ix ∙ (same ∙ iy)
one_content Link x y a b look other fx fy ix iy same = sym ix ∙ (same ∙ iy)

-- ---- one entry

-- rows that the entries of a directory tell alike
record SameTarget (a b : Id) (x y : Option Row) : Type 0 where
  none : is_some x ≡ is_some y
  attrs : (r s : Row) → x ≡ Some r → y ≡ Some s → r.attr ≡ s.attr
  blobs : is_some x ≡ true → a ≡ b

same_target : (a b : Id) (x y : Option Row) → target_for a x ≡ target_for b y → SameTarget a b x y
same_target a b None None e = record { none = refl; attrs = λ r s h k. absurd (cc); blobs = λ h. absurd (cc) }
same_target a b None (Some s) e = absurd (cc)
same_target a b (Some r) None e = absurd (cc)
same_target a b (Some r) (Some s) e =
    let t = same_Some _ _ e in
    record {
      none = refl;
      attrs = λ q p h k. ap (λ (z : Row). z.attr) (sym (same_Some _ _ h)) ∙ (ap (λ (z : EntryTarget). z.attr) t ∙ ap (λ (z : Row). z.attr) (same_Some _ _ k));
      blobs = λ h. ap (λ (z : EntryTarget). z.blob) t;
    }

same_row : (r s : Row) → r.attr ≡ s.attr → r.bytes ≡ s.bytes → r ≡ s
same_row r s attrs bytes = λ i. record { attr = attrs i; bytes = bytes i }

-- ---- path by path

record SamePath (t u : Tree) (ids jds : Path → Id) (p : Path) : Type 0 where
  rows : get t p ≡ get u p
  blobs : is_some (get t p) ≡ true → ids p ≡ jds p
  parents : is_some (get t p) ≡ true → above ids p ≡ above jds p

module _ (m : BlobMap) (root : Id) (t u : Tree) (ids jds : Path → Id) (s : ShowsBy m root t ids) (r : ShowsBy m root u jds) where
  at_root : SamePath t u ids jds []
  at_root = record {
    rows = s.well_formed.rooted.root ∙ sym r.well_formed.rooted.root;
    blobs = λ h. s.at_root ∙ sym r.at_root;
    parents = λ h. refl;
  }

  -- below a path where no directory is there is nothing
  nothing_below : (v : Tree) (n : List ℕ) (p : Path) (x : Option Row) → ((k : List ℕ) (q : Path) → is_some (get v (k ∷ q)) ≡ true → is_folder (get v q) ≡ true) → get v p ≡ x → is_folder x ≡ false → (y : Option Row) → get v (n ∷ p) ≡ y → y ≡ None
  nothing_below v n p x rooted here plain None there = refl
  nothing_below v n p x rooted here plain (Some row) there =
      let folder : is_folder x ≡ true = ap is_folder (sym here) ∙ rooted n p (ap is_some there) in
      absurd (cc)

  empty_below : (n : List ℕ) (p : Path) (x : Option Row) → get t p ≡ x → get u p ≡ x → is_folder x ≡ false → SamePath t u ids jds (n ∷ p)
  empty_below n p x here there plain =
      let a = nothing_below t n p x s.well_formed.rooted.parents here plain (get t (n ∷ p)) refl in
      let b = nothing_below u n p x r.well_formed.rooted.parents there plain (get u (n ∷ p)) refl in
      record { rows = a ∙ sym b; blobs = λ h. absurd (cc (sym (ap is_some a) ∙ h)); parents = λ h. absurd (cc (sym (ap is_some a) ∙ h)) }

  -- below a directory the entries tell both rows
  module _ (n : List ℕ) (p : Path) (row : Row) (here : get t p ≡ Some row) (there : get u p ≡ Some row) (blobs : ids p ≡ jds p) (parents : above ids p ≡ above jds p) (folder : row.attr.kind ≡ Directory) where
    lists_t : Lists (entries_at t ids p) (s.forest.nodes p row here).body
    lists_t = subst (λ (k : Kind). IsBodyOf k row.bytes (entries_at t ids p) (s.forest.nodes p row here).body) folder (s.forest.nodes p row here).content

    lists_u : Lists (entries_at u jds p) (r.forest.nodes p row there).body
    lists_u = subst (λ (k : Kind). IsBodyOf k row.bytes (entries_at u jds p) (r.forest.nodes p row there).body) folder (r.forest.nodes p row there).content

    bodies : (s.forest.nodes p row here).body ≡ (r.forest.nodes p row there).body
    bodies = one_body m (ids p) (jds p) row.attr.kind row.attr.kind (above ids p) (above jds p) _ _ blobs refl parents (s.forest.nodes p row here).there (r.forest.nodes p row there).there

    targets : target_for (ids (n ∷ p)) (get t (n ∷ p)) ≡ target_for (jds (n ∷ p)) (get u (n ∷ p))
    targets =
        let listing = one_listing (r.forest.nodes p row there).body lists_t.listing lists_u.listing (subst (λ (b : List ℕ). IsBody b lists_t.listing) bodies lists_t.is) lists_u.is in
        sym (lists_t.entries n) ∙ (ap (find name_cmp n) listing ∙ lists_u.entries n)

    both : (x y : Option Row) → get t (n ∷ p) ≡ x → get u (n ∷ p) ≡ y → SameTarget (ids (n ∷ p)) (jds (n ∷ p)) x y → x ≡ y
    both None None h k e = refl
    both None (Some b) h k e = absurd (cc (e.none))
    both (Some a) None h k e = absurd (cc (e.none))
    both (Some a) (Some b) h k e =
        let attrs = e.attrs a b refl refl in
        let x = s.forest.nodes (n ∷ p) a h in
        let y = r.forest.nodes (n ∷ p) b k in
        let kinds : a.attr.kind ≡ b.attr.kind = ap (λ (z : Attr). z.kind) attrs in
        let same = one_body m (ids (n ∷ p)) (jds (n ∷ p)) a.attr.kind b.attr.kind (ids p) (jds p) x.body y.body (e.blobs refl) kinds blobs x.there y.there in
        let fits : FitsKind a.attr.kind b.bytes = subst (λ (z : Kind). FitsKind z b.bytes) (sym kinds) (r.well_formed.rows (n ∷ p) b k).content in
        let content : IsBodyOf a.attr.kind b.bytes (entries_at u jds (n ∷ p)) y.body = subst (λ (z : Kind). IsBodyOf z b.bytes (entries_at u jds (n ∷ p)) y.body) (sym kinds) y.content in
        let bytes = one_content a.attr.kind a.bytes b.bytes x.body y.body (entries_at t ids (n ∷ p)) (entries_at u jds (n ∷ p)) (s.well_formed.rows (n ∷ p) a h).content fits x.content content same in
        ap Some (same_row a b attrs bytes)

    below : SamePath t u ids jds (n ∷ p)
    below =
        let e = same_target (ids (n ∷ p)) (jds (n ∷ p)) (get t (n ∷ p)) (get u (n ∷ p)) targets in
        record { rows = both (get t (n ∷ p)) (get u (n ∷ p)) refl refl e; blobs = e.blobs; parents = λ h. blobs }

  by_kind : (n : List ℕ) (p : Path) (row : Row) → get t p ≡ Some row → get u p ≡ Some row → ids p ≡ jds p → above ids p ≡ above jds p → (k : Kind) → row.attr.kind ≡ k → SamePath t u ids jds (n ∷ p)
  by_kind n p row here there blobs parents Directory is = below n p row here there blobs parents is
  by_kind n p row here there blobs parents File is = empty_below n p (Some row) here there (ap is_directory is)
  by_kind n p row here there blobs parents Link is = empty_below n p (Some row) here there (ap is_directory is)

  by_row : (n : List ℕ) (p : Path) → SamePath t u ids jds p → (x : Option Row) → get t p ≡ x → SamePath t u ids jds (n ∷ p)
  by_row n p same None here = empty_below n p None here (sym same.rows ∙ here) refl
  by_row n p same (Some row) here = by_kind n p row here (sym same.rows ∙ here) (same.blobs (ap is_some here)) (same.parents (ap is_some here)) row.attr.kind refl

  each : (p : Path) → SamePath t u ids jds p
  each [] = at_root
  each (n ∷ p) = by_row n p (each p) (get t p) refl

  same_trees : t ≡ u
  same_trees = same_map path_total path_exact t u (λ p. (each p).rows)

pub shown : (m : BlobMap) (root : Id) (t u : Tree) → ShowsTree m root t → ShowsTree m root u → t ≡ u
shown m root t u (ids, s) (jds, r) = same_trees m root t u ids jds s r
