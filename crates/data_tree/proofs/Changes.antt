-- One block more or less, and trees that stand on.
use Rattle.std.proofs.Common.{◌≡◌, ℕ, zero, suc, Bool, true, false, cond, List, [], ◌∷◌, ◌++◌, take, drop, append_assoc, append-nil, refl, sym, ◌∙◌, ap, subst}
use Rattle.std.specs.Prelude.{Option, Some, None, is_some}
use Rattle.std.specs.FinMap as fin
use Rattle.std.specs.FinMap.{get-insert, get-remove}
use Rattle.std.specs.Cmp.Lexicographic.{nat_list_cmp_total}
use Rattle.std.proofs.lemmas.Bool.{or_right, or_left}
use Rattle.data_nodes.specs.Layout.{NodeText}
use Rattle.store_api.specs.Content.{Id, Content, same_id, Changes, or_else, over}
use Rattle.store_api.specs.Holdings.{Holdings, has_id}
use Rattle.store_api.specs.Overlay.{without}
use Rattle.store_api.proofs.Rising.{same_id_is}
use Rattle.data_tree.specs.Trees.{IsTree, Holds, Forest, span, NoDoubles, Replaces}
use Rattle.data_tree.specs.Needs.{Sets, HasTree, HasBelow, HasTrees, KeepsShape, DropRest}
use Rattle.data_tree.proofs.Ids.{in_left, in_right, same_self, alone-parts, apart_right, drops_more, other, replaces_nothing}

picked : (b : Bool) (change : Option (List ℕ)) (o : Option (Option (List ℕ))) (c : Option (List ℕ)) → or_else (cond b (Some change) o) c ≡ cond b change (or_else o c)
picked true change o c = refl
picked false change o c = refl

pub sets_put : (changes : Changes) (content : Content) (id : Id) (change : Option (List ℕ)) → Sets (over changes content) (over (fin.insert changes id change) content) id change
sets_put changes content id change q = ap (λ o. or_else o (content q)) (get-insert nat_list_cmp_total changes id change q) ∙ picked (same_id q id) change (fin.get changes q) (content q)

forgotten : (b : Bool) (o : Option (Option (List ℕ))) (c : Option (List ℕ)) → (b ≡ true → c ≡ None) → or_else (cond b None o) c ≡ cond b None (or_else o c)
forgotten true o c none = none refl
forgotten false o c none = refl

none_of : (o : Option (List ℕ)) → (is_some o ≡ true → ⊥) → o ≡ None
none_of None h = refl
none_of (Some x) h = absurd (h refl)

pub sets_remove : (used : List Id) (changes : Changes) (content : Content) (id : Id) → (is_some (content id) ≡ true → has_id used id ≡ true) → Sets (over changes content) (over (without used changes id) content) id None
sets_remove used changes content id known q = by (has_id used id) refl
  where
    by : (b : Bool) → has_id used id ≡ b → or_else (fin.get (cond b (fin.insert changes id None) (fin.remove changes id)) q) (content q) ≡ cond (same_id q id) None (or_else (fin.get changes q) (content q))
    by true e = sets_put changes content id None q
    by false e =
        ap (λ o. or_else o (content q)) (get-remove nat_list_cmp_total changes id q)
        ∙ forgotten (same_id q id) (fin.get changes q) (content q) (λ same. none_of (content q) (λ there. let bad : false ≡ true = sym e ∙ known (subst (λ x. is_some (content x) ≡ true) (same_id_is q id same) there) in absurd (cc)))

-- trees stand on where the blocks of their ids do
forest_frame : (T U : Id → List ℕ → List Id → Type 0) (E : Id → Type 0) → ((id : Id) (w : List ℕ) (ids : List Id) → ((q : Id) → has_id ids q ≡ true → E q) → T id w ids → U id w ids) → (size : ℕ) (children : List Id) (w : List ℕ) (ids : List Id)
    → ((q : Id) → has_id ids q ≡ true → E q) → Forest T size children w ids → Forest U size children w ids
forest_frame T U E each size [] w ids same f = f
forest_frame T U E each size (child ∷ children) w ids same (some, (own, (rest, (first, (others, all))))) =
    let in_both : (q : Id) → has_id (own ++ rest) q ≡ true → E q = subst (λ xs. (q : Id) → has_id xs q ≡ true → E q) all same in (
      some,
      (
        own,
        (
          rest,
          (
            each child (take size w) own (λ q h. in_both q (in_left own rest q h)) first,
            (forest_frame T U E each size children (drop size w) rest (λ q h. in_both q (in_right own rest q h)) others, all),
          ),
        ),
      ),
    )

pub holds_frame : (payload : ℕ) (A B : Content) (depth : ℕ) (node : NodeText) (w : List ℕ) (below : List Id) → ((q : Id) → has_id below q ≡ true → B q ≡ A q) → Holds payload A depth node w below → Holds payload B depth node w below
holds_frame payload A B zero node w below same h = h
holds_frame payload A B (suc depth) node w below same (children, (is, f)) = (
  children,
  (
    is,
    forest_frame (IsTree payload A depth) (IsTree payload B depth) (λ q. B q ≡ A q)
        (λ id piece ids keep n.
        let again : (q : Id) → has_id (id ∷ n.below) q ≡ true → B q ≡ A q = subst (λ xs. (q : Id) → has_id xs q ≡ true → B q ≡ A q) n.all keep in
        record {
          text = n.text;
          node = n.node;
          below = n.below;
          there = again id (or_left (same_id id id) (has_id n.below id) (same_self id)) ∙ n.there;
          sized = n.sized;
          is = n.is;
          holds = holds_frame payload A B depth n.node piece n.below (λ q h. again q (or_right (same_id q id) (has_id n.below q) h)) n.holds;
          all = n.all;
        })
        (span payload depth) children w below same f,
  ),
)

pub tree_frame : (payload : ℕ) (A B : Content) (depth : ℕ) (id : Id) (w : List ℕ) (ids : List Id) → ((q : Id) → has_id ids q ≡ true → B q ≡ A q) → IsTree payload A depth id w ids → IsTree payload B depth id w ids
tree_frame payload A B depth id w ids same n =
    let again : (q : Id) → has_id (id ∷ n.below) q ≡ true → B q ≡ A q = subst (λ xs. (q : Id) → has_id xs q ≡ true → B q ≡ A q) n.all same in
    record {
      text = n.text;
      node = n.node;
      below = n.below;
      there = again id (or_left (same_id id id) (has_id n.below id) (same_self id)) ∙ n.there;
      sized = n.sized;
      is = n.is;
      holds = holds_frame payload A B depth n.node w n.below (λ q h. again q (or_right (same_id q id) (has_id n.below q) h)) n.holds;
      all = n.all;
    }

pub trees_frame : (payload : ℕ) (A B : Content) (depth : ℕ) (size : ℕ) (children : List Id) (w : List ℕ) (ids : List Id) → ((q : Id) → has_id ids q ≡ true → B q ≡ A q)
    → Forest (IsTree payload A depth) size children w ids → Forest (IsTree payload B depth) size children w ids
trees_frame payload A B depth size children w ids same f = forest_frame (IsTree payload A depth) (IsTree payload B depth) (λ q. B q ≡ A q) (tree_frame payload A B depth) size children w ids same f

-- what stands below a node, where another block changes
abbrev pub below_changed : {S : Type 0} {H : Holdings S} {b c : S} {depth : ℕ} {node : NodeText} {id : Id} {change : Option (List ℕ)} → (n : HasBelow H b depth node) → has_id n.ids id ≡ false → KeepsShape H b c → Sets (H.content b) (H.content c) id change → HasBelow H c depth node
below_changed {H = H} {b = b} {c = c} {depth = depth} {node = node} {id = id} {change = change} n none keeps sets = record {
  bytes = n.bytes;
  ids = n.ids;
  told = keeps.told ∙ n.told;
  holds = subst (λ p. Holds p (H.content c) depth node n.bytes n.ids) (sym keeps.payload)
      (holds_frame (H.payload b) (H.content b) (H.content c) depth node n.bytes n.ids (other (H.content b) (H.content c) id change n.ids sets none) n.holds);
  alone = n.alone;
}

pub keeps-then : {S : Type 0} {H : Holdings S} {a b c : S} → KeepsShape H a b → KeepsShape H b c → KeepsShape H a c
keeps-then one two = record { told = two.told ∙ one.told; payload = two.payload ∙ one.payload }

pub drop_start : {S : Type 0} {H : Holdings S} {s : S} {depth : ℕ} {children : List Id} → (n : HasTrees H s depth children) → DropRest H s s depth (drop 0 children) n.ids
drop_start {H = H} {s = s} n = record { bytes = n.bytes; gone = []; left = n.ids; parts = refl; trees = n.trees; dropped = replaces_nothing (H.content s) }

abbrev pub first_left : {S : Type 0} {H : Holdings S} {a s : S} {depth : ℕ} {children all : List Id} (child : Id) (rest : List Id) → H.told s ≡ true → NoDoubles all → children ≡ child ∷ rest → DropRest H a s depth children all → HasTree H s depth child
first_left {H = H} {s = s} {depth = depth} child rest told alone is r =
    let f : Forest (IsTree (H.payload s) (H.content s) depth) (span (H.payload s) depth) (child ∷ rest) r.bytes r.left =
    subst (λ cs. Forest (IsTree (H.payload s) (H.content s) depth) (span (H.payload s) depth) cs r.bytes r.left) is r.trees in
    let left : NoDoubles r.left = (alone-parts r.gone r.left (subst NoDoubles r.parts alone)).1 in
    record { bytes = take (span (H.payload s) depth) r.bytes; ids = f.1.0; told = told; tree = f.1.1.1.0; alone = (alone-parts f.1.0 f.1.1.0 (subst NoDoubles f.1.1.1.1.1 left)).0 }

pub drop_next : {S : Type 0} {H : Holdings S} {a s t : S} {depth : ℕ} {children all : List Id} (child : Id) (rest : List Id) → (told : H.told s ≡ true) → (alone : NoDoubles all) → (is : children ≡ child ∷ rest) → (r : DropRest H a s depth children all)
    → KeepsShape H s t → Replaces (H.content s) (H.content t) (first_left {H = H} {a = a} {s = s} child rest told alone is r).ids [] → DropRest H a t depth rest all
drop_next {H = H} {a = a} {s = s} {t = t} {depth = depth} {all = all} child rest told alone is r keeps dropped =
    let f : Forest (IsTree (H.payload s) (H.content s) depth) (span (H.payload s) depth) (child ∷ rest) r.bytes r.left =
    subst (λ cs. Forest (IsTree (H.payload s) (H.content s) depth) (span (H.payload s) depth) cs r.bytes r.left) is r.trees in
    let left : NoDoubles r.left = (alone-parts r.gone r.left (subst NoDoubles r.parts alone)).1 in
    let both : NoDoubles (f.1.0 ++ f.1.1.0) = subst NoDoubles f.1.1.1.1.1 left in
    let same : (q : Id) → has_id f.1.1.0 q ≡ true → H.content t q ≡ H.content s q = λ q h. dropped.kept q (apart_right f.1.0 f.1.1.0 both q h) refl in
    record {
      bytes = drop (span (H.payload s) depth) r.bytes;
      gone = r.gone ++ f.1.0;
      left = f.1.1.0;
      parts = r.parts ∙ ap (λ xs. r.gone ++ xs) f.1.1.1.1.1 ∙ sym (append_assoc r.gone f.1.0 f.1.1.0);
      trees = subst (λ p. Forest (IsTree p (H.content t) depth) (span p depth) rest (drop (span (H.payload s) depth) r.bytes) f.1.1.0) (sym keeps.payload)
          (trees_frame (H.payload s) (H.content s) (H.content t) depth (span (H.payload s) depth) rest (drop (span (H.payload s) depth) r.bytes) f.1.1.0 same f.1.1.1.1.0);
      dropped = drops_more (H.content a) (H.content s) (H.content t) r.gone f.1.0 r.dropped dropped;
    }

pub drop_done : {S : Type 0} {H : Holdings S} {a s : S} {depth : ℕ} {children all : List Id} → children ≡ [] → DropRest H a s depth children all → Replaces (H.content a) (H.content s) all []
drop_done {H = H} {a = a} {s = s} {depth = depth} {all = all} none r =
    let f : Forest (IsTree (H.payload s) (H.content s) depth) (span (H.payload s) depth) [] r.bytes r.left =
    subst (λ cs. Forest (IsTree (H.payload s) (H.content s) depth) (span (H.payload s) depth) cs r.bytes r.left) none r.trees in
    let whole : r.gone ≡ all = sym (r.parts ∙ ap (λ xs. r.gone ++ xs) f.1 ∙ append-nil r.gone) in
    subst (λ xs. Replaces (H.content a) (H.content s) xs []) whole r.dropped

pub there_put : (A B : Content) (id : Id) (text : List ℕ) → Sets A B id (Some text) → (q : Id) → is_some (A q) ≡ true → is_some (B q) ≡ true
there_put A B id text sets q h = ap is_some (sets q) ∙ by (same_id q id) h
  where
    by : (b : Bool) → is_some (A q) ≡ true → is_some (cond b (Some text) (A q)) ≡ true
    by true h = refl
    by false h = h
