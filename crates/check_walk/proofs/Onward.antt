-- A flaw below a node, as one of the tree that the node is in.
use Rattle.std.proofs.Common.{◌≡◌, ◌⊎◌, ℕ, suc, ◌<◌, ◌≤◌, ◌^◌, Bool, true, false, List, [], ◌∷◌, length, take, refl, sym, ◌∙◌, ap, subst, inl, inr, arith}
use Rattle.std.specs.Prelude.{Some, None, is_some, nat_lt, ◌||◌}
use Rattle.std.specs.List.{slice_get}
use Rattle.std.specs.Option.{option_map}
use Rattle.std.proofs.Common.{get_or}
use Rattle.std.proofs.lemmas.Bool.{or_cases, lt-ltb, le-ltb}
use Rattle.std.proofs.lemmas.Option.{slice_get-map, slice_get-get_or}
use Rattle.block_id.specs.declared.id.BlockId.{BlockId}
use Rattle.data_tree.specs.data_nodes.Layout.{NodeText, ids_of, leaf, inner, IsNode}
use Rattle.data_tree.proofs.data_nodes_lemmas.Laws.{one_node}
use Rattle.data_tree.specs.Trees.{IsTree, Forest, IsDepth, depth_in}
use Rattle.data_tree.specs.store_api.Content.{Id, Content, same_id}
use Rattle.data_tree.specs.store_api.Holdings.{has_id}
use Rattle.data_tree.proofs.store_api_lemmas.Rising.{same_id_is}
use Rattle.check_walk.specs.declared.flaw.Flaw.{Flaw}
use Rattle.check_walk.specs.declared.flaw.Flaw.TheVariants.{BadNode, BadBlob, Parent, Twice, NotLive, Unowned}
use Rattle.check_walk.specs.Marks.{MarkList, MarkedAll, owner_of}
use Rattle.check_walk.specs.Needs.{NodeNeed, under, fills, IsTop, ServesAs, Serves, Leads, LeadsAmong}
use Rattle.check_walk.specs.Walks.{IsNodeAt}
use Rattle.check_walk.specs.Halts.{Leading, FlawAt, LeadsBelow, FlawIn}
use Rattle.check_walk.proofs.Chains.{marked-none}
use Rattle.check_walk.proofs.Leading.{leads_before}

pub unfit_as : (payload : ℕ) (need : NodeNeed) (text : List ℕ) (node : NodeText) → IsNode text node → (ServesAs payload need node → ⊥) → Serves payload need text → ⊥
unfit_as payload need text node is bad s = bad (subst (ServesAs payload need) (one_node text s.node node s.is is) s.serves)

-- how ways of one kind go on from ways of another, behind blocks that were walked before
pub record Onward (ids : List Id) (leads onward : Leading) : Type 0 where
  pub from : List ℕ → List ℕ
  pub apart : (a b : List ℕ) → from a ≡ from b → a ≡ b
  pub step : (way : List ℕ) (x : Id) (need : NodeNeed) → leads way x need → onward (from way) x need
  pub seen : (x : Id) (way : List ℕ) (need : NodeNeed) → has_id ids x ≡ true → leads way x need → (other : List ℕ) × ((wanted : NodeNeed) × (onward other x wanted × (other ≡ from way → ⊥)))

module _ (payload low : ℕ) (C : Content) (old mid : MarkList) (held here : Content) (owner : ℕ) (ids : List Id) (leads onward : Leading) where
  pub flaw_then : low ≡ payload → MarkedAll old mid ids owner → ((x : Id) → is_some (here x) ≡ is_some (held x)) → Onward ids leads onward → (flaw : Flaw) → FlawAt low C mid here leads flaw → FlawAt payload C old held onward flaw
  flaw_then size marked same on (BadNode id) h = record { way = on.from h.way; need = h.need; reached = on.step h.way id.0 h.need h.reached; text = h.text; there = h.there; unfit = λ s. h.unfit (subst (λ p. Serves p h.need h.text) (sym size) s) }
  flaw_then size marked same on (Twice id) h = record {
    way = on.from h.way;
    need = h.need;
    reached = on.step h.way id.0 h.need h.reached;
    again = elim h.again [
      | inl owned ↦ by owned (has_id ids id.0) refl
      | inr other ↦ inr (on.from other.0, (other.1.0, (on.step other.0 id.0 other.1.0 other.1.1.0, λ e. other.1.1.1 (on.apart other.0 h.way e))))
    ];
  }
    where
      by : ((n : ℕ) × ((0 < n) × (owner_of mid id.0 ≡ Some n))) → (r : Bool) → has_id ids id.0 ≡ r
          → ((n : ℕ) × ((0 < n) × (owner_of old id.0 ≡ Some n))) ⊎ ((other : List ℕ) × ((wanted : NodeNeed) × (onward other id.0 wanted × (other ≡ on.from h.way → ⊥))))
      by owned true e = inr (on.seen id.0 h.way h.need e h.reached)
      by owned false e = inl (owned.0, (owned.1.0, sym (marked.kept id.0 e) ∙ owned.1.1))
  flaw_then size marked same on (NotLive id) h = record {
    way = on.from h.way;
    need = h.need;
    reached = on.step h.way id.0 h.need h.reached;
    absent = elim h.absent [ inl none ↦ inl (by none (has_id ids id.0) refl) | inr gone ↦ inr (sym (same id.0) ∙ gone) ];
  }
    where
      by : owner_of mid id.0 ≡ None → (r : Bool) → has_id ids id.0 ≡ r → owner_of old id.0 ≡ None
      by none true e = let bad : Some owner ≡ None = sym (marked.now id.0 e) ∙ none in absurd (cc)
      by none false e = sym (marked.kept id.0 e) ∙ none
  flaw_then size marked same on (BadBlob id) h = absurd h
  flaw_then size marked same on (Parent id) h = absurd h
  flaw_then size marked same on (Unowned id) h = absurd h

-- ---- below one node

below_onward : (payload : ℕ) (id : Id) (node : NodeText) (need : NodeNeed) (C : Content) (w : List ℕ) (ids : List Id) → IsNodeAt payload id node C w ids → Onward ids (LeadsBelow C node need) (Leads C id need)
below_onward payload id node need C w ids n = record { from = λ way. way; apart = λ a b e. e; step = step; seen = seen }
  where
    step : (way : List ℕ) (x : Id) (wanted : NodeNeed) → LeadsBelow C node need way x wanted → Leads C id need way x wanted
    step [] x wanted h = absurd h.1.1.1
    step (i ∷ way) x wanted (depth, (children, (is, h))) = (n.text, (depth, (children, (n.there, (subst (IsNode n.text) is n.is, h)))))

    only : (x : Id) → has_id ids x ≡ true → x ≡ id
    only x h = elim (or_cases (same_id x id) false (subst (λ xs. has_id xs x ≡ true) n.one h)) [ inl same ↦ same_id_is x id same | inr never ↦ absurd (cc) ]

    seen : (x : Id) (way : List ℕ) (wanted : NodeNeed) → has_id ids x ≡ true → LeadsBelow C node need way x wanted → (other : List ℕ) × ((sought : NodeNeed) × (Leads C id need other x sought × (other ≡ way → ⊥)))
    seen x [] wanted has h = absurd h.1.1.1
    seen x (i ∷ way) wanted has h = ([], (need, ((only x has, refl), λ e. absurd (cc))))

-- a node's own flaw, or one below it
pub flaw_in : (payload low : ℕ) (C : Content) (old mid : MarkList) (held here : Content) (owner : ℕ) (id : Id) (node : NodeText) (need : NodeNeed) (w : List ℕ) (ids : List Id) → low ≡ payload → MarkedAll old mid ids owner → ((x : Id) → is_some (here x) ≡ is_some (held x)) → IsNodeAt payload id node C w ids
    → (flaw : Flaw) → FlawIn low C mid here id node need flaw → FlawAt payload C old held (Leads C id need) flaw
flaw_in payload low C old mid held here owner id node need w ids size marked same n flaw (inr below) = flaw_then payload low C old mid held here owner ids (LeadsBelow C node need) (Leads C id need) size marked same (below_onward payload id node need C w ids n) flaw below
flaw_in payload low C old mid held here owner id node need w ids size marked same n (BadNode bad) (inl own) = record {
  way = [];
  need = need;
  reached = (own.0, refl);
  text = n.text;
  there = ap C own.0 ∙ n.there;
  unfit = unfit_as payload need n.text node n.is (λ s. own.1 (subst (λ p. ServesAs p need node) (sym size) s));
}
flaw_in payload low C old mid held here owner id node need w ids size marked same n (BadBlob bad) (inl own) = absurd own
flaw_in payload low C old mid held here owner id node need w ids size marked same n (Parent bad) (inl own) = absurd own
flaw_in payload low C old mid held here owner id node need w ids size marked same n (Twice bad) (inl own) = absurd own
flaw_in payload low C old mid held here owner id node need w ids size marked same n (NotLive bad) (inl own) = absurd own
flaw_in payload low C old mid held here owner id node need w ids size marked same n (Unowned bad) (inl own) = absurd own

-- the children of the node
pub flaw_among : (payload : ℕ) (C : Content) (old : MarkList) (held : Content) (id : Id) (node : NodeText) (need : NodeNeed) (depth d : ℕ) (children : List Id) → node ≡ inner d children → d ≡ suc depth
    → (flaw : Flaw) → FlawAt payload C old held (LeadsAmong C depth (fills need) children) flaw → FlawIn payload C old held id node need flaw
flaw_among payload C old held id node need depth d children is deep flaw h = inr (flaw_then payload payload C old old held held 0 [] (LeadsAmong C depth (fills need) children) (LeadsBelow C node need) refl (marked-none old 0) (λ x. refl) (record {
  from = λ way. way;
  apart = λ a b e. e;
  step = λ way x wanted leads. (depth, (children, (is ∙ ap (λ k. inner k children) deep, leads)));
  seen = λ x way wanted has leads. let bad : false ≡ true = has in absurd (cc);
}) flaw h)

-- ---- among trees side by side

pub among_onward : (payload : ℕ) (C : Content) (depth size : ℕ) (full flag : Bool) (children : List Id) (i : ℕ) (child : Id) (w : List ℕ) (ids : List Id) → slice_get children i ≡ Some child → (nat_lt (suc i) (length children) || full) ≡ flag
    → Forest (IsTree payload C depth) size (take i children) w ids → Onward ids (Leads C child (under depth flag)) (LeadsAmong C depth full children)
among_onward payload C depth size full flag children i child w ids at is f = record {
  from = λ way. i ∷ way;
  apart = λ a b e. cc;
  step = λ way x wanted leads. (child, (at, subst (λ b. Leads C child (under depth b) way x wanted) (sym is) leads));
  seen = λ x way wanted has leads.
      let b = leads_before payload C depth size full children i w ids f x has in
      (b.number ∷ b.way, (b.wanted, (b.leads, λ e. let same : b.number ≡ i = cc in omega (arith, b.lower, same))));
}

pub flag_before : (i n : ℕ) (full : Bool) → suc i < n → (nat_lt (suc i) n || full) ≡ true
flag_before i n full lt = ap (λ b. b || full) (lt-ltb (suc i) n lt)

pub flag_last : (i n : ℕ) (full : Bool) → n ≤ suc i → (nat_lt (suc i) n || full) ≡ full
flag_last i n full le = ap (λ b. b || full) (le-ltb (suc i) n le)

pub child_is : (children : List BlockId) (i : ℕ) (d : BlockId) → i < length children → slice_get (ids_of children) i ≡ Some (get_or children i d).0
child_is children i d lt = slice_get-map (λ (x : BlockId). x.0) children i ∙ ap (option_map (λ (x : BlockId). x.0)) (slice_get-get_or children i d lt)

-- a root that no level is for
pub no_level : (payload size depth : ℕ) (node : NodeText) → size ≡ payload → depth ≡ depth_in node → ((n : ℕ) → n ≤ 2 ^ 40 → IsDepth size depth n → ⊥) → IsTop payload node → ⊥
no_level payload size depth (leaf bytes) sized level none top = none 0 (omega arith) (subst (λ d. IsDepth size d 0) (sym level) (omega arith))
no_level payload size depth (inner d children) sized level none top = none top.1.0 top.1.1.0 (subst (λ p. IsDepth p depth top.1.0) (sym sized) (subst (λ k. IsDepth payload k top.1.0) (sym level) top.1.1.1))
