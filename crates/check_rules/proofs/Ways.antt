-- From node to node of a blob's tree.
use Rattle.std.proofs.Common.{◌≡◌, ℕ, suc, true, false, List, [], ◌∷◌, ◌++◌, length, refl, sym, ◌∙◌, ap, subst, arith}
use Rattle.std.specs.Prelude.{Some, is_some, nat_lt, ◌||◌}
use Rattle.std.specs.List.{slice_get}
use Rattle.block_id.proofs.Options.{some_of}
use Rattle.check_walk.specs.Needs.{NodeNeed, under, fills, Leads}
use Rattle.check_walk.specs.data_nodes.Layout.{inner, IsNode}
use Rattle.check_walk.proofs.data_nodes_lemmas.Laws.{one_node}
use Rattle.check_walk.specs.data_tree.Trees.{NoDoubles}
use Rattle.check_walk.specs.store_api.Content.{Id, Content}
use Rattle.check_walk.specs.store_api.Holdings.{has_id}
use Rattle.check_rules.proofs.Nodes.{TreeAt, Below, child_at, child_alone, one_child, in_own, root_has, root_apart}

same_depth : {d e : ℕ} {xs ys : List Id} → inner (suc d) xs ≡ inner (suc e) ys → d ≡ e
same_depth {d = d} {e = e} h = let up : suc d ≡ suc e = cc in omega (arith, up)

module _ (payload : ℕ) (G B : Content) (sub : (x : Id) (text : List ℕ) → G x ≡ Some text → B x ≡ Some text) where
  -- where a way leads, a tree stands
  pub below_at : (way : List ℕ) (need : NodeNeed) (id : Id) (t : TreeAt payload B need id) (x : Id) (wanted : NodeNeed) → Leads G id need way x wanted → Below payload B wanted x t.own
  below_at [] need id t x wanted (same, alike) =
      subst (λ n. Below payload B n x t.own) (sym alike) (subst (λ y. Below payload B need y t.own) (sym same) (record { at = t; inside = λ y h. h }))
  below_at (i ∷ way) need id t x wanted (text, (d, (children, (there, (is, (child, (at, rest))))))) =
      let b = child_at payload B need id t text d children i child (sub id text there) is at in
      let on = below_at way (under d (nat_lt (suc i) (length children) || fills need)) child b.at x wanted rest in
      record { at = on.at; inside = λ y h. in_own payload B need id t y (b.inside y (on.inside y h)) }

  pub has_at : (way : List ℕ) (need : NodeNeed) (id : Id) (t : TreeAt payload B need id) (x : Id) (wanted : NodeNeed) → Leads G id need way x wanted → has_id t.own x ≡ true
  has_at way need id t x wanted leads =
      let b = below_at way need id t x wanted leads in
      b.inside x (root_has payload B wanted x b.at)

  -- a way with a step goes below the root
  lower : (i : ℕ) (way : List ℕ) (need : NodeNeed) (id : Id) (t : TreeAt payload B need id) → NoDoubles t.own → (x : Id) (a : NodeNeed) → Leads G id need (i ∷ way) x a → x ≡ id → ⊥
  lower i way need id t alone x a (text, (d, (children, (there, (is, (child, (at, rest))))))) same =
      let b = child_at payload B need id t text d children i child (sub id text there) is at in
      let in_below = b.inside x (has_at way (under d (nat_lt (suc i) (length children) || fills need)) child b.at x a rest) in
      let none = (root_apart payload B need id t alone).0 in
      let bad : true ≡ false = sym in_below ∙ (ap (has_id t.tree.below) same ∙ none) in
      absurd (cc)

  -- one node, one way
  pub one_way : (way other : List ℕ) (need : NodeNeed) (id : Id) (t : TreeAt payload B need id) → NoDoubles t.own → (x : Id) (a b : NodeNeed) → Leads G id need way x a → Leads G id need other x b → way ≡ other
  one_way [] [] need id t alone x a b h k = refl
  one_way [] (j ∷ other) need id t alone x a b h k = absurd (lower j other need id t alone x b k h.0)
  one_way (i ∷ way) [] need id t alone x a b h k = absurd (lower i way need id t alone x a h k.0)
  one_way (i ∷ way) (j ∷ other) need id t alone x a b (text, (d, (children, (there, (is, (child, (at, rest))))))) (text2, (d2, (children2, (there2, (is2, (child2, (at2, rest2))))))) =
      let both : Some text ≡ Some text2 = sym there ∙ there2 in
      let bytes : text2 ≡ text = cc in
      let node : inner (suc d2) children2 ≡ inner (suc d) children = one_node text (inner (suc d2) children2) (inner (suc d) children) (subst (λ z. IsNode z (inner (suc d2) children2)) bytes is2) is in
      let deep : d2 ≡ d = same_depth node in
      let list : children2 ≡ children = cc in
      let at3 : slice_get children j ≡ Some child2 = subst (λ cs. slice_get cs j ≡ Some child2) list at2 in
      let rest3 : Leads G child2 (under d (nat_lt (suc j) (length children) || fills need)) other x b = subst (λ cs. Leads G child2 (under d (nat_lt (suc j) (length cs) || fills need)) other x b) list (subst (λ k. Leads G child2 (under k (nat_lt (suc j) (length children2) || fills need)) other x b) deep rest2) in
      let there4 = sub id text there in
      let one = child_at payload B need id t text d children i child there4 is at in
      let two = child_at payload B need id t text d children j child2 there4 is at3 in
      let below = (root_apart payload B need id t alone).1 in
      let number : i ≡ j = one_child payload B need id t text d children i j child child2 there4 is at at3 below x (has_at way (under d (nat_lt (suc i) (length children) || fills need)) child one.at x a rest) (has_at other (under d (nat_lt (suc j) (length children) || fills need)) child2 two.at x b rest3) in
      let child_too : Some child2 ≡ Some child = sym at3 ∙ (ap (slice_get children) (sym number) ∙ at) in
      let root : child2 ≡ child = cc in
      let rest4 : Leads G child (under d (nat_lt (suc i) (length children) || fills need)) other x b = subst (λ c. Leads G c (under d (nat_lt (suc i) (length children) || fills need)) other x b) root (subst (λ k. Leads G child2 (under d (nat_lt (suc k) (length children) || fills need)) other x b) (sym number) rest3) in
      let tail = one_way way other (under d (nat_lt (suc i) (length children) || fills need)) child one.at (child_alone payload B need id t text d children i child there4 is at below) x a b rest rest4 in
      ap (λ k. k ∷ way) number ∙ ap (λ w. j ∷ w) tail

  -- ---- where all that is needed was given, ways lead in what was given as in the content

  -- one step more
  pub leads_more : (way : List ℕ) (id : Id) (need : NodeNeed) (x : Id) (wanted : NodeNeed) (i : ℕ) (text : List ℕ) (d : ℕ) (children : List Id) (child : Id) → Leads G id need way x wanted → G x ≡ Some text → IsNode text (inner (suc d) children) → slice_get children i ≡ Some child
      → Leads G id need (way ++ i ∷ []) child (under d (nat_lt (suc i) (length children) || fills wanted))
  leads_more [] id need x wanted i text d children child (same, alike) there is at =
      (text, (d, (children, (subst (λ y. G y ≡ Some text) same there, (is, (child, (at, (refl, ap (λ n. under d (nat_lt (suc i) (length children) || fills n)) alike))))))))
  leads_more (j ∷ way) id need x wanted i text d children child (text2, (d2, (children2, (there2, (is2, (child2, (at2, rest))))))) there is at =
      (text2, (d2, (children2, (there2, (is2, (child2, (at2, leads_more way child2 (under d2 (nat_lt (suc j) (length children2) || fills need)) x wanted i text d children child rest there is at)))))))

  -- from the root to a node, and from there on in the content
  pub leads_on : (root : Id) (first : NodeNeed) → ((way : List ℕ) (x : Id) (need : NodeNeed) → Leads G root first way x need → is_some (G x) ≡ true) → (way front : List ℕ) (id : Id) (need : NodeNeed) (x : Id) (wanted : NodeNeed) → Leads G root first front id need → Leads B id need way x wanted
      → (whole : List ℕ) × Leads G root first whole x wanted
  leads_on root first given [] front id need x wanted h (same, alike) = (front, subst (λ n. Leads G root first front x n) (sym alike) (subst (λ y. Leads G root first front y need) (sym same) h))
  leads_on root first given (i ∷ way) front id need x wanted h (text, (d, (children, (there, (is, (child, (at, rest))))))) =
      let got = some_of (G id) (given front id need h) in
      let both : Some got.0 ≡ Some text = sym (sub id got.0 got.1) ∙ there in
      leads_on root first given way (front ++ i ∷ []) child (under d (nat_lt (suc i) (length children) || fills need)) x wanted (leads_more front root first id need i text d children child h (got.1 ∙ both) is at) rest
