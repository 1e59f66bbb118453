-- What setting a folder's attributes leaves, by the tree that tells them.
use Rattle.std.proofs.Common.{◌≡◌, inl, inr, ◌⊎◌, ℕ, zero, suc, List, [], ◌∷◌, ◌++◌, map, refl, sym, ◌∙◌, ap, subst, append_assoc, append-nil}
use Rattle.std.specs.Prelude.{Some, None}
use Rattle.std.proofs.lemmas.List.{map-append, append_cancel_left}
use Rattle.std.specs.FinMap.{get, insert, entries}
use Rattle.std.specs.declared.option.Option.{Option}
use Rattle.std.specs.declared.result.Result.{Result}
use Rattle.std.specs.declared.result.Result.TheVariants.{Ok, Err}
use Rattle.fs_model.specs.declared.attr.Attr.{Attr}
use Rattle.fs_model.specs.declared.attr.Kind.{Kind}
use Rattle.fs_model.specs.declared.attr.Kind.TheVariants.{Directory, File, Link}
use Rattle.fs_model.specs.declared.command.Command.{Command}
use Rattle.fs_model.specs.declared.command.Command.TheVariants as command
use Rattle.fs_model.specs.declared.reply.Reply.{Reply}
use Rattle.fs_model.specs.Instant.{Instant}
use Rattle.fs_model.specs.Step.{Stepped}
use Rattle.fs_model.specs.Tree.{Row, Tree, children, upward}
use Rattle.fs_model.proofs.LawLemmas.{looking_stays}
use Rattle.fs_model.proofs.TreeLemmas.{path_split, insert_here, insert_apart}
use Rattle.tree_copy.specs.host_folder.Folders.{HostPath}
use Rattle.tree_copy.specs.copy_laws.declared.asker.Stopped.{Stopped}
use Rattle.tree_copy.specs.copy_laws.Questions.{Question, Answered, Followed}
use Rattle.copy_times.specs.host_attributes.declared.row.AttributedRow.{AttributedRow}
use Rattle.copy_times.specs.host_attributes.Attributes.{attributed, attr_in, set_onto}
use Rattle.copy_times.specs.Asking.{Each, IsLook, IsSeen}
use Rattle.copy_times.specs.Giving.{told_kids}
use Rattle.copy_times.specs.Laws.{HasFolders}
use Rattle.copy_times.specs.Taking.{AreSet, IsOutcomeOf, Tells, tree_kids}
use Rattle.copy_times.specs.Tours.{Dressed, BelowIs, RowsTour, IsTour, dressed}
use Rattle.copy_times.proofs.Leaving.{HasHost, covers, up_same, attr_same, cons_of, child_up}
use Rattle.copy_times.proofs.host_attributes_lemmas.Rows.{AreFound, kids_found}
use Rattle.copy_attributes.specs.Laws.{AreAlike, AlikeBelow, StandsAlike}

-- ---- what was asked is told by the tree, which stays

look_told : (t : Tree) (now : Instant) (c : Command) (o : Result Reply Stopped) (mid : Tree) → IsLook c → Answered t now c o mid → IsOutcomeOf t c o × (mid ≡ t)
look_told t now (command.List p) (Ok reply) mid look h = (ap (λ (s : Stepped). s.reply) h, sym (ap (λ (s : Stepped). s.tree) h) ∙ looking_stays t now (command.List p) tt)
look_told t now (command.Stat p) (Ok reply) mid look h = (ap (λ (s : Stepped). s.reply) h, sym (ap (λ (s : Stepped). s.tree) h) ∙ looking_stays t now (command.Stat p) tt)
look_told t now c (Ok reply) mid look h = absurd look
look_told t now c (Err stopped) mid look h = (tt, h)

pub looks_told : (t : Tree) (now : Instant) (qs : List Question) (last : Tree) → Each IsSeen qs → Followed t now qs last → Tells t qs × (last ≡ t)
looks_told t now [] last seen h = (tt, h)
looks_told t now (q ∷ qs) last seen (mid, (a, rest)) =
    let one = look_told t now q.command q.outcome mid seen.0.0 a in
    let more = looks_told t now qs last seen.1 (subst (λ z. Followed z now qs last) one.1 rest) in
    ((one.0, more.0), more.1)

-- ---- the rows that are set

-- they lie at the same place below the two paths, and have the attributes of the tree's rows
abbrev AreTaken : Tree → HostPath → List Dressed → Type 0
AreTaken t q [] = Unit {0}
AreTaken t q (d ∷ ds) = ((n : List ℕ) × ((r : HostPath) × ((d.host ≡ n ∷ r) × ((d.tree ≡ q ++ n ∷ r) × (attr_in (get t (upward d.tree)) ≡ Some d.attr))))) × AreTaken t q ds

taken_append : (t : Tree) (q : HostPath) (ds es : List Dressed) → AreTaken t q ds → AreTaken t q es → AreTaken t q (ds ++ es)
taken_append t q [] es h g = g
taken_append t q (d ∷ ds) es h g = (h.0, taken_append t q ds es h.1 g)

module _ (t : Tree) (q : HostPath) where
  rows_taken : (B : HostPath → HostPath → List Dressed → Type 0) → ((p to : HostPath) (ds : List Dressed) → to ≡ q ++ p → B p to ds → AreTaken t q ds) → (p to : HostPath) → to ≡ q ++ p → (es : List (List ℕ × Row)) (ds : List Dressed) → AreFound (λ n. get t (n ∷ upward to)) es → RowsTour B p to (map attributed es) ds → AreTaken t q ds
  rows_taken B taken p to at [] ds f h = subst (AreTaken t q) (sym h) tt
  rows_taken B taken p to at (e ∷ es) ds f (below, (rest, (tour, (more, is)))) =
      let child : to ++ e.0 ∷ [] ≡ q ++ (p ++ e.0 ∷ []) = ap (λ z. z ++ e.0 ∷ []) at ∙ append_assoc q p (e.0 ∷ []) in
      let first = cons_of p e.0 in
      subst (AreTaken t q) (sym is) (taken_append t q below (dressed p to (attributed e) ∷ rest) (by e.1.attr.kind below child tour) (
        (first.0, (first.1.0, (first.1.1, (child ∙ ap (λ z. q ++ z) first.1.1, ap (λ z. attr_in (get t z)) (child_up to e.0) ∙ ap attr_in f.0)))),
        rows_taken B taken p to at es rest f.1 more,
      ))
    where
      by : (k : Kind) (ds : List Dressed) → to ++ e.0 ∷ [] ≡ q ++ (p ++ e.0 ∷ []) → BelowIs k (B (p ++ e.0 ∷ []) (to ++ e.0 ∷ [])) ds → AreTaken t q ds
      by Directory ds child h = taken (p ++ e.0 ∷ []) (to ++ e.0 ∷ []) ds child h
      by File ds child h = subst (AreTaken t q) (sym h) tt
      by Link ds child h = subst (AreTaken t q) (sym h) tt

  tour_taken : (depth : ℕ) (p to : HostPath) (ds : List Dressed) → to ≡ q ++ p → IsTour depth (tree_kids t) p to ds → AreTaken t q ds
  tour_taken zero p to ds at h = absurd h
  tour_taken (suc depth) p to ds at h = rows_taken (IsTour depth (tree_kids t)) (tour_taken depth) p to at (entries (children t (upward to))) ds (kids_found t to) h

-- ---- the same rows from the other side: what is set of the folder is a tour of the tree

turned : Dressed → Dressed
turned d = record { host = d.tree; tree = d.host; attr = d.attr }

rows_turned : (B C : HostPath → HostPath → List Dressed → Type 0) → ((p q : HostPath) (ds : List Dressed) → B p q ds → C q p (map turned ds)) → (p q : HostPath) (rows : List AttributedRow) (ds : List Dressed) → RowsTour B p q rows ds → RowsTour C q p rows (map turned ds)
unfolding turned
rows_turned B C turn p q [] ds h = ap (map turned) h
rows_turned B C turn p q (row ∷ rows) ds (below, (rest, (tour, (more, is)))) = (
  map turned below,
  (map turned rest, (by row.attr.kind below tour, (rows_turned B C turn p q rows rest more, ap (map turned) is ∙ map-append turned below (dressed p q row ∷ rest)))),
)
  where
    by : (k : Kind) (es : List Dressed) → BelowIs k (B (p ++ row.name ∷ []) (q ++ row.name ∷ [])) es → BelowIs k (C (q ++ row.name ∷ []) (p ++ row.name ∷ [])) (map turned es)
    by Directory es h = turn (p ++ row.name ∷ []) (q ++ row.name ∷ []) es h
    by File es h = ap (map turned) h
    by Link es h = ap (map turned) h

tour_turned : (t : Tree) (depth : ℕ) (p q : HostPath) (ds : List Dressed) → IsTour depth (tree_kids t) p q ds → IsTour depth (told_kids t) q p (map turned ds)
tour_turned t zero p q ds h = absurd h
tour_turned t (suc depth) p q ds h = rows_turned (IsTour depth (tree_kids t)) (IsTour depth (told_kids t)) (tour_turned t depth) p q (tree_kids t p q) ds h

-- ---- each of them is set

-- one of them has this path in the folder
abbrev InFolder : HostPath → List Dressed → Type 0
InFolder p [] = ⊥
InFolder p (d ∷ ds) = (d.host ≡ p) ⊎ InFolder p ds

-- each of them that has this path there has these attributes
abbrev Agree : HostPath → Attr → List Dressed → Type 0
Agree p attr [] = Unit {0}
Agree p attr (d ∷ ds) = (d.host ≡ p → d.attr ≡ attr) × Agree p attr ds

abbrev set_row : Row → Attr → Row
set_row was attr = record was { attr = set_onto was.attr attr }

set_alike : (old new : Attr) → AreAlike new (set_onto old new)
set_alike old new = record { mode = refl; uid = refl; gid = refl; atime = refl; mtime = refl }

never_told : (ds : List Dressed) (u : Tree) → AreSet None ds (Some u) → ⊥
never_told [] u h = let bad : Some u ≡ None = h in cc
never_told (d ∷ ds) u (mid, (one, more)) = never_told ds u (subst (λ z. AreSet z ds (Some u)) one more)

one_tree : (a b : Tree) → Some a ≡ Some b → a ≡ b
one_tree a b e = ap (λ o. of o) e
  where
    of : Option Tree → Tree
    of (Some z) = z
    of None = a

-- a row that is set so stays so
kept : (ds : List Dressed) (t u : Tree) (p : HostPath) (attr : Attr) → AreSet (Some t) ds (Some u) → Agree p attr ds → StandsAlike t p attr → StandsAlike u p attr
kept [] t u p attr h a (row, (there, alike)) = (row, (ap (λ z. get z (upward p)) (one_tree u t h) ∙ there, alike))
kept (d ∷ ds) t u p attr (mid, ((was, (stood, is)), more)) a (row, (there, alike)) = kept ds (insert t (upward d.host) (set_row was d.attr)) u p attr (subst (λ z. AreSet z ds (Some u)) is more) a.1 (elim (path_split (upward p) (upward d.host)) [
  | inl e ↦ (
    set_row was d.attr,
    (ap (get (insert t (upward d.host) (set_row was d.attr))) e ∙ insert_here t (upward d.host) (set_row was d.attr), subst (λ (z : Attr). AreAlike z (set_onto was.attr d.attr)) (a.0 (sym (up_same p d.host e))) (set_alike was.attr d.attr)),
  )
  | inr differ ↦ (row, (insert_apart t (upward d.host) (set_row was d.attr) (upward p) differ ∙ there, alike))
])

set_here : (ds : List Dressed) (t u : Tree) (p : HostPath) (attr : Attr) → AreSet (Some t) ds (Some u) → Agree p attr ds → InFolder p ds → StandsAlike u p attr
set_here [] t u p attr h a i = absurd i
set_here (d ∷ ds) t u p attr (mid, ((was, (stood, is)), more)) a (inl e) = kept ds (insert t (upward d.host) (set_row was d.attr)) u p attr (subst (λ z. AreSet z ds (Some u)) is more) a.1 (
  set_row was d.attr,
  (ap (λ z. get (insert t (upward d.host) (set_row was d.attr)) (upward z)) (sym e) ∙ insert_here t (upward d.host) (set_row was d.attr), subst (λ (z : Attr). AreAlike z (set_onto was.attr d.attr)) (a.0 e) (set_alike was.attr d.attr)),
)
set_here (d ∷ ds) t u p attr (mid, ((was, (stood, is)), more)) a (inr i) = set_here ds (insert t (upward d.host) (set_row was d.attr)) u p attr (subst (λ z. AreSet z ds (Some u)) is more) a.1 i

agrees : (t : Tree) (q : HostPath) (n : List ℕ) (r : HostPath) (row : Row) → get t (upward (q ++ n ∷ r)) ≡ Some row → (ds : List Dressed) → AreTaken t q ds → Agree (n ∷ r) row.attr ds
agrees t q n r row is [] h = tt
agrees t q n r row is (d ∷ ds) ((m, (s, (host, (tree, attr)))), more) = (
  λ e. attr_same (get t (upward d.tree)) row d.attr (ap (λ z. get t (upward z)) (tree ∙ ap (λ z. q ++ z) (sym host ∙ e)) ∙ is) attr,
  agrees t q n r row is ds more,
)

in_folder : (t : Tree) (q : HostPath) (n : List ℕ) (r : HostPath) (ds : List Dressed) → AreTaken t q ds → HasHost (q ++ n ∷ r) (map turned ds) → InFolder (n ∷ r) ds
unfolding turned
in_folder t q n r [] h i = absurd i
in_folder t q n r (d ∷ ds) ((m, (s, (host, (tree, attr)))), more) (inl e) = inl (host ∙ append_cancel_left q (m ∷ s) (n ∷ r) (sym tree ∙ e))
in_folder t q n r (d ∷ ds) (first, more) (inr i) = inr (in_folder t q n r ds more i)

-- where the folder tells its attributes behind the setting, each row has those of the tree's
pub sets_all : (t : Tree) (q : HostPath) (depth : ℕ) (rows : List Dressed) (before : Option Tree) (u : Tree) → HasFolders t → IsTour depth (tree_kids t) [] q rows → AreSet before rows (Some u) → AlikeBelow t q u []
sets_all t q depth rows None u folders tour set n r row there = absurd (never_told rows u set)
sets_all t q depth rows (Some first) u folders tour set n r row there =
    let taken = tour_taken t q depth [] q rows (sym (append-nil q)) tour in
    set_here rows first u (n ∷ r) row.attr set (agrees t q n r row there rows taken) (in_folder t q n r rows taken (covers t folders depth q [] (map turned rows) (tour_turned t depth [] q rows tour) n r row there))
