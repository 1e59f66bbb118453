-- The body of a directory where one entry goes and another comes.
use Rattle.std.specs.Prelude.{◌≡◌, ℕ, true, cond, not, ◌+◌, ◌-◌, ◌≤◌, ◌<◌, List, [], ◌∷◌, ◌++◌, length, take, drop, T}
use Rattle.std.proofs.Common.{refl, sym, ◌∙◌, ap, subst, append_assoc, arith}
use Rattle.std.specs.FinMap.{find, put, is_sorted}
use Rattle.std.specs.FinMap.Entries.{same_entries, below_all}
use Rattle.std.specs.Ordering.{is_lt, is_eq, ordering_reverse}
use Rattle.std.specs.declared.cmp.Ordering.TheVariants.{Greater}
use Rattle.std.specs.declared.option.Option.TheVariants.{None, Some}
use Rattle.std.proofs.lemmas.Bool.{and_parts}
use Rattle.std.proofs.lemmas.Cmp.{tied_itself}
use Rattle.std.proofs.lemmas.List.{length-append, length-drop}
use Rattle.std.proofs.lemmas.List.Concat.{flat_map-append, flat_map-cons}
use Rattle.std.proofs.lemmas.List.Elements.{All-nil, All-cons}
use Rattle.std.proofs.Math.Seq.{take-append_seam}
use Rattle.block_id.proofs.Orders.{less_is}
use Rattle.fs_model.specs.Tree.{name_cmp}
use Rattle.fs_model.proofs.TreeLemmas.{name_total, name_exact}
use Rattle.dir_entries.specs.Renaming.{renamed}
use Rattle.dir_entries.specs.Layout.{EntryTarget, Listing, attr_text, entry_text, body_of, IsEntry, IsInOrder, IsListing, IsBody}
use Rattle.dir_entries.specs.Places.{without, IsPlace}
use Rattle.dir_entries.proofs.Bodies.{below_at}
use Rattle.dir_entries.proofs.Edits.{put_text, part_order, put_listing, without_listing}
use Rattle.dir_entries.proofs.Past.{IsBelow, IsPast, place_at, without_past, without_below}

-- two lists of entries in order that say the same of each name are one
pub one_find : (one other : Listing) → IsInOrder one → IsInOrder other → ((k : List ℕ) → find name_cmp k one ≡ find name_cmp k other) → one ≡ other
one_find one other first second same = same_entries name_cmp name_total name_exact one other (subst T (sym first) tt) (subst T (sym second) tt) same

-- ---- two places in one list

cons_head : {x y : List ℕ × EntryTarget} {xs ys : Listing} → x ∷ xs ≡ y ∷ ys → x ≡ y
cons_head e = cc

cons_tail : {x y : List ℕ × EntryTarget} {xs ys : Listing} → x ∷ xs ≡ y ∷ ys → xs ≡ ys
cons_tail e = cc

some_text : (e : List ℕ × EntryTarget) → 1 ≤ length (entry_text e)
unfolding entry_text attr_text
some_text e = omega arith

longer : (e : List ℕ × EntryTarget) (listing : Listing) → length (body_of (e ∷ listing)) ≡ length (entry_text e) + length (body_of listing)
longer e listing = ap length (flat_map-cons entry_text e listing) ∙ length-append (entry_text e) (body_of listing)

-- the place of the second split is behind the entry of the first
record Behind (before after before2 after2 : Listing) (e : List ℕ × EntryTarget) : Type 0 where
  middle : Listing
  front : before2 ≡ before ++ e ∷ middle
  back : after ≡ middle ++ after2

behind : (before after before2 after2 : Listing) (e : List ℕ × EntryTarget) → before ++ e ∷ after ≡ before2 ++ after2 → length (body_of before) + length (entry_text e) ≤ length (body_of before2) → Behind before after before2 after2 e
behind before after [] after2 e split le = absurd (omega (arith, some_text e))
behind [] after (x ∷ before2) after2 e split le =
    record { middle = before2; front = ap (λ z. z ∷ before2) (sym (cons_head split)); back = cons_tail split }
behind (y ∷ before) after (x ∷ before2) after2 e split le =
    let rest = behind before after before2 after2 e (cons_tail split) (omega (arith, longer y before, longer x before2, ap (λ z. length (entry_text z)) (cons_head split))) in
    record { middle = rest.middle; front = ap (λ z. z ∷ before2) (sym (cons_head split)) ∙ ap (λ z. y ∷ z) rest.front; back = rest.back }

-- the place of the second split is in front of the entry of the first
record InFront (before after before2 after2 : Listing) (e : List ℕ × EntryTarget) : Type 0 where
  middle : Listing
  front : before ≡ before2 ++ middle
  back : after2 ≡ middle ++ e ∷ after

in_front : (before after before2 after2 : Listing) (e : List ℕ × EntryTarget) → before ++ e ∷ after ≡ before2 ++ after2 → length (body_of before2) ≤ length (body_of before) → InFront before after before2 after2 e
in_front before after [] after2 e split le = record { middle = before; front = refl; back = sym split }
in_front [] after (x ∷ before2) after2 e split le = absurd (omega (arith, longer x before2, some_text x))
in_front (y ∷ before) after (x ∷ before2) after2 e split le =
    let rest = in_front before after before2 after2 e (cons_tail split) (omega (arith, longer y before, longer x before2, ap (λ z. length (entry_text z)) (cons_head split))) in
    record { middle = rest.middle; front = ap (λ z. z ∷ before) (cons_head split) ∙ ap (λ z. x ∷ z) rest.front; back = rest.back }

-- a place isn't inside an entry
apart : (before after before2 after2 : Listing) (e : List ℕ × EntryTarget) → before ++ e ∷ after ≡ before2 ++ after2 → length (body_of before) < length (body_of before2) → length (body_of before) + length (entry_text e) ≤ length (body_of before2)
apart before after [] after2 e split lt = absurd (omega (arith, lt))
apart [] after (x ∷ before2) after2 e split lt = omega (arith, longer x before2, ap (λ z. length (entry_text z)) (cons_head split))
apart (y ∷ before) after (x ∷ before2) after2 e split lt =
    let same = ap (λ z. length (entry_text z)) (cons_head split) in
    let rest = apart before after before2 after2 e (cons_tail split) (omega (arith, longer y before, longer x before2, same, lt)) in
    omega (arith, longer y before, longer x before2, same, rest)

-- ---- the entries that are left

flipped : (x y : List ℕ) → is_lt (name_cmp x y) ≡ true → name_cmp y x ≡ Greater
flipped x y lt = name_total.antisymm y x ∙ ap ordering_reverse (less_is _ lt)

past_of : (before : Listing) (e : List ℕ × EntryTarget) (after : Listing) → IsInOrder (before ++ e ∷ after) → IsPast e.0 before
past_of [] e after sorted = All-nil (IsBelow e.0)
past_of (x ∷ before) e after sorted =
    let parts = and_parts (below_all name_cmp x.0 (before ++ e ∷ after)) (is_sorted name_cmp (before ++ e ∷ after)) sorted in
    All-cons (IsBelow e.0) x before (flipped x.0 e.0 (below_at x.0 before e after parts.0)) (past_of before e after parts.1)

-- an entry of a list in order stands at its name's place
placed : (name : List ℕ) (old : EntryTarget) (before after : Listing) → IsInOrder (before ++ (name, old) ∷ after) → IsPlace name (before ++ (name, old) ∷ after) (length (body_of before)) (Some old) (body_of after)
placed name old before after sorted = place_at name before (name, old) after (past_of before (name, old) after sorted) (part_order before ((name, old) ∷ after) sorted) (tied_itself name_total name)

dropped : (name : List ℕ) (old : EntryTarget) (before after : Listing) → IsInOrder (before ++ (name, old) ∷ after) → without name (before ++ (name, old) ∷ after) ≡ before ++ after
dropped name old before after sorted =
    let parts = and_parts (below_all name_cmp name after) (is_sorted name_cmp after) (part_order before ((name, old) ∷ after) sorted) in
    without_past name before ((name, old) ∷ after) (past_of before (name, old) after sorted)
    ∙ ap (λ z. before ++ z) (ap (λ o. cond (not (is_eq o)) ((name, old) ∷ without name after) (without name after)) (tied_itself name_total name) ∙ without_below name after parts.0)

-- what is left where an entry goes
left_text : (name : List ℕ) (old : EntryTarget) (before after listing : Listing) → IsListing listing → listing ≡ before ++ (name, old) ∷ after → body_of (without name listing) ≡ body_of before ++ body_of after
left_text name old before after listing is split =
    ap (λ z. body_of (without name z)) split
    ∙ (ap body_of (dropped name old before after (subst IsInOrder split is.order))
    ∙ flat_map-append entry_text before after)

left_listing : (name : List ℕ) (old : EntryTarget) (before after listing : Listing) → IsListing listing → listing ≡ before ++ (name, old) ∷ after → IsListing (without name listing)
left_listing name old before after listing is split =
    let there = subst IsListing split is in
    subst (λ z. IsListing (without name z)) (sym split) (without_listing name (before ++ (name, old) ∷ after) (length (body_of before)) (Some old) (body_of after) (placed name old before after there.order) there)

-- ---- the bytes that change

module _ (name : List ℕ) (old : EntryTarget) (e : List ℕ × EntryTarget) (listing : Listing) (body : List ℕ) (front back front2 back2 : ℕ)
    (is : IsBody body listing) (own : IsEntry e) (place : IsPlace name listing front (Some old) (drop back body)) (place2 : IsPlace e.0 listing front2 None (drop back2 body))
    (le : back ≤ length body) (le2 : back2 ≤ length body) where
  -- the entries with the one that comes
  with_new : IsListing (put name_cmp e.0 e.1 listing)
  with_new = put_listing e.0 e.1 listing front2 None (drop back2 body) place2 is.entries own

  parts : body ≡ body_of place.before ++ (entry_text (name, old) ++ body_of place.after)
  parts = is.text ∙ (ap body_of place.split ∙ put_text name old place.before place.after)

  parts2 : body ≡ body_of place2.before ++ body_of place2.after
  parts2 = is.text ∙ (ap body_of place2.split ∙ flat_map-append entry_text place2.before place2.after)

  ends : back ≡ length (body_of place.before) + length (entry_text (name, old))
  ends =
      let whole = ap length parts ∙ length-append (body_of place.before) (entry_text (name, old) ++ body_of place.after) in
      omega (arith, whole, length-append (entry_text (name, old)) (body_of place.after), ap length place.rest, length-drop back body, le)

  ends2 : back2 ≡ length (body_of place2.before)
  ends2 = omega (arith, ap length parts2 ∙ length-append (body_of place2.before) (body_of place2.after), ap length place2.rest, length-drop back2 body, le2)

  splits : place.before ++ (name, old) ∷ place.after ≡ place2.before ++ place2.after
  splits = sym place.split ∙ place2.split

  fronts : take front body ≡ body_of place.before
  fronts = ap (λ k. take k body) place.starts ∙ (ap (take (length (body_of place.before))) parts ∙ take-append_seam (body_of place.before) (entry_text (name, old) ++ body_of place.after))

  fronts2 : take front2 body ≡ body_of place2.before
  fronts2 = ap (λ k. take k body) place2.starts ∙ (ap (take (length (body_of place2.before))) parts2 ∙ take-append_seam (body_of place2.before) (body_of place2.after))

  -- the entry moves towards the end
  module _ (order : back ≤ front2) where
    after_it : Behind place.before place.after place2.before place2.after (name, old)
    after_it = behind place.before place.after place2.before place2.after (name, old) splits (omega (arith, ends, place2.starts, order))

    new_split : put name_cmp e.0 e.1 listing ≡ place.before ++ (name, old) ∷ (after_it.middle ++ e ∷ place2.after)
    new_split = place2.puts e.1 ∙ (ap (λ z. z ++ e ∷ place2.after) after_it.front ∙ append_assoc place.before ((name, old) ∷ after_it.middle) (e ∷ place2.after))

    moved_on : take (front2 - back) (drop back body) ≡ body_of after_it.middle
    moved_on =
        let rest : drop back body ≡ body_of after_it.middle ++ body_of place2.after = place.rest ∙ (ap body_of after_it.back ∙ flat_map-append entry_text after_it.middle place2.after) in
        let long : length (body_of place2.before) ≡ length (body_of place.before) + (length (entry_text (name, old)) + length (body_of after_it.middle)) =
        ap length (ap body_of after_it.front ∙ flat_map-append entry_text place.before ((name, old) ∷ after_it.middle)) ∙ (length-append (body_of place.before) (body_of ((name, old) ∷ after_it.middle)) ∙ ap (λ k. length (body_of place.before) + k) (longer (name, old) after_it.middle)) in
        let count : front2 - back ≡ length (body_of after_it.middle) = omega (arith, place2.starts, ends, long) in
        ap (λ k. take k (drop back body)) count ∙ (ap (take (length (body_of after_it.middle))) rest ∙ take-append_seam (body_of after_it.middle) (body_of place2.after))

    pub edit_behind : (bytes : List ℕ) → bytes ≡ take (front2 - back) (drop back body) ++ entry_text e → take front body ++ (bytes ++ drop back2 body) ≡ body_of (renamed name e listing)
    edit_behind bytes text =
        ap (λ z. z ++ (bytes ++ drop back2 body)) fronts
        ∙ (ap (λ z. body_of place.before ++ (z ++ drop back2 body)) (text ∙ ap (λ z. z ++ entry_text e) moved_on)
        ∙ (ap (λ z. body_of place.before ++ ((body_of after_it.middle ++ entry_text e) ++ z)) place2.rest
        ∙ (ap (λ z. body_of place.before ++ z) (append_assoc (body_of after_it.middle) (entry_text e) (body_of place2.after)
        ∙ sym (put_text e.0 e.1 after_it.middle place2.after))
        ∙ sym (left_text name old place.before (after_it.middle ++ e ∷ place2.after) (put name_cmp e.0 e.1 listing) with_new new_split))))

    pub edit_behind_is : IsListing (renamed name e listing)
    edit_behind_is = left_listing name old place.before (after_it.middle ++ e ∷ place2.after) (put name_cmp e.0 e.1 listing) with_new new_split

  -- the entry moves towards the front
  module _ (order : back2 ≤ front) where
    before_it : InFront place.before place.after place2.before place2.after (name, old)
    before_it = in_front place.before place.after place2.before place2.after (name, old) splits (omega (arith, ends2, place.starts, order))

    old_split : put name_cmp e.0 e.1 listing ≡ (place2.before ++ e ∷ before_it.middle) ++ (name, old) ∷ place.after
    old_split = place2.puts e.1 ∙ (ap (λ z. place2.before ++ e ∷ z) before_it.back ∙ sym (append_assoc place2.before (e ∷ before_it.middle) ((name, old) ∷ place.after)))

    moved_back : take (front - back2) (drop back2 body) ≡ body_of before_it.middle
    moved_back =
        let rest : drop back2 body ≡ body_of before_it.middle ++ body_of ((name, old) ∷ place.after) = place2.rest ∙ (ap body_of before_it.back ∙ flat_map-append entry_text before_it.middle ((name, old) ∷ place.after)) in
        let long : length (body_of place.before) ≡ length (body_of place2.before) + length (body_of before_it.middle) =
        ap length (ap body_of before_it.front ∙ flat_map-append entry_text place2.before before_it.middle) ∙ length-append (body_of place2.before) (body_of before_it.middle) in
        let count : front - back2 ≡ length (body_of before_it.middle) = omega (arith, place.starts, ends2, long) in
        ap (λ k. take k (drop back2 body)) count ∙ (ap (take (length (body_of before_it.middle))) rest ∙ take-append_seam (body_of before_it.middle) (body_of ((name, old) ∷ place.after)))

    pub edit_in_front : (bytes : List ℕ) → bytes ≡ entry_text e ++ take (front - back2) (drop back2 body) → take front2 body ++ (bytes ++ drop back body) ≡ body_of (renamed name e listing)
    edit_in_front bytes text =
        ap (λ z. z ++ (bytes ++ drop back body)) fronts2
        ∙ (ap (λ z. body_of place2.before ++ (z ++ drop back body)) (text ∙ ap (λ z. entry_text e ++ z) moved_back)
        ∙ (ap (λ z. body_of place2.before ++ ((entry_text e ++ body_of before_it.middle) ++ z)) place.rest
        ∙ (sym (append_assoc (body_of place2.before) (entry_text e ++ body_of before_it.middle) (body_of place.after))
        ∙ (ap (λ z. z ++ body_of place.after) (sym (put_text e.0 e.1 place2.before before_it.middle))
        ∙ sym (left_text name old (place2.before ++ e ∷ before_it.middle) place.after (put name_cmp e.0 e.1 listing) with_new old_split)))))

    pub edit_in_front_is : IsListing (renamed name e listing)
    edit_in_front_is = left_listing name old (place2.before ++ e ∷ before_it.middle) place.after (put name_cmp e.0 e.1 listing) with_new old_split

  -- there is no third way
  pub edit_somewhere : front2 < back → front < back2 → ⊥
  edit_somewhere lt lt2 =
      let past = apart place.before place.after place2.before place2.after (name, old) splits (omega (arith, place.starts, ends2, lt2)) in
      omega (arith, past, ends, place2.starts, lt)
