-- Lists of changes that are written or set one after another.
use Rattle.std.proofs.Common.{◌≡◌, ◌⊎◌, inl, inr, ℕ, ◌+◌, ◌-◌, ◌<◌, ◌≤◌, ◌^◌, min, true, false, List, [], ◌∷◌, ◌++◌, length, take, drop, get_or, refl, sym, ◌∙◌, ap, subst, arith}
use Rattle.std.specs.Prelude.{T, cond, sum_by, unwrap_or}
use Rattle.std.specs.Option.{option_map}
use Rattle.std.specs.Ordering.{is_eq}
use Rattle.std.specs.FinMap.Entries.{by_order, below_all, is_sorted}
use Rattle.std.specs.declared.cmp.Ordering.TheVariants.{Less, Equal, Greater}
use Rattle.std.proofs.Math.Seq.{take-append_seam}
use Rattle.std.proofs.lemmas.List.{take-append-drop, drop-map, take_more, get_or-map, length-map, length-drop}
use Rattle.std.proofs.lemmas.List.Sums.{sum_by-cons, sum_by_more}
use Rattle.std.specs.declared.option.Option.{Option}
use Rattle.std.specs.declared.option.Option.TheVariants.{None, Some}
use Rattle.block_id.proofs.Conditions.{left, right}
use Rattle.outside.specs.declared.change.Pending.{Pending}
use Rattle.outside.specs.Trace.{At, Call, adds}
use Rattle.outside.specs.Names.{at_cmp}
use Rattle.outside.specs.Changes.{FileChanges, IsIncreasing, change_at, set_change, set_changes}
use Rattle.outside.specs.View.{at_of, change_of, pending_of, list_of}
use Rattle.pending_list.proofs.InOrder.{rises_of, none_below}
use Rattle.pending_list.proofs.Lists.{item_here}
use Rattle.redo_vault.specs.Redo.{bytes_len, buffered_len, len_with, sum_with}
use Rattle.outside.specs.Writes.{call_for, after_writes, StopsAt}

after_push : (done : FileChanges) (change : At × Option (List ℕ)) (trace : Option (List Call)) → after_writes (done ++ change ∷ []) trace ≡ adds (after_writes done trace) (call_for change true)
after_push [] change trace = refl
after_push (first ∷ done) change trace = after_push done change (adds trace (call_for first true))

within : (ps : List Pending) (i : ℕ) → i < length ps → i < length (list_of ps)
within ps i h = omega (arith, length-map ps pending_of)

entry_here : (ps : List Pending) (i : ℕ) (p : Pending) → i < length ps → p ≡ get_or ps i p → get_or (list_of ps) i (pending_of p) ≡ pending_of p
entry_here ps i p h is = get_or-map pending_of ps i p (pending_of p) h ∙ ap pending_of (sym is)

take_here : (ps : List Pending) (i : ℕ) (p : Pending) → i < length ps → p ≡ get_or ps i p → take (i + 1) (list_of ps) ≡ take i (list_of ps) ++ pending_of p ∷ []
take_here ps i p h is =
    take_more (list_of ps) i (pending_of p) (within ps i h) ∙ ap (λ e. take i (list_of ps) ++ e ∷ []) (entry_here ps i p h is)

pub written_more : (ps : List Pending) (i : ℕ) (p : Pending) (first before now : Option (List Call)) → i < length ps → p ≡ get_or ps i p
    → before ≡ after_writes (take i (list_of ps)) first → now ≡ adds before (call_for (pending_of p) true) → now ≡ after_writes (take (i + 1) (list_of ps)) first
written_more ps i p first before now h is written wrote =
    wrote ∙ ap (λ t. adds t (call_for (pending_of p) true)) written ∙ sym (after_push (take i (list_of ps)) (pending_of p) first)
    ∙ ap (λ done. after_writes done first) (sym (take_here ps i p h is))

failed_trace : (done : FileChanges) (change : At × Option (List ℕ)) (first before now : Option (List Call)) → before ≡ after_writes done first
    → (now ≡ before) ⊎ (now ≡ adds before (call_for change false)) → (now ≡ after_writes done first) ⊎ (now ≡ adds (after_writes done first) (call_for change false))
failed_trace done change first before now written (inl same) = inl (same ∙ written)
failed_trace done change first before now written (inr went) = inr (went ∙ ap (λ t. adds t (call_for change false)) written)

pub stops_here : (ps : List Pending) (i : ℕ) (p : Pending) (first before now : Option (List Call)) → i < length ps → p ≡ get_or ps i p
    → before ≡ after_writes (take i (list_of ps)) first → (now ≡ before) ⊎ (now ≡ adds before (call_for (pending_of p) false))
    → StopsAt (list_of ps) first now (drop i (list_of ps))
stops_here ps i p first before now h is written went = record {
  done = take i (list_of ps);
  next = pending_of p;
  rest = drop (i + 1) (list_of ps);
  parts = sym (take-append-drop i (list_of ps));
  stays = item_here ps i p h is;
  trace = failed_trace (take i (list_of ps)) (pending_of p) first before now written went;
}

rotated : (ps : List Pending) (n left : ℕ) → n ≤ length ps → left ≡ length ps - n → take left (drop n ps ++ take n ps) ≡ drop n ps
rotated ps n left h e =
    ap (λ k. take k (drop n ps ++ take n ps)) (e ∙ sym (length-drop n ps)) ∙ take-append_seam (drop n ps) (take n ps)

pub front_dropped : (ps rotated_ps new : List Pending) (n left : ℕ) → n ≤ length ps → left ≡ length ps - n → rotated_ps ≡ drop n ps ++ take n ps → new ≡ take left rotated_ps
    → list_of new ≡ drop n (list_of ps)
front_dropped ps rotated_ps new n left h e r t =
    ap list_of (t ∙ ap (take left) r ∙ rotated ps n left h e) ∙ sym (drop-map pending_of n ps)

pub set_more : (ps : List Pending) (i : ℕ) (p : Pending) (old new target : FileChanges) → i < length ps → p ≡ get_or ps i p
    → set_changes (drop i (list_of ps)) old ≡ target → new ≡ set_change (at_of p.name) (change_of p.change) old → set_changes (drop (i + 1) (list_of ps)) new ≡ target
set_more ps i p old new target h is so e =
    ap (set_changes (drop (i + 1) (list_of ps))) e ∙ ap (λ changes. set_changes changes old) (sym (item_here ps i p h is)) ∙ so

sum_more : (a b x : ℕ) (n : ℕ) → a ≡ min b n → min (a + x) n ≡ min (b + x) n
sum_more a b x n e = omega arith

-- how many bytes a list counts, where each removal counts so many
abbrev pub sum_of : ℕ → FileChanges → ℕ
sum_of r list = sum_by (λ (change : At × Option (List ℕ)). len_with r change.1) list

pub sum_with_more : (r : ℕ) (ps : List Pending) (i : ℕ) (p : Pending) (old len new : ℕ) → i < length ps → p ≡ get_or ps i p → old ≡ sum_with r (take i (list_of ps)) → len ≡ len_with r (change_of p.change)
    → new ≡ min (old + len) (2 ^ 64 - 1) → new ≡ sum_with r (take (i + 1) (list_of ps))
sum_with_more r ps i p old len new h is so l e =
    let more : sum_of r (take (i + 1) (list_of ps)) ≡ sum_of r (take i (list_of ps)) + len_with r (change_of p.change) =
    sum_by_more (λ c. len_with r c.1) (list_of ps) i (pending_of p) (within ps i h) ∙ ap (λ c. sum_of r (take i (list_of ps)) + len_with r c.1) (entry_here ps i p h is) in
    e ∙ ap (λ x. min (old + x) (2 ^ 64 - 1)) l ∙ sum_more old (sum_of r (take i (list_of ps))) (len_with r (change_of p.change)) (2 ^ 64 - 1) so
    ∙ ap (λ x. min x (2 ^ 64 - 1)) (sym more)

-- a removal that counts nothing counts the bytes that it puts
same_len : (change : Option (List ℕ)) → len_with 0 change ≡ bytes_len change
same_len None = refl
same_len (Some bytes) = refl

same_sum : (list : FileChanges) → sum_of 0 list ≡ sum_by (λ (change : At × Option (List ℕ)). bytes_len change.1) list
same_sum [] = refl
same_sum (e ∷ es) =
    sum_by-cons (λ (change : At × Option (List ℕ)). len_with 0 change.1) e es
    ∙ ap (λ n. n + sum_of 0 es) (same_len e.1) ∙ ap (λ n. bytes_len e.1 + n) (same_sum es)
    ∙ sym (sum_by-cons (λ (change : At × Option (List ℕ)). bytes_len change.1) e es)

pub same_buffered : (list : FileChanges) → sum_with 0 list ≡ buffered_len list
same_buffered list = ap (λ n. min n (2 ^ 64 - 1)) (same_sum list)

-- how many bytes a list counts for a name
abbrev pub sum_at : ℕ → At → FileChanges → ℕ
sum_at r n list = unwrap_or (option_map (len_with r) (change_at n list)) 0

sum_cons : (r : ℕ) (e : At × Option (List ℕ)) (es : FileChanges) → sum_of r (e ∷ es) ≡ len_with r e.1 + sum_of r es
sum_cons r e es = sum_by-cons (λ (change : At × Option (List ℕ)). len_with r change.1) e es

-- a list counts at least what it counts for one name
sum_within : (r : ℕ) (n : At) (list : FileChanges) → sum_at r n list ≤ sum_of r list
sum_within r n [] = omega arith
sum_within r n (e ∷ es) =
    let later = sum_within r n es in
    let cons = sum_cons r e es in
    let here : len_with r e.1 ≤ sum_of r (e ∷ es) = omega (arith, cons) in
    let there : sum_at r n es ≤ sum_of r (e ∷ es) = omega (arith, cons, later) in
    elim (at_cmp n e.0) as (λ o. unwrap_or (option_map (len_with r) (cond (is_eq o) (Some e.1) (change_at n es))) 0 ≤ sum_of r (e ∷ es)) [ Less ↦ there | Equal ↦ here | Greater ↦ there ]

-- a change takes the place of the one of its name
sum_set : (r : ℕ) (n : At) (change : Option (List ℕ)) (list : FileChanges) → T (is_sorted at_cmp list) → sum_of r (set_change n change list) + sum_at r n list ≡ sum_of r list + len_with r change
sum_set r n change [] h = omega (arith, sum_cons r (n, change) [])
sum_set r n change (e ∷ es) h =
    elim (at_cmp n e.0) as (λ o. at_cmp n e.0 ≡ o → sum_of r (by_order o ((n, change) ∷ e ∷ es) ((e.0, change) ∷ es) (e ∷ set_change n change es))
    + unwrap_or (option_map (len_with r) (cond (is_eq o) (Some e.1) (change_at n es))) 0 ≡ sum_of r (e ∷ es) + len_with r change) [
      | Less ↦ λ p.
          let none : sum_at r n es ≡ 0 = ap (λ o. unwrap_or (option_map (len_with r) o) 0) (none_below n e.0 es p (left (below_all at_cmp e.0 es) (is_sorted at_cmp es) h)) in
          let whole : sum_of r ((n, change) ∷ e ∷ es) + sum_at r n es ≡ sum_of r (e ∷ es) + len_with r change = omega (arith, none, sum_cons r (n, change) (e ∷ es)) in
          whole
      | Equal ↦ λ p.
          let whole : sum_of r ((e.0, change) ∷ es) + len_with r e.1 ≡ sum_of r (e ∷ es) + len_with r change = omega (arith, sum_cons r (e.0, change) es, sum_cons r e es) in
          whole
      | Greater ↦ λ p.
          let later = sum_set r n change es (right (below_all at_cmp e.0 es) (is_sorted at_cmp es) h) in
          let whole : sum_of r (e ∷ set_change n change es) + sum_at r n es ≡ sum_of r (e ∷ es) + len_with r change = omega (arith, later, sum_cons r e (set_change n change es), sum_cons r e es) in
          whole
    ] refl

changed_sum : (old new before after : ℕ) (sum : ℕ) → sum ≡ min old (2 ^ 64 - 1) → (sum ≡ 2 ^ 64 - 1 → ⊥) → before ≤ old → new + before ≡ old + after
    → min ((sum - before) + after) (2 ^ 64 - 1) ≡ min new (2 ^ 64 - 1)
changed_sum old new before after sum b not le e = omega arith

within_sum : (old before : ℕ) (sum : ℕ) → sum ≡ min old (2 ^ 64 - 1) → (sum ≡ 2 ^ 64 - 1 → ⊥) → before ≤ old → before ≤ sum
within_sum old before sum b not le = omega arith

-- what a list counts after a change was set in it
pub sum_changed : (r : ℕ) (ps read qs : List Pending) (p : Pending) (sum before after : ℕ) → read ≡ ps → IsIncreasing (list_of ps)
    → list_of qs ≡ set_change (at_of p.name) (change_of p.change) (list_of ps) → sum ≡ sum_with r (list_of ps)
    → before ≡ sum_at r (at_of p.name) (list_of read) → after ≡ len_with r (change_of p.change) → (sum ≡ 2 ^ 64 - 1 → ⊥)
    → min ((sum - before) + after) (2 ^ 64 - 1) ≡ sum_with r (list_of qs)
sum_changed r ps read qs p sum before after same h set so b a not =
    let at : before ≡ sum_at r (at_of p.name) (list_of ps) = b ∙ ap (λ xs. sum_at r (at_of p.name) (list_of xs)) same in
    let step : sum_of r (list_of qs) + before ≡ sum_of r (list_of ps) + after =
    ap (λ x. sum_of r (list_of qs) + x) at ∙ ap (λ xs. sum_of r xs + sum_at r (at_of p.name) (list_of ps)) set
    ∙ sum_set r (at_of p.name) (change_of p.change) (list_of ps) (rises_of (list_of ps) h) ∙ ap (λ x. sum_of r (list_of ps) + x) (sym a) in
    let le : before ≤ sum_of r (list_of ps) = subst (λ x. x ≤ sum_of r (list_of ps)) (sym at) (sum_within r (at_of p.name) (list_of ps)) in
    changed_sum (sum_of r (list_of ps)) (sum_of r (list_of qs)) before after sum so not le step

pub sum_lowers : (r : ℕ) (ps read : List Pending) (name : At) (sum before : ℕ) → read ≡ ps → sum ≡ sum_with r (list_of ps) → before ≡ sum_at r name (list_of read) → (sum ≡ 2 ^ 64 - 1 → ⊥) → before ≤ sum
sum_lowers r ps read name sum before same so b not =
    let le : before ≤ sum_of r (list_of ps) = subst (λ x. x ≤ sum_of r (list_of ps)) (sym (b ∙ ap (λ xs. sum_at r name (list_of xs)) same)) (sum_within r name (list_of ps)) in
    within_sum (sum_of r (list_of ps)) before sum so not le
