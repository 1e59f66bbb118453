-- What holds of the lists of several clients, whatever they seal and are offered.
use Rattle.std.proofs.Common.{◌≡◌, ◌≢◌, ℕ, ◌+◌, ◌-◌, ◌<◌, ◌≤◌, Bool, true, false, List, [], ◌∷◌, refl, sym, ap, subst, ◌∙◌, inl, inr, arith}
use Rattle.std.specs.Prelude.{not, ◌==◌, nat_lt, max, if◌then◌else◌}
use Rattle.std.proofs.lemmas.Bool.{and_from, cases_eq, eqb-true, eq-eqb, ne_eqb, ltb-true, or_cases, and_parts, false_from_ne_true, cond_both}
use Rattle.clients_core.specs.Standing.{own_version}
use Rattle.clients_core.specs.Versions.{Version, same_version, greatest, has_version, is_replaced, is_superseded}
use Rattle.clients_core.specs.Worlds.{Step, seal, offer, Lists, no_lists, is_spent, next_own, is_taken, list_sealed, list_taken, list_offered, list_after_step, lists_after, client_in, block_in, seals, sealed_by, NoneSuperseded, SealedOnce}
use Rattle.clients_core.proofs.Lists.{ids_same_or_not, by_itself, by_parts, by_no_client, by_no_id, greatest_on, greatest_past, greatest_new, has_no_above, no_replaced_above, above_all, greatest_stands, replaced_past, replaced_apart, replaced_unmet}

false_is_true : false ≡ true → ⊥
false_is_true e = cc

-- ---- one client

-- after the newest own version of a block there is no other of it
abbrev pub OwnNewest : ℕ → List Version → Type 0
OwnNewest own h = (id : List ℕ) → is_replaced h (own_version own id (greatest h id own)) ≡ false

newest_sealed : (own : ℕ) (h : List Version) (block : List ℕ) → ((id : List ℕ) → id ≢ block → is_replaced h (own_version own id (greatest h id own)) ≡ false)
    → OwnNewest own (next_own own h block ∷ h)
newest_sealed own h block newest id =
    let o : Version = next_own own h block in
    let above : greatest h block own < o.version = omega arith in
    elim (ids_same_or_not id block) [
      | inl same ↦
          let is : greatest (o ∷ h) block own ≡ o.version = greatest_new h o (omega (arith, above)) in
          subst (λ (x : List ℕ). is_replaced (o ∷ h) (own_version own x (greatest (o ∷ h) x own)) ≡ false) (sym same)
          (subst (λ (n : ℕ). is_replaced (o ∷ h) (own_version own block n) ≡ false) (sym is) (replaced_unmet h o o (has_no_above h o above) (no_replaced_above h o above)))
      | inr apart ↦
          let is : greatest (o ∷ h) id own ≡ greatest h id own = greatest_past h id own o (by_no_id id own o apart) in
          subst (λ (n : ℕ). is_replaced (o ∷ h) (own_version own id n) ≡ false) (sym is) (replaced_apart h o (own_version own id (greatest h id own)) apart (newest id apart))
    ]

newest_own : (own : ℕ) (h : List Version) (t : Version) → t.client ≡ own → t.version ≡ greatest h t.id own → OwnNewest own h → OwnNewest own (t ∷ h)
newest_own own h t client version newest id =
    let is : greatest (t ∷ h) id own ≡ greatest h id own = greatest_on h id own t (λ e.
    let same : greatest h id own ≡ greatest h t.id own = λ i. greatest h ((by_parts id own t e).0 i) own in omega (arith, version, same)) in
    subst (λ (n : ℕ). is_replaced (t ∷ h) (own_version own id n) ≡ false) (sym is)
    (replaced_past h t (own_version own id (greatest h id own)) (λ b.
    let same : id ≡ t.id = (by_parts id own t (and_from _ _ b (eq-eqb own t.client (sym client)))).0 in
    let equal : greatest h id own ≡ t.version = (λ i. greatest h (same i) own) ∙ sym version in
    and_from _ _ (and_from _ _ b (eq-eqb own t.client (sym client))) (eq-eqb (greatest h id own) t.version equal)) (newest id))

-- one of another client, but for its own block
newest_noted : (own : ℕ) (h : List Version) (t : Version) → t.client ≢ own → OwnNewest own h → (id : List ℕ) → id ≢ t.id → is_replaced (t ∷ h) (own_version own id (greatest (t ∷ h) id own)) ≡ false
newest_noted own h t foreign newest id apart =
    let is : greatest (t ∷ h) id own ≡ greatest h id own = greatest_past h id own t (by_no_client id own t (λ e. foreign (sym e))) in
    subst (λ (n : ℕ). is_replaced (t ∷ h) (own_version own id n) ≡ false) (sym is) (replaced_apart h t (own_version own id (greatest h id own)) apart (newest id))

next_same : (own : ℕ) (h : List Version) (t : Version) → t.client ≢ own → next_own own (t ∷ h) t.id ≡ next_own own h t.id
next_same own h t foreign = ap (λ (n : ℕ). own_version own t.id (n + 1)) (greatest_past h t.id own t (by_no_client t.id own t (λ e. foreign (sym e))))

-- what is taken, by who wrote it
pub taken_own : (own : ℕ) (h : List Version) (t : Version) → t.client ≡ own → is_taken own h t ≡ true → t.version ≡ greatest h t.id own
taken_own own h t client e =
    eqb-true t.version (greatest h t.id own) (sym (ap (λ (b : Bool). if b then t.version == greatest h t.id own else (if is_spent own h t.id then false else nat_lt (greatest h t.id t.client) t.version)) (eq-eqb t.client own client)) ∙ e)

pub taken_other : (own : ℕ) (h : List Version) (t : Version) → t.client ≢ own → is_taken own h t ≡ true → greatest h t.id t.client < t.version
taken_other own h t client e =
    let other : (if is_spent own h t.id then false else nat_lt (greatest h t.id t.client) t.version) ≡ true
    = sym (ap (λ (b : Bool). if b then t.version == greatest h t.id own else (if is_spent own h t.id then false else nat_lt (greatest h t.id t.client) t.version)) (ne_eqb t.client own client)) ∙ e in
    elim (is_spent own h t.id) as (λ b. (if b then false else nat_lt (greatest h t.id t.client) t.version) ≡ true → greatest h t.id t.client < t.version) [
      | true ↦ λ e. absurd (false_is_true e)
      | false ↦ λ e. ltb-true (greatest h t.id t.client) t.version e
    ] other

pub taken_current : (own : ℕ) (h : List Version) (t : Version) → OwnNewest own h → is_taken own h t ≡ true → is_superseded h t ≡ false
taken_current own h t newest e = elim (cases_eq t.client own) [
  | inl client ↦
      let version = taken_own own h t client e in
      let is : own_version own t.id (greatest h t.id own) ≡ t = λ i. record { id = t.id; client = sym client i; version = sym version i } in
      let least : greatest h t.id t.client ≤ t.version = omega (arith, version, ap (greatest h t.id) client) in
      greatest_stands h t least (subst (λ (v : Version). is_replaced h v ≡ false) is (newest t.id))
  | inr foreign ↦ above_all h t (taken_other own h t foreign e)
]

newest_taken : (own : ℕ) (h : List Version) (t : Version) → OwnNewest own h → is_taken own h t ≡ true → OwnNewest own (list_taken own h t)
newest_taken own h t newest e = elim (cases_eq t.client own) [
  | inl client ↦ subst (λ (b : Bool). OwnNewest own (if b then t ∷ h else next_own own h t.id ∷ t ∷ h)) (sym (eq-eqb t.client own client)) (newest_own own h t client (taken_own own h t client e) newest)
  | inr foreign ↦ subst (λ (b : Bool). OwnNewest own (if b then t ∷ h else next_own own h t.id ∷ t ∷ h)) (sym (ne_eqb t.client own foreign))
      (subst (λ (o : Version). OwnNewest own (o ∷ t ∷ h)) (next_same own h t foreign) (newest_sealed own (t ∷ h) t.id (newest_noted own h t foreign newest)))
]

newest_after : (own : ℕ) (h : List Version) (step : Step) → own ≡ client_in step → OwnNewest own h → OwnNewest own (list_after_step h step)
newest_after own h (seal client id) same newest =
    subst (λ (c : ℕ). OwnNewest own (list_sealed c h id)) same
    (cond_both (is_spent own h id) h (next_own own h id ∷ h) (OwnNewest own) (λ e. newest) (λ e. newest_sealed own h id (λ q apart. newest q)))
newest_after own h (offer client t) same newest =
    subst (λ (c : ℕ). OwnNewest own (list_offered c h t)) same
    (cond_both (is_taken own h t) (list_taken own h t) h (OwnNewest own) (λ e. newest_taken own h t newest e) (λ e. newest))

-- ---- all clients

AllNewest : Lists → Type 0
AllNewest hs = (client : ℕ) → OwnNewest client (hs client)

all_after : (hs : Lists) (step : Step) → AllNewest hs → AllNewest (lists_after hs step)
unfolding AllNewest
all_after hs step all client = cond_both (client == client_in step) (list_after_step (hs client) step) (hs client) (OwnNewest client)
    (λ e. newest_after client (hs client) step (eqb-true client (client_in step) e) (all client)) (λ e. all client)

none_superseded_from : (hs : Lists) (steps : List Step) → AllNewest hs → NoneSuperseded hs steps
unfolding AllNewest
none_superseded_from hs [] all = tt
none_superseded_from hs (seal client id ∷ steps) all = none_superseded_from (lists_after hs (seal client id)) steps (all_after hs (seal client id) all)
none_superseded_from hs (offer client t ∷ steps) all =
    ((λ e. taken_current client (hs client) t (all client) e), none_superseded_from (lists_after hs (offer client t)) steps (all_after hs (offer client t) all))

pub none_superseded : (steps : List Step) → NoneSuperseded no_lists steps
unfolding AllNewest
none_superseded steps = none_superseded_from no_lists steps (λ client id. refl)

-- ---- each version is sealed once

-- each version that was sealed is one that its client's list reaches
IsReached : Lists → List Version → Type 0
IsReached hs before = (v : Version) → has_version before v ≡ true → v.version ≤ greatest (hs v.client) v.id v.client

-- a list reaches what it reached before
rises_one : (h : List Version) (v : Version) (id : List ℕ) (client : ℕ) → greatest h id client ≤ greatest (v ∷ h) id client
rises_one h v id client = omega arith

rises_step : (h : List Version) (step : Step) (id : List ℕ) (client : ℕ) → greatest h id client ≤ greatest (list_after_step h step) id client
rises_step h (seal own block) id client =
    cond_both (is_spent own h block) h (next_own own h block ∷ h) (λ g. greatest h id client ≤ greatest g id client) (λ e. omega arith) (λ e. rises_one h (next_own own h block) id client)
rises_step h (offer own t) id client =
    cond_both (is_taken own h t) (list_taken own h t) h (λ g. greatest h id client ≤ greatest g id client)
    (λ e. cond_both (t.client == own) (t ∷ h) (next_own own h t.id ∷ t ∷ h) (λ g. greatest h id client ≤ greatest g id client) (λ e. rises_one h t id client)
    (λ e. omega (arith, rises_one h t id client, rises_one (t ∷ h) (next_own own h t.id) id client)))
    (λ e. omega arith)

rises : (hs : Lists) (step : Step) (id : List ℕ) (client : ℕ) → greatest (hs client) id client ≤ greatest (lists_after hs step client) id client
rises hs step id client = cond_both (client == client_in step) (list_after_step (hs client) step) (hs client) (λ g. greatest (hs client) id client ≤ greatest g id client)
    (λ e. rises_step (hs client) step id client) (λ e. omega arith)

first_reached : (v : Version) (h : List Version) → v.version ≤ greatest (v ∷ h) v.id v.client
first_reached v h = subst (λ (b : Bool). v.version ≤ max (if b then v.version else 0) (greatest h v.id v.client)) (sym (by_itself v)) (omega arith)

offered_in : (b taken : Bool) (h : List Version) (t o : Version) → (if b then false else taken) ≡ true
    → o.version ≤ greatest (if taken then (if b then t ∷ h else o ∷ t ∷ h) else h) o.id o.client
offered_in true taken h t o e = absurd (false_is_true e)
offered_in false true h t o e = first_reached o (t ∷ h)
offered_in false false h t o e = absurd (false_is_true e)

sealed_once_in : (spent : Bool) (h : List Version) (o : Version) → not spent ≡ true → o.version ≤ greatest (if spent then h else o ∷ h) o.id o.client
sealed_once_in true h o e = absurd (false_is_true e)
sealed_once_in false h o e = first_reached o h

sealed_in : (h : List Version) (step : Step) → seals h step ≡ true → (sealed_by h step).version ≤ greatest (list_after_step h step) (block_in step) (client_in step)
sealed_in h (seal own block) e = sealed_once_in (is_spent own h block) h (next_own own h block) e
sealed_in h (offer own t) e = offered_in (t.client == own) (is_taken own h t) h t (next_own own h t.id) e

-- the list of the client of a step
pub own_list : (hs : Lists) (step : Step) → lists_after hs step (client_in step) ≡ list_after_step (hs (client_in step)) step
own_list hs step = ap (λ (b : Bool). if b then list_after_step (hs (client_in step)) step else hs (client_in step)) (eq-eqb (client_in step) (client_in step) refl)

reached_after : (hs : Lists) (before : List Version) (step : Step) → IsReached hs before → IsReached (lists_after hs step) before
unfolding IsReached
reached_after hs before step reached v has = omega (arith, reached v has, rises hs step v.id v.client)

same_parts : (v o : Version) → same_version v o ≡ true → v ≡ o
same_parts v o e =
    let p = and_parts _ _ e in
    let q = by_parts v.id v.client o p.0 in
    let n : v.version ≡ o.version = eqb-true v.version o.version p.1 in
    λ i. record { id = q.0 i; client = q.1 i; version = n i }

reached_more : (hs : Lists) (before : List Version) (step : Step) → seals (hs (client_in step)) step ≡ true → IsReached hs before
    → IsReached (lists_after hs step) (sealed_by (hs (client_in step)) step ∷ before)
unfolding IsReached
reached_more hs before step e reached v has =
    let o : Version = sealed_by (hs (client_in step)) step in
    elim (or_cases (same_version v o) (has_version before v) has) [
      | inl same ↦ subst (λ (x : Version). x.version ≤ greatest (lists_after hs step x.client) x.id x.client) (sym (same_parts v o same))
          (subst (λ (h : List Version). o.version ≤ greatest h (block_in step) (client_in step)) (sym (own_list hs step)) (sealed_in (hs (client_in step)) step e))
      | inr old ↦ omega (arith, reached v old, rises hs step v.id v.client)
    ]

unsealed : (hs : Lists) (before : List Version) (step : Step) → IsReached hs before → has_version before (sealed_by (hs (client_in step)) step) ≡ false
unfolding IsReached
unsealed hs before step reached =
    false_from_ne_true (has_version before (sealed_by (hs (client_in step)) step)) (λ e. let least = reached (sealed_by (hs (client_in step)) step) e in omega (arith, least))

sealed_once_from : (hs : Lists) (before : List Version) (steps : List Step) → IsReached hs before → SealedOnce hs before steps
sealed_once_from hs before [] reached = tt
sealed_once_from hs before (step ∷ steps) reached = (
  (λ e. unsealed hs before step reached),
  sealed_once_from (lists_after hs step) (if seals (hs (client_in step)) step then sealed_by (hs (client_in step)) step ∷ before else before) steps
      (cond_both (seals (hs (client_in step)) step) (sealed_by (hs (client_in step)) step ∷ before) before (IsReached (lists_after hs step))
      (λ e. reached_more hs before step e reached) (λ e. reached_after hs before step reached)),
)

pub sealed_once : (steps : List Step) → SealedOnce no_lists [] steps
unfolding IsReached
sealed_once steps = sealed_once_from no_lists [] steps (λ v has. absurd (false_is_true has))
