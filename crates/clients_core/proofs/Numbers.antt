-- The numbers of a client stand for its list after each version that it takes or seals.
use Rattle.std.proofs.Common.{◌≡◌, ◌≢◌, ℕ, ◌+◌, ◌<◌, true, false, List, [], ◌∷◌, Some, None, refl, sym, ap, subst, ◌∙◌, inl, inr, arith}
use Rattle.std.specs.Prelude.{unwrap_or, Option}
use Rattle.std.specs.FinMap as fin
use Rattle.std.specs.FinMap.{get-empty}
use Rattle.std.specs.Cmp.Lexicographic.{slice_cmp, bytes_decides}
use Rattle.std.specs.Ordering.{nat_cmp}
use Rattle.std.proofs.lemmas.Bool.{cond-true, cond-false, cases_eq, or_left, or_right, eq-eqb, and_from}
use Rattle.local_state.specs.declared.life.Life.{Life}
use Rattle.local_state.specs.Known.{Lives}
use Rattle.local_state.proofs.Lookups.{get-set}
use Rattle.clients_core.specs.Judging.{known_in}
use Rattle.clients_core.specs.Others.{Key, key_cmp, OtherVersions, other_version}
use Rattle.clients_core.specs.Standing.{StandsBy, own_version}
use Rattle.clients_core.specs.Versions.{Version, is_by, same_version, greatest, has_version, is_replaced, is_superseded}
use Rattle.clients_core.proofs.Keys.{get_same, get_apart}
use Rattle.clients_core.proofs.Lists.{ids_same_or_not, apart_ids, by_parts, by_no_client, by_no_id, same_itself, greatest_on, greatest_past, greatest_new, has_no_above, no_replaced_above, above_all, greatest_stands, replaced_past, replaced_apart, replaced_unmet}

some_is : {A : Type 0} {x y : A} → Some x ≡ Some y → x ≡ y
some_is e = cc

-- ---- lives with one more

pub life_same : (lives : Lives) (id : List ℕ) (life : Life) → fin.get (fin.insert lives id life) id ≡ Some life
life_same lives id life = get-set lives id id life ∙ cond-true _ (Some life) (fin.get lives id) ((bytes_decides id id).1 refl)

pub life_apart : (lives : Lives) (id q : List ℕ) (life : Life) → q ≢ id → fin.get (fin.insert lives id life) q ≡ fin.get lives q
life_apart lives id q life ne = get-set lives id q life ∙ cond-false _ (Some life) (fin.get lives q) (apart_ids id q (λ e. ne (sym e)))

-- ---- nothing

pub stands_new : (own : ℕ) → StandsBy own fin.empty fin.empty []
stands_new own = record {
  known = λ id. sym (ap known_in (get-empty (slice_cmp nat_cmp) id));
  noted = λ id client ne. sym (ap (λ (o : Option ℕ). unwrap_or o 0) (get-empty key_cmp (id, client)));
  sealed = λ id life e. absurd (none_some (sym (get-empty (slice_cmp nat_cmp) id) ∙ e));
  newest = λ id life e. absurd (none_some (sym (get-empty (slice_cmp nat_cmp) id) ∙ e));
}
  where
    none_some : {A : Type 0} {x : A} → None ≡ Some x → ⊥
    none_some e = cc

-- ---- an own version at the known number

pub own_stands : (own : ℕ) (lives : Lives) (others : OtherVersions) (h : List Version) (t : Version) → StandsBy own lives others h
    → t.client ≡ own → known_in (fin.get lives t.id) ≡ t.version → greatest h t.id t.client ≡ t.version
own_stands own lives others h t s client version = ap (greatest h t.id) client ∙ s.known t.id ∙ version

own_is : (own : ℕ) (t : Version) (version : ℕ) → t.client ≡ own → version ≡ t.version → own_version own t.id version ≡ t
own_is own t version client same = λ i. record { id = t.id; client = sym client i; version = same i }

own_newest : (own : ℕ) (lives : Lives) (others : OtherVersions) (h : List Version) (t : Version) → StandsBy own lives others h
    → t.client ≡ own → known_in (fin.get lives t.id) ≡ t.version → 0 < t.version → is_replaced h t ≡ false
own_newest own lives others h t s client version positive =
    elim (fin.get lives t.id) as (λ o. fin.get lives t.id ≡ o → known_in o ≡ t.version → is_replaced h t ≡ false) [
      | None ↦ λ e same. absurd (omega (arith, same, positive))
      | Some life ↦ λ e same. subst (λ v. is_replaced h v ≡ false) (own_is own t life.version client same) (s.newest t.id life e)
    ] refl version

pub own_kept : (own : ℕ) (lives : Lives) (others : OtherVersions) (h : List Version) (t : Version) → StandsBy own lives others h
    → t.client ≡ own → known_in (fin.get lives t.id) ≡ t.version → 0 < t.version → is_superseded h t ≡ false
own_kept own lives others h t s client version positive =
    let greatest_is = own_stands own lives others h t s client version in
    greatest_stands h t (omega (arith, greatest_is)) (own_newest own lives others h t s client version positive)

pub stands_own : (own : ℕ) (lives : Lives) (others : OtherVersions) (h : List Version) (t : Version) → StandsBy own lives others h
    → t.client ≡ own → known_in (fin.get lives t.id) ≡ t.version → StandsBy own lives others (t ∷ h)
stands_own own lives others h t s client version = record {
  known = λ id. greatest_on h id own t (λ e.
      let p = by_parts id own t e in
      let moved : greatest h id own ≡ greatest h t.id t.client = λ i. greatest h (p.0 i) (p.1 i) in
      let is = own_stands own lives others h t s client version in
      omega (arith, moved, is)) ∙ s.known id;
  noted = λ id other ne. greatest_past h id other t (by_no_client id other t (λ e. ne (e ∙ client))) ∙ s.noted id other ne;
  sealed = λ id life e. or_right (same_version (own_version own id life.version) t) (has_version h (own_version own id life.version)) (s.sealed id life e);
  newest = λ id life e. replaced_past h t (own_version own id life.version) (λ b.
      let same : id ≡ t.id = (by_parts id own t (and_from _ _ b (eq-eqb own t.client (sym client)))).0 in
      let is : life.version ≡ t.version = ap known_in (sym e) ∙ ap (λ x. known_in (fin.get lives x)) same ∙ version in
      and_from _ _ (and_from _ _ b (eq-eqb own t.client (sym client))) (eq-eqb life.version t.version is)) (s.newest id life e);
}

-- ---- the next own version

-- the same, but for what is newest of one block
pub record StandsApart (own : ℕ) (lives : Lives) (others : OtherVersions) (h : List Version) (block : List ℕ) : Type 0 where
  pub known : (id : List ℕ) → greatest h id own ≡ known_in (fin.get lives id)
  pub noted : (id : List ℕ) (client : ℕ) → client ≢ own → greatest h id client ≡ other_version others id client
  pub sealed : (id : List ℕ) (life : Life) → fin.get lives id ≡ Some life → has_version h (own_version own id life.version) ≡ true
  pub newest : (id : List ℕ) (life : Life) → id ≢ block → fin.get lives id ≡ Some life → is_replaced h (own_version own id life.version) ≡ false

abbrev pub sealed_life : ℕ → Life
sealed_life version = record { version = version; live = true }

pub stands_sealed : (own : ℕ) (lives : Lives) (others : OtherVersions) (h : List Version) (block : List ℕ) (version : ℕ) → StandsApart own lives others h block
    → version ≡ known_in (fin.get lives block) + 1 → StandsBy own (fin.insert lives block (sealed_life version)) others (own_version own block version ∷ h)
stands_sealed own lives others h block version s next =
    let o : Version = own_version own block version in
    let after : Lives = fin.insert lives block (sealed_life version) in
    let above : greatest h block own < version = omega (arith, s.known block, next) in
    let here : fin.get after block ≡ Some (sealed_life version) = life_same lives block (sealed_life version) in
    record {
      known = λ id. elim (ids_same_or_not id block) [
        | inl same ↦ subst (λ x. greatest (o ∷ h) x own ≡ known_in (fin.get after x)) (sym same) (greatest_new h o (omega (arith, above)) ∙ sym (ap known_in here))
        | inr apart ↦ greatest_past h id own o (by_no_id id own o apart) ∙ s.known id ∙ sym (ap known_in (life_apart lives block id (sealed_life version) apart))
      ];
      noted = λ id client ne. greatest_past h id client o (by_no_client id client o ne) ∙ s.noted id client ne;
      sealed = λ id life e. elim (ids_same_or_not id block) [
        | inl same ↦
            let is : sealed_life version ≡ life = some_is (sym here ∙ ap (fin.get after) (sym same) ∙ e) in
            or_left _ _ (subst (λ (v : Version). same_version v o ≡ true) (λ i. own_version own (sym same i) (is i).version) (same_itself o))
        | inr apart ↦ or_right (same_version (own_version own id life.version) o) (has_version h (own_version own id life.version))
            (s.sealed id life (sym (life_apart lives block id (sealed_life version) apart) ∙ e))
      ];
      newest = λ id life e. elim (ids_same_or_not id block) [
        | inl same ↦
            let is : sealed_life version ≡ life = some_is (sym here ∙ ap (fin.get after) (sym same) ∙ e) in
            subst (λ (v : Version). is_replaced (o ∷ h) v ≡ false) (λ i. own_version own (sym same i) (is i).version)
            (replaced_unmet h o o (has_no_above h o above) (no_replaced_above h o above))
        | inr apart ↦ replaced_apart h o (own_version own id life.version) apart (s.newest id life apart (sym (life_apart lives block id (sealed_life version) apart) ∙ e))
      ];
    }

pub stands_apart : (own : ℕ) (lives : Lives) (others : OtherVersions) (h : List Version) (block : List ℕ) → StandsBy own lives others h → StandsApart own lives others h block
stands_apart own lives others h block s = record { known = s.known; noted = s.noted; sealed = s.sealed; newest = λ id life ne e. s.newest id life e }

-- ---- a version of another client

pub stands_noted : (own : ℕ) (lives : Lives) (others : OtherVersions) (h : List Version) (t : Version) → StandsBy own lives others h
    → t.client ≢ own → other_version others t.id t.client < t.version → StandsApart own lives (fin.insert others (t.id, t.client) t.version) (t ∷ h) t.id
stands_noted own lives others h t s foreign above =
    let key : Key = (t.id, t.client) in
    let after : OtherVersions = fin.insert others key t.version in
    let below : greatest h t.id t.client < t.version = omega (arith, s.noted t.id t.client foreign, above) in
    record {
      known = λ id. greatest_past h id own t (by_no_client id own t (λ e. foreign (sym e))) ∙ s.known id;
      noted = λ id client ne.
          let past : (is_by id client t ≡ false) → ((id, client) ≢ key) → greatest (t ∷ h) id client ≡ other_version after id client
          = λ past_it other. greatest_past h id client t past_it ∙ s.noted id client ne ∙ sym (ap (λ (o : Option ℕ). unwrap_or o 0) (get_apart others key (id, client) t.version other)) in
          elim (ids_same_or_not id t.id) [
            | inl same ↦ elim (cases_eq client t.client) [
              | inl alike ↦ subst (λ (k : Key). greatest (t ∷ h) k.0 k.1 ≡ other_version after k.0 k.1) (λ i. (sym same i, sym alike i))
                  (greatest_new h t (omega (arith, below)) ∙ sym (ap (λ (o : Option ℕ). unwrap_or o 0) (get_same others key t.version)))
              | inr differs ↦ past (by_no_client id client t differs) (λ e. differs (ap (λ (k : Key). k.1) e))
            ]
            | inr apart ↦ past (by_no_id id client t apart) (λ e. apart (ap (λ (k : Key). k.0) e))
          ];
      sealed = λ id life e. or_right (same_version (own_version own id life.version) t) (has_version h (own_version own id life.version)) (s.sealed id life e);
      newest = λ id life ne e. replaced_apart h t (own_version own id life.version) ne (s.newest id life e);
    }

pub other_kept : (own : ℕ) (lives : Lives) (others : OtherVersions) (h : List Version) (t : Version) → StandsBy own lives others h
    → t.client ≢ own → other_version others t.id t.client < t.version → is_superseded h t ≡ false
other_kept own lives others h t s foreign above = above_all h t (omega (arith, s.noted t.id t.client foreign, above))
