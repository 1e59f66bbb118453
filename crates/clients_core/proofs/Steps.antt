-- One client's answers, by its list.
use Rattle.std.proofs.Common.{◌≡◌, ◌≢◌, ℕ, ◌+◌, ◌-◌, ◌^◌, ◌<◌, ◌≤◌, Bool, true, false, cond, List, ◌∷◌, refl, sym, ap, subst, ◌∙◌, inl, inr, arith}
use Rattle.std.specs.Prelude.{not, ◌==◌, nat_lt, IfSome}
use Rattle.std.specs.declared.option.Option.{Option}
use Rattle.std.specs.declared.option.Option.TheVariants.{None, Some}
use Rattle.std.specs.FinMap as fin
use Rattle.std.proofs.lemmas.Bool.{cases_eq, eq-eqb, ne_eqb, lt-ltb, le-ltb}
use Rattle.local_state.specs.declared.life.Life.{Life}
use Rattle.local_state.specs.Known.{Lives, is_last}
use Rattle.clients_core.specs.declared.seen.Seen.{Seen}
use Rattle.clients_core.specs.declared.stale.Stale.{Stale}
use Rattle.clients_core.specs.Clients.{IsAlive, WasSealed, WasOffered}
use Rattle.clients_core.specs.Judging.{judge, judge_own, judge_other, known_in}
use Rattle.clients_core.specs.Others.{other_version}
use Rattle.clients_core.specs.Standing.{Stands, StandsBy, SameNumbers, own_version}
use Rattle.clients_core.specs.Taking.{IsSpentFor, Sealed}
use Rattle.clients_core.specs.Versions.{Version, greatest}
use Rattle.clients_core.specs.Worlds.{is_spent, is_taken, list_taken, next_own}
use Rattle.clients_core.proofs.Judged.{own_bad, other_bad}
use Rattle.clients_core.proofs.Lists.{ids_same_or_not}
use Rattle.clients_core.proofs.Numbers.{life_same, life_apart}

-- ---- no block is dead

pub alive_set : (lives after : Lives) (id : List ℕ) (version : ℕ) → after ≡ fin.insert lives id (record { version = version; live = true })
    → ((q : List ℕ) → IfSome (fin.get lives q) (λ life. life.live ≡ true)) → (q : List ℕ) → IfSome (fin.get after q) (λ life. life.live ≡ true)
alive_set lives after id version is alive q =
    subst (λ (m : Lives). IfSome (fin.get m q) (λ life. life.live ≡ true)) (sym is) (elim (ids_same_or_not q id) [
      | inl same ↦ subst (λ (x : List ℕ). IfSome (fin.get (fin.insert lives id (record { version = version; live = true })) x) (λ life. life.live ≡ true)) (sym same)
          (subst (λ (o : Option Life). IfSome o (λ life. life.live ≡ true)) (sym (life_same lives id (record { version = version; live = true }))) refl)
      | inr apart ↦ subst (λ (o : Option Life). IfSome o (λ life. life.live ≡ true)) (sym (life_apart lives id q (record { version = version; live = true }) apart)) (alive q)
    ])

pub alive_kept : (old new : Seen) → SameNumbers old new → IsAlive old → IsAlive new
alive_kept old new same alive = subst (λ (m : Lives). (q : List ℕ) → IfSome (fin.get m q) (λ life. life.live ≡ true)) (sym same.lives) alive

-- ---- spent

last_is : (life : Option Life) → is_last life ≡ (known_in life == 2 ^ 64 - 1)
last_is None = refl
last_is (Some life) = refl

pub spent_is : (seen : Seen) (h : List Version) (id : List ℕ) → Stands seen h → is_spent seen.own h id ≡ is_last (fin.get seen.known.lives id)
spent_is seen h id s = ap (λ n. n == 2 ^ 64 - 1) (s.known id) ∙ sym (last_is (fin.get seen.known.lives id))

pub stands_same : (old new : Seen) (h : List Version) → SameNumbers old new → Stands old h → Stands new h
stands_same old new h same s =
    subst (λ (own : ℕ). StandsBy own new.known.lives new.others h) (sym same.own)
    (subst (λ (m : Lives). StandsBy old.own m new.others h) (sym same.lives) (subst (λ o. StandsBy old.own old.known.lives o h) (sym same.others) s))

-- ---- a seal

pub sealed_yes : (old new : Seen) (id : List ℕ) (version : ℕ) → Sealed old new id version → (h : List Version) → Stands old h → Stands new (own_version old.own id version ∷ h)
    → WasSealed old new id true h
sealed_yes old new id version sealed h s after =
    let unspent : is_spent old.own h id ≡ false = spent_is old h id s ∙ sealed.unspent in
    let next : own_version old.own id version ≡ next_own old.own h id = ap (own_version old.own id) (sealed.next ∙ sym (ap (λ n. n + 1) (s.known id))) in
    record {
      told = sym (ap not unspent);
      stands = subst (λ (b : Bool). Stands new (cond b h (next_own old.own h id ∷ h))) (sym unspent) (subst (λ (v : Version). Stands new (v ∷ h)) next after);
    }

pub sealed_no : (old new : Seen) (id : List ℕ) → SameNumbers old new → is_last (fin.get old.known.lives id) ≡ true → (h : List Version) → Stands old h → WasSealed old new id false h
sealed_no old new id same last h s =
    let spent : is_spent old.own h id ≡ true = spent_is old h id s ∙ last in
    record {
      told = sym (ap not spent);
      stands = subst (λ (b : Bool). Stands new (cond b h (next_own old.own h id ∷ h))) (sym spent) (stands_same old new h same s);
    }

-- ---- an offer

pub by_client : (own : ℕ) (h : List Version) (t : Version) → Bool → Bool
by_client own h t b = cond b (t.version == greatest h t.id own) (cond (is_spent own h t.id) false (nat_lt (greatest h t.id t.client) t.version))

pub taken_when : (own : ℕ) (h : List Version) (t : Version) (b : Bool) → (t.client == own) ≡ b → is_taken own h t ≡ by_client own h t b
unfolding by_client
taken_when own h t b e = ap (λ (x : Bool). cond x (t.version == greatest h t.id own) (cond (is_spent own h t.id) false (nat_lt (greatest h t.id t.client) t.version))) e

pub judged_when : (seen : Seen) (t : Version) (b : Bool) → (t.client == seen.own) ≡ b
    → judge seen t ≡ cond b (judge_own (fin.get seen.known.lives t.id) t.version) (judge_other seen.own (fin.get seen.known.lives t.id) (other_version seen.others t.id t.client) t.version)
judged_when seen t b e = ap (λ (x : Bool). cond x (judge_own (fin.get seen.known.lives t.id) t.version) (judge_other seen.own (fin.get seen.known.lives t.id) (other_version seen.others t.id t.client) t.version)) e

-- what was wrong with it wasn't taken
pub stale_untaken : (seen : Seen) (h : List Version) (t : Version) (s : Stale) → IsAlive seen → Stands seen h → judge seen t ≡ Some s → is_taken seen.own h t ≡ false
unfolding by_client
stale_untaken seen h t s alive stands bad = elim (cases_eq t.client seen.own) [
  | inl own ↦
      let e = eq-eqb t.client seen.own own in
      let wrong : judge_own (fin.get seen.known.lives t.id) t.version ≡ Some s = sym (judged_when seen t true e) ∙ bad in
      taken_when seen.own h t true e ∙ ne_eqb t.version (greatest h t.id seen.own)
      (λ same. own_bad (fin.get seen.known.lives t.id) t.version s (alive t.id) wrong (same ∙ stands.known t.id))
  | inr foreign ↦
      let e = ne_eqb t.client seen.own foreign in
      let wrong : judge_other seen.own (fin.get seen.known.lives t.id) (other_version seen.others t.id t.client) t.version ≡ Some s = sym (judged_when seen t false e) ∙ bad in
      let below : t.version ≤ greatest h t.id t.client = omega (arith, other_bad seen.own (fin.get seen.known.lives t.id) (other_version seen.others t.id t.client) t.version s wrong, stands.noted t.id t.client foreign) in
      taken_when seen.own h t false e ∙ either_false (is_spent seen.own h t.id) (nat_lt (greatest h t.id t.client) t.version) (le-ltb (greatest h t.id t.client) t.version below)
]
  where
    either_false : (a b : Bool) → b ≡ false → cond a false b ≡ false
    either_false true b e = refl
    either_false false b e = e

pub spent_untaken : (seen : Seen) (h : List Version) (t : Version) → Stands seen h → IsSpentFor seen t → is_taken seen.own h t ≡ false
unfolding by_client
spent_untaken seen h t s spent =
    taken_when seen.own h t false (ne_eqb t.client seen.own spent.foreign)
    ∙ ap (λ (b : Bool). cond b false (nat_lt (greatest h t.id t.client) t.version)) (spent_is seen h t.id s ∙ spent.last)

pub own_taken : (seen : Seen) (h : List Version) (t : Version) → Stands seen h → t.client ≡ seen.own → known_in (fin.get seen.known.lives t.id) ≡ t.version → is_taken seen.own h t ≡ true
unfolding by_client
own_taken seen h t s own version = taken_when seen.own h t true (eq-eqb t.client seen.own own) ∙ eq-eqb t.version (greatest h t.id seen.own) (sym version ∙ sym (s.known t.id))

pub other_taken : (seen : Seen) (h : List Version) (t : Version) → Stands seen h → t.client ≢ seen.own → other_version seen.others t.id t.client < t.version
    → is_last (fin.get seen.known.lives t.id) ≡ false → is_taken seen.own h t ≡ true
unfolding by_client
other_taken seen h t s foreign above unspent =
    taken_when seen.own h t false (ne_eqb t.client seen.own foreign)
    ∙ ap (λ (b : Bool). cond b false (nat_lt (greatest h t.id t.client) t.version)) (spent_is seen h t.id s ∙ unspent)
    ∙ lt-ltb (greatest h t.id t.client) t.version (omega (arith, s.noted t.id t.client foreign, above))

-- the list of an offer that was taken, and of one that wasn't
pub offered_no : (old new : Seen) (t : Version) (h : List Version) → SameNumbers old new → Stands old h → is_taken old.own h t ≡ false → WasOffered old new t false h
offered_no old new t h same s untaken = record {
  told = sym untaken;
  stands = subst (λ (b : Bool). Stands new (cond b (list_taken old.own h t) h)) (sym untaken) (stands_same old new h same s);
}

pub offered_yes : (old new : Seen) (t : Version) (h : List Version) → is_taken old.own h t ≡ true → Stands new (list_taken old.own h t) → WasOffered old new t true h
offered_yes old new t h taken s = record {
  told = sym taken;
  stands = subst (λ (b : Bool). Stands new (cond b (list_taken old.own h t) h)) (sym taken) s;
}

pub list_own : (own : ℕ) (h : List Version) (t : Version) → t.client ≡ own → list_taken own h t ≡ t ∷ h
list_own own h t e = ap (λ (b : Bool). cond b (t ∷ h) (next_own own h t.id ∷ t ∷ h)) (eq-eqb t.client own e)

pub list_other : (own : ℕ) (h : List Version) (t : Version) (version : ℕ) → t.client ≢ own → version ≡ greatest h t.id own + 1 → list_taken own h t ≡ own_version own t.id version ∷ t ∷ h
list_other own h t version e next =
    ap (λ (b : Bool). cond b (t ∷ h) (next_own own h t.id ∷ t ∷ h)) (ne_eqb t.client own e) ∙ ap (λ (n : ℕ). own_version own t.id n ∷ t ∷ h) (sym next)
