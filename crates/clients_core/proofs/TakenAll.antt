-- After several versions were taken, the numbers stand for the list with them.
use Rattle.std.proofs.Common.{◌≡◌, ◌≢◌, ℕ, ◌+◌, ◌<◌, Bool, true, false, cond, List, [], ◌∷◌, refl, sym, ap, subst, ◌∙◌, inl, inr, arith}
use Rattle.std.specs.Prelude.{◌||◌, ◌==◌, unwrap_or}
use Rattle.std.specs.Option.{option_map}
use Rattle.std.specs.Str.{bytes_eq}
use Rattle.std.specs.declared.option.Option.{Option}
use Rattle.std.specs.declared.option.Option.TheVariants.{None, Some}
use Rattle.std.specs.FinMap as fin
use Rattle.std.specs.Cmp.Lexicographic.{bytes_decides}
use Rattle.std.proofs.lemmas.Bool.{cases_eq, eq-eqb, ne_eqb}
use Rattle.local_state.specs.declared.life.Life.{Life}
use Rattle.local_state.specs.Known.{Lives}
use Rattle.clients_core.specs.Judging.{judge_by, judge_own, judge_other, known_in}
use Rattle.clients_core.specs.Others.{Key, OtherVersions, other_version}
use Rattle.clients_core.specs.Standing.{StandsBy, own_version}
use Rattle.clients_core.specs.Taking.{list_after}
use Rattle.clients_core.specs.TakenAll.{has_block, lives_taken, others_taken, list_of_all, AreGood, NoneOvertaken, SameVersions}
use Rattle.clients_core.specs.Versions.{Version, has_version, is_replaced}
use Rattle.clients_core.proofs.Judged.{own_good, other_good}
use Rattle.clients_core.proofs.Keys.{get_apart}
use Rattle.clients_core.proofs.Numbers.{life_apart, own_kept, other_kept, stands_own, stands_sealed, stands_noted}

true_is_false : true ≡ false → ⊥
true_is_false e = cc

false_is_true : false ≡ true → ⊥
false_is_true e = cc

none_some : {A : Type 0} {x : A} → None ≡ Some x → ⊥
none_some e = cc

some_none : {A : Type 0} {x : A} → Some x ≡ None → ⊥
some_none e = cc

some_is : {A : Type 0} {x y : A} → Some x ≡ Some y → x ≡ y
some_is e = cc

or_parts : (a b : Bool) → (a || b) ≡ false → (a ≡ false) × (b ≡ false)
or_parts true b e = absurd (true_is_false e)
or_parts false b e = (refl, e)

apart_of : (id other : List ℕ) → bytes_eq id other ≡ false → id ≢ other
apart_of id other e same = false_is_true (sym e ∙ (bytes_decides id other).1 same)

-- a block that isn't among them

life_untaken : (own : ℕ) (lives : Lives) (found : List Version) (id : List ℕ) → has_block found id ≡ false → fin.get (lives_taken own lives found) id ≡ fin.get lives id
life_untaken own lives [] id e = refl
life_untaken own lives (t ∷ found) id e =
    let p = or_parts (bytes_eq id t.id) (has_block found id) e in
    let rest = life_untaken own lives found id p.1 in
    let made : Life = record { version = known_in (fin.get lives t.id) + 1; live = true } in
    elim (t.client == own) as (λ b. fin.get (cond b (lives_taken own lives found) (fin.insert (lives_taken own lives found) t.id made)) id ≡ fin.get lives id) [
      | true ↦ rest
      | false ↦ life_apart (lives_taken own lives found) t.id id made (apart_of id t.id p.0) ∙ rest
    ]

other_untaken : (own : ℕ) (others : OtherVersions) (found : List Version) (id : List ℕ) (client : ℕ) → has_block found id ≡ false
    → other_version (others_taken own others found) id client ≡ other_version others id client
other_untaken own others [] id client e = refl
other_untaken own others (t ∷ found) id client e =
    let p = or_parts (bytes_eq id t.id) (has_block found id) e in
    let rest = other_untaken own others found id client p.1 in
    let key : Key = (t.id, t.client) in
    elim (t.client == own) as (λ b. other_version (cond b (others_taken own others found) (fin.insert (others_taken own others found) key t.version)) id client ≡ other_version others id client) [
      | true ↦ rest
      | false ↦ ap (λ (o : Option ℕ). unwrap_or o 0) (get_apart (others_taken own others found) key (id, client) t.version (λ same. apart_of id t.id p.0 (ap (λ (k : Key). k.0) same))) ∙ rest
    ]

judged_own : (own : ℕ) (lives : Lives) (others : OtherVersions) (t : Version) → t.client ≡ own → judge_by own lives others t ≡ None → known_in (fin.get lives t.id) ≡ t.version
judged_own own lives others t client good =
    own_good (fin.get lives t.id) t.version
    (sym (ap (λ (b : Bool). cond b (judge_own (fin.get lives t.id) t.version) (judge_other own (fin.get lives t.id) (other_version others t.id t.client) t.version)) (eq-eqb t.client own client)) ∙ good)

judged_other : (own : ℕ) (lives : Lives) (others : OtherVersions) (t : Version) → t.client ≢ own → 0 < t.version → judge_by own lives others t ≡ None → other_version others t.id t.client < t.version
judged_other own lives others t foreign positive good =
    other_good own (fin.get lives t.id) (other_version others t.id t.client) t.version positive
    (sym (ap (λ (b : Bool). cond b (judge_own (fin.get lives t.id) t.version) (judge_other own (fin.get lives t.id) (other_version others t.id t.client) t.version)) (ne_eqb t.client own foreign)) ∙ good)

pub stands_all : (own : ℕ) (lives : Lives) (others : OtherVersions) (found h : List Version) → AreGood own lives others found → StandsBy own lives others h
    → StandsBy own (lives_taken own lives found) (others_taken own others found) (list_of_all own lives found h)
stands_all own lives others [] h good s = s
stands_all own lives others (t ∷ found) h good s =
    let before = stands_all own lives others found h good.3 s in
    let m : Lives = lives_taken own lives found in
    let o : OtherVersions = others_taken own others found in
    let g : List Version = list_of_all own lives found h in
    let n : ℕ = known_in (fin.get lives t.id) + 1 in
    let made : Life = record { version = n; live = true } in
    let goal : Bool → Type 0 = λ b. StandsBy own (cond b m (fin.insert m t.id made)) (cond b o (fin.insert o (t.id, t.client) t.version)) (list_after own t (cond b None (Some n)) g) in
    let life = life_untaken own lives found t.id good.2 in
    elim (cases_eq t.client own) [
      | inl client ↦ subst goal (sym (eq-eqb t.client own client)) (stands_own own m o g t before client (ap known_in life ∙ judged_own own lives others t client good.0))
      | inr foreign ↦
          let above : other_version o t.id t.client < t.version = omega (arith, other_untaken own others found t.id t.client good.2, judged_other own lives others t foreign good.1 good.0) in
          let next : n ≡ known_in (fin.get m t.id) + 1 = ap (λ (l : Option Life). known_in l + 1) (sym life) in
          subst goal (sym (ne_eqb t.client own foreign)) (stands_sealed own m (fin.insert o (t.id, t.client) t.version) (t ∷ g) t.id n (stands_noted own m o g t before foreign above) next)
    ]

pub none_overtaken : (own : ℕ) (lives : Lives) (others : OtherVersions) (found h : List Version) → AreGood own lives others found → StandsBy own lives others h → NoneOvertaken own lives found h
none_overtaken own lives others [] h good s = tt
none_overtaken own lives others (t ∷ found) h good s =
    let before = stands_all own lives others found h good.3 s in
    let m : Lives = lives_taken own lives found in
    let o : OtherVersions = others_taken own others found in
    let g : List Version = list_of_all own lives found h in (
      elim (cases_eq t.client own) [
        | inl client ↦ own_kept own m o g t before client (ap known_in (life_untaken own lives found t.id good.2) ∙ judged_own own lives others t client good.0) good.1
        | inr foreign ↦ other_kept own m o g t before foreign
            (omega (arith, other_untaken own others found t.id t.client good.2, judged_other own lives others t foreign good.1 good.0))
      ],
      none_overtaken own lives others found h good.3 s,
    )

-- which blocks are dead doesn't matter

known_same : (a b : Option Life) → option_map (λ life. life.version) a ≡ option_map (λ life. life.version) b → known_in a ≡ known_in b
known_same None None e = refl
known_same None (Some y) e = absurd (none_some e)
known_same (Some x) None e = absurd (some_none e)
known_same (Some x) (Some y) e = some_is e

life_there : (a b : Option Life) (x : Life) → option_map (λ life. life.version) a ≡ option_map (λ life. life.version) b → a ≡ Some x → (y : Life) × (b ≡ Some y) × (x.version ≡ y.version)
life_there None b x e is = absurd (none_some is)
life_there (Some a) None x e is = absurd (some_none e)
life_there (Some a) (Some b) x e is = (b, refl, ap (λ (l : Life). l.version) (sym (some_is is)) ∙ some_is e)

pub stands_buried : (own : ℕ) (old new : Lives) (others : OtherVersions) (h : List Version) → SameVersions old new → StandsBy own old others h → StandsBy own new others h
stands_buried own old new others h same s = record {
  known = λ id. s.known id ∙ sym (known_same (fin.get new id) (fin.get old id) (same id));
  noted = s.noted;
  sealed = λ id life e.
      let there = life_there (fin.get new id) (fin.get old id) life (same id) e in
      subst (λ (n : ℕ). has_version h (own_version own id n) ≡ true) (sym there.2) (s.sealed id there.0 there.1);
  newest = λ id life e.
      let there = life_there (fin.get new id) (fin.get old id) life (same id) e in
      subst (λ (n : ℕ). is_replaced h (own_version own id n) ≡ false) (sym there.2) (s.newest id there.0 there.1);
}
