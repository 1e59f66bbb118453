-- How the writing anew goes on, from one call to the next.
use Rattle.std.proofs.Common.{◌≡◌, ◌⊎◌, inl, inr, ℕ, Bool, true, false, cond, List, [], ◌∷◌, refl, sym, ◌∙◌, ap, subst}
use Rattle.std.specs.Prelude.{◌||◌, not, nat_lt, is_some, if◌then◌else◌}
use Rattle.std.specs.FinMap as fin
use Rattle.std.specs.FinMap.{get-insert, get-empty}
use Rattle.std.specs.Cmp.{tied_itself}
use Rattle.std.specs.Cmp.Lexicographic.{nat_list_cmp_total}
use Rattle.std.specs.Ordering.{is_eq}
use Rattle.std.specs.Str.{bytes_eq}
use Rattle.std.proofs.lemmas.Slice.Eq.{bytes_eq-Decides}
use Rattle.std.specs.declared.option.Option.{Option}
use Rattle.std.specs.declared.option.Option.TheVariants.{None, Some}
use Rattle.block_id.specs.declared.format.Format.TheVariants.{WithId}
use Rattle.block_id.specs.Formats.{IsTaken}
use Rattle.outside.specs.Changes.{FileChanges}
use Rattle.outside.specs.Honest.{LastChange, last_change}
use Rattle.outside.specs.Trace.{At, Call, config, block, got, put, adds}
use Rattle.integrity_store.specs.block_versions.BlockRecords.{Record, opened}
use Rattle.integrity_store.specs.block_versions.RecordLaws.{none_is_some}
use Rattle.integrity_store.specs.block_versions.Forgeries.{was_put}
use Rattle.integrity_store.specs.block_versions.Held.{Held, own}
use Rattle.integrity_store.specs.block_versions.Reads.{Among}
use Rattle.integrity_store.specs.block_versions.Soundness.{IsFresh, IsSealed}
use Rattle.integrity_store.specs.block_versions.local_state.declared.life.Life.{Life}
use Rattle.integrity_store.specs.store_api.Changes.{id_cmp, same_id}
use Rattle.integrity_store.proofs.store_api_lemmas.Rising.{same_id_is}
use Rattle.anew.specs.Begun.{BegunAnew, IsAnew, first_life}
use Rattle.anew.specs.Writing.{PutsFirst, Renews}

true_is_false : true ≡ false → ⊥
true_is_false e = cc

same_list : {a b : List Call} → Some a ≡ Some b → a ≡ b
same_list e = cc

-- ---- the first call

block_is_config : (id a b : List ℕ) (s t : Bool) → put config a s ≡ put (block id) b t → ⊥
block_is_config id a b s t e = cc

was_one : (a b : List ℕ) (was : Bool) → (bytes_eq a b || was) ≡ true → (a ≡ b) ⊎ (was ≡ true)
was_one a b was e = elim (bytes_eq a b) as (λ v. bytes_eq a b ≡ v → (v || was) ≡ true → (a ≡ b) ⊎ (was ≡ true)) [
  | true ↦ λ is _. inl ((bytes_eq-Decides a b).0 is)
  | false ↦ λ is e. inr e
] refl e

no_life : (lives : fin.FinMap id_cmp Life) (id : List ℕ) (life : Life) → lives ≡ fin.empty → fin.get lives id ≡ Some life → ⊥
no_life lives id life none is = none_is_some (sym (ap (λ m. fin.get m id) none ∙ get-empty id_cmp id) ∙ is)

-- the configuration's file was put, and nothing else since
pub begun_first : (h : Held) (file : List ℕ) (before : List Call) → h.list ≡ [] → h.state.lives ≡ fin.empty → BegunAnew h file before (put config file true ∷ before)
begun_first h file before none new = record {
  none = none;
  new = λ id life is. absurd (no_life h.state.lives id life new is);
  put_last = λ id life is. absurd (no_life h.state.lives id life new is);
  only = λ bytes was. elim (was_one file bytes (was_put bytes before) was) [
    | inl is ↦ inr (inl (sym is))
    | inr old ↦ inl old
  ];
  sealed = λ id bytes ok among. elim among [
    | inl is ↦ absurd (block_is_config id file bytes true ok is)
    | inr old ↦ inl old
  ];
  configured = refl;
}

-- ---- a get

got_is_put : (name other : At) (max : ℕ) (answer : Option (List ℕ)) (bytes : List ℕ) (ok : Bool) → got name max answer ≡ put other bytes ok → ⊥
got_is_put name other max answer bytes ok e = cc

pub begun_got : (h : Held) (file : List ℕ) (before trace : List Call) (name : At) (max : ℕ) (answer : Option (List ℕ)) → BegunAnew h file before trace → BegunAnew h file before (got name max answer ∷ trace)
begun_got h file before trace name max answer a = record {
  none = a.none;
  new = a.new;
  put_last = a.put_last;
  only = λ bytes was. elim (a.only bytes was) [
    | inl old ↦ inl old
    | inr (inl is) ↦ inr (inl is)
    | inr (inr n) ↦ inr (inr (record { id = n.id; payload = n.payload; live = n.live; last = n.last; opens = n.opens }))
  ];
  sealed = λ id bytes ok among. elim among [
    | inl is ↦ absurd (got_is_put name (block id) max answer bytes ok is)
    | inr old ↦ a.sealed id bytes ok old
  ];
  configured = a.configured;
}

-- ---- a block's file

-- either of two ids is the other, or both tests say that it isn't
pub which : (id q : List ℕ) → (q ≡ id) ⊎ ((same_id q id ≡ false) × (bytes_eq id q ≡ false))
which id q = elim (same_id q id) as (λ b. same_id q id ≡ b → (q ≡ id) ⊎ ((same_id q id ≡ false) × (bytes_eq id q ≡ false))) [
  | true ↦ λ is. inl (same_id_is q id is)
  | false ↦ λ other. elim (bytes_eq id q) as (λ b. bytes_eq id q ≡ b → (q ≡ id) ⊎ ((same_id q id ≡ false) × (bytes_eq id q ≡ false))) [
    | true ↦ λ is. inl (sym ((bytes_eq-Decides id q).0 is))
    | false ↦ λ apart. inr (other, apart)
  ] refl
] refl

pub itself : (id : List ℕ) → same_id id id ≡ true
itself id = ap is_eq (tied_itself nat_list_cmp_total id)

put_same : (id q a b : List ℕ) (s t : Bool) → put (block id) a s ≡ put (block q) b t → (id ≡ q) × (a ≡ b)
put_same id q a b s t e = (cc, cc)

-- what is held once the block is known
abbrev with_block : Held → List ℕ → Held
with_block a id = record a { list = []; state = record a.state { lives = fin.insert a.state.lives id first_life } }

module _ (a : Held) (id payload f file : List ℕ) (before old : List Call) (new : fin.get a.state.lives id ≡ None) (least : a.state.least ≡ 2)
    (opens : opened a.opens a.size id f ≡ Some (own a id 1 payload)) (taken : IsTaken 2 f) where
  abbrev now : List Call
  now = put (block id) f true ∷ old

  knows : (q : List ℕ) → fin.get (with_block a id).state.lives q ≡ cond (same_id q id) (Some first_life) (fin.get a.state.lives q)
  knows q = get-insert nat_list_cmp_total a.state.lives id first_life q

  knows_it : fin.get (with_block a id).state.lives id ≡ Some first_life
  knows_it = knows id ∙ ap (λ b. cond b (Some first_life) (fin.get a.state.lives id)) (itself id)

  knows_other : (q : List ℕ) → same_id q id ≡ false → fin.get (with_block a id).state.lives q ≡ fin.get a.state.lives q
  knows_other q other = knows q ∙ ap (λ b. cond b (Some first_life) (fin.get a.state.lives q)) other

  last_it : last_change (block id) now ≡ Some (record { bytes = Some f; ok = true })
  last_it = ap (λ b. if b then Some (record { bytes = Some f; ok = true }) else last_change (block id) old) ((bytes_eq-Decides id id).1 refl)

  last_other : (q : List ℕ) → bytes_eq id q ≡ false → last_change (block q) now ≡ last_change (block q) old
  last_other q apart = ap (λ b. if b then Some (record { bytes = Some f; ok = true }) else last_change (block q) old) apart

  -- a block that was known isn't this one
  known_apart : (q : List ℕ) (life : Life) → fin.get a.state.lives q ≡ Some life → (same_id q id ≡ false) × (bytes_eq id q ≡ false)
  known_apart q life is = elim (which id q) [
    | inl same ↦ absurd (none_is_some {B = ⊥} (sym new ∙ (ap (fin.get a.state.lives) (sym same) ∙ is)))
    | inr apart ↦ apart
  ]

  fresh_it : IsFresh (with_block a id) id 1 f payload
  fresh_it = record { opens = opens; taken = subst (λ n. IsTaken n f) (sym least) taken }

  new_of : (q : List ℕ) (life : Life) → ((r : List ℕ) (l : Life) → fin.get a.state.lives r ≡ Some l → l ≡ first_life) → fin.get (with_block a id).state.lives q ≡ Some life → life ≡ first_life
  new_of q life was is = elim (which id q) [
    | inl same ↦ some_life (sym is ∙ (ap (fin.get (with_block a id).state.lives) same ∙ knows_it))
    | inr apart ↦ was q life (sym (knows_other q apart.0) ∙ is)
  ]
    where
      some_life : {x y : Life} → Some x ≡ Some y → x ≡ y
      some_life e = cc

  begun_put : BegunAnew a file before old → BegunAnew (with_block a id) file before now
  begun_put x = record {
    none = refl;
    new = λ q life is. new_of q life x.new is;
    put_last = λ q life is. elim (which id q) [
      | inl same ↦ subst (λ r. (bytes p : List ℕ) × (last_change (block r) now ≡ Some (record { bytes = Some bytes; ok = true })) × IsFresh (with_block a id) r 1 bytes p) (sym same) (f, payload, last_it, fresh_it)
      | inr apart ↦
          let p = x.put_last q life (sym (knows_other q apart.0) ∙ is) in
          (p.0, p.1, last_other q apart.1 ∙ p.2, record { opens = p.3.opens; taken = p.3.taken })
    ];
    only = λ bytes was. elim (was_one f bytes (was_put bytes old) was) [
      | inl is ↦ inr (inr (subst (IsAnew (with_block a id) now) is (record { id = id; payload = payload; live = knows_it; last = last_it; opens = opens })))
      | inr before_it ↦ elim (x.only bytes before_it) [
        | inl first ↦ inl first
        | inr (inl is) ↦ inr (inl is)
        | inr (inr n) ↦
            let apart = known_apart n.id first_life n.live in
            inr (inr (record { id = n.id; payload = n.payload; live = knows_other n.id apart.0 ∙ n.live; last = last_other n.id apart.1 ∙ n.last; opens = n.opens }))
      ]
    ];
    sealed = λ q bytes ok among. elim among [
      | inl is ↦
          let same = put_same id q f bytes true ok is in
          inr (subst (λ r. IsSealed (with_block a id) r bytes) same.0 (subst (IsSealed (with_block a id) id) same.1 (record { found = own a id 1 payload; opens = opens; own_id = refl })))
      | inr was ↦ elim (x.sealed q bytes ok was) [
        | inl first ↦ inl first
        | inr s ↦ inr (record { found = s.found; opens = s.opens; own_id = s.own_id })
      ]
    ];
    configured = x.configured;
  }

-- a block that wasn't known was written anew
pub begun_renewed : (a b : Held) (id payload iv file : List ℕ) (before old new : List Call) → a.state.least ≡ 2 → fin.get a.state.lives id ≡ None
    → Renews a b id payload iv (Some old) (Some new) → BegunAnew a file before old → BegunAnew b file before new
begun_renewed a b id payload iv file before old new least unknown r x =
    let p = r.puts in
    let is : new ≡ put (block id) p.file true ∷ old = same_list p.is in
    let taken : IsTaken 2 p.file = record { format = WithId; is = p.format; taken = refl } in
    subst (λ h. BegunAnew h file before new) (sym r.known)
    (subst (BegunAnew (with_block a id) file before) (sym is) (begun_put a id payload p.file file before old unknown least p.opens taken x))
