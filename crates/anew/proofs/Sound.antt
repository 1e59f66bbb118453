-- Why a record of a new client is sound over all calls there ever were.
use Rattle.std.proofs.Common.{◌≡◌, ◌⊎◌, inl, inr, ℕ, Bool, true, false, List, [], ◌∷◌, take, drop, length, refl, sym, ◌∙◌, ap, subst, arith}
use Rattle.std.specs.Prelude.{◌&&◌, ◌==◌, not, is_some, nat_eq, if◌then◌else◌}
use Rattle.std.specs.List.{starts_with}
use Rattle.std.specs.Option.{option_map_or}
use Rattle.std.specs.FinMap as fin
use Rattle.std.specs.Cmp.Lexicographic.{bytes_decides}
use Rattle.std.proofs.lemmas.List.{take-take}
use Rattle.std.specs.declared.option.Option.{Option}
use Rattle.std.specs.declared.option.Option.TheVariants.{None, Some}
use Rattle.block_id.specs.declared.format.Format.{Format}
use Rattle.block_id.specs.declared.format.Format.TheVariants.{Alone, WithId}
use Rattle.block_id.specs.Formats.{magic, prefix_of}
use Rattle.outside.specs.Changes.{FileChanges, change_at}
use Rattle.outside.specs.Honest.{last_change}
use Rattle.outside.specs.Trace.{At, Call, block, put}
use Rattle.integrity_store.specs.sealed_store.BlockFiles.{OpensAlike, opened_as, opens_file}
use Rattle.integrity_store.specs.block_versions.BlockRecords.{Record, opened, payload_in, payload_of}
use Rattle.integrity_store.specs.block_versions.RecordLaws.{if_true, none_is_some, opened-alike, opened-plain}
use Rattle.integrity_store.specs.block_versions.Forgeries.{was_put}
use Rattle.integrity_store.specs.block_versions.Held.{Held, live_version, own, waiting, waiting_or, bytes_in, file_of, where_live}
use Rattle.integrity_store.specs.block_versions.Reads.{Among}
use Rattle.integrity_store.specs.block_versions.Soundness.{IsFresh, IsPast, IsSealed, SoundAt}
use Rattle.integrity_store.specs.block_versions.local_state.declared.life.Life.{Life}
use Rattle.integrity_store.specs.block_versions.local_state.Known.{is_dead_in, version_if_live}
use Rattle.anew.specs.Begun.{BegunAnew, IsAnew, IsBlockFile, IsNewClient, first_life}

true_is_false : true ≡ false → ⊥
true_is_false e = cc

-- ---- a file that opens begins as a block's file does

begins_as : (f : Format) (bytes : List ℕ) → starts_with nat_eq bytes (prefix_of f) ≡ true → take 14 bytes ≡ magic
begins_as f bytes test =
    let same : prefix_of f ≡ take 16 bytes = by_format f bytes test in
    sym (take-take 14 16 bytes (omega arith)) ∙ ap (take 14) (sym same) ∙ magic_is f
  where
    by_format : (f : Format) (bytes : List ℕ) → starts_with nat_eq bytes (prefix_of f) ≡ true → prefix_of f ≡ take 16 bytes
    by_format Alone bytes test = (bytes_decides (prefix_of Alone) (take 16 bytes)).0 test
    by_format WithId bytes test = (bytes_decides (prefix_of WithId) (take 16 bytes)).0 test

    magic_is : (f : Format) → take 14 (prefix_of f) ≡ magic
    magic_is Alone = refl
    magic_is WithId = refl

found_begins : (a b : Bool) (bytes : List ℕ) → (a ≡ true → take 14 bytes ≡ magic) → (b ≡ true → take 14 bytes ≡ magic) → (opens : List ℕ → List ℕ → Option (List ℕ)) (id rest plain : List ℕ)
    → opened_as opens id rest (if a then Some Alone else (if b then Some WithId else None)) ≡ Some plain → take 14 bytes ≡ magic
found_begins true b bytes f g opens id rest plain e = f refl
found_begins false true bytes f g opens id rest plain e = g refl
found_begins false false bytes f g opens id rest plain e = absurd (true_is_false (ap is_some (sym e)))

begins : (opens : List ℕ → List ℕ → Option (List ℕ)) (size : ℕ) (id bytes plain : List ℕ) → opens_file opens size id bytes ≡ Some plain → take 14 bytes ≡ magic
begins opens size id bytes plain is =
    found_begins (starts_with nat_eq bytes (prefix_of Alone)) (starts_with nat_eq bytes (prefix_of WithId)) bytes (begins_as Alone bytes) (begins_as WithId bytes) opens id (drop 16 bytes) plain (if_true (length bytes == size) _ plain is).1

-- ---- lives

if_live : (b : Bool) (n v : ℕ) → (if b then Some n else None) ≡ Some v → n ≡ v
if_live true n v e = cc
if_live false n v e = none_is_some e

life_if : (o : Option Life) (v : ℕ) → version_if_live o ≡ Some v → (life : Life) × (o ≡ Some life) × (life.version ≡ v)
life_if None v e = none_is_some e
life_if (Some life) v e = (life, refl, if_live life.live life.version v e)

not_dead : (o : Option Life) → ((life : Life) → o ≡ Some life → life ≡ first_life) → (is_some o && not (option_map_or (λ m. m.live) o false)) ≡ true → ⊥
not_dead None all e = cc
not_dead (Some life) all e = let lives : life.live ≡ true = ap (λ (l : Life). l.live) (all life refl) in cc

-- ---- the law

module _ (h : Held) (file : List ℕ) (before trace : List Call) (alike : OpensAlike h.opens) (no_block : take 14 file ≡ magic → ⊥)
    (client : IsNewClient h.opens h.size h.state.client before) (a : BegunAnew h file before trace) where
  waits_none : (id : List ℕ) → waiting h id ≡ None
  waits_none id = ap (λ (list : FileChanges). change_at (block id) list) a.none

  past_own : (bytes : List ℕ) (n : IsAnew h trace bytes) → IsPast h trace (own h n.id 1 n.payload)
  past_own bytes n =
      let live : live_version h n.id ≡ Some 1 = ap version_if_live n.live in
      let is : file_of h trace n.id ≡ Some bytes = ap (λ w. waiting_or w (bytes_in (last_change (block n.id) trace))) (waits_none n.id) ∙ ap bytes_in n.last in
      record {
        life = first_life;
        used = n.live;
        version = omega arith;
        payload = λ _. ap (λ v. where_live v (payload_in h.opens h.size n.id (file_of h trace n.id))) live
            ∙ ap Some (ap (payload_in h.opens h.size n.id) is ∙ ap (payload_of h.size) n.opens);
      }

  past : (id bytes : List ℕ) (r : Record) → was_put bytes trace ≡ true → opened h.opens h.size id bytes ≡ Some r → r.client ≡ h.state.client → IsPast h trace r
  past id bytes r was opens mine = elim (a.only bytes was) [
    | inl old ↦ absurd (client.unused id bytes r old opens mine)
    | inr (inl is) ↦
        let plain = opened-plain h.opens h.size id bytes r opens in
        absurd (no_block (ap (take 14) (sym is) ∙ begins h.opens h.size id bytes plain.0 plain.1))
    | inr (inr n) ↦ subst (IsPast h trace) (sym (opened-alike h.opens h.size id n.id bytes r (own h n.id 1 n.payload) alike opens n.opens)) (past_own bytes n)
  ]

  sealed : (id bytes : List ℕ) (ok : Bool) → Among trace (put (block id) bytes ok) → IsSealed h id bytes
  sealed id bytes ok among = elim (a.sealed id bytes ok among) [
    | inl old ↦ let s = client.sealed id bytes ok old in record { found = s.found; opens = s.opens_to; own_id = s.own_id }
    | inr s ↦ s
  ]

  stands : (id : List ℕ) (version : ℕ) → live_version h id ≡ Some version
      → (bytes payload : List ℕ) × (last_change (block id) trace ≡ Some (record { bytes = Some bytes; ok = true })) × IsFresh h id version bytes payload
  stands id version live =
      let l = life_if (fin.get h.state.lives id) version live in
      let one : 1 ≡ version = sym (ap (λ (l : Life). l.version) (a.new id l.0 l.1)) ∙ l.2 in
      let p = a.put_last id l.0 l.1 in
      (p.0, p.1, p.2, subst (λ v. IsFresh h id v p.0 p.1) one p.3)

  pub sound_anew : SoundAt h trace
  sound_anew = record {
    waits = λ id version change live there. absurd (let none = waits_none id in cc);
    stands = λ id version live none. stands id version live;
    buried = λ id dead none. absurd (not_dead (fin.get h.state.lives id) (a.new id) dead);
    past = past;
    sealed = sealed;
  }
