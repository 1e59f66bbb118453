-- Of the reads of a sound store no more are forged than are lies.
use Rattle.std.specs.Prelude.{◌≡◌, ◌≤◌, ℕ, ◌+◌, Bool, true, false, not, ◌||◌, List, [], ◌∷◌, ◌++◌, is_some, if◌then◌else◌, length, take}
use Rattle.std.specs.Str.{bytes_eq}
use Rattle.std.specs.declared.option.Option.{Option}
use Rattle.std.specs.declared.option.Option.TheVariants.{None, Some}
use Rattle.std.proofs.Common.{refl, sym, ◌∙◌, ap, subst, arith}
use Rattle.std.proofs.lemmas.List.{take_all}
use Rattle.std.proofs.lemmas.Bool.{or_right}
use Rattle.std.proofs.lemmas.Slice.Eq.{bytes_eq-Decides}
use Rattle.std.proofs.Math.Bool.{and-false}
use Rattle.std.proofs.lemmas.Option.{same_Some}
use Rattle.outside.specs.Trace.{block, Call, got, put, removed, At}
use Rattle.outside.specs.Honest.{LastChange, last_change, same_answer, is_left, is_lie, count_calls, count_told}
use Rattle.outside.specs.HonestLaws.{count_grows}
use Rattle.outside.specs.Names.{same_at}
use Rattle.sealed_store.specs.BlockFiles.{opens_file}
use Rattle.block_versions.specs.RecordLaws.{none_is_some, opened-plain, opens-length}
use Rattle.block_versions.specs.Forgeries.{forged, opens_unput, was_put}
use Rattle.block_versions.specs.Held.{Held}
use Rattle.block_versions.specs.ReadLaws.{sound-reads}
use Rattle.block_versions.specs.Reads.{AllReads, IsRead, WentOnByReads}
use Rattle.block_versions.specs.Soundness.{SoundAt, SoundBy}

pub went_count : (test : List Call → Call → Bool) (h : Held) (a b : Option (List Call)) → WentOnByReads h a b → count_told test a ≤ count_told test b
went_count test h None b went = omega arith
went_count test h (Some t) b (reads, is, all) = subst (λ b. count_calls test t ≤ count_told test b) (sym is) (count_grows test t reads)

put_unforged : (opens : List ℕ → List ℕ → Option (List ℕ)) (size : ℕ) (id : List ℕ) (trace : List Call) (b : List ℕ) → was_put b trace ≡ true → opens_unput opens size id trace (Some b) ≡ false
put_unforged opens size id trace b was = rw was (and-false (is_some (opens_file opens size id b)))

-- ---- what was put last was put

abbrev bytes_out : Option LastChange → Option (List ℕ)
bytes_out None = None
bytes_out (Some c) = c.bytes

put_or : (b : Bool) (bytes other : List ℕ) (ok ok' : Bool) (last : Option LastChange) (was : Bool) → (if b then Some (record { bytes = Some other; ok = ok' }) else last) ≡ Some (record { bytes = Some bytes; ok = ok })
    → (last ≡ Some (record { bytes = Some bytes; ok = ok }) → was ≡ true) → (bytes_eq other bytes || was) ≡ true
put_or true bytes other ok ok' last was e f = ap (λ x. x || was) ((bytes_eq-Decides other bytes).1 (same_Some _ _ (ap bytes_out e)))
put_or false bytes other ok ok' last was e f = or_right (bytes_eq other bytes) was (f e)

removed_or : (b : Bool) (bytes : List ℕ) (ok ok' : Bool) (last : Option LastChange) (was : Bool) → (if b then Some (record { bytes = None; ok = ok' }) else last) ≡ Some (record { bytes = Some bytes; ok = ok })
    → (last ≡ Some (record { bytes = Some bytes; ok = ok }) → was ≡ true) → was ≡ true
removed_or true bytes ok ok' last was e f = none_is_some (ap bytes_out e)
removed_or false bytes ok ok' last was e f = f e

pub last-was_put : (name : At) (bytes : List ℕ) (ok : Bool) (trace : List Call) → last_change name trace ≡ Some (record { bytes = Some bytes; ok = ok }) → was_put bytes trace ≡ true
last-was_put name bytes ok [] e = none_is_some e
last-was_put name bytes ok (got other max answer ∷ trace) e = last-was_put name bytes ok trace e
last-was_put name bytes ok (put other b ok' ∷ trace) e =
    put_or (same_at other name) bytes b ok ok' (last_change name trace) (was_put bytes trace) e (last-was_put name bytes ok trace)
last-was_put name bytes ok (removed other ok' ∷ trace) e =
    removed_or (same_at other name) bytes ok ok' (last_change name trace) (was_put bytes trace) e (last-was_put name bytes ok trace)

-- ---- honest reads

le_one : (b : Bool) → (if b then 1 else 0) ≤ 1
le_one true = omega arith
le_one false = omega arith

read_as : (opens : List ℕ → List ℕ → Option (List ℕ)) (size max : ℕ) (id : List ℕ) (trace : List Call) (bytes : List ℕ) (answer : Option (List ℕ)) → length bytes ≤ max → was_put bytes trace ≡ true
    → (if opens_unput opens size id trace answer then 1 else 0) ≤ (if not (same_answer answer (Some (take max bytes))) then 1 else 0)
read_as opens size max id trace bytes None fits was = omega arith
read_as opens size max id trace bytes (Some b) fits was =
    elim (bytes_eq b (take max bytes)) as (λ v. bytes_eq b (take max bytes) ≡ v → (if opens_unput opens size id trace (Some b) then 1 else 0) ≤ (if not v then 1 else 0)) [
      | true ↦ λ e.
          let is : bytes ≡ b = sym ((bytes_eq-Decides b (take max bytes)).0 e ∙ take_all max bytes fits) in
          rw (put_unforged opens size id trace b (subst (λ x. was_put x trace ≡ true) is was)) (omega arith)
      | false ↦ λ e. le_one (opens_unput opens size id trace (Some b))
    ] refl

one_read : (h : Held) (trace : List Call) (call : Call) → IsRead h call → SoundAt h trace
    → (if forged h.opens h.size trace call then 1 else 0) ≤ (if is_lie trace call then 1 else 0)
one_read h trace call r sound =
    let s = sound.stands r.id r.version r.live r.written in
    let o = opened-plain h.opens h.size r.id s.0 _ s.3.opens in
    let fits : length s.0 ≤ h.size + 1 = omega (arith, opens-length h.opens h.size r.id s.0 o.0 o.1) in
    let was = last-was_put (block r.id) s.0 true trace s.2 in
    let last : is_lie trace (got (block r.id) (h.size + 1) r.answer) ≡ not (same_answer r.answer (Some (take (h.size + 1) s.0)))
    = ap (λ change. not (is_left change (h.size + 1) r.answer)) s.2 in
    rw (r.is, last) (read_as h.opens h.size (h.size + 1) r.id trace s.0 r.answer fits was)

-- of the reads of a sound store no more are forged than are lies
pub fewer_forged : (h : Held) (trace reads : List Call) → AllReads h reads → SoundAt h trace
    → count_calls (forged h.opens h.size) (reads ++ trace) + count_calls is_lie trace ≤ count_calls is_lie (reads ++ trace) + count_calls (forged h.opens h.size) trace
fewer_forged h trace [] all sound = omega arith
fewer_forged h trace (call ∷ reads) all sound =
    let first = one_read h (reads ++ trace) call all.0 (sound-reads h h trace reads all.1 sound) in
    let rest = fewer_forged h trace reads all.1 sound in
    omega (arith, first, rest)

-- where nothing but what was last written came back, nothing came back that was never put
pub went_honest : (h : Held) (a b : Option (List Call)) → WentOnByReads h a b → SoundBy h a → count_told is_lie b ≤ count_told is_lie a
    → count_told (forged h.opens h.size) b ≤ count_told (forged h.opens h.size) a
went_honest h None b went sound few = absurd sound
went_honest h (Some t) b (reads, is, all) sound few =
    let fewer = fewer_forged h t reads all sound in
    let few' = rw is at few in
    rw is (omega (arith, fewer, few'))
