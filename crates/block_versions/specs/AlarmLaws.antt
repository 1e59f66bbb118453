-- Where the directory gave what was last written, nothing is found wrong.
use Rattle.std.specs.Prelude.{◌≡◌, ◌≤◌, ℕ, ◌+◌, true, false, not, List, [], ◌∷◌, ◌++◌, take}
use Rattle.std.specs.Str.{bytes_eq}
use Rattle.std.specs.declared.option.Option.{Option}
use Rattle.std.specs.declared.option.Option.TheVariants.{None, Some}
use Rattle.std.proofs.Common.{refl, sym, ◌∙◌, ap, subst, inl, inr, arith}
use Rattle.std.proofs.lemmas.List.{append_cancel_right}
use Rattle.std.proofs.lemmas.Bool.{not-false}
use Rattle.std.proofs.lemmas.Slice.Eq.{bytes_eq-Decides}
use Rattle.block_id.specs.declared.fail.Why.{Why}
use Rattle.outside.specs.Trace.{config, block, Call, got, put, removed}
use Rattle.outside.specs.Changes.{cut}
use Rattle.outside.specs.HonestLaws.{count_grows, uncounted}
use Rattle.outside.specs.Honest.{same_answer, is_left, is_lie, count_calls, count_told}
use Rattle.sealed_store.specs.redo_vault.Redo.{Gave}
use Rattle.block_versions.specs.RecordLaws.{cut_whole}
use Rattle.block_versions.specs.VerdictLaws.{bad_is_good, opened_good}
use Rattle.block_versions.specs.Verdicts.{bad, verdict}
use Rattle.block_versions.specs.Held.{Held, live_version, waiting}
use Rattle.block_versions.specs.Loads.{Came}
use Rattle.block_versions.specs.ReadLaws.{sound-reads}
use Rattle.block_versions.specs.Reads.{AllReads, Among, FoundSince, IsRead, WentOnByReads}
use Rattle.block_versions.specs.Soundness.{SoundAt, SoundBy}

false_is_true : false ≡ true → ⊥
false_is_true e = cc

-- ---- one read

same_file : (bytes : List ℕ) (file : Option (List ℕ)) → not (same_answer file (Some bytes)) ≡ false → file ≡ Some bytes
same_file bytes None e = absurd (false_is_true (sym e))
same_file bytes (Some b) e = ap Some ((bytes_eq-Decides b bytes).0 (not-false (bytes_eq b bytes) e))

-- Where the directory gave what was last written, nothing is wrong.
came_alarm : (h : Held) (old new : Option (List Call)) (id : List ℕ) (version : ℕ) (file : Option (List ℕ)) (why : Why) → live_version h id ≡ Some version
    → Came h old new id file → verdict h.opens h.size id h.state.client version h.state.least file ≡ bad why
    → SoundBy h old → count_told is_lie new ≤ count_told is_lie old → ⊥
came_alarm h None new id version file why live came is sound few = sound
came_alarm h (Some t) new id version file why live came is sound few =
    elim (waiting h id) as (λ w. waiting h id ≡ w → Gave w (Some t) new (block id) (h.size + 1) file → ⊥) [
      | Some change ↦ λ e f.
          let (bytes, payload, same, o) = sound.waits id version change live e in
          let whole : file ≡ Some bytes = f.1 ∙ ap (cut (h.size + 1)) same ∙ ap Some (cut_whole h.opens h.size id bytes _ o.opens) in
          bad_is_good (sym is ∙ ap (verdict h.opens h.size id h.state.client version h.state.least) whole ∙ opened_good h.opens h.size id h.state.client version h.state.least bytes payload o.taken o.opens)
      | None ↦ λ e f.
          let few' : count_calls is_lie (got (block id) (h.size + 1) file ∷ t) ≤ count_calls is_lie t = rw f at few in
          let (bytes, payload, last, o) = sound.stands id version live e in
          let honest : not (same_answer file (Some (take (h.size + 1) bytes))) ≡ false
          = sym (ap (λ change. not (is_left change (h.size + 1) file)) last) ∙ uncounted (is_lie t (got (block id) (h.size + 1) file)) _ few' in
          let whole : file ≡ Some bytes = same_file (take (h.size + 1) bytes) file honest ∙ ap Some (cut_whole h.opens h.size id bytes _ o.opens) in
          bad_is_good (sym is ∙ ap (verdict h.opens h.size id h.state.client version h.state.least) whole ∙ opened_good h.opens h.size id h.state.client version h.state.least bytes payload o.taken o.opens)
    ] refl came

-- ---- all reads

-- the id of a block that was asked for
asked_id : Call → List ℕ
asked_id (got config max answer) = []
asked_id (got (block id) max answer) = id
asked_id (put name bytes ok) = []
asked_id (removed name ok) = []

some_trace : {a b : List Call} → Some a ≡ Some b → a ≡ b
some_trace e = cc

read_waits : (h : Held) (call : Call) (id : List ℕ) (max : ℕ) (file : Option (List ℕ)) → IsRead h call → call ≡ got (block id) max file → waiting h id ≡ None
unfolding asked_id
read_waits h call id max file r is =
    let same : id ≡ r.id = ap asked_id (sym is ∙ r.is) in
    subst (λ id. waiting h id ≡ None) (sym same) r.written

-- no read of a sound store over an honest directory gave a file that is wrong
among_good : (h : Held) (t reads : List Call) (id : List ℕ) (version : ℕ) (file : Option (List ℕ)) (why : Why) → live_version h id ≡ Some version → AllReads h reads → SoundAt h t
    → count_calls is_lie (reads ++ t) ≤ count_calls is_lie t → verdict h.opens h.size id h.state.client version h.state.least file ≡ bad why → Among reads (got (block id) (h.size + 1) file) → ⊥
among_good h t [] id version file why live all sound few wrong among = among
among_good h t (call ∷ reads) id version file why live all sound few wrong (inl is) =
    let few' : count_calls is_lie (call ∷ reads ++ t) ≤ count_calls is_lie (reads ++ t) = omega (arith, few, count_grows is_lie t reads) in
    let came : Came h (Some (reads ++ t)) (Some (call ∷ reads ++ t)) id file
    = subst (λ w. Gave w (Some (reads ++ t)) (Some (call ∷ reads ++ t)) (block id) (h.size + 1) file) (sym (read_waits h call id (h.size + 1) file all.0 is)) (ap (λ c. Some (c ∷ reads ++ t)) is) in
    came_alarm h (Some (reads ++ t)) (Some (call ∷ reads ++ t)) id version file why live came wrong (sound-reads h h t reads all.1 sound) few'
among_good h t (call ∷ reads) id version file why live all sound few wrong (inr later) =
    among_good h t reads id version file why live all.1 sound (omega (arith, few)) wrong later

-- where the directory gave what was last written, nothing was found wrong
pub found_unmet : (h : Held) (t u : Option (List Call)) (why : Why) → WentOnByReads h t u → SoundBy h t → count_told is_lie u ≤ count_told is_lie t → FoundSince h t u why → ⊥
found_unmet h None u why went sound few found = sound
found_unmet h (Some t) u why (reads, is, all) sound few (others, is', f) =
    let same : others ≡ reads = append_cancel_right others reads t (some_trace (sym is' ∙ is)) in
    let few' : count_calls is_lie (reads ++ t) ≤ count_calls is_lie t = rw is at few in
    elim f.came [
      | inl (change, waits, file) ↦ came_alarm h (Some t) (Some t) f.id f.version f.file why f.live
          (subst (λ w. Gave w (Some t) (Some t) (block f.id) (h.size + 1) f.file) (sym waits) (refl, file)) f.wrong sound (omega arith)
      | inr among ↦ among_good h t reads f.id f.version f.file why f.live all sound few' f.wrong (subst (λ calls. Among calls (got (block f.id) (h.size + 1) f.file)) same among)
    ]
