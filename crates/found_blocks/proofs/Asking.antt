-- A block is asked for, and found.
use Rattle.std.specs.Prelude.{◌≡◌, ◌≤◌, ℕ, ◌+◌, ◌-◌, ◌^◌, Bool, false, true, List, ◌∷◌, length, take, Vec, IfSome}
use Rattle.std.specs.FinMap.Entries.{put}
use Rattle.std.specs.declared.alloc.Global.{Global}
use Rattle.std.specs.declared.option.Option.{Option}
use Rattle.std.specs.declared.option.Option.TheVariants.{None, Some}
use Rattle.std.proofs.lemmas.Bool.{or_right}
use Rattle.std.proofs.lemmas.List.{take_all}
use Rattle.std.proofs.Common.{refl, sym, ◌∙◌, ap, subst, arith}
use Rattle.std.specs.Prelude.{IsErrOf, Result}
use Rattle.outside.specs.declared.vault.GetFail.{GetFail}
use Rattle.std.specs.declared.result.Result.TheVariants.{Ok, Err}
use Rattle.outside.specs.Causes.{GetHasCause}
use Rattle.outside.specs.declared.vault.GetFail.TheVariants.{Memory, Failed}
use Rattle.block_id.specs.Fresh.{zero_id}
use Rattle.block_id.specs.declared.sizes.TheConstants.{MAX_BLOCK}
use Rattle.outside.specs.Trace.{block, Call, got, adds}
use Rattle.store_api.specs.Content.{Id, id_cmp, same_id}
use Rattle.block_versions.specs.VerdictLaws.{bad_is_good}
use Rattle.block_id.specs.declared.id.BlockId.{BlockId}
use Rattle.block_versions.specs.sealed_store.BlockFiles.{SeenFile, IsWhole, front_seen, seen_file_in}
use Rattle.block_versions.specs.declared.block_record.TheConstants.{HEAD_LEN}
use Rattle.block_versions.specs.Verdicts.{Verdict, bad, good, front_verdict, judged}
use Rattle.block_versions.proofs.Judging.{came_len}
use Rattle.store_api.specs.Holdings.{has_id}
use Rattle.found_blocks.specs.declared.rows.FoundRow.{FoundRow}
use Rattle.found_blocks.specs.Rows.{Author, Authors, author_of}
use Rattle.found_blocks.specs.Finding.{Finding, judged_as}
use Rattle.found_blocks.specs.Searching.{GotAny, Noted, Searched, with_rows}
use Rattle.found_blocks.proofs.Searching.{searched_call, searched_found, searched_same}

some_file : (f : Finding) (id : Id) (author : Author) (payload : List ℕ) (file : Option (List ℕ)) → judged_as f id author file ≡ good payload → (bytes : List ℕ) × (file ≡ Some bytes)
some_file f id author payload None e = absurd (bad_is_good e)
some_file f id author payload (Some bytes) e = (bytes, refl)

-- as much of a file was opened as a payload can have
pub opened_whole : (f : Finding) (id : Id) (author : Author) (payload : Vec ℕ Global) (answer : Option (List ℕ)) (t : Option (List Call)) → f.size ≤ MAX_BLOCK
    → good payload.items ≡ front_verdict (2 ^ 64 - 31) (judged_as f id author answer) → judged_as f id author answer ≡ good payload.items
opened_whole f id author payload answer t small opened = whole_front (judged_as f id author answer) payload.items refl opened
  where
    take_whole : (payload front : List ℕ) → length payload ≤ 2 ^ 64 - 31 → good front ≡ good (take (2 ^ 64 - 31) payload) → good payload ≡ good front
    take_whole payload front short e = sym (e ∙ ap good (take_all (2 ^ 64 - 31) payload short))

    whole_front : (v : Verdict) (front : List ℕ) → v ≡ judged_as f id author answer → good front ≡ front_verdict (2 ^ 64 - 31) v → v ≡ good front
    whole_front (good payload) front is e = take_whole payload front (omega (arith, came_len f.opens f.size id author.0 author.1 1 answer payload (sym is), small)) e
    whole_front (bad why) front is e = absurd (bad_is_good (sym e))

pub got_any : (f : Finding) (t u : Option (List Call)) (id : Id) (answer : Option (List ℕ)) (found : Option (FoundRow × Vec ℕ Global)) → f.size ≤ MAX_BLOCK → u ≡ adds t (got (block id) (f.size + 1) answer)
    → IfSome found (λ x. x.0.id.0 ≡ id) → IfSome found (λ x. good x.1.items ≡ front_verdict (2 ^ 64 - 31) (judged_as f id (author_of x.0) answer)) → GotAny f t u id found
got_any f t u id answer None small came is opens = record { answer = answer; came = came; opens = tt }
got_any f t u id answer (Some x) small came is opens = record { answer = answer; came = came; opens = (is, opened_whole f id (author_of x.0) x.1 answer t small opens) }

-- the same by whichever rows
pub got_by_rows : (f : Finding) (rows : Authors) (t u : Option (List Call)) (id : Id) (found : Option (FoundRow × Vec ℕ Global)) → GotAny f t u id found → GotAny (with_rows f rows) t u id found
got_by_rows f rows t u id found x = record { answer = x.answer; came = x.came; opens = x.opens }

pub some_id : (found : Option (FoundRow × Vec ℕ Global)) (id : BlockId) → IfSome found (λ x. x.0.id ≡ id) → IfSome found (λ x. x.0.id.0 ≡ id.0)
some_id None id is = tt
some_id (Some x) id is = ap (λ i. i.0) is

pub some_opens : (f : Finding) (id : Id) (answer : Option (List ℕ)) (seen : SeenFile) (found : Option (FoundRow × Vec ℕ Global)) → IsWhole f.size (seen_file_in f.opens f.size 1 id answer)
    → seen ≡ front_seen (2 ^ 64 - 1) (seen_file_in f.opens f.size 1 id answer)
    → IfSome found (λ x. (size most : ℕ) (whole : SeenFile) → IsWhole size whole → seen ≡ front_seen (HEAD_LEN + most) whole → good x.1.items ≡ front_verdict most (judged size id x.0.client x.0.version whole))
    → IfSome found (λ x. good x.1.items ≡ front_verdict (2 ^ 64 - 31) (judged_as f id (author_of x.0) answer))
some_opens f id answer seen None whole shows opens = tt
some_opens f id answer seen (Some x) whole shows opens = opens f.size (2 ^ 64 - 31) (seen_file_in f.opens f.size 1 id answer) whole shows

-- what was noted of a block, which was found by its file
pub asked_found : (f g : Finding) (asked now : List Id) (id : Id) (row : FoundRow) (payload : Vec ℕ Global) (t u : Option (List Call)) → Noted asked now id true → GotAny f t u id (Some (row, payload))
    → same_id id zero_id ≡ false → g.size ≡ f.size → g.opens ≡ f.opens → g.rows ≡ put id_cmp row.id.0 (author_of row) f.rows → g.given ≡ (id, payload.items) ∷ f.given → Searched f g asked now t u
asked_found f g asked now id row payload t u noted gave not_zero size opens rows given =
    let (bytes, file) = some_file f id (author_of row) payload.items gave.answer gave.opens.1 in
    searched_found f g asked now id (author_of row) payload.items bytes t u noted (gave.came ∙ ap (λ x. adds t (got (block id) (f.size + 1) x)) file) not_zero
    (ap (judged_as f id (author_of row)) (sym file) ∙ gave.opens.1) size opens (rows ∙ ap (λ i. put id_cmp i (author_of row) f.rows) gave.opens.0) given

-- nothing was found of a block
pub asked_nothing : (f g : Finding) (asked now : List Id) (id : Id) (found : Option (FoundRow × Vec ℕ Global)) (t u : Option (List Call)) → Noted asked now id true → GotAny f t u id found → g ≡ f → Searched f g asked now t u
asked_nothing f g asked now id found t u noted gave same = subst (λ k. Searched f k asked now t u) (sym same) (searched_call f asked now id gave.answer t u noted gave.came)

-- no call was made
pub asked_none : (f g : Finding) (asked now : List Id) (t u : Option (List Call)) → ((id : Id) → has_id asked id ≡ true → has_id now id ≡ true) → g ≡ f → u ≡ t → Searched f g asked now t u
asked_none f g asked now t u more same still = subst (λ k. Searched f k asked now t u) (sym same) (subst (Searched f f asked now t) (sym still) (searched_same f asked now t more))

pub noted_more : (asked now : List Id) (id : Id) (is_new : Bool) → Noted asked now id is_new → (other : Id) → has_id asked other ≡ true → has_id now other ≡ true
noted_more asked now id true noted other has = noted.1 other (or_right (same_id other id) (has_id asked other) has)
noted_more asked now id false noted other has = ap (λ ids. has_id ids other) noted ∙ has

-- where a call was answered, want of memory afterwards is no fault
pub memory_cause : {T U : Type 0} (v w : ℕ) (x : T) → GetHasCause v w (Ok x) → GetHasCause {T = U} v w (Err Memory)
memory_cause v w x c = record { grows = c.grows; failed = λ is. absurd (not_failed is); quiet = c.quiet }
  where
    not_failed : {U : Type 0} → IsErrOf {T = U} (Err Memory) Failed → ⊥
    not_failed is = cc

-- after calls of which none failed
pub later_cause : {T : Type 0} (v w x : ℕ) (r : Result T GetFail) → w ≡ v → GetHasCause w x r → GetHasCause v x r
later_cause v w x r same c = subst (λ n. GetHasCause n x r) same c

pub still_ok : {T : Type 0} (v w : ℕ) (x : T) → w ≡ v → GetHasCause v w (Ok x)
still_ok v w x same = record { grows = omega (arith, same); failed = λ is. absurd (ok_is_err is); quiet = same }
  where
    ok_is_err : {T : Type 0} {x : T} → IsErrOf (Ok x) Failed → ⊥
    ok_is_err is = cc

pub still_memory : {T : Type 0} (v w : ℕ) → w ≡ v → GetHasCause {T = T} v w (Err Memory)
still_memory v w same = record { grows = omega (arith, same); failed = λ is. absurd (not_failed is); quiet = same }
  where
    not_failed : {U : Type 0} → IsErrOf {T = U} (Err Memory) Failed → ⊥
    not_failed is = cc
