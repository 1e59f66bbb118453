use Rattle.std.proofs.Common.{◌≡◌, ℕ, ◌+◌, List, ◌++◌, length, take, replicate, Result, Ok, Err, refl, sym, ap, ◌∙◌, append_assoc, arith, length-append}
use Rattle.std.specs.Result.{OnErr}
use Rattle.std.proofs.lemmas.List.{take_at}
use Rattle.seal_api.specs.Sealing.{middle}
use Rattle.aes_gcm.specs.Gcm.{sealed_of}
use Rattle.aes_gcm.specs.Opening.{length-sealed_of}
use Rattle.aes_gcm.proofs.Ends.{end_of, end_written, middle_of}
use Rattle.aes_gcm.proofs.aes256_gcm.append_sealed.Goals as goal

regrouped : (out iv text tag : List ℕ) → ((out ++ iv) ++ text) ++ tag ≡ out ++ ((iv ++ text) ++ tag)
regrouped out iv text tag = simp append_assoc

on_err : {T E P : Type 0} (r : Result T E) → P → OnErr r P
on_err (Ok x) holds = tt
on_err (Err e) holds = holds

front_stays : (n : ℕ) (out more new : List ℕ) → length out ≡ n → new ≡ out ++ more → take n new ≡ out
front_stays n out more new long is = ap (take n) is ∙ take_at out more n long

pub returns-in_err-extend_from_slice-2-clause-err : goal.returns-in_err-extend_from_slice-2-clause-err
returns-in_err-extend_from_slice-2-clause-err c =
    let out : List ℕ = c.args.out.now.items in
    let long : length out ≡ c.args.out.now.len = omega (arith, c.args.out.now.ok.0) in
    on_err _ (front_stays c.args.out.now.len out c.args.iv.now _ long (c.in_err-extend_from_slice-2.ensures.items ∙ c.in_ok-extend_from_slice.ensures.items))

pub returns-in_err-extend_from_slice-3-clause-err : goal.returns-in_err-extend_from_slice-3-clause-err
returns-in_err-extend_from_slice-3-clause-err c =
    let out : List ℕ = c.args.out.now.items in
    let iv : List ℕ = c.args.iv.now in
    let plain : List ℕ = c.args.plain.now in
    let long : length out ≡ c.args.out.now.len = omega (arith, c.args.out.now.ok.0) in
    on_err _ (front_stays c.args.out.now.len out (iv ++ plain) _ long (c.in_err-extend_from_slice-3.ensures.items ∙ c.in_ok-extend_from_slice-2.ensures.items
    ∙ ap (λ (l : List ℕ). l ++ plain) c.in_ok-extend_from_slice.ensures.items ∙ append_assoc out iv plain))

pub returns-clause-ok : goal.returns-clause-ok
returns-clause-ok c =
    let out : List ℕ = c.args.out.now.items in
    let key : List ℕ = c.args.key.now in
    let iv : List ℕ = c.args.iv.now in
    let extra : List ℕ = c.args.extra.now in
    let plain : List ℕ = c.args.plain.now in
    let room : List ℕ = replicate 16 0 in
    let added : List ℕ = iv ++ plain ++ room in
    let all : List ℕ = c.deref_mut.result.now in
    let start : ℕ = c.len-start.result in
    let is_all : all ≡ out ++ added =
    c.deref_mut.ensures.value ∙ c.in_ok-extend_from_slice-3.ensures.items
    ∙ ap (λ (l : List ℕ). l ++ room) (c.in_ok-extend_from_slice-2.ensures.items ∙ ap (λ (l : List ℕ). l ++ plain) c.in_ok-extend_from_slice.ensures.items)
    ∙ regrouped out iv plain room in
    let is_start : start ≡ length out = omega (arith, c.len-start.ensures, c.args.out.now.ok.0) in
    let written : c.seal_text.new.text ≡ sealed_of key iv extra plain =
    c.seal_text.ensures ∙ ap (sealed_of key iv extra) (ap (middle 16 16) (end_of out added all start is_all is_start) ∙ middle_of iv plain room c.requires refl) in
    let same : length c.seal_text.new.text ≡ length added =
    ap length written ∙ length-sealed_of key iv extra plain ∙ sym (length-append (iv ++ plain) room ∙ ap (λ n. n + 16) (length-append iv plain)) in
    end_written out added all c.seal_text.new.text _ c.extend_from_slice-3.new.self.len start is_all is_start (sym c.deref_mut.ensures.len) same
    ∙ ap (λ (l : List ℕ). out ++ l) written
