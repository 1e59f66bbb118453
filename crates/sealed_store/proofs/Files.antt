-- The files that drafts are sealed to.
use Rattle.std.proofs.Common.{◌≡◌, ℕ, ◌+◌, ◌-◌, ◌≤◌, ◌==◌, true, cond, List, ◌++◌, length, take, drop, refl, sym, ◌∙◌, ap, subst, arith, length-append, length-take-le, length-drop}
use Rattle.std.specs.Prelude.{nat_lt}
use Rattle.std.specs.declared.option.Option.{Option}
use Rattle.std.specs.declared.option.Option.TheVariants.{None, Some}
use Rattle.std.proofs.lemmas.List.{drop_at, take_at, take_all}
use Rattle.std.proofs.lemmas.Bool.{eq-eqb}
use Rattle.block_id.specs.Formats.{format_in, prefix_of}
use Rattle.block_id.specs.declared.format.Format.TheVariants.{WithId}
use Rattle.seal_api.specs.Sealing.{IsSealed}
use Rattle.outside.specs.Trace.{block}
use Rattle.outside.specs.Changes.{cut}
use Rattle.sealed_store.specs.BlockFiles.{old_format, bad_length, opened_as, opens_file, seen_as, seen_file_in, seen_file_of_plain}
use Rattle.sealed_store.specs.Drafts.{Seal, filled, front_in, plain_in, iv_in_draft, sealed_as, sealed_change, seen_draft, IsDraft, MayBeDraft, IsBlockFile, IsDraftOf}
use Rattle.sealed_store.proofs.Filled.{filled_len}

-- what is sealed opens, with an IV of 16 bytes
pub record IsSealing (opens : List ℕ → List ℕ → Option (List ℕ)) (seal : Seal) : Type 0 where
  pub seals : (iv extra text : List ℕ) → length iv ≡ 16 → IsSealed (opens extra) iv text (seal iv extra text)

-- a sealer under a key, with IVs of 16 bytes
pub sealing_of : {C : Type 0} (iv_size : C → ℕ) (opens : C → List ℕ → List ℕ → List ℕ → Option (List ℕ)) (seal : C → List ℕ → Seal)
    → ((s : C) (key iv extra text : List ℕ) → length iv ≡ iv_size s → IsSealed (opens s key extra) iv text (seal s key iv extra text))
    → (s : C) (key : List ℕ) → iv_size s ≡ 16 → IsSealing (opens s key) (seal s key)
sealing_of iv_size opens seal law s key is = record { seals = λ iv extra text len. law s key iv extra text (len ∙ sym is) }

-- the parts of a draft, and the plaintext that it stands for
pub front_long : (size : ℕ) (draft : List ℕ) → IsDraft size draft → length (front_in draft) ≤ size - 48
front_long size draft is = omega (arith, length-take-le (length draft - 16) draft (omega arith), is.iv, is.front)

pub plain_long : (size : ℕ) (draft : List ℕ) → IsDraft size draft → length (plain_in size draft) ≡ size - 48
plain_long size draft is = filled_len (size - 48) (front_in draft) (front_long size draft is)

pub iv_long : (size : ℕ) (draft : List ℕ) → IsDraft size draft → length (iv_in_draft draft) ≡ 16
iv_long size draft is = omega (arith, length-drop (length draft - 16) draft, is.iv)

-- the file of a draft
pub file_of : (opens : List ℕ → List ℕ → Option (List ℕ)) (seal : Seal) (size : ℕ) (id draft : List ℕ) → IsSealing opens seal → IsDraft size draft
    → IsBlockFile opens size id (plain_in size draft) (iv_in_draft draft) (sealed_as seal size id draft)
file_of opens seal size id draft right may =
    let iv : List ℕ = iv_in_draft draft in
    let text : List ℕ = plain_in size draft in
    let body : List ℕ = seal iv id text in
    let file : List ℕ = sealed_as seal size id draft in
    let len_iv : length iv ≡ 16 = iv_long size draft may in
    let len_text : length text ≡ size - 48 = plain_long size draft may in
    let is = right.seals iv id text len_iv in
    let len : length file ≡ size = length-append (prefix_of WithId) body ∙ omega (arith, is.size, len_iv, len_text, may.iv, may.front) in
    let rest : drop 16 file ≡ body = drop_at (prefix_of WithId) body 16 refl in
    let format : format_in file ≡ Some WithId = refl in
    let whole : opens_file opens size id file ≡ Some text =
    ap (λ b. cond b (opened_as opens id (drop 16 file) (format_in file)) None) (eq-eqb (length file) size len)
    ∙ (λ i. opened_as opens id (rest i) (format i)) ∙ is.opened in
    record {
      len = len;
      prefix = take_at (prefix_of WithId) body 16 refl;
      format = format;
      has_iv = ap (take 16) rest ∙ ap (λ n. take n body) (sym len_iv) ∙ is.begins;
      opened = whole;
    }

-- a front of a plaintext, and its IV
pub draft_of : (opens : List ℕ → List ℕ → Option (List ℕ)) (seal : Seal) (size : ℕ) (front iv draft : List ℕ) → IsSealing opens seal → length front + 48 ≤ size → length iv ≡ 16
    → draft ≡ front ++ iv → IsDraftOf opens seal size (filled (size - 48) front) iv draft
draft_of opens seal size front iv draft right sized len_iv is =
    let len : length draft ≡ length front + 16 = ap length is ∙ length-append front iv ∙ omega (arith, len_iv) in
    let short : IsDraft size draft = record { iv = omega (arith, len); front = omega (arith, len, sized) } in
    let end : length front ≡ length draft - 16 = omega (arith, len) in
    let has_front : front_in draft ≡ front = ap (take (length draft - 16)) is ∙ take_at front iv (length draft - 16) end in
    let has_plain : plain_in size draft ≡ filled (size - 48) front = ap (filled (size - 48)) has_front in
    let has_iv : iv_in_draft draft ≡ iv = ap (drop (length draft - 16)) is ∙ drop_at front iv (length draft - 16) end in
    record {
      short = short;
      has_plain = has_plain;
      has_iv = has_iv;
      file = λ id.
          subst (λ v. IsBlockFile opens size id (filled (size - 48) front) v (sealed_as seal size id draft)) has_iv
          (subst (λ p. IsBlockFile opens size id p (iv_in_draft draft) (sealed_as seal size id draft)) has_plain
          (file_of opens seal size id draft right short));
    }

pub sized_of : (opens : List ℕ → List ℕ → Option (List ℕ)) (seal : Seal) (size : ℕ) → IsSealing opens seal → (id draft : List ℕ) → IsDraft size draft → length (sealed_as seal size id draft) ≡ size
sized_of opens seal size right id draft may = (file_of opens seal size id draft right may).len

-- a draft is seen as its file would be
pub draft_seen : (opens : List ℕ → List ℕ → Option (List ℕ)) (seal : Seal) (size least : ℕ) (id : List ℕ) (change : Option (List ℕ)) → IsSealing opens seal → MayBeDraft size (block id) change
    → seen_draft size least change ≡ seen_file_in opens size least id (cut (size + 1) (sealed_change seal size (block id) change))
draft_seen opens seal size least id None right may = refl
draft_seen opens seal size least id (Some draft) right may =
    let file : List ℕ = sealed_as seal size id draft in
    let text : List ℕ = plain_in size draft in
    let body : List ℕ = seal (iv_in_draft draft) id text in
    let is = file_of opens seal size id draft right may in
    let rest : drop 16 file ≡ body = drop_at (prefix_of WithId) body 16 refl in
    let format : format_in file ≡ Some WithId = refl in
    let all : take (size + 1) file ≡ file = take_all (size + 1) file (omega (arith, is.len)) in
    let same : (length file == size) ≡ true = eq-eqb (length file) size is.len in
    let opened : opens id body ≡ Some text =
    (λ i. opened_as opens id (sym rest i) (sym format i))
    ∙ ap (λ b. cond b (opened_as opens id (drop 16 file) (format_in file)) None) (sym same) ∙ is.opened in
    sym (ap (λ l. seen_file_in opens size least id (Some l)) all
    ∙ ap (λ b. cond b (seen_as opens least id (drop 16 file) (format_in file)) bad_length) same
    ∙ (λ i. seen_as opens least id (rest i) (format i))
    ∙ ap (λ o. cond (nat_lt 2 least) old_format (seen_file_of_plain o)) opened)
