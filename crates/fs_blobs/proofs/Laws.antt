-- What is read stands in front, and what stands in front is read.
use Rattle.std.proofs.Common.{◌≡◌, ℕ, cond, eqb, List, [], ◌∷◌, ◌++◌, length, drop, sym, ap, subst, ◌∙◌, arith}
use Rattle.std.specs.Prelude.{not, Option, Some, None, option_and_then, IfSome, IsSomeAnd}
use Rattle.std.specs.Option.{option_map}
use Rattle.std.specs.Int.{w16, to_le_bytes}
use Rattle.std.proofs.lemmas.Bool.{eqb-true, not-false}
use Rattle.std.proofs.lemmas.List.{drop_at}
use Rattle.std.proofs.lemmas.Option.{some_pair_parts}
use Rattle.fs_model.specs.declared.attr.Kind.{Kind}
use Rattle.byte_fields.specs.Fields.{IsBytes, front_at, number_at}
use Rattle.byte_fields.proofs.Fields.{some_behind, bound, mapped, fronts, front_again, wide16, number_takes, number_again}
use Rattle.fs_blobs.specs.declared.header.Header.{Header}
use Rattle.fs_model.specs.Kinds.{byte_of, kind_at}
use Rattle.fs_model.proofs.KindBytes.{kind_takes, kind_again}
use Rattle.fs_blobs.specs.Headers.{BeginsWith, header_text, blob}
use Rattle.fs_blobs.specs.Reading.{parts_of, parts_at, header_at}

parts_take : (bytes : List ℕ) (kind : Kind) (parent : List ℕ) → parts_at bytes ≡ Some (kind, parent) → (body : List ℕ) × (bytes ≡ byte_of kind ∷ (parent ++ body)) × (length parent ≡ 16)
parts_take [] kind parent e = absurd cc
parts_take (byte ∷ rest) kind parent e =
    let k = bound (kind_at byte) (λ k. option_map (λ p. (k, p.0)) (front_at 16 rest)) (kind, parent) e in
    let p = mapped (front_at 16 rest) (λ p. (k.0, p.0)) (kind, parent) k.2 in
    let took = (fronts 16).took rest p.0.0 p.0.1 p.1 in
    subst (λ (y : Kind × List ℕ). (body : List ℕ) × (byte ∷ rest ≡ byte_of y.0 ∷ (y.1 ++ body)) × (length y.1 ≡ 16)) p.2
    (p.0.1, ap (λ b. b ∷ rest) (kind_takes byte k.0 k.1) ∙ ap (λ r. byte_of k.0 ∷ r) took.1, took.0)

header_takes : (bytes : List ℕ) (kind : Kind) (parent : List ℕ) → IsBytes bytes → header_at bytes ≡ Some (kind, parent) → BeginsWith bytes kind parent
unfolding header_at
header_takes bytes kind parent fits e =
    let format = bound (number_at w16 bytes) (λ format. cond (not (eqb format.0 1)) None (parts_at format.1)) (kind, parent) e in
    let passed = some_behind (not (eqb format.0.0 1)) (parts_at format.0.1) (kind, parent) format.2 in
    let number : format.0.0 ≡ 1 = eqb-true _ _ (not-false _ passed.0) in
    let took = number_takes wide16 bytes format.0 fits format.1 in
    let parts = parts_take format.0.1 kind parent passed.1 in
    let whole : bytes ≡ blob kind parent parts.0 = took.0.parts ∙ ap (λ n. to_le_bytes w16 n ++ format.0.1) number ∙ ap (λ x. to_le_bytes w16 1 ++ x) parts.1 in
    let behind : drop 19 bytes ≡ parts.0 = ap (drop 19) whole ∙ drop_at (header_text kind parent) parts.0 19 (omega (arith, parts.2)) in
    record { id = parts.2; text = whole ∙ ap (blob kind parent) (sym behind) }

header_again : (kind : Kind) (parent body : List ℕ) → length parent ≡ 16 → header_at (blob kind parent body) ≡ Some (kind, parent)
unfolding header_at
header_again kind parent body len =
    ap (option_and_then (λ format. cond (not (eqb format.0 1)) None (parts_at format.1))) (number_again wide16 1 (byte_of kind ∷ (parent ++ body)) (omega arith))
    ∙ ap (option_and_then (λ k. option_map (λ p. (k, p.0)) (front_at 16 (parent ++ body)))) (kind_again kind)
    ∙ ap (option_map (λ p. (kind, p.0))) (front_again 16 parent body len)

pub read_found : (bytes : List ℕ) (answer : Option Header) → IsBytes bytes → option_map parts_of answer ≡ header_at bytes → IfSome answer (λ h. BeginsWith bytes h.kind h.parent.0)
read_found bytes None fits e = tt
read_found bytes (Some h) fits e = header_takes bytes h.kind h.parent.0 fits (sym e)

pub read_again : (bytes : List ℕ) (kind : Kind) (parent : List ℕ) → BeginsWith bytes kind parent → header_at bytes ≡ Some (kind, parent)
read_again bytes kind parent begins = ap header_at begins.text ∙ header_again kind parent (drop 19 bytes) begins.id

pub read_only : (bytes : List ℕ) (answer : Option Header) → option_map parts_of answer ≡ header_at bytes → (kind : Kind) (parent : List ℕ) → BeginsWith bytes kind parent
    → IsSomeAnd answer (λ h. (h.kind ≡ kind) × (h.parent.0 ≡ parent))
read_only bytes None e kind parent begins = absurd (cc (e, read_again bytes kind parent begins))
read_only bytes (Some h) e kind parent begins = some_pair_parts h.kind kind h.parent.0 parent (e ∙ read_again bytes kind parent begins)

pub one_in_front : (bytes : List ℕ) (kind other : Kind) (parent another : List ℕ) → BeginsWith bytes kind parent → BeginsWith bytes other another → (kind ≡ other) × (parent ≡ another)
one_in_front bytes kind other parent another first second =
    some_pair_parts kind other parent another (sym (read_again bytes kind parent first) ∙ read_again bytes other another second)
