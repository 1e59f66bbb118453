use Rattle.std.proofs.Common.{◌≡◌, ℕ, ◌+◌, ◌-◌, ◌*◌, ◌≤◌, List, ◌++◌, length, take, drop, sym, ap, ◌∙◌, arith}
use Rattle.std.proofs.lemmas.List.{drop-drop, take_all}
use Rattle.std.proofs.lemmas.List.Edits.{length-between}
use Rattle.std.proofs.lemmas.Slice.{drop-put_mid, take-put_mid}
use Rattle.scrypt_kdf.specs.Scrypt.{joined, part, ro_mix}
use Rattle.scrypt_kdf.proofs.Lengths.{length-ro_mix}
use Rattle.scrypt_kdf.proofs.Parts.{joined_more, part_room}
use Rattle.scrypt_kdf.proofs.kdf.mix_parts.Goals as goal

pub loop-i-preserved : goal.loop-i-preserved
loop-i-preserved c =
    let r : ℕ = c.r-r.result in
    let n : ℕ = c.n-n.result in
    let p : ℕ = c.p-i-end.result in
    let len : ℕ = 128 * r in
    let i : ℕ = c.loop-i.i in
    let b : List ℕ = c.loop-i.b in
    let first : List ℕ = c.args.b.now in
    let whole : length first ≡ len * p =
    c.requires ∙ (λ t. 128 * (sym c.r-r.ensures.value) t * (sym c.p-i-end.ensures.value) t) in
    let same_length : length b ≡ len * p = c.loop-i.auto.b ∙ whole in
    let room : len * i + len ≤ len * p = part_room len i p c.loop-i-test.true in
    let now : c.ro_mix.new.x ≡ ro_mix r (part len first i) n =
    c.in_ok-ro_mix.ensures ∙ ap (λ (xs : List ℕ). ro_mix r (take (len * i + len - len * i) xs) n) c.loop-i.invariant.left in
    let cut : len * i + len - len * i ≡ len = omega arith in
    let long : length c.ro_mix.new.x ≡ len =
    ap length now ∙ length-ro_mix r (part len first i) n (length-between first (len * i) (len * i + len) (omega arith) ∙ cut) in
    let next : len * (i + 1) ≡ len * i + len = omega arith in
    record {
      done =
          take-put_mid (len * i) (len * i + len - len * i) b c.ro_mix.new.x (len * (i + 1)) (omega arith) (omega arith)
          ∙ (λ t. c.loop-i.invariant.done t ++ now t)
          ∙ sym (joined_more (λ k. ro_mix r (part len first k) n) i);
      left =
          drop-put_mid (len * i) (len * i + len - len * i) b c.ro_mix.new.x (len * (i + 1)) (omega arith) (omega arith) (omega arith)
          ∙ ap (λ (k : ℕ). drop k b) next ∙ sym (drop-drop len (len * i) b)
          ∙ ap (drop len) c.loop-i.invariant.left
          ∙ drop-drop len (len * i) first ∙ ap (λ (k : ℕ). drop k first) (sym next);
    }

pub returns : goal.returns
returns c =
    let r : ℕ = c.r-r.result in
    let len : ℕ = 128 * r in
    let b : List ℕ = c.loop-i.b in
    let first : List ℕ = c.args.b.now in
    let p : ℕ = c.p-i-end.result in
    let whole : length first ≡ len * p =
    c.requires ∙ (λ t. 128 * (sym c.r-r.ensures.value) t * (sym c.p-i-end.ensures.value) t) in
    let same_length : length b ≡ len * p = c.loop-i.auto.b ∙ whole in
    let done : c.loop-i.i ≡ p = omega (arith, c.loop-i.auto.i-end) in
    let count = done ∙ c.p-i-end.ensures.value in
    sym (take_all (len * c.loop-i.i) b (rw done (omega arith)))
    ∙ c.loop-i.invariant.done
    ∙ (λ t. joined (λ k. ro_mix (c.r-r.ensures.value t) (part (128 * c.r-r.ensures.value t) first k) (c.n-n.ensures.value t)) (count t))
