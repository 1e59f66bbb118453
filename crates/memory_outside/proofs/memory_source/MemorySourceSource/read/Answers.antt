use Rattle.std.proofs.Common.{◌≡◌, ◌≤◌, ◌+◌, ◌-◌, ◌++◌, ℕ, List, length, min, take, drop, arith, refl, ap, sym, ◌∙◌}
use Rattle.std.proofs.lemmas.Grind.{common_steps}
use Rattle.std.proofs.lemmas.List.{take_at, take-append-drop, length-take-le, drop_all, drop-drop}
use Rattle.outside.specs.Streams.{WereTaken}
use Rattle.std.specs.declared.option.Option.TheVariants.{Some}
use Rattle.memory_outside.specs.MemoryStreams.{Feed}
use Rattle.outside.specs.Causes.{one_more}
use Rattle.memory_outside.proofs.memory_source.MemorySourceSource.read.Goals as goal

-- the bytes copied to the front of a piece are the first of what was left
front_copied : (left piece copied : List ℕ) (n : ℕ) → n ≤ length left → copied ≡ take n left
    → left ≡ take n (copied ++ drop n piece) ++ drop n left
front_copied left piece copied n h e =
    let l : length copied ≡ n = ap length e ∙ length-take-le n left h in
    let f : take n (copied ++ drop n piece) ≡ take n left = take_at copied (drop n piece) n l ∙ e in
    sym (ap (λ (front : List ℕ). front ++ drop n left) f ∙ take-append-drop n left)

given_less : (given n : ℕ) → given + n - given ≡ n
given_less given n = omega arith

smaller : (n piece small wanted left : ℕ) → n ≡ min piece small → small ≡ min wanted left → n ≤ wanted
smaller n piece small wanted left is also = omega arith

pub returns-clause-next : goal.returns-clause-next
returns-clause-next c =
    let i = c.self.inside in
    let n = c.min-n.result in
    let left = drop i.given i.bytes.items in
    let h : n ≤ length left = grind (arith, common_steps) in
    let e : c.copy_from_slice.new.self ≡ take n left =
    grind (arith, given_less i.given n, c.copy_from_slice.ensures.after, c.deref-2.ensures.value) in
    let filled = c.copy_from_slice.new.self ++ drop n c.args.piece.now in
    let taken : WereTaken (Some c.args.self.now.rest) (Some (drop (i.given + n) i.bytes.items)) (take n filled) = (
      drop (i.given + n) i.bytes.items,
      sym (ap (λ (s : Feed). s.rest) c.self.view_is) ∙ (front_copied left c.args.piece.now c.copy_from_slice.new.self n h e
          ∙ ap (λ (rest : List ℕ). take n filled ++ rest) (drop-drop n i.given i.bytes.items)),
      refl,
    ) in
    record {
      bound = smaller _ i.piece c.min.result (length c.args.piece.now) _ c.min-n.ensures c.min.ensures;
      ok = taken;
      took = record { calls = c.saturating_add-self-inside.ensures ∙ ap (λ (s : Feed). one_more s.calls) c.self.view_is; rest = taken };
      end = λ z more. sym (ap (λ (s : Feed). s.rest) c.self.view_is) ∙ drop_all i.given i.bytes.items (omega arith);
    }

pub returns-clause-many : goal.returns-clause-many
returns-clause-many c =
    let i = c.self.inside in
    let rest = sym (drop-drop c.min-n.result i.given i.bytes.items) ∙ ap (λ (s : Feed). drop c.min-n.result s.rest) c.self.view_is in
    let calls = c.saturating_add-self-inside.ensures ∙ ap (λ (s : Feed). one_more s.calls) c.self.view_is in
    record {
      many = grind (arith, common_steps);
      given = grind (arith, common_steps);
      goes_on = λ k. record (c.self.view_is k) { rest = rest k; calls = calls k };
    }

pub returns-then-contains-clause-none : goal.returns-then-contains-clause-none
returns-then-contains-clause-none c =
    let calls = c.saturating_add-self-inside.ensures ∙ ap (λ (s : Feed). one_more s.calls) c.self.view_is in
    let faults = c.saturating_add-self-inside-then-contains.ensures ∙ ap (λ (s : Feed). one_more s.faults) c.self.view_is in
    record {
      err = ap (λ (s : Feed). s.rest) c.self.view_is;
      faulty = λ k. record (c.self.view_is k) { calls = calls k; faults = faults k };
      untouched = refl;
    }
