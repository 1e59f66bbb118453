use Rattle.std.proofs.Common.{◌≡◌, ℕ, List, Some, Vec, Global, ap, sym, ◌∙◌}
use Rattle.std.specs.Option.{option_map}
use Rattle.bench_memory.proofs.Opening.{none_some, opens_back}
use Rattle.bench_memory.proofs.seal.through.Goals as goal

pub unreachable-requires : goal.unreachable-requires
unreachable-requires c =
    let same : option_map {T = Vec ℕ Global} {U = List ℕ} (λ plain. plain.items) c.in_ok-opened.field-0 ≡ Some c.args.plain.now =
    opens_back c.args.key.now c.args.iv c.args.plain.now c.clear.new.self.items c.seal.new.out.items c.deref.result.now
    c.in_ok-opened.field-0 (search) c.clear.ensures.items c.in_ok-seal.ensures.ok c.deref.ensures.value c.in_ok-opened.ensures in
    none_some c.args.plain.now (ap (option_map {T = Vec ℕ Global} {U = List ℕ} (λ plain. plain.items)) (sym c.in-None.is) ∙ same)

pub returns : goal.returns
returns c =
    let same : option_map {T = Vec ℕ Global} {U = List ℕ} (λ plain. plain.items) c.in_ok-opened.field-0 ≡ Some c.args.plain.now =
    opens_back c.args.key.now c.args.iv c.args.plain.now c.clear.new.self.items c.seal.new.out.items c.deref.result.now
    c.in_ok-opened.field-0 (search) c.clear.ensures.items c.in_ok-seal.ensures.ok c.deref.ensures.value c.in_ok-opened.ensures in
    let some = ap (option_map {T = Vec ℕ Global} {U = List ℕ} (λ plain. plain.items)) (sym c.in-Some.is) ∙ same in search
