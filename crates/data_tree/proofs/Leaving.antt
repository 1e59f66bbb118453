-- One call after another, and what they leave.
use Rattle.std.proofs.Common.{◌≡◌, ◌∙◌, refl, arith, true}
use Rattle.std.specs.Prelude.{is_some}
use Rattle.store_api.specs.declared.tx.Tx.{Tx}
use Rattle.store_api.specs.Content.{Id}
use Rattle.store_api.specs.Holdings.{Holdings, Stays}
use Rattle.store_api.specs.Txs.{LoadsBelow, content_of, tx_holdings}
use Rattle.data_tree.specs.Leaving.{AddsBlocks, DropsBlocks, KeepsBlocks, PutsOne}
use Rattle.data_tree.proofs.Forests.{stays-same, stays-then}
use Rattle.data_tree.proofs.Puts.{below_same}

pub leaves_same : {S : Type 0} (H : Holdings S) (a : Tx S) → LoadsBelow H a a
leaves_same H a = record { below = stays-same H a.store; overlay = refl; seed = refl }

pub leaves_then : {S : Type 0} {H : Holdings S} {a b c : Tx S} → LoadsBelow H a b → LoadsBelow H b c → LoadsBelow H a c
leaves_then x y = record { below = stays-then x.below y.below; overlay = y.overlay ∙ x.overlay; seed = y.seed ∙ x.seed }

pub adds_same : {S : Type 0} (H : Holdings S) (a : Tx S) → AddsBlocks H a a
adds_same H a = record { store = refl; seed = refl; there = λ q h. h; kept = λ q h. refl }

pub adds_then : {S : Type 0} {H : Holdings S} {a b c : Tx S} → AddsBlocks H a b → AddsBlocks H b c → AddsBlocks H a c
adds_then x y = record {
  store = y.store ∙ x.store;
  seed = y.seed ∙ x.seed;
  there = λ q h. y.there q (x.there q h);
  kept = λ q h. y.kept q (x.there q h) ∙ x.kept q h;
}

pub puts_same : {S : Type 0} (a : Tx S) (id : Id) → PutsOne a a id
puts_same a id = record { store = refl; seed = refl; others = λ q h. refl; few = omega arith }

pub keeps_same_blocks : {S : Type 0} (H : Holdings S) (a : Tx S) → KeepsBlocks H a a
keeps_same_blocks H a = record { below = stays-same H a.store; there = λ q h. h }

pub keeps_then : {S : Type 0} {H : Holdings S} {a b c : Tx S} → KeepsBlocks H a b → KeepsBlocks H b c → KeepsBlocks H a c
keeps_then x y = record { below = stays-then x.below y.below; there = λ q h. y.there q (x.there q h) }

pub keeps_added : {S : Type 0} {H : Holdings S} {a b : Tx S} → AddsBlocks H a b → KeepsBlocks H a b
keeps_added {H = H} {a = a} {b = b} x = record { below = below_same H a b x.store; there = x.there }

pub keeps_loaded : {S : Type 0} {H : Holdings S} {a b : Tx S} → LoadsBelow H a b → Stays (tx_holdings H) a b → KeepsBlocks H a b
keeps_loaded x stays = record { below = x.below; there = λ q h. stays.ids q ∙ h }

pub keeps_put : {S : Type 0} (H : Holdings S) (a b : Tx S) {id : Id} → PutsOne a b id → ((q : Id) → is_some (content_of H a q) ≡ true → is_some (content_of H b q) ≡ true) → KeepsBlocks H a b
keeps_put H a b x there = record { below = below_same H a b x.store; there = there }

pub drops_same : {S : Type 0} (H : Holdings S) (a : Tx S) → DropsBlocks H a a
drops_same H a = record { below = stays-same H a.store; fewer = λ q h. h }

pub drops_then : {S : Type 0} {H : Holdings S} {a b c : Tx S} → DropsBlocks H a b → DropsBlocks H b c → DropsBlocks H a c
drops_then x y = record { below = stays-then x.below y.below; fewer = λ q h. x.fewer q (y.fewer q h) }
