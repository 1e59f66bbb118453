-- No block came.
use Rattle.std.proofs.Common.{◌≡◌, sym, ◌∙◌, true}
use Rattle.std.specs.Prelude.{is_some}
use Rattle.std.specs.FinMap.{get}
use Rattle.data_tree.specs.store_api.declared.tx.Tx.{Tx}
use Rattle.data_tree.specs.store_api.Content.{Id}
use Rattle.data_tree.specs.store_api.Holdings.{Holdings, Stays}
use Rattle.data_tree.specs.store_api.Txs.{LoadsBelow, content_of, tx_holdings}
use Rattle.data_tree.specs.Leaving.{DropsBlocks, PutsOne}
use Rattle.data_tree.proofs.Puts.{below_same, was_there}
use Rattle.data_cuts.proofs.Cuts.{fewer_put}

pub drops_loaded : {S : Type 0} {H : Holdings S} {a b : Tx S} → LoadsBelow H a b → Stays (tx_holdings H) a b → DropsBlocks H a b
drops_loaded x stays = record { below = x.below; fewer = λ q h. sym (stays.ids q) ∙ h }

pub drops_put : {S : Type 0} (H : Holdings S) (a b : Tx S) (id : Id) → is_some (content_of H a id) ≡ true → PutsOne a b id → DropsBlocks H a b
drops_put H a b id there x =
    let below = below_same H a b x.store in
    record { below = below; fewer = λ q h. fewer_put H a b id q there below (x.others q) h }

-- what is still there stands in the changes as before
pub drops_kept : {S : Type 0} (H : Holdings S) (a b : Tx S) → Stays H a.store b.store → ((q : Id) → is_some (content_of H b q) ≡ true → get b.overlay q ≡ get a.overlay q) → DropsBlocks H a b
drops_kept H a b below kept = record { below = below; fewer = λ q h. was_there H a b below q (kept q h) h }
