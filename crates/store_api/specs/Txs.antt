-- What a command's changes over a store mean and hold, by what the store below means and holds.
use Rattle.std.specs.Prelude.{◌≡◌, Result, OnErr}
use Rattle.store_outcome.specs.Meanings.{Meanings, Lawful}
use Rattle.store_api.specs.declared.blocks.ApplyError.{ApplyError}
use Rattle.store_api.specs.declared.tx.Tx.{Tx}
use Rattle.store_api.specs.Content.{Changes, Content}
use Rattle.store_api.specs.Holdings.{Holdings, Stays, Steady}
use Rattle.store_api.specs.Ids.{Drawn, stream_left}
use Rattle.store_api.specs.Overlay.{meanings_over, holdings_over, lawful_over, steady_over}

abbrev pub store_in : {S : Type 0} → Tx S → S
store_in tx = tx.store

abbrev pub changes_in : {S : Type 0} → Tx S → Changes
changes_in tx = tx.overlay

-- what draws new ids: the seed, and what is left of its stream
abbrev pub drawn_in : {S : Type 0} → Tx S → Drawn
drawn_in tx = record { seed = tx.seed; left = stream_left tx.ids }

abbrev pub tx_meanings : {S : Type 0} → Meanings S → Holdings S → Meanings (Tx S)
tx_meanings M H = meanings_over store_in changes_in drawn_in M H

abbrev pub tx_holdings : {S : Type 0} → Holdings S → Holdings (Tx S)
tx_holdings H = holdings_over store_in changes_in H

abbrev pub intact_in : {S : Type 0} → Meanings S → Holdings S → Tx S → Type 0
intact_in M H tx = (tx_meanings M H).intact tx

-- the payloads as the changes show them
abbrev pub content_of : {S : Type 0} → Holdings S → Tx S → Content
content_of H tx = (tx_holdings H).content tx

pub tx_laws : {S : Type 0} (M : Meanings S) (H : Holdings S) → Lawful M → Lawful (tx_meanings M H)
tx_laws M H l = lawful_over store_in changes_in drawn_in M H l

pub tx_steady : {S : Type 0} (M : Meanings S) (H : Holdings S) → Steady M H → Steady (tx_meanings M H) (tx_holdings H)
tx_steady M H st = steady_over store_in changes_in drawn_in M H st

-- the store below was loaded at most: it holds what it held, and the changes and their seed stay
pub record LoadsBelow {S : Type 0} (H : Holdings S) (a b : Tx S) : Type 0 where
  pub below : Stays H a.store b.store
  pub overlay : b.overlay ≡ a.overlay
  pub seed : b.seed ≡ a.seed

-- whether or not the changes were made their seed stays, and after an error so do they
pub record KeepsChanges {S : Type 0} (a : Tx S) (result : Result Unit ApplyError) (b : Tx S) : Type 0 where
  pub seed : b.seed ≡ a.seed
  pub err : OnErr result (b.overlay ≡ a.overlay)
