-- A store is opened with what its record stands for.
use Rattle.std.specs.Prelude.{◌≡◌, List}
use Rattle.std.specs.declared.option.Option.{Option}
use Rattle.std.proofs.Common.{ℕ, sym, ap, subst, arith}
use Rattle.std.proofs.lemmas.List.{length-map}
use Rattle.std.specs.FinMap.{len-entries}
use Rattle.std.specs.FinMap as fin
use Rattle.outside.specs.Trace.{Call}
use Rattle.local_state.specs.Record.{PlainState, ListEntry, HasRecord, IsRecord}
use Rattle.local_state.proofs.Records.{one_reading}
use Rattle.store_api.specs.Content.{Content, SameContent}
use Rattle.store_api.specs.Holdings.{IsFew}
use Rattle.store_api.specs.Durables.{Identity}
use Rattle.block_versions.specs.Held.{Held, wanted}
use Rattle.block_versions.specs.Soundness.{SoundBy}
use Rattle.block_versions.specs.Standing.{Stands, identity_of}

-- fewer ids are used than there are numbers of 64 bits
pub few_used : (state : PlainState) (list : List ListEntry) → HasRecord state list → IsFew (fin.keys state.lives)
few_used state list has = omega (arith, length-map (fin.entries state.lives) (λ e. e.0), len-entries state.lives, has.state.count)

-- of two that have the same record and identity
same_held : (h k : Held) (bytes : List ℕ) → IsRecord h.state h.list bytes → IsRecord k.state k.list bytes → identity_of k ≡ identity_of h → k ≡ h
same_held h k bytes is also same =
    let reading = one_reading h.state k.state h.list k.list bytes is also in
    let size : k.size ≡ h.size = ap (λ (d : Identity). d.size) same in
    let opens : k.opens ≡ h.opens = ap (λ (d : Identity). d.opens) same in
    let state : k.state ≡ h.state = sym reading.0 in
    let list : k.list ≡ h.list = sym reading.1 in
    λ i. record { size = size i; opens = opens i; state = state i; list = list i }

pub opened_stands : (h : Held) (trace : Option (List Call)) (content : Content) (bytes : List ℕ) → IsRecord h.state h.list bytes → Stands (identity_of h) bytes trace content
    → SoundBy h trace × SameContent content (wanted h trace)
opened_stands h trace content bytes is s =
    let same = same_held h s.held bytes is s.is_record s.same in
    (subst (λ k. SoundBy k trace) same s.sound, subst (λ k. SameContent content (wanted k trace)) same s.wants)
