use Rattle.std.proofs.Common.{◌≡◌, ℕ, ◌+◌, ◌-◌, ◌<◌, List, length, Result, Ok, Err, Vec, Some, None, ◌∙◌, ap, arith}
use Rattle.std.specs.Prelude.{IfOk, Option}
use Rattle.std.specs.declared.alloc.Global.{Global}
use Rattle.std.specs.FinMap as fin
use Rattle.rand_core.specs.Stream.{Stream}
use Rattle.block_versions.specs.local_state.declared.life.Life.{Life}
use Rattle.block_versions.specs.local_state.Known.{raised_version}
use Rattle.block_versions.specs.sealed_store.Drafts.{Seal, filled, sealed_as, IsDraftOf}
use Rattle.block_versions.specs.sealed_store.Stores.{key_of, cipher_of}
use Rattle.block_versions.specs.BlockRecords.{record_of, record_in}
use Rattle.block_versions.specs.Held.{Held, own}
use Rattle.integrity_store.specs.Sealing.{drawn_iv, IsFileFor}
use Rattle.block_versions.specs.Views.{held_of}
use Rattle.store_api.proofs.Draws.{later_filled}
use Rattle.integrity_store.proofs.sealing.draft.Goals as goal

from_one : (life : Option Life) → 0 < raised_version life
from_one None = omega arith
from_one (Some life) = omega arith

pub write_front-requires-clause-version : goal.write_front-requires-clause-version
write_front-requires-clause-version g c = omega (arith, c.next_version-version.ensures, from_one (fin.get c.args.state.now.known.lives c.args.id.now.0))

pub draft-requires-clause-front : goal.draft-requires-clause-front
draft-requires-clause-front g c = omega (arith, c.in_ok-front.ensures.len, c.in_ok-front.front.ok.0, c.requires.may.sized)

-- a draft whose file opens to this record, where one was made
file_for : {E : Type 0} (h : Held) (seal : Seal) (id payload plain iv : List ℕ) (version : ℕ) (stream : Stream) (r : Result (Vec ℕ Global) E) → version ≡ raised_version (fin.get h.state.lives id)
    → iv ≡ drawn_iv stream → record_of h.size plain ≡ Some (own h id version payload) → IfOk r (λ draft. IsDraftOf h.opens seal h.size plain iv draft.items)
    → IfOk r (λ draft. IsFileFor h id payload stream (sealed_as seal h.size id draft.items))
file_for h seal id payload plain iv version stream (Ok draft) raised drawn reads is =
    let file = is.file id in
    record { opens = record { opens = ap (record_in h.size) file.opened ∙ (reads ∙ ap (λ v. Some (own h id v payload)) raised); format = file.format }; iv = file.has_iv ∙ drawn }
file_for h seal id payload plain iv version stream (Err e) raised drawn reads is = tt

pub returns-clause-file : goal.returns-clause-file
returns-clause-file g c =
    let sealed = c.args.sealed.now in
    let held = held_of g.C.Sealer.opens sealed c.args.state.now in
    let payload : List ℕ = c.args.payload.now in
    let front : List ℕ = c.in_ok-front.front.items in
    let size : held.size ≡ 78 + length payload = omega (arith, c.requires.may.sized) in
    let most : held.size - 48 ≡ 30 + length payload = omega (arith, c.requires.may.sized) in
    let reads : record_of held.size (filled (held.size - 48) front) ≡ Some (own held c.args.id.now.0 c.next_version-version.result payload) =
    (λ i. record_of (size i) (filled (most i) front)) ∙ c.in_ok-front.ensures.record in
    file_for held (g.C.Sealer.sealed (cipher_of sealed) (key_of sealed)) c.args.id.now.0 payload (filled (held.size - 48) front) _ c.next_version-version.result (g.R.Rng.stream c.args.chance.now) c.draft.result
    c.next_version-version.ensures (ap (λ (x : List ℕ × Stream). x.0) c.fill_bytes.ensures) reads c.draft.ensures

-- the one fill, whatever comes after it
pub returns-in_err-front-clause-later : goal.returns-in_err-front-clause-later
returns-in_err-front-clause-later g c = later_filled 16 c.fill_bytes.new.dst (g.R.Rng.stream c.args.chance.now) (g.R.Rng.stream c.fill_bytes.new.self) c.fill_bytes.ensures

pub returns-clause-later : goal.returns-clause-later
returns-clause-later g c = later_filled 16 c.fill_bytes.new.dst (g.R.Rng.stream c.args.chance.now) (g.R.Rng.stream c.fill_bytes.new.self) c.fill_bytes.ensures
