-- Reads of blocks: what they make of the trace, and what was found wrong.
use Rattle.std.specs.Prelude.{◌≡◌, ◌⊎◌, ℕ, ◌+◌, List, [], ◌∷◌, ◌++◌}
use Rattle.std.specs.declared.option.Option.{Option}
use Rattle.std.specs.declared.option.Option.TheVariants.{None, Some}
use Rattle.block_id.specs.declared.fail.Why.{Why}
use Rattle.outside.specs.Trace.{config, block, Call, got, adds}
use Rattle.outside.specs.Changes.{cut}
use Rattle.block_versions.specs.Verdicts.{bad, verdict}
use Rattle.block_versions.specs.Held.{Held, live_version, waiting}

-- a live block that doesn't wait was asked for, with one byte more than a file has
pub record IsRead (h : Held) (call : Call) : Type 0 where
  pub id : List ℕ
  pub version : ℕ
  pub answer : Option (List ℕ)
  pub live : live_version h id ≡ Some version
  pub written : waiting h id ≡ None
  pub is : call ≡ got (block id) (h.size + 1) answer

-- each of the calls is such a read
abbrev pub AllReads : Held → List Call → Type 0
AllReads h [] = Unit {0}
AllReads h (call ∷ calls) = IsRead h call × AllReads h calls

-- the trace went on by reads alone
abbrev pub WentOnByReads : Held → Option (List Call) → Option (List Call) → Type 0
WentOnByReads h None new = new ≡ None
WentOnByReads h (Some old) new = (reads : List Call) × (new ≡ Some (reads ++ old)) × AllReads h reads

-- the call is one of these
abbrev pub Among : List Call → Call → Type 0
Among [] call = ⊥
Among (first ∷ calls) call = (first ≡ call) ⊎ Among calls call

-- of a live block, the file that waits or one that these calls gave is wrong in this way
pub record FoundWrong (h : Held) (calls : List Call) (why : Why) : Type 0 where
  pub id : List ℕ
  pub version : ℕ
  pub file : Option (List ℕ)
  pub live : live_version h id ≡ Some version
  pub wrong : verdict h.opens h.size id h.state.client version h.state.least file ≡ bad why
  pub came : ((change : Option (List ℕ)) × (waiting h id ≡ Some change) × (file ≡ cut (h.size + 1) change)) ⊎ Among calls (got (block id) (h.size + 1) file)

-- since then something was found wrong in this way, of a directory that tells its calls
abbrev pub FoundSince : Held → Option (List Call) → Option (List Call) → Why → Type 0
FoundSince h None new why = Unit {0}
FoundSince h (Some old) new why = (reads : List Call) × (new ≡ Some (reads ++ old)) × FoundWrong h reads why

-- of a live block, one of these calls gave a file that is wrong in this way
pub record GaveBad (h : Held) (calls : List Call) (why : Why) : Type 0 where
  pub id : List ℕ
  pub version : ℕ
  pub file : Option (List ℕ)
  pub live : live_version h id ≡ Some version
  pub wrong : verdict h.opens h.size id h.state.client version h.state.least file ≡ bad why
  pub came : Among calls (got (block id) (h.size + 1) file)

-- since then a call gave such a file; of a directory that tells no calls none did
abbrev pub GaveWrong : Held → Option (List Call) → Option (List Call) → Why → Type 0
GaveWrong h None new why = ⊥
GaveWrong h (Some old) new why = (reads : List Call) × (new ≡ Some (reads ++ old)) × GaveBad h reads why

-- the trace after the configuration's file was asked for, and this came
abbrev pub after_read : Option (List Call) → ℕ → Option (List ℕ) → Option (List Call)
after_read trace max answer = adds trace (got config max answer)
