-- What a look asked for.
use Rattle.std.proofs.Common.{ℕ, List, inr}
use Rattle.std.specs.declared.option.Option.{Option}
use Rattle.std.specs.declared.option.Option.TheVariants.{Some}
use Rattle.outside.specs.Trace.{Call}
use Rattle.found_blocks.specs.declared.store.FoundStore.{FoundStore}
use Rattle.looking.specs.Finding.{BeginsLook, calls_in}
use Rattle.looking.specs.Hosting.{store_of}
use Rattle.looking.specs.declared.host.Looked.{Looked}
use Rattle.looking.proofs.Asked.{asked_then, config_asked, got_asked}
use Rattle.session_laws.specs.Resting.{OnlyAsked, OnlyGot}
use Rattle.session_laws.specs.config_file.declared.config.Cipher.{Cipher}

-- the configuration, the blocks that were found, and what was asked over them
pub look_asked : {V : Type 0} (trace : V → Option (List Call)) (faults : V → ℕ) (password : List ℕ) (vault : V) (l : Looked (FoundStore V Cipher)) (new : Option (List Call)) → BeginsLook trace faults password vault l
    → OnlyGot (calls_in trace (store_of l)) new → OnlyAsked (trace vault) new
look_asked trace faults password vault l new b went =
    asked_then (trace vault) (trace b.mid) new (config_asked (trace vault) (trace b.mid) (inr (Some b.config.file, b.config.came)))
    (asked_then (trace b.mid) (calls_in trace (store_of l)) new (got_asked (trace b.mid) (calls_in trace (store_of l)) b.begins.asked) (got_asked (calls_in trace (store_of l)) new went))
