-- What became of a cache by a call that may want memory.
use Rattle.std.proofs.Common.{◌≡◌, ◌⊎◌, true, false, inl, inr}
use Rattle.std.specs.Prelude.{Result, Ok, Err, OnOk, OnErr, IsOk}
use Rattle.block_cache.specs.Payloads.{Payloads}

pub put_or_not : {T E : Type 0} (r : Result T E) (old new put : Payloads) → OnOk r (new ≡ put) → OnErr r (new ≡ old) → (new ≡ old) ⊎ (new ≡ put)
put_or_not (Ok x) old new put ok err = inr ok
put_or_not (Err e) old new put ok err = inl err

pub was_put : {T E : Type 0} (r : Result T E) (new put : Payloads) → OnOk r (new ≡ put) → IsOk r → new ≡ put
was_put (Ok x) new put ok is = ok
was_put (Err e) new put ok is = let bad : false ≡ true = is in absurd (cc)
