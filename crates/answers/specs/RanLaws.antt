-- Exchanges of a host, one list of them behind another.
use Rattle.std.proofs.Common.{List, [], ◌∷◌, ◌++◌, sym, subst}
use Rattle.fs_model.specs.Instant.{Instant}
use Rattle.answers.specs.Hosts.{Hosting, Ran}
use Rattle.answers.specs.Sessions.{Exchange, AllAt}

pub ran_append : {H : Type 0} (M : Hosting H) (a b c : H) (es fs : List Exchange) → Ran M a es b → Ran M b fs c → Ran M a (fs ++ es) c
ran_append M a b c es [] r s = subst (λ z. Ran M a es z) (sym s) r
ran_append M a b c es (f ∷ fs) r s = (s.0, ran_append M a b s.0 es fs r s.1, s.2)

-- and all of them were asked at this moment
pub at_append : (now : Instant) (es fs : List Exchange) → AllAt now es → AllAt now fs → AllAt now (fs ++ es)
at_append now es [] a b = a
at_append now es (f ∷ fs) a b = (b.0, at_append now es fs a b.1)
