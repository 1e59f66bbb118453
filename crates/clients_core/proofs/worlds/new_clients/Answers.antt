use Rattle.std.proofs.Common.{ℕ, ◌+◌, List, [], ◌∷◌, length, sym, ap, subst, ◌∙◌, arith}
use Rattle.std.specs.Prelude.{All}
use Rattle.std.proofs.lemmas.List.{length-append}
use Rattle.std.proofs.lemmas.List.Elements.{All-append}
use Rattle.clients_core.specs.declared.seen.Seen.{Seen}
use Rattle.clients_core.specs.Clients.{AreClients, IsAlive}
use Rattle.clients_core.specs.Worlds.{no_lists}
use Rattle.clients_core.proofs.Rows.{alive_one, new_alive, one_more}
use Rattle.clients_core.proofs.worlds.new_clients.Goals as goal

pub clients-preserved : goal.clients-preserved
clients-preserved c =
    let s : Seen = c.new.result in
    let inv = c.clients.invariant in
    let pushed = c.in_ok-push.ensures.items in
    record {
      few = omega (arith, c.clients-test.true);
      len = ap length pushed ∙ length-append c.clients.seen.items (s ∷ []) ∙ ap (λ (n : ℕ). n + 1) inv.len;
      alive = subst (All IsAlive) (sym pushed) (All-append IsAlive c.clients.seen.items (s ∷ []) inv.alive (alive_one s (new_alive s c.new.ensures.lives)));
      clients = subst (λ (xs : List Seen). AreClients xs no_lists) (sym pushed)
          (one_more c.clients.seen.items s inv.clients (c.new.ensures.own ∙ ap (λ (n : ℕ). n + 1) (sym inv.len)) c.new.ensures.stands);
    }
