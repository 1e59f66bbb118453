use Rattle.std.proofs.Common.{◌≡◌, [], subst, sym, refl, inl, inr, length}
use Rattle.std.specs.Prelude.{Ok, Err, Some, None, IfSome, is_some}
use Rattle.std.specs.Option.{option_map}
use Rattle.outside.specs.View.{bytes_of}
use Rattle.data_tree.specs.data_nodes.Layout.{NodeText, node_of, IsNode}
use Rattle.check_walk.specs.Given.{IsLoad}
use Rattle.check_walk.proofs.Halting.{halted_none, halted_one}
use Rattle.check_walk.proofs.Loading.{load_ok, load_err}
use Rattle.check_walk.proofs.Walking.{walked_node}
use Rattle.check_walk.proofs.walk.load_node.Goals as goal

pub returns-in-Ok-Some-read_node-clause-walked : goal.returns-in-Ok-Some-read_node-clause-walked
returns-in-Ok-Some-read_node-clause-walked g c f =
    let payload = g.B.Blocks.holdings.payload c.args.store.now in
    let text = c.in-Ok-Some.payload.items in
    let node = node_of c.in-Ok-Some-read_node.node in
    let id = c.args.id.now.0 in
    let load = subst (λ z. IsLoad g.B.Blocks.meanings g.B.Blocks.holdings g.B.Blocks.loads c.args.store.now c.load.new.self id (Ok (bytes_of z))) c.in-Ok-Some.field-0-is
    (load_ok c.in-Ok-Some.field-0 c.in-Ok-Some.ensures.loads c.in-Ok-Some.ensures.outcome c.load.ensures.stays) in
    let sized : length text ≡ payload = subst (λ z. IfSome z (λ bytes. length bytes.items ≡ payload)) c.in-Ok-Some.field-0-is c.in-Ok-Some.ensures.sized in
    let read : IsNode c.deref.result.now node = subst (λ z. IfSome z (λ n. IsNode c.deref.result.now (node_of n))) c.in-Ok-Some-read_node.field-0-is c.in-Ok-Some-read_node.ensures.found in
    let is : IsNode text node = subst (λ w. IsNode w node) c.deref.ensures.value read in
    walked_node f payload id text node c.in-First.ensures load is sized

pub returns-in-Twice-clause-halted : goal.returns-in-Twice-clause-halted
returns-in-Twice-clause-halted g c need = halted_none c.in-Twice.ensures.0 (λ C. record { way = []; need = need; reached = (refl, refl); again = inl c.in-Twice.ensures.1 })

pub returns-in-NotLive-clause-halted : goal.returns-in-NotLive-clause-halted
returns-in-NotLive-clause-halted g c need = halted_none c.in-NotLive.ensures.0 (λ C. record { way = []; need = need; reached = (refl, refl); absent = inl c.in-NotLive.ensures.1 })

pub returns-in-Ok-None-clause-halted : goal.returns-in-Ok-None-clause-halted
returns-in-Ok-None-clause-halted g c need =
    let id = c.args.id.now.0 in
    let load = subst (λ z. IsLoad g.B.Blocks.meanings g.B.Blocks.holdings g.B.Blocks.loads c.args.store.now c.load.new.self id (Ok (bytes_of z))) c.in-Ok-None.field-0-is
    (load_ok c.in-Ok-None.field-0 c.in-Ok-None.ensures.loads c.in-Ok-None.ensures.outcome c.load.ensures.stays) in
    let none = subst (λ z. is_some z ≡ is_some (g.B.Blocks.holdings.content c.args.store.now id)) c.in-Ok-None.field-0-is c.in-Ok-None.ensures.none in
    halted_one id (Ok None) c.in-First.ensures load (λ C agrees. record { way = []; need = need; reached = (refl, refl); absent = inr (sym none) })

pub returns-in-Err-clause-halted : goal.returns-in-Err-clause-halted
returns-in-Err-clause-halted g c need = halted_one c.args.id.now.0 (Err c.in-Err.fail) c.in-First.ensures (load_err c.in-Err.fail c.in-Err.ensures.loads c.in-Err.ensures.outcome c.load.ensures.stays) (λ C agrees. tt)

pub returns-in-Ok-None-read_node-clause-halted : goal.returns-in-Ok-None-read_node-clause-halted
returns-in-Ok-None-read_node-clause-halted g c need =
    let text = c.in-Ok-Some.payload.items in
    let id = c.args.id.now.0 in
    let load = subst (λ z. IsLoad g.B.Blocks.meanings g.B.Blocks.holdings g.B.Blocks.loads c.args.store.now c.load.new.self id (Ok (bytes_of z))) c.in-Ok-Some.field-0-is
    (load_ok c.in-Ok-Some.field-0 c.in-Ok-Some.ensures.loads c.in-Ok-Some.ensures.outcome c.load.ensures.stays) in
    let only = subst (λ z. (node : NodeText) → IsNode c.deref.result.now node → option_map node_of z ≡ Some node) c.in-Ok-None-read_node.field-0-is c.in-Ok-None-read_node.ensures.only in
    halted_one id (Ok (Some text)) c.in-First.ensures load
    (λ C agrees. record {
      way = [];
      need = need;
      reached = (refl, refl);
      text = text;
      there = agrees.0;
      unfit = λ s. let found : None ≡ Some s.node = only s.node (subst (λ w. IsNode w s.node) (sym c.deref.ensures.value) s.is) in absurd (cc);
    })

pub returns-clause-halted : goal.returns-clause-halted
returns-clause-halted g c need =
    let id = c.args.id.now.0 in
    let load = subst (λ z. IsLoad g.B.Blocks.meanings g.B.Blocks.holdings g.B.Blocks.loads c.args.store.now c.load.new.self id (Ok (bytes_of z))) c.in-Ok-Some.field-0-is
    (load_ok c.in-Ok-Some.field-0 c.in-Ok-Some.ensures.loads c.in-Ok-Some.ensures.outcome c.load.ensures.stays) in
    halted_one id (Ok (Some c.in-Ok-Some.payload.items)) c.in-First.ensures load (λ C agrees. tt)
