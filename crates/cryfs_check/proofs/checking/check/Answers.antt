use Rattle.std.proofs.Common.{◌≡◌, List, length, sym, ◌∙◌, ap, subst}
use Rattle.std.specs.Prelude.{T, Result, IfOk}
use Rattle.std.specs.FinMap.{is_sorted}
use Rattle.block_id.specs.declared.fail.Fail.{Fail}
use Rattle.block_id.specs.declared.id.BlockId.{BlockId}
use Rattle.check_rules.specs.store_outcome.Outcome.{Outcome}
use Rattle.check_rules.specs.store_api.Content.{Id, id_cmp}
use Rattle.check_rules.specs.data_nodes.Layout.{ids_of}
use Rattle.fs_model.specs.Tree.{Path}
use Rattle.check_rules.specs.check_walk.declared.flaw.Flaw.TheVariants.{Unowned}
use Rattle.check_rules.specs.check_walk.Given.{IsLoad}
use Rattle.check_rules.specs.check_walk.Marks.{MarkList, owner_of}
use Rattle.check_rules.proofs.check_walk_lemmas.Loading.{gave_by}
use Rattle.check_rules.specs.Certificates.{Certifies}
use Rattle.cryfs_check.specs.declared.checking.Checked.{Checked}
use Rattle.cryfs_check.specs.Checks.{ShowsSome, IsYes, OnNo, IsRefuted}
use Rattle.cryfs_check.specs.Halts.{IsStopped}
use Rattle.cryfs_check.specs.Places.{places_text}
use Rattle.cryfs_check.specs.Visits.{VisitedAll}
use Rattle.cryfs_check.proofs.Answering.{asks_stopped, asks_all, refuted, no_flaw, flaw_unowned, stop_outcome, stop_no}
use Rattle.cryfs_check.proofs.Certifying.{certified, none_owned}
use Rattle.cryfs_check.proofs.checking.check.Goals as goal

pub visit_all-requires-clause-unowned : goal.visit_all-requires-clause-unowned
visit_all-requires-clause-unowned g c q n e = none_owned c.args.live.now q n (ap (λ (m : MarkList). owner_of m q) (sym c.in-Ok.ensures) ∙ e)

pub returns-in-None-clause-yes : goal.returns-in-None-clause-yes
returns-in-None-clause-yes g c =
    let M = g.B.Blocks.meanings in
    let H = g.B.Blocks.holdings in
    let L = g.B.Blocks.loads in
    let payload = H.payload c.args.store.now in
    let root = c.args.root.now.0 in
    let live = c.args.live.now in
    let marks = c.visit_all.new.marks in
    let places = places_text c.visit_all.new.places.items in
    let wide : length root ≡ 16 = ap (λ (i : BlockId). length i.0) (sym c.copied-top.ensures.same) ∙ c.copied-top.ensures.wide in
    let visited = subst (λ (i : BlockId). VisitedAll (IsLoad M H L) payload i.0 c.args.store.now c.visit_all.new.store c.in-Ok.marks marks places) c.copied-top.ensures.same c.in-Ok-visit_all.ensures.visited in
    let all = subst (λ (m : MarkList). VisitedAll (IsLoad M H L) payload root c.args.store.now c.visit_all.new.store m marks places) c.in-Ok.ensures visited in
    let sorted = subst (λ (m : MarkList). T (is_sorted id_cmp m)) c.marks.view_is c.marks.invariant in
    let owners = certified payload root live marks places all wide sorted (sym c.in-None.ensures) in
    record {
      given = all.visited.given;
      gave = gave_by M H L c.args.store.now c.visit_all.new.store all.visited.given all.visited.gave;
      certifies = subst (λ (list : List (Id × Path)). Certifies payload root (ids_of live) all.visited.given list) (sym c.new-in-None.ensures) owners;
    }

pub returns-in-None-clause-asked : goal.returns-in-None-clause-asked
returns-in-None-clause-asked g c =
    let M = g.B.Blocks.meanings in
    let H = g.B.Blocks.holdings in
    let L = g.B.Blocks.loads in
    let a = c.args.store.now in
    let b = c.visit_all.new.store in
    let payload = H.payload a in
    let root = c.args.root.now.0 in
    let live = c.args.live.now in
    let marks = c.visit_all.new.marks in
    let places = places_text c.visit_all.new.places.items in
    let visited = subst (λ (i : BlockId). VisitedAll (IsLoad M H L) payload i.0 a b c.in-Ok.marks marks places) c.copied-top.ensures.same c.in-Ok-visit_all.ensures.visited in
    let all = subst (λ (m : MarkList). VisitedAll (IsLoad M H L) payload root a b m marks places) c.in-Ok.ensures visited in
    asks_all M H L payload root live a b marks places all

pub returns-in-Some-clause-asked : goal.returns-in-Some-clause-asked
returns-in-Some-clause-asked g c =
    let M = g.B.Blocks.meanings in
    let H = g.B.Blocks.holdings in
    let L = g.B.Blocks.loads in
    let a = c.args.store.now in
    let b = c.visit_all.new.store in
    let payload = H.payload a in
    let root = c.args.root.now.0 in
    let live = c.args.live.now in
    let marks = c.visit_all.new.marks in
    let places = places_text c.visit_all.new.places.items in
    let visited = subst (λ (i : BlockId). VisitedAll (IsLoad M H L) payload i.0 a b c.in-Ok.marks marks places) c.copied-top.ensures.same c.in-Ok-visit_all.ensures.visited in
    let all = subst (λ (m : MarkList). VisitedAll (IsLoad M H L) payload root a b m marks places) c.in-Ok.ensures visited in
    asks_all M H L payload root live a b marks places all

pub returns-in-Some-clause-no : goal.returns-in-Some-clause-no
returns-in-Some-clause-no g c =
    let M = g.B.Blocks.meanings in
    let H = g.B.Blocks.holdings in
    let L = g.B.Blocks.loads in
    let a = c.args.store.now in
    let b = c.visit_all.new.store in
    let payload = H.payload a in
    let root = c.args.root.now.0 in
    let live = c.args.live.now in
    let marks = c.visit_all.new.marks in
    let places = places_text c.visit_all.new.places.items in
    let visited = subst (λ (i : BlockId). VisitedAll (IsLoad M H L) payload i.0 a b c.in-Ok.marks marks places) c.copied-top.ensures.same c.in-Ok-visit_all.ensures.visited in
    let all = subst (λ (m : MarkList). VisitedAll (IsLoad M H L) payload root a b m marks places) c.in-Ok.ensures visited in
    let wide : length root ≡ 16 = ap (λ (i : BlockId). length i.0) (sym c.copied-top.ensures.same) ∙ c.copied-top.ensures.wide in
    let sorted = subst (λ (m : MarkList). T (is_sorted id_cmp m)) c.marks.view_is c.marks.invariant in
    let flawed = flaw_unowned M H L payload root live a b c.requires.lists.live marks places all wide sorted c.in-Some.id (sym c.in-Some.ensures) in
    refuted M H L payload root live a b c.requires.lists.live (Unowned c.in-Some.id) flawed

pub returns-in-Some-clause-outcome : goal.returns-in-Some-clause-outcome
returns-in-Some-clause-outcome g c =
    let M = g.B.Blocks.meanings in
    let H = g.B.Blocks.holdings in
    let L = g.B.Blocks.loads in
    let a = c.args.store.now in
    let b = c.visit_all.new.store in
    let payload = H.payload a in
    let root = c.args.root.now.0 in
    let live = c.args.live.now in
    let marks = c.visit_all.new.marks in
    let places = places_text c.visit_all.new.places.items in
    let visited = subst (λ (i : BlockId). VisitedAll (IsLoad M H L) payload i.0 a b c.in-Ok.marks marks places) c.copied-top.ensures.same c.in-Ok-visit_all.ensures.visited in
    let all = subst (λ (m : MarkList). VisitedAll (IsLoad M H L) payload root a b m marks places) c.in-Ok.ensures visited in
    let wide : length root ≡ 16 = ap (λ (i : BlockId). length i.0) (sym c.copied-top.ensures.same) ∙ c.copied-top.ensures.wide in
    let sorted = subst (λ (m : MarkList). T (is_sorted id_cmp m)) c.marks.view_is c.marks.invariant in
    let flawed = flaw_unowned M H L payload root live a b c.requires.lists.live marks places all wide sorted c.in-Some.id (sym c.in-Some.ensures) in
    no_flaw M H L payload root live a b c.requires.lists.live g.met.B.Blocks.lawful g.met.B.Blocks.steady (Unowned c.in-Some.id) flawed c.in-Ok-visit_all.ensures.outcome

pub returns-in-Err-visit_all-clause-asked : goal.returns-in-Err-visit_all-clause-asked
returns-in-Err-visit_all-clause-asked g c =
    let M = g.B.Blocks.meanings in
    let H = g.B.Blocks.holdings in
    let L = g.B.Blocks.loads in
    let a = c.args.store.now in
    let b = c.visit_all.new.store in
    let payload = H.payload a in
    let root = c.args.root.now.0 in
    let live = c.args.live.now in
    let halt = c.in-Err-visit_all.halt in
    let held = H.content a in
    let at = subst (λ (i : BlockId). IsStopped (IsLoad M H L) payload i.0 held a b c.in-Ok.marks halt) c.copied-top.ensures.same c.in-Err-visit_all.ensures.stopped in
    let stopped = subst (λ (m : MarkList). IsStopped (IsLoad M H L) payload root held a b m halt) c.in-Ok.ensures at in
    asks_stopped M H L payload root live a b held halt stopped

pub returns-in-Err-visit_all-clause-outcome : goal.returns-in-Err-visit_all-clause-outcome
returns-in-Err-visit_all-clause-outcome g c =
    let M = g.B.Blocks.meanings in
    let H = g.B.Blocks.holdings in
    let L = g.B.Blocks.loads in
    let a = c.args.store.now in
    let b = c.visit_all.new.store in
    let payload = H.payload a in
    let root = c.args.root.now.0 in
    let live = c.args.live.now in
    let halt = c.in-Err-visit_all.halt in
    let held = H.content a in
    let at = subst (λ (i : BlockId). IsStopped (IsLoad M H L) payload i.0 held a b c.in-Ok.marks halt) c.copied-top.ensures.same c.in-Err-visit_all.ensures.stopped in
    let stopped = subst (λ (m : MarkList). IsStopped (IsLoad M H L) payload root held a b m halt) c.in-Ok.ensures at in
    subst (λ (r : Result Checked Fail). Outcome M (ShowsSome payload root held) a b r (λ n checked. IsYes checked)) (sym c.answer.ensures)
    (stop_outcome M H L payload root live a b c.requires.lists.live g.met.B.Blocks.lawful g.met.B.Blocks.steady halt stopped c.in-Err-visit_all.ensures.outcome)

pub returns-in-Err-visit_all-clause-no : goal.returns-in-Err-visit_all-clause-no
returns-in-Err-visit_all-clause-no g c =
    let M = g.B.Blocks.meanings in
    let H = g.B.Blocks.holdings in
    let L = g.B.Blocks.loads in
    let a = c.args.store.now in
    let b = c.visit_all.new.store in
    let payload = H.payload a in
    let root = c.args.root.now.0 in
    let live = c.args.live.now in
    let halt = c.in-Err-visit_all.halt in
    let held = H.content a in
    let at = subst (λ (i : BlockId). IsStopped (IsLoad M H L) payload i.0 held a b c.in-Ok.marks halt) c.copied-top.ensures.same c.in-Err-visit_all.ensures.stopped in
    let stopped = subst (λ (m : MarkList). IsStopped (IsLoad M H L) payload root held a b m halt) c.in-Ok.ensures at in
    subst (λ (r : Result Checked Fail). IfOk r (λ checked. OnNo checked (IsRefuted L payload root (ids_of live) a b))) (sym c.answer.ensures)
    (stop_no M H L payload root live a b c.requires.lists.live halt stopped)
