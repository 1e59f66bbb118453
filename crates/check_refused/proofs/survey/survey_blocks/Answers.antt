use Rattle.std.proofs.Common.{◌≡◌, ◌∙◌, map, get_or, List, [], ap, sym, subst}
use Rattle.std.specs.Prelude.{Ok}
use Rattle.block_id.specs.declared.id.BlockId.{BlockId}
use Rattle.check_refused.specs.Surveys.{Counts, IsSurvey, Loss, refusals, ungiven_of}
use Rattle.check_refused.proofs.Surveying.{among, calm_more, calm_none, count_more, count_none, on_err, survey_none, survey_more, survey_cut, surveys_none, surveys_then}
use Rattle.check_refused.proofs.survey.survey_blocks.Goals as goal

pub loop-id-init : goal.loop-id-init
loop-id-init g c =
    let store = c.args.store.now in
    let none : [] ≡ map ungiven_of c.args.ungiven.now.items = sym (ap (map ungiven_of) c.requires.none) in
    let faults = g.B.Blocks.meanings.faults store in
    record {
      surveys = surveys_none g.met.B.Blocks.lawful store c.requires.intact;
      survey = subst (λ (us : List Loss). IsSurvey g.B.Blocks.loads [] store store us) none (survey_none store);
      counts = subst (λ (us : List Loss). Counts faults faults us (Ok tt)) none (count_none faults);
      calm = λ sound honest. subst (λ (us : List Loss). refusals us ≡ 0) none calm_none;
    }

pub survey_next-requires-clause-live : goal.survey_next-requires-clause-live
survey_next-requires-clause-live g c =
    let live = c.args.live.now in
    let i = c.loop-id.id-index in
    let child : BlockId = get_or live i (record { 0 = [] }) in
    c.loop-id.invariant.surveys.stays.ids child.0 ∙ c.requires.live child.0 (among live i (record { 0 = [] }) c.loop-id-test.true)

pub loop-id-preserved : goal.loop-id-preserved
loop-id-preserved g c =
    let inv = c.loop-id.invariant in
    let live = c.args.live.now in
    let i = c.loop-id.id-index in
    let none : BlockId = record { 0 = [] } in
    let id = (get_or live i none).0 in
    let start = c.args.store.now in
    let before = map ungiven_of c.loop-id.ungiven.items in
    let now = map ungiven_of c.survey_next.new.ungiven.items in
    let later = c.in_ok-survey_next.ensures.surveys in
    let asked = c.in_ok-survey_next.ensures.asked in
    record {
      surveys = surveys_then g.met.B.Blocks.lawful inv.surveys later;
      survey = survey_more live i none start c.loop-id.store c.survey_next.new.store before asked.answer c.loop-id-test.true inv.survey asked.load now asked.noted;
      counts = count_more g.met.B.Blocks.lawful start c.loop-id.store c.survey_next.new.store id before now inv.surveys later inv.counts asked.answer asked.answered asked.noted;
      calm = calm_more g.met.B.Blocks.lawful start c.loop-id.store c.survey_next.new.store id before now inv.surveys later inv.counts asked.answer asked.answered inv.calm asked.noted;
    }

pub returns-in_err-survey_next-clause-surveys : goal.returns-in_err-survey_next-clause-surveys
returns-in_err-survey_next-clause-surveys g c = surveys_then g.met.B.Blocks.lawful c.loop-id.invariant.surveys c.in_err-survey_next.ensures.surveys

pub returns-in_err-survey_next-clause-cut : goal.returns-in_err-survey_next-clause-cut
returns-in_err-survey_next-clause-cut g c =
    let live = c.args.live.now in
    let i = c.loop-id.id-index in
    let asked = c.in_err-survey_next.ensures.asked in
    on_err c.from_residual.result
    (survey_cut live i (record { 0 = [] }) c.args.store.now c.loop-id.store c.survey_next.new.store (map ungiven_of c.loop-id.ungiven.items) asked.answer c.loop-id-test.true c.loop-id.invariant.survey asked.load (map ungiven_of c.survey_next.new.ungiven.items) asked.left)
