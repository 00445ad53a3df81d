use Rattle.std.proofs.Common.{◌≡◌, None, length, ap, sym, ◌∙◌, arith}
use Rattle.std.proofs.lemmas.List.{length-map}
use Rattle.flow_core_laws.specs.declared.plan.FramePlan.{FramePlan}
use Rattle.flow_core_laws.specs.Poisoning.{poisoning}
use Rattle.flow_core_laws.specs.Plans.{plan_reads, plan_element, plan_meaning}
use Rattle.flow_core_laws.proofs.Rounds.{length-meaning}
use Rattle.flow_core.proofs.Running.{IsRun-opening, all_ended, ends_meant, sink_meant, sink_fits}
use Rattle.task_workers.proofs.SinkCells.{length-slice_range}
use Rattle.task_workers.proofs.by_rounds.execute_alone.Goals as goal

pub run_alone-requires-clause-begins : goal.run_alone-requires-clause-begins
run_alone-requires-clause-begins g c = λ _ _. IsRun-opening _ _ _ c.in_ok-board.ensures.counted c.in_ok-board.ensures.filled c.in_ok-board.ensures.waiting

pub close-requires : goal.close-requires
close-requires g c = sink_fits _ _ _ c.requires.sound c.in_ok-board.ensures.counted

pub collect-ends-requires-clause-exists : goal.collect-ends-requires-clause-exists
collect-ends-requires-clause-exists g c = sink_fits _ _ _ c.requires.sound c.in_ok-run_alone.ensures.counted

pub collect-ends-requires-clause-ends : goal.collect-ends-requires-clause-ends
collect-ends-requires-clause-ends g c =
    let plan = c.args.plan.now in
    let before : length c.in_ok-board.board.ends.items ≡ length plan.frames = ap length c.in_ok-board.ensures.waiting ∙ length-map plan.frames (λ (f : FramePlan). None) in
    ap length c.in_ok-opening.ensures.ends ∙ before ∙ sym c.in_ok-run_alone.ensures.shows.ends_of_plan

pub collect-ends-requires-clause-output : goal.collect-ends-requires-clause-output
collect-ends-requires-clause-output g c =
    let sink = c.args.plan.now.sink in
    ap length c.in_ok-opening.ensures.output
    ∙ length-slice_range c.in_ok-board.board.cells.items sink.cell sink.inputs (sink_fits _ _ _ c.requires.sound c.in_ok-board.ensures.counted)

pub returns-clause-ends : goal.returns-clause-ends
returns-clause-ends g c =
    let plan = c.args.plan.now in
    let outcome = g.B.Bodies.outcome c.args.bodies.now in
    let run = c.in_ok-run_alone.ensures in
    let all = all_ended plan outcome c.run_alone.new.board _ c.requires.sound run (omega arith) in
    c.collect-ends.ensures.ends ∙ ends_meant plan (plan_meaning plan outcome) _ _ (length-meaning (plan_element plan) (plan_reads plan) (poisoning outcome) (length plan.frames)) run.shows all

pub returns-clause-output : goal.returns-clause-output
returns-clause-output g c =
    let plan = c.args.plan.now in
    let outcome = g.B.Bodies.outcome c.args.bodies.now in
    let run = c.in_ok-run_alone.ensures in
    let all = all_ended plan outcome c.run_alone.new.board _ c.requires.sound run (omega arith) in
    c.collect-ends.ensures.output ∙ sink_meant plan (plan_meaning plan outcome) _ _ _ c.requires.sound run.counted run.shows all
