use Rattle.std.proofs.Common.{length, arith}
use Rattle.flow_core_laws.specs.Plans.{plan_reads, plan_element, plan_meaning}
use Rattle.flow_core_laws.specs.Poisoning.{poisoning}
use Rattle.flow_core_laws.proofs.Rounds.{length-meaning}
use Rattle.flow_core.proofs.Running.{IsRun-opening, all_ended, ends_meant}
use Rattle.osview_outcomes.proofs.Ordering.{is_opened}
use Rattle.osview_outcomes.proofs.running.outcomes.Goals as goal

pub run_all-requires-clause-begins : goal.run_all-requires-clause-begins
run_all-requires-clause-begins g c = λ _ _. IsRun-opening _ _ _ c.in_ok-board.ensures.counted c.in_ok-board.ensures.filled c.in_ok-board.ensures.waiting

pub returns : goal.returns
returns g c =
    let plan = c.args.plan.now in
    let outcome = g.B.Bodies.outcome c.args.bodies.now in
    let run = c.in_ok-run_all.ensures.run in
    let all = all_ended plan outcome c.run_all.new.board _ c.requires.sound run (omega arith) in
    record {
      outcomes = record {
        ends = ends_meant plan (plan_meaning plan outcome) _ _ (length-meaning (plan_element plan) (plan_reads plan) (poisoning outcome) (length plan.frames)) run.shows all;
        outputs = λ f o is done. c.in_ok-run_all.ensures.kept.written f o (all f o is) is done;
      };
      inputs = record { inputs = λ f o is. c.in_ok-run_all.ensures.kept.read f (all f o is) };
      order = record {
        in_order = record {
          exist = λ k lt. let e = run.counted.opens_full.exist k lt in let n = run.counted.frames_of_plan in omega (arith, e, n);
          behind = λ k f lt waits. c.in_ok-run_all.ensures.behind.behind k f lt lt waits;
        };
        has_all = λ f o is. is_opened plan (plan_meaning plan outcome) c.run_all.new.board _ f run (all f o is);
      };
    }
