use Rattle.std.proofs.Common.{◌≡◌, ◌∙◌, ◌<◌, ℕ, List, None, ap, arith, get_or, length, replicate, subst, sym}
use Rattle.std.specs.Prelude.{fold}
use Rattle.std.proofs.lemmas.List.{length-replicate, length-set, take_all}
use Rattle.std.proofs.lemmas.List.Sums.{fold_more}
use Rattle.os_io.proofs.Repeated.{get_or-repeated}
use Rattle.osview_steps.specs.Counting.{IsSmall, nothing_counted}
use Rattle.osview_steps.specs.declared.runs.TaskRun.{TaskRun}
use Rattle.osview_steps.specs.declared.tally.Tally.{Tally}
use Rattle.osview_steps.proofs.Counting.{at_task, is_tally, small_step, step}
use Rattle.osview_steps.proofs.tally.tallies.Goals as goal

pub loop-run-init : goal.loop-run-init
loop-run-init c =
    let tallies = c.in_ok-tallies.tallies in
    let are : tallies ≡ replicate c.args.tasks nothing_counted = c.in_ok-tallies.ensures ∙ ap (λ (x : Tally). replicate c.args.tasks x) c.nothing.ensures in
    let nothing = λ (t : ℕ). ap (λ (xs : List Tally). get_or xs t nothing_counted) are ∙ get_or-repeated c.args.tasks t nothing_counted in
    record {
      many = ap length are ∙ length-replicate c.args.tasks nothing_counted;
      so_far = nothing;
      small = λ t. subst (λ (x : Tally). IsSmall 0 x) (sym (nothing t)) (record { activations = omega arith; ran = omega arith; sum = omega arith });
    }

pub loop-run-preserved : goal.loop-run-preserved
loop-run-preserved c =
    let old = c.loop-run.tallies in
    let runs = c.args.runs.now in
    let i = c.loop-run.run-index in
    let d : TaskRun = record { task = 0; took = None } in
    let run : TaskRun = get_or runs i d in
    let lt : i < length runs = omega arith in
    let inside = c.requires.tasks i d lt in
    let many = c.loop-run.invariant.many in
    let here = at_task old c.count.new.tallies run (omega (arith, inside, many)) c.count.ensures.counted in
    record {
      many = ap length c.count.ensures.counted ∙ length-set old _ _ ∙ many;
      so_far = λ t. here t ∙ ap (λ (x : Tally). step t x run) (c.loop-run.invariant.so_far t) ∙ sym (fold_more (step t) nothing_counted runs i d lt);
      small = λ t. small_step i t old c.count.new.tallies run (here t) (c.count.ensures.small i) (c.loop-run.invariant.small t);
    }

pub returns-clause-exact : goal.returns-clause-exact
returns-clause-exact c = λ t lt.
    let past = take_all c.loop-run.run-index c.args.runs.now (omega arith) in
    is_tally t c.args.runs.now (get_or c.loop-run.tallies t nothing_counted) (c.loop-run.invariant.so_far t ∙ ap (fold (step t) nothing_counted) past)
