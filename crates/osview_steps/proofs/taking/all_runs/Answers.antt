use Rattle.std.proofs.Common.{◌∙◌, ◌+◌, ◌∷◌, [], ap, length, length-append, refl, subst, sym}
use Rattle.std.proofs.lemmas.Option.{slice_get_read}
use Rattle.os_code.specs.Codes.{parts_of}
use Rattle.osview_steps.specs.Taking.{HaveRun}
use Rattle.osview_steps.proofs.Took.{one_more_run}
use Rattle.osview_steps.proofs.taking.all_runs.Goals as goal

pub loop-place-preserved : goal.loop-place-preserved
loop-place-preserved c =
    let code = parts_of c.args.code.now in
    let activations = c.args.activations.now in
    let outcomes = c.args.outcomes.now in
    let place = c.loop-place.place in
    let many = c.loop-place.invariant.many in
    let push = c.in_ok-push.ensures.ok in
    let is = slice_get_read activations (length activations) place c.index-activations-place.result refl c.loop-place-test.true c.index-activations-place.is in
    let more = one_more_run code activations c.args.budget outcomes c.loop-place.runs place c.index-activations-place.result c.in_ok-run.run'
    c.loop-place.invariant.exact many is c.in_ok-run.ensures.task c.in_ok-run.ensures.took in
    record {
      many = ap length push ∙ length-append c.loop-place.runs (c.in_ok-run.run' ∷ []) ∙ ap (λ n. n + 1) many;
      exact = subst (HaveRun code activations c.args.budget outcomes) (sym push) more;
      made = c.run_of.ensures.made;
    }
