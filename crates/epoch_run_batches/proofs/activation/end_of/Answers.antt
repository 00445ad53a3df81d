use Rattle.std.proofs.Common.{◌≡◌, ◌∙◌, None, length, sum_by, sym, ap, subst}
use Rattle.std.specs.Vec.{with_items}
use Rattle.std.proofs.lemmas.List.{with_items_is}
use Rattle.stream_match_layouts.specs.Spans.{write_count}
use Rattle.epoch_run_batches.specs.Reads.{values_in}
use Rattle.epoch_run_batches.specs.Workload.{takes_from}
use Rattle.epoch_run_batches.proofs.Next.{comes_by_body, comes_poisoned, taken}
use Rattle.epoch_run_batches.proofs.activation.end_of.Goals as goal

pub returns-in-Some-clause-come : goal.returns-in-Some-clause-come
returns-in-Some-clause-come g c = comes_poisoned g.J.Meaning.run c.args.number c.args.spans.now c.requires.spans c.args.inputs.now c.requires.read c.in-Some.root _ c.in-Some.is

pub run-end-requires-clause-taken : goal.run-end-requires-clause-taken
run-end-requires-clause-taken g c =
    let workload = c.args.workload.now in
    let none : c.args.inputs.now.root ≡ None = c.in_default.is in
    let count : length c.as_mut_slice.result.now ≡ sum_by write_count c.args.spans.now = ap length c.as_mut_slice.ensures.value ∙ c.in_ok-fit.ensures ∙ c.written_count-count.ensures in
    subst (λ vs. g.B.LocalBodies.takes workload.bodies.now c.args.number (length vs) (length c.as_mut_slice.result.now)) (sym c.values.ensures)
    (taken g.J.Meaning.run c.args.number c.args.spans.now c.requires.spans (takes_from workload.first (g.B.LocalBodies.takes workload.bodies.now)) c.args.inputs.now (length c.as_mut_slice.result.now) c.requires.workload.serves c.requires.read none count c.requires.at_hand)

pub returns-clause-come : goal.returns-clause-come
returns-clause-come g c =
    let none : c.args.inputs.now.root ≡ None = c.in_default.is in
    let body = g.B.LocalBodies.outcome c.args.workload.now.bodies.now in
    let wrote = c.run-end.new.outputs in
    let values : c.values.result.now ≡ values_in c.args.inputs.now = c.values.ensures in
    let all : (with_items c.fit.new.into wrote).items ≡ wrote = with_items_is c.fit.new.into wrote (c.run-end.auto.outputs ∙ c.as_mut_slice.ensures.len) in
    comes_by_body g.J.Meaning.run c.args.number c.args.spans.now c.requires.spans c.args.inputs.now c.requires.read body c.run-end.result (with_items c.fit.new.into wrote).items none c.requires.workload.runs
    (◌∙◌ {b = (body c.args.number c.values.result.now).end} c.run-end.ensures.end (ap (λ vs. (body c.args.number vs).end) values))
    (λ done. ◌∙◌ {b = wrote} all (◌∙◌ {b = (body c.args.number c.values.result.now).outputs} (c.run-end.ensures.outputs done) (ap (λ vs. (body c.args.number vs).outputs) values)))
