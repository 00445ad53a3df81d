use Rattle.std.proofs.Common.{◌≡◌, ◌∙◌, length, sum_by, sym, ap, arith}
use Rattle.epoch_run_in_order.specs.Reading.{AreRead, covered_by}
use Rattle.epoch_run_in_order.specs.Writing.{HaveOutputs}
use Rattle.flow_core_laws.specs.Outcome.{root_of}
use Rattle.os_code.specs.Codes.{parts_of}
use Rattle.stream_match_layouts.specs.Spans.{write_count}
use Rattle.epoch_run_in_order.proofs.Next.{next_have, next_inputs, next_outputs, next_stands}
use Rattle.epoch_run_in_order.proofs.NextApart.{next_stands_apart}
use Rattle.epoch_run_in_order.proofs.NextReads.{values_count}
use Rattle.epoch_run_in_order.proofs.NextWrites.{length-with_spans}
use Rattle.epoch_run_in_order.proofs.in_order.InOrder.run_next.Goals as goal

pub end_of-requires-clause-inputs : goal.end_of-requires-clause-inputs
end_of-requires-clause-inputs c = λ none.
    let cells = covered_by c.args.self.now.streams c.args.input.now c.args.spans.now in
    let read : AreRead cells c.read_all.new.self = rw c.in-Some.is at c.in_ok-read.ensures.read in
    values_count cells c.read_all.new.self read none ∙ next_inputs c.args.self.now.streams c.args.input.now c.args.number c.args.activation.now c.args.spans.now c.requires.next

pub end_of-requires-clause-count : goal.end_of-requires-clause-count
end_of-requires-clause-count c =
    let counted : c.in-Some.written ≡ sum_by write_count c.args.spans.now = rw c.in-Some.is at c.in_ok-read.ensures.written in
    counted ∙ next_outputs c.args.number c.args.activation.now c.args.spans.now c.requires.next

pub write_all-requires-clause-outputs : goal.write_all-requires-clause-outputs
write_all-requires-clause-outputs c =
    let counted : c.in-Some.written ≡ sum_by write_count c.args.spans.now = rw c.in-Some.is at c.in_ok-read.ensures.written in
    next_have c.args.number c.args.activation.now c.args.spans.now c.requires.next c.in_ok-end.end c.root-root.result c.as_slice.result.now c.root-root.ensures
    (λ done. ap length c.as_slice.ensures.value ∙ c.in_ok-end.ensures.room done ∙ counted ∙ next_outputs c.args.number c.args.activation.now c.args.spans.now c.requires.next)

pub returns-clause-ready : goal.returns-clause-ready
returns-clause-ready c = record {
  scratch = c.in_ok-end.ensures.made;
  streams = ap length c.in_ok-write_all.ensures.elements ∙ length-with_spans c.root-root.result c.as_slice.result.now c.args.self.now.streams.elements c.args.spans.now ∙ c.requires.ready.streams;
  firsts = ap length c.in_ok-write_all.ensures.firsts ∙ c.requires.ready.firsts;
}

pub returns-clause-ran : goal.returns-clause-ran
returns-clause-ran c = λ _ all before number_is at spans_are stands.
    let read : AreRead (covered_by c.args.self.now.streams c.args.input.now c.args.spans.now) c.read_all.new.self = rw c.in-Some.is at c.in_ok-read.ensures.read in
    next_stands (parts_of c.args.code.now) all before c.args.activation.now c.args.input.now c.args.budget c.args.self.now _ c.read_all.new.self c.in_ok-end.end c.root-root.result c.as_slice.result.now c.args.spans.now at spans_are
    (λ k d lt. omega (arith, c.requires.exist k d lt, c.requires.ready.streams)) stands read
    (c.in_ok-end.ensures.end read.elements read.root_is read.values_are)
    (λ done. c.as_slice.ensures.value ∙ c.in_ok-end.ensures.outputs done read.elements read.root_is read.values_are)
    (c.root-root.ensures ∙ ap (λ n. root_of n c.in_ok-end.end) (sym number_is)) c.in_ok-push.ensures.ok c.in_ok-write_all.ensures.elements c.in_ok-write_all.ensures.firsts

pub returns-clause-ran_apart : goal.returns-clause-ran_apart
returns-clause-ran_apart c = λ _ all before from number_is at spans_are stands.
    let read : AreRead (covered_by c.args.self.now.streams c.args.input.now c.args.spans.now) c.read_all.new.self = rw c.in-Some.is at c.in_ok-read.ensures.read in
    let counted : c.in-Some.written ≡ sum_by write_count c.args.spans.now = rw c.in-Some.is at c.in_ok-read.ensures.written in
    let have : HaveOutputs c.root-root.result c.as_slice.result.now c.args.spans.now =
    next_have c.args.number c.args.activation.now c.args.spans.now c.requires.next c.in_ok-end.end c.root-root.result c.as_slice.result.now c.root-root.ensures
    (λ done. ap length c.as_slice.ensures.value ∙ c.in_ok-end.ensures.room done ∙ counted ∙ next_outputs c.args.number c.args.activation.now c.args.spans.now c.requires.next) in
    next_stands_apart c.apart_and_joined.ensures.goes_on c.apart_and_joined.ensures.written
    (parts_of c.args.code.now) all before from c.args.activation.now c.args.input.now c.args.budget c.args.self.now _ c.read_all.new.self c.in_ok-end.end c.root-root.result c.as_slice.result.now c.args.spans.now at spans_are
    (λ k d lt. omega (arith, c.requires.exist k d lt, c.requires.ready.streams)) have stands read
    (c.in_ok-end.ensures.end read.elements read.root_is read.values_are)
    (λ done. c.as_slice.ensures.value ∙ c.in_ok-end.ensures.outputs done read.elements read.root_is read.values_are)
    (c.root-root.ensures ∙ ap (λ n. root_of n c.in_ok-end.end) (sym number_is)) c.in_ok-push.ensures.ok c.in_ok-write_all.ensures.elements c.in_ok-write_all.ensures.firsts
