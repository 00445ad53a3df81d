use Rattle.std.proofs.Common.{◌≡◌, ◌+◌, ◌∷◌, ◌++◌, ◌∙◌, [], List, Some, length, map, get_or, take, sym, ap, subst, arith}
use Rattle.std.specs.Prelude.{slice_get, true}
use Rattle.std.proofs.lemmas.Grind.{common_steps}
use Rattle.std.proofs.lemmas.List.{length-take-le}
use Rattle.std.proofs.lemmas.Option.{slice_get_within}
use Rattle.flow_core_laws.specs.declared.activation.Activation.{Activation}
use Rattle.flow_core_laws.specs.Window.{windows_of}
use Rattle.os_code.specs.Codes.{parts_of}
use Rattle.stream_match_layouts.specs.declared.span.Span.{Span}
use Rattle.stream_match_layouts.specs.Layout.{span_of}
use Rattle.stream_match_layouts.specs.Spans.{spans_of}
use Rattle.stream_match_layouts.proofs.Sums.{frames_bound}
use Rattle.epoch_run_in_order.specs.Standing.{AreLast, AreNext, StandsBehind}
use Rattle.epoch_run_in_order.proofs.Last.{are_next, is_frame, next_spans, next_there, prefix_there, streams_exist, take_next}
use Rattle.epoch_run_in_order.proofs.Next.{no_activation}
use Rattle.epoch_run_in_order.proofs.in_order.InOrder.run_all.Goals as goal

pub overflow_cast-count : goal.overflow_cast-count
overflow_cast-count g c =
    let last : AreLast c.args.code.now c.args.layout.now c.len-first.result c.args.activations.now = subst (λ n. AreLast c.args.code.now c.args.layout.now n c.args.activations.now) (sym c.len-first.ensures) c.requires.last in
    omega (arith, is_frame c.args.code.now c.args.layout.now c.len-first.result c.args.activations.now last c.running.count c.running-test.true, frames_bound c.args.layout.now last.whole)

pub overflow_add-number : goal.overflow_add-number
overflow_add-number g c =
    let last : AreLast c.args.code.now c.args.layout.now c.len-first.result c.args.activations.now = subst (λ n. AreLast c.args.code.now c.args.layout.now n c.args.activations.now) (sym c.len-first.ensures) c.requires.last in
    omega (arith, is_frame c.args.code.now c.args.layout.now c.len-first.result c.args.activations.now last c.running.count c.running-test.true, frames_bound c.args.layout.now last.whole)

pub overflow_cast-number : goal.overflow_cast-number
overflow_cast-number g c =
    let last : AreLast c.args.code.now c.args.layout.now c.len-first.result c.args.activations.now = subst (λ n. AreLast c.args.code.now c.args.layout.now n c.args.activations.now) (sym c.len-first.ensures) c.requires.last in
    omega (arith, is_frame c.args.code.now c.args.layout.now c.len-first.result c.args.activations.now last c.running.count c.running-test.true, frames_bound c.args.layout.now last.whole)

pub spans_of-spans-requires-clause-exists : goal.spans_of-spans-requires-clause-exists
spans_of-spans-requires-clause-exists g c =
    let last : AreLast c.args.code.now c.args.layout.now c.len-first.result c.args.activations.now = subst (λ n. AreLast c.args.code.now c.args.layout.now n c.args.activations.now) (sym c.len-first.ensures) c.requires.last in
    is_frame c.args.code.now c.args.layout.now c.len-first.result c.args.activations.now last c.running.count c.running-test.true

pub run_next-requires-clause-next : goal.run_next-requires-clause-next
run_next-requires-clause-next g c =
    let last : AreLast c.args.code.now c.args.layout.now c.len-first.result c.args.activations.now = subst (λ n. AreLast c.args.code.now c.args.layout.now n c.args.activations.now) (sym c.len-first.ensures) c.requires.last in
    let next = are_next c.args.code.now c.args.layout.now c.len-first.result c.args.activations.now last c.running.count no_activation c.running-test.true in
    let x_is : get_or c.args.activations.now c.running.count no_activation ≡ c.index-activations-count.result = first_of (cc, grind (arith, common_steps)) in
    subst (λ (ss : List Span). AreNext (c.len-first.result + c.running.count) c.index-activations-count.result ss) (sym c.spans_of-spans.ensures)
    (subst (λ (x : Activation). AreNext (c.len-first.result + c.running.count) x (spans_of c.args.layout.now (c.len-first.result + c.running.count))) x_is next)

pub run_next-requires-clause-exist : goal.run_next-requires-clause-exist
run_next-requires-clause-exist g c = λ k d lt.
    let last : AreLast c.args.code.now c.args.layout.now c.len-first.result c.args.activations.now = subst (λ n. AreLast c.args.code.now c.args.layout.now n c.args.activations.now) (sym c.len-first.ensures) c.requires.last in
    let same = c.spans_of-spans.ensures in
    let h = streams_exist c.args.code.now c.args.layout.now c.len-first.result c.args.activations.now last c.running.count k d c.running-test.true (omega (arith, lt, ap length same)) in
    let e = ap (λ (ss : List Span). (get_or ss k d).stream) same in
    omega (arith, h, e)

pub running-preserved : goal.running-preserved
running-preserved g c =
    let first = c.len-first.result in
    let count = c.running.count in
    let activations = c.args.activations.now in
    let ran : c.in_ok-ran.ran ≡ true = cc in
    let x_is : get_or activations count no_activation ≡ c.index-activations-count.result = first_of (cc, grind (arith, common_steps)) in
    record {
      ready = c.in_ok-ran.ensures.ready;
      within = omega (arith, c.running-test.true);
      begun_at = c.running.invariant.begun_at;
      have_run = omega (arith, c.in_ok-ran.ensures.count ran, c.running.invariant.have_run);
      stands = λ all given is begins are before.
          let n = first + count in
          let at : slice_get given n ≡ Some c.index-activations-count.result = next_there given activations first count no_activation are c.running-test.true ∙ ap Some x_is in
          let size : length (take n given) ≡ n = length-take-le n given (let lt = slice_get_within given n c.index-activations-count.result at in omega arith) in
          let spans = c.spans_of-spans.ensures ∙ next_spans c.args.layout.now given n c.index-activations-count.result is at ∙ ap (λ m. map span_of (windows_of (take n given ++ c.index-activations-count.result ∷ []) m)) (sym size) in
          let step = c.in_ok-ran.ensures.ran ran all (take n given) size (ap (slice_get all) size ∙ prefix_there all given n c.index-activations-count.result begins at) spans (c.running.invariant.stands all given is begins are before) in
          subst (λ xs. StandsBehind (parts_of c.args.code.now) all xs c.args.input.now c.args.budget c.run_next.new.self) (sym (ap (λ m. take m given) (let e : first + (count + 1) ≡ first + count + 1 = omega arith in e) ∙ take_next given n c.index-activations-count.result at)) step;
    }
