use Rattle.std.proofs.Common.{◌≡◌, ◌∙◌, ◌-◌, ◌+◌, ℕ, Bool, arith, ap, sym}
use Rattle.std.specs.List.{list_any, range_with_len}
use Rattle.flow_core_laws.specs.declared.place.Place.{Place}
use Rattle.wait_certs.specs.Searching.{is_produced_by}
use Rattle.wait_certs.proofs.Reading.{any-map, of_reader, of_writer, position_fails, position_passes}
use Rattle.wait_certs.proofs.awaiting.reads.Goals as goal

pub returns-then-span : goal.returns-then-span
returns-then-span c = λ activations of. sym (of_writer (is_produced_by activations c.args.writer) c.args.span c.if-span.true)

pub loop-position-init : goal.loop-position-init
loop-position-init c = λ activations of.
    let span = c.args.span in
    let test : Place → Bool = is_produced_by activations c.args.writer in
    let count : span.count ≡ (span.first + span.count) - span.first = omega arith in
    of_reader test span c.if-span.false
    ∙ any-map test (λ position. record { stream = span.stream; position = position }) (range_with_len span.first span.count)
    ∙ ap (λ n. list_any (λ position. test (record { stream = span.stream; position = position })) (range_with_len span.first n)) (omega (arith, c.from.ensures))

pub returns-then-is_written_by : goal.returns-then-is_written_by
returns-then-is_written_by c = λ activations of.
    let span = c.args.span in
    let test : ℕ → Bool = λ position. is_produced_by activations c.args.writer (record { stream = span.stream; position = position }) in
    sym (c.loop-position.invariant activations of
    ∙ position_passes test c.loop-position.position _ c.loop-position-test.true (sym (c.is_written_by.ensures activations of) ∙ c.if-is_written_by.true))

pub loop-position-preserved : goal.loop-position-preserved
loop-position-preserved c = λ activations of.
    let span = c.args.span in
    let test : ℕ → Bool = λ position. is_produced_by activations c.args.writer (record { stream = span.stream; position = position }) in
    c.loop-position.invariant activations of
    ∙ position_fails test c.loop-position.position _ c.loop-position-test.true (sym (c.is_written_by.ensures activations of) ∙ c.if-is_written_by.false)
