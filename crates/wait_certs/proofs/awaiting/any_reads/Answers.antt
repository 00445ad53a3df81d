use Rattle.std.proofs.Common.{◌∙◌, ◌||◌, ◌+◌, drop, ap, sym}
use Rattle.std.specs.List.{flat_map, list_any}
use Rattle.collector.specs.Walking.{read_places}
use Rattle.wait_certs.specs.Searching.{is_produced_by}
use Rattle.wait_certs.proofs.Reading.{span_less}
use Rattle.wait_certs.proofs.awaiting.any_reads.Goals as goal

pub returns-then-reads : goal.returns-then-reads
returns-then-reads c = λ activations of.
    let test = is_produced_by activations c.args.writer in
    let k = c.loop-span.span-index in
    sym (c.loop-span.invariant activations of ∙ span_less test c.args.spans.now k _ c.loop-span-test.true
    ∙ ap (λ b. b || list_any test (flat_map read_places (drop (k + 1) c.args.spans.now))) (sym (c.reads.ensures activations of) ∙ c.if-reads.true))

pub loop-span-preserved : goal.loop-span-preserved
loop-span-preserved c = λ activations of.
    let test = is_produced_by activations c.args.writer in
    let k = c.loop-span.span-index in
    c.loop-span.invariant activations of ∙ span_less test c.args.spans.now k _ c.loop-span-test.true
    ∙ ap (λ b. b || list_any test (flat_map read_places (drop (k + 1) c.args.spans.now))) (sym (c.reads.ensures activations of) ∙ c.if-reads.false)
