use Rattle.std.proofs.Common.{ℕ, List, ap, drop, sym, ◌∙◌, arith}
use Rattle.std.specs.List.{flat_map}
use Rattle.std.proofs.lemmas.List.{take_rest}
use Rattle.os_io.specs.Lines.{field}
use Rattle.trace_replay_text.proofs.Cutting.{begins_fields, field_once}
use Rattle.trace_replay_text.proofs.lines.behind_worker.Goals as goal

pub returns-in_default-first_field-clause-none : goal.returns-in_default-first_field-clause-none
returns-in_default-first_field-clause-none c = λ frames fit is.
    c.in_default-first_field.ensures.none c.args.worker (flat_map field frames) c.ranges.worker.fits (begins_fields frames)
    (take_rest c.args.line.now 6 ∙ ap (λ (t : List ℕ). drop 6 t) is)

pub returns-then-number-worker-clause-none : goal.returns-then-number-worker-clause-none
returns-then-number-worker-clause-none c = λ frames fit is.
    let both = field_once c.in-Some.number c.args.worker c.in-Some.numbers.now (flat_map field frames) c.in-Some.ensures.some.0 c.ranges.worker.fits
    c.in-Some.ensures.rest (begins_fields frames)
    (sym c.in-Some.ensures.some.1 ∙ take_rest c.args.line.now 6 ∙ ap (λ (t : List ℕ). drop 6 t) is) in
    grind (arith, both.0, c.if-number-worker.true)
