use Rattle.std.proofs.Common.{◌∙◌, ◌-◌, ◌++◌, is_none, count_by, ap, sym, map}
use Rattle.std.specs.Prelude.{None, replicate}
use Rattle.std.specs.List.{range_with_len}
use Rattle.std.proofs.lemmas.List.{append_assoc}
use Rattle.stream_match.specs.EpochPlan.{opening_element}
use Rattle.stream_match.proofs.Opening.{declared_cells, declared_empty, input_cells, input_empty}
use Rattle.stream_match.proofs.filling.fill_open.Goals as goal

pub returns-clause-cells : goal.returns-clause-cells
returns-clause-cells c =
    let s = c.args.stretch in
    let old = c.args.cells.now in
    let input = c.args.input.now in
    c.in_ok-fill_empty-2.ensures
    ∙ ap (λ vs. vs ++ replicate (s.count - c.in_input-there.result) None) c.in_ok-fill_given.ensures
    ∙ append_assoc old (map (opening_element input 0) (range_with_len s.first c.in_input-there.result)) (replicate (s.count - c.in_input-there.result) None)
    ∙ ap (λ vs. old ++ vs) (sym (input_cells input s.first s.count c.in_input-there.result c.in_input-there.ensures))
    ∙ ap (λ stream. old ++ map (opening_element input stream) (range_with_len s.first s.count)) (sym c.if-stretch-ne0.false)

pub returns-then-stretch-ne0-clause-cells : goal.returns-then-stretch-ne0-clause-cells
returns-then-stretch-ne0-clause-cells c =
    let s = c.args.stretch in
    c.in_ok-fill_empty.ensures ∙ ap (λ vs. c.args.cells.now ++ vs) (sym (declared_cells c.args.input.now s.stream s.first s.count c.if-stretch-ne0.true))

pub returns-then-stretch-ne0-clause-empty : goal.returns-then-stretch-ne0-clause-empty
returns-then-stretch-ne0-clause-empty c = let s = c.args.stretch in sym (declared_empty c.args.input.now s.stream s.first s.count c.if-stretch-ne0.true)

pub returns-clause-empty : goal.returns-clause-empty
returns-clause-empty c =
    let s = c.args.stretch in
    let input = c.args.input.now in
    sym (ap (λ stream. count_by is_none (map (opening_element input stream) (range_with_len s.first s.count))) c.if-stretch-ne0.false ∙ input_empty input s.first s.count c.in_input-there.result c.in_input-there.ensures)
