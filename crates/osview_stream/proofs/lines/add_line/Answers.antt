use Rattle.std.proofs.Common.{◌≡◌, ◌++◌, OnOk, subst, sym, ℕ}
use Rattle.osview_stream.specs.Elements.{element_line}
use Rattle.osview_stream.proofs.lines.add_line.Goals as goal

pub returns-then-stream-eq0 : goal.returns-then-stream-eq0
returns-then-stream-eq0 c = λ activations state of are.
    let over = c.args.over.now in
    subst (λ (s : ℕ). OnOk c.add_input_line.result (c.add_input_line.new.told ≡ c.args.told.now ++ element_line over.lines.now activations over.input.now state s c.args.position))
    (sym c.if-stream-eq0.true) (c.add_input_line.ensures over.lines.now activations state)
