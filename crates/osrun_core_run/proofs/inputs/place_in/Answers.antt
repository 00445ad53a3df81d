use Rattle.std.proofs.Common.{◌∙◌, ◌+◌, ap, Some, sym}
use Rattle.osrun_core_run.proofs.InputPlaces.{read_at}
use Rattle.osrun_core_run.proofs.inputs.place_in.Goals as goal

pub returns : goal.returns
returns c = read_at c.args.span c.args.number c.requires.within ∙ ap (λ n. Some (record { stream = c.args.span.stream; position = c.args.span.first + n })) (sym c.from.ensures)
