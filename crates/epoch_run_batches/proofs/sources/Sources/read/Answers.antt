use Rattle.std.proofs.Common.{◌≡◌, ◌++◌, List, Bool, true, Option}
use Rattle.std.proofs.lemmas.Result.{IfOk-weaker}
use Rattle.flow_core_laws.specs.declared.elem.Elem.{Elem}
use Rattle.epoch_run_batches.specs.Reads.{AreRead, AreReadTo, covered}
use Rattle.epoch_run_batches.specs.declared.inputs.Inputs.{Inputs}
use Rattle.epoch_run_batches.proofs.sources.Sources.read.Goals as goal

pub returns : goal.returns
returns g c =
    let run = g.J.Meaning.run in
    let span = c.args.span.now in
    IfOk-weaker c.read_rest.result
    (λ (there : Bool). there ≡ true → (was : Inputs) → AreReadTo run span c.in_ok-done.done was c.read_leading.new.inputs → AreReadTo run span span.count was c.read_rest.new.inputs)
    (λ (there : Bool). there ≡ true → (cells : List (Option Elem)) → AreRead cells c.args.inputs.now → AreRead (cells ++ covered run span) c.read_rest.new.inputs)
    (λ there p is. p is c.args.inputs.now c.in_ok-done.ensures.read)
    c.read_rest.ensures
