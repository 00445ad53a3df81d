use Rattle.std.proofs.Common.{◌≡◌}
use Rattle.epoch_run_batches.specs.Found.{held_over}
use Rattle.epoch_run_batches.specs.Reads.{AreFound}
use Rattle.epoch_run_batches.proofs.Finding.{IfSome-weaker}
use Rattle.epoch_run_batches.proofs.Slices.{held_is_found}
use Rattle.epoch_run_batches.proofs.sources.find_all_in_slot.Goals as goal

pub returns : goal.returns
returns g c =
    let span = c.args.span.now in
    let wrote = c.in_ok-content.content.now.outcome.wrote in
    IfSome-weaker c.find_all.result (λ elements. elements.now ≡ held_over wrote span) (λ elements. AreFound g.J.Meaning.run span elements.now)
    (λ elements is. held_is_found g.J.Meaning.run wrote span elements.now c.in_ok-content.ensures.elements is)
    c.find_all.ensures
