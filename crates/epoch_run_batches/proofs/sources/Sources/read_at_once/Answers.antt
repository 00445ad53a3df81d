use Rattle.std.proofs.Common.{◌≡◌, ◌++◌, map, arith, subst, sym}
use Rattle.std.specs.List.{range_with_len}
use Rattle.std.proofs.lemmas.Grind.{common_steps}
use Rattle.epoch_run_batches.specs.Meant.{element_meant}
use Rattle.epoch_run_batches.specs.Reads.{AreRead}
use Rattle.epoch_run_batches.proofs.Slices.{read_of_found}
use Rattle.epoch_run_batches.proofs.sources.Sources.read_at_once.Goals as goal

pub returns-clause-read : goal.returns-clause-read
returns-clause-read g c = λ cells r.
    let run = g.J.Meaning.run in
    let span = c.args.span.now in
    let done = c.in_ok-done.done in
    let few = c.in_ok-done.ensures.few in
    let found = c.in-Some.ensures in
    let all : c.min.result ≡ done = first_of (omega (arith, few, found.as_many, c.min.ensures), grind (arith, common_steps, few, found.as_many, c.min.ensures)) in
    subst (λ n. AreRead (cells ++ map (element_meant run span.stream) (range_with_len span.first n)) c.add_values.new.self) (sym all)
    (read_of_found run span c.in-Some.elements.now done cells c.add_values.new.self found few (c.in_ok-done.ensures.read cells r))
