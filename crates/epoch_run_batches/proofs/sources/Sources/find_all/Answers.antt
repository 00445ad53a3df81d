use Rattle.epoch_run_batches.proofs.Slices.{held_is_found}
use Rattle.epoch_run_batches.proofs.sources.Sources.find_all.Goals as goal

pub returns-in-Some : goal.returns-in-Some
returns-in-Some g c = held_is_found g.J.Meaning.run c.args.own.now c.args.span.now c.in-Some.elements.now c.requires.meant c.in-Some.ensures

pub returns-in-Some-find_all : goal.returns-in-Some-find_all
returns-in-Some-find_all g c = held_is_found g.J.Meaning.run c.args.self.now.before.now c.args.span.now c.in-Some-find_all.elements.now c.args.self.now.before_is_meant c.in-Some-find_all.ensures
