use Rattle.osview_stream.proofs.Words.{none_behind}
use Rattle.osview_stream.proofs.called.index_behind.Goals as goal

pub returns-in-Some-clause-none : goal.returns-in-Some-clause-none
returns-in-Some-clause-none c = none_behind c.args.word.now c.args.name.now c.in-Some.rest.now c.index_of.result c.in-Some.ensures.some c.index_of.ensures.none
