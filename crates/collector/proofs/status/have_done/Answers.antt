use Rattle.std.proofs.Common.{rules, tests}
use Rattle.std.proofs.lemmas.Iterator.{YieldsList-from_slice}
use Rattle.std.proofs.lemmas.Iterator.Search.{all_from_yields_List}
use Rattle.collector.specs.Status.{has_done}
use Rattle.collector.proofs.status.have_done.Goals as goal

pub returns : goal.returns
returns c = all_from_yields_List has_done _ _ c.all.result c.all.ensures.ran (YieldsList-from_slice c.args.ends.now cc) (λ x b q k. search (rules, tests))
