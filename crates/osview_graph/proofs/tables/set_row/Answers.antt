use Rattle.std.proofs.Common.{arith, sym}
use Rattle.std.proofs.lemmas.List.{set_past}
use Rattle.osview_graph.proofs.tables.set_row.Goals as goal

pub returns-else-place-len : goal.returns-else-place-len
returns-else-place-len c = sym (set_past c.args.table.now.items c.args.at c.args.count (omega arith))
