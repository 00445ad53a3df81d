use Rattle.std.proofs.Common.{rules}
use Rattle.frame_table.proofs.ReadCells.{kept_as_value, kept_as_poison}
use Rattle.frame_table.proofs.reading.keep.Goals as goal

pub returns-in-Value-clause-kept : goal.returns-in-Value-clause-kept
returns-in-Value-clause-kept c = λ es long kept.
    kept_as_value es c.args.element c.in-Value.value c.args.least _ c.args.into.now _ c.args.place c.in-Value.is c.requires (search rules) (search rules) long kept

pub returns-in-Poison-clause-kept : goal.returns-in-Poison-clause-kept
returns-in-Poison-clause-kept c = λ es long kept.
    kept_as_poison es c.args.element c.in-Poison.root c.lesser.result c.args.least _ c.args.into.now _ c.in-Poison.is c.lesser.ensures (search rules) (search rules) kept
