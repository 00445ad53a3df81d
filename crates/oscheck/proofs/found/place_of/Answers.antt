use Rattle.std.proofs.Common.{arith}
use Rattle.oscheck.specs.Findings.{is_behind, is_within}
use Rattle.oscheck.proofs.found.place_of.Goals as goal

pub returns-then-spot-text : goal.returns-then-spot-text
returns-then-spot-text c = is_behind c.if-spot-text.true

pub returns : goal.returns
returns c = is_within c.column.result c.character_column.result (omega (arith, c.if-spot-text.false)) c.column.ensures c.character_column.ensures
