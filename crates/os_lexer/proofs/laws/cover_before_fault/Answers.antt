use Rattle.os_lexer.proofs.BeforeFaults.{cover_before_fault}
use Rattle.os_lexer.proofs.PointCuts.{fault_points}
use Rattle.os_lexer.proofs.laws.cover_before_fault.Goals as goal

pub returns : goal.returns
returns c = record { points = fault_points; before = cover_before_fault }
