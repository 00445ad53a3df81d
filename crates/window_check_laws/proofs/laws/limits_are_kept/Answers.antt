use Rattle.std.proofs.Common.{arith}
use Rattle.os_ast.specs.Notes.Programs.{file}
use Rattle.window_check_laws.proofs.Told.{lawful-program}
use Rattle.window_check_laws.proofs.UnitSlots.{units-few}
use Rattle.window_check_laws.proofs.Within.{within-items_of_file}
use Rattle.window_check_laws.proofs.laws.limits_are_kept.Goals as goal

pub returns-clause-within : goal.returns-clause-within
returns-clause-within c p h = within-items_of_file file p (record { streams = omega arith; arrays = omega arith }) (lawful-program p h)

pub returns-clause-streams : goal.returns-clause-streams
returns-clause-streams c p h = omega (arith, (within-items_of_file file p (record { streams = omega arith; arrays = omega arith }) (lawful-program p h)).streams)

pub returns-clause-slots : goal.returns-clause-slots
returns-clause-slots c p places none few = units-few p places none few
