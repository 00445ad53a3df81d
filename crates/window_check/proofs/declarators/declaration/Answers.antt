use Rattle.std.proofs.Common.{map}
use Rattle.os_ast.specs.Views.{declarator_tree}
use Rattle.window_check_laws.proofs.HasRoom.{room_flagged}
use Rattle.window_check_laws.specs.Room.{declarators_weight}
use Rattle.window_check.proofs.declarators.declaration.Goals as goal

pub declarators-requires : goal.declarators-requires
declarators-requires c =
    rw c.set_unsigned.ensures (room_flagged c.args.scopes.now c.is_unsigned.result (declarators_weight (map declarator_tree c.args.list.now)) c.requires)
