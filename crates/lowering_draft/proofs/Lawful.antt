-- The laws, as they are stated.
use Rattle.std.proofs.Common.{[], arith}
use Rattle.lowering_draft.proofs.ChangesStand.{change_stands}
use Rattle.lowering_draft.proofs.ConditionsStand.{condition_stands}
use Rattle.lowering_draft.proofs.DeclaratorsStand.{declarators_stand}
use Rattle.lowering_draft.proofs.ExpressionsStand.{expr_stands}
use Rattle.lowering_draft.proofs.FewStatements.{function_pays, stmt_pays}
use Rattle.lowering_draft.proofs.Spawning.{block_spawned, stmt_spawned}
use Rattle.lowering_draft.proofs.StatementsStand.{block_stands, stmt_stands}
use Rattle.lowering_draft.proofs.TasksStand.{items_stand}
use Rattle.lowering_draft.specs.Few.{FunctionsAreFew, StatementsAreFew}
use Rattle.lowering_draft.specs.Laws.{BlocksAreSpawned, BlocksStand, ChangesStand, ConditionsStand, DeclaratorsStand, ExpressionsStand, ItemsStand, StatementsStand, TasksAreSpawned}

pub expressions_law : ExpressionsStand
expressions_law code place_of tells e is d b = expr_stands tells e is d b

pub conditions_law : ConditionsStand
conditions_law code place_of tells fails e is d b = condition_stands tells fails e is d b

pub changes_law : ChangesStand
changes_law code place_of tells c is d b = change_stands tells c is d b

pub declarators_law : DeclaratorsStand
declarators_law code place_of tells ds are d b = declarators_stand tells ds are d b

pub items_law : ItemsStand
items_law code place_of tells ps are d b = items_stand tells ps are d b

pub spawned_law : TasksAreSpawned
spawned_law tells s x next d = stmt_spawned tells s x next d

pub spawned_blocks_law : BlocksAreSpawned
spawned_blocks_law tells ss x next d = block_spawned tells ss x next d

pub statements_law : StatementsStand
statements_law code place_of b s is leave x leaves next d are becomes = stmt_stands code place_of b leave s is x leaves next d are becomes

pub blocks_law : BlocksStand
blocks_law code place_of b ss are_stmts leave x leaves next d are becomes = block_stands code place_of b leave ss are_stmts x leaves next d are becomes

pub few_law : StatementsAreFew
few_law tells s x next d = omega (arith, stmt_pays tells s x next d [])

pub few_functions_law : FunctionsAreFew
few_functions_law tells f x next d = omega (arith, function_pays tells f x next d [])
