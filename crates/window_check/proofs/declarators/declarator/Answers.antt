use Rattle.std.proofs.lemmas.Result.{IfOk-equal}
use Rattle.os_ast.specs.Views.{declarator_tree}
use Rattle.window_check.proofs.Declaring.{declarator-steps}
use Rattle.window_check_laws.proofs.HasRoom.{room_form}
use Rattle.window_check_names.specs.BrokenRules.{all_rules}
use Rattle.window_check.proofs.declarators.declarator.Goals as goal

pub form_entity-entity-requires : goal.form_entity-entity-requires
form_entity-entity-requires c = rw c.form-form.ensures (room_form c.args.scopes.now (declarator_tree c.args.declarator.now) c.requires)

pub rule_with-requires : goal.rule_with-requires
rule_with-requires c = rw c.form-form.ensures (room_form c.args.scopes.now (declarator_tree c.args.declarator.now) c.requires)

pub take-requires : goal.take-requires
take-requires c = rw c.form-form.ensures (room_form c.args.scopes.now (declarator_tree c.args.declarator.now) c.requires)

pub returns-clause-found : goal.returns-clause-found
returns-clause-found c =
    let d = declarator_tree c.args.declarator.now in
    IfOk-equal c.value.result _ _ _ c.value.ensures
    (declarator-steps c.args.found.now c.declare.new.self c.sized.new.found c.args.scopes.now c.take.new.self c.declare-2.new.self d
    c.form-form.result c.form_entity-entity.result c.rule_with.result (all_rules c.declarator_rules-rules.result) c.meaning.result c.unsigned.result
    c.form-form.ensures c.form_entity-entity.ensures c.rule_with.ensures c.declarator_rules-rules.ensures c.meaning.ensures c.unsigned.ensures
    c.in_ok-declare.ensures c.in_ok-sized.ensures c.take.ensures c.in_ok-declare-2.ensures)
