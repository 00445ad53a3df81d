use Rattle.std.proofs.Common.{◌≡◌, ◌∙◌, ap, length}
use Rattle.std.proofs.lemmas.Result.{IfOk-equal, on_ok_weaker}
use Rattle.os_ast.specs.Notes.Programs.{in_body}
use Rattle.os_ast.specs.Views.{function_tree}
use Rattle.window_check.proofs.Bodies.{body-scope, function-room, function-scope, function-found}
use Rattle.window_check_laws.proofs.HasRoom.{room_for_body}
use Rattle.window_check_names.specs.Findings.{with_violation}
use Rattle.window_check_names.specs.Scopes.{around_of, ended, with_function}
use Rattle.window_check.proofs.functions.function.Goals as goal

pub stmts-requires : goal.stmts-requires
stmts-requires c =
    let s = c.args.scopes.now in
    let f = function_tree c.args.function.now in
    let body : c.params.new.scopes ≡ in_body s f =
    body-scope s c.begin_function.new.scopes c.params.new.scopes c.list-names.result.now f c.list-names.ensures c.in_ok-around.ensures.scopes c.in_ok-params.ensures.scopes in
    rw body (room_for_body s f c.requires.outside c.requires.room)

pub declare_function-requires : goal.declare_function-requires
declare_function-requires c =
    let s = c.args.scopes.now in
    let f = function_tree c.args.function.now in
    let names = c.list-names.result.now in
    let begun = c.begin_function.new.scopes in
    let inside = c.params.new.scopes in
    let after = c.stmts.new.scopes in
    let body : inside ≡ in_body s f = body-scope s begun inside names f c.list-names.ensures c.in_ok-around.ensures.scopes c.in_ok-params.ensures.scopes in
    let ending : c.end.new.self ≡ ended (around_of s) after = c.end.ensures ∙ ap (λ a. ended a after) c.in_ok-around.ensures.around in
    function-room s inside after c.end.new.self f c.requires.outside c.requires.room body c.in_ok-stmts.ensures.scopes ending

pub returns-clause-scopes : goal.returns-clause-scopes
returns-clause-scopes c =
    let s = c.args.scopes.now in
    let f = function_tree c.args.function.now in
    let names = c.list-names.result.now in
    let begun = c.begin_function.new.scopes in
    let inside = c.params.new.scopes in
    let after = c.stmts.new.scopes in
    let body : inside ≡ in_body s f = body-scope s begun inside names f c.list-names.ensures c.in_ok-around.ensures.scopes c.in_ok-params.ensures.scopes in
    let ending : c.end.new.self ≡ ended (around_of s) after = c.end.ensures ∙ ap (λ a. ended a after) c.in_ok-around.ensures.around in
    IfOk-equal c.declare_function.result _ _ _ c.declare_function.ensures
    (ap (λ u. with_function c.end.new.self u f.name.id (length names)) c.is_unsigned.ensures
    ∙ function-scope s inside after c.end.new.self names f c.list-names.ensures body c.in_ok-stmts.ensures.scopes ending)

pub returns-clause-found : goal.returns-clause-found
returns-clause-found c =
    let s = c.args.scopes.now in
    let f = function_tree c.args.function.now in
    let names = c.list-names.result.now in
    let begun = c.begin_function.new.scopes in
    let inside = c.params.new.scopes in
    let body : inside ≡ in_body s f = body-scope s begun inside names f c.list-names.ensures c.in_ok-around.ensures.scopes c.in_ok-params.ensures.scopes in
    let adding = c.in_ok-add_violation.ensures ∙ ap (with_violation c.args.found.now f.name.mark) c.twice.ensures in
    let found = function-found c.args.found.now c.add_violation.new.self c.params.new.found c.stmts.new.found s begun inside names f
    c.list-names.ensures c.in_ok-around.ensures.scopes body adding c.in_ok-params.ensures.found c.in_ok-stmts.ensures.found in
    on_ok_weaker c.declare_function.result (λ _. found) c.declare_function.ensures
