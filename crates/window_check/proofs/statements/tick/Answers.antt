use Rattle.std.proofs.Common.{ap, sym, ◌∙◌}
use Rattle.std.proofs.lemmas.Result.{IfOk-equal}
use Rattle.os_ast.specs.Notes.Expressions.{place_notes, expr_notes}
use Rattle.os_ast.specs.Notes.Kinds.{Pragma}
use Rattle.os_ast.specs.Views.{expr_tree, target_tree}
use Rattle.os_ast.specs.declared.names.Direction.TheVariants as direction
use Rattle.os_ast.specs.declared.names.Role.TheVariants as role
use Rattle.window_check_names.proofs.AddedViolations.{with_violation-pragma}
use Rattle.window_check_names.proofs.Noted.{noted-append}
use Rattle.window_check_names.specs.Findings.{note, noted}
use Rattle.window_check_names.specs.declared.found.Found.{Found}
use Rattle.window_check.proofs.statements.tick.Goals as goal

pub returns : goal.returns
returns c =
    let s = c.args.scopes.now in
    let f = c.args.found.now in
    let first = place_notes s (role.Flow direction.Reads) (target_tree c.args.site.now.stream) in
    let last = expr_notes s (expr_tree c.args.site.now.amount) in
    let added = c.in_ok-add_violation.ensures ∙ rw (c.pragma_rule.ensures, c.owner.ensures) (with_violation-pragma f s c.args.site.now.mark) in
    IfOk-equal c.expr.result _ _ _ c.expr.ensures
    (ap (λ (g : Found). noted g last) (c.in_ok-place.ensures ∙ ap (λ (g : Found). noted g first) added)
    ∙ sym (noted-append (note f (Pragma s c.args.site.now.mark)) first last))
