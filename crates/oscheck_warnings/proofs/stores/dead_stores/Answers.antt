use Rattle.std.proofs.Common.{◌≡◌, ◌∙◌, ℕ, List, Option, IfOk, subst₂}
use Rattle.std.proofs.Math.Path.{fun_ext}
use Rattle.os_ast.specs.declared.names.What.{What}
use Rattle.os_ast.specs.Views.{program_tree}
use Rattle.oscheck_warnings.specs.Accesses.{accesses}
use Rattle.oscheck_warnings.specs.DeadStores.{AreDeadStores}
use Rattle.oscheck_warnings.specs.Meanings.{what_at, meaning_at}
use Rattle.oscheck_warnings.specs.declared.access.Access.{Access}
use Rattle.oscheck_warnings.proofs.stores.dead_stores.Goals as goal

pub returns : goal.returns
returns c =
    let means : what_at c.in_ok-meanings.meanings ≡ meaning_at c.args.names.now = fun_ext c.in_ok-meanings.ensures in
    let list : c.as_slice-2.result.now ≡ accesses (program_tree c.args.program.now) = c.as_slice-2.ensures ∙ c.in_ok-list.ensures in
    subst₂ (λ (l : List Access) (m : ℕ → Option What). IfOk c.marked.result (AreDeadStores l m)) list means c.marked.ensures
