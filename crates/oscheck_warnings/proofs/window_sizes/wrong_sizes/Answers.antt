use Rattle.std.proofs.Common.{◌≡◌, ◌∙◌, ap, ℕ, List, Option, IfOk, subst₂}
use Rattle.std.proofs.Math.Path.{fun_ext}
use Rattle.os_ast.specs.declared.names.What.{What}
use Rattle.os_ast.specs.Views.{program_tree}
use Rattle.oscheck_warnings.specs.WindowSizes.{AreWrongSizes}
use Rattle.oscheck_warnings.specs.Extents.{extents}
use Rattle.oscheck_warnings.specs.Meanings.{what_at, meaning_at}
use Rattle.oscheck_warnings.specs.declared.extent.Extent.{Extent}
use Rattle.oscheck_warnings.proofs.window_sizes.wrong_sizes.Goals as goal

pub returns : goal.returns
returns c =
    let means : what_at c.in_ok-meanings.meanings ≡ meaning_at c.args.names.now = fun_ext c.in_ok-meanings.ensures in
    let program = program_tree c.args.program.now in
    let list : c.as_slice.result.now ≡ extents (meaning_at c.args.names.now) program =
    c.as_slice.ensures ∙ c.in_ok-list.ensures ∙ ap (λ (m : ℕ → Option What). extents m program) means in
    subst₂ (λ (l : List Extent) (m : ℕ → Option What). IfOk c.marked.result (AreWrongSizes l m)) list means c.marked.ensures
