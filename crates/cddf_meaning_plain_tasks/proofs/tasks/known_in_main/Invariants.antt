use Rattle.std.proofs.Common.{◌≡◌, ◌++◌, drop, map}
use Rattle.cddf_meaning.specs.Tasks.{known_in_main, known_param}
use Rattle.os_ast.specs.Views.{function_tree, item_tree}
use Rattle.cddf_meaning_plain_tasks.proofs.tasks.known_in_main.Given as goal

abbrev pub invariant-loop-param : goal.invariant-loop-param
invariant-loop-param l =
    l.known.items ++ map known_param (drop l.param-index l.param-items)
    ≡ known_in_main (map item_tree l.main.file.now) (function_tree l.main.function.now)
