use Rattle.std.proofs.Common.{◌≡◌, drop, take, map}
use Rattle.cddf_meaning.specs.Program.{main_behind, main_of}
use Rattle.os_ast.specs.Views.{item_tree}
use Rattle.cddf_meaning_plain_tasks.proofs.tasks.main_of.Given as goal

abbrev pub invariant-loop-place : goal.invariant-loop-place
invariant-loop-place l =
    main_behind (take l.place (map item_tree l.items)) (drop l.place (map item_tree l.items)) ≡ main_of (map item_tree l.items)
