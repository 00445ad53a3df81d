use Rattle.std.proofs.Common.{◌≡◌, ◌++◌, drop, map}
use Rattle.cddf_meaning.specs.Tasks.{known_item}
use Rattle.os_ast.specs.Views.{item_tree}
use Rattle.cddf_meaning_plain_tasks.proofs.tasks.known_in_file.Given as goal

abbrev pub invariant-loop-item : goal.invariant-loop-item
invariant-loop-item l =
    l.known.items ++ map known_item (map item_tree (drop l.item-index l.file))
    ≡ map known_item (map item_tree l.file)
