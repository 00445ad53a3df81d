use Rattle.std.proofs.Common.{◌≡◌, ◌≤◌, false, length, map, take}
use Rattle.cddf_meaning.specs.Functions.{file_of}
use Rattle.cddf_meaning.specs.Variables.{flag_or}
use Rattle.os_ast.specs.Views.{item_tree}
use Rattle.cddf_meaning_plain_state.proofs.names.unsigned_in_file.Given as goal

abbrev pub invariant-loop-place : goal.invariant-loop-place
invariant-loop-place l =
    (l.place ≤ length l.file)
    × (flag_or false (file_of (map item_tree l.file)).names l.id ≡ flag_or false (file_of (take l.place (map item_tree l.file))).names l.id)

abbrev pub decreases-loop-place : goal.decreases-loop-place
decreases-loop-place l = l.place
