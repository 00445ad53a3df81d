use Rattle.std.proofs.Common.{◌≡◌, ◌++◌, drop, map}
use Rattle.cddf_meaning.specs.Functions.{file_of}
use Rattle.cddf_meaning.specs.Streams.{captured_values}
use Rattle.os_ast.specs.Views.{item_tree}
use Rattle.cddf_meaning_plain_state.proofs.streams.captured_values.Given as goal

abbrev pub invariant-loop-id : goal.invariant-loop-id
invariant-loop-id l =
    let file = file_of (map item_tree l.file) in
    l.values ++ captured_values file l.state (drop l.id-index l.ids) ≡ captured_values file l.state l.ids
