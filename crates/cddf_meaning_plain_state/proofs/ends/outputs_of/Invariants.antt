use Rattle.std.proofs.Common.{◌≡◌, ◌++◌, drop}
use Rattle.cddf_meaning.specs.Body.{outputs_of}
use Rattle.cddf_meaning_plain_state.proofs.ends.outputs_of.Given as goal

abbrev pub invariant-loop-place : goal.invariant-loop-place
invariant-loop-place l =
    l.outputs.items ++ outputs_of (drop l.place l.claims) (drop l.place l.items) ≡ outputs_of l.claims l.items
