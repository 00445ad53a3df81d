use Rattle.std.proofs.Common.{◌≡◌, drop}
use Rattle.cddf_meaning.specs.Body.{bind_captured}
use Rattle.cddf_meaning_plain_tasks.proofs.body.bind_captured.Given as goal

abbrev pub invariant-loop-place : goal.invariant-loop-place
invariant-loop-place l =
    (l.state ≡ record l.initial.state { bound = l.state.bound })
    × (bind_captured l.names l.values l.initial.state.bound ≡ bind_captured (drop l.place l.names) (drop l.place l.values) l.state.bound)
