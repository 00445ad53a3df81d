use Rattle.std.proofs.Common.{◌≡◌, [], drop}
use Rattle.cddf_meaning.specs.Functions.{bind_params}
use Rattle.cddf_meaning.specs.BodyState.{state_of}
use Rattle.cddf_meaning_plain_state.proofs.functions.with_params.Given as goal

abbrev pub invariant-loop-place : goal.invariant-loop-place
invariant-loop-place l =
    (l.state ≡ state_of l.state.bound [])
    × (bind_params l.params l.args [] ≡ bind_params (drop l.place l.params) (drop l.place l.args) l.state.bound)
