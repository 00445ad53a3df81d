use Rattle.std.proofs.Common.{◌≡◌, take}
use Rattle.flow_core_laws.specs.Window.{claims_of}
use Rattle.lawful_layouts.proofs.lawful.claims_in.Given as goal

abbrev pub invariant-loop-activation : goal.invariant-loop-activation
invariant-loop-activation l = l.claims.items ≡ claims_of (take l.activation-index l.activations)
