use Rattle.std.proofs.Common.{◌≡◌, count_by, find, take}
use Rattle.std.specs.Prelude.{is_some}
use Rattle.flow_core_laws.specs.declared.activation.Activation.{Activation}
use Rattle.osview_sentences.specs.Passing.{passes}
use Rattle.osview_sentences.proofs.passing.passing_count.Given as goal

-- those so far were counted
abbrev pub invariant-loop-activation : goal.invariant-loop-activation
invariant-loop-activation l = l.count ≡ count_by (λ (a : Activation). is_some (find passes a.claims)) (take l.activation-index l.activations)
