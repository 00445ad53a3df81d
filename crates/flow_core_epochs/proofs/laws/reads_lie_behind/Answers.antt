use Rattle.std.proofs.Common.{ℕ, List, ◌≤◌, ◌⊎◌, inl, inr, length}
use Rattle.std.specs.Prelude.{Contains}
use Rattle.flow_core_laws.specs.declared.activation.Activation.{Activation}
use Rattle.flow_core_epochs.proofs.Members.{Has}
use Rattle.flow_core_epochs.proofs.Reading.{reads_behind, has_contained}
use Rattle.flow_core_epochs.proofs.laws.reads_lie_behind.Goals as goal

who : (activations : List Activation) (frames : List ℕ) (a : ℕ) → (Contains frames a) ⊎ (length activations ≤ a) → (Has frames a) ⊎ (length activations ≤ a)
who activations frames a (inl h) = inl (has_contained frames a h)
who activations frames a (inr h) = inr h

pub returns : goal.returns
returns c = λ activations more frames a p h at. reads_behind activations more frames a p (who activations frames a h) (has_contained _ p at)
