use Rattle.std.proofs.Common.{ℕ, List, ◌++◌, length, subst, sym}
use Rattle.flow_core_epochs.specs.Epoch.{open_in, IsKeptFor, IsOutside}
use Rattle.flow_core_epochs.proofs.Frames.{open_each}
use Rattle.flow_core_epochs.proofs.Opening.{has_epoch}
use Rattle.flow_core_epochs.proofs.Carried.{nothing_at_first, serves_next, is_outside, carries_over, output_stays}
use Rattle.flow_core_epochs.proofs.laws.carrying.Goals as goal

pub returns-clause-first : goal.returns-clause-first
returns-clause-first c = nothing_at_first

pub returns-clause-next : goal.returns-clause-next
returns-clause-next c = λ activations new input body state kept no_output part carried frames is. subst (λ (fs : List ℕ). IsKeptFor (activations ++ new) input state fs kept × IsOutside (activations ++ new) fs kept) (sym is) (serves_next activations new input body state kept no_output part carried, is_outside activations new input state kept (open_in state (length (activations ++ new))) (λ f a at. (open_each state (length (activations ++ new)) f a at).1) carried)

pub returns-clause-over : goal.returns-clause-over
returns-clause-over c = λ before new input body state readers frames kept plan places e. carries_over before new input body state readers frames kept plan places (has_epoch before new input body state readers frames kept plan places e)

pub returns-clause-output : goal.returns-clause-output
returns-clause-output c = λ before new input body state readers frames kept plan places e. output_stays before new input body state readers frames kept plan places (has_epoch before new input body state readers frames kept plan places e)
