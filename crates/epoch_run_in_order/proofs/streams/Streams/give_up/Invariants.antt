use Rattle.std.proofs.Common.{◌≡◌, ℕ, List, length, map}
use Rattle.std.specs.List.{range_with_len}
use Rattle.flow_core_laws.specs.FirstPosition.{read_cursor}
use Rattle.flow_core_laws.specs.Outcome.{State}
use Rattle.flow_core_laws.specs.Window.{claims_of}
use Rattle.flow_core_laws.specs.declared.activation.Activation.{Activation}
use Rattle.epoch_run_in_order_laws.specs.InOrder.{HoldElements}
use Rattle.epoch_run_in_order.proofs.streams.Streams.give_up.Given as goal

abbrev pub invariant-loop-stream : goal.invariant-loop-stream
invariant-loop-stream l = record {
  as_many : length l.self.elements ≡ length l.initial.self.elements;
  firsts : length l.self.firsts ≡ length l.initial.self.firsts;
  held : (activations : List Activation) (input : List ℕ) (state : State)
      → l.cursors ≡ map (λ stream. read_cursor stream (claims_of activations)) (range_with_len 0 (length l.initial.self.elements))
      → HoldElements activations input state l.initial.self.elements l.initial.self.firsts
      → HoldElements activations input state l.self.elements l.self.firsts;
}
