-- Where a run in control order stands once elements that nobody reads any more were given up.
use Rattle.std.proofs.Common.{◌≡◌, ℕ, List, length, map, ap, ◌∙◌}
use Rattle.std.specs.List.{range_with_len}
use Rattle.flow_core_laws.specs.declared.activation.Activation.{Activation}
use Rattle.flow_core_laws.specs.FirstPosition.{read_cursor}
use Rattle.flow_core_laws.specs.Outcome.{State}
use Rattle.flow_core_laws.specs.Window.{claims_of}
use Rattle.epoch_run_in_order_laws.specs.InOrder.{HoldElements}
use Rattle.os_code.specs.declared.parts.Parts.{Parts}
use Rattle.stream_match_layouts.specs.Layout.{IsLayoutOf}
use Rattle.stream_match_layouts.specs.declared.layout.Layout.{Layout}
use Rattle.stream_match_layouts.proofs.Windows.{claims_in-windows}
use Rattle.epoch_run_in_order.specs.Standing.{StandsBehind, meaning_in}
use Rattle.epoch_run_in_order.specs.declared.in_order.InOrder.{InOrder}
use Rattle.epoch_run_in_order.specs.declared.streams.Streams.{Streams}

-- what giving up leaves held
abbrev pub StillHold : List ℕ → Streams → Streams → Type 0
StillHold cursors old new =
    (activations : List Activation) (input : List ℕ) (state : State)
    → cursors ≡ map (λ stream. read_cursor stream (claims_of activations)) (range_with_len 0 (length old.elements))
    → HoldElements activations input state old.elements old.firsts
    → HoldElements activations input state new.elements new.firsts

-- the cursors of a layout
cursors_of : (layout : Layout) (given : List Activation) (n : ℕ) → IsLayoutOf layout given → length layout.writers ≡ n
    → layout.cursors.reads ≡ map (λ stream. read_cursor stream (claims_of given)) (range_with_len 0 n)
cursors_of layout given n is many =
    is.of_windows.reads
    ∙ ap (λ cs. map (λ stream. read_cursor stream cs) (range_with_len 0 (length layout.writers))) (claims_in-windows given)
    ∙ ap (λ k. map (λ stream. read_cursor stream (claims_of given)) (range_with_len 0 k)) many

pub still_stands : (code : Parts) (all given : List Activation) (input : List ℕ) (budget : ℕ) (layout : Layout) (cursors : List ℕ) (old new : InOrder)
    → StillHold cursors old.streams new.streams → cursors ≡ layout.cursors.reads → new.ends ≡ old.ends
    → IsLayoutOf layout given → length layout.writers ≡ length old.streams.elements
    → StandsBehind code all given input budget old → StandsBehind code all given input budget new
still_stands code all given input budget layout cursors old new hold are ends is many stands = record {
  ends_are = ends ∙ stands.ends_are;
  have_ended = stands.have_ended;
  hold = hold given input (meaning_in code all given input budget) (are ∙ cursors_of layout given (length old.streams.elements) is many) stands.hold;
}
