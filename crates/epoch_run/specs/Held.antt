-- What is held between two epochs.
use Rattle.std.specs.Prelude.{◌≡◌, ℕ, ◌≤◌, All, List, ◌++◌, length, map}
use Rattle.epoch_run_bodies.specs.Frames.{frame_outcome}
use Rattle.flow_core_epochs.specs.Epoch.{IsHeld, open_in}
use Rattle.flow_core_laws.specs.Limits.{budget_limit}
use Rattle.flow_core_laws.specs.declared.activation.Activation.{Activation}
use Rattle.os_code.specs.Codes.{parts_of}
use Rattle.os_code.specs.Tasks.{Fits}
use Rattle.os_code.specs.declared.code.Code.{Code}
use Rattle.os_code.specs.declared.parts.Parts.{Parts}
use Rattle.stream_match.specs.Kept.{kept_of}
use Rattle.stream_match_layouts.specs.Lawful.{AreLawful}
use Rattle.stream_match_layouts.specs.Layout.{IsLayout, IsLayoutOf}
use Rattle.stream_match_layouts.specs.declared.layout.Layout.{Layout}
use Rattle.epoch_run.specs.declared.held.Held.{Held}

-- what is held is what the activations mean, with their tasks on the machine, and lists those of them that have no end
pub record IsHeldOf (code : Parts) (activations : List Activation) (input : List ℕ) (budget : ℕ) (held : Held) : Type 0 where
  pub is_meant : IsHeld activations input (frame_outcome code activations budget) held.ends.ends (map kept_of held.kept.items) held.ends.output
  pub are_open : held.without_end ≡ open_in held.ends.ends (length held.ends.ends)

-- what is held, with those of its activations listed that have no end
abbrev pub listed : Held → Held
listed held = record held { without_end = open_in held.ends.ends (length held.ends.ends) }

-- what is held is that of the first of these activations, those before an epoch
pub record IsHeldBefore (code : Parts) (activations : List Activation) (input : List ℕ) (budget : ℕ) (held : Held) : Type 0 where
  pub before : List Activation
  pub new : List Activation
  pub are_all : activations ≡ before ++ new
  pub meant : IsHeldOf code before input budget held

-- activations over an input are laid out, they fit the code, and what is held is that of those before an epoch
pub record IsOpenEpoch (code : Code) (activations : List Activation) (budget : ℕ) (layout : Layout) (input : List ℕ) (held : Held) : Type 0 where
  pub small : budget ≤ budget_limit
  pub fit : All (Fits (parts_of code)) activations
  pub lawful : AreLawful (length layout.writers) activations
  pub whole : IsLayout layout
  pub laid : IsLayoutOf layout activations
  pub over : layout.input_len ≡ length input
  pub stands : IsHeldBefore (parts_of code) activations input budget held
