-- Kept elements, as the meaning has them.
use Rattle.std.specs.Prelude.{ℕ, List}
use Rattle.flow_core_laws.specs.declared.activation.Activation.{Activation}
use Rattle.flow_core_epochs.specs.Epoch as epoch
use Rattle.stream_match_layouts.specs.declared.layout.Layout.{Layout}
use Rattle.stream_match_layouts.specs.Layout.{IsLayoutOf}
use Rattle.stream_match.specs.declared.kept.Kept.{Kept}

-- a kept element
abbrev pub kept_of : Kept → epoch.Kept
kept_of k = record { place = record { stream = k.stream; position = k.position }; value = k.value }

-- For some activations that the layout is of, each kept element was written by one that is no frame.
pub record IsKeptOutside (layout : Layout) (frames : List ℕ) (kept : List epoch.Kept) : Type 0 where
  pub activations : List Activation
  pub is_of : IsLayoutOf layout activations
  pub outside : epoch.IsOutside activations frames kept
