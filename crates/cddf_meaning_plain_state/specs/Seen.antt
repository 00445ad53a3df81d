-- What a name stands for where it is evaluated.
use Rattle.std.specs.Prelude.{get_or, Option, Some, pos}
use Rattle.cddf_meaning.specs.BodyState.{BodyState, item_elements}
use Rattle.cddf_meaning_plain_state.specs.declared.names.Seen.{Seen}
use Rattle.cddf_meaning_plain_state.specs.declared.names.Seen.TheVariants as seen_as
use Rattle.cddf_meaning.specs.declared.variable.Variable.{Variable}
use Rattle.cddf_meaning.specs.declared.variable.Variable.TheVariants.{Constant, Function, Scalar, Item}

abbrev pub seen : BodyState → Option Variable → Seen
seen s (Some (Constant v)) = seen_as.Number v
seen s (Some (Scalar v)) = seen_as.Number v
seen s (Some (Item item)) = seen_as.Number (get_or (item_elements s item) 0 (pos 0))
seen s (Some (Function f)) = seen_as.Function f
seen s _ = seen_as.Other
