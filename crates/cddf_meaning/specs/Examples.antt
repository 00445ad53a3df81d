-- What programs mean, worked out by hand.
use Rattle.std.specs.Prelude.{ℕ, [], ◌∷◌, pos}
use Rattle.cddf_meaning.specs.Streams.{claim_of}
use Rattle.flow_core_laws.specs.declared.activation.Activation.{Activation}
use Rattle.flow_core_laws.specs.declared.control.Control.{Control}
use Rattle.flow_core_laws.specs.declared.control.ControlEnd.TheVariants as end
use Rattle.os_ast.specs.declared.names.Direction.TheVariants as direction

-- the activation of a block of `n` bytes: it captures `n`, and claims `n` elements of the input and of the output
abbrev pub inverted_block : ℕ → Activation
inverted_block n = record { site = 0; captured = pos n ∷ []; claims = claim_of direction.Reads 0 n n ∷ claim_of direction.Writes 1 n n ∷ [] }

abbrev pub last_block : Activation
last_block = inverted_block 2

abbrev pub three_blocks : Control
three_blocks = record { activations = inverted_block 4 ∷ inverted_block 4 ∷ last_block ∷ []; end = end.Done }

abbrev pub no_turn_left : Control
no_turn_left = record { activations = inverted_block 4 ∷ inverted_block 4 ∷ last_block ∷ []; end = end.OverBudget }
