-- Streams and claims, as the functions of the program have them.
use Rattle.std.specs.Prelude.{ℕ, ◌+◌, List, [], ◌∷◌, ◌++◌, Option, Ok, ℤ}
use Rattle.cddf_meaning.specs.Answers.{Answer, Left, and_then, left}
use Rattle.cddf_meaning.specs.Claims.{with_skips, moves_behind}
use Rattle.cddf_meaning.specs.BodyState.{BodyState}
use Rattle.cddf_meaning.specs.Streams.{first_stream, stream_count}
use Rattle.cddf_meaning.specs.Value.{checked}
use Rattle.cddf_meaning.specs.declared.variable.Variable.{Variable}
use Rattle.flow_core_laws.specs.declared.claim.Claim.{Claim}
use Rattle.cddf_meaning_plain_state.specs.declared.body_state.Streams.{Streams}

-- the claims that an evaluation gives, put behind others
abbrev pub behind : List Claim → Answer (Left (List Claim)) → Answer (Left (List Claim))
behind before answer = and_then answer (λ cs. Ok (left (before ++ cs.value) cs.turns))

-- the stream at an index of an array
abbrev pub stream_at : Streams → ℕ → ℤ → Answer ℕ
stream_at streams line index = and_then (checked streams.count line index) (λ k. Ok (streams.first + k))

abbrev pub streams_of : Option Variable → Streams
streams_of v = record { first = first_stream v; count = stream_count v }

abbrev pub with_created : ℕ → List ℤ → List Claim → BodyState → BodyState
with_created site captured claims s = record s {
  activations = s.activations ++ record { site = site; captured = captured; claims = with_skips s.moves claims } ∷ [];
  moves = moves_behind s.moves claims;
}
