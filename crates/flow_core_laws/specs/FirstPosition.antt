-- Where a claim begins. Streams and their windows are those of OpenStream (Pop and Cohen, 2013); the
-- rule on horizon, burst and skip is this project's own, in the same manner.
use Rattle.std.specs.Prelude.{ℕ, ◌+◌, Bool, not, ◌&&◌, ◌==◌, if◌then◌else◌, List, filter, sum_by}
use Rattle.flow_core_laws.specs.declared.claim.Claim.{Claim}

-- whether a claim reads from a stream
abbrev pub is_read_of : ℕ → Claim → Bool
is_read_of stream claim = not claim.write && claim.stream == stream

-- whether a claim writes to a stream
abbrev pub is_write_to : ℕ → Claim → Bool
is_write_to stream claim = claim.write && claim.stream == stream

-- How far the read cursor of a stream has moved after some claims: by the skip and the burst of each
-- read claim on it.
abbrev pub read_cursor : ℕ → List Claim → ℕ
read_cursor stream claims = sum_by (λ (c : Claim). c.skip + c.burst) (filter (is_read_of stream) claims)

-- How far the write cursor of a stream has moved after some claims: by the horizon of each write
-- claim on it.
abbrev pub write_cursor : ℕ → List Claim → ℕ
write_cursor stream claims = sum_by (λ (c : Claim). c.horizon) (filter (is_write_to stream) claims)

-- The first position of a claim, after all the earlier claims: those of earlier activations, and
-- those before it in its own.
abbrev pub first_position : List Claim → Claim → ℕ
first_position earlier claim = if claim.write then write_cursor claim.stream earlier else claim.skip + read_cursor claim.stream earlier
