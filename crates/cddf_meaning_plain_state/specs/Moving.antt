-- What a move does to the read cursor of a stream.
use Rattle.std.specs.Prelude.{ℕ, ◌==◌, Bool, false, if◌then◌else◌}
use Rattle.cddf_meaning.specs.declared.cursor_move.Move.{Move}
use Rattle.cddf_meaning.specs.declared.cursor_move.Move.TheVariants.{Take, Tick}
use Rattle.flow_core_laws.specs.FirstPosition.{is_read_of}

-- whether a move is a claim that reads the stream
abbrev pub is_read : ℕ → Move → Bool
is_read stream (Tick s amount) = false
is_read stream (Take claim) = is_read_of stream claim

-- by how much a move skips elements of the stream: a tick on it does so by its amount, and a claim not at all
abbrev pub skipped : ℕ → Move → ℕ
skipped stream (Tick s amount) = if s == stream then amount else 0
skipped stream (Take claim) = 0
