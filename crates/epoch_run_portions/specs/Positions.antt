-- The positions behind activations that were passed.
use Rattle.std.specs.Prelude.{◌≡◌, ℕ, List, [], ◌∷◌, ◌++◌, length, map}
use Rattle.std.specs.List.{range_with_len}
use Rattle.flow_core_laws.specs.FirstPosition.{read_cursor}
use Rattle.flow_core_laws.specs.Place.{written_count}
use Rattle.flow_core_laws.specs.Window.{claims_of}
use Rattle.flow_core_laws.specs.declared.activation.Activation.{Activation}
use Rattle.flow_core_laws.specs.declared.claim.Claim.{Claim}
use Rattle.stream_match_layouts.specs.Cursors.{moved_by, span_by}
use Rattle.stream_match_layouts.specs.Lawful.{AreLawful}
use Rattle.epoch_run_portions.specs.declared.positions.Positions.{Positions}

-- These activations were passed, over `streams` streams: the cursors stand behind them, and `count` is their number.
pub record HavePassed (streams : ℕ) (passed : List Activation) (positions : Positions) : Type 0 where
  pub reads : positions.cursors.reads ≡ map (λ stream. read_cursor stream (claims_of passed)) (range_with_len 0 streams)
  pub writes : positions.cursors.writes ≡ map (written_count passed) (range_with_len 0 streams)
  pub count : positions.count ≡ length passed

-- More can be passed: they are lawful behind those that were.
pub record PassMore (positions : Positions) (more : List Activation) : Type 0 where
  pub streams : ℕ
  pub passed : List Activation
  pub have_passed : HavePassed streams passed positions
  pub lawful : AreLawful streams (passed ++ more)

-- A claim of an activation was added: its span stands behind the others, and its cursor has moved.
pub record HasTaken (before : Positions) (frame : ℕ) (claim : Claim) (offset : ℕ) (after : Positions) : Type 0 where
  pub spans : after.spans.items ≡ before.spans.items ++ span_by before.cursors frame claim offset ∷ []
  pub cursors : after.cursors ≡ moved_by before.cursors claim
  pub count : after.count ≡ before.count
