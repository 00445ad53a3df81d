-- The claims of an activation on streams, and the limits of the control program.
use Rattle.std.specs.Prelude.{ℕ, ◌+◌, ◌==◌, if◌then◌else◌, ltb, leb, List, [], ◌∷◌, length, fold, Option, Some, None}
use Rattle.std.specs.List.{sum_by}
use Rattle.c_int.specs.declared.control_limit.ControlLimit.{ControlLimit}
use Rattle.c_int.specs.declared.control_limit.ControlLimit.TheVariants.{Activations, Elements}
use Rattle.cddf_meaning.specs.declared.cursor_move.Move.{Move}
use Rattle.cddf_meaning.specs.declared.cursor_move.Move.TheVariants.{Take, Tick}
use Rattle.flow_core_laws.specs.FirstPosition.{is_read_of}
use Rattle.flow_core_laws.specs.Limits.{activations_limit, positions_limit}
use Rattle.flow_core_laws.specs.Window.{horizon_sum}
use Rattle.flow_core_laws.specs.declared.activation.Activation.{Activation}
use Rattle.flow_core_laws.specs.declared.claim.Claim.{Claim}

-- The sum of the ticks on a stream since the last claim that reads it, by what was done to read cursors, the last move first.
abbrev pub since_read : ℕ → List Move → ℕ
since_read stream [] = 0
since_read stream (Tick s amount ∷ before) = if s == stream then since_read stream before + amount else since_read stream before
since_read stream (Take claim ∷ before) = if is_read_of stream claim then 0 else since_read stream before

-- A read claim skips what ticks took from its stream since the last read claim on it.
abbrev pub with_skip : List Move → Claim → Claim
with_skip moves c = if c.write then c else record c { skip = since_read c.stream moves }

-- the claims of one activation, in clause order
abbrev pub with_skips : List Move → List Claim → List Claim
with_skips moves [] = []
with_skips moves (c ∷ cs) = with_skip moves c ∷ with_skips (Take c ∷ moves) cs

-- behind the claims of one activation
abbrev pub moves_behind : List Move → List Claim → List Move
moves_behind moves claims = fold (λ moves (c : Claim). Take c ∷ moves) moves claims

-- the sum of the horizons of all claims so far
abbrev pub all_horizons : List Activation → ℕ
all_horizons activations = sum_by (λ (a : Activation). horizon_sum a.claims) activations

-- The limit that a further activation with these claims would pass: that on the number of activations, or that on the sum of their
-- horizons. The first one is looked at first.
abbrev pub limit : List Activation → List Claim → Option ControlLimit
limit activations claims = if leb activations_limit (length activations) then Some Activations
    else if ltb positions_limit (all_horizons activations + horizon_sum claims) then Some Elements else None
