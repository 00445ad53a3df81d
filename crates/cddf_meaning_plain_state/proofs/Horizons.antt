-- The sum of the horizons of claims.
use Rattle.std.proofs.Common.{◌≡◌, ℕ, ◌+◌, ◌≤◌, Bool, true, false, List, [], ◌∷◌, ◌++◌, Option, Some, None, refl, ap, sym, ◌∙◌, arith, if◌then◌else◌, leb, ltb, length, zero-add}
use Rattle.std.proofs.lemmas.List.Sums.{sum_by-cons, sum_by-append}
use Rattle.c_int.specs.declared.control_limit.ControlLimit.{ControlLimit}
use Rattle.c_int.specs.declared.control_limit.ControlLimit.TheVariants.{Activations, Elements}
use Rattle.cddf_meaning.specs.Claims.{all_horizons, limit, since_read, with_skip, with_skips}
use Rattle.flow_core_laws.specs.Limits.{activations_limit, positions_limit}
use Rattle.flow_core_laws.specs.Window.{horizon_sum}
use Rattle.cddf_meaning.specs.declared.cursor_move.Move.{Move}
use Rattle.cddf_meaning.specs.declared.cursor_move.Move.TheVariants.{Take}
use Rattle.flow_core_laws.specs.declared.activation.Activation.{Activation}
use Rattle.flow_core_laws.specs.declared.claim.Claim.{Claim}

one : (c : Claim) (moves : List Move) → (with_skip moves c).horizon ≡ c.horizon
one c moves =
    elim c.write as (λ w. (if w then c else record c { skip = since_read c.stream moves }).horizon ≡ c.horizon) [ true ↦ refl | false ↦ refl ]

-- ticks change no horizon
pub horizon_sum-with_skips : (moves : List Move) (claims : List Claim) → horizon_sum (with_skips moves claims) ≡ horizon_sum claims
horizon_sum-with_skips moves [] = refl
horizon_sum-with_skips moves (c ∷ cs) =
    let rest = with_skips (Take c ∷ moves) cs in
    sum_by-cons (λ (c : Claim). c.horizon) (with_skip moves c) rest
    ∙ ap (λ n. n + horizon_sum rest) (one c moves)
    ∙ ap (λ n. c.horizon + n) (horizon_sum-with_skips (Take c ∷ moves) cs)
    ∙ sym (sum_by-cons (λ (c : Claim). c.horizon) c cs)

-- one activation more
pub all_with : (activations : List Activation) (a : Activation) →
    all_horizons (activations ++ a ∷ []) ≡ all_horizons activations + horizon_sum a.claims
all_with activations a =
    sum_by-append (λ (a : Activation). horizon_sum a.claims) activations (a ∷ [])
    ∙ ap (λ n. all_horizons activations + n) (zero-add (horizon_sum a.claims))

no_limit : (one two : ControlLimit) (p q : Bool) → (if p then Some one else if q then Some two else None) ≡ None → q ≡ false
no_limit one two true q h = cc
no_limit one two false true h = cc
no_limit one two false false h = refl

pub within : (activations : List Activation) (claims : List Claim) → limit activations claims ≡ None →
    all_horizons activations + horizon_sum claims ≤ 4194304
within activations claims h =
    let sum = all_horizons activations + horizon_sum claims in
    let small : ltb positions_limit sum ≡ false = no_limit Activations Elements (leb activations_limit (length activations)) _ h in
    grind (arith, small)
