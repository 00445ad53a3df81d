-- Instructions that read and set what names mean go from one height to another.
use Rattle.std.proofs.Common.{ℕ, suc, Bool, true, false, List, [], ◌∷◌, ◌++◌, Option, Some, None, refl, sym, subst, arith}
use Rattle.c_int.specs.declared.operators.Binary as int_binary
use Rattle.cddf_meaning.specs.Operators.{operator_of_two}
use Rattle.os_ast.specs.declared.expr.Binary.{Binary}
use Rattle.os_ast.specs.declared.names.What.{What}
use Rattle.os_ast.specs.declared.names.What.TheVariants as what
use Rattle.os_code.specs.Effects.{height_after}
use Rattle.os_code.specs.declared.instr.Instr.{Instr}
use Rattle.lowering_relation.specs.Expressions.{operation_of, operation}
use Rattle.lowering_relation.specs.Names.{reading, reading_at, checking_at, aiming, storing, storing_at, fetching, fetching_at}
use Rattle.lowering_relation.proofs.Homes.{Home, Fits, IsOutput}
use Rattle.lowering_relation.proofs.Lays.{Rises}

-- the height behind what is fetched where an operator needs it
abbrev pub fetched : Bool → ℕ → ℕ
fetched true x = suc x
fetched false x = x

-- the height behind the index of an item's one element
abbrev pub aimed : What → ℕ → ℕ
aimed (what.Element item) x = suc x
aimed (what.View item) x = suc x
aimed _ x = x

module _ (h : Home) where
  pub rises_reading : (w : What) (line x : ℕ) → Fits h w → Rises h (reading w line) x (suc x)
  rises_reading (what.Constant v) line x fits = ((refl, refl, refl, refl), omega arith, tt, omega arith)
  rises_reading (what.Function f) line x fits = ((refl, refl, refl, refl), omega arith, tt, omega arith)
  rises_reading (what.Scalar slot) line x fits = ((refl, refl, refl, refl), omega arith, fits, omega arith)
  rises_reading (what.Array first size) line x fits = ((refl, refl, refl, refl), omega arith, tt, omega arith)
  rises_reading (what.Window slot) line x fits = ((refl, refl, refl, refl), omega arith, tt, omega arith)
  rises_reading (what.Stream first count) line x fits = ((refl, refl, refl, refl), omega arith, tt, omega arith)
  rises_reading (what.Element item) line x fits = ((refl, refl, refl, refl), omega arith, tt, ((refl, refl, refl, refl), omega arith, fits, omega arith))
  rises_reading (what.View item) line x fits = ((refl, refl, refl, refl), omega arith, tt, ((refl, refl, refl, refl), omega arith, fits, omega arith))

  pub rises_reading_at : (w : What) (line x : ℕ) → Fits h w → Rises h (reading_at w line ∷ []) (suc x) (suc x)
  rises_reading_at (what.Constant v) line x fits = ((refl, refl, refl, refl), omega arith, omega arith, omega arith)
  rises_reading_at (what.Function f) line x fits = ((refl, refl, refl, refl), omega arith, omega arith, omega arith)
  rises_reading_at (what.Scalar slot) line x fits = ((refl, refl, refl, refl), omega arith, omega arith, omega arith)
  rises_reading_at (what.Array first size) line x fits = ((refl, refl, refl, refl), omega arith, fits, omega arith)
  rises_reading_at (what.Window slot) line x fits = ((refl, refl, refl, refl), omega arith, omega arith, omega arith)
  rises_reading_at (what.Stream first count) line x fits = ((refl, refl, refl, refl), omega arith, omega arith, omega arith)
  rises_reading_at (what.Element item) line x fits = ((refl, refl, refl, refl), omega arith, fits, omega arith)
  rises_reading_at (what.View item) line x fits = ((refl, refl, refl, refl), omega arith, fits, omega arith)

  pub rises_checking_at : (w : What) (line x : ℕ) → Fits h w → Rises h (checking_at w line ∷ []) (suc x) (suc x)
  rises_checking_at (what.Constant v) line x fits = ((refl, refl, refl, refl), omega arith, tt, omega arith)
  rises_checking_at (what.Function f) line x fits = ((refl, refl, refl, refl), omega arith, tt, omega arith)
  rises_checking_at (what.Scalar slot) line x fits = ((refl, refl, refl, refl), omega arith, tt, omega arith)
  rises_checking_at (what.Array first size) line x fits = ((refl, refl, refl, refl), omega arith, tt, omega arith)
  rises_checking_at (what.Window slot) line x fits = ((refl, refl, refl, refl), omega arith, tt, omega arith)
  rises_checking_at (what.Stream first count) line x fits = ((refl, refl, refl, refl), omega arith, tt, omega arith)
  rises_checking_at (what.Element item) line x fits = ((refl, refl, refl, refl), omega arith, fits, omega arith)
  rises_checking_at (what.View item) line x fits = ((refl, refl, refl, refl), omega arith, fits, omega arith)

  rises_both : (is js : List Instr) (x y z : ℕ) → Rises h is x y → Rises h js y z → Rises h (is ++ js) x z
  rises_both [] js x y z first second = subst (λ n. Rises h js n z) (sym first) second
  rises_both (i ∷ is) js x y z first second = (first.0, first.1, first.2, rises_both is js (height_after h.code i x) y z first.3 second)

  rises_aiming : (w : What) (x : ℕ) → Rises h (aiming w) x (aimed w x)
  rises_aiming (what.Constant v) x = refl
  rises_aiming (what.Function f) x = refl
  rises_aiming (what.Scalar slot) x = refl
  rises_aiming (what.Array first size) x = refl
  rises_aiming (what.Window slot) x = refl
  rises_aiming (what.Stream first count) x = refl
  rises_aiming (what.Element item) x = ((refl, refl, refl, refl), omega arith, tt, omega arith)
  rises_aiming (what.View item) x = ((refl, refl, refl, refl), omega arith, tt, omega arith)

  rises_fetching : (old : Bool) (w : What) (line x : ℕ) → Fits h w → Rises h (fetching old w line) x (fetched old x)
  rises_fetching true w line x fits = rises_reading w line x fits
  rises_fetching false w line x fits = refl

  pub rises_aimed : (old : Bool) (w : What) (line x : ℕ) → Fits h w → Rises h (aiming w ++ fetching old w line) x (fetched old (aimed w x))
  rises_aimed old w line x fits =
      rises_both (aiming w) (fetching old w line) x (aimed w x) (fetched old (aimed w x)) (rises_aiming w x) (rises_fetching old w line (aimed w x) fits)

  pub rises_fetching_at : (old : Bool) (w : What) (line x : ℕ) → Fits h w → Rises h (fetching_at old w line) (suc x) (fetched old (suc x))
  rises_fetching_at true w line x fits =
      ((refl, refl, refl, refl), omega arith, tt, subst (λ n. Rises h (reading_at w line ∷ []) n (suc (suc x))) (omega arith) (rises_reading_at w line (suc x) fits))
  rises_fetching_at false w line x fits = rises_checking_at w line x fits

  pub rises_storing : (w : What) (line x : ℕ) → Fits h w → IsOutput h w → Rises h (storing w line ∷ []) (suc (aimed w x)) x
  rises_storing (what.Constant v) line x fits out = ((refl, refl, refl, refl), omega arith, tt, omega arith)
  rises_storing (what.Function f) line x fits out = ((refl, refl, refl, refl), omega arith, tt, omega arith)
  rises_storing (what.Scalar slot) line x fits out = ((refl, refl, refl, refl), omega arith, fits, omega arith)
  rises_storing (what.Array first size) line x fits out = ((refl, refl, refl, refl), omega arith, tt, omega arith)
  rises_storing (what.Window slot) line x fits out = ((refl, refl, refl, refl), omega arith, tt, omega arith)
  rises_storing (what.Stream first count) line x fits out = ((refl, refl, refl, refl), omega arith, tt, omega arith)
  rises_storing (what.Element item) line x fits out = ((refl, refl, refl, refl), omega arith, out, omega arith)
  rises_storing (what.View item) line x fits out = ((refl, refl, refl, refl), omega arith, out, omega arith)

  pub rises_storing_at : (w : What) (line x : ℕ) → Fits h w → IsOutput h w → Rises h (storing_at w line ∷ []) (suc (suc x)) x
  rises_storing_at (what.Constant v) line x fits out = ((refl, refl, refl, refl), omega arith, omega arith, omega arith)
  rises_storing_at (what.Function f) line x fits out = ((refl, refl, refl, refl), omega arith, omega arith, omega arith)
  rises_storing_at (what.Scalar slot) line x fits out = ((refl, refl, refl, refl), omega arith, omega arith, omega arith)
  rises_storing_at (what.Array first size) line x fits out = ((refl, refl, refl, refl), omega arith, fits, omega arith)
  rises_storing_at (what.Window slot) line x fits out = ((refl, refl, refl, refl), omega arith, omega arith, omega arith)
  rises_storing_at (what.Stream first count) line x fits out = ((refl, refl, refl, refl), omega arith, omega arith, omega arith)
  rises_storing_at (what.Element item) line x fits out = ((refl, refl, refl, refl), omega arith, out, omega arith)
  rises_storing_at (what.View item) line x fits out = ((refl, refl, refl, refl), omega arith, out, omega arith)

  -- an operator takes two operands and leaves one
  rises_operation_of : (op : Option int_binary.Binary) (line : ℕ) (u v : Bool) (x : ℕ) → Rises h (operation_of op line u v) (suc (suc x)) (suc x)
  rises_operation_of None line u v x =
      ((refl, refl, refl, refl), omega arith, tt, ((refl, refl, refl, refl), omega arith, tt, ((refl, refl, refl, refl), omega arith, tt, omega arith)))
  rises_operation_of (Some op) line u v x = ((refl, refl, refl, refl), omega arith, tt, omega arith)

  pub rises_operation : (op : Binary) (line : ℕ) (u v : Bool) (x : ℕ) → Rises h (operation op line u v) (suc (suc x)) (suc x)
  rises_operation op line u v x = rises_operation_of (operator_of_two op) line u v x
