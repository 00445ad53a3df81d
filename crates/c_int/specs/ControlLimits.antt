-- The codes of the limits of the control program.
use Rattle.std.specs.Prelude.{ℕ}
use Rattle.c_int.specs.declared.control_limit.ControlLimit.{ControlLimit}
use Rattle.c_int.specs.declared.control_limit.ControlLimit.TheVariants.{Activations, Elements}

abbrev pub limit_code : ControlLimit → ℕ
limit_code Activations = 1
limit_code Elements = 2
