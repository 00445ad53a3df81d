-- Whether what is declared is of the type `unsigned`.
use Rattle.std.specs.Prelude.{Bool, true, false}
use Rattle.os_ast.specs.declared.ty.Ty.{Ty}
use Rattle.os_ast.specs.declared.ty.Ty.TheVariants as ty

-- `unsigned` and `unsigned int` are one type
abbrev pub is_unsigned : Ty → Bool
is_unsigned ty.Int = false
is_unsigned _ = true
