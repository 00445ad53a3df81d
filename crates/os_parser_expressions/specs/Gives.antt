-- What a function answers beside what reading gives.
use Rattle.std.specs.Prelude.{◌≡◌, List, Result, Ok, Err}
use Rattle.os_ast.specs.Means.{Placed}
use Rattle.os_parser_grammar.specs.Reading.{Read, got, fails}
use Rattle.os_parser_expressions.specs.declared.production_error.ProductionError.{ProductionError}
use Rattle.os_parser_expressions.specs.declared.production_error.ProductionError.TheVariants as errors

-- A function answered, and left the cursor, as reading says, unless memory ran out.
abbrev pub Refuses : {B : Type 0} → ProductionError → List Placed → Read B → Type 0
Refuses errors.Syntax new read = read ≡ fails new
Refuses errors.Memory new read = Unit {0}

abbrev pub Gives : {A B : Type 0} → (A → B) → Result A ProductionError → List Placed → Read B → Type 0
Gives view (Ok x) new read = read ≡ got (view x) new
Gives view (Err e) new read = Refuses e new read
