-- What the names of the program with a window of three elements mean.
use Rattle.std.specs.Prelude.{List, [], ◌∷◌}
use Rattle.os_ast.specs.Examples.{int_named}
use Rattle.os_ast.specs.declared.names.What.TheVariants as what
use Rattle.os_ast.specs.declared.names.Resolved.{Resolved}

-- what each name means, by its place
abbrev pub meanings : List Resolved
meanings =
    int_named 7 (what.Scalar 1) ∷ int_named 11 (what.Scalar 1) ∷ int_named 15 (what.Scalar 1) ∷ int_named 19 (what.Scalar 0) ∷ int_named 21 (what.Scalar 1)
    ∷ int_named 26 (what.Window 2) ∷ int_named 31 (what.Scalar 3) ∷ int_named 38 (what.Stream 0 1) ∷ int_named 40 (what.Window 2)
    ∷ int_named 47 (what.Stream 1 1) ∷ int_named 49 (what.Scalar 3) ∷ int_named 52 (what.Element 1) ∷ int_named 55 (what.View 0) ∷ int_named 60 (what.View 0)
    ∷ int_named 65 (what.View 0) ∷ []
