-- Where the names of a program's streams stand in its text.
use Rattle.std.specs.Prelude.{ℕ, List, [], ◌∷◌, Option, None, Some, slice_get}
use Rattle.std.specs.List.{flat_map}
use Rattle.os_ast.specs.declared.names.Resolved.{Resolved}
use Rattle.os_ast.specs.declared.names.What.{What}
use Rattle.os_ast.specs.declared.names.What.TheVariants as what
use Rattle.os_lexer.specs.declared.token.Token.{Token}
use Rattle.osview_sentences.specs.declared.stream_name.StreamName.{StreamName}

-- a token, if there is one, as the name of the `count` streams from `first` on
abbrev pub named_by : (first count : ℕ) → Option Token → List StreamName
named_by first count None = []
named_by first count (Some t) = record { first = first; count = count; start = t.start; end = t.end } ∷ []

-- a name that means this, where it means a stream or an array of streams
abbrev pub named_as : List Token → (place : ℕ) → What → List StreamName
named_as tokens place (what.Constant v) = []
named_as tokens place (what.Function number) = []
named_as tokens place (what.Scalar slot) = []
named_as tokens place (what.Array first size) = []
named_as tokens place (what.Window slot) = []
named_as tokens place (what.Stream first count) = named_by first count (slice_get tokens place)
named_as tokens place (what.Element item) = []
named_as tokens place (what.View item) = []

abbrev pub named_in : List Token → Resolved → List StreamName
named_in tokens name = named_as tokens name.place name.what

-- The names that mean streams, by what each name of a program means, in the order of the text. A stream is declared before it
-- is used, so the first of its names is the declarator's.
abbrev pub stream_names : List Token → List Resolved → List StreamName
stream_names tokens names = flat_map (named_in tokens) names
