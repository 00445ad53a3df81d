-- What a reader gives, on tokens with their marks.
use Rattle.std.specs.Prelude.{Bool, false, List, [], ◌∷◌, Option, Some, None, if◌then◌else◌}
use Rattle.os_ast.specs.Means.{Placed, placed}
use Rattle.os_ast.specs.declared.expr.Mark.{Mark}
use Rattle.os_lexer.specs.declared.token.Kind.{Kind}
use Rattle.os_parser_grammar.specs.Kinds.{same}

-- What was read, and the tokens that are left; or the tokens from the one that was refused on.
pub data Read (A : Type 0) : Type 0 where
  got : A → List Placed → Read A
  fails : List Placed → Read A

-- a reader
abbrev pub Reader : Type 0 → Type 0
Reader A = List Placed → Read A

-- one reader after the other
infixl 10 ◌>>=◌
abbrev pub ◌>>=◌ : {A B : Type 0} → Read A → (A → Reader B) → Read B
(got x rest) >>= f = f x rest
(fails rest) >>= f = fails rest

-- the view of a part that is its tree as it stands
abbrev pub Same : {A : Type 0} → A → A
Same x = x

-- the kind of the next token
abbrev pub kind_at : List Placed → Option Kind
kind_at [] = None
kind_at (placed k m ∷ ts) = Some k

-- the mark of the next token
abbrev pub mark_at : List Placed → Mark
mark_at [] = record { place = 0; line = 0 }
mark_at (placed k m ∷ ts) = m

-- what stands after the next token
abbrev pub after : List Placed → List Placed
after [] = []
after (t ∷ ts) = ts

-- whether the next token is of a kind
abbrev pub begins : Kind → List Placed → Bool
begins k [] = false
begins k (placed l m ∷ ts) = same l k

-- a token of a kind, with its mark
unfoldable pub expect : Kind → Reader Mark
expect k ts = if begins k ts then got (mark_at ts) (after ts) else fails ts
