-- Programs that begin as a refused text does.
use Rattle.std.specs.Prelude.{◌≡◌, ℕ, ◌-◌, List, ◌++◌, length, take, Option, Some, None}
use Rattle.std.specs.List.{slice_get}
use Rattle.front_end.specs.Texts.{IsProgramOf}
use Rattle.os_ast.specs.Fronts.{IsRefusedAt}
use Rattle.os_ast.specs.Trees.{ProgramTree}
use Rattle.os_lexer.specs.Cover.{IsTokenCover}
use Rattle.os_lexer.specs.declared.token.Token.{Token}

-- the end of a token, or 0 where there is none
abbrev pub end_of : Option Token → ℕ
end_of (Some t) = t.end
end_of None = 0

-- how many bytes go to the end of the last of some tokens
abbrev pub last_end : List Token → ℕ
last_end tokens = end_of (slice_get tokens (length tokens - 1))

-- The text is refused as no program, and the other text means one that begins with all bytes of the first up to the end of
-- the last token before the place of the refusal.
pub record IsCompletion (text whole : List ℕ) : Type 0 where
  pub tokens : List Token
  pub place : ℕ
  pub line : ℕ
  pub cover : IsTokenCover text tokens
  pub refused : IsRefusedAt tokens place line
  pub more : List ℕ
  pub begins : whole ≡ take (last_end (take place tokens)) text ++ more
  pub program : ProgramTree
  pub means : IsProgramOf whole program
