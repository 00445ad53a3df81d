-- What the reader of a text knows at a point.
use Rattle.std.specs.Prelude.{◌≡◌, ℕ, ◌+◌, ◌≤◌, Bool, true, false, ◌&&◌, List, [], ◌∷◌, length, None, position, unwrap_or, bytes_eq, All}
use Rattle.os_lexer.specs.Cover.{Point, IsFaultAt}
use Rattle.os_lexer.specs.Forms.{IsWord}
use Rattle.os_lexer.specs.Keywords.{key_of}
use Rattle.os_lexer.specs.Limits.{text_limit}
use Rattle.os_lexer.specs.Lines.{line_of}
use Rattle.os_lexer.specs.Names.{first_own_id, fixed_names, spelling}
use Rattle.os_lexer.specs.Spellings.{first_of}
use Rattle.os_lexer.specs.declared.fault.Fault.TheVariants as fault
use Rattle.os_lexer.specs.declared.fault.LexError.{LexError}
use Rattle.os_lexer.specs.declared.fault.LexError.TheVariants.{BadByte, OpenComment, BigNumber, Memory}
use Rattle.os_lexer.specs.declared.form.Form.{Form}
use Rattle.os_lexer.specs.declared.form.Form.TheVariants as form
use Rattle.os_lexer.specs.declared.lexer.Lexer.{Lexer}
use Rattle.os_lexer.specs.declared.mode.Mode.{Mode}
use Rattle.os_lexer.specs.declared.mode.Mode.TheVariants.{LineStart, InLine, InPragma}
use Rattle.os_lexer.specs.declared.spellings.Spellings.{Spellings}
use Rattle.os_lexer.specs.declared.token.Kind.{Kind}
use Rattle.os_lexer.specs.declared.token.Kind.TheVariants as kind
use Rattle.os_lexer.specs.declared.token.Token.{Token}

-- the point
abbrev pub point_of : Lexer → Point
point_of lexer = record { at = lexer.at; mode = lexer.mode; tokens = lexer.tokens.items }

-- whether a kind is that of a name
abbrev pub is_name : Kind → Bool
is_name (kind.Name n) = true
is_name (kind.Number n) = false
is_name (kind.Wide n) = false
is_name (kind.Key k) = false
is_name (kind.Punct m) = false
is_name kind.PragmaStart = false
is_name kind.PragmaEnd = false

-- a token is a name with this spelling
abbrev pub is_named : List ℕ → List ℕ → Token → Bool
is_named text name token = is_name token.kind && bytes_eq name (spelling text token)

-- the map has for each spelling the index of the first name that has it
abbrev pub KnowsSpellings : List ℕ → List Token → Spellings → Type 0
KnowsSpellings text tokens spellings =
    (name : List ℕ) → first_of spellings name ≡ position (is_named text name) tokens

-- a token whose spelling is a word and no keyword is a name
abbrev pub IsNameWhereSpelledSo : List ℕ → Token → Type 0
IsNameWhereSpelledSo text token =
    IsWord (spelling text token) → key_of (spelling text token) ≡ None → is_name token.kind ≡ true

-- what the reader keeps true: its line, its map of spellings, and that names alone are spelled as names
pub record IsState (text : List ℕ) (lexer : Lexer) : Type 0 where
  pub short : length text ≤ text_limit
  pub within : lexer.at ≤ length text
  pub lined : lexer.line ≡ line_of text lexer.at
  pub few : length lexer.tokens.items ≤ lexer.at
  pub known : KnowsSpellings text lexer.tokens.items lexer.spellings
  pub named : All (IsNameWhereSpelledSo text) lexer.tokens.items

-- the number of a name, by the map, where `count` tokens stand before it
abbrev pub number_by_map : Spellings → ℕ → List ℕ → ℕ
number_by_map spellings count name =
    unwrap_or (position (bytes_eq name) fixed_names) (first_own_id + unwrap_or (first_of spellings name) count)

-- the fact holds where the form is that of a word; of other forms nothing is said
abbrev pub IfWord : Form → Type 0 → Type 0
IfWord form.Space P = Unit {0}
IfWord form.JoinedLine P = Unit {0}
IfWord form.LineComment P = Unit {0}
IfWord form.BlockComment P = Unit {0}
IfWord form.OpenComment P = Unit {0}
IfWord form.IncludeLine P = Unit {0}
IfWord form.PragmaStart P = Unit {0}
IfWord form.OtherDirective P = Unit {0}
IfWord form.Word P = P
IfWord form.Number P = Unit {0}
IfWord (form.Mark mark) P = Unit {0}

-- the error is a fault that stands at the point, on its line
abbrev pub IsFaultHere : List ℕ → Point → LexError → Type 0
IsFaultHere text p (BadByte line) = IsFaultAt text p fault.BadByte × (line ≡ line_of text p.at)
IsFaultHere text p (OpenComment line) = IsFaultAt text p fault.OpenComment × (line ≡ line_of text p.at)
IsFaultHere text p (BigNumber line) = IsFaultAt text p fault.BigNumber × (line ≡ line_of text p.at)
IsFaultHere text p Memory = Unit {0}

-- the end of a pragma's line, where there is one
abbrev pub end_in : Mode → Token → List Token
end_in LineStart token = []
end_in InLine token = []
end_in InPragma token = token ∷ []

-- the token that the end of the text is, where it ends a pragma's line
abbrev pub end_of : Lexer → List Token
end_of lexer = end_in lexer.mode (record { kind = kind.PragmaEnd; start = lexer.at; end = lexer.at; line = lexer.line })
