-- What the functions below `lex` give, one definition for each. The promises of `lex` don't cite them: that they find the
-- lexemes of the text is proved.
use Rattle.std.specs.Prelude.{ℕ, zero, suc, min, ◌+◌, ◌-◌, Bool, not, ◌&&◌, ◌||◌, List, [], ◌∷◌, length, take, Option, Some}
use Rattle.std.specs.Prelude.{None, map, position, codes, bytes_eq, nat_lt, ◌==◌, slice_index, slice_range, if◌then◌else◌}
use Rattle.std.specs.Map.{lookup}
use Rattle.os_lexer.specs.Bytes.{is_white, is_blank, is_letter, is_digit, is_word_byte}
use Rattle.os_lexer.specs.Marks.{mark_spelling}
use Rattle.os_lexer.specs.declared.bytes.Class.{Class}
use Rattle.os_lexer.specs.declared.bytes.Class.TheVariants.{White, Letter, Digit, Backslash, Slash, Hash, Other}
use Rattle.os_lexer.specs.declared.form.Form.TheVariants as form
use Rattle.os_lexer.specs.declared.form.Lexeme.{Lexeme}
use Rattle.os_lexer.specs.declared.form.Form.{Form}
use Rattle.std.specs.Borrow.{Bor}
use Rattle.os_lexer.specs.declared.token.Key.{Key}
use Rattle.os_lexer.specs.declared.token.Punct.{Punct}
use Rattle.os_lexer.specs.declared.token.Punct.TheVariants as mark

-- the class of a byte
abbrev pub class_of : ℕ → Class
class_of b =
    if is_white b then White
    else (if is_letter b then Letter
    else (if is_digit b then Digit
    else (if b == 92 then Backslash
    else (if b == 47 then Slash
    else (if b == 35 then Hash
    else Other)))))

-- of a number of points from `point` on, the first at which the test holds, or the point behind them
abbrev pub first_from : (ℕ → Bool) → ℕ → ℕ → ℕ
first_from test zero point = point
first_from test (suc n) point = if test point then point else first_from test n (point + 1)

-- the first point of a slice from `from` on at which the test holds, or its end
abbrev pub first_in : (List ℕ → ℕ → Bool) → List ℕ → ℕ → ℕ
first_in test bytes from = first_from (test bytes) (length bytes - from) from

-- a byte at the point that no run has
abbrev pub ends_run : List ℕ → ℕ → Bool
ends_run bytes i = not (is_word_byte (slice_index bytes i))

-- a byte at the point that is neither space nor tab
abbrev pub ends_blanks : List ℕ → ℕ → Bool
ends_blanks bytes i = not (is_blank (slice_index bytes i))

-- a line feed at the point is that of a joined line
abbrev pub is_joined : List ℕ → ℕ → Bool
is_joined bytes i =
    slice_index bytes (i - 1) == 92 || (slice_index bytes (i - 1) == 13 && slice_index bytes (i - 2) == 92)

-- a line feed at the point that isn't that of a joined line
abbrev pub ends_line : List ℕ → ℕ → Bool
ends_line bytes i = slice_index bytes i == 10 && not (is_joined bytes i)

-- a `*/` at the point
abbrev pub closes : List ℕ → ℕ → Bool
closes bytes i = slice_index bytes i == 42 && slice_index bytes (i + 1) == 47

-- where a run, blanks, a line and a comment end, each from a point on
unfoldable pub run_end : List ℕ → ℕ → ℕ
run_end = first_in ends_run

unfoldable pub blanks_end : List ℕ → ℕ → ℕ
blanks_end = first_in ends_blanks

unfoldable pub line_end : List ℕ → ℕ → ℕ
line_end = first_in ends_line

unfoldable pub comment_end : List ℕ → ℕ → ℕ
comment_end = first_in closes

-- a lexeme of a form, `n` bytes long
abbrev pub lexeme : Form → ℕ → Lexeme
lexeme form n = record { form = form; length = n }

-- the joined line that a backslash at the front begins
unfoldable pub joined_line_at : List ℕ → Option Lexeme
joined_line_at bytes =
    if slice_index bytes 1 == 10 then Some (lexeme form.JoinedLine 2)
    else (if slice_index bytes 1 == 13 && slice_index bytes 2 == 10 then Some (lexeme form.JoinedLine 3) else None)

-- the marks in the order in which the longest is sought
abbrev pub all_marks : List Punct
all_marks =
    mark.ShiftLeftSet ∷ mark.ShiftRightSet ∷ mark.AddSet ∷ mark.SubtractSet ∷ mark.MultiplySet ∷
    mark.DivideSet ∷ mark.RemainderSet ∷ mark.BitAndSet ∷ mark.BitXorSet ∷ mark.BitOrSet ∷
    mark.Up ∷ mark.Down ∷ mark.ShiftLeft ∷ mark.ShiftRight ∷ mark.LessEqual ∷
    mark.GreaterEqual ∷ mark.Equal ∷ mark.Unequal ∷ mark.And ∷ mark.Or ∷
    mark.Plus ∷ mark.Minus ∷ mark.Star ∷ mark.Slash ∷ mark.Percent ∷
    mark.Less ∷ mark.Greater ∷ mark.Set ∷ mark.BitAnd ∷ mark.BitXor ∷
    mark.BitOr ∷ mark.Not ∷ mark.Invert ∷ mark.Question ∷ mark.Colon ∷
    mark.Semicolon ∷ mark.Comma ∷ mark.OpenParen ∷ mark.CloseParen ∷ mark.OpenBracket ∷
    mark.CloseBracket ∷ mark.OpenBrace ∷ mark.CloseBrace ∷
    []

-- the mark that is spelled so
abbrev pub mark_from : List Punct → List ℕ → Option Punct
mark_from [] s = None
mark_from (m ∷ ms) s = if bytes_eq s (mark_spelling m) then Some m else mark_from ms s

-- the mark that is spelled so, among all
unfoldable pub mark_of : List ℕ → Option Punct
mark_of s = mark_from all_marks s

-- the mark that is the first n bytes, if there are n of them
unfoldable pub mark_front : List ℕ → ℕ → Option Punct
mark_front bytes n = if nat_lt (length bytes) n then None else mark_of (take n bytes)

-- the lexeme of a mark that was found, and else the other answer
abbrev pub mark_lexeme : Option Punct → ℕ → Option Lexeme → Option Lexeme
mark_lexeme None n other = other
mark_lexeme (Some m) n other = Some (lexeme (form.Mark m) n)

-- the mark of n bytes at the front, and else the other answer
abbrev pub mark_or : List ℕ → ℕ → Option Lexeme → Option Lexeme
mark_or bytes n other = mark_lexeme (mark_front bytes n) n other

-- the longest mark at the front
unfoldable pub mark_at : List ℕ → Option Lexeme
mark_at bytes = mark_or bytes 3 (mark_or bytes 2 (mark_or bytes 1 None))

-- the comment that a `/*` at the front begins
unfoldable pub comment_at : List ℕ → Lexeme
comment_at bytes =
    if nat_lt (comment_end bytes 2) (length bytes) then lexeme form.BlockComment (comment_end bytes 2 + 2)
    else lexeme form.OpenComment (length bytes)

-- what a slash at the front begins
unfoldable pub slash_at : List ℕ → Option Lexeme
slash_at bytes =
    if slice_index bytes 1 == 47 then Some (lexeme form.LineComment (line_end bytes 2))
    else (if slice_index bytes 1 == 42 then Some (comment_at bytes) else mark_at bytes)

-- the directive at the front whose word begins at a point
unfoldable pub named_directive : List ℕ → ℕ → Lexeme
named_directive bytes name_at =
    let name = slice_range bytes name_at (run_end bytes name_at) in
    if bytes_eq name (codes "pragma") then lexeme form.PragmaStart (run_end bytes name_at)
    else (if bytes_eq name (codes "include") then lexeme form.IncludeLine (line_end bytes (run_end bytes name_at))
    else lexeme form.OtherDirective (run_end bytes name_at))

-- the directive that a `#` at the front begins
unfoldable pub directive_at : List ℕ → Option Lexeme
directive_at bytes =
    if is_letter (slice_index bytes (blanks_end bytes 1)) then Some (named_directive bytes (blanks_end bytes 1)) else None

-- the lexeme that begins with a byte of this class
abbrev pub lexeme_of : Class → List ℕ → Option Lexeme
lexeme_of White bytes = Some (lexeme form.Space 1)
lexeme_of Letter bytes = Some (lexeme form.Word (run_end bytes 1))
lexeme_of Digit bytes = Some (lexeme form.Number (run_end bytes 1))
lexeme_of Backslash bytes = joined_line_at bytes
lexeme_of Slash bytes = slash_at bytes
lexeme_of Hash bytes = directive_at bytes
lexeme_of Other bytes = mark_at bytes

-- the longest form at the front
unfoldable pub lexeme_at : List ℕ → Option Lexeme
lexeme_at bytes = lexeme_of (class_of (slice_index bytes 0)) bytes

-- a value as far as it is read
abbrev pub capped : Option ℕ → Option ℕ
capped None = None
capped (Some value) = Some (min value 4294967296)

-- a table of words in the code: what it has for a word
abbrev pub key_in : List (Bor (List ℕ) × Key) → List ℕ → Option Key
key_in table word = lookup (bytes_eq word) (map (λ row. (row.0.now, row.1)) table)

abbrev pub index_in : List (Bor (List ℕ)) → List ℕ → Option ℕ
index_in table name = position (λ row. bytes_eq name row.now) table
