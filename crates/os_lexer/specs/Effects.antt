-- What a lexeme of a text does: it is skipped, is a token, or is a fault. One row for each form.
use Rattle.std.specs.Prelude.{ℕ, ◌&&◌, List, Option, Some, None, nat_le, if◌then◌else◌}
use Rattle.std.specs.List.{list_any}
use Rattle.std.specs.Option.{option_map_or}
use Rattle.os_lexer.specs.Bytes.{is_line_feed}
use Rattle.os_lexer.specs.Keywords.{key_of}
use Rattle.os_lexer.specs.Numbers.{may_be_int, may_be_unsigned, number_value}
use Rattle.os_lexer.specs.declared.effect.Effect.{Effect}
use Rattle.os_lexer.specs.declared.effect.Effect.TheVariants.{Skip, Give, Fail}
use Rattle.os_lexer.specs.declared.fault.Fault.{Fault}
use Rattle.os_lexer.specs.declared.fault.Fault.TheVariants as fault
use Rattle.os_lexer.specs.declared.form.Form.{Form}
use Rattle.os_lexer.specs.declared.form.Form.TheVariants as form
use Rattle.os_lexer.specs.declared.mode.Mode.{Mode}
use Rattle.os_lexer.specs.declared.mode.Mode.TheVariants.{LineStart, InLine, InPragma}
use Rattle.os_lexer.specs.declared.token.Key.{Key}
use Rattle.os_lexer.specs.declared.token.Kind.{Kind}
use Rattle.os_lexer.specs.declared.token.Kind.TheVariants as kind

-- the codes of the faults
abbrev pub fault_code : Fault → ℕ
fault_code fault.BadByte = 1
fault_code fault.OpenComment = 2
fault_code fault.BigNumber = 3

-- behind a token
abbrev pub mode_after_token : Mode → Mode
mode_after_token InPragma = InPragma
mode_after_token _ = InLine

-- A line feed ends the line, also in a joined line or a block comment. Within a pragma's line these don't end it.
abbrev pub mode_after_gap : Mode → List ℕ → Mode
mode_after_gap InLine s = if list_any is_line_feed s then LineStart else InLine
mode_after_gap mode s = mode

-- The line feed that ends a pragma's line is a token. Other white space is skipped.
abbrev pub space_effect : Mode → List ℕ → Effect
space_effect InPragma s = if list_any is_line_feed s then Give kind.PragmaEnd LineStart else Skip InPragma
space_effect mode s = Skip (mode_after_gap mode s)

-- A `#` that begins a directive has only white space and comments before it on its line. Any other is a bad byte.
abbrev pub directive_effect : Mode → Effect → Effect
directive_effect LineStart effect = effect
directive_effect _ effect = Fail fault.BadByte

-- What a run that begins with a digit does: where it is no number it is a bad byte. An `int` is at most 2,147,483,647, an
-- `unsigned` at most 4,294,967,295, and a number that fits no type that it may have is a big number.
abbrev pub number_effect : Mode → List ℕ → Option ℕ → Effect
number_effect mode bytes None = Fail fault.BadByte
number_effect mode bytes (Some value) = if may_be_int bytes && nat_le value 2147483647 then Give (kind.Number value) (mode_after_token mode)
    else (if may_be_unsigned bytes && nat_le value 4294967295 then Give (kind.Wide value) (mode_after_token mode) else Fail fault.BigNumber)

-- a word that is no keyword is a name
abbrev pub word_kind : Option Key → ℕ → Kind
word_kind key name = option_map_or kind.Key key (kind.Name name)

-- What the slice s of a form does at a point of this mode. As a name it has the number given.
abbrev pub effect : Mode → ℕ → Form → List ℕ → Effect
effect mode name form.Space s = space_effect mode s
effect mode name form.JoinedLine s = Skip (mode_after_gap mode s)
effect mode name form.LineComment s = Skip mode
effect mode name form.BlockComment s = Skip (mode_after_gap mode s)
effect mode name form.OpenComment s = Fail fault.OpenComment
effect mode name form.IncludeLine s = directive_effect mode (Skip LineStart)
effect mode name form.PragmaStart s = directive_effect mode (Give kind.PragmaStart InPragma)
effect mode name form.OtherDirective s = Fail fault.BadByte
effect mode name form.Word s = Give (word_kind (key_of s) name) (mode_after_token mode)
effect mode name form.Number s = number_effect mode s (number_value s)
effect mode name (form.Mark mark) s = Give (kind.Punct mark) (mode_after_token mode)
