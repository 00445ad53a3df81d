-- What an error of each stop is told as.
use Rattle.std.specs.Prelude.{◌≡◌, ⊤}
use Rattle.front_end.specs.declared.text_error.TextError.{TextError}
use Rattle.front_end.specs.declared.text_error.TextError.TheVariants as errors
use Rattle.front_end.specs.declared.text_refusal.TextRefusal.TheVariants as refusals
use Rattle.os_ast.specs.Codes.{code as code_of}
use Rattle.os_ast.specs.declared.rule.Rule.{Rule}
use Rattle.os_lexer.specs.declared.fault.Fault.TheVariants as fault
use Rattle.os_lexer.specs.declared.fault.LexError.{LexError}
use Rattle.os_lexer.specs.declared.fault.LexError.TheVariants as lex
use Rattle.os_parser.specs.declared.parse_error.ParseError.{ParseError}
use Rattle.os_parser.specs.declared.parse_error.ParseError.TheVariants as parse
use Rattle.window_check.specs.declared.check_error.CheckError.{CheckError}
use Rattle.window_check.specs.declared.check_error.CheckError.TheVariants as check

-- the first fault of a text
abbrev pub told_fault : LexError → TextError
told_fault (lex.BadByte line) = errors.Refused (refusals.Fault fault.BadByte) line
told_fault (lex.OpenComment line) = errors.Refused (refusals.Fault fault.OpenComment) line
told_fault (lex.BigNumber line) = errors.Refused (refusals.Fault fault.BigNumber) line
told_fault lex.Memory = errors.Memory

-- what is told of tokens that mean no program
abbrev pub told_syntax : ParseError → TextError
told_syntax (parse.Syntax place line) = errors.Refused refusals.NoProgram line
told_syntax parse.Memory = errors.Memory

-- an error of the checks has the code of a rule, unless memory was wanting
abbrev pub HasRule : CheckError → Type 0
HasRule (check.Fault code line) = (rule : Rule) × (code_of rule ≡ code)
HasRule check.Memory = ⊤

-- the least violation, by the rule of its code
abbrev pub IsToldViolation : CheckError → TextError → Type 0
IsToldViolation (check.Fault code line) told = (rule : Rule) × (code_of rule ≡ code) × (told ≡ errors.Refused (refusals.Violated rule) line)
IsToldViolation check.Memory told = told ≡ errors.Memory
