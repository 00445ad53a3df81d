-- What findings are instances of: whether it is an error, its number, its name and a short sentence.
use Rattle.std.specs.Prelude.{ℕ, List, [], ◌∷◌, Option, Some, None, codes}
use Rattle.os_ast.specs.Codes.{code}
use Rattle.os_ast.specs.declared.rule.Rule.TheVariants as rule
use Rattle.os_lexer.specs.Effects.{fault_code}
use Rattle.os_lexer.specs.declared.fault.Fault.TheVariants as fault
use Rattle.oscheck_reports.specs.declared.check.Check.{Check}
use Rattle.oscheck_reports.specs.declared.check.Check.TheVariants as check
use Rattle.oscheck_reports.specs.declared.check.Severity.{Severity}
use Rattle.oscheck_reports.specs.declared.check.Severity.TheVariants as severity
use Rattle.oscheck_reports.specs.declared.warning.Warning.TheVariants as warning

-- a warning says nothing against the program, and all else is an error
abbrev pub severity_of : Check → Severity
severity_of (check.Warning w) = severity.Warning
severity_of (check.Fault f) = severity.Error
severity_of check.NoProgram = severity.Error
severity_of check.TooLong = severity.Error
severity_of (check.Rule r) = severity.Error

-- the number of an error, where it has one
abbrev pub code_of : Check → Option ℕ
code_of (check.Fault f) = Some (fault_code f)
code_of check.NoProgram = Some 4
code_of check.TooLong = None
code_of (check.Rule r) = Some (code r)
code_of (check.Warning w) = None

-- by what name editors and other programs know it
abbrev pub name_of : Check → List ℕ
name_of (check.Fault fault.BadByte) = codes "error-1"
name_of (check.Fault fault.OpenComment) = codes "error-2"
name_of (check.Fault fault.BigNumber) = codes "error-3"
name_of check.NoProgram = codes "error-4"
name_of check.TooLong = codes "too-long"
name_of (check.Rule rule.Unknown) = codes "error-10"
name_of (check.Rule rule.WrongKind) = codes "error-11"
name_of (check.Rule rule.DeclaredTwice) = codes "error-12"
name_of (check.Rule rule.ArgumentCount) = codes "error-13"
name_of (check.Rule rule.FixedChanged) = codes "error-14"
name_of (check.Rule rule.WrongSize) = codes "error-15"
name_of (check.Rule rule.OutsideLoop) = codes "error-16"
name_of (check.Rule rule.Misplaced) = codes "error-17"
name_of (check.Rule rule.ReturnInTask) = codes "error-18"
name_of (check.Rule rule.MisplacedStream) = codes "error-19"
name_of (check.Rule rule.WrongEnd) = codes "error-20"
name_of (check.Rule rule.ListedTwice) = codes "error-21"
name_of (check.Rule rule.TaskLimit) = codes "error-22"
name_of (check.Rule rule.NoMain) = codes "error-23"
name_of (check.Rule rule.MisplacedWindow) = codes "error-24"
name_of (check.Warning warning.BareTask) = codes "bare-task"
name_of (check.Warning warning.LoneName) = codes "unused-name"
name_of (check.Warning warning.IdleStream) = codes "idle-stream"
name_of (check.Warning warning.DeadStore) = codes "dead-store"
name_of (check.Warning warning.WrongBurst) = codes "wrong-burst"
name_of (check.Warning warning.WrongSize) = codes "wrong-size"
name_of (check.Warning warning.OpenEnd) = codes "open-end"
name_of (check.Warning warning.EmptyBody) = codes "empty-body"
name_of (check.Warning warning.Octal) = codes "octal"

-- what it is, in a few words
abbrev pub summary_of : Check → List ℕ
summary_of (check.Fault fault.BadByte) = codes "bytes that begin no token"
summary_of (check.Fault fault.OpenComment) = codes "a comment that is never closed"
summary_of (check.Fault fault.BigNumber) = codes "a number above the largest one of its type"
summary_of check.NoProgram = codes "the tokens are those of no program"
summary_of check.TooLong = codes "a text with more than 262144 bytes"
summary_of (check.Rule rule.Unknown) = codes "a name that is used has no declaration in scope"
summary_of (check.Rule rule.WrongKind) = codes "a name of the wrong kind"
summary_of (check.Rule rule.DeclaredTwice) = codes "a name is declared a second time in one scope"
summary_of (check.Rule rule.ArgumentCount) = codes "a call has another number of arguments than the function has parameters"
summary_of (check.Rule rule.FixedChanged) = codes "a change of what may not be changed"
summary_of (check.Rule rule.WrongSize) = codes "a size that is no constant, or that passes a limit"
summary_of (check.Rule rule.OutsideLoop) = codes "break or continue outside a loop"
summary_of (check.Rule rule.Misplaced) = codes "a pragma or the declaration of a stream where none may stand"
summary_of (check.Rule rule.ReturnInTask) = codes "return in a task"
summary_of (check.Rule rule.MisplacedStream) = codes "a stream is named where none may stand"
summary_of (check.Rule rule.WrongEnd) = codes "osin is written, or osout is read"
summary_of (check.Rule rule.ListedTwice) = codes "a name stands a second time in the clauses of a task"
summary_of (check.Rule rule.TaskLimit) = codes "a task has too many items, or captures too many scalars"
summary_of (check.Rule rule.NoMain) = codes "there is no function main of type int without parameters"
summary_of (check.Rule rule.MisplacedWindow) = codes "a window is named where none may stand"
summary_of (check.Warning warning.BareTask) = codes "a task without clauses"
summary_of (check.Warning warning.LoneName) = codes "a name that nothing uses"
summary_of (check.Warning warning.IdleStream) = codes "a stream that no task reads, or that none writes"
summary_of (check.Warning warning.DeadStore) = codes "a change of a scalar in a task that nothing there reads"
summary_of (check.Warning warning.WrongBurst) = codes "a burst that isn't the size of its output window"
summary_of (check.Warning warning.WrongSize) = codes "a window with a size that isn't from 1 to 65536"
summary_of (check.Warning warning.OpenEnd) = codes "a function that can end without return"
summary_of (check.Warning warning.EmptyBody) = codes "a statement whose body is the ; behind its parentheses"
summary_of (check.Warning warning.Octal) = codes "a number whose digits are octal"

-- all of them, in the order of their numbers and of the page on the language
abbrev pub all_checks : List Check
all_checks =
    (check.Fault fault.BadByte)
    ∷ (check.Fault fault.OpenComment)
    ∷ (check.Fault fault.BigNumber)
    ∷ check.NoProgram
    ∷ check.TooLong
    ∷ (check.Rule rule.Unknown)
    ∷ (check.Rule rule.WrongKind)
    ∷ (check.Rule rule.DeclaredTwice)
    ∷ (check.Rule rule.ArgumentCount)
    ∷ (check.Rule rule.FixedChanged)
    ∷ (check.Rule rule.WrongSize)
    ∷ (check.Rule rule.OutsideLoop)
    ∷ (check.Rule rule.Misplaced)
    ∷ (check.Rule rule.ReturnInTask)
    ∷ (check.Rule rule.MisplacedStream)
    ∷ (check.Rule rule.WrongEnd)
    ∷ (check.Rule rule.ListedTwice)
    ∷ (check.Rule rule.TaskLimit)
    ∷ (check.Rule rule.NoMain)
    ∷ (check.Rule rule.MisplacedWindow)
    ∷ (check.Warning warning.BareTask)
    ∷ (check.Warning warning.LoneName)
    ∷ (check.Warning warning.IdleStream)
    ∷ (check.Warning warning.DeadStore)
    ∷ (check.Warning warning.WrongBurst)
    ∷ (check.Warning warning.WrongSize)
    ∷ (check.Warning warning.OpenEnd)
    ∷ (check.Warning warning.EmptyBody)
    ∷ (check.Warning warning.Octal)
    ∷ []
