-- The codes of the rules for names and declarations.
use Rattle.std.specs.Prelude.{ℕ}
use Rattle.os_ast.specs.declared.rule.Rule.{Rule}
use Rattle.os_ast.specs.declared.rule.Rule.TheVariants as rule

-- the code that a refusal shows
abbrev pub code : Rule → ℕ
code rule.Unknown = 10
code rule.WrongKind = 11
code rule.DeclaredTwice = 12
code rule.ArgumentCount = 13
code rule.FixedChanged = 14
code rule.WrongSize = 15
code rule.OutsideLoop = 16
code rule.Misplaced = 17
code rule.ReturnInTask = 18
code rule.MisplacedStream = 19
code rule.WrongEnd = 20
code rule.ListedTwice = 21
code rule.TaskLimit = 22
code rule.NoMain = 23
code rule.MisplacedWindow = 24
