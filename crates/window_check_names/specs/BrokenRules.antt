-- The rules that a token violates, and the one with the least code.
use Rattle.std.specs.Prelude.{ltb, if◌then◌else◌, List, [], ◌∷◌, ◌++◌, Option, Some, None}
use Rattle.os_ast.specs.Codes.{code}
use Rattle.os_ast.specs.declared.rule.Rule.{Rule}
use Rattle.window_check_names.specs.declared.broken_rules.BrokenRules.{BrokenRules}

-- the rule, where there is one
abbrev pub rule_list : Option Rule → List Rule
rule_list None = []
rule_list (Some r) = r ∷ []

-- all the rules that a token violates
abbrev pub all_rules : BrokenRules → List Rule
all_rules rs = rule_list rs.first ++ (rule_list rs.second ++ rule_list rs.third)

abbrev pub lesser_rule : Option Rule → Option Rule → Option Rule
lesser_rule None other = other
lesser_rule (Some r) None = Some r
lesser_rule (Some r) (Some other) = Some (if ltb (code other) (code r) then other else r)

abbrev pub least_rule : List Rule → Option Rule
least_rule [] = None
least_rule (r ∷ rs) = lesser_rule (Some r) (least_rule rs)
