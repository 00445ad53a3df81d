-- What is found of parts, one after another, and the least of several rules.
use Rattle.std.proofs.lemmas.Bool.Decides.{nat_tests}
use Rattle.std.proofs.Common.{◌≡◌, Bool, true, false, List, [], ◌∷◌, ◌++◌, Option, Some, None, refl, ap, sym, ◌∙◌, arith}
use Rattle.os_ast.specs.Notes.Kinds.{Note}
use Rattle.os_ast.specs.Rules.{when}
use Rattle.os_ast.specs.Violations.{violated, violations_at}
use Rattle.os_ast.specs.declared.expr.Mark.{Mark}
use Rattle.os_ast.specs.declared.violation.Violation.{Violation}
use Rattle.window_check_names.specs.BrokenRules.{all_rules, rule_list, least_rule, lesser_rule}
use Rattle.os_ast.specs.declared.rule.Rule.{Rule}
use Rattle.window_check_names.specs.declared.broken_rules.BrokenRules.{BrokenRules}
use Rattle.window_check_names.specs.Findings.{note, noted, pushed}
use Rattle.window_check_names.specs.declared.found.Found.{Found}

-- what is found of two parts
pub noted-append : (f : Found) (xs ys : List Note) → noted f (xs ++ ys) ≡ noted (noted f xs) ys
noted-append f [] ys = refl
noted-append f (x ∷ xs) ys = noted-append (note f x) xs ys

lesser_rule-assoc : (x : Rule) (c d : Option Rule) → lesser_rule (lesser_rule (Some x) c) d ≡ lesser_rule (Some x) (lesser_rule c d)
lesser_rule-assoc x None d = refl
lesser_rule-assoc x (Some c) None = refl
lesser_rule-assoc x (Some c) (Some d) = grind (arith, nat_tests)

-- the least of the rules of two lists
pub least_rule-append : (xs ys : List Rule) → least_rule (xs ++ ys) ≡ lesser_rule (least_rule xs) (least_rule ys)
least_rule-append [] ys = refl
least_rule-append (x ∷ xs) ys = ap (lesser_rule (Some x)) (least_rule-append xs ys) ∙ sym (lesser_rule-assoc x (least_rule xs) (least_rule ys))

-- the least of one rule or none
least_one : (o : Option Rule) → least_rule (rule_list o) ≡ o
least_one None = refl
least_one (Some c) = refl

pub least_all : (cs : BrokenRules) → lesser_rule cs.first (lesser_rule cs.second cs.third) ≡ least_rule (all_rules cs)
least_all cs =
    let rest = least_rule-append (rule_list cs.second) (rule_list cs.third) in
    let all = least_rule-append (rule_list cs.first) (rule_list cs.second ++ rule_list cs.third) in
    let one = least_one cs.first in
    let two = least_one cs.second in
    let three = least_one cs.third in
    cc

pub ruleset least_rules = (least_all)

-- one rule where it is violated
pub list_when : (b : Bool) (r : Rule) → rule_list (least_rule (when b r)) ≡ when b r
list_when true r = refl
list_when false r = refl

-- the violations of a token by some rules and by others
pub violations_at-append : (m : Mark) (cs ds : List Rule) → violations_at m (cs ++ ds) ≡ violations_at m cs ++ violations_at m ds
violations_at-append m [] ds = refl
violations_at-append m (c ∷ cs) ds = ap (λ vs. violated m.place c m.line ∷ vs) (violations_at-append m cs ds)

pub pushed-append : {A : Type 0} (xs ys zs : List A) → pushed xs (ys ++ zs) ≡ pushed (pushed xs ys) zs
pushed-append xs [] zs = refl
pushed-append xs (y ∷ ys) zs = pushed-append (xs ++ y ∷ []) ys zs

-- the violations of a token, rule by rule
pub pushed-rules : (vs : List Violation) (m : Mark) (cs ds : List Rule) → pushed vs (violations_at m (cs ++ ds)) ≡ pushed (pushed vs (violations_at m cs)) (violations_at m ds)
pushed-rules vs m cs ds = ap (pushed vs) (violations_at-append m cs ds) ∙ pushed-append vs (violations_at m cs) (violations_at m ds)

pub ruleset collecting = (list_when, pushed-rules)
