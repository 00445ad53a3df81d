-- What a list of names says of a part of a program, and what a lawful part is.
use Rattle.std.specs.Prelude.{⊤, ◌≡◌, Bool, false, List, [], ◌∷◌, map, Contains}
use Rattle.std.specs.List.{flat_map}
use Rattle.os_ast.specs.Notes.Kinds.{Note}
use Rattle.os_ast.specs.Rules.{is_violated_by, note_rules, when}
use Rattle.os_ast.specs.Violations.{resolutions_of}
use Rattle.os_ast.specs.declared.names.Resolved.{Resolved}
use Rattle.os_ast.specs.declared.rule.Rule.{Rule}

-- each of some names stands in a list
abbrev pub AreIn : List Resolved → List Resolved → Type 0
AreIn all [] = ⊤
AreIn all (r ∷ rs) = Contains all r × AreIn all rs

-- the list says of each name among these notes what it means
abbrev pub Tells : List Resolved → List Note → Type 0
Tells all [] = ⊤
Tells all (n ∷ ns) = AreIn all (resolutions_of n) × Tells all ns

-- a rule with its test
pub record RuleTest : Type 0 where
  pub rule : Rule
  pub is_violated : Note → Bool

abbrev test : Rule → (Note → Bool) → RuleTest
test r is_violated = record { rule = r; is_violated = is_violated }

-- the rules for what stands at a token, each with its test
abbrev pub rules : List RuleTest
rules = map (λ r. test r (is_violated_by r)) note_rules

-- the rules among some that what stands at a token violates
abbrev pub broken_among : List RuleTest → Note → List Rule
broken_among ts n = flat_map (λ (t : RuleTest). when (t.is_violated n) t.rule) ts

-- what stands at a token keeps these rules
abbrev pub KeepsAll : List RuleTest → Note → Type 0
KeepsAll [] n = ⊤
KeepsAll (t ∷ ts) n = (t.is_violated n ≡ false) × KeepsAll ts n

-- each of these notes keeps all rules
abbrev pub AreLawful : List Note → Type 0
AreLawful [] = ⊤
AreLawful (n ∷ ns) = KeepsAll rules n × AreLawful ns
