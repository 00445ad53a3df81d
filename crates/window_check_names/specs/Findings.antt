-- What a walk over a program has found so far, token by token.
use Rattle.std.specs.Prelude.{ℕ, ◌==◌, ◌||◌, ◌&&◌, ltb, Bool, not, if◌then◌else◌, List, [], ◌∷◌, ◌++◌, length, Option, Some, None, ℤ}
use Rattle.os_ast.specs.Codes.{code}
use Rattle.os_ast.specs.Meanings.{resolved}
use Rattle.os_ast.specs.Notes.Kinds.{Note, mark_of}
use Rattle.os_ast.specs.Rules.{broken, when, takes_more, is_main_body}
use Rattle.os_ast.specs.Notes.Clauses.{captured_in}
use Rattle.os_ast.specs.Violations.{violated, violations_at, resolutions_of, captures_of, main_task}
use Rattle.os_ast.specs.declared.expr.Mark.{Mark}
use Rattle.os_ast.specs.declared.names.Owner.{Owner}
use Rattle.os_ast.specs.declared.names.Owner.TheVariants as owner
use Rattle.os_ast.specs.declared.names.What.{What}
use Rattle.os_ast.specs.declared.names.What.TheVariants as what
use Rattle.os_ast.specs.declared.violation.Violation.{Violation}
use Rattle.window_check_names.specs.BrokenRules.{rule_list, least_rule}
use Rattle.window_check_laws.specs.Slots.{with_slots, named_slots}
use Rattle.window_check_names.specs.declared.found.Found.{Found}
use Rattle.window_check_names.specs.declared.found.Found.TheVariants.{Listing, Judging, Collecting}
use Rattle.window_check_names.specs.declared.found.Judged.{Judged}
use Rattle.os_ast.specs.declared.rule.Rule.{Rule}
use Rattle.os_ast.specs.declared.rule.Rule.TheVariants as rule

abbrev pub nothing_found : Judged
nothing_found = record { least = None; names = []; captured = [] }

-- by place, then by code, then by line
abbrev pub before : Violation → Violation → Bool
before v w = ltb v.place w.place || ((v.place == w.place) && (ltb (code v.rule) (code w.rule) || ((code v.rule == code w.rule) && ltb v.line w.line)))

abbrev pub lesser : Option Violation → Violation → Violation
lesser None v = v
lesser (Some least) v = if before v least then v else least

-- with a violation of a token, where there is a rule
abbrev pub least_with : Option Violation → Mark → Option Rule → Option Violation
least_with least m None = least
least_with least m (Some r) = Some (lesser least (violated m.place r m.line))

-- items at the end of a list
abbrev pub pushed : {A : Type 0} → List A → List A → List A
pushed xs [] = xs
pushed xs (y ∷ ys) = pushed (xs ++ y ∷ []) ys

-- what stands at one more token is judged
abbrev pub judged : Judged → Note → Judged
judged j n = record {
  least = least_with j.least (mark_of n) (least_rule (broken n));
  names = pushed j.names (resolutions_of n);
  captured = pushed j.captured (captures_of n);
}

-- the violations of what stands at one more token are collected
abbrev pub collected : List Violation → Note → List Violation
collected vs n = pushed vs (violations_at (mark_of n) (broken n))

-- what stands at one more token is noted: the slot that it names is listed, or it is judged, or its violations are collected
abbrev pub note : Found → Note → Found
note (Listing slots) n = Listing (with_slots (named_slots n) slots)
note (Judging j) n = Judging (judged j n)
note (Collecting vs) n = Collecting (collected vs n)

abbrev pub noted : Found → List Note → Found
noted f [] = f
noted f (n ∷ ns) = noted (note f n) ns

-- the steps of this: a violation, where there is a rule
abbrev pub judged_with_violation : Judged → Mark → Option Rule → Judged
judged_with_violation j m r = record j { least = least_with j.least m r }

abbrev pub with_violation : Found → Mark → Option Rule → Found
with_violation (Listing slots) m r = Listing slots
with_violation (Judging j) m r = Judging (judged_with_violation j m r)
with_violation (Collecting vs) m r = Collecting (pushed vs (violations_at m (rule_list r)))

-- a violation for each of some rules
abbrev pub with_violations : Found → Mark → List Rule → Found
with_violations (Listing slots) m rs = Listing slots
with_violations (Judging j) m rs = Judging (judged_with_violation j m (least_rule rs))
with_violations (Collecting vs) m rs = Collecting (pushed vs (violations_at m rs))

-- what a name means, and whether that is of the type `unsigned`
abbrev pub named : Judged → Mark → What → Bool → Judged
named j m w unsigned = record j { names = j.names ++ resolved m.place w unsigned ∷ [] }

abbrev pub means : Found → Mark → What → Bool → Found
means (Listing slots) m w unsigned = Listing slots
means (Judging j) m w unsigned = Judging (named j m w unsigned)
means (Collecting vs) m w unsigned = Collecting vs

-- the value of a constant, where a name is one's
abbrev pub constant_found : Found → Mark → Option ℤ → Bool → Found
constant_found f m None unsigned = f
constant_found f m (Some v) unsigned = means f m (what.Constant v) unsigned

-- the start of a task: elsewhere than in `main` none may stand
abbrev pub task_rules : Owner → ℕ → List ℕ → List Rule
task_rules owner.OfMain items slots = when (takes_more items (length slots)) rule.TaskLimit
task_rules owner.OfFunction items slots = rule.Misplaced ∷ []
task_rules owner.OfTask items slots = rule.Misplaced ∷ []

abbrev pub started_in : Judged → Owner → Mark → ℕ → List ℕ → Judged
started_in j o m items slots = record (judged_with_violation j m (least_rule (task_rules o items slots))) { captured = pushed j.captured (main_task o slots) }

-- all rules that the start of a task violates
abbrev pub all_task_rules : Owner → ℕ → ℕ → List Rule
all_task_rules o items scalars = when (not (is_main_body o)) rule.Misplaced ++ when (takes_more items scalars) rule.TaskLimit

abbrev pub started : Found → Owner → Mark → ℕ → List ℕ → Found
started (Listing listed) o m items slots = Listing listed
started (Judging j) o m items slots = Judging (started_in j o m items slots)
started (Collecting vs) o m items slots = Collecting (pushed vs (violations_at m (all_task_rules o items (length slots))))

-- The scalars that a walk over a task's body is told to be captured: none for a task that stands elsewhere than in `main`,
-- unless all violations are collected.
abbrev pub captured_for : Found → Owner → List ℕ → List ℕ
captured_for (Listing listed) o slots = captured_in o slots
captured_for (Judging j) o slots = captured_in o slots
captured_for (Collecting vs) o slots = slots

-- the slots that were listed
abbrev pub slots_found : Found → List ℕ
slots_found (Listing slots) = slots
slots_found (Judging j) = []
slots_found (Collecting vs) = []

-- what a walk judged; nothing where it didn't judge
abbrev pub judged_in : Found → Judged
judged_in (Listing slots) = nothing_found
judged_in (Judging j) = j
judged_in (Collecting vs) = nothing_found

-- the violations that were collected
abbrev pub violations_in : Found → List Violation
violations_in (Listing slots) = []
violations_in (Judging j) = []
violations_in (Collecting vs) = vs
