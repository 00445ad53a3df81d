-- What is found of a token that is no used name: the code's steps are those of its note.
use Rattle.std.proofs.Common.{◌≡◌, ℕ, ◌&&◌, ◌||◌, Bool, true, false, not, if◌then◌else◌, ltb, List, [], ◌∷◌, ◌++◌, length, Option, Some, None, ℤ, pos, negsuc, refl, ap, sym, ◌∙◌}
use Rattle.std.specs.Prelude.{is_none}
use Rattle.std.proofs.lemmas.List.{length-map}
use Rattle.os_ast.specs.Captured.{Scalar, slots_of}
use Rattle.os_ast.specs.Limits.{is_size, elements_limit, arrays_limit, streams_limit}
use Rattle.os_ast.specs.Meanings.{what_declared}
use Rattle.os_ast.specs.Names.{Scope, declare, is_declared, lookup, entity_of, flag_of}
use Rattle.os_ast.specs.Notes.Clauses.{captured_in}
use Rattle.os_ast.specs.Notes.Declarators.{form, form_with, sized_form, limited, size_value, size_told, taken, after_declarator, scalar_entity, declared_entity, constant_of}
use Rattle.os_ast.specs.Notes.Kinds.{Sized, Declared, Parameter, Global, Left, Returned, Pragma, Task, Listed}
use Rattle.os_ast.specs.Rules.{when, is_main_body, is_task_body, is_outermost, has_no_size, has_too_many, takes_more}
use Rattle.os_ast.specs.Trees.{DeclaratorTree, IndexTree}
use Rattle.os_ast.specs.Violations.{constant_meaning, main_task}
use Rattle.os_ast.specs.declared.expr.Mark.{Mark}
use Rattle.os_ast.specs.declared.expr.Name.{Name}
use Rattle.os_ast.specs.declared.program.Param.{Param}
use Rattle.os_ast.specs.Unsigned.{is_unsigned}
use Rattle.os_ast.specs.ClauseMembers.{is_in}
use Rattle.os_ast.specs.declared.names.Form.{Form}
use Rattle.os_ast.specs.declared.names.Form.TheVariants as form_of
use Rattle.os_ast.specs.declared.names.Owner.{Owner}
use Rattle.os_ast.specs.declared.names.Owner.TheVariants as owner
use Rattle.os_ast.specs.Violations.{violations_at}
use Rattle.os_ast.specs.declared.violation.Violation.{Violation}
use Rattle.window_check_names.specs.BrokenRules.{rule_list, least_rule}
use Rattle.window_check_names.specs.Findings.{note, with_violation, with_violations, means, constant_found, started, started_in, captured_for, all_task_rules, least_with, pushed}
use Rattle.window_check_names.specs.Sizes.{passes_limit}
use Rattle.window_check_names.specs.declared.found.Found.{Found}
use Rattle.window_check_names.specs.declared.found.Found.TheVariants.{Listing, Judging, Collecting}
use Rattle.window_check_names.specs.declared.found.Judged.{Judged}
use Rattle.os_ast.specs.declared.rule.Rule.{Rule}
use Rattle.os_ast.specs.declared.rule.Rule.TheVariants as rule

-- one rule alone
alone : (b : Bool) (r : Rule) → least_rule (when b r) ≡ least_rule (when b r ++ [])
alone true r = refl
alone false r = refl

-- another rule of the same token
recoded : (j : Judged) (m : Mark) {c d : Option Rule} → c ≡ d → with_violation (Judging j) m c ≡ with_violation (Judging j) m d
recoded j m h = ap (with_violation (Judging j) m) h

-- the same of the violations of a token
listed_alone : (b : Bool) (r : Rule) → rule_list (least_rule (when b r)) ≡ when b r ++ []
listed_alone true r = refl
listed_alone false r = refl

recollected : (vs : List Violation) (m : Mark) {cs ds : List Rule} → cs ≡ ds → Collecting (pushed vs (violations_at m cs)) ≡ Collecting (pushed vs (violations_at m ds))
recollected vs m h = ap (λ cs. Collecting (pushed vs (violations_at m cs))) h

-- `break` and `continue`
pub with_violation-left : (f : Found) (s : Scope) (m : Mark) → with_violation f m (least_rule (when (not s.loop) rule.OutsideLoop)) ≡ note f (Left s m)
with_violation-left (Listing slots) s m = refl
with_violation-left (Judging j) s m = recoded j m (alone (not s.loop) rule.OutsideLoop)
with_violation-left (Collecting vs) s m = recollected vs m (listed_alone (not s.loop) rule.OutsideLoop)

pub with_violation-returned : (f : Found) (s : Scope) (m : Mark) → with_violation f m (least_rule (when (is_task_body s.owner) rule.ReturnInTask)) ≡ note f (Returned s m)
with_violation-returned (Listing slots) s m = refl
with_violation-returned (Judging j) s m = recoded j m (alone (is_task_body s.owner) rule.ReturnInTask)
with_violation-returned (Collecting vs) s m = recollected vs m (listed_alone (is_task_body s.owner) rule.ReturnInTask)

pub with_violation-pragma : (f : Found) (s : Scope) (m : Mark) → with_violation f m (least_rule (when (not (is_main_body s.owner)) rule.Misplaced)) ≡ note f (Pragma s m)
with_violation-pragma (Listing slots) s m = refl
with_violation-pragma (Judging j) s m = recoded j m (alone (not (is_main_body s.owner)) rule.Misplaced)
with_violation-pragma (Collecting vs) s m = recollected vs m (listed_alone (not (is_main_body s.owner)) rule.Misplaced)

pub with_violation-global : (f : Found) (s : Scope) (n : Name) → with_violation f n.mark (least_rule (when (is_declared s n.id) rule.DeclaredTwice)) ≡ note f (Global s n)
with_violation-global (Listing slots) s n = refl
with_violation-global (Judging j) s n = recoded j n.mark (alone (is_declared s n.id) rule.DeclaredTwice)
with_violation-global (Collecting vs) s n = recollected vs n.mark (listed_alone (is_declared s n.id) rule.DeclaredTwice)

pub with_violation-listed : (f : Found) (before : List ℕ) (n : Name) → with_violation f n.mark (least_rule (when (is_in n.id before) rule.ListedTwice)) ≡ note f (Listed before n)
with_violation-listed (Listing slots) before n = refl
with_violation-listed (Judging j) before n = recoded j n.mark (alone (is_in n.id before) rule.ListedTwice)
with_violation-listed (Collecting vs) before n = recollected vs n.mark (listed_alone (is_in n.id before) rule.ListedTwice)

-- a parameter
pub means-given : (f : Found) (s : Scope) (p : Param) →
    means (with_violations f p.name.mark (rule_list (least_rule (when (is_declared s p.name.id) rule.DeclaredTwice)))) p.name.mark (what_declared (scalar_entity s.owner s.slots)) (is_unsigned p.ty)
    ≡ note f (Parameter s p)
means-given (Listing slots) s p = refl
means-given (Judging j) s p =
    ap (λ f. means f p.name.mark (what_declared (scalar_entity s.owner s.slots)) (is_unsigned p.ty)) (recoded j p.name.mark (ap least_rule (listed_alone (is_declared s p.name.id) rule.DeclaredTwice)))
means-given (Collecting vs) s p = recollected vs p.name.mark (listed_alone (is_declared s p.name.id) rule.DeclaredTwice)

-- a declarator
three : (a b c : Bool) → rule_list (least_rule (when a rule.DeclaredTwice)) ++ (rule_list (least_rule (when b rule.WrongSize)) ++ rule_list (least_rule (when c rule.Misplaced))) ≡ when a rule.DeclaredTwice ++ (when b rule.WrongSize ++ (when c rule.Misplaced ++ []))
three true true true = refl
three true true false = refl
three true false true = refl
three true false false = refl
three false true true = refl
three false true false = refl
three false false true = refl
three false false false = refl

-- the size of a declarator, as the code finds it
limited-none : (v : Option ℤ) → is_none (limited v) ≡ not (is_size v)
limited-none None = refl
limited-none (Some (pos n)) = chosen (is_size (Some (pos n)))
  where
    chosen : (b : Bool) → is_none (if b then Some n else None) ≡ not b
    chosen true = refl
    chosen false = refl
limited-none (Some (negsuc n)) = refl

wrong-sized : (o : Owner) (s : Scope) (after : Scope) (v : Option ℤ) → has_no_size (sized_form o (limited v)) v || has_too_many after (sized_form o (limited v)) ≡ passes_limit after (sized_form o (limited v))
wrong-sized owner.OfMain s after v = refl
wrong-sized owner.OfFunction s after v = ap (λ b. b || (ltb elements_limit after.elements || ltb arrays_limit after.arrays)) (sym (limited-none v))
wrong-sized owner.OfTask s after v = ap (λ b. b || (ltb elements_limit after.elements || ltb arrays_limit after.arrays)) (sym (limited-none v))

wrong-size : (s after : Scope) (stream : Bool) (i : Option IndexTree) →
    has_no_size (form_with s stream i) (size_told s i) || has_too_many after (form_with s stream i) ≡ passes_limit after (form_with s stream i)
wrong-size s after false None = refl
wrong-size s after false (Some i) = wrong-sized s.owner s after (size_value s i.value)
wrong-size s after true None = refl
wrong-size s after true (Some i) = ap (λ b. b || ltb streams_limit after.streams) (sym (limited-none (size_value s i.value)))

-- behind a declarator as much is taken as by its form
passes-same : (s : Scope) (d : DeclaratorTree) → passes_limit (after_declarator s d) (form s d) ≡ passes_limit (taken s (form s d)) (form s d)
passes-same s d = same (form s d)
  where
    same : (f : Form) → passes_limit (declare (taken s f) d.name.id (declared_entity s d)) f ≡ passes_limit (taken s f) f
    same form_of.Scalar = refl
    same (form_of.Array n) = refl
    same form_of.Window = refl
    same form_of.Stream = refl
    same (form_of.Streams n) = refl

declared-rules : (s : Scope) (d : DeclaratorTree) →
    rule_list (least_rule (when (is_declared s d.name.id) rule.DeclaredTwice))
    ++ (rule_list (least_rule (when (passes_limit (taken s (form s d)) (form s d)) rule.WrongSize))
    ++ rule_list (least_rule (when (d.stream && not (is_outermost s.owner s.depth)) rule.Misplaced)))
    ≡ when (is_declared s d.name.id) rule.DeclaredTwice
    ++ (when (has_no_size (form s d) (size_told s d.size) || has_too_many (after_declarator s d) (form s d)) rule.WrongSize
    ++ (when (d.stream && not (is_outermost s.owner s.depth)) rule.Misplaced ++ []))
declared-rules s d =
    let twice = is_declared s d.name.id in
    let apart = d.stream && not (is_outermost s.owner s.depth) in
    three twice (passes_limit (taken s (form s d)) (form s d)) apart
    ∙ ap
    (λ b. when twice rule.DeclaredTwice ++ (when b rule.WrongSize ++ (when apart rule.Misplaced ++ [])))
    (sym (wrong-size s (after_declarator s d) d.stream d.size ∙ passes-same s d))

pub means-declared : (f : Found) (s : Scope) (d : DeclaratorTree) →
    means
    (with_violations f d.name.mark
    (rule_list (least_rule (when (is_declared s d.name.id) rule.DeclaredTwice))
    ++ (rule_list (least_rule (when (passes_limit (taken s (form s d)) (form s d)) rule.WrongSize))
    ++ rule_list (least_rule (when (d.stream && not (is_outermost s.owner s.depth)) rule.Misplaced)))))
    d.name.mark (what_declared (declared_entity s d)) s.unsigned
    ≡ note f (Declared s d)
means-declared (Listing slots) s d = refl
means-declared (Judging j) s d =
    ap
    (λ f. means f d.name.mark (what_declared (declared_entity s d)) s.unsigned)
    (recoded j d.name.mark (ap least_rule (declared-rules s d)))
means-declared (Collecting vs) s d = recollected vs d.name.mark (declared-rules s d)

-- the name of a size
constant-sized-in : (j : Judged) (m : Mark) (u : Bool) (v : Option ℤ) → constant_found (Judging j) m v u ≡ Judging (record j { names = pushed j.names (constant_meaning m u v) })
constant-sized-in j m u None = refl
constant-sized-in j m u (Some v) = refl

pub constant-sized : (f : Found) (s : Scope) (n : Name) → constant_found f n.mark (constant_of (entity_of (lookup s.entries n.id))) (flag_of (lookup s.entries n.id)) ≡ note f (Sized s n)
constant-sized (Listing slots) s n = listing (constant_of (entity_of (lookup s.entries n.id)))
  where
    listing : (v : Option ℤ) → constant_found (Listing slots) n.mark v (flag_of (lookup s.entries n.id)) ≡ Listing slots
    listing None = refl
    listing (Some v) = refl
constant-sized (Collecting vs) s n = collecting (constant_of (entity_of (lookup s.entries n.id)))
  where
    collecting : (v : Option ℤ) → constant_found (Collecting vs) n.mark v (flag_of (lookup s.entries n.id)) ≡ Collecting vs
    collecting None = refl
    collecting (Some v) = refl
constant-sized (Judging j) s n = constant-sized-in j n.mark (flag_of (lookup s.entries n.id)) (constant_of (entity_of (lookup s.entries n.id)))

-- the start of a task: where it stands elsewhere than in `main`, that is the least violation
behind : (b : Bool) → least_rule (rule.Misplaced ∷ []) ≡ least_rule (when true rule.Misplaced ++ (when b rule.TaskLimit ++ []))
behind true = refl
behind false = refl

with_task : (j : Judged) (m : Mark) (xs : List (List ℕ)) {c d : Option Rule} → c ≡ d →
    Judging (record j { least = least_with j.least m c; captured = xs }) ≡ Judging (record j { least = least_with j.least m d; captured = xs })
with_task j m xs h = ap (λ c. Judging (record j { least = least_with j.least m c; captured = xs })) h

starts-in : (j : Judged) (o : Owner) (m : Mark) (items : ℕ) (slots : List ℕ) →
    Judging (started_in j o m items (captured_in o slots))
    ≡ Judging (record j { least = least_with j.least m (least_rule (when (not (is_main_body o)) rule.Misplaced ++ (when (takes_more items (length slots)) rule.TaskLimit ++ []))); captured = pushed j.captured (main_task o slots) })
starts-in j owner.OfMain m items slots = with_task j m _ (alone (takes_more items (length slots)) rule.TaskLimit)
starts-in j owner.OfFunction m items slots = with_task j m _ (behind (takes_more items (length slots)))
starts-in j owner.OfTask m items slots = with_task j m _ (behind (takes_more items (length slots)))

task_tests : (a b : Bool) → when a rule.Misplaced ++ when b rule.TaskLimit ≡ when a rule.Misplaced ++ (when b rule.TaskLimit ++ [])
task_tests true true = refl
task_tests true false = refl
task_tests false true = refl
task_tests false false = refl

pub started-task : (f : Found) (s : Scope) (m : Mark) (items : ℕ) (cs : List Scalar) →
    started f s.owner m items (captured_for f s.owner (slots_of cs)) ≡ note f (Task s m items cs)
started-task (Listing listed) s m items cs = refl
started-task (Collecting vs) s m items cs =
    recollected vs m
    (ap (λ (n : ℕ). all_task_rules s.owner items n) (length-map cs (λ (c : Scalar). c.slot))
    ∙ task_tests (not (is_main_body s.owner)) (takes_more items (length cs)))
started-task (Judging j) s m items cs =
    starts-in j s.owner m items (slots_of cs)
    ∙ ap
    (λ (n : ℕ). Judging (record j { least = least_with j.least m (least_rule (when (not (is_main_body s.owner)) rule.Misplaced ++ (when (takes_more items n) rule.TaskLimit ++ []))); captured = pushed j.captured (main_task s.owner (slots_of cs)) }))
    (length-map cs (λ (c : Scalar). c.slot))

pub ruleset added_notes = (with_violation-left, with_violation-returned, with_violation-pragma, with_violation-global, with_violation-listed, means-given)
