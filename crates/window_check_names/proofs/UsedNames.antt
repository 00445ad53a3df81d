-- What is found where a name is used, or stands as a size.
use Rattle.std.proofs.Common.{◌≡◌, List, [], ◌∷◌, Option, Some, None, refl, sym, ap, ◌∙◌, subst}
use Rattle.os_ast.specs.Meanings.{meaning_in}
use Rattle.os_ast.specs.Names.{Scope, lookup, entity_of, flag_of}
use Rattle.os_ast.specs.Notes.Declarators.{constant_of, size_notes}
use Rattle.os_ast.specs.Notes.Kinds.{Used, Sized}
use Rattle.os_ast.specs.Trees as tree
use Rattle.os_ast.specs.Violations.{declared_meaning, violations_at}
use Rattle.os_ast.specs.declared.expr.Name.{Name}
use Rattle.os_ast.specs.declared.names.Entry.{Entry}
use Rattle.os_ast.specs.declared.names.Use.{Use}
use Rattle.os_ast.specs.declared.violation.Violation.{Violation}
use Rattle.window_check_names.proofs.AddedViolations.{constant-sized}
use Rattle.window_check_names.proofs.ByRule.{by_rule, used_rules}
use Rattle.window_check_names.specs.BrokenRules.{least_rule}
use Rattle.window_check_names.specs.Findings.{note, noted, judged, collected, judged_with_violation, named, constant_found, least_with, pushed}
use Rattle.window_check_names.specs.Sizes.{bare_name}
use Rattle.window_check_names.specs.Uses.{use_rules}
use Rattle.window_check_names.specs.declared.found.Found.{Found}
use Rattle.window_check_names.specs.declared.found.Judged.{Judged}
use Rattle.os_ast.specs.declared.rule.Rule.{Rule}
use Rattle.os_ast.specs.declared.rule.Rule.TheVariants as rule

judged-by : (j : Judged) (s : Scope) (n : Name) (u : Use) (d : Option Entry) → d ≡ lookup s.entries n.id →
    record { least = least_with j.least n.mark (least_rule (used_rules n.id u (entity_of d))); names = pushed j.names (declared_meaning n.mark (flag_of d) s.owner s.captured (entity_of d)); captured = j.captured }
    ≡ judged j (Used s n u)
judged-by j s n u d h =
    ap
    (λ (e : Option Entry). record { least = least_with j.least n.mark (least_rule (used_rules n.id u (entity_of e))); names = pushed j.names (declared_meaning n.mark (flag_of e) s.owner s.captured (entity_of e)); captured = j.captured })
    h

-- a name without a declaration
pub judged-unknown : (j : Judged) (s : Scope) (n : Name) (u : Use) → None ≡ lookup s.entries n.id → judged_with_violation j n.mark (Some rule.Unknown) ≡ judged j (Used s n u)
judged-unknown j s n u h = judged-by j s n u None h

-- a name with one
pub judged-known : (j : Judged) (s : Scope) (n : Name) (u : Use) (e : Entry) → Some e ≡ lookup s.entries n.id →
    named (judged_with_violation j n.mark (least_rule (use_rules n.id u e.entity))) n.mark (meaning_in s.owner s.captured e.entity) e.unsigned ≡ judged j (Used s n u)
judged-known j s n u e h =
    ap
    (λ (rs : List Rule). named (judged_with_violation j n.mark (least_rule rs)) n.mark (meaning_in s.owner s.captured e.entity) e.unsigned)
    (by_rule n.id u e.entity)
    ∙ judged-by j s n u (Some e) h

collected-by : (vs : List Violation) (s : Scope) (n : Name) (u : Use) (d : Option Entry) → d ≡ lookup s.entries n.id →
    pushed vs (violations_at n.mark (used_rules n.id u (entity_of d))) ≡ collected vs (Used s n u)
collected-by vs s n u d h = ap (λ (e : Option Entry). pushed vs (violations_at n.mark (used_rules n.id u (entity_of e)))) h

pub collected-unknown : (vs : List Violation) (s : Scope) (n : Name) (u : Use) → None ≡ lookup s.entries n.id →
    pushed vs (violations_at n.mark (rule.Unknown ∷ [])) ≡ collected vs (Used s n u)
collected-unknown vs s n u h = collected-by vs s n u None h

pub collected-known : (vs : List Violation) (s : Scope) (n : Name) (u : Use) (e : Entry) → Some e ≡ lookup s.entries n.id →
    pushed vs (violations_at n.mark (use_rules n.id u e.entity)) ≡ collected vs (Used s n u)
collected-known vs s n u e h = ap (λ (rs : List Rule). pushed vs (violations_at n.mark rs)) (by_rule n.id u e.entity) ∙ collected-by vs s n u (Some e) h

pub ruleset uses = (judged-unknown, judged-known, collected-unknown, collected-known)

-- the name of a size
pub sized-none : (f : Found) (s : Scope) (e : tree.ExprTree) → None ≡ bare_name e → f ≡ noted f (size_notes s e)
sized-none f s (tree.Number n) h = refl
sized-none f s (tree.Wide n) h = refl
sized-none f s (tree.Place (tree.Variable n)) h = absurd (cc)
sized-none f s (tree.Place (tree.Element n m e)) h = refl
sized-none f s (tree.ExprTree.Call g args) h = refl
sized-none f s (tree.Paren e) h = refl
sized-none f s (tree.Unary op m e) h = refl
sized-none f s (tree.Chain l first links) h = refl
sized-none f s (tree.Choice c a b) h = refl

pub sized-some : (f : Found) (s : Scope) (e : tree.ExprTree) (n : Name) → Some n ≡ bare_name e →
    constant_found f n.mark (constant_of (entity_of (lookup s.entries n.id))) (flag_of (lookup s.entries n.id)) ≡ noted f (size_notes s e)
sized-some f s (tree.Number n) m h = absurd (cc)
sized-some f s (tree.Wide n) m h = absurd (cc)
sized-some f s (tree.Place (tree.Variable n)) m h =
    let same : m ≡ n = cc in
    subst (λ (x : Name). constant_found f x.mark (constant_of (entity_of (lookup s.entries x.id))) (flag_of (lookup s.entries x.id)) ≡ note f (Sized s n)) (sym same) (constant-sized f s n)
sized-some f s (tree.Place (tree.Element n m e)) k h = absurd (cc)
sized-some f s (tree.ExprTree.Call g args) m h = absurd (cc)
sized-some f s (tree.Paren e) m h = absurd (cc)
sized-some f s (tree.Unary op m e) k h = absurd (cc)
sized-some f s (tree.Chain l first links) m h = absurd (cc)
sized-some f s (tree.Choice c a b) m h = absurd (cc)

pub ruleset sizes = (sized-none, sized-some)
