-- What is found of a declarator, step by step.
use Rattle.std.proofs.Common.{◌≡◌, ◌&&◌, not, List, ◌++◌, Option, ap, sym, ◌∙◌, Bool}
use Rattle.os_ast.specs.Meanings.{what_declared}
use Rattle.os_ast.specs.Names.{Scope, declare, is_declared}
use Rattle.os_ast.specs.Notes.Declarators.{form, form_entity, taken, after_declarator, sized_notes, declarator_notes}
use Rattle.os_ast.specs.Notes.Expressions.{value_notes}
use Rattle.os_ast.specs.Notes.Kinds.{Declared}
use Rattle.os_ast.specs.Rules.{is_outermost, when}
use Rattle.os_ast.specs.Trees as tree
use Rattle.os_ast.specs.declared.names.Entity.{Entity}
use Rattle.os_ast.specs.declared.names.Form.{Form}
use Rattle.os_ast.specs.declared.names.What.{What}
use Rattle.window_check_names.proofs.AddedViolations.{means-declared}
use Rattle.window_check_names.proofs.Noted.{noted-append}
use Rattle.window_check_names.specs.BrokenRules.{rule_list, least_rule}
use Rattle.window_check_names.specs.Findings.{note, noted, with_violations, means}
use Rattle.window_check_names.specs.Sizes.{passes_limit}
use Rattle.window_check_names.specs.declared.found.Found.{Found}
use Rattle.os_ast.specs.declared.rule.Rule.{Rule}
use Rattle.os_ast.specs.declared.rule.Rule.TheVariants as rule

pub declarator-steps : (f named size : Found) (s after declared : Scope) (d : tree.DeclaratorTree) (fm : Form) (e : Entity) (c : Option Rule) (broken : List Rule) (w : What) (u : Bool) →
    fm ≡ form s d → e ≡ form_entity s fm → c ≡ least_rule (when (passes_limit (taken s fm) fm) rule.WrongSize) →
    broken
    ≡ rule_list (least_rule (when (is_declared s d.name.id) rule.DeclaredTwice))
    ++ (rule_list c ++ rule_list (least_rule (when (d.stream && not (is_outermost s.owner s.depth)) rule.Misplaced))) →
    w ≡ what_declared e → u ≡ s.unsigned → named ≡ means (with_violations f d.name.mark broken) d.name.mark w u →
    size ≡ noted named (sized_notes s d.stream d.size) → after ≡ taken s fm → declared ≡ declare after d.name.id e →
    noted size (value_notes declared d.first) ≡ noted f (declarator_notes s d)
declarator-steps f named size s after declared d fm e c broken w u hfm he hc hbroken hw hu hnamed hsize hafter hdeclared =
    rw (hsize, hnamed, hw, hu, hbroken, hc, hdeclared, hafter, he, hfm)
    (ap
    (λ (g : Found). noted (noted g (sized_notes s d.stream d.size)) (value_notes (after_declarator s d) d.first))
    (means-declared f s d)
    ∙ sym (noted-append (note f (Declared s d)) (sized_notes s d.stream d.size) (value_notes (after_declarator s d) d.first)))
