use Rattle.std.proofs.Common.{◌≡◌, ◌≤◌, ◌+◌, ◌∙◌, ap, sym, length, Option, arith, refl}
use Rattle.os_ast.specs.Names.{Scope}
use Rattle.os_ast.specs.Notes.Programs.{file, after_items}
use Rattle.os_ast.specs.Spelling.{spell}
use Rattle.os_ast.specs.Trees.{ProgramTree}
use Rattle.os_ast.specs.Views.{program_tree}
use Rattle.os_ast.specs.Violations.{violated}
use Rattle.os_ast.specs.declared.violation.Violation.{Violation}
use Rattle.os_ast.specs.declared.rule.Rule.TheVariants as rule
use Rattle.window_check_laws.specs.Room.{items_weight, room_end}
use Rattle.window_check_names.specs.declared.found.Judged.{Judged}
use Rattle.window_check_laws.proofs.HasRoom.{room_less, room_items_of_file}
use Rattle.window_check.proofs.Refused.{all_judged, refused, refused-end, lawful, found-names, found-captured}
use Rattle.window_check_laws.proofs.Weights.{room}
use Rattle.window_check.proofs.checker.check.Goals as goal

-- how many streams it has
few_streams : (p : ProgramTree) → length (spell p) ≤ 262144 → (after_items file p).streams ≤ room_end
few_streams p few =
    omega (arith, (room_items_of_file file p 0 refl (room_less file (items_weight p) (items_weight p + 0) (room p few) (omega arith))).streams)

pub judge-requires-clause-room : goal.judge-requires-clause-room
judge-requires-clause-room c = room (program_tree c.args.program) c.requires.few

-- what the walk found, by the parts of it that were taken out
found_least : (p : ProgramTree) (j : Judged) (least : Option Violation) → j ≡ all_judged p → least ≡ j.least → (all_judged p).least ≡ least
found_least p j least is same = sym (same ∙ ap (λ (j : Judged). j.least) is)

pub returns-in-Some-clause-refused : goal.returns-in-Some-clause-refused
returns-in-Some-clause-refused c =
    let p = program_tree c.args.program in (
      c.in-Some.violation,
      refused p c.in-Some.violation c.requires.placed
          (found_least p c.in_ok-judged.judged c.into_parts-least.result.0 c.in_ok-judged.ensures.judged c.into_parts-least.ensures.least ∙ c.in-Some.is),
      sym c.code.ensures,
      refl,
    )

pub returns-then-not-has_main-clause-refused : goal.returns-then-not-has_main-clause-refused
returns-then-not-has_main-clause-refused c =
    let p = program_tree c.args.program in (
      violated (length (spell p)) rule.NoMain 1,
      refused-end p
          (found_least p c.in_ok-judged.judged c.into_parts-least.result.0 c.in_ok-judged.ensures.judged c.into_parts-least.ensures.least ∙ c.in_default.is)
          (sym c.has_main.ensures ∙ c.if-not-has_main.true),
      sym c.code-then-not-has_main.ensures,
      refl,
    )

pub overflow_add-result : goal.overflow_add-result
overflow_add-result c =
    let p = program_tree c.args.program in
    omega (arith, few_streams p c.requires.few, c.streams.ensures, ap (λ (s : Scope). s.streams) c.in_ok-judged.ensures.scopes)

pub invariant_of-result : goal.invariant_of-result
invariant_of-result c =
    let p = program_tree c.args.program in
    record {
      leveled = c.requires.leveled;
      few = c.requires.few;
      placed = c.requires.placed;
      lawful = lawful p
          (found_least p c.in_ok-judged.judged c.into_parts-least.result.0 c.in_ok-judged.ensures.judged c.into_parts-least.ensures.least ∙ c.in_default.is)
          (sym c.has_main.ensures ∙ c.if-not-has_main.false);
      named = c.into_parts-least.ensures.names ∙ (ap (λ (j : Judged). j.names) c.in_ok-judged.ensures.judged ∙ found-names p);
      captures = c.into_parts-least.ensures.captured ∙ (ap (λ (j : Judged). j.captured) c.in_ok-judged.ensures.judged ∙ found-captured p);
      counted = ap (λ n. 2 + n) (c.streams.ensures ∙ ap (λ (s : Scope). s.streams) c.in_ok-judged.ensures.scopes);
    }
