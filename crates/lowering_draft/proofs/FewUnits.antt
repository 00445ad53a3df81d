-- The units of a program have few instructions for its tokens.
use Rattle.std.proofs.Common.{ℕ, ◌+◌, ◌*◌, ◌≤◌, ◌==◌, Bool, true, false, if◌then◌else◌, List, [], ◌∷◌, length, None, arith}
use Rattle.std.proofs.lemmas.List.{length-map}
use Rattle.std.specs.Prelude.{pos}
use Rattle.lowering_draft.proofs.FewChanges.{type_words_grow}
use Rattle.lowering_draft.proofs.FewStatements.{function_pays, stmt_pays}
use Rattle.lowering_draft.proofs.Paying.{length-instrs}
use Rattle.lowering_draft.specs.Draft.{next_label, with_label, with_place}
use Rattle.lowering_draft.specs.Emission.Statements.{block_code, stmt_code}
use Rattle.lowering_draft.specs.Emission.Units.{exits_of, no_units, with_function, with_functions, with_item, with_task, with_tasks}
use Rattle.lowering_draft.specs.Few.{UnitsAreFew, units_most}
use Rattle.lowering_draft.specs.declared.units.Units.{Units}
use Rattle.os_ast.specs.Names.{main_id}
use Rattle.os_ast.specs.Spelling as spelling
use Rattle.os_ast.specs.Spelling.{Symbol, each, item, kind_of, symbols, sign}
use Rattle.os_ast.specs.Trees as tree
use Rattle.os_ast.specs.declared.names.Resolved.{Resolved}
use Rattle.os_code.specs.declared.instr.Instr.TheVariants.{End, Push, Return}
use Rattle.os_lexer.specs.declared.token.Punct.TheVariants as puncts
use Rattle.lowering_relation.specs.Tasks.{TaskTree, all_tasks_of, program_tasks}

sign_grows : (minus : Bool) (rest : List Symbol) → length rest ≤ length (sign minus rest)
sign_grows true rest = omega arith
sign_grows false rest = omega arith

numeral_grows : (wide : Bool) (n : ℕ) (rest : List Symbol) → length rest ≤ length (spelling.numeral wide n rest)
numeral_grows true n rest = omega arith
numeral_grows false n rest = omega arith

chosen_few : (t : Bool) (ts us : List TaskTree) → units_most (if t then ts else us) ≤ units_most ts + units_most us
chosen_few true ts us = omega arith
chosen_few false ts us = omega arith

module _ (tells : ℕ → Resolved) where
  function_few : (is_main : Bool) (f : tree.FunctionTree) (made : Units) (rest : List Symbol)
      → length (with_function is_main tells f made).draft.instrs + units_most (all_tasks_of f.body) + 8 * length rest
      ≤ length made.draft.instrs + 8 * length (item (tree.Function f) rest)
  function_few true f made rest =
      let d = made.draft in
      let body = block_code tells f.body (exits_of (next_label d) End) None (with_label d) in
      omega (arith, function_pays tells f (exits_of (next_label d) End) None (with_label d) rest, length-instrs (with_place body (next_label d)) (End ∷ []))
  function_few false f made rest =
      let d = made.draft in
      let body = block_code tells f.body (exits_of (next_label d) Return) None (with_label d) in
      omega (
        arith,
        function_pays tells f (exits_of (next_label d) Return) None (with_label d) rest,
        length-instrs (with_place body (next_label d)) (Push (pos 0) ∷ Return ∷ []),
      )

  functions_few : (is : List tree.ItemTree) (made : Units) (rest : List Symbol)
      → length (with_functions tells is made).draft.instrs + units_most (program_tasks is) + 8 * length rest ≤ length made.draft.instrs + 8 * length
      (each item is rest)
  functions_few [] made rest = omega arith
  functions_few (tree.Constant c ∷ is) made rest =
      let last = spelling.punct puncts.Semicolon (each item is rest) in
      let behind = spelling.numeral c.wide c.size last in
      omega (
        arith,
        functions_few is made rest,
        type_words_grow c.ty (spelling.name c.name (spelling.punct puncts.Set (sign c.minus behind))),
        sign_grows c.minus behind,
        numeral_grows c.wide c.size last,
      )
  functions_few (tree.Function f ∷ is) made rest =
      omega (
        arith,
        function_few (f.name.id == main_id) f made (each item is rest),
        functions_few is (with_item tells (tree.Function f) made) rest,
        chosen_few (f.name.id == main_id) (all_tasks_of f.body) (program_tasks is),
      )

  tasks_few : (captured : List (List ℕ)) (ts : List TaskTree) (made : Units)
      → length (with_tasks tells captured ts made).draft.instrs ≤ length made.draft.instrs + units_most ts
  tasks_few captured [] made = omega arith
  tasks_few captured (t ∷ ts) made =
      let d = made.draft in
      let body = stmt_code tells t.body (exits_of (next_label d) End) None (with_label d) in
      omega (
        arith,
        stmt_pays tells t.body (exits_of (next_label d) End) None (with_label d) [],
        length-instrs (with_place body (next_label d)) (End ∷ []),
        tasks_few captured ts (with_task tells captured t made),
      )

pub program_few : UnitsAreFew
program_few tells captured p =
    let functions = with_functions tells p no_units in
    omega (arith, functions_few tells p no_units [], tasks_few tells captured (program_tasks p) functions, length-map (symbols p) kind_of)
