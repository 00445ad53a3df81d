-- A unit whose code goes from no operands to no operands, all of it fine.
use Rattle.std.proofs.Common.{◌≡◌, ℕ, ◌+◌, ◌-◌, ◌<◌, ◌≤◌, true, false, if◌then◌else◌, [], ◌∷◌, Some, None, refl, sym, ap, ◌∙◌, subst, inl, inr, arith, pos}
use Rattle.std.proofs.lemmas.Bool.{cases_lt}
use Rattle.std.specs.Prelude.{⊤, ◌⊎◌, IsTrue}
use Rattle.os_ast.specs.Names.{Scope}
use Rattle.os_ast.specs.Trees as tree
use Rattle.os_code.specs.Effects.{operands_of, height_after, jump_of, falls_through, needs_turn, stands_in}
use Rattle.os_code.specs.Parts.{instr_at, kind_at}
use Rattle.os_code.specs.declared.instr.Instr.{Instr}
use Rattle.os_code.specs.declared.instr.Instr.TheVariants as instr
use Rattle.os_code.specs.declared.parts.Parts.{Parts}
use Rattle.os_code.specs.declared.unit.CodeUnit.{CodeUnit}
use Rattle.lowering_relation.specs.Expressions.{Stands}
use Rattle.lowering_relation.specs.Statements.{Body, HasStmt, HasStmts}
use Rattle.lowering_relation.specs.Tasks.{tasks_of, all_tasks_of}
use Rattle.lowering_relation.proofs.Heights.{height_at, behind_one, height_behind}
use Rattle.lowering_relation.proofs.Homes.{Home, Suits, IsFine, AreFine, AllFit, AreSpawned}
use Rattle.lowering_relation.proofs.LaidStmts.{IsLeft, Runs, stmt_lays, stmts_lay}
use Rattle.lowering_relation.proofs.Lays.{Lays, at_one, then_lays, from_more, own_label, straight}
use Rattle.lowering_relation.proofs.OwnNotes.{own_notes, all_own_notes}

abbrev pub home_of : Parts → Body → (number : ℕ) → CodeUnit → Home
home_of code body number unit = record {
  code = code;
  body = body;
  number = number;
  kind = kind_at code number;
  first = unit.start;
  last = unit.start + unit.stack;
  slots = unit.slots;
}

-- from where a unit starts to where the next one does
pub record IsLaid (code : Parts) (number : ℕ) (unit : CodeUnit) : Type 0 where
  pub body : Body
  pub some : unit.start < unit.start + unit.stack
  pub height : height_at code unit.start ≡ 0 → height_at code (unit.start + unit.stack) ≡ 0
  pub fine : height_at code unit.start ≡ 0 → AreFine (home_of code body number unit) unit.start (unit.start + unit.stack)
  -- it doesn't go on past its end
  pub stays : (p : ℕ) (i : Instr) → unit.start ≤ p → p < unit.start + unit.stack → instr_at code p ≡ Some i → falls_through i ≡ true → p + 1 < unit.start + unit.stack
  pub args : unit.args ≤ unit.slots

module _ (code : Parts) (body : Body) (number : ℕ) (unit : CodeUnit) where
  abbrev home : Home
  home = home_of code body number unit

  -- behind the body stands an instruction that ends it
  closed_by : (place x : ℕ) (i : Instr) → Lays home ⊤ unit.start 0 place x → instr_at code place ≡ Some i → falls_through i ≡ false → jump_of i ≡ None →
      needs_turn i ≡ false → operands_of code i ≤ x → x ≤ 1 →
      Suits home i → unit.start + unit.stack ≡ place + 1 → unit.args ≤ unit.slots → IsLaid code number unit
  closed_by place x i front is off none low enough few suits ends args = record {
    body = body;
    some = omega (arith, ends, front.onward);
    height = λ e. ap (height_at code) ends ∙ height_behind code place i is ∙ behind (front.height e);
    fine = λ e p j ge lt there. by_place e p j ge lt there (cases_lt p place);
    stays = λ p j ge lt there on. by_end p j lt there on (cases_lt p place);
    args = args;
  }
    where
      behind : height_at code place ≡ x → behind_one code (height_at code place) i ≡ 0
      behind e = ap (λ t. if t then height_after code i (height_at code place) else height_at code place - 1) off ∙ omega (arith, e, few)

      by_place : height_at code unit.start ≡ 0 → (p : ℕ) (j : Instr) → unit.start ≤ p → p < unit.start + unit.stack → instr_at code p ≡ Some j →
          (p < place) ⊎ (place ≤ p) → IsFine home p j
      by_place e p j ge lt there (inl early) = front.fine tt (omega arith) (omega (arith, ends)) e p j ge early there
      by_place e p j ge lt there (inr late) =
          at_one home place i is
          (record {
            enough = omega (arith, enough, front.height e);
            jumps = λ to is_to. let z : None ≡ Some to = sym none ∙ is_to in absurd (cc);
            turned = λ t. let z : true ≡ false = sym t ∙ low in absurd (cc);
            suits = suits;
          })
          p j late (omega (arith, lt, ends)) there

      by_end : (p : ℕ) (j : Instr) → p < unit.start + unit.stack → instr_at code p ≡ Some j → falls_through j ≡ true → (p < place) ⊎ (place ≤ p) →
          p + 1 < unit.start + unit.stack
      by_end p j lt there on (inl early) = omega (arith, early, ends)
      by_end p j lt there on (inr late) =
          let same : p ≡ place = omega (arith, late, lt, ends) in
          let twice : Some i ≡ Some j = sym is ∙ subst (λ q. instr_at code q ≡ Some j) same there in
          let k : i ≡ j = cc in
          let z : true ≡ false = sym on ∙ ap falls_through (sym k) ∙ off in
          absurd (cc)

  -- the labels of a body are its end
  body_lays : (left : IsLeft home) (end : ℕ) → Runs home left end end end unit.start end → Lays home ⊤ unit.start 0 end 0
  body_lays left end runs = own_label home (from_more home (λ g lt. (g.1 lt, g.1 lt, g.1 lt)) runs.1)

  -- a function: behind its body stands a `Return` of 0
  pub function_laid : (ss : tree.Stmts) (s : Scope) (end last : ℕ) → body.leaves ≡ instr.Return → IsTrue (stands_in (kind_at code number) instr.Return) →
      AllFit home (all_own_notes s ss) →
      AreSpawned home (all_tasks_of ss) → HasStmts code body ss end end end unit.start end → Stands code (instr.Push (pos 0) ∷ instr.Return ∷ []) end last → unit.start + unit.stack ≡ last →
      unit.args ≤ unit.slots → IsLaid code number unit
  function_laid ss s end last leaves kind fit spawned has off ends args =
      let left : IsLeft home = inl (leaves, kind) in
      let front = body_lays left end (stmts_lay home left ss s end end end unit.start end fit spawned has) in
      let push = straight home (instr.Push (pos 0) ∷ []) end (end + 1) 0 1 (off.0, refl) ((refl, refl, refl, refl), omega arith, tt, omega arith) in
      closed_by (end + 1) 1 instr.Return (then_lays home front push) off.1.0 refl refl refl (omega arith) (omega arith) kind (ends ∙ sym off.1.1) args

  -- `main`, and a task: behind its body stands an `End`
  pub main_laid : (ss : tree.Stmts) (s : Scope) (end : ℕ) → body.leaves ≡ instr.End → IsTrue (stands_in (kind_at code number) instr.End) →
      AllFit home (all_own_notes s ss) →
      AreSpawned home (all_tasks_of ss) → HasStmts code body ss end end end unit.start end → Stands code (instr.End ∷ []) end (end + 1) → unit.start + unit.stack ≡ end + 1 → unit.args ≤ unit.slots →
      IsLaid code number unit
  main_laid ss s end leaves kind fit spawned has off ends args =
      let left : IsLeft home = inr (leaves, kind) in
      closed_by end 0 instr.End (body_lays left end (stmts_lay home left ss s end end end unit.start end fit spawned has)) off.0 refl refl refl (omega arith) (omega arith) kind ends args

  pub task_laid : (a : tree.StmtTree) (s : Scope) (end : ℕ) → body.leaves ≡ instr.End → IsTrue (stands_in (kind_at code number) instr.End) →
      AllFit home (own_notes s a) → AreSpawned home (tasks_of a) →
      HasStmt code body a end end end unit.start end → Stands code (instr.End ∷ []) end (end + 1) → unit.start + unit.stack ≡ end + 1 → unit.args ≤ unit.slots → IsLaid code number unit
  task_laid a s end leaves kind fit spawned has off ends args =
      let left : IsLeft home = inr (leaves, kind) in
      closed_by end 0 instr.End (body_lays left end (stmt_lays home left a s end end end unit.start end fit spawned has)) off.0 refl refl refl (omega arith) (omega arith) kind ends args
