-- The code of a task's items leaves two operands for each.
use Rattle.std.proofs.Common.{◌≡◌, ℕ, suc, ◌+◌, ◌<◌, List, [], ◌∷◌, Option, Some, None, refl, arith, pos}
use Rattle.std.specs.Prelude.{⊤}
use Rattle.os_ast.specs.Names.{Scope}
use Rattle.os_ast.specs.Notes.Clauses.{window_notes, member_notes, members_notes}
use Rattle.os_ast.specs.Notes.Expressions.{index_notes, place_notes}
use Rattle.os_ast.specs.ClauseMembers.{ClauseMember, Item, Private, member_name, count_items, target_name}
use Rattle.os_ast.specs.Trees as tree
use Rattle.os_ast.specs.declared.names.Direction.{Direction}
use Rattle.os_ast.specs.declared.names.Direction.TheVariants as direction
use Rattle.os_ast.specs.declared.names.Role.TheVariants as role
use Rattle.os_ast.specs.declared.names.What.{What}
use Rattle.os_ast.specs.declared.names.What.TheVariants as what
use Rattle.os_code.specs.Parts.{Main}
use Rattle.os_code.specs.declared.instr.Instr.TheVariants as instr
use Rattle.lowering_relation.specs.Names.{first_of, count_of}
use Rattle.lowering_relation.specs.Tasks.{HasStream, bursting, HasBurst, HasJoin, HasItems}
use Rattle.lowering_relation.proofs.Homes.{Home, tells, Fits, AllFit}
use Rattle.lowering_relation.proofs.LaidExprs.{expr_lays}
use Rattle.lowering_relation.proofs.Lays.{Lays, Rises, fit_first, fit_rest, nothing, then_lays, to_end, to_height, straight}

-- the stream of an item or a tick is there
pub stream_fits : (h : Home) (d : Direction) (t : tree.TargetTree) (s : Scope) → AllFit h (place_notes s (role.Flow d) t) →
    first_of (tells h (target_name t).mark.place).what < h.code.streams
stream_fits h d (tree.Variable n) s fit = fit.0
stream_fits h d (tree.Element n m e) s fit = fit.0

module _ (h : Home) (in_main : h.kind ≡ Main) where
  pub stream_lays : (t : tree.TargetTree) (d : Direction) (s : Scope) (from to x : ℕ) → AllFit h (place_notes s (role.Flow d) t) →
      HasStream h.code (tells h) t from to → Lays h ⊤ from x to (suc x)
  stream_lays (tree.Variable n) d s from to x fit has =
      straight h (instr.Push (pos 0) ∷ []) from to x (suc x) has ((refl, refl, refl, refl), omega arith, tt, omega arith)
  stream_lays (tree.Element n m e) d s from to x fit has =
      then_lays h (expr_lays h e s from has.0 x fit.1 has.1).1
      (straight h (instr.CheckAt (count_of (tells h n.mark.place).what) m.line ∷ []) has.0 to (suc x) (suc x) has.2 ((refl, refl, refl, refl), omega arith, tt, omega arith))

  rises_bursting : (d : Direction) (w : What) (line x : ℕ) → Fits h w → Rises h (bursting d w line ∷ []) (suc x) (suc x)
  rises_bursting direction.Reads w line x fits = ((refl, refl, refl, refl), omega arith, in_main, omega arith)
  rises_bursting direction.Writes (what.Window slot) line x fits = ((refl, refl, refl, refl), omega arith, fits, omega arith)
  rises_bursting direction.Writes (what.Constant v) line x fits = ((refl, refl, refl, refl), omega arith, in_main, omega arith)
  rises_bursting direction.Writes (what.Function f) line x fits = ((refl, refl, refl, refl), omega arith, in_main, omega arith)
  rises_bursting direction.Writes (what.Scalar slot) line x fits = ((refl, refl, refl, refl), omega arith, in_main, omega arith)
  rises_bursting direction.Writes (what.Array first size) line x fits = ((refl, refl, refl, refl), omega arith, in_main, omega arith)
  rises_bursting direction.Writes (what.Stream first count) line x fits = ((refl, refl, refl, refl), omega arith, in_main, omega arith)
  rises_bursting direction.Writes (what.Element item) line x fits = ((refl, refl, refl, refl), omega arith, in_main, omega arith)
  rises_bursting direction.Writes (what.View item) line x fits = ((refl, refl, refl, refl), omega arith, in_main, omega arith)

  burst_lays : (d : Direction) (w : What) (burst : Option tree.IndexTree) (s : Scope) (from to x : ℕ) → Fits h w → AllFit h (index_notes s burst) →
      HasBurst h.code (tells h) d w burst from to → Lays h ⊤ from x to (suc x)
  burst_lays d w None s from to x fits fit has =
      straight h (instr.Push (pos 1) ∷ []) from to x (suc x) has ((refl, refl, refl, refl), omega arith, tt, omega arith)
  burst_lays d w (Some i) s from to x fits fit has =
      then_lays h (expr_lays h i.value s from has.0 x fit has.1).1 (straight h (bursting d w i.mark.line ∷ []) has.0 to (suc x) (suc x) has.2 (rises_bursting d w i.mark.line x fits))

  join_lays : (d : Direction) (stream : tree.TargetTree) (join : Option tree.JoinTree) (s : Scope) (before : List ℕ) (from to x : ℕ) →
      AllFit h (window_notes s before stream join) →
      HasJoin h.code (tells h) d join from to → Lays h ⊤ from x to (suc x)
  join_lays d stream None s before from to x fit has =
      straight h (instr.Push (pos 1) ∷ []) from to x (suc x) has ((refl, refl, refl, refl), omega arith, tt, omega arith)
  join_lays d stream (Some j) s before from to x fit has = burst_lays d (tells h j.name.mark.place).what j.burst s from to x fit.1.0 fit.1.1 has

  pub items_lay : (ps : List ClauseMember) (s : Scope) (before : List ℕ) (from to x : ℕ) → AllFit h (members_notes s before ps) → HasItems h.code (tells h) ps from to →
      Lays h ⊤ from x to (x + (count_items ps + count_items ps))
  items_lay [] s before from to x fit has = to_end h has (to_height h (omega arith) (nothing h from x))
  items_lay (Private n ∷ ps) s before from to x fit has = items_lay ps s ((member_name (Private n)).id ∷ before) from to x fit.1.1 has
  items_lay (Item d i ∷ ps) s before from to x fit has =
      let here = member_notes s before (Item d i) in
      let rest = members_notes s ((member_name (Item d i)).id ∷ before) ps in
      let first = fit_first h here rest fit in
      let stream = place_notes s (role.Flow d) i.stream in
      let window = window_notes s before i.stream i.window in
      to_height h (omega arith)
      (then_lays h (stream_lays i.stream d s from has.0 x (fit_first h stream window first) has.2)
      (then_lays h (join_lays d i.stream i.window s before has.0 has.1 (suc x) (fit_rest h stream window first) has.3)
      (items_lay ps s ((member_name (Item d i)).id ∷ before) has.1 to (suc (suc x)) (fit_rest h here rest fit) has.4)))
