-- The items of tasks, and ticks: their code keeps the labels that are there, and stands for them.
use Rattle.std.proofs.Common.{◌≡◌, ℕ, List, [], ◌∷◌, length, Option, Some, None, refl}
use Rattle.std.specs.Prelude.{pos}
use Rattle.lowering_draft.proofs.Becoming.{back}
use Rattle.lowering_draft.proofs.ExpressionsStand.{expr_stands, stands_instr, stands_plain}
use Rattle.lowering_draft.proofs.Keeping.{KeepsLabels, kept, keeps_instr, keeps_instrs}
use Rattle.lowering_draft.proofs.KeptExpressions.{and_then_kept, expr_kept}
use Rattle.lowering_draft.specs.Draft.{Becomes, with_places}
use Rattle.lowering_draft.specs.Emission.Expressions.{expr_code}
use Rattle.lowering_draft.specs.Emission.Tasks.{burst_code, item_code, items_code, join_code, stream_code, tick_code}
use Rattle.lowering_draft.specs.Given.{IsItem, joined}
use Rattle.lowering_draft.specs.declared.draft.Draft.{Draft}
use Rattle.os_ast.specs.Leveled as leveled
use Rattle.os_ast.specs.Leveled.{AreAll, IsExpr, IsTarget}
use Rattle.os_ast.specs.ClauseMembers.{ClauseMember, Item, Private, target_name}
use Rattle.os_ast.specs.Trees as tree
use Rattle.os_ast.specs.declared.names.Direction.{Direction}
use Rattle.os_ast.specs.declared.names.Direction.TheVariants as direction
use Rattle.os_ast.specs.declared.names.Resolved.{Resolved}
use Rattle.os_ast.specs.declared.names.What.{What}
use Rattle.os_ast.specs.declared.names.What.TheVariants as what
use Rattle.os_code.specs.declared.instr.Instr.TheVariants.{BurstIn, CheckAt, Push, Tick, Turn}
use Rattle.os_code.specs.declared.parts.Parts.{Parts}
use Rattle.lowering_relation.specs.Expressions.{HasExpr, Stands}
use Rattle.lowering_relation.specs.Names.{count_of, first_of}
use Rattle.lowering_relation.specs.Tasks.{HasBurst, HasItems, HasJoin, HasStream, bursting}

-- a check has no label
plain-bursting : (place_of : ℕ → ℕ) (d : Direction) (w : What) (line : ℕ) → with_places place_of (bursting d w line) ≡ bursting d w line
plain-bursting place_of direction.Reads w line = refl
plain-bursting place_of direction.Writes (what.Constant v) line = refl
plain-bursting place_of direction.Writes (what.Function n) line = refl
plain-bursting place_of direction.Writes (what.Scalar slot) line = refl
plain-bursting place_of direction.Writes (what.Array first size) line = refl
plain-bursting place_of direction.Writes (what.Window slot) line = refl
plain-bursting place_of direction.Writes (what.Stream first count) line = refl
plain-bursting place_of direction.Writes (what.Element number) line = refl
plain-bursting place_of direction.Writes (what.View number) line = refl

module _ (tells : ℕ → Resolved) where
  stream_kept : (t : tree.TargetTree) → KeepsLabels (stream_code tells t)
  stream_kept (tree.Variable n) d = keeps_instr (kept d) (Push (pos 0))
  stream_kept (tree.Element n m e) d = keeps_instr (expr_kept tells e d) (CheckAt (count_of (tells n.mark.place).what) m.line)

  burst_kept : (r : Direction) (w : What) (b : Option tree.IndexTree) → KeepsLabels (burst_code tells r w b)
  burst_kept r w None d = keeps_instr (kept d) (Push (pos 1))
  burst_kept r w (Some i) d = keeps_instr (expr_kept tells i.value d) (bursting r w i.mark.line)

  join_kept : (r : Direction) (j : Option tree.JoinTree) → KeepsLabels (join_code tells r j)
  join_kept r None d = keeps_instr (kept d) (Push (pos 1))
  join_kept r (Some j) d = burst_kept r (tells j.name.mark.place).what j.burst d

  item_kept : (r : Direction) (i : tree.ClauseItemTree) → KeepsLabels (item_code tells r i)
  item_kept r i d = and_then_kept (stream_kept i.stream d) (join_kept r i.window)

  pub items_kept : (ps : List ClauseMember) → KeepsLabels (items_code tells ps)
  items_kept [] d = kept d
  items_kept (Private n ∷ ps) d = items_kept ps d
  items_kept (Item r i ∷ ps) d = and_then_kept (item_kept r i d) (items_kept ps)

  pub tick_kept : (t : tree.TargetTree) (line : ℕ) (e : tree.ExprTree) → KeepsLabels (tick_code tells t line e)
  tick_kept t line e d =
      keeps_instrs (and_then_kept (stream_kept t d) (expr_kept tells e)) (BurstIn line ∷ Turn ∷ Tick (first_of (tells (target_name t).mark.place).what) ∷ [])

module _ {code : Parts} {place_of : ℕ → ℕ} (tells : ℕ → Resolved) where
  stream_stands : (t : tree.TargetTree) → IsTarget t → (d : Draft) → Becomes (stream_code tells t d) code place_of →
      HasStream code tells t (length d.instrs) (length (stream_code tells t d).instrs)
  stream_stands (tree.Variable n) is d b = stands_instr d (Push (pos 0)) refl b
  stream_stands (tree.Element n m e) (leveled.element is) d b =
      let made = expr_code tells e d in
      let i = CheckAt (count_of (tells n.mark.place).what) m.line in
      (length made.instrs, expr_stands tells e is d (back (keeps_instr (kept made) i) b), stands_instr made i refl b)

  burst_stands : (r : Direction) (w : What) (x : Option tree.IndexTree) → ((i : tree.IndexTree) → x ≡ Some i → IsExpr i.value) → (d : Draft)
      → Becomes (burst_code tells r w x d) code place_of → HasBurst code tells r w x (length d.instrs) (length (burst_code tells r w x d).instrs)
  burst_stands r w None is d b = stands_instr d (Push (pos 1)) refl b
  burst_stands r w (Some i) is d b =
      let made = expr_code tells i.value d in
      let check = bursting r w i.mark.line in (
        length made.instrs,
        expr_stands tells i.value (is i refl) d (back (keeps_instr (kept made) check) b),
        stands_instr made check (plain-bursting place_of r w i.mark.line) b,
      )

  join_stands : (r : Direction) (x : Option tree.JoinTree) → ((j : tree.JoinTree) (i : tree.IndexTree) → x ≡ Some j → j.burst ≡ Some i → IsExpr i.value) → (d : Draft)
      → Becomes (join_code tells r x d) code place_of → HasJoin code tells r x (length d.instrs) (length (join_code tells r x d).instrs)
  join_stands r None is d b = stands_instr d (Push (pos 1)) refl b
  join_stands r (Some j) is d b = burst_stands r (tells j.name.mark.place).what j.burst (λ i found. is j i refl found) d b

  pub items_stand : (ps : List ClauseMember) → AreAll IsItem ps → (d : Draft) → Becomes (items_code tells ps d) code place_of →
      HasItems code tells ps (length d.instrs) (length (items_code tells ps d).instrs)
  items_stand [] are d b = refl
  items_stand (Private n ∷ ps) (leveled.cons is are) d b = items_stand ps are d b
  items_stand (Item r i ∷ ps) (leveled.cons (joined is_stream is_burst) are) d b =
      let streamed = stream_code tells i.stream d in
      let made = join_code tells r i.window streamed in
      let bm : Becomes made code place_of = back (items_kept tells ps made) b in (
        length streamed.instrs,
        length made.instrs,
        stream_stands i.stream is_stream d (back (join_kept tells r i.window streamed) bm),
        join_stands r i.window is_burst streamed bm,
        items_stand ps are made b,
      )

  pub tick_stands : (t : tree.TargetTree) → IsTarget t → (line : ℕ) (e : tree.ExprTree) → IsExpr e → (d : Draft)
      → Becomes (tick_code tells t line e d) code place_of
      → (mid end : ℕ) × HasStream code tells t (length d.instrs) mid × HasExpr code tells e mid end
      × Stands code (BurstIn line ∷ Turn ∷ Tick (first_of (tells (target_name t).mark.place).what) ∷ []) end (length (tick_code tells t line e d).instrs)
  tick_stands t is_t line e is_e d b =
      let streamed = stream_code tells t d in
      let made = expr_code tells e streamed in
      let ticks = BurstIn line ∷ Turn ∷ Tick (first_of (tells (target_name t).mark.place).what) ∷ [] in
      let bm : Becomes made code place_of = back (keeps_instrs (kept made) ticks) b in (
        length streamed.instrs,
        length made.instrs,
        stream_stands t is_t d (back (expr_kept tells e streamed) bm),
        expr_stands tells e is_e streamed bm,
        stands_plain made ticks refl b,
      )
