-- The code of a tick moves the read cursor that it names.
use Rattle.std.proofs.Common.{◌≡◌, ℕ, zero, suc, ◌+◌, ◌<◌, ◌≤◌, ◌==◌, false, List, ◌∷◌, length, get_or, set, Some, ℤ, pos, refl, sym, ap, ◌∙◌, subst, arith}
use Rattle.std.specs.Prelude.{slice_set}
use Rattle.c_int.specs.declared.trap.Trap.TheVariants as trap_of
use Rattle.cddf_meaning.specs.File.{File}
use Rattle.cddf_meaning.specs.Flow.{with_value}
use Rattle.cddf_meaning.specs.Moves.{CallsFall}
use Rattle.cddf_meaning.specs.BodyState.{BodyState}
use Rattle.cddf_meaning.specs.Streams.{cursor_move, moved, tick_turn}
use Rattle.cddf_meaning.specs.Value.{value}
use Rattle.cddf_meaning.specs.declared.site.Site.{Site}
use Rattle.os_ast.specs.Notes.Expressions.{expr_notes, place_notes}
use Rattle.os_ast.specs.Trees as tree
use Rattle.os_ast.specs.declared.expr.Mark.{Mark}
use Rattle.os_ast.specs.declared.names.Direction.TheVariants as direction
use Rattle.os_ast.specs.declared.names.Entry.{Entry}
use Rattle.os_ast.specs.declared.names.Resolved.{Resolved}
use Rattle.os_ast.specs.declared.names.Role.TheVariants as role
use Rattle.os_code.specs.declared.instr.Instr.{Instr}
use Rattle.os_code.specs.declared.instr.Instr.TheVariants as instr
use Rattle.os_code.specs.declared.parts.Parts.{Parts}
use Rattle.os_code.specs.Machine.{Frame, Going, or_trap, amount_of, skip_at, act}
use Rattle.os_code.specs.Parts.{instr_at}
use Rattle.lowering_relation.specs.Tasks.{TaskTree}
use Rattle.lowering_relation.proofs.Context.{InMain, Kept, Context, agree_first, agree_rest}
use Rattle.lowering_relation.proofs.Exprs.{expr_runs}
use Rattle.lowering_relation.proofs.Flows.{Does, ended, does_from, kept_made, given_does, settled, exactly, AlignedIn, went_on}
use Rattle.lowering_relation.proofs.Functions.{FileFits}
use Rattle.lowering_relation.proofs.MainContexts.{main_context}
use Rattle.lowering_relation.proofs.Owning.{OfTask}
use Rattle.lowering_relation.proofs.Steps.{Store, at, Leads, one, acts, takes_turn, no_turn}
use Rattle.lowering_relation.proofs.Stmts.{StmtDoes}
use Rattle.lowering_relation.proofs.StreamIndexes.{stream_of_is, amount_is, burst_in, target_stream}
use Rattle.window_check_laws.specs.Order.{InOrder}

module _ (code : Parts) (file : File) (falls : CallsFall file) (names : List Resolved) (ordered : InOrder names) (file_es : List Entry) (fits : FileFits code file file_es) (streams later : ℕ) (all : streams ≤ code.streams)
    (callers : List Frame) (leaves : Instr) (total : ℕ) (sites : List Site) (tasks : List TaskTree) (known : OfTask) where
  abbrev c : Context
  c = main_context code file falls names ordered file_es fits streams later

  abbrev ticked_store : Store → (stream amount : ℕ) → Store
  ticked_store m stream amount = record m { skips = slice_set m.skips stream (skip_at m.skips stream + amount) }

  -- a tick is counted, as it is a move
  ticked_kept : (st : BodyState) (m : Store) (stream amount : ℕ) → Kept (InMain streams later) st m → Kept (InMain streams later) (moved stream amount st) (ticked_store m stream amount)
  ticked_kept st m stream amount kept = (kept.0, kept.1, ap (λ xs. set xs stream (get_or xs stream 0 + amount)) kept.2)

  tick_step : (first k amount p : ℕ) (stack : List ℤ) (m : Store) (turns : ℕ) → first + k < code.streams → (first + k == 1) ≡ false → amount ≤ 65536 → instr_at code p ≡ Some (instr.Tick first) →
      Leads code (at callers p (pos amount ∷ pos k ∷ stack) m turns) (at callers (p + 1) stack (ticked_store m (first + k) amount) turns)
  unfolding act
  tick_step first k amount p stack m turns lt apart few is =
      let s = at callers p (pos amount ∷ pos k ∷ stack) m turns in
      one code (acts code s (instr.Tick first) is
      ∙ ap (λ o. or_trap s trap_of.Index 0 o (λ stream. or_trap s trap_of.Move 0 (amount_of (pos amount)) (λ taken. Going (at callers (p + 1) stack (ticked_store m stream taken) turns)))) (stream_of_is code.streams 1 first k lt apart)
      ∙ ap (λ o. or_trap s trap_of.Move 0 o (λ taken. Going (at callers (p + 1) stack (ticked_store m (first + k) taken) turns))) (amount_is amount few))

  turn_does : (es : List Entry) (st : BodyState) (m : Store) (first k stream amount broke continued next p : ℕ) (stack : List ℤ) (turns : ℕ) → stream ≡ first + k → first + k < streams → (first + k == 1) ≡ false → amount ≤ 65536 →
      length m.slots ≡ total → Kept (InMain streams later) st m → AlignedIn c callers leaves total m st.bound es → instr_at code p ≡ Some instr.Turn → instr_at code (p + 1) ≡ Some (instr.Tick first) → p + 1 + 1 ≡ next →
      Does code (at callers p (pos amount ∷ pos k ∷ stack) m turns) (settled c callers leaves total next broke continued stack (exactly es) es) (tick_turn stream amount st turns)
  turn_does es st m first k stream amount broke continued next p stack zero same lt apart few len kept al at_turn at_tick there =
      ended m.created (no_turn code callers p (pos amount ∷ pos k ∷ stack) m at_turn) (kept_made (InMain streams later) st m kept)
  turn_does es st m first k stream amount broke continued next p stack (suc turns) same lt apart few len kept al at_turn at_tick there =
      let after = ticked_store m (first + k) amount in
      does_from (takes_turn code callers p (pos amount ∷ pos k ∷ stack) m turns at_turn)
      (went_on c callers leaves total es (moved stream amount st) after turns len
      (subst (λ n. Kept (InMain streams later) (moved n amount st) after) (sym same) (ticked_kept st m (first + k) amount kept)) al
      (subst (λ q. Leads code (at callers (p + 1) (pos amount ∷ pos k ∷ stack) m turns) (at callers q stack after turns)) there
      (tick_step first k amount (p + 1) stack m turns (omega (arith, lt, all)) apart few at_tick)))

  pub tick_does : (mark : Mark) (t : tree.TargetTree) (arrow : Mark) (e : tree.ExprTree) → StmtDoes c callers leaves total sites tasks known (tree.Tick mark t arrow e)
  tick_does mark t arrow e s es st m broke continued next from to stack turns ready stacked fits2 len agree own h =
      let x = target_stream code file falls names ordered file_es fits streams later callers s es st m ready t direction.Reads (agree_first c (place_notes s (role.Flow direction.Reads) t) (expr_notes s e) agree.1) in
      given_does st m (λ n. with_value (value file e st n.turns) st (λ v. with_value (cursor_move arrow.line v.value) st (λ amount. tick_turn n.value amount st v.turns))) refl ready.kept
      (x.runs from h.0 stack turns h.2)
      (λ n w q. given_does st m (λ v. with_value (cursor_move arrow.line v.value) st (λ amount. tick_turn n.value amount st v.turns)) refl ready.kept
      (expr_runs c callers s es st m ready e h.0 h.1 (pos w.0 ∷ stack) n.turns (agree_rest c (place_notes s (role.Flow direction.Reads) t) (expr_notes s e) agree.1) h.3)
      (λ v u r. given_does st m (λ amount. tick_turn n.value amount st v.turns) refl ready.kept
      (burst_in code callers arrow.line h.1 v.value (pos w.0 ∷ stack) m v.turns h.4.0)
      (λ amount a z.
      subst (λ y. Does code (at callers (h.1 + 1) (y ∷ pos w.0 ∷ stack) m v.turns) (settled c callers leaves total next broke continued stack (exactly es) es) (tick_turn n.value amount st v.turns)) (sym a.0)
      (turn_does es st m x.first w.0 n.value amount broke continued next (h.1 + 1) stack v.turns w.1 (omega (arith, w.2, x.below)) (x.allowed w.0 w.2) a.1 len ready.kept ready.aligned h.4.1.0
      (h.4.1.1.0 ∙ ap (λ f. Some (instr.Tick f)) x.first_is) (h.4.1.1.1 ∙ sym h.5)))))
