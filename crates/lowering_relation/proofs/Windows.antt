-- The code of a window's declarator keeps its size in its slot.
use Rattle.std.proofs.Common.{◌≡◌, ℕ, ◌+◌, ◌<◌, ◌≤◌, ◌&&◌, ◌==◌, Bool, true, false, not, if◌then◌else◌, leb, List, [], ◌∷◌, ◌++◌, length, set, Option, Some, None, Ok, ℤ, pos, negsuc, refl, sym, ap, ◌∙◌, subst, arith, length-set, get_or-set_same, get_or-set_other, eqb-true, leb-true}
use Rattle.std.proofs.lemmas.Bool.{and_parts}
use Rattle.window_check_laws.proofs.Known.{not-false}
use Rattle.c_int.specs.declared.trap.Trap.TheVariants as trap_of
use Rattle.cddf_meaning.specs.Answers.{traps}
use Rattle.cddf_meaning.specs.File.{File}
use Rattle.cddf_meaning.specs.Flow.{with_value, goes_on}
use Rattle.cddf_meaning.specs.Moves.{CallsFall}
use Rattle.cddf_meaning.specs.Run.{window_size, run_window}
use Rattle.cddf_meaning.specs.BodyState.{BodyState, declared}
use Rattle.cddf_meaning.specs.Variables.{bind}
use Rattle.cddf_meaning.specs.declared.ending.Ending.TheVariants as ending
use Rattle.cddf_meaning.specs.declared.site.Site.{Site}
use Rattle.cddf_meaning.specs.declared.variable.Binding.{Binding}
use Rattle.cddf_meaning.specs.declared.variable.Variable.TheVariants.{Window}
use Rattle.os_ast.specs.Meanings.{what_declared}
use Rattle.os_ast.specs.Names.{Scope}
use Rattle.os_ast.specs.Notes.Declarators.{sized_form, size_of, form, form_entity, taken, after_declarator, sized_notes, size_notes, is_window}
use Rattle.os_ast.specs.Notes.Expressions.{expr_notes, value_notes}
use Rattle.os_ast.specs.Rules.{is_outermost}
use Rattle.os_ast.specs.Trees as tree
use Rattle.os_ast.specs.declared.expr.Name.{Name}
use Rattle.os_ast.specs.declared.names.Entity.{Entity}
use Rattle.os_ast.specs.declared.names.Entity.TheVariants as entity
use Rattle.os_ast.specs.declared.names.Entry.{Entry}
use Rattle.os_ast.specs.declared.names.Form.{Form}
use Rattle.os_ast.specs.declared.names.Form.TheVariants as form_of
use Rattle.os_ast.specs.declared.names.Owner.TheVariants as owner
use Rattle.os_ast.specs.declared.names.Resolved.{Resolved}
use Rattle.os_ast.specs.declared.names.What.{What}
use Rattle.os_ast.specs.declared.names.What.TheVariants as what
use Rattle.os_code.specs.declared.instr.Instr.{Instr}
use Rattle.os_code.specs.declared.instr.Instr.TheVariants as instr
use Rattle.os_code.specs.declared.parts.Parts.{Parts}
use Rattle.os_code.specs.Machine as machine
use Rattle.os_code.specs.Machine.{Frame, Going, or_trap, act}
use Rattle.os_code.specs.Parts.{instr_at}
use Rattle.lowering_relation.specs.Alignment.{Stacked, Resources, Aligned}
use Rattle.lowering_relation.specs.Declarators.{HasDeclared}
use Rattle.lowering_relation.proofs.Alignment.{same_below}
use Rattle.lowering_relation.proofs.Context.{InMain, resources, Context, means, tells, Agree, agree_first}
use Rattle.lowering_relation.proofs.Declarators.{DeclaratorDoes, DeclaratorRuns, at_depth, told, scalar_done}
use Rattle.lowering_relation.proofs.Exprs.{expr_runs}
use Rattle.lowering_relation.proofs.Flows.{Does, given_does, settled, went_on}
use Rattle.lowering_relation.proofs.Functions.{FileFits}
use Rattle.lowering_relation.proofs.MainContexts.{main_context}
use Rattle.lowering_relation.proofs.Steps.{Store, with_slots, at, Behind, Leads, stays, one, stops_at, Meets, gives, halts, acts}
use Rattle.lowering_relation.proofs.Stores.{kept_slots}
use Rattle.window_check_laws.specs.Order.{InOrder}

-- a window is declared, in the next slot
declared_window : (has : Resources) (means_of : Entity → What) (top : ℕ) (slots : List ℤ) (bound : List Binding) (es : List Entry) (e : Entry) (horizon : ℕ) → top < length slots → 1 ≤ horizon → horizon ≤ 65536 →
    means_of e.entity ≡ what.Window top → Stacked means_of top es → Aligned has means_of slots bound es →
    Aligned has means_of (set slots top (pos horizon)) (bind e.id e.unsigned (Window horizon) bound) (e ∷ es)
declared_window has means_of top slots bound es e horizon lt lo hi is st h = (
  refl,
  refl,
  (top, is, get_or-set_same slots top (pos horizon) (pos 0) lt, lo, hi),
  same_below has means_of top slots (set slots top (pos horizon)) bound es st (λ i below. get_or-set_other slots top i (pos horizon) (pos 0) (λ x. absurd (omega (arith, below, x)))) h,
)

module _ (code : Parts) (callers : List Frame) where
  -- behind the instruction that keeps a size
  abbrev keeps_size : (v : ℤ) (slot to : ℕ) → List ℤ → Store → (turns : ℕ) → Behind ℕ
  keeps_size v slot to stack m turns = record {
    Known = λ n. (v ≡ pos n) × (1 ≤ n) × (n ≤ 65536);
    state = λ n w. at callers to stack (with_slots m (set m.slots slot v)) turns;
    created = m.created;
  }

  size_kept : (slot line p : ℕ) (v : ℤ) (stack : List ℤ) (m : Store) (turns : ℕ) → instr_at code p ≡ Some (instr.Window slot line) →
      Meets code (at callers p (v ∷ stack) m turns) (keeps_size v slot (p + 1) stack m turns) (window_size line v)
  unfolding act
  size_kept slot line p (negsuc n) stack m turns is = halts (stops_at code (ending.Trapped trap_of.WindowSize line) (acts code (at callers p (negsuc n ∷ stack) m turns) (instr.Window slot line) is))
  size_kept slot line p (pos n) stack m turns is = by_case (leb 1 n && leb n 65536) refl (acts code (at callers p (pos n ∷ stack) m turns) (instr.Window slot line) is)
    where
      s : machine.MachineState
      s = at callers p (pos n ∷ stack) m turns

      moved : Bool → machine.Progress
      moved b = or_trap s trap_of.WindowSize line (if b then Some n else None) (λ size. Going (at callers (p + 1) stack (with_slots m (set m.slots slot (pos n))) turns))

      by_case : (t : Bool) → (leb 1 n && leb n 65536) ≡ t → machine.step code s ≡ moved (leb 1 n && leb n 65536) → Meets code s (keeps_size (pos n) slot (p + 1) stack m turns) (if t then Ok n else traps trap_of.WindowSize line)
      by_case true e h = let both = and_parts (leb 1 n) (leb n 65536) e in gives n (refl, leb-true 1 n both.0, leb-true n 65536 both.1) (one code (h ∙ ap moved e))
      by_case false e h = halts (stops_at code (ending.Trapped trap_of.WindowSize line) (h ∙ ap moved e))

module _ (code : Parts) (file : File) (falls : CallsFall file) (names : List Resolved) (ordered : InOrder names) (file_es : List Entry) (fits : FileFits code file file_es) (streams later : ℕ)
    (callers : List Frame) (leaves : Instr) (total : ℕ) (sites : List Site) where
  abbrev c : Context
  c = main_context code file falls names ordered file_es fits streams later

  abbrev WindowGoal : Form → Name → tree.IndexTree → Scope → List Entry → BodyState → Store → ℕ → ℕ → ℕ → ℕ → List ℤ → ℕ → (List Entry → Type 0) → Type 0
  WindowGoal f n i s es st m broke continued from to stack turns within =
      Does code (at callers from stack m turns) (settled c callers leaves total to broke continued stack within (record { id = n.id; depth = (taken s f).depth; entity = form_entity s f; unsigned = (taken s f).unsigned } ∷ es)) (run_window file s.unsigned n.id i st turns)

  pub window_done : (n : Name) (i : tree.IndexTree) (first : Option tree.ExprTree) → DeclaratorRuns c callers leaves total sites (record { name = n; size = Some i; stream = false; first = first })
  window_done n i first s es st m broke continued from to stack turns within ready stacked fits2 len agree h =
      subst (λ f. WindowGoal f n i s es st m broke continued from to stack turns within) (sym is_form)
      (given_does st m (λ x. with_value (window_size i.mark.line x.value) st (λ horizon. goes_on (declared n.id s.unsigned (Window horizon) st) x.turns)) refl ready.kept
      (expr_runs c callers s es st m ready i.value from has.0 stack turns size_agrees has.1)
      (λ x u q. given_does st m (λ horizon. goes_on (declared n.id s.unsigned (Window horizon) st) x.turns) refl ready.kept
      (size_kept code callers s.slots i.mark.line has.0 x.value stack m x.turns has.2.0)
      (λ horizon w r.
      subst (λ v. Does code (at callers (has.0 + 1) stack (with_slots m (set m.slots s.slots v)) x.turns) (settled c callers leaves total to broke continued stack within (window_entry ∷ es)) (goes_on (declared n.id s.unsigned (Window horizon) st) x.turns)) (sym w.0)
      (went_on c callers leaves total (window_entry ∷ es) (declared n.id s.unsigned (Window horizon) st) (with_slots m (set m.slots s.slots (pos horizon))) x.turns (length-set m.slots s.slots (pos horizon) ∙ len)
      (kept_slots (InMain streams later) st m (bind n.id s.unsigned (Window horizon) st.bound) (set m.slots s.slots (pos horizon)) ready.kept)
      (declared_window (resources (InMain streams later)) (means c) s.slots m.slots st.bound (es ++ []) window_entry horizon (omega (arith, room, len)) w.1 w.2 refl stacked ready.aligned)
      (subst (λ q. Leads code (at callers (has.0 + 1) stack (with_slots m (set m.slots s.slots (pos horizon))) x.turns) (at callers q stack (with_slots m (set m.slots s.slots (pos horizon))) x.turns)) has.2.1 stays)))))
    where
      d : tree.DeclaratorTree
      d = record { name = n; size = Some i; stream = false; first = first }

      is_form : form s d ≡ form_of.Window
      is_form = ap (λ o. sized_form o (size_of s i.value)) ready.scope.owner

      window_entry : Entry
      window_entry = record { id = n.id; depth = s.depth; entity = entity.Window s.slots; unsigned = s.unsigned }

      room : s.slots + 1 ≤ total
      room = subst (λ f. (taken s f).slots ≤ total) is_form fits2

      has : HasDeclared code (tells c) (what.Window s.slots) d from to
      has = subst (λ w. HasDeclared code (tells c) w d from to) (told c callers leaves total sites s d agree ∙ ap (λ f. what_declared (form_entity s f)) is_form) h

      size_agrees : Agree c (expr_notes s i.value)
      size_agrees =
          subst (λ o. Agree c (if is_window o && not false then expr_notes s i.value else size_notes s i.value)) ready.scope.owner
          (agree_first c (sized_notes s false (Some i)) (value_notes (after_declarator s d) first) agree.1)

  stream_done : (n : Name) (size : Option tree.IndexTree) (first : Option tree.ExprTree) → DeclaratorDoes c callers leaves total sites (record { name = n; size = size; stream = true; first = first })
  stream_done n size first s es st m broke continued from to stack turns within ready deep stacked fits2 len agree h =
      let outermost : is_outermost s.owner s.depth ≡ true = not-false (is_outermost s.owner s.depth) agree.0.0.1.1.1.1.1.1.1.0 in
      let at_two : (s.depth == 2) ≡ true = subst (λ o. is_outermost o s.depth ≡ true) ready.scope.owner outermost in
      let two : s.depth ≡ 2 = eqb-true s.depth 2 at_two in
      absurd (omega (arith, deep, two))

  -- the declarators that stand in no outermost block
  pub control_does : c.owner ≡ owner.OfMain → (d : tree.DeclaratorTree) → DeclaratorDoes c callers leaves total sites d
  control_does own d = by_parts d.name d.size d.stream d.first
    where
      by_parts : (n : Name) (size : Option tree.IndexTree) (stream : Bool) (first : Option tree.ExprTree) → DeclaratorDoes c callers leaves total sites (record { name = n; size = size; stream = stream; first = first })
      by_parts n size true first = stream_done n size first
      by_parts n None false first = at_depth c callers leaves total sites (record { name = n; size = None; stream = false; first = first }) (scalar_done c callers leaves total sites n first)
      by_parts n (Some i) false first = at_depth c callers leaves total sites (record { name = n; size = Some i; stream = false; first = first }) (window_done n i first)
