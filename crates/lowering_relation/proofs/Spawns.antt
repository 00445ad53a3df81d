-- The code of a task pragma creates the activation that it says.
use Rattle.std.proofs.Common.{◌≡◌, ℕ, ◌+◌, ◌*◌, ◌≤◌, Bool, true, false, if◌then◌else◌, leb, ltb, List, [], ◌∷◌, ◌++◌, length, map, Option, Some, None, Ok, ℤ, refl, sym, ap, ◌∙◌, subst, arith}
use Rattle.c_int.specs.declared.control_limit.ControlLimit.TheVariants as limits
use Rattle.c_int.specs.declared.control_limit.ControlLimit.{ControlLimit}
use Rattle.cddf_meaning.specs.Claims.{with_skips, all_horizons, limit}
use Rattle.cddf_meaning.specs.File.{File, variable, or_in_file}
use Rattle.cddf_meaning.specs.Moves.{CallsFall}
use Rattle.cddf_meaning.specs.BodyState.{BodyState}
use Rattle.cddf_meaning.specs.Streams.{captured_values, with_activation, unless_limited, task_number, captured_by, run_task}
use Rattle.cddf_meaning.specs.Value.{scalar_value}
use Rattle.cddf_meaning.specs.declared.ending.Ending.TheVariants as ending
use Rattle.cddf_meaning.specs.declared.site.Site.{Site as MeaningSite}
use Rattle.flow_core_laws.specs.declared.activation.Activation.{Activation}
use Rattle.flow_core_laws.specs.declared.claim.Claim.{Claim}
use Rattle.flow_core_laws.specs.Window.{claims_of, horizon_sum}
use Rattle.os_ast.specs.Captured.{Scalar, captured, slots_of}
use Rattle.os_ast.specs.Names.{Scope, lookup, entity_of}
use Rattle.os_ast.specs.Notes.Clauses.{in_task_body, members_notes, clauses_notes}
use Rattle.os_ast.specs.Notes.Kinds.{Task}
use Rattle.os_ast.specs.Notes.Statements.{stmt_notes}
use Rattle.os_ast.specs.ClauseMembers.{members, count_items}
use Rattle.os_ast.specs.Trees as tree
use Rattle.os_ast.specs.declared.expr.Mark.{Mark}
use Rattle.os_ast.specs.declared.names.Entity.{Entity}
use Rattle.os_ast.specs.declared.names.Entity.TheVariants as entity
use Rattle.os_ast.specs.declared.names.Entry.{Entry}
use Rattle.os_ast.specs.declared.names.Resolved.{Resolved}
use Rattle.os_code.specs.declared.instr.Instr.{Instr}
use Rattle.os_code.specs.declared.instr.Instr.TheVariants as instr
use Rattle.os_code.specs.declared.parts.Parts.{Parts}
use Rattle.os_code.specs.declared.site.Site.{Site}
use Rattle.os_code.specs.Machine as machine
use Rattle.os_code.specs.Machine.{Frame, Progress, Going, Halted, Limited, slot, or_stuck, claims_with_skips, skips_after_all, spawned_claims, spawns_claims, spawns, act, step}
use Rattle.os_code.specs.Parts.{instr_at, site_at}
use Rattle.lowering_relation.specs.Alignment.{slot_at}
use Rattle.lowering_relation.specs.Tasks.{TaskTree, task_index, site_items}
use Rattle.lowering_relation.proofs.Capturing.{HasSlot, AreScalars, captured_scalars}
use Rattle.lowering_relation.proofs.Context.{InMain, resources, Kept, Context, tells, agree_first}
use Rattle.lowering_relation.proofs.Created.{sums_same, skipped_sum, same_claims, below_more}
use Rattle.lowering_relation.proofs.Exprs.{Ready}
use Rattle.lowering_relation.proofs.Flows.{Does, ended, given_does, settled, exactly, went_on}
use Rattle.lowering_relation.proofs.Functions.{popped, FileFits}
use Rattle.lowering_relation.proofs.ItemClaims.{AllBelow, items_run}
use Rattle.lowering_relation.proofs.MainContexts.{main_context, scalar_held, held}
use Rattle.lowering_relation.proofs.Owning.{OfTask}
use Rattle.lowering_relation.proofs.Steps.{Store, at, onto, Leads, one, stops_at, acts}
use Rattle.lowering_relation.proofs.Stmts.{StmtDoes}
use Rattle.window_check_laws.specs.Order.{InOrder}

-- A task of `main`: its number in the meaning and in the code, and its site, whose captured slots are those of the
-- scalars that it captures.
pub record IsSite (code : Parts) (tells : ℕ → Resolved) (sites : List MeaningSite) (tasks : List TaskTree) (s : Scope) (mark : Mark) (cs : List tree.ClauseTree) (a : tree.StmtTree) : Type 0 where
  pub number : ℕ
  pub site : Site
  pub in_code : task_index tasks mark ≡ Some number
  pub in_meaning : task_number sites mark ≡ Some number
  pub ids : captured_by sites number ≡ map (λ (x : Scalar). x.id) (captured s.entries (members cs) a)
  pub is_site : site_at code number ≡ Some site
  pub items : site.items ≡ site_items tells (members cs)
  pub slots : site.captured ≡ slots_of (captured s.entries (members cs) a)

module _ (code : Parts) (file : File) (falls : CallsFall file) (names : List Resolved) (ordered : InOrder names) (file_es : List Entry) (fits : FileFits code file file_es) (streams later : ℕ) (all : streams ≤ code.streams)
    (callers : List Frame) (leaves : Instr) (total : ℕ) (sites : List MeaningSite) (tasks : List TaskTree) where
  abbrev c : Context
  c = main_context code file falls names ordered file_es fits streams later

  abbrev pub site_known : OfTask
  site_known = IsSite code (tells c) sites tasks

  module _ (s : Scope) (es : List Entry) (st : BodyState) (m : Store) (ready : Ready c s es st m) where
    -- the value of a captured scalar stands in its slot
    value_of : (id k : ℕ) → HasSlot (entity_of (lookup s.entries id)) k → scalar_value st (variable file st id) ≡ slot_at m.slots k
    value_of id k h = by_entity (entity_of (lookup s.entries id)) refl h
      where
        by_entity : (o : Option Entity) → entity_of (lookup s.entries id) ≡ o → HasSlot o k → scalar_value st (variable file st id) ≡ slot_at m.slots k
        by_entity None is has = absurd (cc)
        by_entity (Some (entity.Control n)) is has =
            let e : n ≡ k = cc in
            let x = held code file falls names ordered file_es fits streams later s es st m ready id (entity.Control n) tt is in
            let v = scalar_held (resources (InMain streams later)) m.slots x.variable n x.holds in
            ap (λ o. scalar_value st (or_in_file file id o)) (x.is ∙ ap Some v.1) ∙ sym v.2 ∙ ap (slot_at m.slots) e
        by_entity (Some entity.InputLength) is has =
            let e : 0 ≡ k = cc in
            let x = held code file falls names ordered file_es fits streams later s es st m ready id entity.InputLength tt is in
            let v = scalar_held (resources (InMain streams later)) m.slots x.variable 0 x.holds in
            ap (λ o. scalar_value st (or_in_file file id o)) (x.is ∙ ap Some v.1) ∙ sym v.2 ∙ ap (slot_at m.slots) e
        by_entity (Some (entity.Constant v)) is has = absurd (cc)
        by_entity (Some (entity.Function n p)) is has = absurd (cc)
        by_entity (Some (entity.Scalar n)) is has = absurd (cc)
        by_entity (Some (entity.Array n p)) is has = absurd (cc)
        by_entity (Some (entity.Window n)) is has = absurd (cc)
        by_entity (Some (entity.Stream n)) is has = absurd (cc)
        by_entity (Some (entity.Streams n p)) is has = absurd (cc)
        by_entity (Some (entity.Element n x)) is has = absurd (cc)
        by_entity (Some (entity.View n x)) is has = absurd (cc)

    values_same : (xs : List Scalar) → AreScalars s.entries xs → captured_values file st (map (λ (x : Scalar). x.id) xs) ≡ map (λ k. slot_at m.slots k) (slots_of xs)
    values_same [] h = refl
    values_same (x ∷ xs) h =
        ap (λ v. v ∷ captured_values file st (map (λ (y : Scalar). y.id) xs)) (value_of x.id x.slot h.0) ∙ ap (λ vs. slot_at m.slots x.slot ∷ vs) (values_same xs h.1)

    module _ (number : ℕ) (site : Site) (ids : List ℕ) (operands stack : List ℤ) (claims : List Claim) (turns p next broke continued : ℕ) (is_site : site_at code number ≡ Some site) (many : 2 * length site.items ≡ length operands)
        (spawned : spawned_claims code.streams m.slots site.items operands ≡ Ok claims) (below : AllBelow streams claims) (values : captured_values file st ids ≡ map (λ k. slot_at m.slots k) site.captured)
        (len : length m.slots ≡ total) (is : instr_at code p ≡ Some (instr.Spawn number)) (there : p + 1 ≡ next) where
      abbrev before : machine.MachineState
      before = at callers p (onto operands stack) m turns

      abbrev activation : Activation
      activation = record { site = number; captured = map (slot before) site.captured; claims = claims_with_skips m.skips claims }

      abbrev created_store : Store
      created_store = record m { created = m.created ++ activation ∷ []; skips = skips_after_all m.skips claims }

      abbrev after : machine.MachineState
      after = at callers (p + 1) stack created_store turns

      abbrev unless_passed : Bool → Bool → Progress
      unless_passed t u = if t then Halted (Limited limits.Activations) before else if u then Halted (Limited limits.Elements) before else Going after

      abbrev passed : Bool → Bool → Option ControlLimit
      passed t u = if t then Some limits.Activations else if u then Some limits.Elements else None

      abbrev Spawned : Bool → Bool → Type 0
      Spawned t u = Does code before (settled c callers leaves total next broke continued stack (exactly es) es) (unless_limited (passed t u) st turns (with_activation file number ids claims st))

      spawn_step : step code before ≡ unless_passed (leb 65536 (length m.created)) (ltb 4194304 (horizon_sum (claims_of m.created) + horizon_sum (claims_with_skips m.skips claims)))
      unfolding act
      spawn_step =
          acts code before (instr.Spawn number) is
          ∙ ap (λ o. or_stuck o (spawns code before number)) is_site
          ∙ popped operands stack (2 * length site.items) (λ xs rest. spawns_claims before number site rest (spawned_claims code.streams m.slots site.items xs)) many
          ∙ ap (spawns_claims before number site stack) spawned

      same : (kept : Kept (InMain streams later) st m) → Kept (InMain streams later) (with_activation file number ids claims st) created_store
      same kept =
          let x = same_claims (streams + later) claims st.moves (below_more streams (streams + later) claims (omega arith) below) in (
            ap (λ xs. xs ++ record { site = number; captured = captured_values file st ids; claims = with_skips st.moves claims } ∷ []) kept.0
                ∙ ap (λ vs. m.created ++ record { site = number; captured = vs; claims = with_skips st.moves claims } ∷ []) values
                ∙ ap (λ xs. m.created ++ record { site = number; captured = map (slot before) site.captured; claims = xs } ∷ []) (sym (ap (λ ys. claims_with_skips ys claims) kept.2 ∙ x.claims)),
            kept.1,
            ap (λ ys. skips_after_all ys claims) kept.2 ∙ x.skips,
          )

      by_limits : (t u : Bool) → step code before ≡ unless_passed t u → Spawned t u
      by_limits true u h = ended m.created (stops_at code (ending.Limited limits.Activations) h) (sym ready.kept.0)
      by_limits false true h = ended m.created (stops_at code (ending.Limited limits.Elements) h) (sym ready.kept.0)
      by_limits false false h =
          went_on c callers leaves total es (with_activation file number ids claims st) created_store turns len (same ready.kept) ready.aligned
          (subst (λ q. Leads code before (at callers q stack created_store turns)) there (one code h))

      pub spawn_does : Does code before (settled c callers leaves total next broke continued stack (exactly es) es) (unless_limited (limit st.activations claims) st turns (with_activation file number ids claims st))
      spawn_does =
          let a : leb 65536 (length m.created) ≡ leb 65536 (length st.activations) = ap (λ (xs : List Activation). leb 65536 (length xs)) (sym ready.kept.0) in
          let b : ltb 4194304 (horizon_sum (claims_of m.created) + horizon_sum (claims_with_skips m.skips claims)) ≡ ltb 4194304 (all_horizons st.activations + horizon_sum claims) =
          ap (λ n. ltb 4194304 (n + horizon_sum (claims_with_skips m.skips claims))) (sums_same m.created ∙ ap all_horizons (sym ready.kept.0)) ∙ ap (λ n. ltb 4194304 (all_horizons st.activations + n)) (skipped_sum claims m.skips) in
          by_limits (leb 65536 (length st.activations)) (ltb 4194304 (all_horizons st.activations + horizon_sum claims))
          (spawn_step ∙ ap (λ t. unless_passed t (ltb 4194304 (horizon_sum (claims_of m.created) + horizon_sum (claims_with_skips m.skips claims)))) a ∙ ap (unless_passed (leb 65536 (length st.activations))) b)

  pub task_does : (mark : Mark) (cs : List tree.ClauseTree) (a : tree.StmtTree) → StmtDoes c callers leaves total sites tasks site_known (tree.Task mark cs a)
  task_does mark cs a s es st m broke continued next from to stack turns ready stacked fits2 len agree own h =
      let ps = members cs in
      let note = Task s mark (count_items ps) (captured s.entries ps a) ∷ [] in
      let front = agree_first c (clauses_notes s mark ps a) (stmt_notes (in_task_body s ps a) a) agree in
      let number : own.number ≡ h.0 = let e : Some own.number ≡ Some h.0 = sym own.in_code ∙ h.2 in cc in
      let ids = captured_by sites own.number in
      subst (λ o. Does code (at callers from stack m turns) (settled c callers leaves total next broke continued stack (exactly es) es) (run_task file sites o ps st turns)) (sym own.in_meaning)
      (given_does st m (λ x. unless_limited (limit st.activations x.value) st x.turns (with_activation file own.number ids x.value st)) refl ready.kept
      (items_run code file falls names ordered file_es fits streams later all callers s es st m ready ps [] from h.1 stack turns (agree_first c (members_notes s [] ps) note front) h.3)
      (λ x w q.
      spawn_does s es st m ready own.number own.site ids w.0 stack x.value x.turns h.1 next broke continued own.is_site (let n = ap length own.items in let k = w.2 in omega (arith, n, k))
      (ap (λ items. spawned_claims code.streams m.slots items w.0) own.items ∙ w.1) w.3
      (ap (captured_values file st) own.ids ∙ values_same s es st m ready (captured s.entries ps a) (captured_scalars s.entries _) ∙ ap (map (λ k. slot_at m.slots k)) (sym own.slots)) len
      (subst (λ n. instr_at code h.1 ≡ Some (instr.Spawn n)) (sym number) h.4.0) (h.4.1 ∙ sym h.5)))
