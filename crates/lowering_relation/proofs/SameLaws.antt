-- The runs of a lawful program ask for no name that isn't there.
use Rattle.std.proofs.Common.{◌≡◌, ℕ, suc, ◌+◌, if◌then◌else◌, List, [], ◌∷◌, ◌++◌, map, slice_get, Some, ℤ, pos, refl, sym, ap, ◌∙◌, subst, inr, arith, append-nil}
use Rattle.cddf_meaning.proofs.Scoping.{main_is_scoped}
use Rattle.cddf_meaning.specs.Body.{bind_captured, bind_items, bound_round, item_lists, outcome, chosen_outcome, outcome_in}
use Rattle.cddf_meaning.specs.Control.{control_of, control_state, control_in, round_main}
use Rattle.cddf_meaning.specs.File.{File}
use Rattle.cddf_meaning.specs.Flow.{Ran}
use Rattle.cddf_meaning.specs.Functions.{returned, bind_params, in_function, empty_file, with_items, file_of}
use Rattle.cddf_meaning.specs.Program.{Main, main_of}
use Rattle.cddf_meaning.specs.Run.{run, run_all}
use Rattle.cddf_meaning.specs.BodyState.{BodyState, state_of}
use Rattle.cddf_meaning.specs.Tasks.{Task, sites_of}
use Rattle.cddf_meaning.specs.Variables.{bind, find}
use Rattle.cddf_meaning.specs.declared.variable.Binding.{Binding}
use Rattle.cddf_meaning.specs.Scoped.{scoped_name, scoped_task_at, scoped_tasks_in_all}
use Rattle.cddf_meaning.specs.declared.variable.Variable.TheVariants.{Scalar, Item}
use Rattle.flow_core_laws.specs.declared.activation.Activation.{Activation}
use Rattle.flow_core_laws.specs.declared.claim.Claim.{Claim}
use Rattle.os_ast.specs.Captured as captures
use Rattle.os_ast.specs.Captured.{captured}
use Rattle.os_ast.specs.Leveled.{AreAll, IsItem}
use Rattle.os_ast.specs.Names.{Scope, lookup, entity_of, flag_of}
use Rattle.os_ast.specs.Notes.Clauses.{item_flag}
use Rattle.os_ast.specs.Notes.Programs.{owner_of, param_list, after_param, after_params, after_items, in_body, items_notes}
use Rattle.os_ast.specs.Notes.Programs as programs
use Rattle.os_ast.specs.Notes.Statements.{stmts_notes}
use Rattle.os_ast.specs.ClauseMembers.{ClauseMember, Item as ItemPart, Private, members, item_name, item_ids}
use Rattle.os_ast.specs.Trees as tree
use Rattle.os_ast.specs.Unsigned.{is_unsigned}
use Rattle.os_ast.specs.Violations.{names}
use Rattle.os_ast.specs.Violations as text
use Rattle.os_ast.specs.declared.names.Entry.{Entry}
use Rattle.os_ast.specs.declared.names.Owner.TheVariants as owner
use Rattle.os_ast.specs.declared.program.Param.{Param}
use Rattle.lowering_relation.specs.FoundNames.{IsLawful, AreElse, with_more, MainFindsItsNames, TasksFindTheirNames, FunctionsFindTheirNames}
use Rattle.lowering_relation.specs.Tasks.{program_tasks}
use Rattle.lowering_relation.proofs.Context.{Context, In}
use Rattle.lowering_relation.proofs.Files.{agrees, is_function, nothing_fits}
use Rattle.lowering_relation.proofs.Flows.{exactly, around}
use Rattle.lowering_relation.proofs.Functions.{made_params, param_entry, params_in, known_has, function_context}
use Rattle.lowering_relation.proofs.MainContexts.{main_context}
use Rattle.lowering_relation.proofs.MainLaws.{main_there, round_entries}
use Rattle.lowering_relation.proofs.MainSites.{owns_stmts, all_own_more, number_is, captured_is}
use Rattle.lowering_relation.proofs.Owning.{OwnsAll, nothing, owns_nothing, all_own_nothing}
use Rattle.lowering_relation.proofs.SameFlows.{SameRan, went, breaks, continues, returns, ended}
use Rattle.lowering_relation.proofs.SameNames.{ids, entry_ids, Matches, seen_by}
use Rattle.lowering_relation.proofs.SamePlaces.{no_code, IsPlaced, placed, MainIn, main_in}
use Rattle.lowering_relation.proofs.SameStmts.{stmt_same, stmts_same}
use Rattle.lowering_relation.proofs.SameStreams.{SeesAll, IsNamed}
use Rattle.lowering_relation.proofs.Static.{made_all}
use Rattle.lowering_relation.proofs.TaskContexts.{made_items, items_onto, made_captured, captured_entry, task_context, task_agrees, task_in, inner, caught_all}
use Rattle.lowering_relation.proofs.TaskLaws.{round_of, main_body}
use Rattle.lowering_relation.proofs.TaskMarks.{Rising, tasks_rise}
use Rattle.lowering_relation.proofs.TaskTexts.{TaskAt, InMain, all_stripped, matched, match_stmts}
use Rattle.window_check_laws.specs.Order.{InOrder}
use Rattle.window_check_laws.specs.Told.{Tells, AreLawful}
use Rattle.window_check_laws.proofs.Globals.{distinct-program}
use Rattle.window_check_laws.proofs.Ordered.{names_in_order}
use Rattle.window_check_laws.proofs.Told.{tells-program, lawful-program}

-- what ends the same gives the same
module _ (c : Context) (more : List Binding) (within : List Entry → Type 0) (after : List Entry) where
  same_control : {r1 r2 : Ran} → SameRan c more within after r1 r2 → control_of r2 ≡ control_of r1
  same_control (went st turns m) = refl
  same_control (breaks st turns x i m) = refl
  same_control (continues st turns x i m) = refl
  same_control (returns v st turns) = refl
  same_control (ended e activations) = refl

  same_outcome : (line : ℕ) (claims : List Claim) {r1 r2 : Ran} → SameRan c more within after r1 r2 → outcome line claims r2 ≡ outcome line claims r1
  same_outcome line claims (went st turns m) = refl
  same_outcome line claims (breaks st turns x i m) = refl
  same_outcome line claims (continues st turns x i m) = refl
  same_outcome line claims (returns v st turns) = refl
  same_outcome line claims (ended e activations) = refl

  same_result : {r1 r2 : Ran} → SameRan c more within after r1 r2 → returned r2 ≡ returned r1
  same_result (went st turns m) = refl
  same_result (breaks st turns x i m) = refl
  same_result (continues st turns x i m) = refl
  same_result (returns v st turns) = refl
  same_result (ended e activations) = refl

-- what is in scope where a body begins
params_ids : (ns : List Param) (vs : List ℤ) (s : Scope) (bound : List Binding) (es : List Entry) → ids bound ≡ entry_ids es → ids (bind_params ns vs bound) ≡ entry_ids (made_params s ns es)
params_ids [] vs s bound es h = h
params_ids (n ∷ ns) [] s bound es h = params_ids ns [] (after_param s n) (bind n.name.id (is_unsigned n.ty) (Scalar (pos 0)) bound) (param_entry s n ∷ es) (ap (λ xs. n.name.id ∷ xs) h)
params_ids (n ∷ ns) (v ∷ vs) s bound es h = params_ids ns vs (after_param s n) (bind n.name.id (is_unsigned n.ty) (Scalar v) bound) (param_entry s n ∷ es) (ap (λ xs. n.name.id ∷ xs) h)

captured_ids : (es : List Entry) (cs : List captures.Scalar) (vs : List ℤ) (bound : List Binding) (xs : List Entry) → ids bound ≡ entry_ids xs → ids (bind_captured (map (scoped_name es) (map (λ (x : captures.Scalar). x.id) cs)) vs bound) ≡ entry_ids (made_captured es cs xs)
captured_ids es [] vs bound xs h = h
captured_ids es (x ∷ cs) [] bound xs h = captured_ids es cs [] (bind x.id (flag_of (lookup es x.id)) (Scalar (pos 0)) bound) (captured_entry es x ∷ xs) (ap (λ ys. x.id ∷ ys) h)
captured_ids es (x ∷ cs) (v ∷ vs) bound xs h = captured_ids es cs vs (bind x.id (flag_of (lookup es x.id)) (Scalar v) bound) (captured_entry es x ∷ xs) (ap (λ ys. x.id ∷ ys) h)

items_ids : (s : Scope) (depth item : ℕ) (ps : List ClauseMember) (bound : List Binding) (xs : List Entry) → ids bound ≡ entry_ids xs → ids (bind_items item (map (scoped_name s.entries) (item_ids ps)) bound) ≡ entry_ids (made_items s depth item ps xs)
items_ids s depth item [] bound xs h = h
items_ids s depth item (ItemPart d i ∷ ps) bound xs h = items_ids s depth (suc item) ps (bind (item_name i.stream i.window).id (item_flag s i) (Item item) bound) _ (ap (λ ys. (item_name i.stream i.window).id ∷ ys) h)
items_ids s depth item (Private n ∷ ps) bound xs h = items_ids s depth item ps bound xs h

pub functions_find : FunctionsFindTheirNames
functions_find items rest f more args turns program other apart =
    same_result c more (around es0) (made_all (in_body s f) f.body es0)
    (stmts_same c more apart [] nothing (λ e. absurd (cc)) (λ e t m cs a k. absurd (cc)) at.leveled (in_body s f) es0 (state_of (bind_params ns args []) []) turns (params_in c ns s0 [] is_in) (params_ids ns args s0 [] [] refl ∙ ap entry_ids (sym (append-nil es0)))
    (agrees c (stmts_notes (in_body s f) f.body) at.lawful at.tells (λ n. tt)) (all_own_nothing f.body (in_body s f)))
  where
    p : tree.ProgramTree
    p = items ++ tree.Function f ∷ rest

    order : InOrder (names p)
    order = names_in_order p program.placed

    file : File
    file = file_of items

    s : Scope
    s = after_items programs.file items

    at : IsPlaced (names p) file s f
    at = placed (names p) order items rest f empty_file programs.file program.leveled.items (λ n args turns. tt) (nothing_fits no_code (names p) order []) tt (lawful-program p program.lawful) (tells-program p)

    c : Context
    c = function_context no_code file at.falls (names p) order s.entries at.fits (record { slots = []; windows = []; created = []; skips = [] })

    ns : List Param
    ns = param_list f.params

    s0 : Scope
    s0 = programs.in_function s f.name.id

    es0 : List Entry
    es0 = made_params s0 ns []

    own : owner_of f.name.id ≡ owner.OfFunction
    own = is_function no_code (names p) order [] f.name.id other

    is_in : In c s0 []
    is_in = record {
      owner = ap (λ o. (round_of o s).owner) own;
      captured = ap (λ o. (round_of o s).captured) own;
      entries = ap (λ o. (round_of o s).entries) own;
      deep = omega arith;
      arrays = tt;
    }

module _ (p : tree.ProgramTree) (program : IsLawful p) (m : Main) (found : main_of p ≡ Some m) (more : List Binding) (apart : AreElse m.file more) where
  order : InOrder (names p)
  order = names_in_order p program.placed

  abbrev there : MainIn p empty_file programs.file m
  there = main_in p empty_file programs.file m (main_is_scoped p ∙ found)

  abbrev f : tree.FunctionTree
  f = there.function

  abbrev s : Scope
  s = after_items programs.file there.items

  is_file : m.file ≡ with_items empty_file there.items
  is_file = ap (λ (x : Main). x.file) there.is

  at : IsPlaced (names p) m.file s f
  at =
      subst (λ file. IsPlaced (names p) file s f) (sym is_file)
      (placed (names p) order there.items there.rest f empty_file programs.file (subst (AreAll IsItem) there.divided program.leveled.items) (λ n args turns. tt) (nothing_fits no_code (names p) order []) tt
      (subst (λ is. AreLawful (items_notes programs.file is)) there.divided (lawful-program p program.lawful))
      (subst (λ is. Tells (names p) (items_notes programs.file is)) there.divided (tells-program p)))

  abbrev body_scope : Scope
  body_scope = in_body s f

  in_main : InMain s.entries body_scope
  in_main = main_body s f there.named at.all

  abbrev tasks : List Task
  tasks = scoped_tasks_in_all body_scope f.body

  of_main : m.tasks ≡ tasks
  of_main = ap (λ (x : Main). x.tasks) there.is

  abbrev slots : List (List ℕ)
  slots = text.captures (stmts_notes body_scope f.body)

  rising : Rising (program_tasks p)
  rising = tasks_rise p program.placed

  -- the body of `main`
  abbrev c : Context
  c = main_context no_code m.file at.falls (names p) order s.entries at.fits 0 0

  begins : body_scope ≡ round_of owner.OfMain s
  begins =
      ap (after_params (programs.in_function s f.name.id)) (there.bare [] (distinct-program p (lawful-program p program.lawful)) (main_there p program.lawful))
      ∙ ap (λ o. round_of o s) (ap (λ t. if t then owner.OfMain else owner.OfFunction) there.named)

  in_scope : In c body_scope (round_entries s)
  in_scope =
      subst (λ t. In c t (round_entries s)) (sym begins) (record { owner = refl; captured = refl; entries = refl; deep = omega arith; arrays = (tt, (tt, (tt, tt))) })

  sees : SeesAll c
  sees t es bound id d is same has =
      seen_by c t es bound id d is same has (λ e. inr (refl, known_has no_code m.file (find m.file.names id) d (at.fits.known id d (ap entity_of (sym e) ∙ has))))

  own : OwnsAll (IsNamed (sites_of tasks)) body_scope f.body
  own =
      all_own_more f.body body_scope
      (λ t mark cs a k. (
        k.number,
        number_is (names p) s.entries tasks (program_tasks p) slots (there.tasks ∙ sym (all_stripped f.body body_scope)) rising.0 rising.1 rising.2 t mark cs a k,
        captured_is (names p) s.entries tasks (program_tasks p) slots (there.tasks ∙ sym (all_stripped f.body body_scope)) rising.0 rising.1 rising.2 t mark cs a k,
      ))
      (owns_stmts (names p) s.entries tasks slots at.leveled body_scope 0 in_main at.lawful at.tells (λ j x is. let z : 0 + j ≡ j = omega arith in ap (slice_get tasks) z ∙ is)
      (λ j x is. let z : 0 + j ≡ j = omega arith in ap (slice_get slots) z ∙ is))

  main_finds : (input_len budget : ℕ) → control_of (run_all (round_main m) m.body (with_more more (control_state input_len)) budget) ≡ control_of (run_all (round_main m) m.body (control_state input_len) budget)
  main_finds input_len budget =
      subst (λ (x : tree.Stmts). control_of (run_all (round_main m) x (with_more more (control_state input_len)) budget) ≡ control_of (run_all (round_main m) x (control_state input_len) budget)) (sym (ap (λ (x : Main). x.body) there.is))
      (same_control c more (around (round_entries s)) (made_all body_scope f.body (round_entries s))
      (stmts_same c more apart (sites_of m.tasks) (IsNamed (sites_of m.tasks)) (λ e. sees) (λ e t mark cs a k. k) at.leveled body_scope (round_entries s) (control_state input_len) budget in_scope refl
      (agrees c (stmts_notes body_scope f.body) at.lawful at.tells (λ n. tt)) (subst (λ ts. OwnsAll (IsNamed (sites_of ts)) body_scope f.body) (sym of_main) own)))

  -- the body of a task
  module _ (t : Task) (a : Activation) (inputs : List ℤ) (budget : ℕ) (is_task : slice_get m.tasks a.site ≡ Some t) where
    at_task : (slots : List ℕ) × (slice_get (text.captures (stmts_notes body_scope f.body)) a.site ≡ Some slots) × TaskAt (names p) s.entries t slots
    at_task =
        matched (names p) s.entries tasks slots a.site t (match_stmts (names p) s.entries at.leveled body_scope in_main at.lawful at.tells) (ap (λ ts. slice_get ts a.site) (sym of_main) ∙ is_task)

    abbrev task_there : TaskAt (names p) s.entries t at_task.0
    task_there = at_task.2

    abbrev these : Task
    these = scoped_task_at task_there.scope task_there.mark task_there.clauses task_there.body

    abbrev round : Context
    round = task_context no_code m.file at.falls (names p) order s.entries at.fits t at_task.0 task_there a.claims

    abbrev body_of : Scope
    body_of = inner no_code m.file at.falls (names p) order s.entries at.fits t at_task.0 task_there a.claims

    abbrev begun : BodyState
    begun = state_of (bound_round these a.captured) (item_lists a.claims inputs)

    in_round : Matches round begun.bound []
    in_round =
        items_ids task_there.scope _ 0 (members task_there.clauses) _ _
        (captured_ids task_there.scope.entries (captured task_there.scope.entries (members task_there.clauses) task_there.body) a.captured [] [] refl)
        ∙ ap entry_ids (items_onto task_there.scope _ 0 (members task_there.clauses) [] (caught_all no_code m.file at.falls (names p) order s.entries at.fits t at_task.0 task_there a.claims))

    task_finds : outcome t.mark.line a.claims (run (in_function m.file) t.body (with_more more (state_of (bound_round t a.captured) (item_lists a.claims inputs))) budget)
        ≡ outcome t.mark.line a.claims (run (in_function m.file) t.body (state_of (bound_round t a.captured) (item_lists a.claims inputs)) budget)
    task_finds =
        subst (λ (x : Task). outcome x.mark.line a.claims (run (in_function m.file) x.body (with_more more (state_of (bound_round x a.captured) (item_lists a.claims inputs))) budget)
        ≡ outcome x.mark.line a.claims (run (in_function m.file) x.body (state_of (bound_round x a.captured) (item_lists a.claims inputs)) budget)) (sym task_there.is)
        (same_outcome round more (exactly []) [] task_there.mark.line a.claims
        (stmt_same round more apart [] nothing (λ e. absurd (cc)) (λ e q mark cs b k. absurd (cc)) task_there.leveled body_of [] begun budget
        (task_in no_code m.file at.falls (names p) order s.entries at.fits t at_task.0 task_there a.claims) in_round (task_agrees no_code m.file at.falls (names p) order s.entries at.fits t at_task.0 task_there a.claims)
        (owns_nothing task_there.body body_of)))

pub main_finds_its_names : MainFindsItsNames
main_finds_its_names p m more input_len budget program found apart = main_finds p program m found more apart input_len budget ∙ sym (ap (λ o. control_in o input_len budget) found)

pub tasks_find_their_names : TasksFindTheirNames
tasks_find_their_names p m t more a inputs budget program found is_task apart =
    task_finds p program m found more apart t a inputs budget is_task
    ∙ sym (ap (λ o. outcome_in o a inputs budget) found ∙ ap (λ o. chosen_outcome m.file o a inputs budget) is_task)
