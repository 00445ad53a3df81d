-- Statements one after another, in loops and in scopes of their own.
use Rattle.std.proofs.Common.{◌≡◌, ℕ, zero, suc, ◌+◌, ◌≤◌, Bool, true, false, if◌then◌else◌, List, ◌∷◌, ◌++◌, length, Some, Ok, ℤ, refl, sym, ap, ◌∙◌, subst, arith, append_assoc}
use Rattle.c_int.specs.Operators.{is_zero}
use Rattle.cddf_meaning.specs.Answers.{Answer, Left}
use Rattle.cddf_meaning.specs.Flow.{Ran, Went, Ended, Runs, with_value, goes_on, flows, loops, left_state, left_from}
use Rattle.cddf_meaning.specs.Moves.{Falls, Keeps}
use Rattle.cddf_meaning.specs.Run.{loop}
use Rattle.cddf_meaning.specs.BodyState.{BodyState}
use Rattle.cddf_meaning.specs.Variables.{leave}
use Rattle.cddf_meaning.specs.declared.ending.Ending.{Ending}
use Rattle.cddf_meaning.specs.declared.flow.Flow.{Flow}
use Rattle.cddf_meaning.specs.declared.flow.Flow.TheVariants.{GoesOn, Breaks, Continues, Returns}
use Rattle.cddf_meaning.specs.declared.variable.Binding.{Binding}
use Rattle.flow_core_laws.specs.declared.activation.Activation.{Activation}
use Rattle.os_ast.specs.declared.names.Entry.{Entry}
use Rattle.os_code.specs.declared.instr.Instr.{Instr}
use Rattle.os_code.specs.declared.instr.Instr.TheVariants as instr
use Rattle.os_code.specs.declared.parts.Parts.{Parts}
use Rattle.os_code.specs.Machine as machine
use Rattle.os_code.specs.Machine.{Frame}
use Rattle.os_code.specs.Parts.{instr_at}
use Rattle.lowering_relation.specs.Alignment.{Aligned}
use Rattle.lowering_relation.proofs.Alignment.{left}
use Rattle.lowering_relation.proofs.Context.{Side, InFunction, InTask, InMain, resources, Kept, Made, Context, means}
use Rattle.lowering_relation.proofs.Steps.{Store, at, Behind, Leads, stays, leads_on, Stops, stops_from, Meets, gives, halts, takes_turn, no_turn, jump}

-- where the machine stands behind a statement, by what is known of it
pub record After : Type 1 where
  pub Known : Flow → BodyState → Type 0
  pub state : (f : Flow) (st : BodyState) (turns : ℕ) → Known f st → machine.MachineState
  pub side : Side

-- the machine does what a statement does
pub data Does (code : Parts) (s : machine.MachineState) (end : After) : Ran → Type 0 where
  went : (f : Flow) (st : BodyState) (turns : ℕ) (w : end.Known f st) → Leads code s (end.state f st turns w) → Does code s end (Went f st turns)
  ended : {e : Ending} {activations : List Activation} (made : List Activation) → Stops code s e made → Made end.side activations made →
      Does code s end (Ended e activations)

pub does_from : {code : Parts} {s t : machine.MachineState} {end : After} {r : Ran} → Leads code s t → Does code t end r → Does code s end r
does_from {code = code} l (went f st turns w k) = went f st turns w (leads_on code l k)
does_from {code = code} l (ended made h k) = ended made (stops_from code l h) k

pub kept_made : (side : Side) (st : BodyState) (m : Store) → Kept side st m → Made side st.activations m.created
kept_made (InFunction windows created skips) st m h = h.1
kept_made (InTask claims) st m h = tt
kept_made (InMain streams later) st m h = sym h.0

-- what follows an answer
pub given_does : {A : Type 0} {code : Parts} {s : machine.MachineState} {end : After} {mid : Behind A} {a : Answer A} (st : BodyState) (m : Store) (next : A → Ran) → mid.created ≡ m.created → Kept end.side st m →
    Meets code s mid a → ((x : A) (w : mid.Known x) → a ≡ Ok x → Does code (mid.state x w) end (next x)) → Does code s end (with_value a st next)
given_does st m next same kept (gives x w l) go = does_from l (go x w refl)
given_does {end = end} {mid = mid} st m next same kept (halts h) go = ended mid.created h (subst (Made end.side st.activations) (sym same) (kept_made end.side st m kept))

abbrev pub exactly : List Entry → List Entry → Type 0
exactly es = λ x. x ≡ es

abbrev pub Extends : List Entry → List Entry → Type 0
Extends after es = (added : List Entry) × (after ≡ added ++ es)

abbrev pub around : List Entry → List Entry → Type 0
around es = λ x. Extends x es

-- behind a condition the machine stands where its value leads
abbrev pub branched : List Frame → (fails to : ℕ) → List ℤ → Store → Behind (Left ℤ)
branched callers fails to stack m = record {
  Known = λ n. Unit {0};
  state = λ n u. at callers (if is_zero n.value then fails else to) stack m n.turns;
  created = m.created;
}

module _ (c : Context) (callers : List Frame) (leaves : Instr) (total : ℕ) where
  abbrev pub AlignedIn : Store → List Binding → List Entry → Type 0
  AlignedIn m bound es = Aligned (resources c.side) (means c) m.slots bound (es ++ c.bound)

  -- what is known behind a statement: where nothing leaves it, what is in scope behind it
  abbrev pub Placed : (List Entry → Type 0) → List Entry → Store → List Binding → Flow → Type 0
  Placed within after m bound GoesOn = AlignedIn m bound after
  Placed within after m bound Breaks = (es : List Entry) × within es × AlignedIn m bound es
  Placed within after m bound Continues = (es : List Entry) × within es × AlignedIn m bound es
  Placed within after m bound (Returns v) = (p : ℕ) × (instr_at c.code p ≡ Some leaves)

  abbrev pub stands : (next broke continued : ℕ) (stack : List ℤ) (within : List Entry → Type 0) (after : List Entry) (m : Store) (bound : List Binding) (turns : ℕ) (f : Flow) →
      Placed within after m bound f → machine.MachineState
  stands next broke continued stack within after m bound turns GoesOn h = at callers next stack m turns
  stands next broke continued stack within after m bound turns Breaks h = at callers broke stack m turns
  stands next broke continued stack within after m bound turns Continues h = at callers continued stack m turns
  stands next broke continued stack within after m bound turns (Returns v) h = at callers h.0 (v ∷ stack) m turns

  abbrev pub settled : (next broke continued : ℕ) → List ℤ → (List Entry → Type 0) → List Entry → After
  settled next broke continued stack within after = record {
    Known = λ f st. (m : Store) × (length m.slots ≡ total) × Kept c.side st m × Placed within after m st.bound f;
    state = λ f st turns w. stands next broke continued stack within after w.0 st.bound turns f w.3;
    side = c.side;
  }

  -- A part of the code does what a statement does, from each state in which these are in scope.
  abbrev pub DoesFrom : (from : ℕ) → List ℤ → List Entry → After → Runs → Type 0
  DoesFrom from stack es end runs =
      (st : BodyState) (m : Store) (turns : ℕ) → length m.slots ≡ total → Kept c.side st m → AlignedIn m st.bound es →
      Does c.code (at callers from stack m turns) end (runs st turns)

  -- behind a statement that goes on
  pub went_on : {s : machine.MachineState} {next broke continued : ℕ} {stack : List ℤ} {within : List Entry → Type 0} (after : List Entry) (st : BodyState) (m : Store) (turns : ℕ) →
      length m.slots ≡ total → Kept c.side st m → AlignedIn m st.bound after → Leads c.code s (at callers next stack m turns) →
      Does c.code s (settled next broke continued stack within after) (goes_on st turns)
  went_on after st m turns len kept al l = went GoesOn st turns (m, len, kept, al) l

  -- what follows a statement
  pub flows_does : {s : machine.MachineState} {r : Ran} (mid next broke continued : ℕ) (stack : List ℤ) (inner within : List Entry → Type 0) (after1 after : List Entry) (runs : Runs) →
      ((x : List Entry) → inner x → within x) → Does c.code s (settled mid broke continued stack inner after1) r →
      ((st : BodyState) (m : Store) (turns : ℕ) → r ≡ Went GoesOn st turns → length m.slots ≡ total → Kept c.side st m → AlignedIn m st.bound after1 →
      Does c.code (at callers mid stack m turns) (settled next broke continued stack within after) (runs st turns)) →
      Does c.code s (settled next broke continued stack within after) (flows runs r)
  flows_does mid next broke continued stack inner within after1 after runs wide (went GoesOn st turns (m, len, kept, al) l) go = does_from l (go st m turns refl len kept al)
  flows_does mid next broke continued stack inner within after1 after runs wide (went Breaks st turns (m, len, kept, (es, i, al)) l) go =
      went Breaks st turns (m, len, kept, (es, wide es i, al)) l
  flows_does mid next broke continued stack inner within after1 after runs wide (went Continues st turns (m, len, kept, (es, i, al)) l) go =
      went Continues st turns (m, len, kept, (es, wide es i, al)) l
  flows_does mid next broke continued stack inner within after1 after runs wide (went (Returns v) st turns (m, len, kept, (p, is)) l) go =
      went (Returns v) st turns (m, len, kept, (p, is)) l
  flows_does mid next broke continued stack inner within after1 after runs wide (ended made h k) go = ended made h k

  -- behind the body of a loop
  pub loops_does : {s : machine.MachineState} {r : Ran} (again exit broke continued : ℕ) (stack : List ℤ) (es : List Entry) (runs : Runs) →
      Does c.code s (settled again exit again stack (exactly es) es) r →
      ((st : BodyState) (m : Store) (turns : ℕ) (f : Flow) → r ≡ Went f st turns → length m.slots ≡ total → Kept c.side st m → AlignedIn m st.bound es →
      Does c.code (at callers again stack m turns) (settled exit broke continued stack (exactly es) es) (runs st turns)) →
      Does c.code s (settled exit broke continued stack (exactly es) es) (loops runs r)
  loops_does again exit broke continued stack es runs (went GoesOn st turns (m, len, kept, al) l) go = does_from l (go st m turns GoesOn refl len kept al)
  loops_does again exit broke continued stack es runs (went Continues st turns (m, len, kept, (x, i, al)) l) go =
      does_from l (go st m turns Continues refl len kept (subst (AlignedIn m st.bound) i al))
  loops_does again exit broke continued stack es runs (went Breaks st turns (m, len, kept, (x, i, al)) l) go =
      went GoesOn st turns (m, len, kept, subst (AlignedIn m st.bound) i al) l
  loops_does again exit broke continued stack es runs (went (Returns v) st turns (m, len, kept, (p, is)) l) go =
      went (Returns v) st turns (m, len, kept, (p, is)) l
  loops_does again exit broke continued stack es runs (ended made h k) go = ended made h k

  kept_bound : (side : Side) (st : BodyState) (m : Store) (bound : List Binding) → Kept side st m → Kept side (record st { bound = bound }) m
  kept_bound (InFunction windows created skips) st m bound h = h
  kept_bound (InTask claims) st m bound h = h
  kept_bound (InMain streams later) st m bound h = h

  left_in : (m : Store) (was : Store) (outer inner : List Binding) (x es : List Entry) → Extends x es → AlignedIn was outer es → AlignedIn m inner x → AlignedIn m (leave outer inner) es
  left_in m was outer inner x es (added, e) o h =
      left (resources c.side) (means c) m.slots was.slots outer inner added (es ++ c.bound) o
      (subst (λ y. Aligned (resources c.side) (means c) m.slots inner y) (ap (λ y. y ++ c.bound) e ∙ append_assoc added es c.bound) h)

  -- a scope of its own
  pub scope_does : {s : machine.MachineState} {r : Ran} (outer : BodyState) (was : Store) (next broke continued : ℕ) (stack : List ℤ) (inner : List Entry → Type 0) (after es : List Entry) →
      ((x : List Entry) → inner x → Extends x es) → Extends after es → AlignedIn was outer.bound es →
      Does c.code s (settled next broke continued stack inner after) r →
      Does c.code s (settled next broke continued stack (exactly es) es) (left_from outer r)
  scope_does outer was next broke continued stack inner after es wide ext o (went GoesOn st turns (m, len, kept, al) l) =
      went GoesOn (left_state outer st) turns (m, len, kept_bound c.side st m (leave outer.bound st.bound) kept, left_in m was outer.bound st.bound after es ext o al) l
  scope_does outer was next broke continued stack inner after es wide ext o (went Breaks st turns (m, len, kept, (x, i, al)) l) =
      went Breaks (left_state outer st) turns (m, len, kept_bound c.side st m (leave outer.bound st.bound) kept, (es, refl, left_in m was outer.bound st.bound x es (wide x i) o al)) l
  scope_does outer was next broke continued stack inner after es wide ext o (went Continues st turns (m, len, kept, (x, i, al)) l) =
      went Continues (left_state outer st) turns (m, len, kept_bound c.side st m (leave outer.bound st.bound) kept, (es, refl, left_in m was outer.bound st.bound x es (wide x i) o al)) l
  scope_does outer was next broke continued stack inner after es wide ext o (went (Returns v) st turns (m, len, kept, (p, is)) l) =
      went (Returns v) (left_state outer st) turns (m, len, kept_bound c.side st m (leave outer.bound st.bound) kept, (p, is)) l
  scope_does outer was next broke continued stack inner after es wide ext o (ended made h k) = ended made h k

  -- a part that goes on elsewhere by a jump behind it
  pub jumped : {s : machine.MachineState} {r : Ran} (mid next broke continued : ℕ) (stack : List ℤ) (within : List Entry → Type 0) (after : List Entry) → instr_at c.code mid ≡ Some (instr.Jump next) →
      Does c.code s (settled mid broke continued stack within after) r → Does c.code s (settled next broke continued stack within after) r
  jumped mid next broke continued stack within after is (went GoesOn st turns (m, len, kept, al) l) =
      went GoesOn st turns (m, len, kept, al) (leads_on c.code l (jump c.code callers mid next stack m turns is))
  jumped mid next broke continued stack within after is (went Breaks st turns w l) = went Breaks st turns w l
  jumped mid next broke continued stack within after is (went Continues st turns w l) = went Continues st turns w l
  jumped mid next broke continued stack within after is (went (Returns v) st turns w l) = went (Returns v) st turns w l
  jumped mid next broke continued stack within after is (ended made h k) = ended made h k

  by_branch : (t : Bool) (v : ℤ) (fails to : ℕ) (stack : List ℤ) (m : Store) (turns : ℕ) (end : After) (x y : Ran) → is_zero v ≡ t →
      Does c.code (at callers fails stack m turns) end x → Does c.code (at callers to stack m turns) end y →
      Does c.code (at callers (if t then fails else to) stack m turns) end (if t then x else y)
  by_branch true v fails to stack m turns end x y e a b = a
  by_branch false v fails to stack m turns end x y e a b = b

  -- behind a condition
  pub branch_does : (v : ℤ) (fails to : ℕ) (stack : List ℤ) (m : Store) (turns : ℕ) (end : After) (x y : Ran) →
      Does c.code (at callers fails stack m turns) end x → Does c.code (at callers to stack m turns) end y →
      Does c.code (at callers (if is_zero v then fails else to) stack m turns) end (if is_zero v then x else y)
  branch_does v fails to stack m turns end x y a b = by_branch (is_zero v) v fails to stack m turns end x y refl a b

  -- a loop from its turn on
  pub loop_does : (most : ℕ) (test : BodyState → ℕ → Answer (Left ℤ)) (body step : Runs) (from begin again exit broke continued : ℕ) (stack : List ℤ) (es : List Entry) →
      instr_at c.code from ≡ Some instr.Turn →
      ((st : BodyState) (turns : ℕ) → Falls turns (test st turns)) → ((st : BodyState) (turns : ℕ) → Keeps st turns (body st turns)) → ((st : BodyState) (turns : ℕ) → Keeps st turns (step st turns)) →
      ((st : BodyState) (m : Store) (turns : ℕ) → length m.slots ≡ total → Kept c.side st m → AlignedIn m st.bound es →
      Meets c.code (at callers (from + 1) stack m turns) (branched callers exit begin stack m) (test st turns)) →
      DoesFrom begin stack es (settled again exit again stack (exactly es) es) body →
      DoesFrom again stack es (settled from broke continued stack (exactly es) es) step →
      (st : BodyState) (m : Store) (turns : ℕ) → turns ≤ most → length m.slots ≡ total → Kept c.side st m → AlignedIn m st.bound es →
      Does c.code (at callers from stack m turns) (settled exit broke continued stack (exactly es) es) (loop most test body step st turns)
  loop_does most test body step from begin again exit broke continued stack es at_turn falls keeps moves tests bodies steps st m zero le len kept al =
      ended m.created (no_turn c.code callers from stack m at_turn) (kept_made c.side st m kept)
  loop_does zero test body step from begin again exit broke continued stack es at_turn falls keeps moves tests bodies steps st m (suc turns) le len kept al =
      absurd (omega (arith, le))
  loop_does (suc most) test body step from begin again exit broke continued stack es at_turn falls keeps moves tests bodies steps st m (suc turns) le len kept al =
      does_from (takes_turn c.code callers from stack m turns at_turn)
      (given_does st m (λ n. if is_zero n.value then goes_on st n.turns else loops (λ s t. flows (loop most test body step) (step s t)) (body st n.turns)) refl kept
      (tests st m turns len kept al)
      (λ n u e.
      let le1 : n.turns ≤ turns = subst (Falls turns) e (falls st turns) in
      branch_does n.value exit begin stack m n.turns (settled exit broke continued stack (exactly es) es) (goes_on st n.turns) (loops (λ s t. flows (loop most test body step) (step s t)) (body st n.turns))
      (went_on es st m n.turns len kept al stays)
      (loops_does again exit broke continued stack es (λ s t. flows (loop most test body step) (step s t)) (bodies st m n.turns len kept al)
      (λ st2 m2 t2 f e2 len2 kept2 al2.
      let k2 : Keeps st n.turns (Went f st2 t2) = subst (Keeps st n.turns) e2 (keeps st n.turns) in
      flows_does from exit broke continued stack (exactly es) (exactly es) es es (loop most test body step) (λ x i. i) (steps st2 m2 t2 len2 kept2 al2)
      (λ st3 m3 t3 e3 len3 kept3 al3.
      let k3 : Keeps st2 t2 (Went GoesOn st3 t3) = subst (Keeps st2 t2) e3 (moves st2 t2) in
      loop_does most test body step from begin again exit broke continued stack es at_turn falls keeps moves tests bodies steps st3 m3 t3 (omega (arith, le, le1, k2.0, k3.0)) len3 kept3 al3)))))
