-- Runs of the machine that follow an answer of the meaning.
use Rattle.std.proofs.Common.{◌≡◌, ℕ, suc, ◌+◌, ◌<◌, arith, Bool, true, false, if◌then◌else◌, List, [], ◌∷◌, length, Some, None, Ok, Err, Result, ltb, ℤ, pos, negsuc, refl, sym, ap, ◌∙◌, subst}
use Rattle.std.specs.Prelude.{slice_set, slice_index_or}
use Rattle.c_int.specs.Operators.{is_zero, unary_value, binary_value}
use Rattle.c_int.specs.declared.operators.Binary as int_binary
use Rattle.c_int.specs.declared.operators.Unary as int_unary
use Rattle.c_int.specs.declared.trap.Trap.TheVariants as trap_of
use Rattle.c_int.specs.declared.trap.OperatorTrap.{OperatorTrap}
use Rattle.cddf_meaning.specs.Answers.{Answer, traps, and_then, at_line, Left, left, with_turns}
use Rattle.cddf_meaning.specs.Value.{checked}
use Rattle.cddf_meaning.specs.declared.ending.Ending.{Ending}
use Rattle.cddf_meaning.specs.declared.ending.Ending.TheVariants as ending
use Rattle.flow_core_laws.specs.declared.activation.Activation.{Activation}
use Rattle.os_code.specs.declared.instr.Instr.{Instr}
use Rattle.os_code.specs.declared.instr.Instr.TheVariants as instr
use Rattle.os_code.specs.declared.parts.Parts.{Parts}
use Rattle.os_code.specs.Machine.{Frame, TaskWindow, MachineState, Halt, Trapped, OverBudget, Limited, Going, Halted, or_trap, or_its_trap, below, act, step, RunsToHalt, Halts, GoesOn}
use Rattle.os_code.specs.Parts.{instr_at}

-- what a machine's state holds beside its place, operands, callers and turns
pub record Store : Type 0 where
  pub slots : List ℤ
  pub windows : List TaskWindow
  pub created : List Activation
  pub skips : List ℕ

abbrev pub with_slots : Store → List ℤ → Store
with_slots m slots = record m { slots = slots }

abbrev pub at : List Frame → ℕ → List ℤ → Store → ℕ → MachineState
at callers place stack m turns = record {
  callers = callers;
  place = place;
  stack = stack;
  slots = m.slots;
  turns = turns;
  windows = m.windows;
  created = m.created;
  skips = m.skips;
}

-- where the machine stands behind an answer, by what is known of it
pub record Behind (A : Type 0) : Type 1 where
  pub Known : A → Type 0
  pub state : (x : A) → Known x → MachineState
  -- what holds where it halted
  pub created : List Activation

-- behind an expression its value is on the stack
abbrev pub pushed : List Frame → ℕ → List ℤ → Store → Behind (Left ℤ)
pushed callers to stack m = record { Known = λ n. Unit {0}; state = λ n u. at callers to (n.value ∷ stack) m n.turns; created = m.created }

-- numbers are pushed, the first one first
abbrev pub onto : List ℤ → List ℤ → List ℤ
onto [] stack = stack
onto (v ∷ vs) stack = onto vs (v ∷ stack)

-- behind the check of an index
abbrev pub checked_index : ℤ → ℕ → (ℕ → MachineState) → List Activation → Behind ℕ
checked_index v size t created = record { Known = λ k. (v ≡ pos k) × (k < size); state = λ k u. t k; created = created }

-- behind arguments their values are on the stack
abbrev pub pushed_all : List Frame → ℕ → ℕ → List ℤ → Store → Behind (Left (List ℤ))
pushed_all callers count to stack m =
    record { Known = λ ns. length ns.value ≡ count; state = λ ns u. at callers to (onto ns.value stack) m ns.turns; created = m.created }

abbrev pub halt_of : Ending → Halt
halt_of (ending.Trapped code line) = Trapped code line
halt_of ending.OverBudget = OverBudget
halt_of (ending.Limited n) = Limited n

module _ (code : Parts) where
  -- from one state the machine comes to another
  pub data Leads : MachineState → MachineState → Type 0 where
    stays : {s : MachineState} → Leads s s
    steps : {s t u : MachineState} → step code s ≡ Going t → Leads t u → Leads s u

  pub one : {s t : MachineState} → step code s ≡ Going t → Leads s t
  one h = steps h stays

  pub leads_on : {s t u : MachineState} → Leads s t → Leads t u → Leads s u
  leads_on stays b = b
  leads_on (steps h a) b = steps h (leads_on a b)

  -- the machine halts so
  pub record Stops (s : MachineState) (e : Ending) (created : List Activation) : Type 0 where
    pub steps : ℕ
    pub last : MachineState
    pub runs : RunsToHalt code s (halt_of e) last steps
    pub made : last.created ≡ created

  pub stops_from : {s t : MachineState} {e : Ending} {created : List Activation} → Leads s t → Stops t e created → Stops s e created
  stops_from stays h = h
  stops_from (steps a l) h = let k = stops_from l h in record { steps = k.steps + 1; last = k.last; runs = GoesOn a k.runs; made = k.made }

  pub stops_at : {s : MachineState} (e : Ending) → step code s ≡ Halted (halt_of e) s → Stops s e s.created
  stops_at {s = s} e h = record { steps = 1; last = s; runs = Halts h; made = refl }

  -- the machine does what the answer says
  pub data Meets {A : Type 0} (s : MachineState) (end : Behind A) : Answer A → Type 0 where
    gives : (x : A) (w : end.Known x) → Leads s (end.state x w) → Meets s end (Ok x)
    halts : {e : Ending} → Stops s e end.created → Meets s end (Err e)

  pub meets_from : {A : Type 0} {s t : MachineState} {end : Behind A} {a : Answer A} → Leads s t → Meets t end a → Meets s end a
  meets_from l (gives x w m) = gives x w (leads_on l m)
  meets_from l (halts h) = halts (stops_from l h)

  pub meets_then : {A B : Type 0} {s : MachineState} {mid : Behind A} {end : Behind B} {a : Answer A} (f : A → Answer B) → end.created ≡ mid.created →
      Meets s mid a → ((x : A) (w : mid.Known x) → Meets (mid.state x w) end (f x)) → Meets s end (and_then a f)
  meets_then f same (gives x w l) next = meets_from l (next x w)
  meets_then {s = s} f same (halts {e = e} h) next = halts (subst (Stops s e) (sym same) h)

  -- an index that is checked
  pub checks : (s : MachineState) (v : ℤ) (size line : ℕ) (t : ℕ → MachineState) → step code s ≡ or_trap s trap_of.Index line (below size v) (λ k. Going (t k)) →
      Meets s (checked_index v size t s.created) (checked size line v)
  checks s (pos i) size line t is = by_case (ltb i size) refl is
    where
      by_case : (b : Bool) → ltb i size ≡ b → step code s ≡ or_trap s trap_of.Index line (if b then Some i else None) (λ k. Going (t k)) →
          Meets s (checked_index (pos i) size t s.created) (if b then Ok i else traps trap_of.Index line)
      by_case true e h = gives i (refl, grind arith) (one h)
      by_case false e h = halts (stops_at (ending.Trapped trap_of.Index line) h)
  checks s (negsuc i) size line t is = halts (stops_at (ending.Trapped trap_of.Index line) is)

  then_assoc : {A B C : Type 0} (a : Answer A) (f : A → Answer B) (g : B → Answer C) → and_then a (λ x. and_then (f x) g) ≡ and_then (and_then a f) g
  then_assoc (Ok x) f g = refl
  then_assoc (Err e) f g = refl

  pub meets_in : {A B C : Type 0} (s : MachineState) (end : Behind C) (a : Answer A) (f : A → Answer B) (g : B → Answer C) →
      Meets s end (and_then a (λ x. and_then (f x) g)) → Meets s end (and_then (and_then a f) g)
  meets_in s end a f g h = subst (Meets s end) (then_assoc a f g) h

  -- an instruction
  pub acts : (s : MachineState) (i : Instr) → instr_at code s.place ≡ Some i → step code s ≡ act code s (Some i)
  acts s i is = ap (act code s) is

  module _ (callers : List Frame) where
    pub push : (v : ℤ) (p : ℕ) (stack : List ℤ) (m : Store) (turns : ℕ) → instr_at code p ≡ Some (instr.Push v) →
        Leads (at callers p stack m turns) (at callers (p + 1) (v ∷ stack) m turns)
    unfolding act
    push v p stack m turns is = one (acts (at callers p stack m turns) (instr.Push v) is)

    pub drop_top : (v : ℤ) (p : ℕ) (stack : List ℤ) (m : Store) (turns : ℕ) → instr_at code p ≡ Some instr.Drop →
        Leads (at callers p (v ∷ stack) m turns) (at callers (p + 1) stack m turns)
    unfolding act
    drop_top v p stack m turns is = one (acts (at callers p (v ∷ stack) m turns) instr.Drop is)

    pub copy_top : (v : ℤ) (p : ℕ) (stack : List ℤ) (m : Store) (turns : ℕ) → instr_at code p ≡ Some instr.Copy →
        Leads (at callers p (v ∷ stack) m turns) (at callers (p + 1) (v ∷ v ∷ stack) m turns)
    unfolding act
    copy_top v p stack m turns is = one (acts (at callers p (v ∷ stack) m turns) instr.Copy is)

    pub load : (slot p : ℕ) (stack : List ℤ) (m : Store) (turns : ℕ) → instr_at code p ≡ Some (instr.Load slot) →
        Leads (at callers p stack m turns) (at callers (p + 1) (slice_index_or m.slots slot (pos 0) ∷ stack) m turns)
    unfolding act
    load slot p stack m turns is = one (acts (at callers p stack m turns) (instr.Load slot) is)

    pub store_top : (slot p : ℕ) (v : ℤ) (stack : List ℤ) (m : Store) (turns : ℕ) → instr_at code p ≡ Some (instr.Store slot) →
        Leads (at callers p (v ∷ stack) m turns) (at callers (p + 1) stack (with_slots m (slice_set m.slots slot v)) turns)
    unfolding act
    store_top slot p v stack m turns is = one (acts (at callers p (v ∷ stack) m turns) (instr.Store slot) is)

    pub jump : (p to : ℕ) (stack : List ℤ) (m : Store) (turns : ℕ) → instr_at code p ≡ Some (instr.Jump to) →
        Leads (at callers p stack m turns) (at callers to stack m turns)
    unfolding act
    jump p to stack m turns is = one (acts (at callers p stack m turns) (instr.Jump to) is)

    pub takes_turn : (p : ℕ) (stack : List ℤ) (m : Store) (turns : ℕ) → instr_at code p ≡ Some instr.Turn →
        Leads (at callers p stack m (suc turns)) (at callers (p + 1) stack m turns)
    unfolding act
    takes_turn p stack m turns is = one (acts (at callers p stack m (suc turns)) instr.Turn is)

    pub no_turn : (p : ℕ) (stack : List ℤ) (m : Store) → instr_at code p ≡ Some instr.Turn →
        Stops (at callers p stack m 0) ending.OverBudget m.created
    unfolding act
    no_turn p stack m is = stops_at ending.OverBudget (acts (at callers p stack m 0) instr.Turn is)

    -- a jump where the top is 0
    pub branch : (p to : ℕ) (v : ℤ) (stack : List ℤ) (m : Store) (turns : ℕ) (t : Bool) → is_zero v ≡ t → instr_at code p ≡ Some (instr.JumpZero to) →
        Leads (at callers p (v ∷ stack) m turns) (at callers (if t then to else p + 1) stack m turns)
    unfolding act
    branch p to v stack m turns true z is =
        one (acts (at callers p (v ∷ stack) m turns) (instr.JumpZero to) is ∙ ap (λ b. if b then Going (at callers to stack m turns) else Going (at callers (p + 1) stack m turns)) z)
    branch p to v stack m turns false z is =
        one (acts (at callers p (v ∷ stack) m turns) (instr.JumpZero to) is ∙ ap (λ b. if b then Going (at callers to stack m turns) else Going (at callers (p + 1) stack m turns)) z)

    pub jump_zero : {A : Type 0} (p to : ℕ) (v : ℤ) (stack : List ℤ) (m : Store) (turns : ℕ) (end : Behind A) (x y : Answer A) →
        instr_at code p ≡ Some (instr.JumpZero to) →
        Meets (at callers to stack m turns) end x → Meets (at callers (p + 1) stack m turns) end y →
        Meets (at callers p (v ∷ stack) m turns) end (if is_zero v then x else y)
    jump_zero p to v stack m turns end x y is a b = by_case (is_zero v) refl
      where
        by_case : (t : Bool) → is_zero v ≡ t → Meets (at callers p (v ∷ stack) m turns) end (if t then x else y)
        by_case true z = meets_from (branch p to v stack m turns true z is) a
        by_case false z = meets_from (branch p to v stack m turns false z is) b

    -- an operator
    unary_gives : (r : Result ℤ OperatorTrap) (op : int_unary.Unary) (line p : ℕ) (v : ℤ) (stack : List ℤ) (m : Store) (turns : ℕ) → unary_value op v ≡ r →
        instr_at code p ≡ Some (instr.Unary op line) →
        Meets (at callers p (v ∷ stack) m turns) (pushed callers (p + 1) stack m) (with_turns turns (at_line line r))
    unfolding act
    unary_gives (Ok w) op line p v stack m turns r is =
        gives (left w turns) tt (one (acts (at callers p (v ∷ stack) m turns) (instr.Unary op line) is ∙ ap (λ x. or_its_trap (at callers p (v ∷ stack) m turns) line x (λ value. Going (at callers (p + 1) (value ∷ stack) m turns))) r))
    unary_gives (Err trap) op line p v stack m turns r is =
        halts (stops_at (ending.Trapped (trap_of.Operator trap) line) (acts (at callers p (v ∷ stack) m turns) (instr.Unary op line) is ∙ ap (λ x. or_its_trap (at callers p (v ∷ stack) m turns) line x (λ value. Going (at callers (p + 1) (value ∷ stack) m turns))) r))

    pub unary_step : (op : int_unary.Unary) (line p : ℕ) (v : ℤ) (stack : List ℤ) (m : Store) (turns : ℕ) → instr_at code p ≡ Some (instr.Unary op line) →
        Meets (at callers p (v ∷ stack) m turns) (pushed callers (p + 1) stack m) (with_turns turns (at_line line (unary_value op v)))
    unary_step op line p v stack m turns is = unary_gives (unary_value op v) op line p v stack m turns refl is

    binary_gives : (r : Result ℤ OperatorTrap) (op : int_binary.Binary) (line p : ℕ) (a b : ℤ) (stack : List ℤ) (m : Store) (turns : ℕ) → binary_value op a b ≡ r →
        instr_at code p ≡ Some (instr.Binary op line) →
        Meets (at callers p (b ∷ a ∷ stack) m turns) (pushed callers (p + 1) stack m) (with_turns turns (at_line line r))
    unfolding act
    binary_gives (Ok w) op line p a b stack m turns r is =
        gives (left w turns) tt (one (acts (at callers p (b ∷ a ∷ stack) m turns) (instr.Binary op line) is ∙ ap (λ x. or_its_trap (at callers p (b ∷ a ∷ stack) m turns) line x (λ value. Going (at callers (p + 1) (value ∷ stack) m turns))) r))
    binary_gives (Err trap) op line p a b stack m turns r is =
        halts (stops_at (ending.Trapped (trap_of.Operator trap) line) (acts (at callers p (b ∷ a ∷ stack) m turns) (instr.Binary op line) is ∙ ap (λ x. or_its_trap (at callers p (b ∷ a ∷ stack) m turns) line x (λ value. Going (at callers (p + 1) (value ∷ stack) m turns))) r))

    pub binary_step : (op : int_binary.Binary) (line p : ℕ) (a b : ℤ) (stack : List ℤ) (m : Store) (turns : ℕ) → instr_at code p ≡ Some (instr.Binary op line) →
        Meets (at callers p (b ∷ a ∷ stack) m turns) (pushed callers (p + 1) stack m) (with_turns turns (at_line line (binary_value op a b)))
    binary_step op line p a b stack m turns is = binary_gives (binary_value op a b) op line p a b stack m turns refl is
