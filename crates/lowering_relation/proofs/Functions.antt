-- The code of a function does what a call of it gives.
use Rattle.std.proofs.Common.{◌≡◌, ℕ, zero, suc, ◌+◌, ◌-◌, ◌<◌, ◌≤◌, true, false, if◌then◌else◌, List, [], ◌∷◌, ◌++◌, length, take, drop, reverse, replicate, Option, Some, ℤ, pos, refl, sym, ap, ◌∙◌, subst, inr, arith, append_assoc, length-append}
use Rattle.std.proofs.lemmas.Bool.{le-leb}
use Rattle.std.proofs.lemmas.Grind.{reverse_onto}
use Rattle.std.proofs.lemmas.List.{length-reverse, length-replicate, reverse-reverse, take-append-le, drop-append-le, take_all, drop_all, get_or_append_left}
use Rattle.std.specs.Prelude.{⊤, nat_le}
use Rattle.cddf_meaning.specs.Answers.{left}
use Rattle.cddf_meaning.specs.File.{File}
use Rattle.cddf_meaning.specs.Flow.{Ran}
use Rattle.cddf_meaning.specs.Functions.{returned, bind_params, call_function}
use Rattle.cddf_meaning.specs.Moves.{CallsFall}
use Rattle.cddf_meaning.specs.BodyState.{state_of}
use Rattle.cddf_meaning.specs.Variables.{bind, find, flag_or}
use Rattle.cddf_meaning.specs.declared.flow.Flow.TheVariants.{GoesOn, Breaks, Continues, Returns}
use Rattle.cddf_meaning.specs.declared.variable.Binding.{Binding}
use Rattle.cddf_meaning.specs.declared.variable.Variable.{Variable}
use Rattle.cddf_meaning.specs.declared.variable.Variable.TheVariants as variable
use Rattle.os_ast.specs.Leveled.{AreStmts}
use Rattle.os_ast.specs.Meanings.{meaning_in}
use Rattle.os_ast.specs.Names.{Scope, lookup, entity_of, flag_of}
use Rattle.os_ast.specs.Notes.Declarators.{scalar_entity}
use Rattle.os_ast.specs.Notes.Programs.{param_list, after_param, after_params}
use Rattle.os_ast.specs.Notes.Statements.{after_stmts, stmts_notes}
use Rattle.os_ast.specs.Trees as tree
use Rattle.os_ast.specs.Unsigned.{is_unsigned}
use Rattle.os_ast.specs.declared.names.Entity.{Entity}
use Rattle.os_ast.specs.declared.names.Entity.TheVariants as entity
use Rattle.os_ast.specs.declared.names.Entry.{Entry}
use Rattle.os_ast.specs.declared.names.Owner.TheVariants as owner
use Rattle.os_ast.specs.declared.names.Resolved.{Resolved}
use Rattle.os_ast.specs.declared.names.What.TheVariants as what
use Rattle.os_ast.specs.declared.program.Param.{Param}
use Rattle.os_code.specs.declared.instr.Instr.TheVariants as instr
use Rattle.os_code.specs.declared.parts.Parts.{Parts}
use Rattle.os_code.specs.declared.unit.CodeUnit.{CodeUnit}
use Rattle.os_code.specs.Machine as machine
use Rattle.os_code.specs.Machine.{Frame, Progress, Going, Stuck, pop_many, frame_slots, calls, or_stuck, act, step}
use Rattle.os_code.specs.Parts.{instr_at, unit_at}
use Rattle.lowering_relation.specs.Alignment.{Stacked, slot_at, Aligned}
use Rattle.lowering_relation.specs.Expressions.{Stands}
use Rattle.lowering_relation.specs.Names.{told_at}
use Rattle.lowering_relation.specs.Statements.{HasStmts}
use Rattle.lowering_relation.proofs.Alignment.{stacked_scalar}
use Rattle.lowering_relation.proofs.Context.{InFunction, resources, Kept, Context, means, Agree, In, FileHas, IsCallable}
use Rattle.lowering_relation.proofs.Declares.{means_scalar, scalar_behind}
use Rattle.lowering_relation.proofs.Flows.{Does, went, ended, settled, around}
use Rattle.lowering_relation.proofs.Owning.{nothing, all_own_nothing}
use Rattle.lowering_relation.proofs.Static.{made_all}
use Rattle.lowering_relation.proofs.Steps.{Store, with_slots, at, pushed, onto, Leads, one, leads_on, Stops, Meets, gives, halts, meets_from, acts, push, takes_turn, no_turn}
use Rattle.lowering_relation.proofs.Stmts.{stmts_does}
use Rattle.window_check_laws.specs.Order.{InOrder}

-- Arguments are popped in the order in which they were pushed.
onto_is : (vs st : List ℤ) → onto vs st ≡ reverse vs ++ st
onto_is [] st = refl
onto_is (v ∷ vs) st =
    onto_is vs (v ∷ st) ∙ sym (append_assoc (reverse vs) (v ∷ []) st) ∙ ap (λ xs. xs ++ st) (sym (reverse_onto vs v []))

pub popped : (vs st : List ℤ) (n : ℕ) (go : List ℤ → List ℤ → Progress) → n ≡ length vs → pop_many n (onto vs st) go ≡ go vs st
popped vs st n go is =
    let long : length (reverse vs) ≡ length vs = length-reverse vs in
    let le : n ≤ length (reverse vs) = omega (arith, long, is) in
    let all : nat_le n (length (reverse vs ++ st)) ≡ true = le-leb n (length (reverse vs ++ st)) (let x : length (reverse vs ++ st) ≡ length (reverse vs) + length st = length-append (reverse vs) st in omega (arith, le, x)) in
    ap (λ xs. pop_many n xs go) (onto_is vs st)
    ∙ ap (λ t. if t then go (reverse (take n (reverse vs ++ st))) (drop n (reverse vs ++ st)) else Stuck) all
    ∙ ap (λ xs. go (reverse xs) (drop n (reverse vs ++ st))) (take-append-le n (reverse vs) st le ∙ take_all n (reverse vs) (omega (arith, long, is)))
    ∙ ap (λ xs. go xs (drop n (reverse vs ++ st))) (reverse-reverse vs)
    ∙ ap (go vs) (drop-append-le n (reverse vs) st le ∙ ap (λ xs. xs ++ st) (drop_all n (reverse vs) (omega (arith, long, is))))

-- the declarations of parameters
abbrev pub param_entry : Scope → Param → Entry
param_entry s n = record { id = n.name.id; depth = s.depth; entity = scalar_entity s.owner s.slots; unsigned = is_unsigned n.ty }

abbrev pub made_params : Scope → List Param → List Entry → List Entry
made_params s [] es = es
made_params s (n ∷ ns) es = made_params (after_param s n) ns (param_entry s n ∷ es)

pub params_slots : (ns : List Param) (s : Scope) → (after_params s ns).slots ≡ s.slots + length ns
params_slots [] s = omega arith
params_slots (n ∷ ns) s = let h = params_slots ns (after_param s n) in omega (arith, h)

params_depth : (ns : List Param) (s : Scope) → (after_params s ns).depth ≡ s.depth
params_depth [] s = refl
params_depth (n ∷ ns) s = params_depth ns (after_param s n)

module _ (c : Context) where
  pub params_in : (ns : List Param) (s : Scope) (es : List Entry) → In c s es → In c (after_params s ns) (made_params s ns es)
  params_in [] s es is = is
  params_in (n ∷ ns) s es is =
      params_in ns (after_param s n) (param_entry s n ∷ es) (record {
        owner = is.owner;
        captured = is.captured;
        entries = ap (λ xs. param_entry s n ∷ xs) is.entries;
        deep = is.deep;
        arrays = (scalar_behind s.owner s.slots, is.arrays);
      })

  param_means : (s : Scope) → s.owner ≡ c.owner → means c (scalar_entity s.owner s.slots) ≡ what.Scalar s.slots
  param_means s own = ap (λ o. meaning_in c.owner c.captured (scalar_entity o s.slots)) own ∙ means_scalar c.owner c.captured s.slots

  pub params_stacked : (ns : List Param) (s : Scope) (es : List Entry) → s.owner ≡ c.owner → Stacked (means c) s.slots (es ++ c.bound) → Stacked (means c) (after_params s ns).slots (made_params s ns es ++ c.bound)
  params_stacked [] s es own st = st
  params_stacked (n ∷ ns) s es own st =
      params_stacked ns (after_param s n) (param_entry s n ∷ es) own (stacked_scalar (resources c.side) (means c) s.slots (es ++ c.bound) (param_entry s n) (param_means s own) st)

  -- parameters stand in the first slots
  pub params_aligned : (ns : List Param) (vs slots : List ℤ) (s : Scope) (es : List Entry) (bound : List Binding) → s.owner ≡ c.owner → length vs ≡ length ns →
      ((i : ℕ) → i < length vs → slot_at slots (s.slots + i) ≡ slot_at vs i) → Aligned (resources c.side) (means c) slots bound (es ++ c.bound) →
      Aligned (resources c.side) (means c) slots (bind_params ns vs bound) (made_params s ns es ++ c.bound)
  params_aligned [] vs slots s es bound own len same al = al
  params_aligned (n ∷ ns) [] slots s es bound own len same al = absurd (omega (arith, len))
  params_aligned (n ∷ ns) (v ∷ vs) slots s es bound own len same al =
      params_aligned ns vs slots (after_param s n) (param_entry s n ∷ es) (bind n.name.id (is_unsigned n.ty) (variable.Scalar v) bound) own (omega (arith, len))
      (λ i lt. let e : s.slots + 1 + i ≡ s.slots + suc i = omega arith in ap (λ k. slot_at slots k) e ∙ same (suc i) (omega (arith, lt)))
      (refl, refl, (s.slots, param_means s own, let z : s.slots ≡ s.slots + 0 = omega arith in ap (λ k. slot_at slots k) z ∙ same 0 (omega arith)), al)

-- What the file has for each declaration in scope in it. A function stands before the place where it is known.
abbrev pub Known : Parts → File → Option Variable → Entity → Type 0
Known code file v (entity.Constant x) = v ≡ Some (variable.Constant x)
Known code file v (entity.Function number params) = (place : ℕ) × (v ≡ Some (variable.Function place)) × (place < file.count) × IsCallable code file place number params
Known code file v _ = ⊥

pub known_has : (code : Parts) (file : File) (v : Option Variable) (d : Entity) → Known code file v d → FileHas code file v d
known_has code file v (entity.Constant x) h = h
known_has code file v (entity.Function number params) h = (h.0, h.1, h.3)
known_has code file v (entity.Scalar slot) h = h
known_has code file v (entity.Control slot) h = h
known_has code file v entity.InputLength h = h
known_has code file v (entity.Array first size) h = h
known_has code file v (entity.Window slot) h = h
known_has code file v (entity.Stream number) h = h
known_has code file v (entity.Streams first count) h = h
known_has code file v (entity.Element item x) h = h
known_has code file v (entity.View item x) h = h

pub record FileFits (code : Parts) (file : File) (es : List Entry) : Type 0 where
  pub known : (id : ℕ) (d : Entity) → entity_of (lookup es id) ≡ Some d → Known code file (find file.names id) d
  -- it is of the same type
  pub flag : (id : ℕ) → flag_or false file.names id ≡ flag_of (lookup es id)

module _ (code : Parts) (file : File) (falls : CallsFall file) (names : List Resolved) (ordered : InOrder names) (es : List Entry) (fits : FileFits code file es) where
  -- a function's body, called where these windows, activations and skips are
  abbrev pub function_context : Store → Context
  function_context m = record {
    code = code;
    file = file;
    falls = falls;
    names = names;
    ordered = ordered;
    owner = owner.OfFunction;
    captured = [];
    side = InFunction m.windows m.created m.skips;
    floor = 0;
    round = es;
    bound = [];
    besides = λ n. ⊤;
    reaches = λ s n u d plain lawful b is same. inr (refl, known_has code file (find file.names n.id) d (fits.known n.id d (ap entity_of (sym same) ∙ is)));
    flagged = λ s n u d plain lawful b is same. fits.flag n.id;
    constants = λ id v is. inr (refl, known_has code file (find file.names id) (entity.Constant v) (fits.known id (entity.Constant v) is));
  }

  module _ (callers : List Frame) (m : Store) (p : ℕ) (stack : List ℤ) where
    abbrev back : Frame
    back = record { place = p; stack = stack; slots = m.slots }

    -- a result goes to the caller, which finds all as it was
    gone_back : (v : ℤ) (q : ℕ) (below : List ℤ) (m1 : Store) (turns : ℕ) → instr_at code q ≡ Some instr.Return → Kept (InFunction m.windows m.created m.skips) (state_of [] []) m1 →
        Leads code (at (back ∷ callers) q (v ∷ below) m1 turns) (at callers p (v ∷ stack) m turns)
    unfolding act
    gone_back v q below m1 turns is kept =
        subst (λ (w : List machine.TaskWindow). Leads code (at (back ∷ callers) q (v ∷ below) m1 turns) (at callers p (v ∷ stack) (record { slots = m.slots; windows = w; created = m.created; skips = m.skips }) turns)) kept.0
        (subst (λ w. Leads code (at (back ∷ callers) q (v ∷ below) m1 turns) (at callers p (v ∷ stack) (record { slots = m.slots; windows = m1.windows; created = w; skips = m.skips }) turns)) kept.1
        (subst (λ w. Leads code (at (back ∷ callers) q (v ∷ below) m1 turns) (at callers p (v ∷ stack) (record { slots = m.slots; windows = m1.windows; created = m1.created; skips = w }) turns)) kept.2
        (one code (acts code (at (back ∷ callers) q (v ∷ below) m1 turns) instr.Return is))))

    falls_off : (end last : ℕ) (m1 : Store) (turns : ℕ) → Stands code (instr.Push (pos 0) ∷ instr.Return ∷ []) end last → Kept (InFunction m.windows m.created m.skips) (state_of [] []) m1 →
        Leads code (at (back ∷ callers) end [] m1 turns) (at callers p (pos 0 ∷ stack) m turns)
    falls_off end last m1 turns h kept = leads_on code (push code (back ∷ callers) (pos 0) end [] m1 turns h.0) (gone_back (pos 0) (end + 1) [] m1 turns h.1.0 kept)

    -- what a call gives where the body ended
    returns : {s : machine.MachineState} {r : Ran} (total end last : ℕ) (es1 after : List Entry) → Stands code (instr.Push (pos 0) ∷ instr.Return ∷ []) end last →
        Does code s (settled (function_context m) (back ∷ callers) instr.Return total end end end [] (around es1) after) r → Meets code s (pushed callers p stack m) (returned r)
    returns total end last es1 after off (went GoesOn st turns (m1, len, kept, al) l) = gives (left (pos 0) turns) tt (leads_on code l (falls_off end last m1 turns off kept))
    returns total end last es1 after off (went Breaks st turns (m1, len, kept, al) l) = gives (left (pos 0) turns) tt (leads_on code l (falls_off end last m1 turns off kept))
    returns total end last es1 after off (went Continues st turns (m1, len, kept, al) l) = gives (left (pos 0) turns) tt (leads_on code l (falls_off end last m1 turns off kept))
    returns total end last es1 after off (went (Returns v) st turns (m1, len, kept, (q, is)) l) = gives (left v turns) tt (leads_on code l (gone_back v q [] m1 turns is kept))
    returns {s = s} total end last es1 after off (ended {e = e} made h k) = halts (subst (Stops code s e) k h)

  -- where a function stands
  pub record IsFunctionCode (f : tree.FunctionTree) (s : Scope) (u : CodeUnit) : Type 0 where
    pub end : ℕ
    pub last : ℕ
    pub body : HasStmts code (record { tells = told_at names; tasks = []; leaves = instr.Return }) f.body end end end u.start end
    pub off : Stands code (instr.Push (pos 0) ∷ instr.Return ∷ []) end last
    pub args : u.args ≡ length (param_list f.params)
    pub room : u.args ≤ u.slots
    pub slots : (after_stmts (after_params s (param_list f.params)) f.body).slots ≤ u.slots

  pub function_runs : (f : tree.FunctionTree) (number : ℕ) (s : Scope) (u : CodeUnit) (callers : List Frame) (args : List ℤ) (p : ℕ) (stack : List ℤ) (m : Store) (turns : ℕ) →
      AreStmts f.body → 0 < s.depth → s.owner ≡ owner.OfFunction → s.captured ≡ [] → s.slots ≡ 0 → s.entries ≡ es →
      ((m : Store) → Agree (function_context m) (stmts_notes (after_params s (param_list f.params)) f.body)) → IsFunctionCode f s u → unit_at code number ≡ Some u → length args ≡ length (param_list f.params) →
      instr_at code p ≡ Some instr.Turn → instr_at code (p + 1) ≡ Some (instr.Call number) →
      Meets code (at callers p (onto args stack) m turns) (pushed callers (p + 1 + 1) stack m) (call_function file f args turns)
  unfolding act
  function_runs f number s u callers args p stack m zero is deep own caps none here agree h unit len at_turn at_call = halts (no_turn code callers p (onto args stack) m at_turn)
  function_runs f number s u callers args p stack m (suc turns) is deep own caps none here agree h unit len at_turn at_call =
      let ns = param_list f.params in
      let c = function_context m in
      let s1 = after_params s ns in
      let m1 = with_slots m (frame_slots u args) in
      let caller : Frame = record { place = p + 1 + 1; stack = stack; slots = m.slots } in
      let n_args : u.args ≡ length args = h.args ∙ sym len in
      let zeros : length (replicate (u.slots - u.args) (pos 0)) ≡ u.slots - u.args = length-replicate (u.slots - u.args) (pos 0) in
      let sum : length (frame_slots u args) ≡ length args + length (replicate (u.slots - u.args) (pos 0)) = length-append args (replicate (u.slots - u.args) (pos 0)) in
      let n_slots : length m1.slots ≡ u.slots = omega (arith, n_args, h.room, zeros, sum) in
      let is_in : In c s [] = record { owner = own; captured = caps; entries = here; deep = omega arith; arrays = tt } in
      meets_from code (takes_turn code callers p (onto args stack) m turns at_turn)
      (meets_from code (one code (acts code (at callers (p + 1) (onto args stack) m turns) (instr.Call number) at_call
      ∙ ap (λ o. or_stuck o (calls (at callers (p + 1) (onto args stack) m turns))) unit
      ∙ popped args stack u.args (λ args rest. Going (at (record { place = p + 1 + 1; stack = rest; slots = m.slots } ∷ callers) u.start [] (with_slots m (frame_slots u args)) turns)) n_args))
      (returns callers m (p + 1 + 1) stack u.slots h.end h.last (made_params s ns []) (made_all s1 f.body (made_params s ns [])) h.off
      (stmts_does c (caller ∷ callers) instr.Return u.slots [] [] nothing (λ e d. absurd (cc)) (λ e mark cs a. absurd (cc)) (λ e mark t arrow x. absurd (cc)) is s1 (made_params s ns []) (state_of (bind_params ns args []) []) m1 h.end h.end h.end u.start h.end [] turns
      (record {
        scope = params_in c ns s [] is_in;
        aligned = params_aligned c ns args (frame_slots u args) s [] [] own len
            (λ i lt. let e : s.slots + i ≡ i = omega (arith, none) in ap (λ k. slot_at (frame_slots u args) k) e ∙ get_or_append_left args (replicate (u.slots - u.args) (pos 0)) (pos 0) i lt) tt;
        kept = (refl, refl, refl);
      }) (omega (arith, deep, params_depth ns s))
      (params_stacked c ns s [] own tt) h.slots n_slots (agree m) (all_own_nothing f.body s1) h.body)))
