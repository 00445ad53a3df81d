-- The instructions that read a name give what it stands for.
use Rattle.std.proofs.Common.{◌≡◌, ℕ, zero, suc, ◌+◌, ◌<◌, ◌≤◌, Bool, true, false, if◌then◌else◌, List, [], ◌∷◌, length, map, get_or, Option, Some, None, Ok, ltb, ℤ, pos, refl, sym, ap, ◌∙◌, subst, inl, inr, arith}
use Rattle.std.proofs.lemmas.Bool.{lt-ltb}
use Rattle.std.proofs.lemmas.List.{length-map}
use Rattle.std.specs.Prelude.{slice_get, slice_index_or}
use Rattle.c_int.specs.declared.trap.Trap.TheVariants as trap_of
use Rattle.cddf_meaning.specs.Answers.{Answer, left, with_turns}
use Rattle.cddf_meaning.specs.File.{variable, or_in_file}
use Rattle.cddf_meaning.specs.BodyState.{BodyState, item_elements}
use Rattle.cddf_meaning.specs.Value.{scalar_value, elements, checked, element_at}
use Rattle.cddf_meaning.specs.Variables.{find}
use Rattle.cddf_meaning.specs.declared.variable.Variable.{Variable}
use Rattle.cddf_meaning.specs.declared.variable.Variable.TheVariants.{Constant, Function, Scalar, Array, Window, Stream, Item}
use Rattle.flow_core_laws.specs.declared.activation.Activation.{Activation}
use Rattle.os_ast.specs.Meanings.{meaning_in}
use Rattle.os_ast.specs.declared.expr.Name.{Name}
use Rattle.os_ast.specs.declared.names.Entity.{Entity}
use Rattle.os_ast.specs.declared.names.Entity.TheVariants as entity
use Rattle.os_ast.specs.declared.names.Entry.{Entry}
use Rattle.os_ast.specs.declared.names.Owner.{Owner}
use Rattle.os_ast.specs.declared.names.Owner.TheVariants as owner
use Rattle.os_ast.specs.declared.names.What.{What}
use Rattle.os_ast.specs.declared.names.What.TheVariants as what
use Rattle.os_code.specs.declared.instr.Instr.{Instr}
use Rattle.os_code.specs.declared.instr.Instr.TheVariants as instr
use Rattle.os_code.specs.declared.parts.Parts.{Parts}
use Rattle.os_code.specs.Machine as machine
use Rattle.os_code.specs.Machine.{Frame, TaskWindow, Progress, Going, or_stuck, or_trap, below, act, step}
use Rattle.os_code.specs.Parts.{instr_at}
use Rattle.lowering_relation.specs.Alignment.{Holds, slot_at}
use Rattle.lowering_relation.specs.Expressions.{Stands}
use Rattle.lowering_relation.specs.Names.{reading, reading_at, checking_at}
use Rattle.lowering_relation.proofs.Context.{Side, InFunction, InTask, InMain, HasItem, resources, Windows, Kept, FileHas, Context, means, Named}
use Rattle.lowering_relation.proofs.Steps.{Store, at, pushed, Leads, stays, one, leads_on, Meets, gives, halts, meets_in, meets_then, checked_index, checks, acts, push, load}

-- What declarations mean that mean the same in every body.
pub means_constant : (o : Owner) (xs : List ℕ) (v : ℤ) → meaning_in o xs (entity.Constant v) ≡ what.Constant v
means_constant owner.OfFunction xs v = refl
means_constant owner.OfTask xs v = refl
means_constant owner.OfMain xs v = refl

pub means_function : (o : Owner) (xs : List ℕ) (number params : ℕ) → meaning_in o xs (entity.Function number params) ≡ what.Function number
means_function owner.OfFunction xs number params = refl
means_function owner.OfTask xs number params = refl
means_function owner.OfMain xs number params = refl

-- the window of an item
pub record HasWindow (windows : List TaskWindow) (vs : List ℤ) (item : ℕ) : Type 0 where
  pub window : TaskWindow
  pub is : slice_get windows item ≡ Some window
  pub elements : window.elements ≡ vs
  pub horizon : window.claim.horizon ≡ length vs
  pub some : 1 ≤ length vs

window_there : (ws : List TaskWindow) (items : List (List ℤ)) (k : ℕ) → Windows ws items → k < length items → HasWindow ws (get_or items k []) k
window_there [] [] k h lt = absurd (omega (arith, lt))
window_there [] (vs ∷ items) k h lt = elim h [ ]
window_there (w ∷ ws) [] k h lt = elim h [ ]
window_there (w ∷ ws) (vs ∷ items) zero h lt = record { window = w; is = refl; elements = h.0; horizon = h.1; some = h.2 }
window_there (w ∷ ws) (vs ∷ items) (suc k) h lt =
    let r = window_there ws items k h.3 (omega (arith, lt)) in
    record { window = r.window; is = r.is; elements = r.elements; horizon = r.horizon; some = r.some }

pub windows_length : (ws : List TaskWindow) (items : List (List ℤ)) → Windows ws items → length ws ≡ length items
windows_length [] [] h = refl
windows_length [] (vs ∷ items) h = elim h [ ]
windows_length (w ∷ ws) [] h = elim h [ ]
windows_length (w ∷ ws) (vs ∷ items) h = let n = windows_length ws items h.3 in omega (arith, n)

pub window_of : (side : Side) (st : BodyState) (m : Store) (k : ℕ) → HasItem side k → Kept side st m → HasWindow m.windows (item_elements st k) k
window_of (InFunction windows created skips) st m k has kept = elim has [ ]
window_of (InMain streams later) st m k has kept = elim has [ ]
window_of (InTask claims) st m k has kept =
    let a : length (map (λ (w : TaskWindow). w.claim) m.windows) ≡ length m.windows = length-map m.windows (λ (w : TaskWindow). w.claim) in
    let b : length (map (λ (w : TaskWindow). w.claim) m.windows) ≡ length claims = ap length kept.0 in
    let n = windows_length m.windows st.items kept.1 in
    window_there m.windows st.items k kept.1 (omega (arith, has, a, b, n))

-- the states behind a check, in other words
pub instead : {code : Parts} {s : machine.MachineState} {v : ℤ} {size : ℕ} {t u : ℕ → machine.MachineState} {created : List Activation} {a : Answer ℕ} →
    Meets code s (checked_index v size t created) a → ((k : ℕ) → k < size → t k ≡ u k) → Meets code s (checked_index v size u created) a
instead {code = code} {s = s} (gives k w l) same = gives k w (subst (Leads code s) (same k w.1) l)
instead (halts h) same = halts h

module _ (code : Parts) (callers : List Frame) where
  pub pushes : (v : ℤ) (from to : ℕ) (stack : List ℤ) (m : Store) (turns : ℕ) → Stands code (instr.Push v ∷ []) from to →
      Leads code (at callers from stack m turns) (at callers to (v ∷ stack) m turns)
  pushes v from to stack m turns h =
      subst (λ p. Leads code (at callers from stack m turns) (at callers p (v ∷ stack) m turns)) h.1 (push code callers v from stack m turns h.0)

  abbrev pub Indexes : (p : ℕ) (v : ℤ) (stack : List ℤ) (m : Store) (turns size line : ℕ) → (ℕ → List ℤ) → Type 0
  Indexes p v stack m turns size line out =
      Meets code (at callers p (v ∷ stack) m turns) (checked_index v size (λ k. at callers (p + 1) (out k) m turns) m.created) (checked size line v)

  pub load_at : (vs : List ℤ) (first line p : ℕ) (v : ℤ) (stack : List ℤ) (m : Store) (turns : ℕ) →
      ((i : ℕ) → i < length vs → slot_at m.slots (first + i) ≡ slot_at vs i) → instr_at code p ≡ Some (instr.LoadAt first (length vs) line) →
      Indexes p v stack m turns (length vs) line (λ k. slot_at vs k ∷ stack)
  unfolding act
  load_at vs first line p v stack m turns same is =
      let s = at callers p (v ∷ stack) m turns in
      instead (checks code s v (length vs) line (λ k. at callers (p + 1) (slot_at m.slots (first + k) ∷ stack) m turns) (acts code s (instr.LoadAt first (length vs) line) is))
      (λ k lt. ap (λ x. at callers (p + 1) (x ∷ stack) m turns) (same k lt))

  pub check_at : (size line p : ℕ) (v : ℤ) (stack : List ℤ) (m : Store) (turns : ℕ) → instr_at code p ≡ Some (instr.CheckAt size line) →
      Indexes p v stack m turns size line (λ k. v ∷ stack)
  unfolding act
  check_at size line p v stack m turns is =
      let s = at callers p (v ∷ stack) m turns in
      checks code s v size line (λ k. at callers (p + 1) (v ∷ stack) m turns) (acts code s (instr.CheckAt size line) is)

  item_step : (item line p : ℕ) (v : ℤ) (stack : List ℤ) (m : Store) (turns : ℕ) (w : TaskWindow) → slice_get m.windows item ≡ Some w →
      instr_at code p ≡ Some (instr.ItemLoad item line) →
      step code (at callers p (v ∷ stack) m turns) ≡ or_trap (at callers p (v ∷ stack) m turns) trap_of.Index line (below w.claim.horizon v) (λ k. Going (at callers (p + 1) (slice_index_or w.elements k (pos 0) ∷ stack) m turns))
  unfolding act
  item_step item line p v stack m turns w there is =
      let s = at callers p (v ∷ stack) m turns in
      acts code s (instr.ItemLoad item line) is
      ∙ ap (λ o. or_stuck o (λ (window : TaskWindow). or_trap s trap_of.Index line (below window.claim.horizon v) (λ k. Going (at callers (p + 1) (slice_index_or window.elements k (pos 0) ∷ stack) m turns)))) there

  pub item_load : (vs : List ℤ) (item line p : ℕ) (v : ℤ) (stack : List ℤ) (m : Store) (turns : ℕ) → HasWindow m.windows vs item →
      instr_at code p ≡ Some (instr.ItemLoad item line) → Indexes p v stack m turns (length vs) line (λ k. slot_at vs k ∷ stack)
  item_load vs item line p v stack m turns has is =
      let s = at callers p (v ∷ stack) m turns in
      instead (checks code s v (length vs) line (λ k. at callers (p + 1) (slice_index_or has.window.elements k (pos 0) ∷ stack) m turns)
      (subst (λ n. step code s ≡ or_trap s trap_of.Index line (below n v) (λ k. Going (at callers (p + 1) (slice_index_or has.window.elements k (pos 0) ∷ stack) m turns))) has.horizon
      (item_step item line p v stack m turns has.window has.is is)))
      (λ k lt. ap (λ (xs : List ℤ). at callers (p + 1) (get_or xs k (pos 0) ∷ stack) m turns) has.elements)

  pub item_check : (vs : List ℤ) (item line p : ℕ) (v : ℤ) (stack : List ℤ) (m : Store) (turns : ℕ) → HasWindow m.windows vs item →
      instr_at code p ≡ Some (instr.ItemCheck item line) → Indexes p v stack m turns (length vs) line (λ k. v ∷ stack)
  unfolding act
  item_check vs item line p v stack m turns has is =
      let s = at callers p (v ∷ stack) m turns in
      checks code s v (length vs) line (λ k. at callers (p + 1) (v ∷ stack) m turns)
      (subst (λ n. step code s ≡ or_trap s trap_of.Index line (below n v) (λ k. Going (at callers (p + 1) (v ∷ stack) m turns))) has.horizon
      (acts code s (instr.ItemCheck item line) is
      ∙ ap (λ o. or_stuck o (λ (window : TaskWindow). or_trap s trap_of.Index line (below window.claim.horizon v) (λ k. Going (at callers (p + 1) (v ∷ stack) m turns)))) has.is))

  -- the one element of an item
  pub item_first : (vs : List ℤ) (item line from to : ℕ) (stack : List ℤ) (m : Store) (turns : ℕ) → HasWindow m.windows vs item →
      Stands code (instr.Push (pos 0) ∷ instr.ItemLoad item line ∷ []) from to →
      Leads code (at callers from stack m turns) (at callers to (get_or vs 0 (pos 0) ∷ stack) m turns)
  item_first vs item line from to stack m turns has h =
      leads_on code (push code callers (pos 0) from stack m turns h.0)
      (subst (λ p. Leads code (at callers (from + 1) (pos 0 ∷ stack) m turns) (at callers p (get_or vs 0 (pos 0) ∷ stack) m turns)) h.1.1
      (one code (item_step item line (from + 1) (pos 0) stack m turns has.window has.is h.1.0
      ∙ by_size has.window.claim.horizon (omega (arith, has.some, has.horizon))
      ∙ ap (λ (xs : List ℤ). Going (at callers (from + 1 + 1) (get_or xs 0 (pos 0) ∷ stack) m turns)) has.elements)))
    where
      by_size : (n : ℕ) → 1 ≤ n → or_trap (at callers (from + 1) (pos 0 ∷ stack) m turns) trap_of.Index line (below n (pos 0)) (λ k. Going (at callers (from + 1 + 1) (slice_index_or has.window.elements k (pos 0) ∷ stack) m turns))
          ≡ Going (at callers (from + 1 + 1) (slice_index_or has.window.elements 0 (pos 0) ∷ stack) m turns)
      by_size n le =
          let lt : ltb 0 n ≡ true = lt-ltb 0 n (omega (arith, le)) in
          ap (λ b. or_trap (at callers (from + 1) (pos 0 ∷ stack) m turns) trap_of.Index line (if b then Some 0 else None) (λ k. Going (at callers (from + 1 + 1) (slice_index_or has.window.elements k (pos 0) ∷ stack) m turns))) lt

module _ (c : Context) (callers : List Frame) (es : List Entry) (st : BodyState) (m : Store) where
  by_variable : (v : Variable) (w : What) (line from to : ℕ) (stack : List ℤ) (turns : ℕ) → Holds (resources c.side) m.slots v w → Kept c.side st m →
      Stands c.code (reading w line) from to → Leads c.code (at callers from stack m turns) (at callers to (scalar_value st (Some v) ∷ stack) m turns)
  by_variable (Constant x) w line from to stack turns h kept is = elim h [ ]
  by_variable (Function f) w line from to stack turns h kept is = elim h [ ]
  by_variable (Scalar x) w line from to stack turns h kept is =
      let s : Stands c.code (instr.Load h.0 ∷ []) from to = subst (λ y. Stands c.code (reading y line) from to) h.1 is in
      subst (λ p. Leads c.code (at callers from stack m turns) (at callers p (x ∷ stack) m turns)) s.1
      (subst (λ y. Leads c.code (at callers from stack m turns) (at callers (from + 1) (y ∷ stack) m turns)) h.2 (load c.code callers h.0 from stack m turns s.0))
  by_variable (Array vs) w line from to stack turns h kept is =
      pushes c.code callers (pos 0) from to stack m turns (subst (λ y. Stands c.code (reading y line) from to) h.1 is)
  by_variable (Window horizon) w line from to stack turns h kept is =
      pushes c.code callers (pos 0) from to stack m turns (subst (λ y. Stands c.code (reading y line) from to) h.1 is)
  by_variable (Stream first count) w line from to stack turns h kept is =
      pushes c.code callers (pos 0) from to stack m turns (subst (λ y. Stands c.code (reading y line) from to) h.0 is)
  by_variable (Item k) w line from to stack turns (has, inl e) kept is =
      item_first c.code callers (item_elements st k) k line from to stack m turns (window_of c.side st m k has kept) (subst (λ y. Stands c.code (reading y line) from to) e is)
  by_variable (Item k) w line from to stack turns (has, inr e) kept is =
      item_first c.code callers (item_elements st k) k line from to stack m turns (window_of c.side st m k has kept) (subst (λ y. Stands c.code (reading y line) from to) e is)

  in_file : (d : Entity) (v : Option Variable) (line from to : ℕ) (stack : List ℤ) (turns : ℕ) → FileHas c.code c.file v d →
      Stands c.code (reading (means c d) line) from to → Leads c.code (at callers from stack m turns) (at callers to (scalar_value st v ∷ stack) m turns)
  in_file (entity.Constant x) v line from to stack turns h is =
      subst (λ y. Leads c.code (at callers from stack m turns) (at callers to (scalar_value st y ∷ stack) m turns)) (sym h)
      (pushes c.code callers x from to stack m turns (subst (λ y. Stands c.code (reading y line) from to) (means_constant c.owner c.captured x) is))
  in_file (entity.Function number params) v line from to stack turns h is =
      subst (λ y. Leads c.code (at callers from stack m turns) (at callers to (scalar_value st y ∷ stack) m turns)) (sym h.1)
      (pushes c.code callers (pos 0) from to stack m turns (subst (λ y. Stands c.code (reading y line) from to) (means_function c.owner c.captured number params) is))
  in_file (entity.Scalar slot) v line from to stack turns h is = elim h [ ]
  in_file (entity.Control slot) v line from to stack turns h is = elim h [ ]
  in_file entity.InputLength v line from to stack turns h is = elim h [ ]
  in_file (entity.Array first size) v line from to stack turns h is = elim h [ ]
  in_file (entity.Window slot) v line from to stack turns h is = elim h [ ]
  in_file (entity.Stream number) v line from to stack turns h is = elim h [ ]
  in_file (entity.Streams first count) v line from to stack turns h is = elim h [ ]
  in_file (entity.Element item x) v line from to stack turns h is = elim h [ ]
  in_file (entity.View item x) v line from to stack turns h is = elim h [ ]

  -- a name that is read
  pub reads : (n : Name) (d : Entity) (line from to : ℕ) (stack : List ℤ) (turns : ℕ) → Named c es m.slots st n d → Kept c.side st m →
      Stands c.code (reading (means c d) line) from to →
      Leads c.code (at callers from stack m turns) (at callers to (scalar_value st (variable c.file st n.id) ∷ stack) m turns)
  reads n d line from to stack turns (inl (there, (v, is, h))) kept stands =
      subst (λ y. Leads c.code (at callers from stack m turns) (at callers to (scalar_value st (or_in_file c.file n.id y) ∷ stack) m turns)) (sym is)
      (by_variable v (means c d) line from to stack turns h kept stands)
  reads n d line from to stack turns (inr (none, h)) kept stands =
      subst (λ y. Leads c.code (at callers from stack m turns) (at callers to (scalar_value st (or_in_file c.file n.id y) ∷ stack) m turns)) (sym none)
      (in_file d (find c.file.names n.id) line from to stack turns h stands)

  no_elements : (line p : ℕ) (v : ℤ) (stack : List ℤ) (turns : ℕ) → instr_at c.code p ≡ Some (instr.LoadAt 0 0 line) →
      Indexes c.code callers p v stack m turns 0 line (λ k. slot_at [] k ∷ stack)
  no_elements line p v stack turns is = load_at c.code callers [] 0 line p v stack m turns (λ i lt. absurd (omega (arith, lt))) is

  -- what a name with an index reads, or only checks
  abbrev pub Fetches : Bool → Option Variable → (p : ℕ) (i : ℤ) (stack : List ℤ) (turns line : ℕ) → Type 0
  Fetches true v p i stack turns line = Indexes c.code callers p i stack m turns (length (elements st v)) line (λ k. slot_at (elements st v) k ∷ stack)
  Fetches false v p i stack turns line = Indexes c.code callers p i stack m turns (length (elements st v)) line (λ k. i ∷ stack)

  abbrev pub fetched_by : Bool → What → (line : ℕ) → Instr
  fetched_by true w line = reading_at w line
  fetched_by false w line = checking_at w line

  nothing_at : (b : Bool) (w : What) (v : Option Variable) (line p : ℕ) (i : ℤ) (stack : List ℤ) (turns : ℕ) → elements st v ≡ [] →
      fetched_by b w line ≡ fetched_by b (what.Constant (pos 0)) line → instr_at c.code p ≡ Some (fetched_by b w line) → Fetches b v p i stack turns line
  nothing_at true w v line p i stack turns none same is =
      subst (λ (xs : List ℤ). Indexes c.code callers p i stack m turns (length xs) line (λ k. slot_at xs k ∷ stack)) (sym none) (no_elements line p i stack turns (is ∙ ap Some same))
  nothing_at false w v line p i stack turns none same is =
      subst (λ (xs : List ℤ). Indexes c.code callers p i stack m turns (length xs) line (λ k. i ∷ stack)) (sym none) (check_at c.code callers 0 line p i stack m turns (is ∙ ap Some same))

  item_at : (b : Bool) (k : ℕ) (w : What) (line p : ℕ) (i : ℤ) (stack : List ℤ) (turns : ℕ) → HasItem c.side k → Kept c.side st m →
      fetched_by b w line ≡ fetched_by b (what.Element k) line → instr_at c.code p ≡ Some (fetched_by b w line) → Fetches b (Some (Item k)) p i stack turns line
  item_at true k w line p i stack turns has kept same is = item_load c.code callers (item_elements st k) k line p i stack m turns (window_of c.side st m k has kept) (is ∙ ap Some same)
  item_at false k w line p i stack turns has kept same is = item_check c.code callers (item_elements st k) k line p i stack m turns (window_of c.side st m k has kept) (is ∙ ap Some same)

  same_view : (b : Bool) (k line : ℕ) → fetched_by b (what.View k) line ≡ fetched_by b (what.Element k) line
  same_view true k line = refl
  same_view false k line = refl

  same_none : (b : Bool) (w : What) (line : ℕ) → ((x : Bool) → fetched_by x w line ≡ fetched_by x (what.Constant (pos 0)) line) → fetched_by b w line ≡ fetched_by b (what.Constant (pos 0)) line
  same_none b w line h = h b

  by_variable_at : (b : Bool) (v : Variable) (w : What) (line p : ℕ) (i : ℤ) (stack : List ℤ) (turns : ℕ) → Holds (resources c.side) m.slots v w → Kept c.side st m →
      instr_at c.code p ≡ Some (fetched_by b w line) → Fetches b (Some v) p i stack turns line
  by_variable_at b (Constant x) w line p i stack turns h kept is = elim h [ ]
  by_variable_at b (Function f) w line p i stack turns h kept is = elim h [ ]
  by_variable_at true (Scalar x) w line p i stack turns h kept is = nothing_at true w (Some (Scalar x)) line p i stack turns refl (ap (λ y. reading_at y line) h.1) is
  by_variable_at false (Scalar x) w line p i stack turns h kept is = nothing_at false w (Some (Scalar x)) line p i stack turns refl (ap (λ y. checking_at y line) h.1) is
  by_variable_at true (Array vs) w line p i stack turns h kept is = load_at c.code callers vs h.0 line p i stack m turns h.2 (is ∙ ap (λ y. Some (reading_at y line)) h.1)
  by_variable_at false (Array vs) w line p i stack turns h kept is = check_at c.code callers (length vs) line p i stack m turns (is ∙ ap (λ y. Some (checking_at y line)) h.1)
  by_variable_at true (Window x) w line p i stack turns h kept is = nothing_at true w (Some (Window x)) line p i stack turns refl (ap (λ y. reading_at y line) h.1) is
  by_variable_at false (Window x) w line p i stack turns h kept is = nothing_at false w (Some (Window x)) line p i stack turns refl (ap (λ y. checking_at y line) h.1) is
  by_variable_at true (Stream x y) w line p i stack turns h kept is = nothing_at true w (Some (Stream x y)) line p i stack turns refl (ap (λ z. reading_at z line) h.0) is
  by_variable_at false (Stream x y) w line p i stack turns h kept is = nothing_at false w (Some (Stream x y)) line p i stack turns refl (ap (λ z. checking_at z line) h.0) is
  by_variable_at b (Item k) w line p i stack turns (has, inl e) kept is = item_at b k w line p i stack turns has kept (ap (λ y. fetched_by b y line) e) is
  by_variable_at b (Item k) w line p i stack turns (has, inr e) kept is = item_at b k w line p i stack turns has kept (ap (λ y. fetched_by b y line) e ∙ same_view b k line) is

  -- nothing of the file has elements, and nothing of it is set
  pub file_at : (d : Entity) (v : Option Variable) (line : ℕ) (f : What → ℕ → Instr) (x : Instr) → ((y : ℤ) → f (what.Constant y) line ≡ x) → ((y : ℕ) → f (what.Function y) line ≡ x) →
      FileHas c.code c.file v d → f (means c d) line ≡ x
  file_at (entity.Constant y) v line f x a b h = ap (λ w. f w line) (means_constant c.owner c.captured y) ∙ a y
  file_at (entity.Function number params) v line f x a b h = ap (λ w. f w line) (means_function c.owner c.captured number params) ∙ b number
  file_at (entity.Scalar slot) v line f x a b h = elim h [ ]
  file_at (entity.Control slot) v line f x a b h = elim h [ ]
  file_at entity.InputLength v line f x a b h = elim h [ ]
  file_at (entity.Array first size) v line f x a b h = elim h [ ]
  file_at (entity.Window slot) v line f x a b h = elim h [ ]
  file_at (entity.Stream number) v line f x a b h = elim h [ ]
  file_at (entity.Streams first count) v line f x a b h = elim h [ ]
  file_at (entity.Element item y) v line f x a b h = elim h [ ]
  file_at (entity.View item y) v line f x a b h = elim h [ ]

  file_fetched : (b : Bool) (d : Entity) (v : Option Variable) (line : ℕ) → FileHas c.code c.file v d → fetched_by b (means c d) line ≡ fetched_by b (what.Constant (pos 0)) line
  file_fetched true d v line h = file_at d v line reading_at (instr.LoadAt 0 0 line) (λ y. refl) (λ y. refl) h
  file_fetched false d v line h = file_at d v line checking_at (instr.CheckAt 0 line) (λ y. refl) (λ y. refl) h

  -- a name with an index
  pub fetches_at : (b : Bool) (n : Name) (d : Entity) (line p : ℕ) (i : ℤ) (stack : List ℤ) (turns : ℕ) → Named c es m.slots st n d → Kept c.side st m →
      instr_at c.code p ≡ Some (fetched_by b (means c d) line) → Fetches b (find st.bound n.id) p i stack turns line
  fetches_at b n d line p i stack turns (inl (there, (v, is, h))) kept stands =
      subst (λ y. Fetches b y p i stack turns line) (sym is) (by_variable_at b v (means c d) line p i stack turns h kept stands)
  fetches_at b n d line p i stack turns (inr (none, h)) kept stands =
      subst (λ y. Fetches b y p i stack turns line) (sym none)
      (nothing_at b (means c d) None line p i stack turns refl (file_fetched b d (find c.file.names n.id) line h) stands)

  pub reads_at : (n : Name) (d : Entity) (line p : ℕ) (i : ℤ) (stack : List ℤ) (turns : ℕ) → Named c es m.slots st n d → Kept c.side st m →
      instr_at c.code p ≡ Some (reading_at (means c d) line) →
      Meets c.code (at callers p (i ∷ stack) m turns) (pushed callers (p + 1) stack m) (with_turns turns (element_at (elements st (find st.bound n.id)) line i))
  reads_at n d line p i stack turns named kept stands =
      let vs = elements st (find st.bound n.id) in
      meets_in c.code (at callers p (i ∷ stack) m turns) (pushed callers (p + 1) stack m) (checked (length vs) line i) (λ k. Ok (get_or vs k (pos 0))) (λ x. Ok (left x turns))
      (meets_then c.code (λ k. Ok (left (get_or vs k (pos 0)) turns)) refl (fetches_at true n d line p i stack turns named kept stands)
      (λ k u. gives (left (get_or vs k (pos 0)) turns) tt stays))
