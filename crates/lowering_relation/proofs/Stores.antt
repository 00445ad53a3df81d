-- The instructions that set a name store what the change says.
use Rattle.std.proofs.Common.{◌≡◌, ℕ, zero, suc, ◌+◌, ◌<◌, ◌≤◌, if◌then◌else◌, List, [], ◌∷◌, ◌++◌, length, map, get_or, set, Option, Some, None, Ok, ℤ, pos, refl, sym, ap, ◌∙◌, subst, inl, inr, arith, length-set}
use Rattle.std.proofs.lemmas.Bool.{lt-ltb}
use Rattle.std.specs.Prelude.{slice_get, slice_set}
use Rattle.c_int.specs.declared.trap.Trap.TheVariants as trap_of
use Rattle.cddf_meaning.specs.Answers.{traps}
use Rattle.cddf_meaning.specs.Flow.{with_value, goes_on}
use Rattle.cddf_meaning.specs.BodyState.{BodyState, item_elements, with_element, stored_in, stored, stored_in_at, stored_at}
use Rattle.cddf_meaning.specs.Value.{elements, checked}
use Rattle.cddf_meaning.specs.Variables.{find, assign}
use Rattle.cddf_meaning.specs.declared.variable.Binding.{Binding}
use Rattle.cddf_meaning.specs.declared.variable.Variable.{Variable}
use Rattle.cddf_meaning.specs.declared.variable.Variable.TheVariants.{Constant, Function, Scalar, Array, Window, Stream, Item}
use Rattle.os_ast.specs.Names.{lookup, entity_of}
use Rattle.os_ast.specs.declared.expr.Name.{Name}
use Rattle.os_ast.specs.declared.names.Entity.{Entity}
use Rattle.os_ast.specs.declared.names.Entry.{Entry}
use Rattle.os_ast.specs.declared.names.What.{What}
use Rattle.os_ast.specs.declared.names.What.TheVariants as what
use Rattle.os_code.specs.declared.instr.Instr.{Instr}
use Rattle.os_code.specs.declared.instr.Instr.TheVariants as instr
use Rattle.os_code.specs.Machine.{Frame, TaskWindow, Going, or_stuck, or_trap, below, act, step}
use Rattle.os_code.specs.Parts.{instr_at}
use Rattle.lowering_relation.specs.Alignment.{Stacked, slot_at, Holds}
use Rattle.lowering_relation.specs.Names.{storing, storing_at}
use Rattle.lowering_relation.proofs.Alignment.{set_scalar, set_element}
use Rattle.lowering_relation.proofs.Context.{Side, InFunction, InTask, InMain, HasItem, resources, Windows, Kept, FileHas, Context, means, Named}
use Rattle.lowering_relation.proofs.Flows.{Does, given_does, settled, AlignedIn, went_on}
use Rattle.lowering_relation.proofs.Names.{window_of, file_at}
use Rattle.lowering_relation.proofs.Steps.{Store, with_slots, at, Leads, stays, checks, acts, drop_top, store_top}

-- what stands below a value that is to be stored
abbrev pub aimed : What → List ℤ → List ℤ
aimed (what.Element item) stack = pos 0 ∷ stack
aimed (what.View item) stack = pos 0 ∷ stack
aimed _ stack = stack

pub kept_slots : (side : Side) (st : BodyState) (m : Store) (bound : List Binding) (slots : List ℤ) → Kept side st m → Kept side (record st { bound = bound }) (with_slots m slots)
kept_slots (InFunction windows created skips) st m bound slots h = h
kept_slots (InTask claims) st m bound slots h = h
kept_slots (InMain streams later) st m bound slots h = h

windows_set : (ws : List TaskWindow) (items : List (List ℤ)) (k i : ℕ) (x : ℤ) (w : TaskWindow) → Windows ws items → slice_get ws k ≡ Some w →
    Windows (set ws k (record w { elements = set w.elements i x })) (set items k (set (get_or items k []) i x))
windows_set [] [] k i x w h is = tt
windows_set [] (vs ∷ items) k i x w h is = elim h [ ]
windows_set (y ∷ ws) [] k i x w h is = elim h [ ]
windows_set (y ∷ ws) (vs ∷ items) zero i x w h is =
    let same : y ≡ w = cc in
    let n : length (set vs i x) ≡ length vs = length-set vs i x in (
      ap (λ (z : TaskWindow). set z.elements i x) (sym same) ∙ ap (λ zs. set zs i x) h.0,
      ap (λ (z : TaskWindow). z.claim.horizon) (sym same) ∙ h.1 ∙ sym n,
      omega (arith, h.2, n),
      h.3,
    )
windows_set (y ∷ ws) (vs ∷ items) (suc k) i x w h is = (h.0, h.1, h.2, windows_set ws items k i x w h.3 is)

abbrev pub with_window : Store → ℕ → TaskWindow → ℕ → ℤ → Store
with_window m k w i x = record m { windows = slice_set m.windows k (record w { elements = slice_set w.elements i x }) }

claims_same : (ws : List TaskWindow) (k i : ℕ) (x : ℤ) (w : TaskWindow) → slice_get ws k ≡ Some w →
    map (λ (y : TaskWindow). y.claim) (set ws k (record w { elements = set w.elements i x })) ≡ map (λ (y : TaskWindow). y.claim) ws
claims_same [] k i x w is = refl
claims_same (y ∷ ws) zero i x w is = let same : y ≡ w = cc in ap (λ (z : TaskWindow). z.claim ∷ map (λ (y : TaskWindow). y.claim) ws) (sym same)
claims_same (y ∷ ws) (suc k) i x w is = ap (λ cs. y.claim ∷ cs) (claims_same ws k i x w is)

kept_item : (side : Side) (st : BodyState) (m : Store) (k i : ℕ) (x : ℤ) (w : TaskWindow) → HasItem side k → Kept side st m → slice_get m.windows k ≡ Some w →
    Kept side (with_element st k i x) (with_window m k w i x)
kept_item (InFunction windows created skips) st m k i x w has h is = elim has [ ]
kept_item (InMain streams later) st m k i x w has h is = elim has [ ]
kept_item (InTask claims) st m k i x w has h is =
    (claims_same m.windows k i x w is ∙ h.0, windows_set m.windows st.items k i x w h.1 is)

pub below_in : (size k line : ℕ) → k < size → checked size line (pos k) ≡ Ok k
below_in size k line lt = ap (λ b. if b then Ok k else traps trap_of.Index line) (lt-ltb k size lt)

module _ (c : Context) (callers : List Frame) (leaves : Instr) (total next broke continued : ℕ) (within : List Entry → Type 0) (es : List Entry) where
  -- an element of an item
  item_store : (k line p : ℕ) (v x : ℤ) (stack : List ℤ) (st : BodyState) (m : Store) (turns : ℕ) → p + 1 ≡ next → length m.slots ≡ total → HasItem c.side k → Kept c.side st m →
      AlignedIn c callers leaves total m st.bound es → instr_at c.code p ≡ Some (instr.ItemStore k line) →
      Does c.code (at callers p (x ∷ v ∷ stack) m turns) (settled c callers leaves total next broke continued stack within es)
      (with_value (checked (length (item_elements st k)) line v) st (λ i. goes_on (with_element st k i x) turns))
  unfolding act
  item_store k line p v x stack st m turns there len has kept al is =
      let w = window_of c.side st m k has kept in
      let s = at callers p (x ∷ v ∷ stack) m turns in
      given_does st m (λ i. goes_on (with_element st k i x) turns) refl kept
      (checks c.code s v (length (item_elements st k)) line (λ i. at callers (p + 1) stack (with_window m k w.window i x) turns)
      (subst (λ n. step c.code s ≡ or_trap s trap_of.Index line (below n v) (λ i. Going (at callers (p + 1) stack (with_window m k w.window i x) turns))) w.horizon
      (acts c.code s (instr.ItemStore k line) is
      ∙ ap (λ o. or_stuck o (λ (window : TaskWindow). or_trap s trap_of.Index line (below window.claim.horizon v) (λ i. Going (at callers (p + 1) stack (with_window m k window i x) turns)))) w.is)))
      (λ i u e. went_on c callers leaves total es (with_element st k i x) (with_window m k w.window i x) turns len (kept_item c.side st m k i x w.window has kept w.is) al
      (subst (λ q. Leads c.code (at callers (p + 1) stack (with_window m k w.window i x) turns) (at callers q stack (with_window m k w.window i x) turns)) there stays))

  item_first_store : (k line p : ℕ) (x : ℤ) (stack : List ℤ) (st : BodyState) (m : Store) (turns : ℕ) → p + 1 ≡ next → length m.slots ≡ total → HasItem c.side k → Kept c.side st m →
      AlignedIn c callers leaves total m st.bound es → instr_at c.code p ≡ Some (instr.ItemStore k line) →
      Does c.code (at callers p (x ∷ pos 0 ∷ stack) m turns) (settled c callers leaves total next broke continued stack within es) (goes_on (with_element st k 0 x) turns)
  item_first_store k line p x stack st m turns there len has kept al is =
      subst (λ a. Does c.code (at callers p (x ∷ pos 0 ∷ stack) m turns) (settled c callers leaves total next broke continued stack within es) (with_value a st (λ i. goes_on (with_element st k i x) turns)))
      (below_in (length (item_elements st k)) 0 line (omega (arith, (window_of c.side st m k has kept).some)))
      (item_store k line p (pos 0) x stack st m turns there len has kept al is)

  dropped : (p : ℕ) (x : ℤ) (stack : List ℤ) (st : BodyState) (m : Store) (turns : ℕ) → p + 1 ≡ next → length m.slots ≡ total → Kept c.side st m → AlignedIn c callers leaves total m st.bound es →
      instr_at c.code p ≡ Some instr.Drop → Does c.code (at callers p (x ∷ stack) m turns) (settled c callers leaves total next broke continued stack within es) (goes_on st turns)
  dropped p x stack st m turns there len kept al is =
      went_on c callers leaves total es st m turns len kept al
      (subst (λ q. Leads c.code (at callers p (x ∷ stack) m turns) (at callers q stack m turns)) there (drop_top c.code callers x p stack m turns is))

  module _ (top : ℕ) (st : BodyState) (m : Store) (turns : ℕ) (stacked : Stacked (means c) top (es ++ c.bound)) (fits : top ≤ total) (len : length m.slots ≡ total) (kept : Kept c.side st m) (al : AlignedIn c callers leaves total m st.bound es) where
    abbrev StoresName : What → ℕ → ℤ → List ℤ → Option Variable → ℕ → Type 0
    StoresName w p x stack v id = Does c.code (at callers p (x ∷ aimed w stack) m turns) (settled c callers leaves total next broke continued stack within es) (goes_on (stored_in v st id x) turns)

    stores_variable : (v : Variable) (w : What) (id : ℕ) (d : Entity) (line p : ℕ) (x : ℤ) (stack : List ℤ) → p + 1 ≡ next → means c d ≡ w → entity_of (lookup (es ++ c.bound) id) ≡ Some d →
        Holds (resources c.side) m.slots v w → instr_at c.code p ≡ Some (storing w line) → StoresName w p x stack (Some v) id
    stores_variable (Constant y) w id d line p x stack there mean is h store = elim h [ ]
    stores_variable (Function f) w id d line p x stack there mean is h store = elim h [ ]
    stores_variable (Scalar y) w id d line p x stack there mean is h store =
        let after = with_slots m (set m.slots h.0 x) in
        subst (λ z. StoresName z p x stack (Some (Scalar y)) id) (sym h.1)
        (went_on c callers leaves total es (stored_in (Some (Scalar y)) st id x) after turns (length-set m.slots h.0 x ∙ len)
        (kept_slots c.side st m (assign st.bound id (Scalar x)) (set m.slots h.0 x) kept)
        (set_scalar (resources c.side) (means c) top m.slots st.bound (es ++ c.bound) id h.0 d x (omega (arith, fits, len)) (mean ∙ h.1) is stacked al)
        (subst (λ q. Leads c.code (at callers p (x ∷ stack) m turns) (at callers q stack after turns)) there
        (store_top c.code callers h.0 p x stack m turns (store ∙ ap (λ z. Some (storing z line)) h.1))))
    stores_variable (Array vs) w id d line p x stack there mean is h store =
        subst (λ z. StoresName z p x stack (Some (Array vs)) id) (sym h.1) (dropped p x stack st m turns there len kept al (store ∙ ap (λ z. Some (storing z line)) h.1))
    stores_variable (Window y) w id d line p x stack there mean is h store =
        subst (λ z. StoresName z p x stack (Some (Window y)) id) (sym h.1) (dropped p x stack st m turns there len kept al (store ∙ ap (λ z. Some (storing z line)) h.1))
    stores_variable (Stream y n) w id d line p x stack there mean is h store =
        subst (λ z. StoresName z p x stack (Some (Stream y n)) id) (sym h.0) (dropped p x stack st m turns there len kept al (store ∙ ap (λ z. Some (storing z line)) h.0))
    stores_variable (Item k) w id d line p x stack there mean is (has, inl e) store =
        subst (λ z. StoresName z p x stack (Some (Item k)) id) (sym e) (item_first_store k line p x stack st m turns there len has kept al (store ∙ ap (λ z. Some (storing z line)) e))
    stores_variable (Item k) w id d line p x stack there mean is (has, inr e) store =
        subst (λ z. StoresName z p x stack (Some (Item k)) id) (sym e) (item_first_store k line p x stack st m turns there len has kept al (store ∙ ap (λ z. Some (storing z line)) e))

    aimed_file : (d : Entity) (v : Option Variable) (stack : List ℤ) → FileHas c.code c.file v d → aimed (means c d) stack ≡ stack
    aimed_file d v stack h = by_what (means c d) (file_at c callers es st m d v 0 storing instr.Drop (λ y. refl) (λ y. refl) h)
      where
        by_what : (w : What) → storing w 0 ≡ instr.Drop → aimed w stack ≡ stack
        by_what (what.Element item) e = absurd (cc)
        by_what (what.View item) e = absurd (cc)
        by_what (what.Constant y) e = refl
        by_what (what.Function y) e = refl
        by_what (what.Scalar y) e = refl
        by_what (what.Array y z) e = refl
        by_what (what.Window y) e = refl
        by_what (what.Stream y z) e = refl

    -- a name without an index is set
    pub stores_name : (n : Name) (d : Entity) (line p : ℕ) (x : ℤ) (stack : List ℤ) → p + 1 ≡ next → Named c es m.slots st n d → instr_at c.code p ≡ Some (storing (means c d) line) →
        Does c.code (at callers p (x ∷ aimed (means c d) stack) m turns) (settled c callers leaves total next broke continued stack within es) (goes_on (stored st n.id x) turns)
    stores_name n d line p x stack there (inl (found, (v, is, h))) store =
        subst (λ o. StoresName (means c d) p x stack o n.id) (sym is) (stores_variable v (means c d) n.id d line p x stack there refl found h store)
    stores_name n d line p x stack there (inr (none, h)) store =
        subst (λ o. StoresName (means c d) p x stack o n.id) (sym none)
        (subst (λ below. Does c.code (at callers p (x ∷ below) m turns) (settled c callers leaves total next broke continued stack within es) (goes_on st turns)) (sym (aimed_file d (find c.file.names n.id) stack h))
        (dropped p x stack st m turns there len kept al (store ∙ ap Some (file_at c callers es st m d (find c.file.names n.id) line storing instr.Drop (λ y. refl) (λ y. refl) h))))

    abbrev StoresAt : ℕ → ℕ → ℤ → ℤ → List ℤ → Option Variable → ℕ → Type 0
    StoresAt line p v x stack o id = Does c.code (at callers p (x ∷ v ∷ stack) m turns) (settled c callers leaves total next broke continued stack within es)
        (with_value (checked (length (elements st o)) line v) st (λ k. goes_on (stored_in_at o st id k x) turns))

    array_store : (vs : List ℤ) (first line p : ℕ) (id : ℕ) (d : Entity) (v x : ℤ) (stack : List ℤ) → p + 1 ≡ next → means c d ≡ what.Array first (length vs) →
        entity_of (lookup (es ++ c.bound) id) ≡ Some d → ((i : ℕ) → i < length vs → slot_at m.slots (first + i) ≡ slot_at vs i) →
        instr_at c.code p ≡ Some (instr.StoreAt first (length vs) line) → StoresAt line p v x stack (Some (Array vs)) id
    unfolding act
    array_store vs first line p id d v x stack there mean is same store =
        let s = at callers p (x ∷ v ∷ stack) m turns in
        given_does st m (λ k. goes_on (stored_in_at (Some (Array vs)) st id k x) turns) refl kept
        (checks c.code s v (length vs) line (λ k. at callers (p + 1) stack (with_slots m (slice_set m.slots (first + k) x)) turns) (acts c.code s (instr.StoreAt first (length vs) line) store))
        (λ k u e. went_on c callers leaves total es (stored_in_at (Some (Array vs)) st id k x) (with_slots m (set m.slots (first + k) x)) turns (length-set m.slots (first + k) x ∙ len)
        (kept_slots c.side st m (assign st.bound id (Array (set vs k x))) (set m.slots (first + k) x) kept)
        (set_element (resources c.side) (means c) top m.slots st.bound (es ++ c.bound) id first k vs d x (omega (arith, fits, len)) mean same u.1 is stacked al)
        (subst (λ q. Leads c.code (at callers (p + 1) stack (with_slots m (set m.slots (first + k) x)) turns) (at callers q stack (with_slots m (set m.slots (first + k) x)) turns)) there stays))

    nothing_stored : (o : Option Variable) (line p : ℕ) (id : ℕ) (v x : ℤ) (stack : List ℤ) → elements st o ≡ [] → instr_at c.code p ≡ Some (instr.StoreAt 0 0 line) → StoresAt line p v x stack o id
    unfolding act
    nothing_stored o line p id v x stack none store =
        let s = at callers p (x ∷ v ∷ stack) m turns in
        subst (λ (xs : List ℤ). Does c.code s (settled c callers leaves total next broke continued stack within es) (with_value (checked (length xs) line v) st (λ k. goes_on (stored_in_at o st id k x) turns))) (sym none)
        (given_does st m (λ k. goes_on (stored_in_at o st id k x) turns) refl kept
        (checks c.code s v 0 line (λ k. at callers (p + 1) stack (with_slots m (slice_set m.slots (0 + k) x)) turns) (acts c.code s (instr.StoreAt 0 0 line) store))
        (λ k u e. absurd (omega (arith, u.1))))

    stores_variable_at : (v : Variable) (w : What) (id : ℕ) (d : Entity) (line p : ℕ) (i x : ℤ) (stack : List ℤ) → p + 1 ≡ next → means c d ≡ w → entity_of (lookup (es ++ c.bound) id) ≡ Some d →
        Holds (resources c.side) m.slots v w → instr_at c.code p ≡ Some (storing_at w line) → StoresAt line p i x stack (Some v) id
    stores_variable_at (Constant y) w id d line p i x stack there mean is h store = elim h [ ]
    stores_variable_at (Function f) w id d line p i x stack there mean is h store = elim h [ ]
    stores_variable_at (Scalar y) w id d line p i x stack there mean is h store = nothing_stored (Some (Scalar y)) line p id i x stack refl (store ∙ ap (λ z. Some (storing_at z line)) h.1)
    stores_variable_at (Window y) w id d line p i x stack there mean is h store = nothing_stored (Some (Window y)) line p id i x stack refl (store ∙ ap (λ z. Some (storing_at z line)) h.1)
    stores_variable_at (Stream y n) w id d line p i x stack there mean is h store = nothing_stored (Some (Stream y n)) line p id i x stack refl (store ∙ ap (λ z. Some (storing_at z line)) h.0)
    stores_variable_at (Array vs) w id d line p i x stack there mean is h store =
        array_store vs h.0 line p id d i x stack there (mean ∙ h.1) is h.2 (store ∙ ap (λ z. Some (storing_at z line)) h.1)
    stores_variable_at (Item k) w id d line p i x stack there mean is (has, inl e) store =
        item_store k line p i x stack st m turns there len has kept al (store ∙ ap (λ z. Some (storing_at z line)) e)
    stores_variable_at (Item k) w id d line p i x stack there mean is (has, inr e) store =
        item_store k line p i x stack st m turns there len has kept al (store ∙ ap (λ z. Some (storing_at z line)) e)

    -- a name with an index is set, which is checked
    pub stores_at : (n : Name) (d : Entity) (line p : ℕ) (i x : ℤ) (stack : List ℤ) → p + 1 ≡ next → Named c es m.slots st n d → instr_at c.code p ≡ Some (storing_at (means c d) line) →
        Does c.code (at callers p (x ∷ i ∷ stack) m turns) (settled c callers leaves total next broke continued stack within es)
        (with_value (checked (length (elements st (find st.bound n.id))) line i) st (λ k. goes_on (stored_at st n.id k x) turns))
    stores_at n d line p i x stack there (inl (found, (v, is, h))) store =
        subst (λ o. StoresAt line p i x stack o n.id) (sym is) (stores_variable_at v (means c d) n.id d line p i x stack there refl found h store)
    stores_at n d line p i x stack there (inr (none, h)) store =
        subst (λ o. StoresAt line p i x stack o n.id) (sym none)
        (nothing_stored None line p n.id i x stack refl (store ∙ ap Some (file_at c callers es st m d (find c.file.names n.id) line storing_at (instr.StoreAt 0 0 line) (λ y. refl) (λ y. refl) h)))
