-- What keeps the variables of a run and the slots aligned.
use Rattle.std.proofs.Common.{◌≡◌, ℕ, suc, ◌+◌, ◌-◌, ◌<◌, ◌≤◌, ◌==◌, Bool, true, false, if◌then◌else◌, List, [], ◌∷◌, ◌++◌, length, set, drop, Option, Some, None, ℤ, pos, refl, sym, ap, ◌∙◌, subst, arith, get_or-set_same, get_or-set_other, length-set, length-append, replicate}
use Rattle.std.proofs.Math.ListN.{length-replicate}
use Rattle.std.proofs.lemmas.List.{get_or-replicate}
use Rattle.cddf_meaning.specs.Variables.{bind, find, flag_or, assign, leave}
use Rattle.cddf_meaning.specs.declared.variable.Binding.{Binding}
use Rattle.cddf_meaning.specs.declared.variable.Variable.{Variable}
use Rattle.cddf_meaning.specs.declared.variable.Variable.TheVariants.{Constant, Function, Scalar, Array, Window, Stream, Item}
use Rattle.os_ast.specs.Names.{lookup, entity_of}
use Rattle.os_ast.specs.declared.names.Entity.{Entity}
use Rattle.os_ast.specs.declared.names.Entry.{Entry}
use Rattle.os_ast.specs.declared.names.What.{What}
use Rattle.os_ast.specs.declared.names.What.TheVariants as what
use Rattle.os_code.specs.Machine.{zeroed}
use Rattle.lowering_relation.specs.Alignment.{Takes, Stacked, slot_at, Resources, Holds, Aligned}
use Rattle.lowering_relation.proofs.Slots.{SameBelow, SameFrom, set_at, zeroed_below, zeroed_at}

-- the type of a declaration; where there is none, what is said of it elsewhere
abbrev pub flag_or_of : Bool → Option Entry → Bool
flag_or_of elsewhere None = elsewhere
flag_or_of elsewhere (Some e) = e.unsigned

takes_below : (w : What) (low top : ℕ) → Takes w low top → low ≤ top
takes_below (what.Scalar slot) low top h = omega (arith, h.1)
takes_below (what.Array first size) low top h = omega (arith, h.1)
takes_below (what.Window slot) low top h = omega (arith, h.1)
takes_below (what.Constant v) low top h = h
takes_below (what.Function f) low top h = h
takes_below (what.Stream first count) low top h = h
takes_below (what.Element item) low top h = h
takes_below (what.View item) low top h = h

takes_more : (w : What) (low a b : ℕ) → a ≤ b → Takes w low a → Takes w low b
takes_more (what.Scalar slot) low a b le h = (h.0, omega (arith, h.1, le))
takes_more (what.Array first size) low a b le h = (h.0, omega (arith, h.1, le))
takes_more (what.Window slot) low a b le h = (h.0, omega (arith, h.1, le))
takes_more (what.Constant v) low a b le h = omega (arith, h, le)
takes_more (what.Function f) low a b le h = omega (arith, h, le)
takes_more (what.Stream first count) low a b le h = omega (arith, h, le)
takes_more (what.Element item) low a b le h = omega (arith, h, le)
takes_more (what.View item) low a b le h = omega (arith, h, le)

module _ (has : Resources) where
  -- a variable keeps its value where its slots do
  holds_same : (slots after : List ℤ) (v : Variable) (w : What) (low top : ℕ) → Takes w low top →
      ((i : ℕ) → low ≤ i → i < top → slot_at after i ≡ slot_at slots i) → Holds has slots v w → Holds has after v w
  holds_same slots after (Constant c) w low top t same h = h
  holds_same slots after (Function f) w low top t same h = h
  holds_same slots after (Stream first count) w low top t same h = h
  holds_same slots after (Item item) w low top t same h = h
  holds_same slots after (Scalar v) w low top t same h =
      let here : Takes (what.Scalar h.0) low top = subst (λ x. Takes x low top) h.1 t in
      (h.0, h.1, same h.0 (omega (arith, here.0)) (omega (arith, here.0, here.1)) ∙ h.2)
  holds_same slots after (Window v) w low top t same h =
      let here : Takes (what.Window h.0) low top = subst (λ x. Takes x low top) h.1 t in
      (h.0, h.1, same h.0 (omega (arith, here.0)) (omega (arith, here.0, here.1)) ∙ h.2, h.3, h.4)
  holds_same slots after (Array vs) w low top t same h =
      let here : Takes (what.Array h.0 (length vs)) low top = subst (λ x. Takes x low top) h.1 t in
      (h.0, h.1, λ i lt. same (h.0 + i) (omega (arith, here.0)) (omega (arith, here.0, here.1, lt)) ∙ h.2 i lt)

  module _ (means : Entity → What) where
    pub stacked_more : (a b : ℕ) (es : List Entry) → a ≤ b → Stacked means a es → Stacked means b es
    stacked_more a b [] le h = tt
    stacked_more a b (e ∷ es) le h = (h.0, takes_more (means e.entity) h.0 a b le h.1, h.2)

    -- slots from the top on change
    pub same_below : (top : ℕ) (slots after : List ℤ) (bound : List Binding) (es : List Entry) → Stacked means top es → SameBelow top slots after →
        Aligned has means slots bound es → Aligned has means after bound es
    same_below top slots after [] [] st same h = tt
    same_below top slots after [] (e ∷ es) st same h = elim h [ ]
    same_below top slots after (x ∷ bound) [] st same h = elim h [ ]
    same_below top slots after (x ∷ bound) (e ∷ es) st same h =
        let le : st.0 ≤ top = takes_below (means e.entity) st.0 top st.1 in (
          h.0,
          h.1,
          holds_same slots after x.variable (means e.entity) st.0 top st.1 (λ i lo hi. same i hi) h.2,
          same_below st.0 slots after bound es st.2 (λ i lt. same i (omega (arith, lt, le))) h.3,
        )

    -- where the slots of a name in scope are
    abbrev pub TakesIn : ℕ → Entity → Type 0
    TakesIn top d = (low above : ℕ) × (above ≤ top) × Takes (means d) low above

    taken_at : (t : Bool) (top low : ℕ) (e : Entry) (rest : Option Entry) (d : Entity) → Takes (means e.entity) low top →
        (entity_of rest ≡ Some d → TakesIn low d) → entity_of (if t then Some e else rest) ≡ Some d → TakesIn top d
    taken_at true top low e rest d h next is =
        let same : e.entity ≡ d = cc in
        (low, top, omega arith, subst (λ x. Takes (means x) low top) same h)
    taken_at false top low e rest d h next is =
        let f = next is in
        let le : low ≤ top = takes_below (means e.entity) low top h in
        (f.0, f.1, omega (arith, f.2, le), f.3)

    pub taken : (top : ℕ) (es : List Entry) (id : ℕ) (d : Entity) → Stacked means top es → entity_of (lookup es id) ≡ Some d → TakesIn top d
    taken top [] id d st is = absurd (cc)
    taken top (e ∷ es) id d st is = taken_at (e.id == id) top st.0 e (lookup es id) d st.1 (taken st.0 es id d st.2) is

    -- what a name is found to be, by its declaration and by its binding
    abbrev pub Found : List ℤ → Option Variable → Entity → Type 0
    Found slots found d = (v : Variable) × (found ≡ Some v) × Holds has slots v (means d)

    found_at : (t : Bool) (slots : List ℤ) (v : Variable) (u : Option Variable) (e : Entry) (rest : Option Entry) (d : Entity) → Holds has slots v (means e.entity) →
        (entity_of rest ≡ Some d → Found slots u d) →
        entity_of (if t then Some e else rest) ≡ Some d → Found slots (if t then Some v else u) d
    found_at true slots v u e rest d h next is =
        let same : e.entity ≡ d = cc in
        (v, refl, subst (λ x. Holds has slots v (means x)) same h)
    found_at false slots v u e rest d h next is = next is

    pub found : (slots : List ℤ) (bound : List Binding) (es : List Entry) (id : ℕ) (d : Entity) →
        Aligned has means slots bound es → entity_of (lookup es id) ≡ Some d → Found slots (find bound id) d
    found slots [] [] id d h is = absurd (cc)
    found slots [] (e ∷ es) id d h is = elim h [ ]
    found slots (b ∷ bound) [] id d h is = elim h [ ]
    found slots (b ∷ bound) (e ∷ es) id d h is =
        subst (λ k. Found slots (if k == id then Some b.variable else find bound id) d) (sym h.0)
        (found_at (e.id == id) slots b.variable (find bound id) e (lookup es id) d h.2 (found slots bound es id d h.3) is)

    missed_at : (t : Bool) (v : Variable) (u : Option Variable) (e : Entry) (rest : Option Entry) →
        (rest ≡ None → u ≡ None) → (if t then Some e else rest) ≡ None → (if t then Some v else u) ≡ None
    missed_at true v u e rest next is = absurd (cc)
    missed_at false v u e rest next is = next is

    pub missed : (slots : List ℤ) (bound : List Binding) (es : List Entry) (id : ℕ) →
        Aligned has means slots bound es → lookup es id ≡ None → find bound id ≡ None
    missed slots [] [] id h is = refl
    missed slots [] (e ∷ es) id h is = elim h [ ]
    missed slots (b ∷ bound) [] id h is = elim h [ ]
    missed slots (b ∷ bound) (e ∷ es) id h is =
        subst (λ k. (if k == id then Some b.variable else find bound id) ≡ None) (sym h.0)
        (missed_at (e.id == id) b.variable (find bound id) e (lookup es id) (missed slots bound es id h.3) is)

    -- What is in scope has the type of its declaration.
    pub flag_found : (slots : List ℤ) (bound : List Binding) (es : List Entry) (id : ℕ) (elsewhere : Bool) →
        Aligned has means slots bound es → flag_or elsewhere bound id ≡ flag_or_of elsewhere (lookup es id)
    flag_found slots [] [] id elsewhere h = refl
    flag_found slots [] (e ∷ es) id elsewhere h = elim h [ ]
    flag_found slots (b ∷ bound) [] id elsewhere h = elim h [ ]
    flag_found slots (b ∷ bound) (e ∷ es) id elsewhere h =
        ap (λ k. if k == id then b.unsigned else flag_or elsewhere bound id) h.0
        ∙ ap (λ u. if e.id == id then u else flag_or elsewhere bound id) h.1
        ∙ by_case (e.id == id) (flag_found slots bound es id elsewhere h.3)
      where
        by_case : (t : Bool) → flag_or elsewhere bound id ≡ flag_or_of elsewhere (lookup es id) →
            (if t then e.unsigned else flag_or elsewhere bound id) ≡ flag_or_of elsewhere (if t then Some e else lookup es id)
        by_case true next = refl
        by_case false next = next

    -- what a store does to the slots of a variable, and to the others
    abbrev pub Stores : List ℤ → List ℤ → Variable → Entity → ℕ → ℕ → Type 0
    Stores slots after u d low above = Holds has after u (means d) × SameBelow low slots after × SameFrom above slots after

    -- A variable is set: the slots change within its own alone, where its new value stands.
    assigned_at : (t : Bool) (top low : ℕ) (slots after : List ℤ) (b : Binding) (bound set_bound : List Binding) (e : Entry) (es : List Entry) (rest : Option Entry) (u : Variable) (d : Entity) →
        b.id ≡ e.id → b.unsigned ≡ e.unsigned → Takes (means e.entity) low top → Stacked means low es → Holds has slots b.variable (means e.entity) → Aligned has means slots bound es →
        entity_of (if t then Some e else rest) ≡ Some d →
        ((low2 above : ℕ) → above ≤ top → Takes (means d) low2 above → Stores slots after u d low2 above) →
        (entity_of rest ≡ Some d → TakesIn low d) →
        (entity_of rest ≡ Some d → ((low2 above : ℕ) → above ≤ low → Takes (means d) low2 above → Stores slots after u d low2 above) → Aligned has means after set_bound es) →
        Aligned has means after (if t then bind b.id b.unsigned u bound else b ∷ set_bound) (e ∷ es)
    assigned_at true top low slots after b bound set_bound e es rest u d same flag t st h tail is keep there next =
        let eq : e.entity ≡ d = cc in
        let k = keep low top (omega arith) (subst (λ x. Takes (means x) low top) eq t) in
        (same, flag, subst (λ x. Holds has after u (means x)) (sym eq) k.0, same_below low slots after bound es st k.1 tail)
    assigned_at false top low slots after b bound set_bound e es rest u d same flag t st h tail is keep there next =
        let f = there is in
        let le : low ≤ top = takes_below (means e.entity) low top t in
        let k = keep f.0 f.1 (omega (arith, f.2, le)) f.3 in (
          same,
          flag,
          holds_same slots after b.variable (means e.entity) low top t (λ i lo hi. k.2 i (omega (arith, f.2, lo))) h,
          next is (λ low2 above a2 h2. keep low2 above (omega (arith, a2, le)) h2),
        )

    pub assigned : (top : ℕ) (slots after : List ℤ) (bound : List Binding) (es : List Entry) (id : ℕ) (d : Entity) (u : Variable) → Stacked means top es →
        Aligned has means slots bound es → entity_of (lookup es id) ≡ Some d →
        ((low above : ℕ) → above ≤ top → Takes (means d) low above → Stores slots after u d low above) →
        Aligned has means after (assign bound id u) es
    assigned top slots after [] [] id d u st h is keep = absurd (cc)
    assigned top slots after [] (e ∷ es) id d u st h is keep = elim h [ ]
    assigned top slots after (b ∷ bound) [] id d u st h is keep = elim h [ ]
    assigned top slots after (b ∷ bound) (e ∷ es) id d u st h is keep =
        subst (λ x. Aligned has means after (if x == id then bind b.id b.unsigned u bound else b ∷ assign bound id u) (e ∷ es)) (sym h.0)
        (assigned_at (e.id == id) top st.0 slots after b bound (assign bound id u) e es (lookup es id) u d h.0 h.1 st.1 st.2 h.2 h.3 is keep
        (λ is2. taken st.0 es id d st.2 is2)
        (λ is2 k2. assigned st.0 slots after bound es id d u st.2 h.3 is2 k2))

    -- a scalar is declared, in the next slot
    pub declared_scalar : (top : ℕ) (slots : List ℤ) (bound : List Binding) (es : List Entry) (e : Entry) (v : ℤ) → top < length slots →
        means e.entity ≡ what.Scalar top → Stacked means top es → Aligned has means slots bound es →
        Aligned has means (set slots top v) (bind e.id e.unsigned (Scalar v) bound) (e ∷ es)
    declared_scalar top slots bound es e v lt is st h = (
      refl,
      refl,
      (top, is, get_or-set_same slots top v (pos 0) lt),
      same_below top slots (set slots top v) bound es st (λ i below. get_or-set_other slots top i v (pos 0) (λ x. absurd (omega (arith, below, x)))) h,
    )

    pub stacked_scalar : (top : ℕ) (es : List Entry) (e : Entry) → means e.entity ≡ what.Scalar top → Stacked means top es → Stacked means (top + 1) (e ∷ es)
    stacked_scalar top es e is st = (top, subst (λ w. Takes w top (top + 1)) (sym is) (refl, omega arith), st)

    pub stacked_window : (top : ℕ) (es : List Entry) (e : Entry) → means e.entity ≡ what.Window top → Stacked means top es → Stacked means (top + 1) (e ∷ es)
    stacked_window top es e is st = (top, subst (λ w. Takes w top (top + 1)) (sym is) (refl, omega arith), st)

    pub stacked_array : (top size : ℕ) (es : List Entry) (e : Entry) → means e.entity ≡ what.Array top size → Stacked means top es → Stacked means (top + size) (e ∷ es)
    stacked_array top size es e is st = (top, subst (λ w. Takes w top (top + size)) (sym is) (refl, omega arith), st)

    -- a scalar is set
    pub set_scalar : (top : ℕ) (slots : List ℤ) (bound : List Binding) (es : List Entry) (id slot : ℕ) (d : Entity) (v : ℤ) → top ≤ length slots →
        means d ≡ what.Scalar slot → entity_of (lookup es id) ≡ Some d → Stacked means top es → Aligned has means slots bound es →
        Aligned has means (set slots slot v) (assign bound id (Scalar v)) es
    set_scalar top slots bound es id slot d v fits is there st h =
        assigned top slots (set slots slot v) bound es id d (Scalar v) st h there
        (λ low above le t.
        let here : Takes (what.Scalar slot) low above = subst (λ w. Takes w low above) is t in (
          (slot, is, get_or-set_same slots slot v (pos 0) (omega (arith, here.0, here.1, le, fits))),
          (λ i below. get_or-set_other slots slot i v (pos 0) (λ x. absurd (omega (arith, below, x, here.0)))),
          (λ i past. get_or-set_other slots slot i v (pos 0) (λ x. absurd (omega (arith, past, x, here.0, here.1)))),
        ))

    -- an element of an array is set
    pub set_element : (top : ℕ) (slots : List ℤ) (bound : List Binding) (es : List Entry) (id first k : ℕ) (vs : List ℤ) (d : Entity) (x : ℤ) → top ≤ length slots →
        means d ≡ what.Array first (length vs) → ((i : ℕ) → i < length vs → slot_at slots (first + i) ≡ slot_at vs i) → k < length vs → entity_of (lookup es id) ≡ Some d → Stacked means top es → Aligned has means slots bound es →
        Aligned has means (set slots (first + k) x) (assign bound id (Array (set vs k x))) es
    set_element top slots bound es id first k vs d x fits is same lt there st h =
        let n : length (set vs k x) ≡ length vs = length-set vs k x in
        assigned top slots (set slots (first + k) x) bound es id d (Array (set vs k x)) st h there
        (λ low above le t.
        let here : Takes (what.Array first (length vs)) low above = subst (λ w. Takes w low above) is t in (
          (
            first,
            is ∙ ap (λ m. what.Array first m) (sym n),
            λ i li. set_at vs i k x slots first (omega (arith, lt)) (omega (arith, here.0, here.1, lt, le, fits)) (omega (arith, li, n)) (same i (omega (arith, li, n))),
          ),
          (λ i below. get_or-set_other slots (first + k) i x (pos 0) (λ e. absurd (omega (arith, below, e, here.0)))),
          (λ i past. get_or-set_other slots (first + k) i x (pos 0) (λ e. absurd (omega (arith, past, e, here.0, here.1, lt)))),
        ))

    -- an array is declared, in the next slots
    pub declared_array : (top size : ℕ) (slots : List ℤ) (bound : List Binding) (es : List Entry) (e : Entry) → top + size ≤ length slots →
        means e.entity ≡ what.Array top size → Stacked means top es → Aligned has means slots bound es →
        Aligned has means (zeroed slots top size) (bind e.id e.unsigned (Array (replicate size (pos 0))) bound) (e ∷ es)
    declared_array top size slots bound es e fits is st h =
        let n : length (replicate size (pos 0)) ≡ size = length-replicate size (pos 0) in (
          refl,
          refl,
          (
            top,
            is ∙ ap (λ m. what.Array top m) (sym n),
            λ i lt. zeroed_at slots top size fits i (omega (arith, lt, n)) ∙ sym (get_or-replicate size i (pos 0) (pos 0) (omega (arith, lt, n))),
          ),
          same_below top slots (zeroed slots top size) bound es st (λ i below. zeroed_below slots top size fits i below) h,
        )

    pub aligned_length : (slots : List ℤ) (bound : List Binding) (es : List Entry) → Aligned has means slots bound es → length bound ≡ length es
    aligned_length slots [] [] h = refl
    aligned_length slots [] (e ∷ es) h = elim h [ ]
    aligned_length slots (b ∷ bound) [] h = elim h [ ]
    aligned_length slots (b ∷ bound) (e ∷ es) h = ap suc (aligned_length slots bound es h.3)

    dropped : (slots : List ℤ) (bound : List Binding) (added es : List Entry) → Aligned has means slots bound (added ++ es) →
        Aligned has means slots (drop (length added) bound) es
    dropped slots bound [] es h = h
    dropped slots [] (e ∷ added) es h = elim h [ ]
    dropped slots (b ∷ bound) (e ∷ added) es h = dropped slots bound added es h.3

    -- a scope is left
    pub left : (slots was : List ℤ) (outer inner : List Binding) (added es : List Entry) → Aligned has means was outer es →
        Aligned has means slots inner (added ++ es) → Aligned has means slots (leave outer inner) es
    left slots was outer inner added es o i =
        let a : length outer ≡ length es = aligned_length was outer es o in
        let b : length inner ≡ length (added ++ es) = aligned_length slots inner (added ++ es) i in
        let n : length added ≡ length inner - length outer = omega (arith, a, b, length-append added es) in
        subst (λ k. Aligned has means slots (drop k inner) es) n (dropped slots inner added es i)
