-- What is known in a task of the names round it.
use Rattle.std.proofs.Common.{◌≡◌, ℕ, zero, suc, ◌+◌, ◌<◌, ◌≤◌, ◌==◌, Bool, true, false, if◌then◌else◌, List, [], ◌∷◌, ◌++◌, length, Option, Some, None, refl, sym, ap, ◌∙◌, subst, arith, eq-eqb, eqb-true}
use Rattle.std.proofs.lemmas.Bool.{lt-ltb}
use Rattle.std.proofs.lemmas.List.Sums.{position_or_len_is}
use Rattle.std.specs.List.{position_or_len}
use Rattle.std.specs.Prelude.{⊤, unwrap_or, nat_lt, cond, get_or}
use Rattle.os_ast.specs.Captured.{Scalar, scalar_of, others, scalars, among}
use Rattle.os_ast.specs.Meanings.{place_in}
use Rattle.os_ast.specs.Names.{lookup, entity_of}
use Rattle.os_ast.specs.ClauseMembers.{is_in}
use Rattle.os_ast.specs.Stacked.{main_extent, begins, ends}
use Rattle.os_ast.specs.Stacked as text
use Rattle.os_ast.specs.declared.names.Entity.{Entity}
use Rattle.os_ast.specs.declared.names.Entity.TheVariants as entity
use Rattle.os_ast.specs.declared.names.Entry.{Entry}
use Rattle.window_check_laws.specs.CapturedByUse.{Ascends}
use Rattle.window_check_laws.specs.Slots.{control_slots}

-- a scalar of the control program with this slot
abbrev pub HasSlot : Option Entity → ℕ → Type 0
HasSlot d slot = control_slots d ≡ slot ∷ []

-- each is what its name is declared as
abbrev pub AreScalars : List Entry → List Scalar → Type 0
AreScalars es [] = ⊤
AreScalars es (c ∷ cs) = HasSlot (entity_of (lookup es c.id)) c.slot × AreScalars es cs

scalars_both : (es : List Entry) (xs ys : List Scalar) → AreScalars es xs → AreScalars es ys → AreScalars es (xs ++ ys)
scalars_both es [] ys a b = b
scalars_both es (x ∷ xs) ys a b = (a.0, scalars_both es xs ys a.1 b)

scalars_others : (e : Entry) (es : List Entry) (cs : List Scalar) → AreScalars es cs → AreScalars (e ∷ es) (others e.id cs)
scalars_others e es [] h = tt
scalars_others e es (c ∷ cs) h = by_case (c.id == e.id) refl (scalars_others e es cs h.1)
  where
    apart : (c.id == e.id) ≡ false → (e.id == c.id) ≡ false
    apart x = grind arith

    by_case : (t : Bool) → (c.id == e.id) ≡ t → AreScalars (e ∷ es) (others e.id cs) → AreScalars (e ∷ es) (if t then others e.id cs else c ∷ others e.id cs)
    by_case true x rest = rest
    by_case false x rest = (subst (λ t. HasSlot (entity_of (if t then Some e else lookup es c.id)) c.slot) (sym (apart x)) h.0, rest)

own_scalar : (e : Entry) (es : List Entry) (d : Entity) → e.entity ≡ d → AreScalars (e ∷ es) (scalar_of e.id d)
own_scalar e es d is = by_entity d is
  where
    found : (x : Entity) → e.entity ≡ x → entity_of (lookup (e ∷ es) e.id) ≡ Some x
    found x h = ap (λ t. entity_of (if t then Some e else lookup es e.id)) (eq-eqb e.id e.id refl) ∙ ap Some h

    by_entity : (x : Entity) → e.entity ≡ x → AreScalars (e ∷ es) (scalar_of e.id x)
    by_entity (entity.Control slot) h = (ap control_slots (found (entity.Control slot) h), tt)
    by_entity entity.InputLength h = (ap control_slots (found entity.InputLength h), tt)
    by_entity (entity.Constant v) h = tt
    by_entity (entity.Function n k) h = tt
    by_entity (entity.Scalar n) h = tt
    by_entity (entity.Array n k) h = tt
    by_entity (entity.Window n) h = tt
    by_entity (entity.Stream n) h = tt
    by_entity (entity.Streams n k) h = tt
    by_entity (entity.Element n x) h = tt
    by_entity (entity.View n x) h = tt

are_scalars : (es : List Entry) → AreScalars es (scalars es)
are_scalars [] = tt
are_scalars (e ∷ es) = scalars_both (e ∷ es) (others e.id (scalars es)) (scalar_of e.id e.entity) (scalars_others e es (scalars es) (are_scalars es)) (own_scalar e es e.entity refl)

scalars_among : (es : List Entry) (ids : List ℕ) (cs : List Scalar) → AreScalars es cs → AreScalars es (among ids cs)
scalars_among es ids [] h = tt
scalars_among es ids (c ∷ cs) h = by_case (is_in c.id ids) (scalars_among es ids cs h.1)
  where
    by_case : (t : Bool) → AreScalars es (among ids cs) → AreScalars es (if t then c ∷ among ids cs else among ids cs)
    by_case true rest = (h.0, rest)
    by_case false rest = rest

pub captured_scalars : (es : List Entry) (ids : List ℕ) → AreScalars es (among ids (scalars es))
captured_scalars es ids = scalars_among es ids (scalars es) (are_scalars es)

-- the slot of a scalar
slot_extent : (d : Entity) (slot : ℕ) → HasSlot (Some d) slot → main_extent d ≡ Some (record { first = slot; size = 1 })
slot_extent (entity.Control n) slot h = let e : n ≡ slot = cc in ap (λ k. Some (record { first = k; size = 1 })) e
slot_extent entity.InputLength slot h = let e : 0 ≡ slot = cc in ap (λ k. Some (record { first = k; size = 1 })) e
slot_extent (entity.Constant v) slot h = absurd (cc)
slot_extent (entity.Function n k) slot h = absurd (cc)
slot_extent (entity.Scalar n) slot h = absurd (cc)
slot_extent (entity.Array n k) slot h = absurd (cc)
slot_extent (entity.Window n) slot h = absurd (cc)
slot_extent (entity.Stream n) slot h = absurd (cc)
slot_extent (entity.Streams n k) slot h = absurd (cc)
slot_extent (entity.Element n x) slot h = absurd (cc)
slot_extent (entity.View n x) slot h = absurd (cc)

begins_below : (x : Option text.Extent) (top : ℕ) → ends x top ≤ top → begins x top ≤ top
begins_below None top h = h
begins_below (Some x) top h = omega (arith, h)

below : (es : List Entry) (top id slot : ℕ) → text.Stacked main_extent top es → HasSlot (entity_of (lookup es id)) slot → slot < top
below [] top id slot st h = absurd (cc)
below (e ∷ es) top id slot st h = by_case (e.id == id) h (λ k. below es (begins (main_extent e.entity) top) id slot st.1 k)
  where
    by_case : (t : Bool) → HasSlot (entity_of (if t then Some e else lookup es id)) slot → (HasSlot (entity_of (lookup es id)) slot → slot < begins (main_extent e.entity) top) → slot < top
    by_case true k next = let x : ends (Some (record { first = slot; size = 1 })) top ≤ top = subst (λ y. ends y top ≤ top) (slot_extent e.entity slot k) st.0 in omega (arith, x)
    by_case false k next = omega (arith, next k, begins_below (main_extent e.entity) top st.0)

-- No two names have one slot.
pub one_name : (es : List Entry) (top id other slot : ℕ) → text.Stacked main_extent top es → HasSlot (entity_of (lookup es id)) slot → HasSlot (entity_of (lookup es other)) slot → id ≡ other
one_name [] top id other slot st h k = absurd (cc)
one_name (e ∷ es) top id other slot st h k = by_case (e.id == id) (e.id == other) refl refl h k (λ x y. one_name es (begins (main_extent e.entity) top) id other slot st.1 x y)
  where
    apart : (x : ℕ) → HasSlot (Some e.entity) slot → HasSlot (entity_of (lookup es x)) slot → ⊥
    apart x a b =
        let l = below es (begins (main_extent e.entity) top) x slot st.1 b in
        let first : slot < slot = subst (λ y. slot < begins y top) (slot_extent e.entity slot a) l in
        omega (arith, first)

    by_case : (t u : Bool) → (e.id == id) ≡ t → (e.id == other) ≡ u → HasSlot (entity_of (if t then Some e else lookup es id)) slot → HasSlot (entity_of (if u then Some e else lookup es other)) slot →
        (HasSlot (entity_of (lookup es id)) slot → HasSlot (entity_of (lookup es other)) slot → id ≡ other) → id ≡ other
    by_case true true x y a b next = sym (eqb-true e.id id x) ∙ eqb-true e.id other y
    by_case true false x y a b next = absurd (apart other a b)
    by_case false true x y a b next = absurd (apart id b a)
    by_case false false x y a b next = next a b

-- A captured slot has its place.
ascends_up : (lo : ℕ) (xs : List ℕ) (k : ℕ) → Ascends lo xs → k < length xs → lo ≤ get_or xs k 0
ascends_up lo [] k h lt = absurd (omega (arith, lt))
ascends_up lo (y ∷ xs) zero h lt = h.0
ascends_up lo (y ∷ xs) (suc k) h lt = let r = ascends_up (y + 1) xs k h.1 (omega (arith, lt)) in omega (arith, r, h.0)

ascends_on : (lo : ℕ) (xs : List ℕ) (j k : ℕ) → Ascends lo xs → j < k → k < length xs → get_or xs j 0 < get_or xs k 0
ascends_on lo [] j k h jk lt = absurd (omega (arith, lt))
ascends_on lo (y ∷ xs) j zero h jk lt = absurd (omega (arith, jk))
ascends_on lo (y ∷ xs) zero (suc k) h jk lt = let r = ascends_up (y + 1) xs k h.1 (omega (arith, lt)) in omega (arith, r)
ascends_on lo (y ∷ xs) (suc j) (suc k) h jk lt = ascends_on (y + 1) xs j k h.1 (omega (arith, jk)) (omega (arith, lt))

pub at_place : (lo : ℕ) (xs : List ℕ) (k : ℕ) → Ascends lo xs → k < length xs → place_in xs (get_or xs k 0) ≡ k
at_place lo xs k h lt =
    let x = get_or xs k 0 in
    let is : position_or_len (λ s. s == x) xs ≡ k =
    position_or_len_is (λ s. s == x) xs k 0 (omega (arith, lt)) (λ j jk. let less : get_or xs j 0 < x = ascends_on lo xs j k h jk lt in grind arith) (λ _. eq-eqb x x refl) in
    ap (λ n. unwrap_or (cond (nat_lt n (length xs)) (Some n) None) 0) is
    ∙ ap (λ t. unwrap_or (cond t (Some k) None) 0) (lt-ltb k (length xs) lt)
