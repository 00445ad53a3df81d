-- Where a task's body begins: its captured scalars and its items.
use Rattle.std.proofs.Common.{◌≡◌, ℕ, suc, ◌+◌, ◌-◌, ◌==◌, ◌<◌, ◌≤◌, Bool, true, false, not, ◌&&◌, ◌||◌, if◌then◌else◌, List, [], ◌∷◌, ◌++◌, map, length, take, drop, replicate, get_or, Option, Some, None, ℤ, pos, refl, sym, ap, ◌∙◌, subst, inl, inr, arith, append_assoc, length-append}
use Rattle.std.proofs.lemmas.List.{length-replicate, length-take-le, length-drop}
use Rattle.std.specs.List.{list_all}
use Rattle.std.specs.Prelude.{⊤, ◌⊎◌}
use Rattle.cddf_meaning.specs.Body as meaning
use Rattle.cddf_meaning.specs.Body.{bind_captured, bind_items, item_lists}
use Rattle.cddf_meaning.specs.Moves.{read_horizons}
use Rattle.cddf_meaning.specs.Variables.{bind}
use Rattle.cddf_meaning.specs.declared.variable.Binding.{Binding}
use Rattle.cddf_meaning.specs.Scoped.{scoped_name}
use Rattle.cddf_meaning.specs.declared.variable.Variable.TheVariants as variable
use Rattle.flow_core_laws.specs.Byte.{is_byte}
use Rattle.flow_core_laws.specs.declared.claim.Claim.{Claim}
use Rattle.os_ast.specs.Captured.{Scalar, slots_of}
use Rattle.os_ast.specs.Meanings.{meaning_in, place_in}
use Rattle.os_ast.specs.Names.{Scope, lookup, entity_of, flag_of}
use Rattle.os_ast.specs.Notes.Clauses.{named_entity, item_entity, item_flag}
use Rattle.os_ast.specs.ClauseMembers.{ClauseMember, Item, Private, item_name, item_ids, count_items}
use Rattle.os_ast.specs.Trees as tree
use Rattle.os_ast.specs.declared.names.Direction.{Direction}
use Rattle.os_ast.specs.declared.names.Entity.{Entity}
use Rattle.os_ast.specs.declared.names.Entity.TheVariants as entity
use Rattle.os_ast.specs.declared.names.Entry.{Entry}
use Rattle.os_ast.specs.declared.names.Owner.TheVariants as owner
use Rattle.os_ast.specs.declared.names.What.{What}
use Rattle.os_ast.specs.declared.names.What.TheVariants as what
use Rattle.os_code.specs.Machine.{TaskWindow}
use Rattle.os_code.specs.Tasks as machine
use Rattle.os_code.specs.Tasks.{task_windows}
use Rattle.lowering_relation.specs.Alignment.{Takes, Stacked, slot_at, Resources, Aligned}
use Rattle.lowering_relation.proofs.Capturing.{HasSlot, AreScalars, at_place}
use Rattle.lowering_relation.proofs.Context.{InTask, resources, Windows}
use Rattle.lowering_relation.proofs.TaskContexts.{made_items, captured_entry, entity_or, made_captured}
use Rattle.window_check_laws.specs.CapturedByUse.{Ascends}

-- each captured scalar is at its place
abbrev pub Points : List ℕ → ℕ → List Scalar → Type 0
Points slots k [] = ⊤
Points slots k (c ∷ cs) = (get_or slots k 0 ≡ c.slot) × (k < length slots) × Points slots (k + 1) cs

get_behind : (pre : List ℕ) (x : ℕ) (rest : List ℕ) → get_or (pre ++ x ∷ rest) (length pre) 0 ≡ x
get_behind [] x rest = refl
get_behind (y ∷ pre) x rest = get_behind pre x rest

points_behind : (pre : List ℕ) (cs : List Scalar) → Points (pre ++ slots_of cs) (length pre) cs
points_behind pre [] = tt
points_behind pre (c ∷ cs) =
    let n : length (pre ++ c.slot ∷ slots_of cs) ≡ length pre + length (c.slot ∷ slots_of cs) = length-append pre (c.slot ∷ slots_of cs) in
    let m : length (pre ++ c.slot ∷ []) ≡ length pre + 1 = length-append pre (c.slot ∷ []) in (
      get_behind pre c.slot (slots_of cs),
      omega (arith, n),
      subst (λ k. Points (pre ++ c.slot ∷ slots_of cs) k cs) m (subst (λ xs. Points xs (length (pre ++ c.slot ∷ [])) cs) (append_assoc pre (c.slot ∷ []) (slots_of cs)) (points_behind (pre ++ c.slot ∷ []) cs)),
    )

pub points : (slots : List ℕ) (cs : List Scalar) → slots ≡ slots_of cs → Points slots 0 cs
points slots cs is = subst (λ xs. Points xs 0 cs) (sym is) (points_behind [] cs)

scalar_means : (slots : List ℕ) (d : Entity) (slot : ℕ) → HasSlot (Some d) slot → meaning_in owner.OfTask slots d ≡ what.Scalar (place_in slots slot)
scalar_means slots (entity.Control n) slot h = let e : n ≡ slot = cc in ap (λ k. what.Scalar (place_in slots k)) e
scalar_means slots entity.InputLength slot h = let e : 0 ≡ slot = cc in ap (λ k. what.Scalar (place_in slots k)) e
scalar_means slots (entity.Constant v) slot h = absurd (cc)
scalar_means slots (entity.Function n k) slot h = absurd (cc)
scalar_means slots (entity.Scalar n) slot h = absurd (cc)
scalar_means slots (entity.Array n k) slot h = absurd (cc)
scalar_means slots (entity.Window n) slot h = absurd (cc)
scalar_means slots (entity.Stream n) slot h = absurd (cc)
scalar_means slots (entity.Streams n k) slot h = absurd (cc)
scalar_means slots (entity.Element n x) slot h = absurd (cc)
scalar_means slots (entity.View n x) slot h = absurd (cc)

module _ (slots : List ℕ) (ascends : Ascends 0 slots) (es : List Entry) where
  mean : (c : Scalar) (k : ℕ) → HasSlot (entity_of (lookup es c.id)) c.slot → get_or slots k 0 ≡ c.slot → k < length slots → meaning_in owner.OfTask slots (captured_entry es c).entity ≡ what.Scalar k
  mean c k has is lt = by_found (lookup es c.id) has ∙ ap what.Scalar (ap (place_in slots) (sym is) ∙ at_place 0 slots k ascends lt)
    where
      by_found : (o : Option Entry) → HasSlot (entity_of o) c.slot → meaning_in owner.OfTask slots (entity_or c o) ≡ what.Scalar (place_in slots c.slot)
      by_found None h = absurd (cc)
      by_found (Some e) h = scalar_means slots e.entity c.slot h

  pub captured_stacked : (cs : List Scalar) (k : ℕ) (xs : List Entry) → AreScalars es cs → Points slots k cs → Stacked (meaning_in owner.OfTask slots) k xs → Stacked (meaning_in owner.OfTask slots) (k + length cs) (made_captured es cs xs)
  captured_stacked [] k xs all at st = let e : k ≡ k + 0 = omega arith in subst (λ n. Stacked (meaning_in owner.OfTask slots) n xs) e st
  captured_stacked (c ∷ cs) k xs all at st =
      let e : k + 1 + length cs ≡ k + suc (length cs) = omega arith in
      subst (λ n. Stacked (meaning_in owner.OfTask slots) n (made_captured es cs (captured_entry es c ∷ xs))) e
      (captured_stacked cs (k + 1) (captured_entry es c ∷ xs) all.1 at.2 (k, subst (λ w. Takes w k (k + 1)) (sym (mean c k all.0 at.0 at.1)) (refl, omega arith), st))

  pub captured_aligned : (has : Resources) (held : List ℤ) (cs : List Scalar) (vs : List ℤ) (k : ℕ) (names : List Binding) (xs : List Entry) → AreScalars es cs → Points slots k cs → length vs ≡ length cs →
      ((i : ℕ) → i < length vs → slot_at held (k + i) ≡ slot_at vs i) → Aligned has (meaning_in owner.OfTask slots) held names xs →
      Aligned has (meaning_in owner.OfTask slots) held (bind_captured (map (scoped_name es) (map (λ (c : Scalar). c.id) cs)) vs names) (made_captured es cs xs)
  captured_aligned has held [] vs k names xs all at len same al = al
  captured_aligned has held (c ∷ cs) [] k names xs all at len same al = absurd (omega (arith, len))
  captured_aligned has held (c ∷ cs) (v ∷ vs) k names xs all at len same al =
      captured_aligned has held cs vs (k + 1) (bind c.id (flag_of (lookup es c.id)) (variable.Scalar v) names) (captured_entry es c ∷ xs) all.1 at.2 (omega (arith, len))
      (λ i lt. let e : k + 1 + i ≡ k + suc i = omega arith in ap (λ n. slot_at held n) e ∙ same (suc i) (omega (arith, lt)))
      (refl, refl, (k, mean c k all.0 at.0 at.1, let z : k ≡ k + 0 = omega arith in ap (λ n. slot_at held n) z ∙ same 0 (omega arith)), al)

module _ (slots : List ℕ) where
  item_means : (s : Scope) (item : ℕ) (d : Direction) (i : tree.ClauseItemTree) →
      (meaning_in owner.OfTask slots (item_entity s item d i) ≡ what.Element item) ⊎ (meaning_in owner.OfTask slots (item_entity s item d i) ≡ what.View item)
  item_means s item d i = by_parts i.window (entity_of (lookup s.entries (item_name i.stream i.window).id))
    where
      by_parts : (w : Option tree.JoinTree) (o : Option Entity) → (meaning_in owner.OfTask slots (named_entity item d w o) ≡ what.Element item) ⊎ (meaning_in owner.OfTask slots (named_entity item d w o) ≡ what.View item)
      by_parts None o = inl refl
      by_parts (Some j) None = inl refl
      by_parts (Some j) (Some (entity.Window slot)) = inr refl
      by_parts (Some j) (Some (entity.Constant v)) = inl refl
      by_parts (Some j) (Some (entity.Function n k)) = inl refl
      by_parts (Some j) (Some (entity.Scalar n)) = inl refl
      by_parts (Some j) (Some (entity.Control n)) = inl refl
      by_parts (Some j) (Some entity.InputLength) = inl refl
      by_parts (Some j) (Some (entity.Array n k)) = inl refl
      by_parts (Some j) (Some (entity.Stream n)) = inl refl
      by_parts (Some j) (Some (entity.Streams n k)) = inl refl
      by_parts (Some j) (Some (entity.Element n x)) = inl refl
      by_parts (Some j) (Some (entity.View n x)) = inl refl

  item_takes : (w : What) (item top : ℕ) → (w ≡ what.Element item) ⊎ (w ≡ what.View item) → Takes w top top
  item_takes w item top (inl e) = subst (λ x. Takes x top top) (sym e) (omega arith)
  item_takes w item top (inr e) = subst (λ x. Takes x top top) (sym e) (omega arith)

  pub items_stacked : (s : Scope) (depth item top : ℕ) (ps : List ClauseMember) (xs : List Entry) → Stacked (meaning_in owner.OfTask slots) top xs → Stacked (meaning_in owner.OfTask slots) top (made_items s depth item ps xs)
  items_stacked s depth item top [] xs st = st
  items_stacked s depth item top (Item d i ∷ ps) xs st =
      items_stacked s depth (suc item) top ps _ (top, item_takes (meaning_in owner.OfTask slots (item_entity s item d i)) item top (item_means s item d i), st)
  items_stacked s depth item top (Private n ∷ ps) xs st = items_stacked s depth item top ps xs st

  pub items_aligned : (claims : List Claim) (held : List ℤ) (s : Scope) (depth item : ℕ) (ps : List ClauseMember) (names : List Binding) (xs : List Entry) → item + count_items ps ≤ length claims →
      Aligned (resources (InTask claims)) (meaning_in owner.OfTask slots) held names xs → Aligned (resources (InTask claims)) (meaning_in owner.OfTask slots) held (bind_items item (map (scoped_name s.entries) (item_ids ps)) names) (made_items s depth item ps xs)
  items_aligned claims held s depth item [] names xs le al = al
  items_aligned claims held s depth item (Item d i ∷ ps) names xs le al =
      items_aligned claims held s depth (suc item) ps (bind (item_name i.stream i.window).id (item_flag s i) (variable.Item item) names) _ (omega (arith, le)) (refl, refl, (omega (arith, le), item_means s item d i), al)
  items_aligned claims held s depth item (Private n ∷ ps) names xs le al = items_aligned claims held s depth item ps names xs le al

-- the windows at the start
abbrev pub AllSome : List Claim → Type 0
AllSome [] = ⊤
AllSome (c ∷ cs) = (1 ≤ c.horizon) × AllSome cs

pub windows_start : (claims : List Claim) (inputs : List ℤ) → AllSome claims → read_horizons claims ≤ length inputs → Windows (task_windows claims inputs) (item_lists claims inputs)
windows_start [] inputs some enough = tt
windows_start (c ∷ cs) inputs some enough = by_case c.write enough (λ ins h. windows_start cs ins some.1 h)
  where
    by_case : (t : Bool) → (if t then 0 else c.horizon) + read_horizons cs ≤ length inputs → ((ins : List ℤ) → read_horizons cs ≤ length ins → Windows (task_windows cs ins) (item_lists cs ins)) →
        Windows (if t then record { claim = c; elements = replicate c.horizon (pos 0) } ∷ task_windows cs inputs else record { claim = c; elements = take c.horizon inputs } ∷ task_windows cs (drop c.horizon inputs))
        (if t then replicate c.horizon (pos 0) ∷ item_lists cs inputs else take c.horizon inputs ∷ item_lists cs (drop c.horizon inputs))
    by_case true enough next =
        let n : length (replicate c.horizon (pos 0)) ≡ c.horizon = length-replicate c.horizon (pos 0) in
        (refl, sym n, omega (arith, n, some.0), next inputs (omega (arith, enough)))
    by_case false enough next =
        let n : length (take c.horizon inputs) ≡ c.horizon = length-take-le c.horizon inputs (omega (arith, enough)) in
        let k : length (drop c.horizon inputs) ≡ length inputs - c.horizon = length-drop c.horizon inputs in
        (refl, sym n, omega (arith, n, some.0), next (drop c.horizon inputs) (omega (arith, k, enough)))

pub claims_start : (claims : List Claim) (inputs : List ℤ) → map (λ (w : TaskWindow). w.claim) (task_windows claims inputs) ≡ claims
claims_start [] inputs = refl
claims_start (c ∷ cs) inputs = by_case c.write (λ ins. claims_start cs ins)
  where
    by_case : (t : Bool) → ((ins : List ℤ) → map (λ (w : TaskWindow). w.claim) (task_windows cs ins) ≡ cs) →
        map (λ (w : TaskWindow). w.claim) (if t then record { claim = c; elements = replicate c.horizon (pos 0) } ∷ task_windows cs inputs else record { claim = c; elements = take c.horizon inputs } ∷ task_windows cs (drop c.horizon inputs)) ≡ c ∷ cs
    by_case true next = ap (λ xs. c ∷ xs) (next inputs)
    by_case false next = ap (λ xs. c ∷ xs) (next (drop c.horizon inputs))

-- what was written
pub same_written : (ws : List TaskWindow) (items : List (List ℤ)) → Windows ws items → meaning.outputs_of (map (λ (w : TaskWindow). w.claim) ws) items ≡ machine.written_elements ws
same_written [] [] h = refl
same_written [] (vs ∷ items) h = elim h [ ]
same_written (w ∷ ws) [] h = elim h [ ]
same_written (w ∷ ws) (vs ∷ items) h = by_case w.claim.write (same_written ws items h.3)
  where
    by_case : (t : Bool) → meaning.outputs_of (map (λ (w : TaskWindow). w.claim) ws) items ≡ machine.written_elements ws →
        (if t then vs ++ meaning.outputs_of (map (λ (w : TaskWindow). w.claim) ws) items else meaning.outputs_of (map (λ (w : TaskWindow). w.claim) ws) items) ≡ (if t then w.elements else []) ++ machine.written_elements ws
    by_case true next = ap (λ xs. xs ++ meaning.outputs_of (map (λ (w : TaskWindow). w.claim) ws) items) (sym h.0) ∙ ap (λ xs. w.elements ++ xs) next
    by_case false next = next

pub same_bytes : (ws : List TaskWindow) (items : List (List ℤ)) → Windows ws items → meaning.gives_bytes (map (λ (w : TaskWindow). w.claim) ws) items ≡ list_all machine.sends_bytes ws
same_bytes [] [] h = refl
same_bytes [] (vs ∷ items) h = elim h [ ]
same_bytes (w ∷ ws) [] h = elim h [ ]
same_bytes (w ∷ ws) (vs ∷ items) h =
    let sends = not (w.claim.write && (w.claim.stream == 1)) in
    ap (λ b. (sends || b) && meaning.gives_bytes (map (λ (y : TaskWindow). y.claim) ws) items) (ap (list_all is_byte) (sym h.0))
    ∙ ap (λ b. (sends || list_all is_byte w.elements) && b) (same_bytes ws items h.3)
