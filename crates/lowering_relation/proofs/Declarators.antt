-- The code of declarators does what they say.
use Rattle.std.proofs.Common.{◌≡◌, ℕ, ◌+◌, ◌<◌, ◌≤◌, ◌&&◌, Bool, true, false, not, List, [], ◌∷◌, ◌++◌, length, set, replicate, Option, Some, None, ℤ, pos, refl, sym, ap, ◌∙◌, subst, arith, length-set, ◌^◌}
use Rattle.std.specs.Prelude.{unwrap_or}
use Rattle.window_check_laws.proofs.NamePlaces.{or-first}
use Rattle.window_check_laws.proofs.Known.{not-false}
use Rattle.cddf_meaning.specs.Flow.{Ran, with_value, goes_on}
use Rattle.cddf_meaning.specs.Run.{Around, run_scalar, array_size, run_array, run_sized, run_declarator, run_declarators}
use Rattle.cddf_meaning.specs.BodyState.{BodyState, declared, stored}
use Rattle.cddf_meaning.specs.Variables.{bind}
use Rattle.cddf_meaning.specs.declared.site.Site.{Site}
use Rattle.cddf_meaning.specs.declared.variable.Variable.TheVariants.{Scalar, Array}
use Rattle.os_ast.specs.Limits.{is_size}
use Rattle.os_ast.specs.Meanings.{what_declared}
use Rattle.os_ast.specs.Names.{Scope, declare}
use Rattle.os_ast.specs.Notes.Declarators.{scalar_entity, sized_form, size_value, size_of, limited, form, form_entity, declared_entity, taken, after_declarator, after_declarators, declarator_notes, declarators_notes, is_window}
use Rattle.os_ast.specs.Notes.Expressions.{value_notes}
use Rattle.os_ast.specs.Rules.{is_outermost, has_no_size, has_too_many}
use Rattle.os_ast.specs.Trees as tree
use Rattle.os_ast.specs.declared.expr.Name.{Name}
use Rattle.os_ast.specs.declared.names.Entity.TheVariants as entity
use Rattle.os_ast.specs.declared.names.Entry.{Entry}
use Rattle.os_ast.specs.declared.names.Form.{Form}
use Rattle.os_ast.specs.declared.names.Form.TheVariants as form_of
use Rattle.os_ast.specs.declared.names.Owner.{Owner}
use Rattle.os_ast.specs.declared.names.Owner.TheVariants as owner
use Rattle.os_ast.specs.declared.names.Resolved.{Resolved}
use Rattle.os_ast.specs.declared.names.What.TheVariants as what
use Rattle.os_code.specs.declared.instr.Instr.{Instr}
use Rattle.os_code.specs.declared.instr.Instr.TheVariants as instr
use Rattle.os_code.specs.Machine.{Frame, zeroed, act}
use Rattle.os_code.specs.Parts.{instr_at}
use Rattle.lowering_relation.specs.Alignment.{Stacked, slot_at}
use Rattle.lowering_relation.specs.Declarators.{cleared, named_elsewhere, HasScalar, HasDeclared, HasDeclarators}
use Rattle.lowering_relation.specs.Expressions.{Stands}
use Rattle.lowering_relation.proofs.Alignment.{declared_scalar, declared_array}
use Rattle.lowering_relation.proofs.Context.{resources, Kept, Context, means, tells, told_is, Agree, agree_first, agree_rest}
use Rattle.lowering_relation.proofs.Declares.{means_scalar, scalar_behind, means_array, means_in_text, size_known, size_small, limit_kept, stored_own, in_behind, stacked_behind, size_runs}
use Rattle.lowering_relation.proofs.Elsewhere.{value_elsewhere}
use Rattle.lowering_relation.proofs.Exprs.{Ready, expr_runs}
use Rattle.lowering_relation.proofs.Flows.{Does, does_from, given_does, settled, AlignedIn, went_on, flows_does}
use Rattle.lowering_relation.proofs.Slots.{zeroed_length}
use Rattle.lowering_relation.proofs.Static.{entry, declarator_unsigned, made, declarator_onward, declarators_onward}
use Rattle.lowering_relation.proofs.Steps.{Store, with_slots, at, pushed, Leads, stays, one, leads_on, Meets, acts, push, store_top}
use Rattle.lowering_relation.proofs.Stores.{kept_slots}

abbrev pub around_of : Context → List Site → Around
around_of c sites = record { file = c.file; is_control = is_window c.owner; sites = sites }

module _ (c : Context) (callers : List Frame) (leaves : Instr) (total : ℕ) (sites : List Site) where
  abbrev pub DeclaratorDoes : tree.DeclaratorTree → Type 1
  DeclaratorDoes d =
      (s : Scope) (es : List Entry) (st : BodyState) (m : Store) (broke continued from to : ℕ) (stack : List ℤ) (turns : ℕ) (within : List Entry → Type 0) → Ready c s es st m → c.floor < s.depth →
      Stacked (means c) s.slots (es ++ c.bound) → (after_declarator s d).slots ≤ total → length m.slots ≡ total → Agree c (declarator_notes s d) →
      HasDeclared c.code (tells c) (tells c d.name.mark.place).what d from to →
      Does c.code (at callers from stack m turns) (settled c callers leaves total to broke continued stack within (entry s d ∷ es)) (run_declarator (around_of c sites) s.unsigned d st turns)

  -- the same, at any depth
  abbrev pub DeclaratorRuns : tree.DeclaratorTree → Type 1
  DeclaratorRuns d =
      (s : Scope) (es : List Entry) (st : BodyState) (m : Store) (broke continued from to : ℕ) (stack : List ℤ) (turns : ℕ) (within : List Entry → Type 0) → Ready c s es st m →
      Stacked (means c) s.slots (es ++ c.bound) → (after_declarator s d).slots ≤ total → length m.slots ≡ total → Agree c (declarator_notes s d) →
      HasDeclared c.code (tells c) (tells c d.name.mark.place).what d from to →
      Does c.code (at callers from stack m turns) (settled c callers leaves total to broke continued stack within (entry s d ∷ es)) (run_declarator (around_of c sites) s.unsigned d st turns)

  pub at_depth : (d : tree.DeclaratorTree) → DeclaratorRuns d → DeclaratorDoes d
  at_depth d runs s es st m broke continued from to stack turns within ready deep stacked fits len agree h = runs s es st m broke continued from to stack turns within ready stacked fits len agree h

  zeroes : (k p to : ℕ) (stack : List ℤ) (m : Store) (turns : ℕ) → Stands c.code (instr.Push (pos 0) ∷ instr.Store k ∷ []) p to →
      Leads c.code (at callers p stack m turns) (at callers to stack (with_slots m (set m.slots k (pos 0))) turns)
  zeroes k p to stack m turns h =
      subst (λ q. Leads c.code (at callers p stack m turns) (at callers q stack (with_slots m (set m.slots k (pos 0))) turns)) h.1.1
      (leads_on c.code (push c.code callers (pos 0) p stack m turns h.0) (store_top c.code callers k (p + 1) (pos 0) stack m turns h.1.0))

  module _ (s : Scope) (es : List Entry) (st : BodyState) (m : Store) (broke continued : ℕ) (stack : List ℤ) (turns : ℕ) (within : List Entry → Type 0) (ready : Ready c s es st m)
      (stacked : Stacked (means c) s.slots (es ++ c.bound)) (len : length m.slots ≡ total) where
    abbrev Declares : ℕ → ℕ → List Entry → Ran → Type 0
    Declares from to after r = Does c.code (at callers from stack m turns) (settled c callers leaves total to broke continued stack within after) r

    abbrev scalar_entry : Name → Entry
    scalar_entry n = record { id = n.id; depth = s.depth; entity = scalar_entity s.owner s.slots; unsigned = s.unsigned }

    mean : (n : Name) → means c (scalar_entry n).entity ≡ what.Scalar s.slots
    mean n = ap (λ o. means c (scalar_entity o s.slots)) ready.scope.owner ∙ means_scalar c.owner c.captured s.slots

    abbrev scalar_scope : Name → Scope
    scalar_scope n = declare (record s { slots = s.slots + 1 }) n.id (scalar_entity s.owner s.slots)

    abbrev set_to : ℤ → Store
    set_to x = with_slots m (set m.slots s.slots x)

    is_set : (n : Name) (x : ℤ) → s.slots + 1 ≤ total → AlignedIn c callers leaves total (set_to x) (bind n.id s.unsigned (Scalar x) st.bound) (scalar_entry n ∷ es)
    is_set n x fits = declared_scalar (resources c.side) (means c) s.slots m.slots st.bound (es ++ c.bound) (scalar_entry n) x (omega (arith, fits, len)) (mean n) stacked ready.aligned

    ready_for : (n : Name) (y : ℤ) (m1 : Store) → AlignedIn c callers leaves total m1 (bind n.id s.unsigned (Scalar y) st.bound) (scalar_entry n ∷ es) → Kept c.side (declared n.id s.unsigned (Scalar y) st) m1 →
        Ready c (scalar_scope n) (scalar_entry n ∷ es) (declared n.id s.unsigned (Scalar y) st) m1
    ready_for n y m1 al kept = record {
      scope = record {
        owner = ready.scope.owner;
        captured = ready.scope.captured;
        entries = ap (λ xs. scalar_entry n ∷ xs) ready.scope.entries;
        deep = ready.scope.deep;
        arrays = (scalar_behind s.owner s.slots, ready.scope.arrays);
      };
      aligned = al;
      kept = kept;
    }

    -- the first value is stored
    first_stored : (n : Name) (x : ℤ) (m1 : Store) (end t : ℕ) → s.slots + 1 ≤ total → (rest : AlignedIn c callers leaves total m1 st.bound es) → length m1.slots ≡ total → Kept c.side st m1 →
        instr_at c.code end ≡ Some (instr.Store s.slots) →
        Does c.code (at callers end (x ∷ stack) m1 t) (settled c callers leaves total (end + 1) broke continued stack within (scalar_entry n ∷ es)) (goes_on (stored (declared n.id s.unsigned (Scalar (pos 0)) st) n.id x) t)
    first_stored n x m1 end t fits rest len1 kept1 is =
        subst (λ z. Does c.code (at callers end (x ∷ stack) m1 t) (settled c callers leaves total (end + 1) broke continued stack within (scalar_entry n ∷ es)) (goes_on z t)) (sym (stored_own n.id s.unsigned (pos 0) x st))
        (went_on c callers leaves total (scalar_entry n ∷ es) (declared n.id s.unsigned (Scalar x) st) (with_slots m1 (set m1.slots s.slots x)) t (length-set m1.slots s.slots x ∙ len1)
        (kept_slots c.side st m1 (bind n.id s.unsigned (Scalar x) st.bound) (set m1.slots s.slots x) kept1)
        (declared_scalar (resources c.side) (means c) s.slots m1.slots st.bound (es ++ c.bound) (scalar_entry n) x (omega (arith, fits, len1)) (mean n) stacked rest)
        (store_top c.code callers s.slots end x stack m1 t is))

    scalar_does : (n : Name) (first : Option tree.ExprTree) (from to : ℕ) → s.slots + 1 ≤ total → Agree c (value_notes (scalar_scope n) first) →
        HasScalar c.code (tells c) n.id s.slots first from to → Declares from to (scalar_entry n ∷ es) (run_scalar c.file s.unsigned n.id first st turns)
    scalar_does n None from to fits agree h =
        went_on c callers leaves total (scalar_entry n ∷ es) (declared n.id s.unsigned (Scalar (pos 0)) st) (set_to (pos 0)) turns (length-set m.slots s.slots (pos 0) ∙ len)
        (kept_slots c.side st m (bind n.id s.unsigned (Scalar (pos 0)) st.bound) (set m.slots s.slots (pos 0)) ready.kept) (is_set n (pos 0) fits) (zeroes s.slots from to stack m turns h)
    scalar_does n (Some e) from to fits agree (cleared zeros end z h is) =
        let m1 = set_to (pos 0) in
        let len1 : length m1.slots ≡ total = length-set m.slots s.slots (pos 0) ∙ len in
        let al1 = is_set n (pos 0) fits in
        let kept1 = kept_slots c.side st m (bind n.id s.unsigned (Scalar (pos 0)) st.bound) (set m.slots s.slots (pos 0)) ready.kept in
        let inner = declared n.id s.unsigned (Scalar (pos 0)) st in
        does_from (zeroes s.slots from zeros stack m turns z)
        (given_does inner m1 (λ x. goes_on (stored inner n.id x.value) x.turns) refl kept1
        (expr_runs c callers (scalar_scope n) (scalar_entry n ∷ es) inner m1 (ready_for n (pos 0) m1 al1 kept1) e zeros end stack turns agree h)
        (λ x u q. first_stored n x.value m1 end x.turns fits al1.3 len1 (kept_slots c.side st m st.bound (set m.slots s.slots (pos 0)) ready.kept) is))
    scalar_does n (Some e) from to fits agree (named_elsewhere end apart h is) =
        let y = slot_at m.slots s.slots in
        let inner = declared n.id s.unsigned (Scalar (pos 0)) st in
        let other = declared n.id s.unsigned (Scalar y) st in
        let kept1 = kept_slots c.side st m (bind n.id s.unsigned (Scalar y) st.bound) m.slots ready.kept in
        let al1 : AlignedIn c callers leaves total m (bind n.id s.unsigned (Scalar y) st.bound) (scalar_entry n ∷ es) = (refl, refl, (s.slots, mean n, refl), ready.aligned) in
        given_does inner m (λ x. goes_on (stored inner n.id x.value) x.turns) refl (kept_slots c.side st m (bind n.id s.unsigned (Scalar (pos 0)) st.bound) m.slots ready.kept)
        (subst (Meets c.code (at callers from stack m turns) (pushed callers end stack m)) (value_elsewhere c.file st n.id s.unsigned (Scalar y) (Scalar (pos 0)) e turns apart)
        (expr_runs c callers (scalar_scope n) (scalar_entry n ∷ es) other m (ready_for n y m al1 kept1) e from end stack turns agree h))
        (λ x u q. first_stored n x.value m end x.turns fits ready.aligned len ready.kept is)

    abbrev array_entry : Name → ℕ → Entry
    array_entry n k = record { id = n.id; depth = s.depth; entity = entity.Array s.slots k; unsigned = s.unsigned }

    array_does : (n : Name) (size : tree.ExprTree) (k : ℕ) (from to : ℕ) → k < 2 ^ 31 → s.slots + k ≤ total → size_value s size ≡ Some (pos k) → array_size (pos k) ≡ k →
        Stands c.code (instr.Zero s.slots k ∷ []) from to → Declares from to (array_entry n k ∷ es) (run_array c.file s.unsigned n.id size st turns)
    unfolding act
    array_does n size k from to small fits sized same h =
        let m1 = with_slots m (zeroed m.slots s.slots k) in
        let fits2 : s.slots + k ≤ length m.slots = omega (arith, fits, len) in
        subst (λ a. Declares from to (array_entry n k ∷ es) (with_value a st (λ x. goes_on (declared n.id s.unsigned (Array (replicate (array_size x.value) (pos 0))) st) x.turns))) (sym (size_runs c size s es st m (pos k) k turns refl small ready sized))
        (subst (λ j. Declares from to (array_entry n k ∷ es) (goes_on (declared n.id s.unsigned (Array (replicate j (pos 0))) st) turns)) (sym same)
        (went_on c callers leaves total (array_entry n k ∷ es) (declared n.id s.unsigned (Array (replicate k (pos 0))) st) m1 turns (zeroed_length m.slots s.slots k fits2 ∙ len)
        (kept_slots c.side st m (bind n.id s.unsigned (Array (replicate k (pos 0))) st.bound) (zeroed m.slots s.slots k) ready.kept)
        (declared_array (resources c.side) (means c) s.slots k m.slots st.bound (es ++ c.bound) (array_entry n k) fits2 (means_array c.owner c.captured s.slots k) stacked ready.aligned)
        (subst (λ q. Leads c.code (at callers from stack m turns) (at callers q stack m1 turns)) h.1
        (one c.code (acts c.code (at callers from stack m turns) (instr.Zero s.slots k) h.0)))))

  pub told : (s : Scope) (d : tree.DeclaratorTree) → Agree c (declarator_notes s d) → (tells c d.name.mark.place).what ≡ what_declared (declared_entity s d)
  told s d agree = ap (λ (r : Resolved). r.what) (told_is c.names d.name.mark.place (what_declared (declared_entity s d)) s.unsigned c.ordered agree.0.1.0)

  pub scalar_done : (n : Name) (first : Option tree.ExprTree) → DeclaratorRuns (record { name = n; size = None; stream = false; first = first })
  scalar_done n first s es st m broke continued from to stack turns within ready stacked fits len agree h =
      let d : tree.DeclaratorTree = record { name = n; size = None; stream = false; first = first } in
      scalar_does s es st m broke continued stack turns within ready stacked len n first from to fits agree.1
      (subst (λ w. HasDeclared c.code (tells c) w d from to) (told s d agree ∙ means_in_text s.owner s.slots) h)

  -- the declarators that only `main` has
  module _ (control : c.owner ≡ owner.OfMain → (d : tree.DeclaratorTree) → DeclaratorDoes d) where
    main_stream : (s : Scope) → s.owner ≡ c.owner → (true && not (is_outermost s.owner s.depth)) ≡ false → c.owner ≡ owner.OfMain
    main_stream s own h = sym own ∙ by_owner s.owner (not-false (is_outermost s.owner s.depth) h)
      where
        by_owner : (o : Owner) → is_outermost o s.depth ≡ true → o ≡ owner.OfMain
        by_owner owner.OfMain e = refl
        by_owner owner.OfFunction e = absurd (cc)
        by_owner owner.OfTask e = absurd (cc)

    stream_done : (n : Name) (size : Option tree.IndexTree) (first : Option tree.ExprTree) → DeclaratorDoes (record { name = n; size = size; stream = true; first = first })
    stream_done n size first s es st m broke continued from to stack turns within ready deep stacked fits len agree h =
        let d : tree.DeclaratorTree = record { name = n; size = size; stream = true; first = first } in
        control (main_stream s ready.scope.owner agree.0.0.1.1.1.1.1.1.1.0) d s es st m broke continued from to stack turns within ready deep stacked fits len agree h

    abbrev ArrayGoal : Form → Name → tree.IndexTree → Scope → List Entry → BodyState → Store → ℕ → ℕ → ℕ → ℕ → List ℤ → ℕ → (List Entry → Type 0) → Type 0
    ArrayGoal f n i s es st m broke continued from to stack turns within =
        Does c.code (at callers from stack m turns) (settled c callers leaves total to broke continued stack within (record { id = n.id; depth = (taken s f).depth; entity = form_entity s f; unsigned = (taken s f).unsigned } ∷ es)) (run_array c.file s.unsigned n.id i.value st turns)

    array_done : (n : Name) (i : tree.IndexTree) (first : Option tree.ExprTree) (f : Form) (s : Scope) (es : List Entry) (st : BodyState) (m : Store) (broke continued from to : ℕ) (stack : List ℤ) (turns : ℕ) (within : List Entry → Type 0) →
        f ≡ form_of.Array (size_of s i.value) → Ready c s es st m → Stacked (means c) s.slots (es ++ c.bound) → (taken s f).slots ≤ total → length m.slots ≡ total →
        has_no_size f (size_value s i.value) ≡ false → (tells c n.mark.place).what ≡ what_declared (form_entity s f) →
        HasDeclared c.code (tells c) (tells c n.mark.place).what (record { name = n; size = Some i; stream = false; first = first }) from to →
        ArrayGoal f n i s es st m broke continued from to stack turns within
    array_done n i first f s es st m broke continued from to stack turns within is ready stacked fits len kind says h =
        let known = size_known (size_value s i.value) (not-false (is_size (size_value s i.value)) (subst (λ x. has_no_size x (size_value s i.value) ≡ false) is kind)) in
        let k = known.size in
        let sized : size_of s i.value ≡ Some k = ap limited known.is ∙ limit_kept k known.within in
        let g : f ≡ form_of.Array (Some k) = is ∙ ap form_of.Array sized in
        let d : tree.DeclaratorTree = record { name = n; size = Some i; stream = false; first = first } in
        subst (λ x. ArrayGoal x n i s es st m broke continued from to stack turns within) (sym g)
        (array_does s es st m broke continued stack turns within ready stacked len n i.value k from to (size_small k known.within) (subst (λ x. (taken s x).slots ≤ total) g fits) known.is
        (ap (λ o. unwrap_or o 0) (limit_kept k known.within))
        (subst (λ w. HasDeclared c.code (tells c) w d from to) (says ∙ ap (λ x. what_declared (form_entity s x)) g) h))

    sized_done : (n : Name) (i : tree.IndexTree) (first : Option tree.ExprTree) → DeclaratorDoes (record { name = n; size = Some i; stream = false; first = first })
    sized_done n i first s es st m broke continued from to stack turns within ready deep stacked fits len agree h = by_owner c.owner refl
      where
        d : tree.DeclaratorTree
        d = record { name = n; size = Some i; stream = false; first = first }

        array_by : (o : Owner) → c.owner ≡ o → is_window o ≡ false → ((size : Option ℕ) → sized_form o size ≡ form_of.Array size) →
            Does c.code (at callers from stack m turns) (settled c callers leaves total to broke continued stack within (entry s d ∷ es)) (run_declarator (around_of c sites) s.unsigned d st turns)
        array_by o own no_window forms =
            subst (λ b. Does c.code (at callers from stack m turns) (settled c callers leaves total to broke continued stack within (entry s d ∷ es))
            (run_sized (record { file = c.file; is_control = b; sites = sites }) s.unsigned n.id i st turns)) (sym (ap is_window own ∙ no_window))
            (array_done n i first (form s d) s es st m broke continued from to stack turns within (ap (λ x. sized_form x (size_of s i.value)) (ready.scope.owner ∙ own) ∙ forms (size_of s i.value)) ready stacked fits len
            (or-first (has_no_size (form s d) (size_value s i.value)) (has_too_many (after_declarator s d) (form s d)) agree.0.0.1.1.1.1.1.0) (told s d agree) h)

        by_owner : (o : Owner) → c.owner ≡ o →
            Does c.code (at callers from stack m turns) (settled c callers leaves total to broke continued stack within (entry s d ∷ es)) (run_declarator (around_of c sites) s.unsigned d st turns)
        by_owner owner.OfMain own = control own d s es st m broke continued from to stack turns within ready deep stacked fits len agree h
        by_owner owner.OfFunction own = array_by owner.OfFunction own refl (λ size. refl)
        by_owner owner.OfTask own = array_by owner.OfTask own refl (λ size. refl)

    pub declarator_does : (d : tree.DeclaratorTree) → DeclaratorDoes d
    declarator_does d = by_parts d.name d.size d.stream d.first
      where
        by_parts : (n : Name) (size : Option tree.IndexTree) (stream : Bool) (first : Option tree.ExprTree) → DeclaratorDoes (record { name = n; size = size; stream = stream; first = first })
        by_parts n size true first = stream_done n size first
        by_parts n None false first = at_depth (record { name = n; size = None; stream = false; first = first }) (scalar_done n first)
        by_parts n (Some i) false first = sized_done n i first

    pub declarators_does : (ds : List tree.DeclaratorTree) (s : Scope) (es : List Entry) (st : BodyState) (m : Store) (broke continued from to : ℕ) (stack : List ℤ) (turns : ℕ) (within : List Entry → Type 0) → Ready c s es st m → c.floor < s.depth →
        Stacked (means c) s.slots (es ++ c.bound) → (after_declarators s ds).slots ≤ total → length m.slots ≡ total → Agree c (declarators_notes s ds) → HasDeclarators c.code (tells c) ds from to →
        Does c.code (at callers from stack m turns) (settled c callers leaves total to broke continued stack within (made s ds es)) (run_declarators (around_of c sites) s.unsigned ds st turns)
    declarators_does [] s es st m broke continued from to stack turns within ready deep stacked fits len agree h =
        went_on c callers leaves total es st m turns len ready.kept ready.aligned (subst (λ q. Leads c.code (at callers from stack m turns) (at callers q stack m turns)) h stays)
    declarators_does (d ∷ ds) s es st m broke continued from to stack turns within ready deep stacked fits len agree h =
        let s1 = after_declarator s d in
        flows_does c callers leaves total h.0 to broke continued stack within within (entry s d ∷ es) (made s1 ds (entry s d ∷ es)) (run_declarators (around_of c sites) s.unsigned ds) (λ x i. i)
        (declarator_does d s es st m broke continued from h.0 stack turns within ready deep stacked (omega (arith, fits, (declarators_onward ds s1).slots)) len
        (agree_first c (declarator_notes s d) (declarators_notes s1 ds) agree) h.1)
        (λ st1 m1 t1 e len1 kept1 al1.
        subst (λ w. Does c.code (at callers h.0 stack m1 t1) (settled c callers leaves total to broke continued stack within (made s1 ds (entry s d ∷ es))) (run_declarators (around_of c sites) w ds st1 t1)) (declarator_unsigned s d)
        (declarators_does ds s1 (entry s d ∷ es) st1 m1 broke continued h.0 to stack t1 within (record { scope = in_behind c s es d ready.scope; aligned = al1; kept = kept1 }) (omega (arith, deep, (declarator_onward s d).depth))
        (stacked_behind c s (es ++ c.bound) d ready.scope.owner stacked) fits len1 (agree_rest c (declarator_notes s d) (declarators_notes s1 ds) agree) h.2))
