-- Changes and declarators do the same where more is in scope.
use Rattle.std.proofs.Common.{◌≡◌, ℕ, ◌==◌, ◌||◌, ◌&&◌, Bool, true, false, not, if◌then◌else◌, List, [], ◌∷◌, ◌++◌, length, get_or, set, replicate, Option, Some, None, Ok, Err, ℤ, pos, refl, sym, ap, ◌∙◌, subst, inl, eq-eqb}
use Rattle.std.proofs.lemmas.Bool.{or_right}
use Rattle.window_check_laws.proofs.NamePlaces.{or-first}
use Rattle.window_check_laws.proofs.Known.{not-false}
use Rattle.cddf_meaning.specs.Answers.{Answer, Left, left, and_then, with_turns}
use Rattle.cddf_meaning.specs.File.{File, or_in_file, type_in}
use Rattle.cddf_meaning.specs.Flow.{Ran, with_value, goes_on}
use Rattle.cddf_meaning.specs.Operators.{binary_answer, step_operator}
use Rattle.cddf_meaning.specs.Run.{assigned, aim_at, old_value, after_store, changed, target_type, run_change, array_size, run_array, window_size, run_window, with_streams, run_sized, run_declarator, run_declarators, run_start}
use Rattle.cddf_meaning.specs.BodyState.{BodyState, declared, stored_in, stored, stored_in_at}
use Rattle.cddf_meaning.specs.Value.{value, scalar_value, elements, checked}
use Rattle.cddf_meaning.specs.Variables.{bind, find, assign}
use Rattle.cddf_meaning.specs.declared.aim.Aim.{Aim}
use Rattle.cddf_meaning.specs.declared.aim.Aim.TheVariants.{Name, Element}
use Rattle.cddf_meaning.specs.declared.site.Site.{Site}
use Rattle.cddf_meaning.specs.declared.variable.Binding.{Binding}
use Rattle.cddf_meaning.specs.declared.variable.Variable.{Variable}
use Rattle.cddf_meaning.specs.declared.variable.Variable.TheVariants.{Constant, Function, Scalar, Array, Window, Stream, Item}
use Rattle.os_ast.specs.FreeNames.{expr_names, target_names}
use Rattle.os_ast.specs.Limits.{is_size}
use Rattle.os_ast.specs.Names.{Scope, typed}
use Rattle.os_ast.specs.Notes.Declarators.{form, sized_form, size_of, size_value, after_declarator, declarator_notes, declarators_notes, sized_notes, size_notes, is_window, start_notes}
use Rattle.os_ast.specs.Notes.Expressions.{expr_notes, place_notes, value_notes, change_notes}
use Rattle.os_ast.specs.ClauseMembers.{is_in, target_name}
use Rattle.os_ast.specs.Rules.{has_no_size, has_too_many}
use Rattle.os_ast.specs.Trees as tree
use Rattle.os_ast.specs.Unsigned.{is_unsigned}
use Rattle.os_ast.specs.declared.expr.Name.{Name as NameToken}
use Rattle.os_ast.specs.declared.names.Entry.{Entry}
use Rattle.os_ast.specs.declared.names.Form.TheVariants as form_of
use Rattle.os_ast.specs.declared.names.Owner.{Owner}
use Rattle.os_ast.specs.declared.names.Owner.TheVariants as owner
use Rattle.os_ast.specs.declared.names.Role.TheVariants as role
use Rattle.lowering_relation.specs.FoundNames.{AreElse, with_more}
use Rattle.lowering_relation.proofs.Context.{Context, Agree, agree_first, agree_rest, In, in_typed}
use Rattle.lowering_relation.proofs.Declarators.{around_of}
use Rattle.lowering_relation.proofs.Declares.{size_known, in_behind}
use Rattle.lowering_relation.proofs.Elsewhere.{same_then, scalar_same, elements_same}
use Rattle.lowering_relation.proofs.SameFlows.{SameRan, went, given_same, flows_same}
use Rattle.lowering_relation.proofs.SameNames.{ids, Seen, AllSeen, same_found, Matches, seen_expr, seen_size, seen_target, value_more, type_more, target_type_more}
use Rattle.lowering_relation.proofs.Static.{entry, made, made_first}

-- A name that is found is set where it is found.
assign_ids : (bound : List Binding) (id : ℕ) (v : Variable) → ids (assign bound id v) ≡ ids bound
assign_ids [] id v = refl
assign_ids (b ∷ bound) id v = by_case (b.id == id) (assign_ids bound id v)
  where
    by_case : (t : Bool) → ids (assign bound id v) ≡ ids bound → ids (if t then bind b.id b.unsigned v bound else b ∷ assign bound id v) ≡ b.id ∷ ids bound
    by_case true next = refl
    by_case false next = ap (λ xs. b.id ∷ xs) next

assign_more : (bound more : List Binding) (id : ℕ) (v x : Variable) → find bound id ≡ Some x → assign (bound ++ more) id v ≡ assign bound id v ++ more
assign_more [] more id v x h = absurd (cc)
assign_more (b ∷ bound) more id v x h = by_case (b.id == id) h (λ k. assign_more bound more id v x k)
  where
    by_case : (t : Bool) → (if t then Some b.variable else find bound id) ≡ Some x → (find bound id ≡ Some x → assign (bound ++ more) id v ≡ assign bound id v ++ more) →
        (if t then bind b.id b.unsigned v (bound ++ more) else b ∷ assign (bound ++ more) id v) ≡ (if t then bind b.id b.unsigned v bound else b ∷ assign bound id v) ++ more
    by_case true k next = refl
    by_case false k next = ap (λ xs. b ∷ xs) (next k)

-- a store, and what is in scope behind it
module _ (more : List Binding) (s : BodyState) (id : ℕ) where
  stored_by : (o : Option Variable) (v : ℤ) → find s.bound id ≡ o → (stored_in o (with_more more s) id v ≡ with_more more (stored_in o s id v)) × (ids (stored_in o s id v).bound ≡ ids s.bound)
  stored_by None v is = (refl, refl)
  stored_by (Some (Constant x)) v is = (refl, refl)
  stored_by (Some (Function f)) v is = (refl, refl)
  stored_by (Some (Scalar x)) v is = (ap (λ bound. record s { bound = bound }) (assign_more s.bound more id (Scalar v) (Scalar x) is), assign_ids s.bound id (Scalar v))
  stored_by (Some (Array vs)) v is = (refl, refl)
  stored_by (Some (Window x)) v is = (refl, refl)
  stored_by (Some (Stream x y)) v is = (refl, refl)
  stored_by (Some (Item k)) v is = (refl, refl)

  stored_at_by : (o : Option Variable) (k : ℕ) (v : ℤ) → find s.bound id ≡ o → (stored_in_at o (with_more more s) id k v ≡ with_more more (stored_in_at o s id k v)) × (ids (stored_in_at o s id k v).bound ≡ ids s.bound)
  stored_at_by None k v is = (refl, refl)
  stored_at_by (Some (Constant x)) k v is = (refl, refl)
  stored_at_by (Some (Function f)) k v is = (refl, refl)
  stored_at_by (Some (Scalar x)) k v is = (refl, refl)
  stored_at_by (Some (Array vs)) k v is = (ap (λ bound. record s { bound = bound }) (assign_more s.bound more id (Array (set vs k v)) (Array vs) is), assign_ids s.bound id (Array (set vs k v)))
  stored_at_by (Some (Window x)) k v is = (refl, refl)
  stored_at_by (Some (Stream x y)) k v is = (refl, refl)
  stored_at_by (Some (Item j)) k v is = (refl, refl)

abbrev aimed_id : Aim → ℕ
aimed_id (Name id) = id
aimed_id (Element id k) = id

aim_name : (file : File) (t : tree.TargetTree) (s : BodyState) (turns : ℕ) (x : Left Aim) → aim_at file t s turns ≡ Ok x → aimed_id x.value ≡ (target_name t).id
aim_name file (tree.Variable n) s turns x h = let e : left (Name n.id) turns ≡ x = cc in ap (λ (y : Left Aim). aimed_id y.value) (sym e)
aim_name file (tree.Element n m e) s turns x h = by_value (value file e s turns) h
  where
    by_index : (i : Left ℤ) (a : Answer ℕ) → and_then a (λ k. Ok (left (Element n.id k) i.turns)) ≡ Ok x → aimed_id x.value ≡ n.id
    by_index i (Err ending) k = absurd (cc)
    by_index i (Ok j) k = let q : left (Element n.id j) i.turns ≡ x = cc in ap (λ (y : Left Aim). aimed_id y.value) (sym q)

    by_value : (a : Answer (Left ℤ)) → and_then a (λ i. and_then (checked (length (elements s (find s.bound n.id))) m.line i.value) (λ k. Ok (left (Element n.id k) i.turns))) ≡ Ok x → aimed_id x.value ≡ n.id
    by_value (Err ending) k = absurd (cc)
    by_value (Ok i) k = by_index i (checked (length (elements s (find s.bound n.id))) m.line i.value) k

module _ (file : File) (more : List Binding) (apart : AreElse file more) (st : BodyState) where
  abbrev st2 : BodyState
  st2 = with_more more st

  pub scalar_more : (id : ℕ) → Seen file st.bound id → scalar_value st (or_in_file file id (find st.bound id)) ≡ scalar_value st2 (or_in_file file id (find st2.bound id))
  scalar_more id seen =
      scalar_same file st st.bound st2.bound (or_in_file file id (find st.bound id)) ∙ ap (λ o. scalar_value st2 (or_in_file file id o)) (same_found file st.bound more id apart seen)

  elements_more : (id : ℕ) → Seen file st.bound id → elements st (find st.bound id) ≡ elements st2 (find st2.bound id)
  elements_more id seen = elements_same file st st.bound st2.bound (find st.bound id) ∙ ap (elements st2) (same_found file st.bound more id apart seen)

  own_seen : (t : tree.TargetTree) → AllSeen file st.bound (target_names t) → Seen file st.bound (target_name t).id
  own_seen (tree.Variable n) seen = seen n.id (ap (λ b. b || false) (eq-eqb n.id n.id refl))
  own_seen (tree.Element n m e) seen = seen n.id (ap (λ b. b || is_in n.id (expr_names e)) (eq-eqb n.id n.id refl))

  aim_more : (t : tree.TargetTree) (turns : ℕ) → AllSeen file st.bound (target_names t) → aim_at file t st turns ≡ aim_at file t st2 turns
  aim_more (tree.Variable n) turns seen = refl
  aim_more (tree.Element n m e) turns seen =
      same_then (value file e st turns) (value file e st2 turns) (λ i. and_then (checked (length (elements st (find st.bound n.id))) m.line i.value) (λ k. Ok (left (Element n.id k) i.turns)))
      (λ i. and_then (checked (length (elements st2 (find st2.bound n.id))) m.line i.value) (λ k. Ok (left (Element n.id k) i.turns)))
      (value_more file more apart st e turns (λ id h. seen id (or_right (n.id == id) (is_in id (expr_names e)) h)))
      (λ i. ap (λ (xs : List ℤ). and_then (checked (length xs) m.line i.value) (λ k. Ok (left (Element n.id k) i.turns))) (elements_more n.id (own_seen (tree.Element n m e) seen)))

  old_more : (a : Aim) → Seen file st.bound (aimed_id a) → old_value file st a ≡ old_value file st2 a
  old_more (Name id) seen = scalar_more id seen
  old_more (Element id k) seen = ap (λ (xs : List ℤ). get_or xs k (pos 0)) (elements_more id seen)

  written_more : (a : Aim) (v : ℤ) → Seen file st.bound (aimed_id a) → (after_store st2 a v ≡ with_more more (after_store st a v)) × (ids (after_store st a v).bound ≡ ids st.bound)
  written_more (Name id) v seen =
      let h = stored_by more st id (find st.bound id) v refl in
      (ap (λ o. stored_in o st2 id v) (sym (same_found file st.bound more id apart seen)) ∙ h.0, h.1)
  written_more (Element id k) v seen =
      let h = stored_at_by more st id (find st.bound id) k v refl in
      (ap (λ o. stored_in_at o st2 id k v) (sym (same_found file st.bound more id apart seen)) ∙ h.0, h.1)

module _ (c : Context) (more : List Binding) (apart : AreElse c.file more) (sites : List Site) where
  abbrev Same : List Entry → (List Entry → Type 0) → Ran → Ran → Type 0
  Same after within r1 r2 = SameRan c more within after r1 r2

  changed_same : (t : tree.TargetTree) (right : ℤ → BodyState → ℕ → Answer (Left ℤ)) (st : BodyState) (turns : ℕ) (es : List Entry) (within : List Entry → Type 0) → AllSeen c.file st.bound (target_names t) → Matches c st.bound es →
      ((old : ℤ) (left_turns : ℕ) → right old st left_turns ≡ right old (with_more more st) left_turns) → Same es within (changed c.file t right st turns) (changed c.file t right (with_more more st) turns)
  changed_same t right st turns es within seen m same =
      given_same c more st (aim_at c.file t st turns) (aim_at c.file t (with_more more st) turns)
      (λ a. with_value (right (old_value c.file st a.value) st a.turns) st (λ v. goes_on (after_store st a.value v.value) v.turns))
      (λ a. with_value (right (old_value c.file (with_more more st) a.value) (with_more more st) a.turns) (with_more more st) (λ v. goes_on (after_store (with_more more st) a.value v.value) v.turns))
      (aim_more c.file more apart st t turns seen)
      (λ a e.
      let own : Seen c.file st.bound (aimed_id a.value) = subst (Seen c.file st.bound) (sym (aim_name c.file t st turns a e)) (own_seen c.file more apart st t seen) in
      given_same c more st (right (old_value c.file st a.value) st a.turns) (right (old_value c.file (with_more more st) a.value) (with_more more st) a.turns) (λ v. goes_on (after_store st a.value v.value) v.turns)
      (λ v. goes_on (after_store (with_more more st) a.value v.value) v.turns)
      (ap (λ old. right old st a.turns) (old_more c.file more apart st a.value own) ∙ same (old_value c.file (with_more more st) a.value) a.turns)
      (λ v q.
      let w = written_more c.file more apart st a.value v.value own in
      subst (λ x. Same es within (goes_on (after_store st a.value v.value) v.turns) (goes_on x v.turns)) (sym w.0) (went (after_store st a.value v.value) v.turns (w.1 ∙ m))))

  module _ (s : Scope) (es : List Entry) (is : In c s es) where
    pub change_same : (x : tree.ChangeTree) (st : BodyState) (turns : ℕ) (within : List Entry → Type 0) → Matches c st.bound es → Agree c (change_notes s x) → Same es within (run_change c.file x st turns) (run_change c.file x (with_more more st) turns)
    change_same (tree.Set t a m e) st turns within same agree =
        let seen_e = seen_expr c s es is st.bound same e (agree_rest c (place_notes s role.Changed t) (expr_notes s e) agree) in
        let seen_t = seen_target c s es is st.bound same t (agree_first c (place_notes s role.Changed t) (expr_notes s e) agree) in
        let st2 = with_more more st in
        changed_same t (λ old s turns. and_then (value c.file e s turns) (λ n. with_turns n.turns (assigned a m.line (target_type c.file s t) (type_in c.file s e) old n.value))) st turns es within seen_t same
        (λ old k.
        ap (λ z. and_then z (λ n. with_turns n.turns (assigned a m.line (target_type c.file st t) (type_in c.file st e) old n.value))) (value_more c.file more apart st e k seen_e)
        ∙ ap (λ u. and_then (value c.file e st2 k) (λ n. with_turns n.turns (assigned a m.line u (type_in c.file st e) old n.value))) (target_type_more c.file more apart st t seen_t)
        ∙ ap (λ v. and_then (value c.file e st2 k) (λ n. with_turns n.turns (assigned a m.line (target_type c.file st2 t) v old n.value))) (type_more c.file more apart st e seen_e))
    change_same (tree.After t p m) st turns within same agree =
        let seen_t = seen_target c s es is st.bound same t agree in
        changed_same t (λ old s turns. with_turns turns (binary_answer (step_operator p) m.line (target_type c.file s t) false old (pos 1))) st turns es within seen_t same
        (λ old k. ap (λ u. with_turns k (binary_answer (step_operator p) m.line u false old (pos 1))) (target_type_more c.file more apart st t seen_t))
    change_same (tree.Before t p m) st turns within same agree =
        let seen_t = seen_target c s es is st.bound same t agree in
        changed_same t (λ old s turns. with_turns turns (binary_answer (step_operator p) m.line (target_type c.file s t) false old (pos 1))) st turns es within seen_t same
        (λ old k. ap (λ u. with_turns k (binary_answer (step_operator p) m.line u false old (pos 1))) (target_type_more c.file more apart st t seen_t))

    -- a declarator, by its parts
    abbrev DeclaratorSame : tree.DeclaratorTree → Type 1
    DeclaratorSame d = (w : Bool) (st : BodyState) (turns : ℕ) (within : List Entry → Type 0) → Matches c st.bound es → Agree c (declarator_notes s d) →
        Same (entry s d ∷ es) within (run_declarator (around_of c sites) w d st turns) (run_declarator (around_of c sites) w d (with_more more st) turns)

    scalar_same_by : (n : NameToken) (first : Option tree.ExprTree) → DeclaratorSame (record { name = n; size = None; stream = false; first = first })
    scalar_same_by n None w st turns within same agree = went (declared n.id w (Scalar (pos 0)) st) turns (ap (λ xs. n.id ∷ xs) same)
    scalar_same_by n (Some e) w st turns within same agree =
        let d : tree.DeclaratorTree = record { name = n; size = None; stream = false; first = Some e } in
        let inner = declared n.id w (Scalar (pos 0)) st in
        let here : Matches c inner.bound (entry s d ∷ es) = ap (λ xs. n.id ∷ xs) same in
        given_same c more inner (value c.file e inner turns) (value c.file e (with_more more inner) turns) (λ x. goes_on (stored inner n.id x.value) x.turns) (λ x. goes_on (stored (with_more more inner) n.id x.value) x.turns)
        (value_more c.file more apart inner e turns (seen_expr c (after_declarator s d) (entry s d ∷ es) (in_behind c s es d is) inner.bound here e agree.1))
        (λ x q.
        let written = written_more c.file more apart inner (Name n.id) x.value (inl (ap (λ b. b || is_in n.id (ids st.bound)) (eq-eqb n.id n.id refl))) in
        subst (λ y. Same (entry s d ∷ es) within (goes_on (stored inner n.id x.value) x.turns) (goes_on y x.turns)) (sym written.0) (went (stored inner n.id x.value) x.turns (written.1 ∙ here)))

    size_more : (i : tree.IndexTree) (st : BodyState) (turns : ℕ) → Matches c st.bound es → is_size (size_value s i.value) ≡ true → value c.file i.value st turns ≡ value c.file i.value (with_more more st) turns
    size_more i st turns same sized = let known = size_known (size_value s i.value) sized in value_more c.file more apart st i.value turns (seen_size c s es is st.bound same i.value (pos known.size) known.is)

    stream_same : (n : NameToken) (size : Option tree.IndexTree) (first : Option tree.ExprTree) → DeclaratorSame (record { name = n; size = size; stream = true; first = first })
    stream_same n None first w st turns within same agree = went (with_streams n.id w 1 st) turns (ap (λ xs. n.id ∷ xs) same)
    stream_same n (Some i) first w st turns within same agree =
        let d : tree.DeclaratorTree = record { name = n; size = Some i; stream = true; first = first } in
        let kind = or-first (has_no_size (form s d) (size_value s i.value)) (has_too_many (after_declarator s d) (form s d)) agree.0.0.1.1.1.1.1.0 in
        given_same c more st (value c.file i.value st turns) (value c.file i.value (with_more more st) turns) (λ x. goes_on (with_streams n.id w (array_size x.value) st) x.turns)
        (λ x. goes_on (with_streams n.id w (array_size x.value) (with_more more st)) x.turns) (size_more i st turns same (not-false (is_size (size_value s i.value)) kind))
        (λ x q. went (with_streams n.id w (array_size x.value) st) x.turns (ap (λ xs. n.id ∷ xs) same))

    window_same : (w : Bool) (n : NameToken) (i : tree.IndexTree) (st : BodyState) (turns : ℕ) (within : List Entry → Type 0) (after : List Entry) → AllSeen c.file st.bound (expr_names i.value) → ((v : ℕ) → Matches c (bind n.id w (Window v) st.bound) after) →
        Same after within (run_window c.file w n.id i st turns) (run_window c.file w n.id i (with_more more st) turns)
    window_same w n i st turns within after seen m =
        given_same c more st (value c.file i.value st turns) (value c.file i.value (with_more more st) turns) (λ x. with_value (window_size i.mark.line x.value) st (λ horizon. goes_on (declared n.id w (Window horizon) st) x.turns))
        (λ x. with_value (window_size i.mark.line x.value) (with_more more st) (λ horizon. goes_on (declared n.id w (Window horizon) (with_more more st)) x.turns)) (value_more c.file more apart st i.value turns seen)
        (λ x q. given_same c more st (window_size i.mark.line x.value) (window_size i.mark.line x.value) (λ horizon. goes_on (declared n.id w (Window horizon) st) x.turns)
        (λ horizon. goes_on (declared n.id w (Window horizon) (with_more more st)) x.turns) refl (λ horizon r. went (declared n.id w (Window horizon) st) x.turns (m horizon)))

    array_same : (w : Bool) (n : NameToken) (i : tree.IndexTree) (st : BodyState) (turns : ℕ) (within : List Entry → Type 0) (after : List Entry) → Matches c st.bound es → is_size (size_value s i.value) ≡ true → ((v : List ℤ) → Matches c (bind n.id w (Array v) st.bound) after) →
        Same after within (run_array c.file w n.id i.value st turns) (run_array c.file w n.id i.value (with_more more st) turns)
    array_same w n i st turns within after same sized m =
        given_same c more st (value c.file i.value st turns) (value c.file i.value (with_more more st) turns) (λ x. goes_on (declared n.id w (Array (replicate (array_size x.value) (pos 0))) st) x.turns)
        (λ x. goes_on (declared n.id w (Array (replicate (array_size x.value) (pos 0))) (with_more more st)) x.turns) (size_more i st turns same sized)
        (λ x q. went (declared n.id w (Array (replicate (array_size x.value) (pos 0))) st) x.turns (m (replicate (array_size x.value) (pos 0))))

    sized_same : (n : NameToken) (i : tree.IndexTree) (first : Option tree.ExprTree) → DeclaratorSame (record { name = n; size = Some i; stream = false; first = first })
    sized_same n i first w st turns within same agree = by_owner c.owner refl
      where
        d : tree.DeclaratorTree
        d = record { name = n; size = Some i; stream = false; first = first }

        Goal : Bool → Type 0
        Goal t = Same (entry s d ∷ es) within (run_sized (record { file = c.file; is_control = t; sites = sites }) w n.id i st turns) (run_sized (record { file = c.file; is_control = t; sites = sites }) w n.id i (with_more more st) turns)

        window_by : c.owner ≡ owner.OfMain → Goal true
        window_by own =
            window_same w n i st turns within (entry s d ∷ es)
            (seen_expr c s es is st.bound same i.value
            (subst (λ o. Agree c (if is_window o && not false then expr_notes s i.value else size_notes s i.value)) (is.owner ∙ own) (agree_first c (sized_notes s false (Some i)) (value_notes (after_declarator s d) first) agree.1)))
            (λ v. ap (λ xs. n.id ∷ xs) same)

        array_by : (o : Owner) → c.owner ≡ o → ((size : Option ℕ) → sized_form o size ≡ form_of.Array size) → Goal false
        array_by o own forms =
            let f : form s d ≡ form_of.Array (size_of s i.value) = ap (λ x. sized_form x (size_of s i.value)) (is.owner ∙ own) ∙ forms (size_of s i.value) in
            let kind = or-first (has_no_size (form s d) (size_value s i.value)) (has_too_many (after_declarator s d) (form s d)) agree.0.0.1.1.1.1.1.0 in
            array_same w n i st turns within (entry s d ∷ es) same (not-false (is_size (size_value s i.value)) (subst (λ x. has_no_size x (size_value s i.value) ≡ false) f kind)) (λ v. ap (λ xs. n.id ∷ xs) same)

        by_owner : (o : Owner) → c.owner ≡ o → Goal (is_window c.owner)
        by_owner owner.OfMain own = subst Goal (sym (ap is_window own)) (window_by own)
        by_owner owner.OfFunction own = subst Goal (sym (ap is_window own)) (array_by owner.OfFunction own (λ size. refl))
        by_owner owner.OfTask own = subst Goal (sym (ap is_window own)) (array_by owner.OfTask own (λ size. refl))

    declarator_same : (d : tree.DeclaratorTree) → DeclaratorSame d
    declarator_same d = by_parts d.name d.size d.stream d.first
      where
        by_parts : (n : NameToken) (size : Option tree.IndexTree) (stream : Bool) (first : Option tree.ExprTree) → DeclaratorSame (record { name = n; size = size; stream = stream; first = first })
        by_parts n size true first = stream_same n size first
        by_parts n None false first = scalar_same_by n first
        by_parts n (Some i) false first = sized_same n i first

  pub declarators_same : (w : Bool) (ds : List tree.DeclaratorTree) (s : Scope) (es : List Entry) (st : BodyState) (turns : ℕ) (within : List Entry → Type 0) → In c s es → Matches c st.bound es → Agree c (declarators_notes s ds) →
      Same (made s ds es) within (run_declarators (around_of c sites) w ds st turns) (run_declarators (around_of c sites) w ds (with_more more st) turns)
  declarators_same w [] s es st turns within is same agree = went st turns same
  declarators_same w (d ∷ ds) s es st turns within is same agree =
      let s1 = after_declarator s d in
      flows_same c more within within (entry s d ∷ es) (made s1 ds (entry s d ∷ es)) (run_declarators (around_of c sites) w ds) (run_declarators (around_of c sites) w ds) (λ x i. i)
      (declarator_same s es is d w st turns within same (agree_first c (declarator_notes s d) (declarators_notes s1 ds) agree))
      (λ st1 t1 m1. declarators_same w ds s1 (entry s d ∷ es) st1 t1 within (in_behind c s es d is) m1 (agree_rest c (declarator_notes s d) (declarators_notes s1 ds) agree))

  pub start_same : (t : tree.StartTree) (s : Scope) (es : List Entry) (st : BodyState) (turns : ℕ) (within : List Entry → Type 0) → In c s es → Matches c st.bound es → Agree c (start_notes s t) →
      Same (made_first s t es) within (run_start (around_of c sites) t st turns) (run_start (around_of c sites) t (with_more more st) turns)
  start_same tree.StartTree.Empty s es st turns within is same agree = went st turns same
  start_same (tree.StartTree.Declare ty ds) s es st turns within is same agree = declarators_same (is_unsigned ty) ds (typed ty s) es st turns within (in_typed c ty s es is) same agree
  start_same (tree.StartTree.Change x) s es st turns within is same agree = change_same s es is x st turns within same agree
