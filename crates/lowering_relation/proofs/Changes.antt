-- The code of a change does what the change says.
use Rattle.std.proofs.Common.{◌≡◌, ℕ, ◌+◌, ◌≤◌, Bool, true, false, List, [], ◌∷◌, ◌++◌, length, Some, Ok, Err, ℤ, pos, refl, sym, ap, ◌∙◌, subst}
use Rattle.cddf_meaning.specs.Answers.{Answer, and_then, Left, left, with_turns}
use Rattle.cddf_meaning.specs.File.{variable, type_in}
use Rattle.cddf_meaning.specs.Flow.{Ran, with_value, goes_on}
use Rattle.cddf_meaning.specs.Operators.{binary_answer, step_operator}
use Rattle.cddf_meaning.specs.Run.{assigned, old_value, after_store, changed, target_type, run_change}
use Rattle.cddf_meaning.specs.BodyState.{BodyState, stored, stored_at}
use Rattle.cddf_meaning.specs.Value.{scalar_value, elements, checked, value}
use Rattle.cddf_meaning.specs.Variables.{find}
use Rattle.cddf_meaning.specs.declared.aim.Aim.{Aim}
use Rattle.cddf_meaning.specs.declared.aim.Aim.TheVariants.{Element}
use Rattle.os_ast.specs.Names.{Scope}
use Rattle.os_ast.specs.Notes.Expressions.{expr_notes, place_notes, change_notes}
use Rattle.os_ast.specs.Trees as tree
use Rattle.os_ast.specs.declared.expr.Mark.{Mark}
use Rattle.os_ast.specs.declared.expr.Name.{Name}
use Rattle.os_ast.specs.declared.names.Entry.{Entry}
use Rattle.os_ast.specs.declared.names.Role.TheVariants as role
use Rattle.os_ast.specs.declared.names.Shape.TheVariants as shape
use Rattle.os_ast.specs.declared.names.Use.{Use}
use Rattle.os_ast.specs.declared.names.Use.TheVariants as usage
use Rattle.os_ast.specs.declared.names.What.{What}
use Rattle.os_ast.specs.declared.names.What.TheVariants as what
use Rattle.os_ast.specs.declared.stmt.Assign.{Assign}
use Rattle.os_ast.specs.declared.stmt.Assign.TheVariants as assign_of
use Rattle.os_code.specs.declared.instr.Instr.{Instr}
use Rattle.os_code.specs.declared.parts.Parts.{Parts}
use Rattle.os_code.specs.Machine.{Frame}
use Rattle.os_code.specs.Parts.{instr_at}
use Rattle.lowering_relation.specs.Alignment.{Stacked, slot_at}
use Rattle.lowering_relation.specs.Changes.{is_quiet, HasChanged, HasChange, set, set_unchecked, after, before, needs_old, operating, HasAssigned, HasStepped, target_by}
use Rattle.lowering_relation.specs.Expressions.{Stands, HasExpr}
use Rattle.lowering_relation.specs.Names.{reading, aiming, storing, storing_at, fetching, fetching_at}
use Rattle.lowering_relation.proofs.Context.{IsPlain, Context, means, tells, Agree, agree_first, agree_rest, IsUsed, used, name}
use Rattle.lowering_relation.proofs.Exprs.{Ready, ends_at, operates, expr_runs}
use Rattle.lowering_relation.proofs.Flows.{Does, does_from, given_does, settled}
use Rattle.lowering_relation.proofs.Names.{reads, fetches_at}
use Rattle.lowering_relation.proofs.Quiet.{quiet_gives}
use Rattle.lowering_relation.proofs.TypesTold.{type_told, target_told}
use Rattle.lowering_relation.proofs.Steps.{Store, at, pushed, checked_index, Leads, stays, leads_on, Meets, gives, meets_from, meets_then, copy_top, push}
use Rattle.lowering_relation.proofs.Stores.{aimed, below_in, stores_name, stores_at}

abbrev pub with_old : Bool → ℤ → List ℤ → List ℤ
with_old true v stack = v ∷ stack
with_old false v stack = stack

given_then : {A B : Type 0} (a : Answer A) (f : A → Answer B) (st : BodyState) (g : B → Ran) → with_value a st (λ x. with_value (f x) st g) ≡ with_value (and_then a f) st g
given_then (Ok x) f st g = refl
given_then (Err e) f st g = refl

module _ (code : Parts) (callers : List Frame) (m : Store) (turns : ℕ) (v : ℤ) where
  -- the old value is fetched behind what aims at it
  plain : (old : Bool) (w : What) (line from to : ℕ) (stack : List ℤ) →
      ((p q : ℕ) (below : List ℤ) → Stands code (reading w line) p q → Leads code (at callers p below m turns) (at callers q (v ∷ below) m turns)) →
      Stands code (fetching old w line) from to → Leads code (at callers from stack m turns) (at callers to (with_old old v stack) m turns)
  plain true w line from to stack reads h = reads from to stack h
  plain false w line from to stack reads h = subst (λ q. Leads code (at callers from stack m turns) (at callers q stack m turns)) h stays

  pub fronts : (old : Bool) (w : What) (line from to : ℕ) (stack : List ℤ) →
      ((p q : ℕ) (below : List ℤ) → Stands code (reading w line) p q → Leads code (at callers p below m turns) (at callers q (v ∷ below) m turns)) →
      Stands code (aiming w ++ fetching old w line) from to → Leads code (at callers from stack m turns) (at callers to (with_old old v (aimed w stack)) m turns)
  fronts old (what.Element item) line from to stack reads h = leads_on code (push code callers (pos 0) from stack m turns h.0) (plain old (what.Element item) line (from + 1) to (pos 0 ∷ stack) reads h.1)
  fronts old (what.View item) line from to stack reads h = leads_on code (push code callers (pos 0) from stack m turns h.0) (plain old (what.View item) line (from + 1) to (pos 0 ∷ stack) reads h.1)
  fronts old (what.Constant x) line from to stack reads h = plain old (what.Constant x) line from to stack reads h
  fronts old (what.Function x) line from to stack reads h = plain old (what.Function x) line from to stack reads h
  fronts old (what.Scalar x) line from to stack reads h = plain old (what.Scalar x) line from to stack reads h
  fronts old (what.Array x y) line from to stack reads h = plain old (what.Array x y) line from to stack reads h
  fronts old (what.Window x) line from to stack reads h = plain old (what.Window x) line from to stack reads h
  fronts old (what.Stream x y) line from to stack reads h = plain old (what.Stream x y) line from to stack reads h

module _ (c : Context) (callers : List Frame) (leaves : Instr) (total : ℕ) (s : Scope) (es : List Entry) (top : ℕ) (st : BodyState) (m : Store) (ready : Ready c s es st m) (stacked : Stacked (means c) top (es ++ c.bound)) (fits : top ≤ total) (len : length m.slots ≡ total) where
  -- The right side of a change, on the old value where that is needed.
  abbrev RightRuns : Bool → (ℤ → BodyState → ℕ → Answer (Left ℤ)) → (ℕ → ℕ → Type 0) → Type 0
  RightRuns old right has = (x : ℤ) (below : List ℤ) (turns p q : ℕ) → has p q →
      Meets c.code (at callers p (with_old old x below) m turns) (pushed callers q below m) (right x st turns)

  fetch : (old : Bool) (n : Name) (u : Use) (plain : IsPlain u) (k : IsUsed c s n u) (line p q : ℕ) (i : ℤ) (stack : List ℤ) (turns : ℕ) → Stands c.code (fetching_at old (means c k.entity) line) p q →
      Meets c.code (at callers p (i ∷ stack) m turns) (checked_index i (length (elements st (find st.bound n.id))) (λ k. at callers q (with_old old (slot_at (elements st (find st.bound n.id)) k) (i ∷ stack)) m turns) m.created)
      (checked (length (elements st (find st.bound n.id))) line i)
  fetch true n u plain k line p q i stack turns h =
      meets_from c.code (copy_top c.code callers i p stack m turns h.0)
      (subst (λ z. Meets c.code (at callers (p + 1) (i ∷ i ∷ stack) m turns) (checked_index i (length (elements st (find st.bound n.id))) (λ j. at callers z (slot_at (elements st (find st.bound n.id)) j ∷ i ∷ stack) m turns) m.created) (checked (length (elements st (find st.bound n.id))) line i)) h.1.1
      (fetches_at c callers es st m true n k.entity line (p + 1) i (i ∷ stack) turns (name c s es st m.slots n u plain ready.scope k ready.aligned) ready.kept h.1.0))
  fetch false n u plain k line p q i stack turns h =
      subst (λ z. Meets c.code (at callers p (i ∷ stack) m turns) (checked_index i (length (elements st (find st.bound n.id))) (λ j. at callers z (i ∷ stack) m turns) m.created) (checked (length (elements st (find st.bound n.id))) line i)) h.1
      (fetches_at c callers es st m false n k.entity line p i stack turns (name c s es st m.slots n u plain ready.scope k ready.aligned) ready.kept h.0)

  -- a target is changed
  pub changed_does : (t : tree.TargetTree) (old : Bool) (right : ℤ → BodyState → ℕ → Answer (Left ℤ)) (has : ℕ → ℕ → Type 0) (broke continued from to : ℕ) (stack : List ℤ) (turns : ℕ) (within : List Entry → Type 0) →
      Agree c (place_notes s role.Changed t) → RightRuns old right has → HasChanged c.code (tells c) old t has from to →
      Does c.code (at callers from stack m turns) (settled c callers leaves total to broke continued stack within es) (changed c.file t right st turns)
  changed_does (tree.Variable n) old right has broke continued from to stack turns within agree rights h =
      let u = usage.Place role.Changed shape.Bare in
      let k = used c s es n u [] ready.scope agree in
      let w = means c k.entity in
      let named = name c s es st m.slots n u tt ready.scope k ready.aligned in
      let line = n.mark.line in
      does_from (fronts c.code callers m turns (scalar_value st (variable c.file st n.id)) old w line from h.0 stack
      (λ p q below stands. reads c callers es st m n k.entity line p q below turns named ready.kept stands)
      (subst (λ x. Stands c.code (aiming x ++ fetching old x line) from h.0) k.told h.2))
      (given_does st m (λ v. goes_on (stored st n.id v.value) v.turns) refl ready.kept (rights (scalar_value st (variable c.file st n.id)) (aimed w stack) turns h.0 h.1 h.3)
      (λ v y e. stores_name c callers leaves total to broke continued within es top st m v.turns stacked fits len ready.kept ready.aligned n k.entity line h.1 v.value stack h.4.1 named
      (h.4.0 ∙ ap (λ x. Some (storing x line)) k.told)))
  changed_does (tree.Element n open_mark e) old right has broke continued from to stack turns within agree rights h =
      let u = usage.Place role.Changed shape.Indexed in
      let k = used c s es n u (expr_notes s e) ready.scope agree in
      let named = name c s es st m.slots n u tt ready.scope k ready.aligned in
      let line = open_mark.line in
      let size = length (elements st (find st.bound n.id)) in
      let g : Left Aim → Ran = λ a. with_value (right (old_value c.file st a.value) st a.turns) st (λ v. goes_on (after_store st a.value v.value) v.turns) in
      let f : Left ℤ → Answer (Left Aim) = λ i. and_then (checked size line i.value) (λ j. Ok (left (Element n.id j) i.turns)) in
      subst (Does c.code (at callers from stack m turns) (settled c callers leaves total to broke continued stack within es)) (given_then (value c.file e st turns) f st g)
      (given_does st m (λ i. with_value (f i) st g) refl ready.kept (expr_runs c callers s es st m ready e from h.0 stack turns agree.1 h.3)
      (λ i y e1.
      subst (Does c.code (at callers h.0 (i.value ∷ stack) m i.turns) (settled c callers leaves total to broke continued stack within es)) (given_then (checked size line i.value) (λ j. Ok (left (Element n.id j) i.turns)) st g)
      (given_does st m (λ j. with_value (Ok (left (Element n.id j) i.turns)) st g) refl ready.kept
      (fetch old n u tt k line h.0 h.1 i.value stack i.turns (subst (λ x. Stands c.code (fetching_at old x line) h.0 h.1) k.told h.4))
      (λ j z e2.
      given_does st m (λ v. goes_on (stored_at st n.id j v.value) v.turns) refl ready.kept
      (rights (slot_at (elements st (find st.bound n.id)) j) (i.value ∷ stack) i.turns h.1 h.2 h.5)
      (λ v q e3.
      subst (λ a. Does c.code (at callers h.2 (v.value ∷ i.value ∷ stack) m v.turns) (settled c callers leaves total to broke continued stack within es) (with_value a st (λ x. goes_on (stored_at st n.id x v.value) v.turns)))
      (ap (checked size line) z.0 ∙ below_in size j line z.1)
      (stores_at c callers leaves total to broke continued within es top st m v.turns stacked fits len ready.kept ready.aligned n k.entity line h.2 i.value v.value stack h.6.1 named
      (h.6.0 ∙ ap (λ x. Some (storing_at x line)) k.told)))))))

  -- where the right side is quiet, the store alone checks the index
  unchecked_does : (n : Name) (open_mark mark : Mark) (i e : tree.ExprTree) (broke continued from mid end : ℕ) (stack : List ℤ) (turns : ℕ) (within : List Entry → Type 0) →
      Agree c (change_notes s (tree.Set (tree.Element n open_mark i) assign_of.Plain mark e)) → is_quiet e ≡ true → HasExpr c.code (tells c) i from mid → HasExpr c.code (tells c) e mid end →
      instr_at c.code end ≡ Some (storing_at (tells c n.mark.place).what open_mark.line) →
      Does c.code (at callers from stack m turns) (settled c callers leaves total (end + 1) broke continued stack within es) (run_change c.file (tree.Set (tree.Element n open_mark i) assign_of.Plain mark e) st turns)
  unchecked_does n open_mark mark i e broke continued from mid end stack turns within agree quiet has_i has_e store =
      let u = usage.Place role.Changed shape.Indexed in
      let places = agree_first c (place_notes s role.Changed (tree.Element n open_mark i)) (expr_notes s e) agree in
      let k = used c s es n u (expr_notes s i) ready.scope places in
      let named = name c s es st m.slots n u tt ready.scope k ready.aligned in
      let line = open_mark.line in
      let size = length (elements st (find st.bound n.id)) in
      let right : ℤ → BodyState → ℕ → Answer (Left ℤ) = λ old s2 t. and_then (value c.file e s2 t) (λ n. with_turns n.turns (Ok n.value)) in
      let g : Left Aim → Ran = λ a. with_value (right (old_value c.file st a.value) st a.turns) st (λ v. goes_on (after_store st a.value v.value) v.turns) in
      let f : Left ℤ → Answer (Left Aim) = λ i. and_then (checked size line i.value) (λ j. Ok (left (Element n.id j) i.turns)) in
      subst (Does c.code (at callers from stack m turns) (settled c callers leaves total (end + 1) broke continued stack within es)) (given_then (value c.file i st turns) f st g)
      (given_does st m (λ x. with_value (f x) st g) refl ready.kept (expr_runs c callers s es st m ready i from mid stack turns places.1 has_i)
      (λ x y e1.
      let q = quiet_gives c.file e st x.turns quiet in
      subst (Does c.code (at callers mid (x.value ∷ stack) m x.turns) (settled c callers leaves total (end + 1) broke continued stack within es)) (given_then (checked size line x.value) (λ j. Ok (left (Element n.id j) x.turns)) st g)
      (subst (λ a. Does c.code (at callers mid (x.value ∷ stack) m x.turns) (settled c callers leaves total (end + 1) broke continued stack within es)
      (with_value (checked size line x.value) st (λ j. with_value (and_then a (λ n. with_turns n.turns (Ok n.value))) st (λ v. goes_on (stored_at st n.id j v.value) v.turns)))) (sym q.1)
      (pushed_on q.0 x.value x.turns (subst (Meets c.code (at callers mid (x.value ∷ stack) m x.turns) (pushed callers end (x.value ∷ stack) m)) q.1
      (expr_runs c callers s es st m ready e mid end (x.value ∷ stack) x.turns (agree_rest c (place_notes s role.Changed (tree.Element n open_mark i)) (expr_notes s e) agree) has_e))
      (stores_at c callers leaves total (end + 1) broke continued within es top st m x.turns stacked fits len ready.kept ready.aligned n k.entity line end x.value q.0 stack refl named
      (store ∙ ap (λ z. Some (storing_at z line)) k.told))))))
    where
      pushed_on : (v i : ℤ) (t : ℕ) → Meets c.code (at callers mid (i ∷ stack) m t) (pushed callers end (i ∷ stack) m) (Ok (left v t)) → {r : Ran} →
          Does c.code (at callers end (v ∷ i ∷ stack) m t) (settled c callers leaves total (end + 1) broke continued stack within es) r →
          Does c.code (at callers mid (i ∷ stack) m t) (settled c callers leaves total (end + 1) broke continued stack within es) r
      pushed_on v i t (gives x w l) d = does_from l d

  operates_assign : (a : Assign) (line : ℕ) (u v : Bool) (p q : ℕ) (old : ℤ) (n : Left ℤ) (below : List ℤ) → Stands c.code (operating a line u v) p q →
      Meets c.code (at callers p (n.value ∷ with_old (needs_old a) old below) m n.turns) (pushed callers q below m) (with_turns n.turns (assigned a line u v old n.value))
  operates_assign assign_of.Plain line u v p q old n below h = ends_at c.code callers p q below m h (gives n tt stays)
  operates_assign (assign_of.With op) line u v p q old n below h = operates c.code callers op line u v p q old n.value below m n.turns h

  stepped : (op : _) (line : ℕ) (u : Bool) (p q : ℕ) (x : ℤ) (below : List ℤ) (turns : ℕ) → HasStepped c.code op line u p q →
      Meets c.code (at callers p (x ∷ below) m turns) (pushed callers q below m) (with_turns turns (binary_answer op line u false x (pos 1)))
  stepped op line u p q x below turns h = meets_from c.code (push c.code callers (pos 1) p (x ∷ below) m turns h.0) (operates c.code callers op line u false (p + 1) q x (pos 1) below m turns h.1)

  pub change_does : (x : tree.ChangeTree) (broke continued from to : ℕ) (stack : List ℤ) (turns : ℕ) (within : List Entry → Type 0) → Agree c (change_notes s x) → HasChange c.code (tells c) x from to →
      Does c.code (at callers from stack m turns) (settled c callers leaves total to broke continued stack within es) (run_change c.file x st turns)
  change_does (tree.Set t a mark e) broke continued from to stack turns within agree (set h) =
      let front = agree_first c (place_notes s role.Changed t) (expr_notes s e) agree in
      let rest = agree_rest c (place_notes s role.Changed t) (expr_notes s e) agree in
      let u = target_type c.file st t in
      let v = type_in c.file st e in
      changed_does t (needs_old a) (λ old s2 t2. and_then (value c.file e s2 t2) (λ n. with_turns n.turns (assigned a mark.line (target_type c.file s2 t) (type_in c.file s2 e) old n.value)))
      (HasAssigned c.code (tells c) a mark.line (target_by (tells c) t) e) broke continued from to stack turns within front
      (λ x below t2 p q has. meets_then c.code (λ n. with_turns n.turns (assigned a mark.line u v x n.value)) refl
      (expr_runs c callers s es st m ready e p has.0 (with_old (needs_old a) x below) t2 rest has.1)
      (λ n y. operates_assign a mark.line u v has.0 q x n below
      (subst (λ b. Stands c.code (operating a mark.line b v) has.0 q) (target_told c s es st m.slots ready.scope ready.aligned t front)
      (subst (λ b. Stands c.code (operating a mark.line (target_by (tells c) t) b) has.0 q) (type_told c s es st m.slots ready.scope ready.aligned e rest) has.2)))) h
  change_does (tree.Set (tree.Element n open_mark i) assign_of.Plain mark e) broke continued from to stack turns within agree (set_unchecked mid end quiet has_i has_e store) =
      unchecked_does n open_mark mark i e broke continued from mid end stack turns within agree quiet has_i has_e store
  change_does (tree.After t d mark) broke continued from to stack turns within agree (after h) =
      changed_does t true (λ old s2 t2. with_turns t2 (binary_answer (step_operator d) mark.line (target_type c.file s2 t) false old (pos 1))) (HasStepped c.code (step_operator d) mark.line (target_by (tells c) t))
      broke continued from to stack turns within agree
      (λ x below t2 p q has. stepped (step_operator d) mark.line (target_type c.file st t) p q x below t2
      (subst (λ b. HasStepped c.code (step_operator d) mark.line b p q) (target_told c s es st m.slots ready.scope ready.aligned t agree) has)) h
  change_does (tree.Before t d mark) broke continued from to stack turns within agree (before h) =
      changed_does t true (λ old s2 t2. with_turns t2 (binary_answer (step_operator d) mark.line (target_type c.file s2 t) false old (pos 1))) (HasStepped c.code (step_operator d) mark.line (target_by (tells c) t))
      broke continued from to stack turns within agree
      (λ x below t2 p q has. stepped (step_operator d) mark.line (target_type c.file st t) p q x below t2
      (subst (λ b. HasStepped c.code (step_operator d) mark.line b p q) (target_told c s es st m.slots ready.scope ready.aligned t agree) has)) h
