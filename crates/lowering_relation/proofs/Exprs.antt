-- The code of an expression does what its value says.
use Rattle.std.proofs.Common.{◌≡◌, ℕ, suc, ◌+◌, ◌==◌, Bool, true, false, not, if◌then◌else◌, List, [], ◌∷◌, ◌++◌, length, Option, Some, None, Ok, ℤ, pos, refl, sym, ap, ◌∙◌, subst, inl, inr, eqb-true}
use Rattle.std.specs.Int.{w32, cast_signed}
use Rattle.c_int.specs.Machine.{unary_for, binary_for}
use Rattle.c_int.specs.Operators.{is_zero, truth}
use Rattle.c_int.specs.declared.operators.Binary as int_binary
use Rattle.c_int.specs.declared.operators.Unary.TheVariants as int_unary
use Rattle.cddf_meaning.specs.Answers.{Answer, and_then, Left, left, with_turns}
use Rattle.cddf_meaning.specs.File.{variable, or_in_file, type_in}
use Rattle.cddf_meaning.specs.Operators.{operator_of_one, operator_of_two, operated_by, binary_answer, unary_answer}
use Rattle.cddf_meaning.specs.BodyState.{BodyState}
use Rattle.cddf_meaning.specs.ExpressionTypes.{type_of_two}
use Rattle.cddf_meaning.specs.Value.{call_value, scalar_value, elements, element_at, as_truth, linked, value, place_value, values, chained}
use Rattle.cddf_meaning.specs.Variables.{find}
use Rattle.cddf_meaning.specs.declared.variable.Variable.{Variable}
use Rattle.cddf_meaning.specs.declared.variable.Variable.TheVariants.{Function}
use Rattle.cddf_meaning.specs.declared.variable.Variable.TheVariants as variable_of
use Rattle.os_ast.specs.Names.{Scope, typed}
use Rattle.os_ast.specs.Notes.Expressions.{count_args, args_notes, expr_notes, place_notes, links_notes}
use Rattle.os_ast.specs.Rules.{is_wrong_kind, has_other_count}
use Rattle.os_ast.specs.Trees as tree
use Rattle.os_ast.specs.declared.expr.Binary.{Binary}
use Rattle.os_ast.specs.declared.expr.Binary.TheVariants as binary
use Rattle.os_ast.specs.declared.expr.Name.{Name}
use Rattle.os_ast.specs.declared.expr.Unary as tree_unary
use Rattle.os_ast.specs.declared.names.Entity.{Entity}
use Rattle.os_ast.specs.declared.names.Entity.TheVariants as entity
use Rattle.os_ast.specs.declared.names.Entry.{Entry}
use Rattle.os_ast.specs.declared.names.Role.TheVariants as role
use Rattle.os_ast.specs.declared.names.Shape.TheVariants as shape
use Rattle.os_ast.specs.declared.names.Use.TheVariants as usage
use Rattle.os_ast.specs.declared.names.What.{What}
use Rattle.os_ast.specs.declared.names.What.TheVariants as what
use Rattle.os_ast.specs.declared.ty.Ty.{Ty}
use Rattle.os_code.specs.declared.instr.Instr.TheVariants as instr
use Rattle.os_code.specs.declared.parts.Parts.{Parts}
use Rattle.os_code.specs.Machine.{Frame}
use Rattle.os_code.specs.Parts.{instr_at}
use Rattle.lowering_relation.specs.Alignment.{Resources, Holds, Aligned}
use Rattle.lowering_relation.specs.Expressions.{Stands, operation_of, operation, type_by, HasUnary, operated, worked_out, HasLink, HasExpr, HasPlace, HasLinks, HasArgs}
use Rattle.lowering_relation.specs.Names.{reading, reading_at, calling}
use Rattle.lowering_relation.proofs.Context.{resources, Kept, Context, means, tells, Agree, agree_first, agree_rest, In, used, Named, name, IsCallable, in_typed}
use Rattle.lowering_relation.proofs.Names.{means_function, reads, reads_at}
use Rattle.lowering_relation.proofs.TypesTold.{type_told}
use Rattle.lowering_relation.proofs.Steps.{Store, at, pushed, onto, pushed_all, Leads, stays, leads_on, Meets, gives, halts, meets_then, push, drop_top, jump, jump_zero, unary_step, binary_step}

-- a state of the machine beside one of the meaning, in a scope of the body
pub record Ready (c : Context) (s : Scope) (es : List Entry) (st : BodyState) (m : Store) : Type 0 where
  pub scope : In c s es
  pub aligned : Aligned (resources c.side) (means c) m.slots st.bound (es ++ c.bound)
  pub kept : Kept c.side st m

pub ready_typed : (c : Context) (ty : Ty) (s : Scope) (es : List Entry) (st : BodyState) (m : Store) → Ready c s es st m → Ready c (typed ty s) es st m
ready_typed c ty s es st m ready = record { scope = in_typed c ty s es ready.scope; aligned = ready.aligned; kept = ready.kept }

not_not : (t : Bool) → truth (is_zero (truth t)) ≡ truth (not t)
not_not true = refl
not_not false = refl

-- a call is one of a function, with as many arguments as it has parameters
pub record IsCall (c : Context) (slots : List ℤ) (st : BodyState) (n : Name) (count : ℕ) (w : What) : Type 0 where
  pub place : ℕ
  pub number : ℕ
  pub is : variable c.file st n.id ≡ Some (Function place)
  pub named : w ≡ what.Function number
  pub runs : IsCallable c.code c.file place number count

pub same_count : (a b : ℕ) → not (a == b) ≡ false → a ≡ b
same_count a b h = eqb-true a b (by_case (a == b) h)
  where
    by_case : (t : Bool) → not t ≡ false → t ≡ true
    by_case true h = refl
    by_case false h = absurd (cc)

no_function : (has : Resources) (slots : List ℤ) (v : Variable) (number : ℕ) (w : What) → w ≡ what.Function number → Holds has slots v w → ⊥
no_function has slots (variable_of.Constant x) number w e h = h
no_function has slots (variable_of.Function f) number w e h = h
no_function has slots (variable_of.Scalar x) number w e h = let z : what.Function number ≡ what.Scalar h.0 = sym e ∙ h.1 in absurd (cc)
no_function has slots (variable_of.Array vs) number w e h = let z : what.Function number ≡ what.Array h.0 (length vs) = sym e ∙ h.1 in absurd (cc)
no_function has slots (variable_of.Window x) number w e h = let z : what.Function number ≡ what.Window h.0 = sym e ∙ h.1 in absurd (cc)
no_function has slots (variable_of.Stream x y) number w e h = let z : what.Function number ≡ what.Stream x y = sym e ∙ h.0 in absurd (cc)
no_function has slots (variable_of.Item k) number w e (_, inl f) = let z : what.Function number ≡ what.Element k = sym e ∙ f in absurd (cc)
no_function has slots (variable_of.Item k) number w e (_, inr f) = let z : what.Function number ≡ what.View k = sym e ∙ f in absurd (cc)

is_call : (c : Context) (es : List Entry) (slots : List ℤ) (st : BodyState) (n : Name) (count : ℕ) (d : Entity) → Named c es slots st n d → is_wrong_kind n.id (usage.Called count) d ≡ false →
    has_other_count n.id (usage.Called count) d ≡ false → IsCall c slots st n count (means c d)
is_call c es slots st n count (entity.Function number params) (inl (there, (v, is, h))) kind other =
    absurd (no_function (resources c.side) slots v number (means c (entity.Function number params)) (means_function c.owner c.captured number params) h)
is_call c es slots st n count (entity.Function number params) (inr (none, (place, is, runs))) kind other =
    let same : count ≡ params = same_count count params other in
    record {
      place = place;
      number = number;
      is = ap (or_in_file c.file n.id) none ∙ is;
      named = means_function c.owner c.captured number params;
      runs = subst (λ k. IsCallable c.code c.file place number k) (sym same) runs;
    }
is_call c es slots st n count (entity.Constant x) named kind other = absurd (cc)
is_call c es slots st n count (entity.Scalar slot) named kind other = absurd (cc)
is_call c es slots st n count (entity.Control slot) named kind other = absurd (cc)
is_call c es slots st n count entity.InputLength named kind other = absurd (cc)
is_call c es slots st n count (entity.Array first size) named kind other = absurd (cc)
is_call c es slots st n count (entity.Window slot) named kind other = absurd (cc)
is_call c es slots st n count (entity.Stream number) named kind other = absurd (cc)
is_call c es slots st n count (entity.Streams first size) named kind other = absurd (cc)
is_call c es slots st n count (entity.Element item x) named kind other = absurd (cc)
is_call c es slots st n count (entity.View item x) named kind other = absurd (cc)

module _ (code : Parts) (callers : List Frame) where
  pub ends_at : {s : _} {a : Answer (Left ℤ)} (p to : ℕ) (stack : List ℤ) (m : Store) → p ≡ to → Meets code s (pushed callers p stack m) a → Meets code s (pushed callers to stack m) a
  ends_at {s = s} {a = a} p to stack m e h = subst (λ q. Meets code s (pushed callers q stack m) a) e h

  -- a jump behind an expression
  pub jumps_on : {s : _} {a : Answer (Left ℤ)} (p to : ℕ) (stack : List ℤ) (m : Store) → instr_at code p ≡ Some (instr.Jump to) →
      Meets code s (pushed callers p stack m) a → Meets code s (pushed callers to stack m) a
  jumps_on p to stack m is (gives n u l) = gives n tt (leads_on code l (jump code callers p to (n.value ∷ stack) m n.turns is))
  jumps_on p to stack m is (halts h) = halts h

  twice_not : (line p : ℕ) (n : Left ℤ) (stack : List ℤ) (m : Store) → instr_at code p ≡ Some (instr.Unary int_unary.Not line) → instr_at code (p + 1) ≡ Some (instr.Unary int_unary.Not line) →
      Meets code (at callers p (n.value ∷ stack) m n.turns) (pushed callers (p + 1 + 1) stack m) (Ok (left (truth (is_zero (truth (is_zero n.value)))) n.turns))
  twice_not line p n stack m a b =
      meets_then code (λ x. Ok (left (truth (is_zero x.value)) x.turns)) refl (unary_step code callers int_unary.Not line p n.value stack m n.turns a)
      (λ x u. unary_step code callers int_unary.Not line (p + 1) x.value stack m x.turns b)

  makes_truth : (line p : ℕ) (n : Left ℤ) (stack : List ℤ) (m : Store) → instr_at code p ≡ Some (instr.Unary int_unary.Not line) → instr_at code (p + 1) ≡ Some (instr.Unary int_unary.Not line) →
      Meets code (at callers p (n.value ∷ stack) m n.turns) (pushed callers (p + 1 + 1) stack m) (as_truth n)
  makes_truth line p n stack m a b =
      subst (λ v. Meets code (at callers p (n.value ∷ stack) m n.turns) (pushed callers (p + 1 + 1) stack m) (Ok (left v n.turns))) (not_not (is_zero n.value))
      (twice_not line p n stack m a b)

  operates_by : (op : Option int_binary.Binary) (line : ℕ) (u v : Bool) (p to : ℕ) (a b : ℤ) (stack : List ℤ) (m : Store) (turns : ℕ) → Stands code (operation_of op line u v) p to →
      Meets code (at callers p (b ∷ a ∷ stack) m turns) (pushed callers to stack m) (with_turns turns (operated_by op line u v a b))
  operates_by None line u v p to a b stack m turns h =
      gives (left (pos 0) turns) tt
      (leads_on code (drop_top code callers b p (a ∷ stack) m turns h.0)
      (leads_on code (drop_top code callers a (p + 1) stack m turns h.1.0)
      (subst (λ q. Leads code (at callers (p + 1 + 1) stack m turns) (at callers q (pos 0 ∷ stack) m turns)) h.1.1.1 (push code callers (pos 0) (p + 1 + 1) stack m turns h.1.1.0))))
  operates_by (Some op) line u v p to a b stack m turns h =
      ends_at (p + 1) to stack m h.1 (binary_step code callers (binary_for u v op) line p a b stack m turns h.0)

  pub operates : (op : Binary) (line : ℕ) (u v : Bool) (p to : ℕ) (a b : ℤ) (stack : List ℤ) (m : Store) (turns : ℕ) → Stands code (operation op line u v) p to →
      Meets code (at callers p (b ∷ a ∷ stack) m turns) (pushed callers to stack m) (with_turns turns (binary_answer op line u v a b))
  operates op line u v p to a b stack m turns h = operates_by (operator_of_two op) line u v p to a b stack m turns h

  both : (op : Binary) (line : ℕ) (u v : Bool) (has : ℕ → ℕ → Type 0) (right : ℕ → Answer (Left ℤ)) (a : Left ℤ) (from to : ℕ) (stack : List ℤ) (m : Store) →
      ((st : List ℤ) (turns p q : ℕ) → has p q → Meets code (at callers p st m turns) (pushed callers q st m) (right turns)) →
      ((end : ℕ) × has from end × Stands code (operation op line u v) end to) →
      Meets code (at callers from (a.value ∷ stack) m a.turns) (pushed callers to stack m) (and_then (right a.turns) (λ b. with_turns b.turns (binary_answer op line u v a.value b.value)))
  both op line u v has right a from to stack m runs h =
      meets_then code (λ b. with_turns b.turns (binary_answer op line u v a.value b.value)) refl (runs (a.value ∷ stack) a.turns from h.0 h.1)
      (λ b y. operates op line u v h.0 to a.value b.value stack m b.turns h.2)

  link_runs : (op : Binary) (line : ℕ) (u v : Bool) (has : ℕ → ℕ → Type 0) (right : ℕ → Answer (Left ℤ)) (a : Left ℤ) (from to : ℕ) (stack : List ℤ) (m : Store) →
      ((st : List ℤ) (turns p q : ℕ) → has p q → Meets code (at callers p st m turns) (pushed callers q st m) (right turns)) →
      HasLink code op line u v has from to →
      Meets code (at callers from (a.value ∷ stack) m a.turns) (pushed callers to stack m) (linked op line u v a right)
  link_runs binary.And line u v has right a from to stack m runs h =
      let end = h.0 in
      jump_zero code callers from (end + 1 + 1 + 1) a.value stack m a.turns (pushed callers to stack m) (Ok (left (pos 0) a.turns)) (and_then (right a.turns) as_truth) h.1
      (ends_at (end + 1 + 1 + 1 + 1) to stack m h.3.1.1.1.1 (gives (left (pos 0) a.turns) tt (push code callers (pos 0) (end + 1 + 1 + 1) stack m a.turns h.3.1.1.1.0)))
      (meets_then code as_truth refl (runs stack a.turns (from + 1) end h.2)
      (λ b y. jumps_on (end + 1 + 1) to stack m h.3.1.1.0 (makes_truth line end b stack m h.3.0 h.3.1.0)))
  link_runs binary.Or line u v has right a from to stack m runs h =
      let end = h.0 in
      jump_zero code callers from (from + 1 + 1 + 1) a.value stack m a.turns (pushed callers to stack m) (and_then (right a.turns) as_truth) (Ok (left (pos 1) a.turns)) h.1
      (meets_then code as_truth refl (runs stack a.turns (from + 1 + 1 + 1) end h.3)
      (λ b y. ends_at (end + 1 + 1) to stack m h.4.1.1 (makes_truth line end b stack m h.4.0 h.4.1.0)))
      (jumps_on (from + 1 + 1) to stack m h.2.1.0 (gives (left (pos 1) a.turns) tt (push code callers (pos 1) (from + 1) stack m a.turns h.2.0)))
  link_runs op line u v has right a from to stack m runs h = both op line u v has right a from to stack m runs h

  unary_runs : (op : tree_unary.Unary) (line : ℕ) (unsigned : Bool) (e : tree.ExprTree) (has : ℕ → ℕ → Type 0) (v : Answer (Left ℤ)) (from to : ℕ) (stack : List ℤ) (m : Store) (turns : ℕ) →
      ((n : ℕ) → e ≡ tree.Number n → (v ≡ Ok (left (pos n) turns)) × (unsigned ≡ false)) →
      ((q : ℕ) → has from q → Meets code (at callers from stack m turns) (pushed callers q stack m) v) → HasUnary code op line unsigned e has from to →
      Meets code (at callers from stack m turns) (pushed callers to stack m) (and_then v (λ n. with_turns n.turns (unary_answer op line unsigned n.value)))
  unary_runs op line unsigned e has v from to stack m turns number runs (operated end h is) =
      meets_then code (λ n. with_turns n.turns (unary_answer op line unsigned n.value)) refl (runs end h)
      (λ n u. unary_step code callers (unary_for unsigned (operator_of_one op)) line end n.value stack m n.turns is)
  unary_runs op line unsigned e has v from to stack m turns number runs (worked_out {n = n} {v = w} is given at_push) =
      subst (λ a. Meets code (at callers from stack m turns) (pushed callers (from + 1) stack m) (and_then a (λ n. with_turns n.turns (unary_answer op line unsigned n.value)))) (sym (number n is).0)
      (subst (λ a. Meets code (at callers from stack m turns) (pushed callers (from + 1) stack m) (with_turns turns a)) (sym (ap (λ t. unary_answer op line t (pos n)) (number n is).1 ∙ given))
      (gives (left w turns) tt (push code callers w from stack m turns at_push)))

module _ (c : Context) (callers : List Frame) (s : Scope) (es : List Entry) (st : BodyState) (m : Store) (ready : Ready c s es st m) where
  number_value : (e : tree.ExprTree) (turns n : ℕ) → e ≡ tree.Number n → (value c.file e st turns ≡ Ok (left (pos n) turns)) × (type_in c.file st e ≡ false)
  number_value e turns n is = (ap (λ x. value c.file x st turns) is, ap (type_in c.file st) is)

  -- the types of operands, as the list of names tells them
  type_of_operand : (e : tree.ExprTree) → Agree c (expr_notes s e) → type_by (tells c) e ≡ type_in c.file st e
  type_of_operand e agree = type_told c s es st m.slots ready.scope ready.aligned e agree

  mutual
    pub expr_runs : (e : tree.ExprTree) (from to : ℕ) (stack : List ℤ) (turns : ℕ) → Agree c (expr_notes s e) → HasExpr c.code (tells c) e from to →
        Meets c.code (at callers from stack m turns) (pushed callers to stack m) (value c.file e st turns)
    expr_runs (tree.Number n) from to stack turns agree h =
        ends_at c.code callers (from + 1) to stack m h.1 (gives (left (pos n) turns) tt (push c.code callers (pos n) from stack m turns h.0))
    expr_runs (tree.Wide n) from to stack turns agree h =
        ends_at c.code callers (from + 1) to stack m h.1 (gives (left (cast_signed w32 n) turns) tt (push c.code callers (cast_signed w32 n) from stack m turns h.0))
    expr_runs (tree.Place t) from to stack turns agree h = place_runs t from to stack turns agree h
    expr_runs (tree.ExprTree.Call f args) from to stack turns agree h =
        let u = usage.Called (count_args args) in
        let k = used c s es f u (args_notes s args) ready.scope agree in
        let call = is_call c es m.slots st f (count_args args) k.entity (name c s es st m.slots f u tt ready.scope k ready.aligned) k.kind k.count in
        let calls : instr_at c.code (h.0 + 1) ≡ Some (instr.Call call.number) = h.2.1.0 ∙ ap (λ w. Some (calling w)) (k.told ∙ call.named) in
        meets_then c.code (call_value c.file.calls (variable c.file st f.id)) refl (args_run args from h.0 stack turns agree.1 h.1)
        (λ ns len. subst (λ v. Meets c.code (at callers h.0 (onto ns.value stack) m ns.turns) (pushed callers to stack m) (call_value c.file.calls v ns)) (sym call.is)
        (ends_at c.code callers (h.0 + 1 + 1) to stack m h.2.1.1 (call.runs callers ns.value h.0 stack m ns.turns len h.2.0 calls)))
    expr_runs (tree.Paren e) from to stack turns agree h = expr_runs e from to stack turns agree h
    expr_runs (tree.Unary op mark e) from to stack turns agree h =
        unary_runs c.code callers op mark.line (type_in c.file st e) e (HasExpr c.code (tells c) e) (value c.file e st turns) from to stack m turns (number_value e turns)
        (λ q has. expr_runs e from q stack turns agree has) (subst (λ t. HasUnary c.code op mark.line t e (HasExpr c.code (tells c) e) from to) (type_of_operand e agree) h)
    expr_runs (tree.Chain l first links) from to stack turns agree h =
        let front = agree_first c (expr_notes s first) (links_notes s links) agree in
        meets_then c.code (chained c.file links st (type_in c.file st first)) refl
        (expr_runs first from h.0 stack turns front h.1)
        (λ n u. links_run links (type_in c.file st first) h.0 to stack n (agree_rest c (expr_notes s first) (links_notes s links) agree)
        (subst (λ t. HasLinks c.code (tells c) links t h.0 to) (type_of_operand first front) h.2))
    expr_runs (tree.Choice x a b) from to stack turns agree h =
        let front = agree_first c (expr_notes s x ++ expr_notes s a) (expr_notes s b) agree in
        meets_then c.code (λ n. if is_zero n.value then value c.file b st n.turns else value c.file a st n.turns) refl
        (expr_runs x from h.0 stack turns (agree_first c (expr_notes s x) (expr_notes s a) front) h.2)
        (λ n u. jump_zero c.code callers h.0 (h.1 + 1) n.value stack m n.turns (pushed callers to stack m) (value c.file b st n.turns) (value c.file a st n.turns) h.3
        (expr_runs b (h.1 + 1) to stack n.turns (agree_rest c (expr_notes s x ++ expr_notes s a) (expr_notes s b) agree) h.6)
        (jumps_on c.code callers h.1 to stack m h.5 (expr_runs a (h.0 + 1) h.1 stack n.turns (agree_rest c (expr_notes s x) (expr_notes s a) front) h.4)))

    pub place_runs : (t : tree.TargetTree) (from to : ℕ) (stack : List ℤ) (turns : ℕ) → Agree c (place_notes s role.Value t) → HasPlace c.code (tells c) t from to →
        Meets c.code (at callers from stack m turns) (pushed callers to stack m) (place_value c.file t st turns)
    place_runs (tree.Variable n) from to stack turns agree h =
        let k = used c s es n (usage.Place role.Value shape.Bare) [] ready.scope agree in
        gives (left (scalar_value st (variable c.file st n.id)) turns) tt
        (reads c callers es st m n k.entity n.mark.line from to stack turns (name c s es st m.slots n (usage.Place role.Value shape.Bare) tt ready.scope k ready.aligned) ready.kept
        (subst (λ w. Stands c.code (reading w n.mark.line) from to) k.told h))
    place_runs (tree.Element n open_mark e) from to stack turns agree h =
        let k = used c s es n (usage.Place role.Value shape.Indexed) (expr_notes s e) ready.scope agree in
        meets_then c.code (λ i. with_turns i.turns (element_at (elements st (find st.bound n.id)) open_mark.line i.value)) refl (expr_runs e from h.0 stack turns agree.1 h.1)
        (λ i u. ends_at c.code callers (h.0 + 1) to stack m h.2.1
        (reads_at c callers es st m n k.entity open_mark.line h.0 i.value stack i.turns (name c s es st m.slots n (usage.Place role.Value shape.Indexed) tt ready.scope k ready.aligned) ready.kept
        (h.2.0 ∙ ap (λ w. Some (reading_at w open_mark.line)) k.told)))

    links_run : (ls : tree.Links) (u : Bool) (from to : ℕ) (stack : List ℤ) (n : Left ℤ) → Agree c (links_notes s ls) → HasLinks c.code (tells c) ls u from to →
        Meets c.code (at callers from (n.value ∷ stack) m n.turns) (pushed callers to stack m) (chained c.file ls st u n)
    links_run tree.no_links u from to stack n agree h = ends_at c.code callers from to stack m h (gives n tt stays)
    links_run (tree.link op mark e rest) u from to stack n agree h =
        let front = agree_first c (expr_notes s e) (links_notes s rest) agree in
        let v = type_in c.file st e in
        let same = type_of_operand e front in
        meets_then c.code (chained c.file rest st (type_of_two op u v)) refl
        (link_runs c.code callers op mark.line u v (HasExpr c.code (tells c) e) (value c.file e st) n from h.0 stack m
        (λ below turns p q has. expr_runs e p q below turns front has) (subst (λ t. HasLink c.code op mark.line u t (HasExpr c.code (tells c) e) from h.0) same h.1))
        (λ k y. links_run rest (type_of_two op u v) h.0 to stack k (agree_rest c (expr_notes s e) (links_notes s rest) agree)
        (subst (λ t. HasLinks c.code (tells c) rest (type_of_two op u t) h.0 to) same h.2))

    args_run : (arguments : tree.Args) (from to : ℕ) (stack : List ℤ) (turns : ℕ) → Agree c (args_notes s arguments) → HasArgs c.code (tells c) arguments from to →
        Meets c.code (at callers from stack m turns) (pushed_all callers (count_args arguments) to stack m) (values c.file arguments st turns)
    args_run tree.no_args from to stack turns agree h =
        subst (λ q. Meets c.code (at callers from stack m turns) (pushed_all callers 0 q stack m) (Ok (left [] turns))) h (gives (left [] turns) refl stays)
    args_run (tree.arg e rest) from to stack turns agree h =
        meets_then c.code (λ n. and_then (values c.file rest st n.turns) (λ ns. Ok (left (n.value ∷ ns.value) ns.turns))) refl
        (expr_runs e from h.0 stack turns (agree_first c (expr_notes s e) (args_notes s rest) agree) h.1)
        (λ n u. meets_then c.code (λ ns. Ok (left (n.value ∷ ns.value) ns.turns)) refl
        (args_run rest h.0 to (n.value ∷ stack) n.turns (agree_rest c (expr_notes s e) (args_notes s rest) agree) h.2)
        (λ ns len. gives (left (n.value ∷ ns.value) ns.turns) (ap suc len) stays))
