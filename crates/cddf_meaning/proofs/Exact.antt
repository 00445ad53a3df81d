-- An expression spends its turns exactly.
use Rattle.std.proofs.Common.{◌≡◌, ℕ, ◌+◌, ◌-◌, ◌≤◌, ◌<◌, ◌⊎◌, inl, inr, Bool, true, false, not, if◌then◌else◌, List, ◌∷◌, [], Option, Some, None, Ok, Err, ℤ, pos, arith, refl, ap, ◌∙◌}
use Rattle.std.specs.Int.{w32, cast_signed}
use Rattle.std.proofs.lemmas.Bool.{cases_lt}
use Rattle.c_int.specs.Operators.{is_zero, truth}
use Rattle.cddf_meaning.specs.Answers.{Answer, Left, and_then, left, with_turns, over}
use Rattle.cddf_meaning.specs.Exact.{Spends, Stays, IsExact}
use Rattle.cddf_meaning.specs.File.{File, variable, type_in}
use Rattle.cddf_meaning.specs.Operators.{binary_answer, unary_answer}
use Rattle.cddf_meaning.specs.BodyState.{BodyState}
use Rattle.cddf_meaning.specs.Value.{value, place_value, values, chained, linked, call_value, as_truth, element_at, elements, scalar_value}
use Rattle.cddf_meaning.specs.ExpressionTypes.{type_of_two}
use Rattle.cddf_meaning.specs.Variables.{find}
use Rattle.cddf_meaning.specs.declared.ending.Ending.{Ending}
use Rattle.cddf_meaning.specs.declared.ending.Ending.TheVariants.{Trapped, OverBudget, Limited}
use Rattle.cddf_meaning.specs.declared.variable.Variable.{Variable}
use Rattle.cddf_meaning.specs.declared.variable.Variable.TheVariants.{Constant, Function, Scalar, Array, Window, Stream, Item}
use Rattle.os_ast.specs.Trees as tree
use Rattle.os_ast.specs.declared.expr.Binary.{Binary}
use Rattle.os_ast.specs.declared.expr.Binary.TheVariants as binary

-- what is called spends its turns exactly too
abbrev pub CallsExact : File → Type 0
CallsExact file = (n : ℕ) (args : List ℤ) (turns : ℕ) → IsExact ℤ (file.calls n args) turns (file.calls n args turns)

-- an end that comes whatever the turns
pub stays-always : {R : Type 0} (f : ℕ → R) (turns : ℕ) (ending : Ending) (came : R) → ((k : ℕ) → f k ≡ came) → Stays f turns ending came
stays-always f turns OverBudget came is = tt
stays-always f turns (Trapped why line) came is = λ more. is (turns + more)
stays-always f turns (Limited limit) came is = λ more. is (turns + more)

-- what is made of an end
pub stays-made : {Q R : Type 0} (make : Q → R) (f : ℕ → Q) (turns : ℕ) (ending : Ending) (came : Q) (last : R) → make came ≡ last →
    Stays f turns ending came → Stays (λ t. make (f t)) turns ending last
stays-made make f turns OverBudget came last is s = tt
stays-made make f turns (Trapped why line) came last is s = λ more. ap make (s more) ∙ is
stays-made make f turns (Limited limit) came last is s = λ more. ap make (s more) ∙ is

-- an end behind what spends some turns
pub stays-behind : {R : Type 0} (f next : ℕ → R) (turns spent rest : ℕ) (ending : Ending) (came : R) → turns ≡ spent + rest →
    ((k : ℕ) → f (spent + k) ≡ next k) → Stays next rest ending came → Stays f turns ending came
stays-behind f next turns spent rest OverBudget came all goes s = tt
stays-behind f next turns spent rest (Trapped why line) came all goes s =
    λ more. let sums : turns + more ≡ spent + (rest + more) = omega (arith, all) in ap f sums ∙ (goes (rest + more) ∙ s more)
stays-behind f next turns spent rest (Limited limit) came all goes s =
    λ more. let sums : turns + more ≡ spent + (rest + more) = omega (arith, all) in ap f sums ∙ (goes (rest + more) ∙ s more)

-- nothing is spent where something is given at once
pub exact-here : {A : Type 0} (v : A) (turns : ℕ) → IsExact A (λ t. Ok (left v t)) turns (Ok (left v turns))
exact-here v turns = record {
  spent = 0;
  all = omega arith;
  enough = λ more. let is : 0 + more ≡ more = omega arith in ap (λ k. Ok (left v k)) is;
  fewer = λ less h. absurd (omega (arith, h));
}

pub exact-with : {A : Type 0} (a : Answer A) (turns : ℕ) → IsExact A (λ t. with_turns t a) turns (with_turns turns a)
exact-with (Err ending) turns = stays-always _ turns ending (Err ending) (λ k. refl)
exact-with (Ok v) turns = exact-here v turns

pub exact-if : {A : Type 0} (t : Bool) (f g : ℕ → Answer (Left A)) (turns : ℕ) → IsExact A f turns (f turns) → IsExact A g turns (g turns) →
    IsExact A (λ k. if t then f k else g k) turns (if t then f turns else g turns)
exact-if true f g turns a b = a
exact-if false f g turns a b = b

then-enough : {A B : Type 0} (f : ℕ → Answer (Left A)) (next : Left A → Answer (Left B)) (a b more : ℕ) (v : A) (w : B) →
    f (a + (b + more)) ≡ Ok (left v (b + more)) → next (left v (b + more)) ≡ Ok (left w more) →
    and_then (f (a + b + more)) next ≡ Ok (left w more)
then-enough f next a b more v w first second =
    let sums : a + b + more ≡ a + (b + more) = omega arith in
    ap (λ k. and_then (f k) next) sums ∙ (ap (λ x. and_then x next) first ∙ second)

then-fewer : {A B : Type 0} (f : ℕ → Answer (Left A)) (next : Left A → Answer (Left B)) (a b less : ℕ) (v : A) →
    ((k : ℕ) → f (a + k) ≡ Ok (left v k)) → ((k : ℕ) → k < a → f k ≡ over) → ((k : ℕ) → k < b → next (left v k) ≡ over) →
    less < a + b → (less < a) ⊎ (a ≤ less) → and_then (f less) next ≡ over
then-fewer f next a b less v enough fewer behind h (inl lt) = ap (λ x. and_then x next) (fewer less lt)
then-fewer f next a b less v enough fewer behind h (inr ge) =
    let sums : less ≡ a + (less - a) = omega (arith, ge) in
    ap (λ k. and_then (f k) next) sums ∙ (ap (λ x. and_then x next) (enough (less - a)) ∙ behind (less - a) (omega (arith, h, ge)))

then-behind : {A B : Type 0} (f : ℕ → Answer (Left A)) (next : Left A → Answer (Left B)) (turns : ℕ) (n : Left A) →
    Spends A f turns n → (b : Answer (Left B)) → IsExact B (λ t. next (left n.value t)) n.turns b →
    IsExact B (λ t. and_then (f t) next) turns b
then-behind f next turns n s (Err ending) e =
    stays-behind (λ t. and_then (f t) next) (λ t. next (left n.value t)) turns s.spent n.turns ending (Err ending) s.all
    (λ k. ap (λ x. and_then x next) (s.enough k)) e
then-behind f next turns n s (Ok w) e = record {
  spent = s.spent + e.spent;
  all = omega (arith, s.all, e.all);
  enough = λ more. then-enough f next s.spent e.spent more n.value w.value (s.enough (e.spent + more)) (e.enough more);
  fewer = λ less h. then-fewer f next s.spent e.spent less n.value s.enough s.fewer e.fewer h (cases_lt less s.spent);
}

-- one evaluation after another
pub exact-then : {A B : Type 0} (f : ℕ → Answer (Left A)) (next : Left A → Answer (Left B)) (turns : ℕ) (a : Answer (Left A)) →
    IsExact A f turns a → ((n : Left A) → IsExact B (λ t. next (left n.value t)) n.turns (next n)) →
    IsExact B (λ t. and_then (f t) next) turns (and_then a next)
exact-then f next turns (Err ending) e rest = stays-made (λ x. and_then x next) f turns ending (Err ending) (Err ending) refl e
exact-then f next turns (Ok n) e rest = then-behind f next turns n e (next n) (rest n)

pub call-exact : (file : File) → CallsExact file → (v : Option Variable) (args : List ℤ) (turns : ℕ) →
    IsExact ℤ (λ t. call_value file.calls v (left args t)) turns (call_value file.calls v (left args turns))
call-exact file calls None args turns = exact-here (pos 0) turns
call-exact file calls (Some (Function f)) args turns = calls f args turns
call-exact file calls (Some (Constant v)) args turns = exact-here (pos 0) turns
call-exact file calls (Some (Scalar v)) args turns = exact-here (pos 0) turns
call-exact file calls (Some (Array vs)) args turns = exact-here (pos 0) turns
call-exact file calls (Some (Window h)) args turns = exact-here (pos 0) turns
call-exact file calls (Some (Stream first count)) args turns = exact-here (pos 0) turns
call-exact file calls (Some (Item item)) args turns = exact-here (pos 0) turns

truth-exact : (n : Left ℤ) → IsExact ℤ (λ t. as_truth (left n.value t)) n.turns (as_truth n)
truth-exact n = exact-here (truth (not (is_zero n.value))) n.turns

linked-exact : (op : Binary) (line : ℕ) (t u : Bool) (v : ℤ) (right : ℕ → Answer (Left ℤ)) → ((turns : ℕ) → IsExact ℤ right turns (right turns)) → (turns : ℕ) →
    IsExact ℤ (λ k. linked op line t u (left v k) right) turns (linked op line t u (left v turns) right)
linked-exact binary.And line t u v right e turns =
    exact-if (is_zero v) (λ t. Ok (left (pos 0) t)) (λ t. and_then (right t) as_truth) turns (exact-here (pos 0) turns)
    (exact-then right as_truth turns (right turns) (e turns) truth-exact)
linked-exact binary.Or line t u v right e turns =
    exact-if (is_zero v) (λ t. and_then (right t) as_truth) (λ t. Ok (left (pos 1) t)) turns
    (exact-then right as_truth turns (right turns) (e turns) truth-exact) (exact-here (pos 1) turns)
linked-exact op line t u v right e turns =
    exact-then right (λ b. with_turns b.turns (binary_answer op line t u v b.value)) turns (right turns) (e turns)
    (λ n. exact-with (binary_answer op line t u v n.value) n.turns)

mutual
  pub value-exact : (file : File) → CallsExact file → (e : tree.ExprTree) (s : BodyState) (turns : ℕ) →
      IsExact ℤ (value file e s) turns (value file e s turns)
  value-exact file calls (tree.Number n) s turns = exact-here (pos n) turns
  value-exact file calls (tree.Wide n) s turns = exact-here (cast_signed w32 n) turns
  value-exact file calls (tree.Place t) s turns = place-exact file calls t s turns
  value-exact file calls (tree.ExprTree.Call f args) s turns =
      exact-then (values file args s) (call_value file.calls (variable file s f.id)) turns (values file args s turns)
      (values-exact file calls args s turns) (λ n. call-exact file calls (variable file s f.id) n.value n.turns)
  value-exact file calls (tree.Paren e) s turns = value-exact file calls e s turns
  value-exact file calls (tree.Unary op m e) s turns =
      exact-then (value file e s) (λ n. with_turns n.turns (unary_answer op m.line (type_in file s e) n.value)) turns (value file e s turns)
      (value-exact file calls e s turns) (λ n. exact-with (unary_answer op m.line (type_in file s e) n.value) n.turns)
  value-exact file calls (tree.Chain l first links) s turns =
      exact-then (value file first s) (chained file links s (type_in file s first)) turns (value file first s turns) (value-exact file calls first s turns)
      (λ n. chained-exact file calls links s (type_in file s first) n.value n.turns)
  value-exact file calls (tree.Choice c a b) s turns =
      exact-then (value file c s) (λ n. if is_zero n.value then value file b s n.turns else value file a s n.turns) turns (value file c s turns)
      (value-exact file calls c s turns)
      (λ n. exact-if (is_zero n.value) (value file b s) (value file a s) n.turns
      (value-exact file calls b s n.turns) (value-exact file calls a s n.turns))

  pub place-exact : (file : File) → CallsExact file → (t : tree.TargetTree) (s : BodyState) (turns : ℕ) →
      IsExact ℤ (place_value file t s) turns (place_value file t s turns)
  place-exact file calls (tree.Variable n) s turns = exact-here (scalar_value s (variable file s n.id)) turns
  place-exact file calls (tree.Element n m e) s turns =
      exact-then (value file e s) (λ i. with_turns i.turns (element_at (elements s (find s.bound n.id)) m.line i.value)) turns (value file e s turns)
      (value-exact file calls e s turns) (λ i. exact-with (element_at (elements s (find s.bound n.id)) m.line i.value) i.turns)

  pub values-exact : (file : File) → CallsExact file → (es : tree.Args) (s : BodyState) (turns : ℕ) →
      IsExact (List ℤ) (values file es s) turns (values file es s turns)
  values-exact file calls tree.no_args s turns = exact-here [] turns
  values-exact file calls (tree.arg e es) s turns =
      exact-then (value file e s) (λ n. and_then (values file es s n.turns) (λ ns. Ok (left (n.value ∷ ns.value) ns.turns))) turns (value file e s turns)
      (value-exact file calls e s turns)
      (λ n. exact-then (values file es s) (λ ns. Ok (left (n.value ∷ ns.value) ns.turns)) n.turns (values file es s n.turns)
      (values-exact file calls es s n.turns) (λ ns. exact-here (n.value ∷ ns.value) ns.turns))

  pub chained-exact : (file : File) → CallsExact file → (ls : tree.Links) (s : BodyState) (u : Bool) (v : ℤ) (turns : ℕ) →
      IsExact ℤ (λ t. chained file ls s u (left v t)) turns (chained file ls s u (left v turns))
  chained-exact file calls tree.no_links s u v turns = exact-here v turns
  chained-exact file calls (tree.link op m e rest) s u v turns =
      exact-then (λ t. linked op m.line u (type_in file s e) (left v t) (value file e s)) (chained file rest s (type_of_two op u (type_in file s e))) turns
      (linked op m.line u (type_in file s e) (left v turns) (value file e s))
      (linked-exact op m.line u (type_in file s e) v (value file e s) (value-exact file calls e s) turns)
      (λ n. chained-exact file calls rest s (type_of_two op u (type_in file s e)) n.value n.turns)
