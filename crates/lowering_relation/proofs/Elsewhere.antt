-- A value depends on no more than what is found for the names of its expression.
use Rattle.std.proofs.Common.{◌≡◌, ℕ, ◌==◌, ◌||◌, Bool, true, false, if◌then◌else◌, List, [], ◌∷◌, ◌++◌, Option, Some, None, ℤ, pos, Ok, Err, refl, sym, ap, ◌∙◌, subst, eq-eqb, eqb-true}
use Rattle.std.proofs.lemmas.Bool.{or_right}
use Rattle.c_int.specs.Operators.{is_zero}
use Rattle.cddf_meaning.specs.Answers.{Answer, and_then, Left, left, with_turns}
use Rattle.cddf_meaning.specs.File.{File, variable, or_in_file, flags, type_in}
use Rattle.cddf_meaning.specs.Operators.{binary_answer, unary_answer}
use Rattle.cddf_meaning.specs.BodyState.{BodyState, declared}
use Rattle.cddf_meaning.specs.ExpressionTypes.{type_of_one, type_of_two, type_behind}
use Rattle.cddf_meaning.specs.Value.{call_value, scalar_value, elements, element_at, as_truth, linked, value, place_value, values, chained}
use Rattle.cddf_meaning.specs.Variables.{bind, find, flag_or}
use Rattle.cddf_meaning.specs.declared.variable.Binding.{Binding}
use Rattle.cddf_meaning.specs.declared.variable.Variable.{Variable}
use Rattle.cddf_meaning.specs.declared.variable.Variable.TheVariants as variable_of
use Rattle.os_ast.specs.FreeNames.{expr_names, target_names, args_names, links_names}
use Rattle.os_ast.specs.ClauseMembers.{is_in, target_name}
use Rattle.os_ast.specs.Trees as tree
use Rattle.os_ast.specs.declared.expr.Binary.{Binary}
use Rattle.os_ast.specs.declared.expr.Binary.TheVariants as binary

-- what is found for a name is the same, and its type
abbrev pub NameSame : List Binding → List Binding → ℕ → Type 0
NameSame one other id = (find one id ≡ find other id) × ((elsewhere : Bool) → flag_or elsewhere one id ≡ flag_or elsewhere other id)

-- the same for each of these names
abbrev pub FindSame : List Binding → List Binding → List ℕ → Type 0
FindSame one other ids = (id : ℕ) → is_in id ids ≡ true → NameSame one other id

is_in_first : (id : ℕ) (xs ys : List ℕ) → is_in id xs ≡ true → is_in id (xs ++ ys) ≡ true
is_in_first id [] ys h = absurd (cc)
is_in_first id (x ∷ xs) ys h = by_case (x == id) h (λ k. is_in_first id xs ys k)
  where
    by_case : (t : Bool) → (t || is_in id xs) ≡ true → (is_in id xs ≡ true → is_in id (xs ++ ys) ≡ true) → (t || is_in id (xs ++ ys)) ≡ true
    by_case true k next = refl
    by_case false k next = next k

is_in_rest : (id : ℕ) (xs ys : List ℕ) → is_in id ys ≡ true → is_in id (xs ++ ys) ≡ true
is_in_rest id [] ys h = h
is_in_rest id (x ∷ xs) ys h = or_right (x == id) (is_in id (xs ++ ys)) (is_in_rest id xs ys h)

pub same_first : (one other : List Binding) (xs ys : List ℕ) → FindSame one other (xs ++ ys) → FindSame one other xs
same_first one other xs ys h id is = h id (is_in_first id xs ys is)

pub same_rest : (one other : List Binding) (xs ys : List ℕ) → FindSame one other (xs ++ ys) → FindSame one other ys
same_rest one other xs ys h id is = h id (is_in_rest id xs ys is)

pub same_own : (one other : List Binding) (id : ℕ) (ids : List ℕ) → FindSame one other (id ∷ ids) → NameSame one other id
same_own one other id ids h = h id (ap (λ t. t || is_in id ids) (eq-eqb id id refl))

pub same_others : (one other : List Binding) (id : ℕ) (ids : List ℕ) → FindSame one other (id ∷ ids) → FindSame one other ids
same_others one other id ids h x is = h x (or_right (id == x) (is_in x ids) is)

linked_same : (op : Binary) (line : ℕ) (u v : Bool) (a : Left ℤ) (f g : ℕ → Answer (Left ℤ)) → f a.turns ≡ g a.turns → linked op line u v a f ≡ linked op line u v a g
linked_same binary.And line u v a f g e = ap (λ x. if is_zero a.value then Ok (left (pos 0) a.turns) else and_then x as_truth) e
linked_same binary.Or line u v a f g e = ap (λ x. if is_zero a.value then and_then x as_truth else Ok (left (pos 1) a.turns)) e
linked_same binary.BitOr line u v a f g e = ap (λ x. and_then x (λ b. with_turns b.turns (binary_answer binary.BitOr line u v a.value b.value))) e
linked_same binary.BitXor line u v a f g e = ap (λ x. and_then x (λ b. with_turns b.turns (binary_answer binary.BitXor line u v a.value b.value))) e
linked_same binary.BitAnd line u v a f g e = ap (λ x. and_then x (λ b. with_turns b.turns (binary_answer binary.BitAnd line u v a.value b.value))) e
linked_same binary.Equal line u v a f g e = ap (λ x. and_then x (λ b. with_turns b.turns (binary_answer binary.Equal line u v a.value b.value))) e
linked_same binary.Unequal line u v a f g e = ap (λ x. and_then x (λ b. with_turns b.turns (binary_answer binary.Unequal line u v a.value b.value))) e
linked_same binary.Less line u v a f g e = ap (λ x. and_then x (λ b. with_turns b.turns (binary_answer binary.Less line u v a.value b.value))) e
linked_same binary.LessEqual line u v a f g e = ap (λ x. and_then x (λ b. with_turns b.turns (binary_answer binary.LessEqual line u v a.value b.value))) e
linked_same binary.Greater line u v a f g e = ap (λ x. and_then x (λ b. with_turns b.turns (binary_answer binary.Greater line u v a.value b.value))) e
linked_same binary.GreaterEqual line u v a f g e = ap (λ x. and_then x (λ b. with_turns b.turns (binary_answer binary.GreaterEqual line u v a.value b.value))) e
linked_same binary.ShiftLeft line u v a f g e = ap (λ x. and_then x (λ b. with_turns b.turns (binary_answer binary.ShiftLeft line u v a.value b.value))) e
linked_same binary.ShiftRight line u v a f g e = ap (λ x. and_then x (λ b. with_turns b.turns (binary_answer binary.ShiftRight line u v a.value b.value))) e
linked_same binary.Add line u v a f g e = ap (λ x. and_then x (λ b. with_turns b.turns (binary_answer binary.Add line u v a.value b.value))) e
linked_same binary.Subtract line u v a f g e = ap (λ x. and_then x (λ b. with_turns b.turns (binary_answer binary.Subtract line u v a.value b.value))) e
linked_same binary.Multiply line u v a f g e = ap (λ x. and_then x (λ b. with_turns b.turns (binary_answer binary.Multiply line u v a.value b.value))) e
linked_same binary.Divide line u v a f g e = ap (λ x. and_then x (λ b. with_turns b.turns (binary_answer binary.Divide line u v a.value b.value))) e
linked_same binary.Remainder line u v a f g e = ap (λ x. and_then x (λ b. with_turns b.turns (binary_answer binary.Remainder line u v a.value b.value))) e

pub same_then : {A B : Type 0} (a b : Answer A) (f g : A → Answer B) → a ≡ b → ((x : A) → f x ≡ g x) → and_then a f ≡ and_then b g
same_then a b f g e h = ap (λ x. and_then x f) e ∙ by_answer b h
  where
    by_answer : (x : Answer _) → ((y : _) → f y ≡ g y) → and_then x f ≡ and_then x g
    by_answer (Ok y) h = h y
    by_answer (Err e) h = refl

module _ (file : File) (s : BodyState) (one other : List Binding) where
  abbrev here : BodyState
  here = record s { bound = one }

  abbrev there : BodyState
  there = record s { bound = other }

  -- the state counts for items alone
  pub scalar_same : (o : Option Variable) → scalar_value here o ≡ scalar_value there o
  scalar_same None = refl
  scalar_same (Some (variable_of.Constant x)) = refl
  scalar_same (Some (variable_of.Function x)) = refl
  scalar_same (Some (variable_of.Scalar x)) = refl
  scalar_same (Some (variable_of.Array x)) = refl
  scalar_same (Some (variable_of.Window x)) = refl
  scalar_same (Some (variable_of.Stream x y)) = refl
  scalar_same (Some (variable_of.Item x)) = refl

  pub elements_same : (o : Option Variable) → elements here o ≡ elements there o
  elements_same None = refl
  elements_same (Some (variable_of.Constant x)) = refl
  elements_same (Some (variable_of.Function x)) = refl
  elements_same (Some (variable_of.Scalar x)) = refl
  elements_same (Some (variable_of.Array x)) = refl
  elements_same (Some (variable_of.Window x)) = refl
  elements_same (Some (variable_of.Stream x y)) = refl
  elements_same (Some (variable_of.Item x)) = refl

  flag_same : (elsewhere : Bool) (id : ℕ) → NameSame one other id → flag_or elsewhere one id ≡ flag_or elsewhere other id
  flag_same elsewhere id h = h.1 elsewhere

  mutual
    pub type_same : (e : tree.ExprTree) → FindSame one other (expr_names e) → type_in file here e ≡ type_in file there e
    type_same (tree.Number n) h = refl
    type_same (tree.Wide n) h = refl
    type_same (tree.Place t) h = target_same t h
    type_same (tree.ExprTree.Call f args) h = flag_same (flag_or false file.names f.id) f.id (same_own one other f.id (args_names args) h)
    type_same (tree.Paren e) h = type_same e h
    type_same (tree.Unary op m e) h = ap (type_of_one op) (type_same e h)
    type_same (tree.Chain l first links) h =
        ap (type_behind (flags file here) links) (type_same first (same_first one other (expr_names first) (links_names links) h))
        ∙ behind_same links (type_in file there first) (same_rest one other (expr_names first) (links_names links) h)
    type_same (tree.Choice c a b) h =
        let front = same_first one other (expr_names c ++ expr_names a) (expr_names b) h in
        ap (λ t. t || type_in file here b) (type_same a (same_rest one other (expr_names c) (expr_names a) front))
        ∙ ap (λ t. type_in file there a || t) (type_same b (same_rest one other (expr_names c ++ expr_names a) (expr_names b) h))

    pub target_same : (t : tree.TargetTree) → FindSame one other (target_names t) → flags file here (target_name t) ≡ flags file there (target_name t)
    target_same (tree.Variable n) h = flag_same (flag_or false file.names n.id) n.id (same_own one other n.id [] h)
    target_same (tree.Element n m e) h = flag_same (flag_or false file.names n.id) n.id (same_own one other n.id (expr_names e) h)

    behind_same : (ls : tree.Links) (u : Bool) → FindSame one other (links_names ls) → type_behind (flags file here) ls u ≡ type_behind (flags file there) ls u
    behind_same tree.no_links u h = refl
    behind_same (tree.link op m e rest) u h =
        ap (λ v. type_behind (flags file here) rest (type_of_two op u v)) (type_same e (same_first one other (expr_names e) (links_names rest) h))
        ∙ behind_same rest (type_of_two op u (type_in file there e)) (same_rest one other (expr_names e) (links_names rest) h)

  mutual
    pub value_same : (e : tree.ExprTree) (turns : ℕ) → FindSame one other (expr_names e) → value file e here turns ≡ value file e there turns
    value_same (tree.Number n) turns h = refl
    value_same (tree.Wide n) turns h = refl
    value_same (tree.Place t) turns h = place_same t turns h
    value_same (tree.ExprTree.Call f args) turns h =
        same_then (values file args here turns) (values file args there turns) (call_value file.calls (variable file here f.id)) (call_value file.calls (variable file there f.id))
        (values_same args turns (same_others one other f.id (args_names args) h))
        (λ x. ap (λ o. call_value file.calls (or_in_file file f.id o) x) (same_own one other f.id (args_names args) h).0)
    value_same (tree.Paren e) turns h = value_same e turns h
    value_same (tree.Unary op m e) turns h =
        ap (λ a. and_then a (λ n. with_turns n.turns (unary_answer op m.line (type_in file here e) n.value))) (value_same e turns h)
        ∙ ap (λ t. and_then (value file e there turns) (λ n. with_turns n.turns (unary_answer op m.line t n.value))) (type_same e h)
    value_same (tree.Chain l first links) turns h =
        let front = same_first one other (expr_names first) (links_names links) h in
        same_then (value file first here turns) (value file first there turns) (chained file links here (type_in file here first)) (chained file links there (type_in file there first)) (value_same first turns front)
        (λ x. ap (λ t. chained file links here t x) (type_same first front) ∙ links_same links (type_in file there first) x (same_rest one other (expr_names first) (links_names links) h))
    value_same (tree.Choice c a b) turns h =
        let front = same_first one other (expr_names c ++ expr_names a) (expr_names b) h in
        same_then (value file c here turns) (value file c there turns) (λ n. if is_zero n.value then value file b here n.turns else value file a here n.turns) (λ n. if is_zero n.value then value file b there n.turns else value file a there n.turns)
        (value_same c turns (same_first one other (expr_names c) (expr_names a) front))
        (λ n. ap (λ x. if is_zero n.value then x else value file a here n.turns) (value_same b n.turns (same_rest one other (expr_names c ++ expr_names a) (expr_names b) h))
        ∙ ap (λ x. if is_zero n.value then value file b there n.turns else x) (value_same a n.turns (same_rest one other (expr_names c) (expr_names a) front)))

    place_same : (t : tree.TargetTree) (turns : ℕ) → FindSame one other (target_names t) → place_value file t here turns ≡ place_value file t there turns
    place_same (tree.Variable n) turns h =
        ap (λ x. Ok (left x turns)) (ap (λ o. scalar_value here (or_in_file file n.id o)) (same_own one other n.id [] h).0 ∙ scalar_same (or_in_file file n.id (find there.bound n.id)))
    place_same (tree.Element n m e) turns h =
        same_then (value file e here turns) (value file e there turns) (λ i. with_turns i.turns (element_at (elements here (find here.bound n.id)) m.line i.value)) (λ i. with_turns i.turns (element_at (elements there (find there.bound n.id)) m.line i.value))
        (value_same e turns (same_others one other n.id (expr_names e) h))
        (λ i. ap (λ xs. with_turns i.turns (element_at xs m.line i.value)) (ap (elements here) (same_own one other n.id (expr_names e) h).0 ∙ elements_same (find there.bound n.id)))

    pub values_same : (es : tree.Args) (turns : ℕ) → FindSame one other (args_names es) → values file es here turns ≡ values file es there turns
    values_same tree.no_args turns h = refl
    values_same (tree.arg e es) turns h =
        same_then (value file e here turns) (value file e there turns) (λ n. and_then (values file es here n.turns) (λ ns. Ok (left (n.value ∷ ns.value) ns.turns))) (λ n. and_then (values file es there n.turns) (λ ns. Ok (left (n.value ∷ ns.value) ns.turns)))
        (value_same e turns (same_first one other (expr_names e) (args_names es) h))
        (λ n. ap (λ a. and_then a (λ ns. Ok (left (n.value ∷ ns.value) ns.turns))) (values_same es n.turns (same_rest one other (expr_names e) (args_names es) h)))

    links_same : (ls : tree.Links) (u : Bool) (n : Left ℤ) → FindSame one other (links_names ls) → chained file ls here u n ≡ chained file ls there u n
    links_same tree.no_links u n h = refl
    links_same (tree.link op m e rest) u n h =
        let front = same_first one other (expr_names e) (links_names rest) h in
        let x = type_in file here e in
        let y = type_in file there e in
        let same = type_same e front in
        same_then (linked op m.line u x n (value file e here)) (linked op m.line u y n (value file e there)) (chained file rest here (type_of_two op u x)) (chained file rest there (type_of_two op u y))
        (linked_same op m.line u x n (value file e here) (value file e there) (value_same e n.turns front) ∙ ap (λ t. linked op m.line u t n (value file e there)) same)
        (λ k. ap (λ t. chained file rest here (type_of_two op u t) k) same ∙ links_same rest (type_of_two op u y) k (same_rest one other (expr_names e) (links_names rest) h))

-- An expression that doesn't have a name gives the same, whatever the name stands for.
pub value_elsewhere : (file : File) (s : BodyState) (id : ℕ) (u : Bool) (v w : Variable) (e : tree.ExprTree) (turns : ℕ) → is_in id (expr_names e) ≡ false →
    value file e (declared id u v s) turns ≡ value file e (declared id u w s) turns
value_elsewhere file s id u v w e turns apart = value_same file s (bind id u v s.bound) (bind id u w s.bound) e turns found
  where
    found : FindSame (bind id u v s.bound) (bind id u w s.bound) (expr_names e)
    found x is = (by_case (id == x) refl, λ elsewhere. refl)
      where
        by_case : (t : Bool) → (id == x) ≡ t → (if t then Some v else find s.bound x) ≡ (if t then Some w else find s.bound x)
        by_case false h = refl
        by_case true h = let there : is_in x (expr_names e) ≡ false = subst (λ n. is_in n (expr_names e) ≡ false) (eqb-true id x h) apart in let bad : true ≡ false = sym is ∙ there in absurd (cc)
