-- A name of a lawful body is found in the body or in the file, so that nothing else in scope counts for it.
use Rattle.std.proofs.Common.{◌≡◌, ℕ, ◌==◌, ◌||◌, Bool, true, false, if◌then◌else◌, List, [], ◌∷◌, ◌++◌, map, Option, Some, None, ℤ, refl, sym, ap, ◌∙◌, subst, inl, inr, eqb-true}
use Rattle.std.proofs.lemmas.Bool.{or_cases}
use Rattle.std.specs.Prelude.{◌⊎◌}
use Rattle.cddf_meaning.specs.File.{File, variable, or_in_file, flags, type_in}
use Rattle.cddf_meaning.specs.BodyState.{BodyState}
use Rattle.cddf_meaning.specs.Value.{value, values}
use Rattle.cddf_meaning.specs.Variables.{find, flag_or}
use Rattle.cddf_meaning.specs.declared.variable.Binding.{Binding}
use Rattle.cddf_meaning.specs.declared.variable.Variable.{Variable}
use Rattle.cddf_meaning.proofs.IsIn.{in-append}
use Rattle.os_ast.specs.FreeNames.{expr_names, target_names, args_names, links_names}
use Rattle.os_ast.specs.Names.{Scope, lookup, entity_of}
use Rattle.os_ast.specs.Notes.Declarators.{size_value}
use Rattle.os_ast.specs.Notes.Expressions.{count_args, expr_notes, place_notes, args_notes, links_notes}
use Rattle.os_ast.specs.Notes.Kinds.{Note, Used}
use Rattle.os_ast.specs.ClauseMembers.{is_in, target_name}
use Rattle.os_ast.specs.Trees as tree
use Rattle.os_ast.specs.declared.expr.Name.{Name}
use Rattle.os_ast.specs.declared.names.Entity.{Entity}
use Rattle.os_ast.specs.declared.names.Entity.TheVariants as entity
use Rattle.os_ast.specs.declared.names.Entry.{Entry}
use Rattle.os_ast.specs.declared.names.Role.{Role}
use Rattle.os_ast.specs.declared.names.Role.TheVariants as role
use Rattle.os_ast.specs.declared.names.Shape.TheVariants as shape
use Rattle.os_ast.specs.declared.names.Use.{Use}
use Rattle.os_ast.specs.declared.names.Use.TheVariants as usage
use Rattle.lowering_relation.specs.FoundNames.{AreElse, with_more}
use Rattle.lowering_relation.proofs.Context.{FileHas, Reaches, IsPlain, Context, Agree, agree_first, agree_rest, In, used, split}
use Rattle.lowering_relation.proofs.Declares.{constant_known}
use Rattle.lowering_relation.proofs.Elsewhere.{FindSame, type_same, target_same, value_same, values_same}

abbrev pub ids : List Binding → List ℕ
ids bound = map (λ (b : Binding). b.id) bound

abbrev pub entry_ids : List Entry → List ℕ
entry_ids es = map (λ (e : Entry). e.id) es

-- a name is declared in the body, or in the file
abbrev pub Seen : File → List Binding → ℕ → Type 0
Seen file bound id = (is_in id (ids bound) ≡ true) ⊎ ((v : Variable) × (find file.names id ≡ Some v))

abbrev pub AllSeen : File → List Binding → List ℕ → Type 0
AllSeen file bound names = (id : ℕ) → is_in id names ≡ true → Seen file bound id

front_found : (bound more : List Binding) (id : ℕ) → is_in id (ids bound) ≡ true → find bound id ≡ find (bound ++ more) id
front_found [] more id h = absurd (cc)
front_found (b ∷ bound) more id h = by_case (b.id == id) h (λ k. front_found bound more id k)
  where
    by_case : (t : Bool) → (t || is_in id (ids bound)) ≡ true → (is_in id (ids bound) ≡ true → find bound id ≡ find (bound ++ more) id) → (if t then Some b.variable else find bound id) ≡ (if t then Some b.variable else find (bound ++ more) id)
    by_case true k next = refl
    by_case false k next = next k

rest_missed : (bound more : List Binding) (id : ℕ) → find more id ≡ None → find bound id ≡ find (bound ++ more) id
rest_missed [] more id h = sym h
rest_missed (b ∷ bound) more id h = ap (λ o. if b.id == id then Some b.variable else o) (rest_missed bound more id h)

pub same_found : (file : File) (bound more : List Binding) (id : ℕ) → AreElse file more → Seen file bound id → find bound id ≡ find (bound ++ more) id
same_found file bound more id apart (inl h) = front_found bound more id h
same_found file bound more id apart (inr (v, is)) = by_apart (apart id)
  where
    by_apart : (find file.names id ≡ None) ⊎ (find more id ≡ None) → find bound id ≡ find (bound ++ more) id
    by_apart (inl none) = let bad : None ≡ Some v = sym none ∙ is in absurd (cc)
    by_apart (inr none) = rest_missed bound more id none

-- its type too
front_flag : (bound more : List Binding) (id : ℕ) (elsewhere : Bool) → is_in id (ids bound) ≡ true → flag_or elsewhere bound id ≡ flag_or elsewhere (bound ++ more) id
front_flag [] more id elsewhere h = absurd (cc)
front_flag (b ∷ bound) more id elsewhere h = by_case (b.id == id) h (λ k. front_flag bound more id elsewhere k)
  where
    by_case : (t : Bool) → (t || is_in id (ids bound)) ≡ true → (is_in id (ids bound) ≡ true → flag_or elsewhere bound id ≡ flag_or elsewhere (bound ++ more) id) →
        (if t then b.unsigned else flag_or elsewhere bound id) ≡ (if t then b.unsigned else flag_or elsewhere (bound ++ more) id)
    by_case true k next = refl
    by_case false k next = next k

missed_flag : (more : List Binding) (id : ℕ) (elsewhere : Bool) → find more id ≡ None → elsewhere ≡ flag_or elsewhere more id
missed_flag [] id elsewhere h = refl
missed_flag (b ∷ more) id elsewhere h = by_case (b.id == id) h (λ k. missed_flag more id elsewhere k)
  where
    by_case : (t : Bool) → (if t then Some b.variable else find more id) ≡ None → (find more id ≡ None → elsewhere ≡ flag_or elsewhere more id) →
        elsewhere ≡ (if t then b.unsigned else flag_or elsewhere more id)
    by_case true k next = absurd (cc)
    by_case false k next = next k

rest_flag : (bound more : List Binding) (id : ℕ) (elsewhere : Bool) → find more id ≡ None → flag_or elsewhere bound id ≡ flag_or elsewhere (bound ++ more) id
rest_flag [] more id elsewhere h = missed_flag more id elsewhere h
rest_flag (b ∷ bound) more id elsewhere h = ap (λ u. if b.id == id then b.unsigned else u) (rest_flag bound more id elsewhere h)

same_flag : (file : File) (bound more : List Binding) (id : ℕ) → AreElse file more → Seen file bound id → (elsewhere : Bool) → flag_or elsewhere bound id ≡ flag_or elsewhere (bound ++ more) id
same_flag file bound more id apart (inl h) elsewhere = front_flag bound more id elsewhere h
same_flag file bound more id apart (inr (v, is)) elsewhere = by_apart (apart id)
  where
    by_apart : (find file.names id ≡ None) ⊎ (find more id ≡ None) → flag_or elsewhere bound id ≡ flag_or elsewhere (bound ++ more) id
    by_apart (inl none) = let bad : None ≡ Some v = sym none ∙ is in absurd (cc)
    by_apart (inr none) = rest_flag bound more id elsewhere none

pub all_same : (file : File) (bound more : List Binding) (names : List ℕ) → AreElse file more → AllSeen file bound names → FindSame bound (bound ++ more) names
all_same file bound more names apart seen id is = (same_found file bound more id apart (seen id is), same_flag file bound more id apart (seen id is))

pub no_names : (file : File) (bound : List Binding) → AllSeen file bound []
no_names file bound id h = absurd (cc)

pub one_more : (file : File) (bound : List Binding) (id : ℕ) (names : List ℕ) → Seen file bound id → AllSeen file bound names → AllSeen file bound (id ∷ names)
one_more file bound id names own rest x h = by_case (id == x) refl h
  where
    by_case : (t : Bool) → (id == x) ≡ t → (t || is_in x names) ≡ true → Seen file bound x
    by_case true e k = subst (Seen file bound) (eqb-true id x e) own
    by_case false e k = rest x k

pub both_seen : (file : File) (bound : List Binding) (xs ys : List ℕ) → AllSeen file bound xs → AllSeen file bound ys → AllSeen file bound (xs ++ ys)
both_seen file bound xs ys a b x h = by_cases (or_cases (is_in x xs) (is_in x ys) (sym (in-append x xs ys) ∙ h))
  where
    by_cases : (is_in x xs ≡ true) ⊎ (is_in x ys ≡ true) → Seen file bound x
    by_cases (inl k) = a x k
    by_cases (inr k) = b x k

-- a name that is declared stands in the list
entry_there : (es : List Entry) (id : ℕ) (d : Entity) → entity_of (lookup es id) ≡ Some d → is_in id (entry_ids es) ≡ true
entry_there [] id d h = absurd (cc)
entry_there (e ∷ es) id d h = by_case (e.id == id) h (λ k. entry_there es id d k)
  where
    by_case : (t : Bool) → entity_of (if t then Some e else lookup es id) ≡ Some d → (entity_of (lookup es id) ≡ Some d → is_in id (entry_ids es) ≡ true) → (t || is_in id (entry_ids es)) ≡ true
    by_case true k next = refl
    by_case false k next = next k

pub file_seen : (c : Context) (v : Option Variable) (d : Entity) → FileHas c.code c.file v d → (x : Variable) × (v ≡ Some x)
file_seen c v (entity.Constant y) h = (_, h)
file_seen c v (entity.Function number params) h = (_, h.1)
file_seen c v (entity.Scalar slot) h = elim h [ ]
file_seen c v (entity.Control slot) h = elim h [ ]
file_seen c v entity.InputLength h = elim h [ ]
file_seen c v (entity.Array first size) h = elim h [ ]
file_seen c v (entity.Window slot) h = elim h [ ]
file_seen c v (entity.Stream number) h = elim h [ ]
file_seen c v (entity.Streams first count) h = elim h [ ]
file_seen c v (entity.Element item y) h = elim h [ ]
file_seen c v (entity.View item y) h = elim h [ ]

module _ (c : Context) where
  -- the run has in scope what the text has, name by name
  abbrev pub Matches : List Binding → List Entry → Type 0
  Matches bound es = ids bound ≡ entry_ids (es ++ c.bound)

  seen_here : (bound : List Binding) (es : List Entry) (id : ℕ) (d : Entity) → Matches bound es → entity_of (lookup (es ++ c.bound) id) ≡ Some d → Seen c.file bound id
  seen_here bound es id d same is = inl (ap (is_in id) same ∙ entry_there (es ++ c.bound) id d is)

  -- what is declared where it stands is seen, where what is round the body is reached
  pub seen_by : (s : Scope) (es : List Entry) (bound : List Binding) (id : ℕ) (d : Entity) → In c s es → Matches bound es → entity_of (lookup s.entries id) ≡ Some d →
      (lookup s.entries id ≡ lookup c.round id → Reaches c.code c.file c.bound id d) → Seen c.file bound id
  seen_by s es bound id d is same there reach = by_split (split es c.round c.bound id)
    where
      in_text : entity_of (lookup (es ++ c.round) id) ≡ Some d
      in_text = subst (λ xs. entity_of (lookup xs id) ≡ Some d) is.entries there

      by_reach : lookup (es ++ c.bound) id ≡ lookup c.bound id → Reaches c.code c.file c.bound id d → Seen c.file bound id
      by_reach e (inl r) = seen_here bound es id d same (ap entity_of e ∙ r)
      by_reach e (inr r) = inr (file_seen c (find c.file.names id) d r.1)

      by_split : (lookup (es ++ c.round) id ≡ lookup (es ++ c.bound) id) ⊎ ((lookup (es ++ c.round) id ≡ lookup c.round id) × (lookup (es ++ c.bound) id ≡ lookup c.bound id)) → Seen c.file bound id
      by_split (inl e) = seen_here bound es id d same (ap entity_of (sym e) ∙ in_text)
      by_split (inr e) = by_reach e.1 (reach (ap (λ xs. lookup xs id) is.entries ∙ e.0))

  module _ (s : Scope) (es : List Entry) (is : In c s es) (bound : List Binding) (same : Matches bound es) where
    pub seen_used : (n : Name) (u : Use) (ns : List Note) → IsPlain u → Agree c (Used s n u ∷ ns) → Seen c.file bound n.id
    seen_used n u ns plain agree =
        let k = used c s es n u ns is agree in
        seen_by s es bound n.id k.entity is same k.is (λ e. c.reaches s n u k.entity plain k.lawful k.besides k.is e)

    -- the names of an expression
    mutual
      pub seen_expr : (e : tree.ExprTree) → Agree c (expr_notes s e) → AllSeen c.file bound (expr_names e)
      seen_expr (tree.Number n) agree = no_names c.file bound
      seen_expr (tree.Wide n) agree = no_names c.file bound
      seen_expr (tree.Place t) agree = seen_place role.Value tt t agree
      seen_expr (tree.ExprTree.Call f args) agree =
          one_more c.file bound f.id (args_names args) (seen_used f (usage.Called (count_args args)) (args_notes s args) tt agree) (seen_args args agree.1)
      seen_expr (tree.Paren e) agree = seen_expr e agree
      seen_expr (tree.Unary op m e) agree = seen_expr e agree
      seen_expr (tree.Chain l first links) agree =
          both_seen c.file bound (expr_names first) (links_names links) (seen_expr first (agree_first c (expr_notes s first) (links_notes s links) agree)) (seen_links links (agree_rest c (expr_notes s first) (links_notes s links) agree))
      seen_expr (tree.Choice x a b) agree =
          let front = agree_first c (expr_notes s x ++ expr_notes s a) (expr_notes s b) agree in
          both_seen c.file bound (expr_names x ++ expr_names a) (expr_names b)
          (both_seen c.file bound (expr_names x) (expr_names a) (seen_expr x (agree_first c (expr_notes s x) (expr_notes s a) front)) (seen_expr a (agree_rest c (expr_notes s x) (expr_notes s a) front)))
          (seen_expr b (agree_rest c (expr_notes s x ++ expr_notes s a) (expr_notes s b) agree))

      seen_place : (r : Role) → IsPlain (usage.Place r shape.Bare) → (t : tree.TargetTree) → Agree c (place_notes s r t) → AllSeen c.file bound (target_names t)
      seen_place role.Value plain (tree.Variable n) agree = one_more c.file bound n.id [] (seen_used n (usage.Place role.Value shape.Bare) [] tt agree) (no_names c.file bound)
      seen_place role.Changed plain (tree.Variable n) agree = one_more c.file bound n.id [] (seen_used n (usage.Place role.Changed shape.Bare) [] tt agree) (no_names c.file bound)
      seen_place (role.Flow d) plain (tree.Variable n) agree = elim plain [ ]
      seen_place role.Value plain (tree.Element n m e) agree =
          one_more c.file bound n.id (expr_names e) (seen_used n (usage.Place role.Value shape.Indexed) (expr_notes s e) tt agree) (seen_expr e agree.1)
      seen_place role.Changed plain (tree.Element n m e) agree =
          one_more c.file bound n.id (expr_names e) (seen_used n (usage.Place role.Changed shape.Indexed) (expr_notes s e) tt agree) (seen_expr e agree.1)
      seen_place (role.Flow d) plain (tree.Element n m e) agree = elim plain [ ]

      seen_args : (args : tree.Args) → Agree c (args_notes s args) → AllSeen c.file bound (args_names args)
      seen_args tree.no_args agree = no_names c.file bound
      seen_args (tree.arg e rest) agree =
          both_seen c.file bound (expr_names e) (args_names rest) (seen_expr e (agree_first c (expr_notes s e) (args_notes s rest) agree)) (seen_args rest (agree_rest c (expr_notes s e) (args_notes s rest) agree))

      seen_links : (links : tree.Links) → Agree c (links_notes s links) → AllSeen c.file bound (links_names links)
      seen_links tree.no_links agree = no_names c.file bound
      seen_links (tree.link op m e rest) agree =
          both_seen c.file bound (expr_names e) (links_names rest) (seen_expr e (agree_first c (expr_notes s e) (links_notes s rest) agree)) (seen_links rest (agree_rest c (expr_notes s e) (links_notes s rest) agree))

    -- the name of a constant, where it is a size
    pub seen_size : (e : tree.ExprTree) (v : ℤ) → size_value s e ≡ Some v → AllSeen c.file bound (expr_names e)
    seen_size (tree.Number n) v h = no_names c.file bound
    seen_size (tree.Wide n) v h = no_names c.file bound
    seen_size (tree.Place (tree.Variable n)) v h =
        let there = constant_known (entity_of (lookup s.entries n.id)) v h in
        one_more c.file bound n.id [] (seen_by s es bound n.id (entity.Constant v) is same there (λ e. c.constants n.id v (ap entity_of (sym e) ∙ there))) (no_names c.file bound)
    seen_size (tree.Place (tree.Element n mark e)) v h = absurd (cc)
    seen_size (tree.ExprTree.Call f args) v h = absurd (cc)
    seen_size (tree.Paren e) v h = absurd (cc)
    seen_size (tree.Unary op mark e) v h = absurd (cc)
    seen_size (tree.Chain l first links) v h = absurd (cc)
    seen_size (tree.Choice x a b) v h = absurd (cc)

    pub seen_target : (t : tree.TargetTree) → Agree c (place_notes s role.Changed t) → AllSeen c.file bound (target_names t)
    seen_target t agree = seen_place role.Changed tt t agree

    pub seen_all : (args : tree.Args) → Agree c (args_notes s args) → AllSeen c.file bound (args_names args)
    seen_all args agree = seen_args args agree

-- values where more is in scope
module _ (file : File) (more : List Binding) (apart : AreElse file more) (st : BodyState) where
  pub value_more : (e : tree.ExprTree) (turns : ℕ) → AllSeen file st.bound (expr_names e) → value file e st turns ≡ value file e (with_more more st) turns
  value_more e turns seen = value_same file st st.bound (st.bound ++ more) e turns (all_same file st.bound more (expr_names e) apart seen)

  pub type_more : (e : tree.ExprTree) → AllSeen file st.bound (expr_names e) → type_in file st e ≡ type_in file (with_more more st) e
  type_more e seen = type_same file st st.bound (st.bound ++ more) e (all_same file st.bound more (expr_names e) apart seen)

  pub target_type_more : (t : tree.TargetTree) → AllSeen file st.bound (target_names t) → flags file st (target_name t) ≡ flags file (with_more more st) (target_name t)
  target_type_more t seen = target_same file st st.bound (st.bound ++ more) t (all_same file st.bound more (target_names t) apart seen)

  pub values_more : (args : tree.Args) (turns : ℕ) → AllSeen file st.bound (args_names args) → values file args st turns ≡ values file args (with_more more st) turns
  values_more args turns seen = values_same file st st.bound (st.bound ++ more) args turns (all_same file st.bound more (args_names args) apart seen)

  pub variable_more : (id : ℕ) → Seen file st.bound id → variable file st id ≡ variable file (with_more more st) id
  variable_more id seen = ap (or_in_file file id) (same_found file st.bound more id apart seen)
