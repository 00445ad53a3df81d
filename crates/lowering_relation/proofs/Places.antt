-- Where functions stand in the file, and `main` among them.
use Rattle.std.proofs.Common.{◌≡◌, ℕ, zero, suc, ◌+◌, ◌<◌, ◌≤◌, ◌==◌, ◌&&◌, ◌||◌, Bool, true, false, if◌then◌else◌, List, [], ◌∷◌, ◌++◌, length, Some, slice_get, refl, sym, ap, ◌∙◌, subst, arith, eqb-true}
use Rattle.std.proofs.lemmas.Bool.{or_left, or_right}
use Rattle.std.specs.Option.{option_map_or}
use Rattle.os_ast.specs.Leveled.{AreAll, cons, IsItem, AreStmts}
use Rattle.os_ast.specs.Names.{Scope, main_id, enter, in_unit}
use Rattle.os_ast.specs.Notes.Kinds.{Note, Global}
use Rattle.os_ast.specs.Notes.Programs.{owner_of, param_list, params_notes, after_item, after_items, item_notes, items_notes, in_body, round_body}
use Rattle.os_ast.specs.Notes.Programs as programs
use Rattle.os_ast.specs.Notes.Statements.{after_stmts, stmts_notes}
use Rattle.os_ast.specs.ClauseMembers.{is_in}
use Rattle.os_ast.specs.Trees as tree
use Rattle.os_ast.specs.Violations.{captures, is_int, is_empty, has_main}
use Rattle.os_ast.specs.declared.names.Owner.TheVariants as owner
use Rattle.os_ast.specs.declared.names.Resolved.{Resolved}
use Rattle.os_code.specs.Parts.{Function, kind_at, unit_at}
use Rattle.os_code.specs.declared.parts.Parts.{Parts}
use Rattle.os_code.specs.declared.unit.CodeUnit.{CodeUnit}
use Rattle.lowering_relation.specs.Names.{told_at}
use Rattle.lowering_relation.specs.Programs.{HasUnit, HasFunctions}
use Rattle.lowering_relation.specs.Tasks.{TaskTree, program_tasks, all_tasks_of}
use Rattle.lowering_relation.proofs.Files.{AllOfFile, params_owner, bare_main, none_front}
use Rattle.lowering_relation.proofs.FunctionUnits.{AllFileMay, all_later}
use Rattle.lowering_relation.proofs.NoTasks.{IsOther, captures_both, none_both, none_stmts}
use Rattle.lowering_relation.proofs.StreamCounts.{items_more}
use Rattle.window_check_laws.specs.Globals.{AreApart, count_functions}
use Rattle.window_check_laws.specs.Told.{AreLawful, Tells}
use Rattle.window_check_laws.proofs.Counted.{functions_behind}
use Rattle.window_check_laws.proofs.Told.{tells-first, tells-rest, lawful-first, lawful-rest}

-- the functions of a file, in order
abbrev pub functions_of : List tree.ItemTree → List tree.FunctionTree
functions_of [] = []
functions_of (tree.Constant c ∷ is) = functions_of is
functions_of (tree.Function f ∷ is) = f ∷ functions_of is

pub functions_count : (is : List tree.ItemTree) → length (functions_of is) ≡ count_functions is
functions_count [] = refl
functions_count (tree.Constant c ∷ is) = functions_count is
functions_count (tree.Function f ∷ is) = ap suc (functions_count is)

-- a name that is declared is that of no further function
not_again : (is : List tree.ItemTree) (ids : List ℕ) → is_in main_id ids ≡ true → AreApart ids is → (j : ℕ) (g : tree.FunctionTree) →
    slice_get (functions_of is) j ≡ Some g → (g.name.id == main_id) ≡ true → ⊥
not_again [] ids h apart j g is_there named = absurd (cc)
not_again (tree.Constant c ∷ is) ids h apart j g is_there named =
    not_again is (c.name.id ∷ ids) (or_right (c.name.id == main_id) (is_in main_id ids) h) apart.1 j g is_there named
not_again (tree.Function f ∷ is) ids h apart zero g is_there named =
    let same : f ≡ g = cc in
    let e : f.name.id ≡ main_id = ap (λ (x : tree.FunctionTree). x.name.id) same ∙ eqb-true g.name.id main_id named in
    let bad : true ≡ false = sym h ∙ ap (λ n. is_in n ids) (sym e) ∙ apart.0 in
    absurd (cc)
not_again (tree.Function f ∷ is) ids h apart (suc j) g is_there named =
    not_again is (f.name.id ∷ ids) (or_right (f.name.id == main_id) (is_in main_id ids) h) apart.1 j g is_there named

-- `main` has no parameters
pub mains_bare : (is : List tree.ItemTree) (ids : List ℕ) → AreApart ids is → has_main is ≡ true → (j : ℕ) (g : tree.FunctionTree) →
    slice_get (functions_of is) j ≡ Some g → (g.name.id == main_id) ≡ true → param_list g.params ≡ []
mains_bare [] ids apart h j g there named = absurd (cc)
mains_bare (tree.Constant c ∷ is) ids apart h j g there named = mains_bare is (c.name.id ∷ ids) apart.1 h j g there named
mains_bare (tree.Function f ∷ is) ids apart h zero g there named =
    let same : f ≡ g = cc in
    let here : (f.name.id == main_id) ≡ true = ap (λ (x : tree.FunctionTree). x.name.id == main_id) same ∙ named in
    ap (λ (x : tree.FunctionTree). param_list x.params) (sym same) ∙ bare_main f is ids here apart h
mains_bare (tree.Function f ∷ is) ids apart h (suc j) g there named =
    by_case (f.name.id == main_id) refl (λ k. mains_bare is (f.name.id ∷ ids) apart.1 k j g there named)
  where
    by_case : (t : Bool) → (f.name.id == main_id) ≡ t → (has_main is ≡ true → param_list g.params ≡ []) → param_list g.params ≡ []
    by_case true e next = absurd (not_again is (f.name.id ∷ ids) (or_left (f.name.id == main_id) (is_in main_id ids) e) apart.1 j g there named)
    by_case false e next = next (sym (ap (λ b. (b && is_int f.ty && is_empty (param_list f.params)) || has_main is) e) ∙ h)

-- the tasks of a program are those of `main`
pub mains_tasks : (is : List tree.ItemTree) (ids : List ℕ) → AreApart ids is → (j : ℕ) (g : tree.FunctionTree) → slice_get (functions_of is) j ≡ Some g →
    (g.name.id == main_id) ≡ true → program_tasks is ≡ all_tasks_of g.body
mains_tasks [] ids apart j g there named = absurd (cc)
mains_tasks (tree.Constant c ∷ is) ids apart j g there named = mains_tasks is (c.name.id ∷ ids) apart.1 j g there named
mains_tasks (tree.Function f ∷ is) ids apart zero g there named =
    let same : f ≡ g = cc in
    ap (λ t. if t then all_tasks_of f.body else program_tasks is) (ap (λ (x : tree.FunctionTree). x.name.id == main_id) same ∙ named) ∙ ap (λ (x : tree.FunctionTree). all_tasks_of x.body) same
mains_tasks (tree.Function f ∷ is) ids apart (suc j) g there named =
    by_case (f.name.id == main_id) refl (mains_tasks is (f.name.id ∷ ids) apart.1 j g there named)
  where
    by_case : (t : Bool) → (f.name.id == main_id) ≡ t → program_tasks is ≡ all_tasks_of g.body →
        (if t then all_tasks_of f.body else program_tasks is) ≡ all_tasks_of g.body
    by_case true e next = absurd (not_again is (f.name.id ∷ ids) (or_left (f.name.id == main_id) (is_in main_id ids) e) apart.1 j g there named)
    by_case false e next = next

module _ (code : Parts) (rs : List Resolved) (tasks : List TaskTree) where
  -- the number of `main`
  pub record MainNumber (first : ℕ) (is : List tree.ItemTree) : Type 0 where
    pub place : ℕ
    pub function : tree.FunctionTree
    pub is_there : slice_get (functions_of is) place ≡ Some function
    pub named : (function.name.id == main_id) ≡ true
    pub is_main : code.main ≡ first + place

  pub main_number : (is : List tree.ItemTree) (first : ℕ) → HasFunctions code (told_at rs) tasks first is → has_main is ≡ true → MainNumber first is
  main_number [] first has h = absurd (cc)
  main_number (tree.Constant c ∷ is) first has h =
      let m = main_number is first has h in
      record { place = m.place; function = m.function; is_there = m.is_there; named = m.named; is_main = m.is_main }
  main_number (tree.Function f ∷ is) first has h =
      by_case (f.name.id == main_id) refl has.0 (λ k. main_number is (suc first) has.1 k)
    where
      by_case : (t : Bool) → (f.name.id == main_id) ≡ t → HasUnit t code (told_at rs) tasks first f → (has_main is ≡ true → MainNumber (suc first) is) →
          MainNumber first (tree.Function f ∷ is)
      by_case true e unit next = record { place = 0; function = f; is_there = refl; named = e; is_main = omega (arith, unit.is_main) }
      by_case false e unit next =
          let m = next (sym (ap (λ b. (b && is_int f.ty && is_empty (param_list f.params)) || has_main is) e) ∙ h) in
          record { place = suc m.place; function = m.function; is_there = m.is_there; named = m.named; is_main = omega (arith, m.is_main) }

  -- a function, with what the file declares before it
  pub record FunctionAt (streams number : ℕ) (g : tree.FunctionTree) : Type 0 where
    pub scope : Scope
    pub may : AllFileMay code number scope.entries
    pub all : AllOfFile scope.entries
    pub leveled : AreStmts g.body
    pub lawful : AreLawful (stmts_notes (in_body scope g) g.body)
    pub tells : Tells rs (stmts_notes (in_body scope g) g.body)
    pub has : HasUnit (g.name.id == main_id) code (told_at rs) tasks number g
    pub few : (after_stmts (in_body scope g) g.body).streams ≤ streams

  abbrev front : Scope → tree.FunctionTree → List Note
  front s f = Global s f.name ∷ params_notes (programs.in_function s f.name.id) (param_list f.params)

  abbrev here : (f : tree.FunctionTree) (is : List tree.ItemTree) (s : Scope) (number : ℕ) → AreStmts f.body → AllFileMay code number s.entries →
      AllOfFile s.entries → AreLawful (items_notes s (tree.Function f ∷ is)) →
      Tells rs (items_notes s (tree.Function f ∷ is)) → HasUnit (f.name.id == main_id) code (told_at rs) tasks number f → FunctionAt (after_items s (tree.Function f ∷ is)).streams number f
  here f is s number body may all lawful tells has = record {
    scope = s;
    may = may;
    all = all;
    leveled = body;
    lawful = lawful-rest (front s f) (stmts_notes (in_body s f) f.body) (lawful-first (item_notes s (tree.Function f)) (items_notes (after_item s (tree.Function f)) is) lawful);
    tells = tells-rest rs (front s f) (stmts_notes (in_body s f) f.body) (tells-first rs (item_notes s (tree.Function f)) (items_notes (after_item s (tree.Function f)) is) tells);
    has = has;
    few = items_more is (after_item s (tree.Function f));
  }

  -- a function in the scope behind it
  declared : (t : Bool) (f : tree.FunctionTree) (number : ℕ) → (f.name.id == main_id) ≡ t → HasUnit t code (told_at rs) tasks number f →
      ((f.name.id == main_id) ≡ false → kind_at code number ≡ Function) →
      (f.name.id == main_id) ≡ false → (option_map_or (λ (unit : CodeUnit). unit.args) (unit_at code number) 0 ≡ length (param_list f.params)) × (number < suc number) × (kind_at code number ≡ Function)
  declared true f number e has kind other = let bad : true ≡ false = sym e ∙ other in absurd (cc)
  declared false f number e has kind other =
      (ap (λ o. option_map_or (λ (unit : CodeUnit). unit.args) o 0) has.is_unit ∙ has.args, omega arith, kind other)

  next_may : (f : tree.FunctionTree) (s : Scope) (number : ℕ) → s.functions ≡ number → AllFileMay code number s.entries →
      HasUnit (f.name.id == main_id) code (told_at rs) tasks number f →
      ((f.name.id == main_id) ≡ false → kind_at code number ≡ Function) → AllFileMay code (suc number) (after_item s (tree.Function f)).entries
  next_may f s number count may has kind =
      let inner = after_stmts (in_body s f) f.body in
      let same : inner.functions ≡ number = omega (arith, functions_behind s f, count) in (
        subst (λ n. (f.name.id == main_id) ≡ false → (option_map_or (λ (unit : CodeUnit). unit.args) (unit_at code n) 0 ≡ length (param_list f.params)) × (n < suc number) × (kind_at code n ≡ Function)) (sym same)
            (declared (f.name.id == main_id) f number refl has kind),
        all_later code number (suc number) s.entries (omega arith) may,
      )

  -- the functions of a file, each in its place; `kinds` says that those which aren't `main` are functions
  pub places : (is : List tree.ItemTree) (s : Scope) (number : ℕ) → AreAll IsItem is → AllFileMay code number s.entries → AllOfFile s.entries →
      s.functions ≡ number → AreLawful (items_notes s is) →
      Tells rs (items_notes s is) → HasFunctions code (told_at rs) tasks number is →
      (kinds : (j : ℕ) (g : tree.FunctionTree) → slice_get (functions_of is) j ≡ Some g → (g.name.id == main_id) ≡ false → kind_at code (number + j) ≡ Function) →
      (j : ℕ) (g : tree.FunctionTree) → slice_get (functions_of is) j ≡ Some g → FunctionAt (after_items s is).streams (number + j) g
  places [] s number leveled may all count lawful tells has kinds j g there = absurd (cc)
  places (tree.Constant c ∷ is) s number (cons _ leveled) may all count lawful tells has kinds j g there =
      let i = tree.Constant c in
      let rest = items_notes (after_item s i) is in
      places is (after_item s i) number leveled (tt, may) (tt, all) count (lawful-rest (item_notes s i) rest lawful) (tells-rest rs (item_notes s i) rest tells) has kinds j g there
  places (tree.Function f ∷ is) s number (cons (IsItem.function _ body) leveled) may all count lawful tells has kinds zero g there =
      let same : f ≡ g = cc in
      let at : number ≡ number + 0 = omega arith in
      subst (λ n. FunctionAt (after_items s (tree.Function f ∷ is)).streams n g) at
      (subst (FunctionAt (after_items s (tree.Function f ∷ is)).streams number) same (here f is s number body may all lawful tells has.0))
  places (tree.Function f ∷ is) s number (cons (IsItem.function _ body) leveled) may all count lawful tells has kinds (suc j) g there =
      let i = tree.Function f in
      let rest = items_notes (after_item s i) is in
      let at : suc number + j ≡ number + suc j = omega arith in
      let first : number + 0 ≡ number = omega arith in
      subst (λ n. FunctionAt (after_items s (i ∷ is)).streams n g) at
      (places is (after_item s i) (suc number) leveled (next_may f s number count may has.0 (λ other. ap (kind_at code) (sym first) ∙ kinds 0 f refl other)) (tt, all) (omega (arith, functions_behind s f, count))
      (lawful-rest (item_notes s i) rest lawful) (tells-rest rs (item_notes s i) rest tells) has.1
      (λ k x at_k other. let e : suc number + k ≡ number + suc k = omega arith in ap (kind_at code) e ∙ kinds (suc k) x at_k other) j g there)

  -- `main` in its place, with the tasks of the program
  pub record MainAt (outer : Scope) (listed : List tree.ItemTree) : Type 0 where
    pub number : ℕ
    pub function : tree.FunctionTree
    pub named : (function.name.id == main_id) ≡ true
    pub at : FunctionAt (after_items outer listed).streams number function
    pub place : ℕ
    pub is_there : slice_get (functions_of listed) place ≡ Some function
    pub own_tasks : program_tasks listed ≡ all_tasks_of function.body
    pub rest : List (List ℕ)
    pub own_captures : captures (items_notes outer listed) ≡ captures (stmts_notes (in_body at.scope function) function.body) ++ rest

  not_main : (s : Scope) (f : tree.FunctionTree) → (f.name.id == main_id) ≡ false → IsOther (in_body s f).owner
  not_main s f other e =
      let own : owner_of f.name.id ≡ owner.OfFunction = ap (λ t. if t then owner.OfMain else owner.OfFunction) other in
      let x : (in_body s f).owner ≡ owner.OfFunction = params_owner (param_list f.params) (programs.in_function s f.name.id) ∙ ap (λ o. (enter (round_body o (enter (in_unit o s)))).owner) own in
      let y : owner.OfFunction ≡ owner.OfMain = sym x ∙ e in
      absurd (cc)

  no_captures : (s : Scope) (f : tree.FunctionTree) → (f.name.id == main_id) ≡ false → captures (item_notes s (tree.Function f)) ≡ []
  no_captures s f other =
      none_both (front s f) (stmts_notes (in_body s f) f.body) (none_front (programs.in_function s f.name.id) (param_list f.params))
      (none_stmts f.body (in_body s f) (not_main s f other))

  pub main_place : (is : List tree.ItemTree) (s : Scope) (number : ℕ) → AreAll IsItem is → AllFileMay code number s.entries → AllOfFile s.entries →
      s.functions ≡ number → AreLawful (items_notes s is) →
      Tells rs (items_notes s is) → HasFunctions code (told_at rs) tasks number is →
      (kinds : (j : ℕ) (g : tree.FunctionTree) → slice_get (functions_of is) j ≡ Some g → (g.name.id == main_id) ≡ false → kind_at code (number + j) ≡ Function) → has_main is ≡ true → MainAt s is
  main_place [] s number leveled may all count lawful tells has kinds some = absurd (cc)
  main_place (tree.Constant c ∷ is) s number (cons _ leveled) may all count lawful tells has kinds some =
      let i = tree.Constant c in
      let rest = items_notes (after_item s i) is in
      let m = main_place is (after_item s i) number leveled (tt, may) (tt, all) count (lawful-rest (item_notes s i) rest lawful) (tells-rest rs (item_notes s i) rest tells) has kinds some in
      record { number = m.number; function = m.function; named = m.named; at = m.at; place = m.place; is_there = m.is_there; own_tasks = m.own_tasks; rest = m.rest; own_captures = m.own_captures }
  main_place (tree.Function f ∷ is) s number (cons (IsItem.function _ body) leveled) may all count lawful tells has kinds some =
      by_case (f.name.id == main_id) refl
      (λ other.
      let i = tree.Function f in
      let rest = items_notes (after_item s i) is in
      let first : number + 0 ≡ number = omega arith in
      main_place is (after_item s i) (suc number) leveled (next_may f s number count may has.0 (λ o. ap (kind_at code) (sym first) ∙ kinds 0 f refl o)) (tt, all) (omega (arith, functions_behind s f, count))
      (lawful-rest (item_notes s i) rest lawful) (tells-rest rs (item_notes s i) rest tells) has.1
      (λ k x at_k o. let e : suc number + k ≡ number + suc k = omega arith in ap (kind_at code) e ∙ kinds (suc k) x at_k o)
      (sym (ap (λ b. (b && is_int f.ty && is_empty (param_list f.params)) || has_main is) other) ∙ some))
    where
      i : tree.ItemTree
      i = tree.Function f

      rest : List Note
      rest = items_notes (after_item s (tree.Function f)) is

      by_case : (t : Bool) → (f.name.id == main_id) ≡ t → ((f.name.id == main_id) ≡ false → MainAt (after_item s (tree.Function f)) is) →
          MainAt s (tree.Function f ∷ is)
      by_case true e next = record {
        number = number;
        function = f;
        named = e;
        at = here f is s number body may all lawful tells has.0;
        place = 0;
        is_there = refl;
        own_tasks = ap (λ t. if t then all_tasks_of f.body else program_tasks is) e;
        rest = captures rest;
        own_captures =
            captures_both (item_notes s i) rest
            ∙ ap (λ cs. cs ++ captures rest) (captures_both (front s f) (stmts_notes (in_body s f) f.body) ∙ ap (λ cs. cs ++ captures (stmts_notes (in_body s f) f.body)) (none_front (programs.in_function s f.name.id) (param_list f.params)));
      }
      by_case false e next =
          let m = next e in
          record {
            number = m.number;
            function = m.function;
            named = m.named;
            at = m.at;
            place = suc m.place;
            is_there = m.is_there;
            own_tasks = ap (λ t. if t then all_tasks_of f.body else program_tasks is) e ∙ m.own_tasks;
            rest = m.rest;
            own_captures = captures_both (item_notes s i) rest ∙ ap (λ cs. cs ++ captures rest) (no_captures s f e) ∙ m.own_captures;
          }
