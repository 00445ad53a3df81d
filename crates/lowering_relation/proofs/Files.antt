-- What stands before `main` in the file is known to it, and its calls do what their functions do.
use Rattle.std.proofs.Common.{◌≡◌, ℕ, suc, ◌+◌, ◌<◌, ◌≤◌, ◌==◌, ◌&&◌, ◌||◌, Bool, true, false, if◌then◌else◌, List, [], ◌∷◌, ◌++◌, length, Option, Some, ℤ, refl, sym, ap, ◌∙◌, subst, arith, eq-eqb, eqb-true}
use Rattle.std.proofs.lemmas.Bool.{or_left, or_right}
use Rattle.std.specs.Prelude.{⊤}
use Rattle.cddf_meaning.specs.File.{File}
use Rattle.cddf_meaning.specs.Functions.{call_function, with_item, empty_file}
use Rattle.cddf_meaning.specs.Moves.{CallsFall}
use Rattle.cddf_meaning.specs.Program.{Main}
use Rattle.cddf_meaning.specs.Variables.{bind, find, flag_or}
use Rattle.cddf_meaning.specs.declared.variable.Variable.{Variable}
use Rattle.cddf_meaning.specs.Scoped.{scoped_main_at, scoped_main_behind}
use Rattle.cddf_meaning.specs.declared.variable.Variable.TheVariants as variable
use Rattle.cddf_meaning.proofs.Files.{item-falls}
use Rattle.os_ast.specs.Leveled.{AreAll, cons, IsItem, AreStmts}
use Rattle.os_ast.specs.Names.{Scope, lookup, entity_of, flag_of, enter, in_unit, main_id, constant_value}
use Rattle.os_ast.specs.Notes.Kinds.{Note, Global}
use Rattle.os_ast.specs.Notes.Programs.{owner_of, param_list, round_body, after_params, params_notes, after_item, after_items, after_function, item_notes, items_notes, in_body, global_id}
use Rattle.os_ast.specs.Notes.Programs as programs
use Rattle.os_ast.specs.Notes.Statements.{after_stmts, stmts_notes}
use Rattle.os_ast.specs.Trees as tree
use Rattle.os_ast.specs.ClauseMembers.{is_in}
use Rattle.os_ast.specs.Unsigned.{is_unsigned}
use Rattle.os_ast.specs.Violations.{captures, is_int, is_empty, is_main, has_main}
use Rattle.os_ast.specs.declared.names.Entity.{Entity}
use Rattle.os_ast.specs.declared.names.Entity.TheVariants as entity
use Rattle.os_ast.specs.declared.names.Entry.{Entry}
use Rattle.os_ast.specs.declared.names.Owner.{Owner}
use Rattle.os_ast.specs.declared.names.Owner.TheVariants as owner
use Rattle.os_ast.specs.declared.names.Resolved.{Resolved}
use Rattle.os_ast.specs.declared.program.Param.{Param}
use Rattle.os_code.specs.declared.parts.Parts.{Parts}
use Rattle.lowering_relation.specs.Names.{told_at}
use Rattle.lowering_relation.specs.Programs.{size_by, HasFunction, HasMain, HasUnit, HasFunctions}
use Rattle.lowering_relation.specs.Tasks.{TaskTree, all_tasks_of, program_tasks}
use Rattle.lowering_relation.proofs.Context.{Context, Agree, IsCallable}
use Rattle.lowering_relation.proofs.Functions.{params_slots, Known, FileFits, function_context, function_runs}
use Rattle.lowering_relation.proofs.NoTasks.{IsOther, captures_both, none_both, none_stmts}
use Rattle.lowering_relation.proofs.Sizes.{stmts_sizes}
use Rattle.lowering_relation.proofs.Steps.{at, pushed, onto, Meets}
use Rattle.lowering_relation.proofs.StreamCounts.{stmts_streams, body_streams, items_more}
use Rattle.window_check_laws.specs.Globals.{AreApart}
use Rattle.window_check_laws.specs.Order.{InOrder}
use Rattle.window_check_laws.specs.Sums.{stmts_slots}
use Rattle.window_check_laws.specs.Told.{Tells, AreLawful}
use Rattle.window_check_laws.proofs.Counted.{functions_behind}
use Rattle.window_check_laws.proofs.Summed.{summed-stmts}
use Rattle.window_check_laws.proofs.Told.{tells-first, tells-rest, lawful-first, lawful-rest}

-- what is lawful and told agrees with a context
pub agrees : (c : Context) (ns : List Note) → AreLawful ns → Tells c.names ns → ((n : Note) → c.besides n) → Agree c ns
agrees c [] lawful tells more = tt
agrees c (n ∷ ns) lawful tells more = ((lawful.0, tells.0, more n), agrees c ns lawful.1 tells.1 more)

-- what is known of the file stays known behind a further item
known_on : (code : Parts) (file other : File) (v : Option Variable) (d : Entity) → file.count ≤ other.count →
    ((place : ℕ) (args : List ℤ) (turns : ℕ) → place < file.count → other.calls place args turns ≡ file.calls place args turns) → Known code file v d → Known code other v d
known_on code file other v (entity.Constant x) le same h = h
known_on code file other v (entity.Function number params) le same (place, is, lt, runs) = (
  place,
  is,
  omega (arith, lt, le),
  λ callers args p stack m turns len at_turn at_call. subst (Meets code (at callers p (onto args stack) m turns) (pushed callers (p + 1 + 1) stack m)) (sym (same place args turns lt)) (runs callers args p stack m turns len at_turn at_call),
)
known_on code file other v (entity.Scalar slot) le same h = h
known_on code file other v (entity.Control slot) le same h = h
known_on code file other v entity.InputLength le same h = h
known_on code file other v (entity.Array first size) le same h = h
known_on code file other v (entity.Window slot) le same h = h
known_on code file other v (entity.Stream number) le same h = h
known_on code file other v (entity.Streams first count) le same h = h
known_on code file other v (entity.Element item x) le same h = h
known_on code file other v (entity.View item x) le same h = h

-- with one more declaration
pub fits_more : (code : Parts) (file other : File) (es : List Entry) (e : Entry) (u : Variable) → FileFits code file es → file.count ≤ other.count →
    ((place : ℕ) (args : List ℤ) (turns : ℕ) → place < file.count → other.calls place args turns ≡ file.calls place args turns) →
    other.names ≡ bind e.id e.unsigned u file.names → Known code other (Some u) e.entity → FileFits code other (e ∷ es)
fits_more code file other es e u fits le same named new = record {
  known = λ id d is. subst (λ ns. Known code other (find ns id) d) (sym named) (by_case id d (e.id == id) is);
  flag = λ id. ap (λ ns. flag_or false ns id) named ∙ flag_by id (e.id == id) (fits.flag id);
}
  where
    flag_by : (id : ℕ) (t : Bool) → flag_or false file.names id ≡ flag_of (lookup es id) → (if t then e.unsigned else flag_or false file.names id) ≡ flag_of (if t then Some e else lookup es id)
    flag_by id true h = refl
    flag_by id false h = h

    by_case : (id : ℕ) (d : Entity) (t : Bool) → entity_of (if t then Some e else lookup es id) ≡ Some d → Known code other (if t then Some u else find file.names id) d
    by_case id d true h = let x : e.entity ≡ d = cc in subst (Known code other (Some u)) x new
    by_case id d false h = known_on code file other (find file.names id) d le same (fits.known id d h)

-- the file declares constants and functions alone
abbrev pub IsOfFile : Entity → Type 0
IsOfFile (entity.Constant v) = ⊤
IsOfFile (entity.Function number params) = ⊤
IsOfFile _ = ⊥

abbrev pub AllOfFile : List Entry → Type 0
AllOfFile [] = ⊤
AllOfFile (e ∷ es) = IsOfFile e.entity × AllOfFile es

-- where `main` stands among these items, in this scope
pub record AtMain (code : Parts) (rs : List Resolved) (tasks : List TaskTree) (outer : Scope) (listed : List tree.ItemTree) (m : Main) : Type 0 where
  pub scope : Scope
  pub function : tree.FunctionTree
  pub number : ℕ
  pub is_named : (function.name.id == main_id) ≡ true
  pub is : m ≡ scoped_main_at m.file scope function
  pub falls : CallsFall m.file
  pub fits : FileFits code m.file scope.entries
  pub leveled : AreStmts function.body
  pub lawful : AreLawful (stmts_notes (in_body scope function) function.body)
  pub tells : Tells rs (stmts_notes (in_body scope function) function.body)
  pub has : HasMain code (told_at rs) tasks number function
  pub all : AllOfFile scope.entries
  -- the tasks are its own, and so are the first of those that capture something
  pub own_tasks : program_tasks listed ≡ all_tasks_of function.body
  pub rest : List (List ℕ)
  pub own_captures : captures (items_notes outer listed) ≡ captures (stmts_notes (in_body scope function) function.body) ++ rest
  -- no stream stands before it, and those of the program are no fewer than its own
  pub before : scope.streams ≡ outer.streams
  pub depth : scope.depth ≡ outer.depth
  pub few : (after_stmts (in_body scope function) function.body).streams ≤ (after_items outer listed).streams
  -- it has no parameters
  pub bare : (ids : List ℕ) → AreApart ids listed → has_main listed ≡ true → param_list function.params ≡ []

-- behind an item in which no task of `main` stands
further : {code : Parts} {rs : List Resolved} {tasks : List TaskTree} {outer inner : Scope} (i : tree.ItemTree) (is : List tree.ItemTree) {m : Main} (ns : List Note) →
    program_tasks (i ∷ is) ≡ program_tasks is → captures ns ≡ [] → items_notes outer (i ∷ is) ≡ ns ++ items_notes inner is → after_items outer (i ∷ is) ≡ after_items inner is → inner.streams ≡ outer.streams → inner.depth ≡ outer.depth → is_main i ≡ false →
    AtMain code rs tasks inner is m → AtMain code rs tasks outer (i ∷ is) m
further {outer = outer} {inner = inner} i is ns same none notes behind streams depth other at_main = record {
  scope = at_main.scope;
  function = at_main.function;
  number = at_main.number;
  is_named = at_main.is_named;
  is = at_main.is;
  falls = at_main.falls;
  fits = at_main.fits;
  leveled = at_main.leveled;
  lawful = at_main.lawful;
  tells = at_main.tells;
  has = at_main.has;
  all = at_main.all;
  own_tasks = same ∙ at_main.own_tasks;
  rest = at_main.rest;
  own_captures = ap captures notes ∙ captures_both ns (items_notes inner is) ∙ ap (λ cs. cs ++ captures (items_notes inner is)) none ∙ at_main.own_captures;
  before = at_main.before ∙ streams;
  depth = at_main.depth ∙ depth;
  few = subst (λ (t : Scope). (after_stmts (in_body at_main.scope at_main.function) at_main.function.body).streams ≤ t.streams) (sym behind) at_main.few;
  bare = λ ids apart h. at_main.bare (global_id i ∷ ids) apart.1 (sym (ap (λ b. b || has_main is) other) ∙ h);
}

-- a name that is declared is that of no further item
no_more : (is : List tree.ItemTree) (ids : List ℕ) → is_in main_id ids ≡ true → AreApart ids is → has_main is ≡ false
no_more [] ids h apart = refl
no_more (tree.Constant c ∷ is) ids h apart = no_more is (c.name.id ∷ ids) (or_right (c.name.id == main_id) (is_in main_id ids) h) apart.1
no_more (tree.Function f ∷ is) ids h apart = by_case (f.name.id == main_id) refl (no_more is (f.name.id ∷ ids) (or_right (f.name.id == main_id) (is_in main_id ids) h) apart.1)
  where
    by_case : (t : Bool) → (f.name.id == main_id) ≡ t → has_main is ≡ false → ((t && is_int f.ty && is_empty (param_list f.params)) || has_main is) ≡ false
    by_case true e next = let there : is_in f.name.id ids ≡ true = subst (λ n. is_in n ids ≡ true) (sym (eqb-true f.name.id main_id e)) h in let bad : true ≡ false = sym there ∙ apart.0 in absurd (cc)
    by_case false e next = next

pub bare_main : (f : tree.FunctionTree) (is : List tree.ItemTree) (ids : List ℕ) → (f.name.id == main_id) ≡ true → AreApart ids (tree.Function f ∷ is) → has_main (tree.Function f ∷ is) ≡ true → param_list f.params ≡ []
bare_main f is ids named apart h = by_params (is_int f.ty) (param_list f.params) (sym (ap (λ b. (b && is_int f.ty && is_empty (param_list f.params)) || has_main is) named) ∙ h)
  where
    none : has_main is ≡ false
    none = no_more is (f.name.id ∷ ids) (or_left (f.name.id == main_id) (is_in main_id ids) named) apart.1

    by_params : (int : Bool) (ns : List Param) → ((int && is_empty ns) || has_main is) ≡ true → ns ≡ []
    by_params int [] k = refl
    by_params true (n ∷ ns) k = let bad : true ≡ false = sym k ∙ none in absurd (cc)
    by_params false (n ∷ ns) k = let bad : true ≡ false = sym k ∙ none in absurd (cc)

pub params_owner : (ns : List Param) (s : Scope) → (after_params s ns).owner ≡ s.owner
params_owner [] s = refl
params_owner (n ∷ ns) s = params_owner ns (programs.after_param s n)

pub none_front : (s : Scope) (ns : List Param) → captures (params_notes s ns) ≡ []
none_front s [] = refl
none_front s (n ∷ ns) = none_front (programs.after_param s n) ns

module _ (code : Parts) (rs : List Resolved) (ordered : InOrder rs) (tasks : List TaskTree) where
  pub is_function : (id : ℕ) → (id == main_id) ≡ false → owner_of id ≡ owner.OfFunction
  is_function id h = ap (λ t. if t then owner.OfMain else owner.OfFunction) h

  abbrev pub inside : Owner → Scope → Scope
  inside o s = enter (round_body o (enter (in_unit o s)))

  body_notes : (s : Scope) (f : tree.FunctionTree) → List Note
  body_notes s f = stmts_notes (in_body s f) f.body

  module _ (s : Scope) (f : tree.FunctionTree) where
    abbrev front : List Note
    front = Global s f.name ∷ params_notes (programs.in_function s f.name.id) (param_list f.params)

    lawful_body : (rest : List Note) → AreLawful (item_notes s (tree.Function f) ++ rest) → AreLawful (stmts_notes (in_body s f) f.body)
    lawful_body rest h = lawful-rest front (stmts_notes (in_body s f) f.body) (lawful-first (item_notes s (tree.Function f)) rest h)

    tells_body : (rest : List Note) → Tells rs (item_notes s (tree.Function f) ++ rest) → Tells rs (stmts_notes (in_body s f) f.body)
    tells_body rest h = tells-rest rs front (stmts_notes (in_body s f) f.body) (tells-first rs (item_notes s (tree.Function f)) rest h)

  -- a function that isn't `main` is callable behind its body
  callable : (file : File) (falls : CallsFall file) (s : Scope) (f : tree.FunctionTree) (number : ℕ) → (f.name.id == main_id) ≡ false → FileFits code file s.entries → AreStmts f.body →
      AreLawful (stmts_notes (in_body s f) f.body) → Tells rs (stmts_notes (in_body s f) f.body) → HasFunction code (told_at rs) number f →
      IsCallable code (with_item file (tree.Function f)) file.count number (length (param_list f.params))
  callable file falls s f number other fits leveled lawful tells has callers args p stack m turns len at_turn at_call =
      let own = is_function f.name.id other in
      let ns = param_list f.params in
      let s0 = programs.in_function s f.name.id in
      let none : s0.slots ≡ 0 = ap (λ o. (inside o s).slots) own in
      let is_owner : s0.owner ≡ owner.OfFunction = ap (λ o. (inside o s).owner) own in
      let here : s0.entries ≡ s.entries = ap (λ o. (inside o s).entries) own in
      let caps : s0.captured ≡ [] = ap (λ o. (inside o s).captured) own in
      let sum : (after_stmts (in_body s f) f.body).slots ≡ (in_body s f).slots + stmts_slots (in_body s f).owner (size_by (told_at rs)) f.body =
      summed-stmts (size_by (told_at rs)) (in_body s f) f.body (stmts_sizes rs ordered f.body (in_body s f) lawful tells) in
      let body_owner : (in_body s f).owner ≡ owner.OfFunction = params_owner ns s0 ∙ is_owner in
      let size : stmts_slots (in_body s f).owner (size_by (told_at rs)) f.body ≡ stmts_slots owner.OfFunction (size_by (told_at rs)) f.body = ap (λ o. stmts_slots o (size_by (told_at rs)) f.body) body_owner in
      let first : (in_body s f).slots ≡ s0.slots + length ns = params_slots ns s0 in
      subst (λ t. Meets code (at callers p (onto args stack) m turns) (pushed callers (p + 1 + 1) stack m) (if t then call_function file f args turns else file.calls file.count args turns)) (sym (eq-eqb file.count file.count refl))
      (function_runs code file falls rs ordered s.entries fits f number s0 has.unit callers args p stack m turns leveled (omega arith) is_owner caps none here
      (λ m. agrees (function_context code file falls rs ordered s.entries fits m) (stmts_notes (in_body s f) f.body) lawful tells (λ n. tt))
      (record {
        end = has.end;
        last = has.last;
        body = has.body;
        off = has.falls_off;
        args = has.args;
        room = omega (arith, has.args, has.slots);
        slots = omega (arith, sum, size, first, none, has.slots);
      })
      has.is_unit len at_turn at_call)

  pub same_calls : (file : File) (f : tree.FunctionTree) (place : ℕ) (args : List ℤ) (turns : ℕ) → place < file.count → (with_item file (tree.Function f)).calls place args turns ≡ file.calls place args turns
  same_calls file f place args turns lt = by_case (place == file.count) refl
    where
      by_case : (t : Bool) → (place == file.count) ≡ t → (if t then call_function file f args turns else file.calls place args turns) ≡ file.calls place args turns
      by_case true e = let x : place ≡ file.count = eqb-true place file.count e in absurd (omega (arith, x, lt))
      by_case false e = refl

  pub finds_main : (is : List tree.ItemTree) (file : File) (s : Scope) (number : ℕ) (m : Main) → AreAll IsItem is → CallsFall file → FileFits code file s.entries → AllOfFile s.entries → s.functions ≡ number →
      AreLawful (items_notes s is) → Tells rs (items_notes s is) → HasFunctions code (told_at rs) tasks number is → scoped_main_behind file s is ≡ Some m → AtMain code rs tasks s is m
  finds_main [] file s number m leveled falls fits all count lawful tells has is = absurd (cc)
  finds_main (tree.Constant x ∷ is) file s number m (cons _ leveled) falls fits all count lawful tells has found =
      let i = tree.Constant x in
      let rest = items_notes (after_item s i) is in
      further i is (item_notes s i) refl refl refl refl refl refl refl
      (finds_main is (with_item file i) (after_item s i) number m leveled (item-falls file falls i)
      (fits_more code file (with_item file i) s.entries (record { id = x.name.id; depth = s.depth; entity = entity.Constant (constant_value x); unsigned = is_unsigned x.ty }) (variable.Constant (constant_value x)) fits (omega arith) (λ place args turns lt. refl) refl refl) (tt, all)
      count (lawful-rest (item_notes s i) rest lawful) (tells-rest rs (item_notes s i) rest tells) has found)
  finds_main (tree.Function f ∷ is) file s number m (cons (IsItem.function _ body) leveled) falls fits all count lawful tells has found =
      by_case (f.name.id == main_id) refl has.0 found
      (λ other unit found2.
      let i = tree.Function f in
      let rest = items_notes (after_item s i) is in
      let more : (after_item s i).functions ≡ s.functions + 1 = functions_behind s f in
      let runs = callable file falls s f number other fits body (lawful_body s f rest lawful) (tells_body s f rest tells) unit in
      further i is (item_notes s i) (ap (λ t. if t then all_tasks_of f.body else program_tasks is) other) (none_both front_notes (stmts_notes (in_body s f) f.body) (none_front (programs.in_function s f.name.id) (param_list f.params)) (none_stmts f.body (in_body s f) (not_main other))) refl refl
      (stmts_streams body (in_body s f) (λ e. absurd (not_main other e)) (lawful_body s f rest lawful) ∙ body_streams s f) refl (ap (λ t. t && is_int f.ty && is_empty (param_list f.params)) other)
      (finds_main is (with_item file i) (after_item s i) (suc number) m leveled (item-falls file falls i)
      (fits_more code file (with_item file i) s.entries (record { id = f.name.id; depth = s.depth; entity = entity.Function (after_stmts (in_body s f) f.body).functions (length (param_list f.params)); unsigned = is_unsigned f.ty }) (variable.Function file.count) fits (omega arith) (same_calls file f) refl
      (file.count, refl, omega arith, subst (λ k. IsCallable code (with_item file i) file.count k (length (param_list f.params))) (omega (arith, more, count)) runs)) (tt, all)
      (omega (arith, more, count)) (lawful-rest (item_notes s i) rest lawful) (tells-rest rs (item_notes s i) rest tells) has.1 found2))
    where
      front_notes : List Note
      front_notes = Global s f.name ∷ params_notes (programs.in_function s f.name.id) (param_list f.params)

      not_main : (f.name.id == main_id) ≡ false → IsOther (in_body s f).owner
      not_main other e =
          let x : (in_body s f).owner ≡ owner.OfFunction = params_owner (param_list f.params) (programs.in_function s f.name.id) ∙ ap (λ o. (inside o s).owner) (is_function f.name.id other) in
          let y : owner.OfFunction ≡ owner.OfMain = sym x ∙ e in
          absurd (cc)

      by_case : (t : Bool) → (f.name.id == main_id) ≡ t → HasUnit t code (told_at rs) tasks number f → (if t then Some (scoped_main_at file s f) else scoped_main_behind (with_item file (tree.Function f)) (after_item s (tree.Function f)) is) ≡ Some m →
          ((f.name.id == main_id) ≡ false → HasFunction code (told_at rs) number f → scoped_main_behind (with_item file (tree.Function f)) (after_item s (tree.Function f)) is ≡ Some m → AtMain code rs tasks s (tree.Function f ∷ is) m) → AtMain code rs tasks s (tree.Function f ∷ is) m
      by_case true e unit found2 go =
          let same : scoped_main_at file s f ≡ m = cc in
          subst (AtMain code rs tasks s (tree.Function f ∷ is)) same
          (record {
            scope = s;
            function = f;
            number = number;
            is_named = e;
            is = refl;
            falls = falls;
            fits = fits;
            leveled = body;
            lawful = lawful_body s f (items_notes (after_item s (tree.Function f)) is) lawful;
            tells = tells_body s f (items_notes (after_item s (tree.Function f)) is) tells;
            has = unit;
            all = all;
            own_tasks = ap (λ t. if t then all_tasks_of f.body else program_tasks is) e;
            rest = captures (items_notes (after_item s (tree.Function f)) is);
            before = refl;
            depth = refl;
            few = items_more is (after_item s (tree.Function f));
            bare = λ ids apart h. bare_main f is ids e apart h;
            own_captures =
                captures_both (item_notes s (tree.Function f)) (items_notes (after_item s (tree.Function f)) is)
                ∙ ap (λ cs. cs ++ captures (items_notes (after_item s (tree.Function f)) is))
                (captures_both (Global s f.name ∷ params_notes (programs.in_function s f.name.id) (param_list f.params)) (stmts_notes (in_body s f) f.body)
                ∙ ap (λ cs. cs ++ captures (stmts_notes (in_body s f) f.body)) (none_front (programs.in_function s f.name.id) (param_list f.params)));
          })
      by_case false e unit found2 go = go e unit found2

  pub nothing_fits : FileFits code empty_file []
  nothing_fits = record { known = λ id d is. absurd (cc); flag = λ id. refl }
