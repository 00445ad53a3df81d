-- Where a function stands in a lawful program, with no code beside it.
use Rattle.std.proofs.Common.{◌≡◌, ℕ, ◌==◌, ◌&&◌, ◌||◌, Bool, true, false, if◌then◌else◌, List, [], ◌∷◌, ◌++◌, length, Some, refl, sym, ap, ◌∙◌, arith}
use Rattle.cddf_meaning.specs.File.{File}
use Rattle.cddf_meaning.specs.Functions.{with_item, with_items}
use Rattle.cddf_meaning.specs.Moves.{CallsFall}
use Rattle.cddf_meaning.specs.Program.{Main}
use Rattle.cddf_meaning.specs.Scoped.{scoped_main_at, scoped_main_behind}
use Rattle.cddf_meaning.specs.declared.variable.Variable.TheVariants as variable
use Rattle.cddf_meaning.proofs.Files.{item-falls}
use Rattle.os_ast.specs.Leveled.{AreAll, cons, IsItem, AreStmts}
use Rattle.os_ast.specs.Names.{Scope, main_id, constant_value}
use Rattle.os_ast.specs.Notes.Kinds.{Note, Global}
use Rattle.os_ast.specs.Notes.Programs.{param_list, params_notes, after_item, after_items, item_notes, items_notes, in_body, global_id}
use Rattle.os_ast.specs.Notes.Programs as programs
use Rattle.os_ast.specs.Notes.Statements.{after_stmts, stmts_notes}
use Rattle.os_ast.specs.Trees as tree
use Rattle.os_ast.specs.Unsigned.{is_unsigned}
use Rattle.os_ast.specs.Violations.{is_int, is_empty, has_main}
use Rattle.os_ast.specs.declared.names.Entity.TheVariants as entity
use Rattle.os_ast.specs.declared.names.Resolved.{Resolved}
use Rattle.os_code.specs.declared.parts.Parts.{Parts}
use Rattle.lowering_relation.specs.Tasks.{all_tasks_of, program_tasks}
use Rattle.lowering_relation.proofs.Context.{IsCallable}
use Rattle.lowering_relation.proofs.Files.{AllOfFile, fits_more, same_calls, bare_main}
use Rattle.lowering_relation.proofs.Functions.{FileFits}
use Rattle.window_check_laws.specs.Globals.{AreApart}
use Rattle.window_check_laws.specs.Order.{InOrder}
use Rattle.window_check_laws.specs.Told.{Tells, AreLawful}
use Rattle.window_check_laws.proofs.Told.{tells-first, tells-rest, lawful-first, lawful-rest}

-- Where there is no code, no call stands in it.
abbrev pub no_code : Parts
no_code = record { instrs = []; units = []; sites = []; main = 0; streams = 0 }

nothing_called : (file : File) (place number params : ℕ) → IsCallable no_code file place number params
nothing_called file place number params callers args p stack m turns len at_turn at_call = absurd (cc)

-- a function, and what is known of the file before it
pub record IsPlaced (rs : List Resolved) (file : File) (s : Scope) (f : tree.FunctionTree) : Type 0 where
  pub falls : CallsFall file
  pub fits : FileFits no_code file s.entries
  pub all : AllOfFile s.entries
  pub leveled : AreStmts f.body
  pub lawful : AreLawful (stmts_notes (in_body s f) f.body)
  pub tells : Tells rs (stmts_notes (in_body s f) f.body)

pub placed : (rs : List Resolved) → InOrder rs → (items rest : List tree.ItemTree) (f : tree.FunctionTree) (file : File) (s : Scope) → AreAll IsItem (items ++ tree.Function f ∷ rest) → CallsFall file →
    FileFits no_code file s.entries → AllOfFile s.entries → AreLawful (items_notes s (items ++ tree.Function f ∷ rest)) → Tells rs (items_notes s (items ++ tree.Function f ∷ rest)) →
    IsPlaced rs (with_items file items) (after_items s items) f
placed rs ordered [] rest f file s (cons (IsItem.function _ body) _) falls fits all lawful tells =
    let front : List Note = Global s f.name ∷ params_notes (programs.in_function s f.name.id) (param_list f.params) in
    let own = stmts_notes (in_body s f) f.body in
    let behind = items_notes (after_item s (tree.Function f)) rest in
    record {
      falls = falls;
      fits = fits;
      all = all;
      leveled = body;
      lawful = lawful-rest front own (lawful-first (item_notes s (tree.Function f)) behind lawful);
      tells = tells-rest rs front own (tells-first rs (item_notes s (tree.Function f)) behind tells);
    }
placed rs ordered (tree.Constant x ∷ items) rest f file s (cons _ leveled) falls fits all lawful tells =
    let i = tree.Constant x in
    let behind = items_notes (after_item s i) (items ++ tree.Function f ∷ rest) in
    placed rs ordered items rest f (with_item file i) (after_item s i) leveled (item-falls file falls i)
    (fits_more no_code file (with_item file i) s.entries (record { id = x.name.id; depth = s.depth; entity = entity.Constant (constant_value x); unsigned = is_unsigned x.ty }) (variable.Constant (constant_value x)) fits (omega arith) (λ place args turns lt. refl) refl refl) (tt, all)
    (lawful-rest (item_notes s i) behind lawful) (tells-rest rs (item_notes s i) behind tells)
placed rs ordered (tree.Function g ∷ items) rest f file s (cons _ leveled) falls fits all lawful tells =
    let i = tree.Function g in
    let number = (after_stmts (in_body s g) g.body).functions in
    let params = length (param_list g.params) in
    let behind = items_notes (after_item s i) (items ++ tree.Function f ∷ rest) in
    placed rs ordered items rest f (with_item file i) (after_item s i) leveled (item-falls file falls i)
    (fits_more no_code file (with_item file i) s.entries (record { id = g.name.id; depth = s.depth; entity = entity.Function number params; unsigned = is_unsigned g.ty }) (variable.Function file.count) fits (omega arith)
    (same_calls no_code rs ordered [] file g) refl (file.count, refl, omega arith, nothing_called (with_item file i) file.count number params)) (tt, all)
    (lawful-rest (item_notes s i) behind lawful) (tells-rest rs (item_notes s i) behind tells)

-- where `main` stands among these items
pub record MainIn (listed : List tree.ItemTree) (file : File) (s : Scope) (m : Main) : Type 0 where
  pub items : List tree.ItemTree
  pub rest : List tree.ItemTree
  pub function : tree.FunctionTree
  pub divided : listed ≡ items ++ tree.Function function ∷ rest
  pub named : (function.name.id == main_id) ≡ true
  pub is : m ≡ scoped_main_at (with_items file items) (after_items s items) function
  pub tasks : program_tasks listed ≡ all_tasks_of function.body
  pub depth : (after_items s items).depth ≡ s.depth
  -- it has no parameters
  pub bare : (ids : List ℕ) → AreApart ids listed → has_main listed ≡ true → param_list function.params ≡ []

further : (i : tree.ItemTree) (is : List tree.ItemTree) (file : File) (s : Scope) (m : Main) → program_tasks (i ∷ is) ≡ program_tasks is → has_main (i ∷ is) ≡ has_main is → (after_item s i).depth ≡ s.depth →
    MainIn is (with_item file i) (after_item s i) m → MainIn (i ∷ is) file s m
further i is file s m tasks same deep h = record {
  items = i ∷ h.items;
  rest = h.rest;
  function = h.function;
  divided = ap (λ xs. i ∷ xs) h.divided;
  named = h.named;
  is = h.is;
  tasks = tasks ∙ h.tasks;
  depth = h.depth ∙ deep;
  bare = λ ids apart has. h.bare (global_id i ∷ ids) apart.1 (sym same ∙ has);
}

pub main_in : (is : List tree.ItemTree) (file : File) (s : Scope) (m : Main) → scoped_main_behind file s is ≡ Some m → MainIn is file s m
main_in [] file s m found = absurd (cc)
main_in (tree.Constant x ∷ is) file s m found = further (tree.Constant x) is file s m refl refl refl (main_in is (with_item file (tree.Constant x)) (after_item s (tree.Constant x)) m found)
main_in (tree.Function f ∷ is) file s m found = by_case (f.name.id == main_id) refl found (λ k. main_in is (with_item file (tree.Function f)) (after_item s (tree.Function f)) m k)
  where
    by_case : (t : Bool) → (f.name.id == main_id) ≡ t → (if t then Some (scoped_main_at file s f) else scoped_main_behind (with_item file (tree.Function f)) (after_item s (tree.Function f)) is) ≡ Some m →
        (scoped_main_behind (with_item file (tree.Function f)) (after_item s (tree.Function f)) is ≡ Some m → MainIn is (with_item file (tree.Function f)) (after_item s (tree.Function f)) m) → MainIn (tree.Function f ∷ is) file s m
    by_case true e k next =
        let same : scoped_main_at file s f ≡ m = cc in
        record {
          items = [];
          rest = is;
          function = f;
          divided = refl;
          named = e;
          is = sym same;
          tasks = ap (λ t. if t then all_tasks_of f.body else program_tasks is) e;
          depth = refl;
          bare = λ ids apart h. bare_main f is ids e apart h;
        }
    by_case false e k next =
        further (tree.Function f) is file s m (ap (λ t. if t then all_tasks_of f.body else program_tasks is) e) (ap (λ t. (t && is_int f.ty && is_empty (param_list f.params)) || has_main is) e) refl (next k)
