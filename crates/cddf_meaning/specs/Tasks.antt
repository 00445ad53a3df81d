-- The tasks of a program, in the order of the text, found by names alone.
use Rattle.std.specs.Prelude.{ℕ, ◌==◌, ◌&&◌, Bool, true, false, not, is_none, if◌then◌else◌, List, [], ◌∷◌, ◌++◌, map, filter, fold}
use Rattle.cddf_meaning.specs.Functions.{item_unsigned}
use Rattle.cddf_meaning.specs.declared.known_name.KnownName.{KnownName}
use Rattle.cddf_meaning.specs.declared.site.Site.{Site}
use Rattle.cddf_meaning.specs.declared.typed_name.TypedName.{TypedName}
use Rattle.os_ast.specs.FreeNames.{task_names}
use Rattle.os_ast.specs.Names.{osin_id, osout_id, osin_len_id}
use Rattle.os_ast.specs.Notes.Programs.{param_list, global_id}
use Rattle.os_ast.specs.ClauseMembers.{ClauseMember, is_in, item_ids, members}
use Rattle.os_ast.specs.Trees as tree
use Rattle.os_ast.specs.Unsigned.{is_unsigned}
use Rattle.os_ast.specs.declared.expr.Mark.{Mark}
use Rattle.os_ast.specs.declared.program.Param.{Param}

-- A task. What its body sees of the control program has the types that it has there.
pub record Task : Type 0 where
  -- the token that begins its pragma
  pub mark : Mark
  -- its items and `firstprivate` names, in the order of its clauses
  pub members : List ClauseMember
  pub body : tree.StmtTree
  -- the names of the scalars that it captures, in the order of their declarations
  pub captured : List TypedName
  -- the names of its items, in the order of its clauses
  pub items : List TypedName

abbrev pub known : ℕ → Bool → Bool → KnownName
known id scalar unsigned = record { id = id; scalar = scalar; unsigned = unsigned }

-- What is in scope is listed from the oldest declaration on.

-- In the control program a declarator without a size is a scalar or a stream. It is of the type of its declaration.
abbrev pub known_declarator : Bool → tree.DeclaratorTree → KnownName
known_declarator unsigned d = known d.name.id (not d.stream && is_none d.size) unsigned

abbrev pub known_start : tree.StartTree → List KnownName
known_start (tree.StartTree.Declare ty ds) = map (known_declarator (is_unsigned ty)) ds
known_start _ = []

-- what a statement of the control program declares in the scope in which it stands
abbrev pub known_behind : tree.StmtTree → List KnownName
known_behind (tree.StmtTree.Declare ty ds) = map (known_declarator (is_unsigned ty)) ds
known_behind (tree.If c a) = known_behind a
known_behind (tree.IfElse c a b) = known_behind a ++ known_behind b
known_behind (tree.While c a) = known_behind a
known_behind _ = []

abbrev pub known_item : tree.ItemTree → KnownName
known_item i = known (global_id i) false (item_unsigned i)

abbrev pub known_param : Param → KnownName
known_param p = known p.name.id true (is_unsigned p.ty)

-- what is in scope round the body of `main`, behind these items of the file
abbrev pub known_in_main : List tree.ItemTree → tree.FunctionTree → List KnownName
known_in_main items f = map known_item items
    ++ (known osin_id false false ∷ known osout_id false false ∷ known osin_len_id true false ∷ map known_param (param_list f.params))

-- the names of a list but for one
abbrev pub others : ℕ → List ℕ → List ℕ
others id [] = []
others id (i ∷ is) = if i == id then others id is else i ∷ others id is

-- a scalar is the newest of its name; another declaration hides it
abbrev pub with_known : List ℕ → KnownName → List ℕ
with_known ids k = others k.id ids ++ (if k.scalar then k.id ∷ [] else [])

abbrev pub with_all_known : List ℕ → List KnownName → List ℕ
with_all_known ids ks = fold with_known ids ks

-- the names in `ids` that are among `names`
abbrev pub among : List ℕ → List ℕ → List ℕ
among names ids = filter (λ id. is_in id names) ids

-- whether the newest of a name is of the type `unsigned`; where there is none, what is said of it elsewhere
abbrev pub known_flag : Bool → List KnownName → ℕ → Bool
known_flag elsewhere [] id = elsewhere
known_flag elsewhere (k ∷ ks) id = known_flag (if k.id == id then k.unsigned else elsewhere) ks id

abbrev pub typed_known : List KnownName → ℕ → TypedName
typed_known ks id = record { id = id; unsigned = known_flag false ks id }

-- a task where this is in scope
abbrev pub task_at : List KnownName → Mark → List tree.ClauseTree → tree.StmtTree → Task
task_at ks m cs body = record {
  mark = m;
  members = members cs;
  body = body;
  captured = map (typed_known ks) (among (task_names (members cs) body) (with_all_known [] ks));
  items = map (typed_known ks) (item_ids (members cs));
}

-- The tasks in a statement, where this is in scope. No task stands in a task.
abbrev mutual
  pub tasks_in : List KnownName → tree.StmtTree → List Task
  tasks_in ks (tree.Block ss) = tasks_in_all ks ss
  tasks_in ks (tree.If c a) = tasks_in ks a
  tasks_in ks (tree.IfElse c a b) = tasks_in ks a ++ tasks_in (ks ++ known_behind a) b
  tasks_in ks (tree.While c a) = tasks_in ks a
  tasks_in ks (tree.For start test step a) = tasks_in (ks ++ known_start start) a
  tasks_in ks (tree.Task m cs a) = task_at ks m cs a ∷ []
  tasks_in ks _ = []

  -- the tasks in the statements of a block
  pub tasks_in_all : List KnownName → tree.Stmts → List Task
  tasks_in_all ks tree.no_stmts = []
  tasks_in_all ks (tree.stmt a rest) = tasks_in ks a ++ tasks_in_all (ks ++ known_behind a) rest

abbrev pub ids : List TypedName → List ℕ
ids names = map (λ (n : TypedName). n.id) names

-- the tasks as their pragmas find them
abbrev pub sites_of : List Task → List Site
sites_of tasks = map (λ (t : Task). record { place = t.mark.place; captured = ids t.captured }) tasks
