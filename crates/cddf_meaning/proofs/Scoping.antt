-- The tasks of the control program are those that a walk over scopes finds.
use Rattle.std.proofs.Common.{◌≡◌, ℕ, ◌==◌, ◌&&◌, Bool, true, false, not, is_none, if◌then◌else◌, List, [], ◌∷◌, ◌++◌, map, Option, Some, None, refl, ap, sym, eqb-true, ◌∙◌}
use Rattle.std.proofs.lemmas.List.{append_assoc, append-nil}
use Rattle.cddf_meaning.specs.Tasks.{Task, among, task_at, tasks_in, tasks_in_all, known, known_behind, known_declarator, known_flag, known_in_main, known_item, known_param, known_start, others, typed_known, with_all_known, with_known}
use Rattle.cddf_meaning.specs.Scoped.{scoped_task_at, scoped_tasks_in, scoped_tasks_in_all, scoped_name, scoped_main_at, scoped_main_behind, scoped_main}
use Rattle.cddf_meaning.specs.Program.{main_at, main_behind, main_of}
use Rattle.cddf_meaning.specs.File.{File}
use Rattle.cddf_meaning.specs.Functions.{empty_file, file_of, with_item, with_items}
use Rattle.cddf_meaning.specs.declared.known_name.KnownName.{KnownName}
use Rattle.os_ast.specs.Captured as captures
use Rattle.os_ast.specs.Captured.{Scalar}
use Rattle.os_ast.specs.FreeNames.{task_names}
use Rattle.os_ast.specs.Names.{Scope, enter, flag_of, in_loop, lookup, main_id, osin_id, osout_id, osin_len_id, typed}
use Rattle.os_ast.specs.Notes.Declarators.{after_declarator, after_declarators, after_start, declared_entity, form, form_with, form_entity, scalar_entity, taken}
use Rattle.os_ast.specs.Notes.Programs as notes
use Rattle.os_ast.specs.Notes.Programs.{after_item, after_items, after_param, after_params, in_body, in_function, param_list}
use Rattle.os_ast.specs.Notes.Statements.{after_stmt, after_stmts}
use Rattle.os_ast.specs.ClauseMembers.{is_in, item_ids, members}
use Rattle.os_ast.specs.Trees as tree
use Rattle.os_ast.specs.Unsigned.{is_unsigned}
use Rattle.os_ast.specs.declared.expr.Mark.{Mark}
use Rattle.os_ast.specs.declared.names.Entity.{Entity}
use Rattle.os_ast.specs.declared.names.Entity.TheVariants as entity
use Rattle.os_ast.specs.declared.names.Entry.{Entry}
use Rattle.os_ast.specs.declared.names.Form.{Form}
use Rattle.os_ast.specs.declared.names.Form.TheVariants as form_of
use Rattle.os_ast.specs.declared.names.Owner.TheVariants as owner
use Rattle.os_ast.specs.declared.program.Param.{Param}

-- what is in scope, by names

abbrev is_scalar : Entity → Bool
is_scalar (entity.Control slot) = true
is_scalar entity.InputLength = true
is_scalar _ = false

abbrev known_of : List Entry → List KnownName
known_of [] = []
known_of (e ∷ es) = known_of es ++ known e.id (is_scalar e.entity) e.unsigned ∷ []

-- captured scalars, by their names

abbrev ids : List Scalar → List ℕ
ids cs = map (λ (c : Scalar). c.id) cs

ids-if : (b : Bool) (c : Scalar) (xs ys : List Scalar) → ids (if b then xs else c ∷ ys) ≡ (if b then ids xs else c.id ∷ ids ys)
ids-if true c xs ys = refl
ids-if false c xs ys = refl

ids-keep : (b : Bool) (c : Scalar) (xs ys : List Scalar) → ids (if b then c ∷ xs else ys) ≡ (if b then c.id ∷ ids xs else ids ys)
ids-keep true c xs ys = refl
ids-keep false c xs ys = refl

ids-append : (xs ys : List Scalar) → ids (xs ++ ys) ≡ ids xs ++ ids ys
ids-append [] ys = refl
ids-append (x ∷ xs) ys = ap (λ is. x.id ∷ is) (ids-append xs ys)

ids-others : (id : ℕ) (cs : List Scalar) → ids (captures.others id cs) ≡ others id (ids cs)
ids-others id [] = refl
ids-others id (c ∷ cs) =
    ids-if (c.id == id) c (captures.others id cs) (captures.others id cs)
    ∙ ap (λ is. if c.id == id then is else c.id ∷ is) (ids-others id cs)

ids-among : (names : List ℕ) (cs : List Scalar) → ids (captures.among names cs) ≡ among names (ids cs)
ids-among names [] = refl
ids-among names (c ∷ cs) =
    ids-keep (is_in c.id names) c (captures.among names cs) (captures.among names cs)
    ∙ ap (λ is. if is_in c.id names then c.id ∷ is else is) (ids-among names cs)

ids-of : (id : ℕ) (e : Entity) → ids (captures.scalar_of id e) ≡ (if is_scalar e then id ∷ [] else [])
ids-of id (entity.Constant v) = refl
ids-of id (entity.Function n k) = refl
ids-of id (entity.Scalar slot) = refl
ids-of id (entity.Control slot) = refl
ids-of id entity.InputLength = refl
ids-of id (entity.Array slot size) = refl
ids-of id (entity.Window slot) = refl
ids-of id (entity.Stream n) = refl
ids-of id (entity.Streams n k) = refl
ids-of id (entity.Element n d) = refl
ids-of id (entity.View n d) = refl

known-last : (is : List ℕ) (ks : List KnownName) (k : KnownName) → with_all_known is (ks ++ k ∷ []) ≡ with_known (with_all_known is ks) k
known-last is [] k = refl
known-last is (x ∷ ks) k = known-last (with_known is x) ks k

ids-scalars : (es : List Entry) → ids (captures.scalars es) ≡ with_all_known [] (known_of es)
ids-scalars [] = refl
ids-scalars (e ∷ es) =
    ids-append (captures.others e.id (captures.scalars es)) (captures.scalar_of e.id e.entity)
    ∙ ap (λ is. is ++ ids (captures.scalar_of e.id e.entity)) (ids-others e.id (captures.scalars es) ∙ ap (others e.id) (ids-scalars es))
    ∙ ap (λ is. others e.id (with_all_known [] (known_of es)) ++ is) (ids-of e.id e.entity)
    ∙ sym (known-last [] (known_of es) (known e.id (is_scalar e.entity) e.unsigned))

-- the types of names in scope
flag-last : (b : Bool) (ks : List KnownName) (k : KnownName) (id : ℕ) →
    known_flag b (ks ++ k ∷ []) id ≡ (if k.id == id then k.unsigned else known_flag b ks id)
flag-last b [] k id = refl
flag-last b (x ∷ ks) k id = flag-last (if x.id == id then x.unsigned else b) ks k id

flag-either : (b : Bool) (e : Entry) (o : Option Entry) → flag_of (if b then Some e else o) ≡ (if b then e.unsigned else flag_of o)
flag-either true e o = refl
flag-either false e o = refl

flag-known : (es : List Entry) (id : ℕ) → flag_of (lookup es id) ≡ known_flag false (known_of es) id
flag-known [] id = refl
flag-known (e ∷ es) id =
    flag-either (e.id == id) e (lookup es id)
    ∙ ap (λ b. if e.id == id then e.unsigned else b) (flag-known es id)
    ∙ sym (flag-last false (known_of es) (known e.id (is_scalar e.entity) e.unsigned) id)

names-known : (es : List Entry) (is : List ℕ) → map (scoped_name es) is ≡ map (typed_known (known_of es)) is
names-known es [] = refl
names-known es (id ∷ is) =
    ap (λ b. record { id = id; unsigned = b } ∷ map (scoped_name es) is) (flag-known es id)
    ∙ ap (λ ns. typed_known (known_of es) id ∷ ns) (names-known es is)

task-found : (s : Scope) (m : Mark) (cs : List tree.ClauseTree) (body : tree.StmtTree) → scoped_task_at s m cs body ≡ task_at (known_of s.entries) m cs body
task-found s m cs body =
    ap (λ ns. record { mark = m; members = members cs; body = body; captured = map (scoped_name s.entries) ns; items = map (scoped_name s.entries) (item_ids (members cs)) })
    (ids-among (task_names (members cs) body) (captures.scalars s.entries) ∙ ap (among (task_names (members cs) body)) (ids-scalars s.entries))
    ∙ ap (λ ns. record { mark = m; members = members cs; body = body; captured = ns; items = map (scoped_name s.entries) (item_ids (members cs)) })
    (names-known s.entries (among (task_names (members cs) body) (with_all_known [] (known_of s.entries))))
    ∙ ap (λ ns. record { mark = m; members = members cs; body = body; captured = map (typed_known (known_of s.entries)) (among (task_names (members cs) body) (with_all_known [] (known_of s.entries))); items = ns })
    (names-known s.entries (item_ids (members cs)))

-- what a declarator and a statement leave in scope

owner-taken : (s : Scope) (f : Form) → (taken s f).owner ≡ s.owner
owner-taken s form_of.Scalar = refl
owner-taken s (form_of.Array n) = refl
owner-taken s form_of.Window = refl
owner-taken s form_of.Stream = refl
owner-taken s (form_of.Streams n) = refl

entries-taken : (s : Scope) (f : Form) → (taken s f).entries ≡ s.entries
entries-taken s form_of.Scalar = refl
entries-taken s (form_of.Array n) = refl
entries-taken s form_of.Window = refl
entries-taken s form_of.Stream = refl
entries-taken s (form_of.Streams n) = refl

unsigned-taken : (s : Scope) (f : Form) → (taken s f).unsigned ≡ s.unsigned
unsigned-taken s form_of.Scalar = refl
unsigned-taken s (form_of.Array n) = refl
unsigned-taken s form_of.Window = refl
unsigned-taken s form_of.Stream = refl
unsigned-taken s (form_of.Streams n) = refl

owner-declarators : (s : Scope) (ds : List tree.DeclaratorTree) → (after_declarators s ds).owner ≡ s.owner
owner-declarators s [] = refl
owner-declarators s (d ∷ ds) = owner-declarators (after_declarator s d) ds ∙ owner-taken s (form s d)

owner-start : (s : Scope) (a : tree.StartTree) → (after_start s a).owner ≡ s.owner
owner-start s tree.StartTree.Empty = refl
owner-start s (tree.StartTree.Declare ty ds) = owner-declarators (typed ty s) ds
owner-start s (tree.StartTree.Change c) = refl

mutual
  owner-stmt : (s : Scope) (a : tree.StmtTree) → (after_stmt s a).owner ≡ s.owner
  owner-stmt s tree.StmtTree.Empty = refl
  owner-stmt s (tree.Block ss) = owner-stmts (enter s) ss
  owner-stmt s (tree.StmtTree.Declare ty ds) = owner-declarators (typed ty s) ds
  owner-stmt s (tree.StmtTree.Change c) = refl
  owner-stmt s (tree.StmtTree.Call f args) = refl
  owner-stmt s (tree.If c a) = owner-stmt s a
  owner-stmt s (tree.IfElse c a b) = owner-stmt (after_stmt s a) b ∙ owner-stmt s a
  owner-stmt s (tree.While c a) = owner-stmt (in_loop s) a
  owner-stmt s (tree.For start test step a) =
      owner-stmt (in_loop (after_start (enter s) start)) a ∙ owner-start (enter s) start
  owner-stmt s (tree.Break m) = refl
  owner-stmt s (tree.Continue m) = refl
  owner-stmt s (tree.Return m e) = refl
  owner-stmt s (tree.Task m cs a) = refl
  owner-stmt s (tree.Tick m t arrow e) = refl
  owner-stmt s (tree.Taskwait m) = refl

  owner-stmts : (s : Scope) (ss : tree.Stmts) → (after_stmts s ss).owner ≡ s.owner
  owner-stmts s tree.no_stmts = refl
  owner-stmts s (tree.stmt a rest) = owner-stmts (after_stmt s a) rest ∙ owner-stmt s a

-- In the control program an array is a window.
form-known : (s : Scope) → s.owner ≡ owner.OfMain → (stream : Bool) (size : Option tree.IndexTree) →
    is_scalar (form_entity s (form_with s stream size)) ≡ (not stream && is_none size)
form-known s h true None = refl
form-known s h true (Some i) = refl
form-known s h false None = rw h refl
form-known s h false (Some i) = rw h refl

declarator-known : (s : Scope) → s.owner ≡ owner.OfMain → (d : tree.DeclaratorTree) →
    known_of (after_declarator s d).entries ≡ known_of s.entries ++ known_declarator s.unsigned d ∷ []
declarator-known s h d =
    ap (λ es. known_of es ++ known d.name.id (is_scalar (declared_entity s d)) (taken s (form s d)).unsigned ∷ []) (entries-taken s (form s d))
    ∙ ap (λ b. known_of s.entries ++ known d.name.id b (taken s (form s d)).unsigned ∷ []) (form-known s h d.stream d.size)
    ∙ ap (λ b. known_of s.entries ++ known d.name.id (not d.stream && is_none d.size) b ∷ []) (unsigned-taken s (form s d))

declarators-known : (s : Scope) → s.owner ≡ owner.OfMain → (ds : List tree.DeclaratorTree) →
    known_of (after_declarators s ds).entries ≡ known_of s.entries ++ map (known_declarator s.unsigned) ds
declarators-known s h [] = sym (append-nil (known_of s.entries))
declarators-known s h (d ∷ ds) =
    declarators-known (after_declarator s d) (owner-taken s (form s d) ∙ h) ds
    ∙ ap (λ b. known_of (after_declarator s d).entries ++ map (known_declarator b) ds) (unsigned-taken s (form s d))
    ∙ ap (λ ks. ks ++ map (known_declarator s.unsigned) ds) (declarator-known s h d)
    ∙ append_assoc (known_of s.entries) (known_declarator s.unsigned d ∷ []) (map (known_declarator s.unsigned) ds)

start-known : (s : Scope) → s.owner ≡ owner.OfMain → (a : tree.StartTree) →
    known_of (after_start s a).entries ≡ known_of s.entries ++ known_start a
start-known s h tree.StartTree.Empty = sym (append-nil (known_of s.entries))
start-known s h (tree.StartTree.Declare ty ds) = declarators-known (typed ty s) h ds
start-known s h (tree.StartTree.Change c) = sym (append-nil (known_of s.entries))

stmt-known : (s : Scope) → s.owner ≡ owner.OfMain → (a : tree.StmtTree) →
    known_of (after_stmt s a).entries ≡ known_of s.entries ++ known_behind a
stmt-known s h tree.StmtTree.Empty = sym (append-nil (known_of s.entries))
stmt-known s h (tree.Block ss) = sym (append-nil (known_of s.entries))
stmt-known s h (tree.StmtTree.Declare ty ds) = declarators-known (typed ty s) h ds
stmt-known s h (tree.StmtTree.Change c) = sym (append-nil (known_of s.entries))
stmt-known s h (tree.StmtTree.Call f args) = sym (append-nil (known_of s.entries))
stmt-known s h (tree.If c a) = stmt-known s h a
stmt-known s h (tree.IfElse c a b) =
    stmt-known (after_stmt s a) (owner-stmt s a ∙ h) b
    ∙ ap (λ ks. ks ++ known_behind b) (stmt-known s h a)
    ∙ append_assoc (known_of s.entries) (known_behind a) (known_behind b)
stmt-known s h (tree.While c a) = stmt-known (in_loop s) h a
stmt-known s h (tree.For start test step a) = sym (append-nil (known_of s.entries))
stmt-known s h (tree.Break m) = sym (append-nil (known_of s.entries))
stmt-known s h (tree.Continue m) = sym (append-nil (known_of s.entries))
stmt-known s h (tree.Return m e) = sym (append-nil (known_of s.entries))
stmt-known s h (tree.Task m cs a) = sym (append-nil (known_of s.entries))
stmt-known s h (tree.Tick m t arrow e) = sym (append-nil (known_of s.entries))
stmt-known s h (tree.Taskwait m) = sym (append-nil (known_of s.entries))

mutual
  tasks-found : (s : Scope) → s.owner ≡ owner.OfMain → (a : tree.StmtTree) → scoped_tasks_in s a ≡ tasks_in (known_of s.entries) a
  tasks-found s h tree.StmtTree.Empty = refl
  tasks-found s h (tree.Block ss) = all-found (enter s) h ss
  tasks-found s h (tree.StmtTree.Declare ty ds) = refl
  tasks-found s h (tree.StmtTree.Change c) = refl
  tasks-found s h (tree.StmtTree.Call f args) = refl
  tasks-found s h (tree.If c a) = tasks-found s h a
  tasks-found s h (tree.IfElse c a b) =
      ap (λ ts. ts ++ scoped_tasks_in (after_stmt s a) b) (tasks-found s h a)
      ∙ ap (λ ts. tasks_in (known_of s.entries) a ++ ts)
      (tasks-found (after_stmt s a) (owner-stmt s a ∙ h) b ∙ ap (λ ks. tasks_in ks b) (stmt-known s h a))
  tasks-found s h (tree.While c a) = tasks-found (in_loop s) h a
  tasks-found s h (tree.For start test step a) =
      tasks-found (in_loop (after_start (enter s) start)) (owner-start (enter s) start ∙ h) a
      ∙ ap (λ ks. tasks_in ks a) (start-known (enter s) h start)
  tasks-found s h (tree.Break m) = refl
  tasks-found s h (tree.Continue m) = refl
  tasks-found s h (tree.Return m e) = refl
  tasks-found s h (tree.Task m cs a) = ap (λ t. t ∷ []) (task-found s m cs a)
  tasks-found s h (tree.Tick m t arrow e) = refl
  tasks-found s h (tree.Taskwait m) = refl

  all-found : (s : Scope) → s.owner ≡ owner.OfMain → (ss : tree.Stmts) → scoped_tasks_in_all s ss ≡ tasks_in_all (known_of s.entries) ss
  all-found s h tree.no_stmts = refl
  all-found s h (tree.stmt a rest) =
      ap (λ ts. ts ++ scoped_tasks_in_all (after_stmt s a) rest) (tasks-found s h a)
      ∙ ap (λ ts. tasks_in (known_of s.entries) a ++ ts)
      (all-found (after_stmt s a) (owner-stmt s a ∙ h) rest ∙ ap (λ ks. tasks_in_all ks rest) (stmt-known s h a))

-- round the body of `main`

items-known : (s : Scope) (is : List tree.ItemTree) → known_of (after_items s is).entries ≡ known_of s.entries ++ map known_item is
items-known s [] = sym (append-nil (known_of s.entries))
items-known s (tree.Constant c ∷ is) =
    items-known (after_item s (tree.Constant c)) is
    ∙ append_assoc (known_of s.entries) (known_item (tree.Constant c) ∷ []) (map known_item is)
items-known s (tree.Function f ∷ is) =
    items-known (after_item s (tree.Function f)) is
    ∙ append_assoc (known_of s.entries) (known_item (tree.Function f) ∷ []) (map known_item is)

params-owner : (s : Scope) (ns : List Param) → (after_params s ns).owner ≡ s.owner
params-owner s [] = refl
params-owner s (n ∷ ns) = params-owner (after_param s n) ns

param-scalar : (s : Scope) → s.owner ≡ owner.OfMain → is_scalar (scalar_entity s.owner s.slots) ≡ true
param-scalar s h = ap (λ o. is_scalar (scalar_entity o s.slots)) h

params-known : (s : Scope) → s.owner ≡ owner.OfMain → (ns : List Param) →
    known_of (after_params s ns).entries ≡ known_of s.entries ++ map known_param ns
params-known s h [] = sym (append-nil (known_of s.entries))
params-known s h (n ∷ ns) =
    params-known (after_param s n) h ns
    ∙ ap (λ b. known_of s.entries ++ known n.name.id b (is_unsigned n.ty) ∷ [] ++ map known_param ns) (param-scalar s h)
    ∙ append_assoc (known_of s.entries) (known_param n ∷ []) (map known_param ns)

three : {A : Type 0} → (xs : List A) (a b c : A) (ys : List A) → xs ++ a ∷ [] ++ b ∷ [] ++ c ∷ [] ++ ys ≡ xs ++ a ∷ b ∷ c ∷ ys
three [] a b c ys = refl
three (x ∷ xs) a b c ys = ap (λ zs. x ∷ zs) (three xs a b c ys)

-- the tasks of `main`
pub main_found : (is : List tree.ItemTree) (f : tree.FunctionTree) → f.name.id ≡ main_id →
    scoped_tasks_in_all (in_body (after_items notes.file is) f) f.body ≡ tasks_in_all (known_in_main is f) f.body
main_found is f h =
    let s = after_items notes.file is in
    let t = in_function s f.name.id in
    let ns = param_list f.params in
    let owned : t.owner ≡ owner.OfMain = ap (λ id. (in_function s id).owner) h in
    let round : known_of t.entries ≡ known_of (in_function s main_id).entries = ap (λ id. known_of (in_function s id).entries) h in
    all-found (in_body s f) (params-owner t ns ∙ owned) f.body
    ∙ ap (λ ks. tasks_in_all ks f.body)
    (params-known t owned ns
    ∙ ap (λ ks. ks ++ map known_param ns)
    (round ∙ ap (λ ks. ks ++ known osin_id false false ∷ [] ++ known osout_id false false ∷ [] ++ known osin_len_id true false ∷ []) (items-known notes.file is))
    ∙ three (map known_item is) (known osin_id false false) (known osout_id false false) (known osin_len_id true false) (map known_param ns))

-- behind one more item
pub with_items-last : (file : File) (xs : List tree.ItemTree) (i : tree.ItemTree) → with_items file (xs ++ i ∷ []) ≡ with_item (with_items file xs) i
with_items-last file [] i = refl
with_items-last file (x ∷ xs) i = with_items-last (with_item file x) xs i

pub after_items-last : (s : Scope) (items : List tree.ItemTree) (i : tree.ItemTree) → after_items s (items ++ i ∷ []) ≡ after_item (after_items s items) i
after_items-last s [] i = refl
after_items-last s (x ∷ xs) i = after_items-last (after_item s x) xs i

past : (before is : List tree.ItemTree) (i : tree.ItemTree) →
    scoped_main_behind (file_of (before ++ i ∷ [])) (after_items notes.file (before ++ i ∷ [])) is ≡ main_behind (before ++ i ∷ []) is →
    scoped_main_behind (with_item (file_of before) i) (after_item (after_items notes.file before) i) is ≡ main_behind (before ++ i ∷ []) is
past before is i h =
    ap (λ file. scoped_main_behind file (after_item (after_items notes.file before) i) is) (sym (with_items-last empty_file before i))
    ∙ ap (λ s. scoped_main_behind (file_of (before ++ i ∷ [])) s is) (sym (after_items-last notes.file before i)) ∙ h

-- an item that is a function is `main`, or not
function_same : (before is : List tree.ItemTree) (f : tree.FunctionTree) (b : Bool) → (f.name.id == main_id) ≡ b →
    scoped_main_behind (with_item (file_of before) (tree.Function f)) (after_item (after_items notes.file before) (tree.Function f)) is
    ≡ main_behind (before ++ tree.Function f ∷ []) is →
    (if b then Some (scoped_main_at (file_of before) (after_items notes.file before) f)
    else scoped_main_behind (with_item (file_of before) (tree.Function f)) (after_item (after_items notes.file before) (tree.Function f)) is)
    ≡ (if b then Some (main_at before f) else main_behind (before ++ tree.Function f ∷ []) is)
function_same before is f true h behind =
    ap (λ (ts : List Task). Some (record { file = file_of before; tasks = ts; body = f.body })) (main_found before f (eqb-true f.name.id main_id h))
function_same before is f false h behind = behind

-- `main` is the same, with the same tasks
behind_same : (before is : List tree.ItemTree) → scoped_main_behind (file_of before) (after_items notes.file before) is ≡ main_behind before is
behind_same before [] = refl
behind_same before (tree.Constant c ∷ is) = past before is (tree.Constant c) (behind_same (before ++ tree.Constant c ∷ []) is)
behind_same before (tree.Function f ∷ is) =
    function_same before is f (f.name.id == main_id) refl (past before is (tree.Function f) (behind_same (before ++ tree.Function f ∷ []) is))

pub main_is_scoped : (p : tree.ProgramTree) → scoped_main p ≡ main_of p
main_is_scoped p = behind_same [] p
