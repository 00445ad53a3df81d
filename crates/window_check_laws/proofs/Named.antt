-- What a task's body names of what is round it: by its notes, which have a scope each, and by its free names.
use Rattle.std.proofs.Common.{◌≡◌, ℕ, suc, ◌==◌, ◌||◌, ◌&&◌, Bool, true, false, not, if◌then◌else◌, List, [], ◌∷◌, ◌++◌, Option, Some, None, refl, ap, sym, subst, ◌∙◌, append_assoc}
use Rattle.std.proofs.lemmas.List.{append-nil}
use Rattle.os_ast.specs.Captured.{captured, slots_of}
use Rattle.os_ast.specs.FreeNames.{expr_names, target_names, args_names, links_names, value_names, index_names, change_names, step_names, join_names, members_names, without, declared_ids, declarators_names, start_ids, start_names, stmt_ids, stmt_names, stmts_names, task_names}
use Rattle.os_ast.specs.Names.{Scope, lookup, entity_of, declare, enter, in_loop, typed, flagged}
use Rattle.os_ast.specs.Notes.Clauses.{window_notes, member_notes, members_notes, named_entity, item_entity, with_items, in_task, in_task_body, captured_in, clauses_notes, item_flag}
use Rattle.os_ast.specs.Notes.Declarators.{form, form_entity, declared_entity, taken, scalar_entity, is_window, size_notes, sized_notes, declarators_notes, after_declarator, after_declarators, after_start, start_notes}
use Rattle.os_ast.specs.Notes.Expressions.{expr_notes, place_notes, args_notes, links_notes, value_notes, index_notes, change_notes, step_notes}
use Rattle.os_ast.specs.Notes.Kinds.{Note}
use Rattle.os_ast.specs.Notes.Statements.{after_stmt, stmt_notes, stmts_notes}
use Rattle.os_ast.specs.ClauseMembers.{ClauseMember, Item, Private, members, member_name, item_name, item_ids, private_ids, is_in}
use Rattle.os_ast.specs.Trees as tree
use Rattle.os_ast.specs.declared.names.Direction.{Direction}
use Rattle.os_ast.specs.declared.names.Entity.{Entity}
use Rattle.os_ast.specs.declared.names.Entity.TheVariants as entity
use Rattle.os_ast.specs.declared.names.Entry.{Entry}
use Rattle.os_ast.specs.declared.names.Form.{Form}
use Rattle.os_ast.specs.declared.names.Form.TheVariants as form_of
use Rattle.os_ast.specs.declared.names.Owner.{Owner}
use Rattle.os_ast.specs.declared.names.Owner.TheVariants as owner
use Rattle.os_ast.specs.declared.names.Role.{Role}
use Rattle.window_check_laws.proofs.Ascending.{is_in-append}
use Rattle.window_check_laws.proofs.Collected.{collected-members}
use Rattle.window_check_laws.proofs.Owners.{owner_declarator, owner_start, owner_stmt, owner_items}
use Rattle.window_check_laws.specs.CapturedByUse.{used_slots, slots_named}
use Rattle.window_check_laws.specs.Slots.{control_slots, named_slots}

used_slots-append : (xs ys : List Note) → used_slots (xs ++ ys) ≡ used_slots xs ++ used_slots ys
used_slots-append [] ys = refl
used_slots-append (n ∷ xs) ys = ap (λ zs. named_slots n ++ zs) (used_slots-append xs ys) ∙ sym (append_assoc (named_slots n) (used_slots xs) (used_slots ys))

pub slots_named-append : (es : List Entry) (xs ys : List ℕ) → slots_named es (xs ++ ys) ≡ slots_named es xs ++ slots_named es ys
slots_named-append es [] ys = refl
slots_named-append es (id ∷ xs) ys =
    let slots = control_slots (entity_of (lookup es id)) in
    ap (λ zs. slots ++ zs) (slots_named-append es xs ys) ∙ sym (append_assoc slots (slots_named es xs) (slots_named es ys))

-- two parts, one after the other
two : (es : List Entry) (xs ys : List Note) (ids more : List ℕ) → used_slots xs ≡ slots_named es ids → used_slots ys ≡ slots_named es more →
    used_slots (xs ++ ys) ≡ slots_named es (ids ++ more)
two es xs ys ids more a b =
    used_slots-append xs ys ∙ ap (λ zs. zs ++ used_slots ys) a ∙ ap (λ zs. slots_named es ids ++ zs) b ∙ sym (slots_named-append es ids more)

mutual
  named-expr : (s : Scope) (e : tree.ExprTree) → used_slots (expr_notes s e) ≡ slots_named s.entries (expr_names e)
  named-expr s (tree.Number n) = refl
  named-expr s (tree.Wide n) = refl
  named-expr s (tree.Place t) = named-place s _ t
  named-expr s (tree.ExprTree.Call f args) = ap (λ zs. control_slots (entity_of (lookup s.entries f.id)) ++ zs) (named-args s args)
  named-expr s (tree.Paren e) = named-expr s e
  named-expr s (tree.Unary op m e) = named-expr s e
  named-expr s (tree.Chain l first links) = two s.entries (expr_notes s first) (links_notes s links) (expr_names first) (links_names links) (named-expr s first) (named-links s links)
  named-expr s (tree.Choice c a b) =
      two s.entries (expr_notes s c ++ expr_notes s a) (expr_notes s b) (expr_names c ++ expr_names a) (expr_names b)
      (two s.entries (expr_notes s c) (expr_notes s a) (expr_names c) (expr_names a) (named-expr s c) (named-expr s a)) (named-expr s b)

  named-place : (s : Scope) (r : Role) (t : tree.TargetTree) → used_slots (place_notes s r t) ≡ slots_named s.entries (target_names t)
  named-place s r (tree.Variable n) = refl
  named-place s r (tree.Element n m e) = ap (λ zs. control_slots (entity_of (lookup s.entries n.id)) ++ zs) (named-expr s e)

  named-args : (s : Scope) (es : tree.Args) → used_slots (args_notes s es) ≡ slots_named s.entries (args_names es)
  named-args s tree.no_args = refl
  named-args s (tree.arg e es) = two s.entries (expr_notes s e) (args_notes s es) (expr_names e) (args_names es) (named-expr s e) (named-args s es)

  named-links : (s : Scope) (ls : tree.Links) → used_slots (links_notes s ls) ≡ slots_named s.entries (links_names ls)
  named-links s tree.no_links = refl
  named-links s (tree.link op m e rest) = two s.entries (expr_notes s e) (links_notes s rest) (expr_names e) (links_names rest) (named-expr s e) (named-links s rest)

named-value : (s : Scope) (e : Option tree.ExprTree) → used_slots (value_notes s e) ≡ slots_named s.entries (value_names e)
named-value s None = refl
named-value s (Some e) = named-expr s e

named-index : (s : Scope) (i : Option tree.IndexTree) → used_slots (index_notes s i) ≡ slots_named s.entries (index_names i)
named-index s None = refl
named-index s (Some i) = named-expr s i.value

named-change : (s : Scope) (c : tree.ChangeTree) → used_slots (change_notes s c) ≡ slots_named s.entries (change_names c)
named-change s (tree.Set t a m e) = two s.entries (place_notes s _ t) (expr_notes s e) (target_names t) (expr_names e) (named-place s _ t) (named-expr s e)
named-change s (tree.After t step m) = named-place s _ t
named-change s (tree.Before t step m) = named-place s _ t

named-step : (s : Scope) (c : Option tree.ChangeTree) → used_slots (step_notes s c) ≡ slots_named s.entries (step_names c)
named-step s None = refl
named-step s (Some c) = named-change s c

named-window : (s : Scope) (before : List ℕ) (t : tree.TargetTree) (j : Option tree.JoinTree) → used_slots (window_notes s before t j) ≡ slots_named s.entries (join_names j)
named-window s before t None = refl
named-window s before t (Some j) = ap (λ zs. control_slots (entity_of (lookup s.entries j.name.id)) ++ zs) (named-index s j.burst)

named-members : (s : Scope) (before : List ℕ) (ps : List ClauseMember) → used_slots (members_notes s before ps) ≡ slots_named s.entries (members_names ps)
named-members s before [] = refl
named-members s before (Item d i ∷ ps) =
    two s.entries (member_notes s before (Item d i)) (members_notes s ((member_name (Item d i)).id ∷ before) ps) (target_names i.stream ++ join_names i.window) (members_names ps)
    (two s.entries (place_notes s _ i.stream) (window_notes s before i.stream i.window) (target_names i.stream) (join_names i.window)
    (named-place s _ i.stream) (named-window s before i.stream i.window))
    (named-members s ((member_name (Item d i)).id ∷ before) ps)
named-members s before (Private n ∷ ps) =
    two s.entries (member_notes s before (Private n)) (members_notes s (n.id ∷ before) ps) (n.id ∷ []) (members_names ps) refl (named-members s (n.id ∷ before) ps)

-- Declarations that hide names: a look-up of another name finds what it found before.
abbrev Hide : List Entry → List Entry → List ℕ → Type 0
Hide after before ids = (id : ℕ) → control_slots (entity_of (lookup after id)) ≡ (if is_in id ids then [] else control_slots (entity_of (lookup before id)))

hidden : (after before : List Entry) (ids ns : List ℕ) → Hide after before ids → slots_named after ns ≡ slots_named before (without ids ns)
hidden after before ids [] h = refl
hidden after before ids (n ∷ ns) h = ap (λ zs. zs ++ slots_named after ns) (h n) ∙ chosen (is_in n ids) (hidden after before ids ns h)
  where
    chosen : (t : Bool) → slots_named after ns ≡ slots_named before (without ids ns) →
        (if t then [] else control_slots (entity_of (lookup before n))) ++ slots_named after ns
        ≡ slots_named before (if t then without ids ns else n ∷ without ids ns)
    chosen true ih = ih
    chosen false ih = ap (λ zs. control_slots (entity_of (lookup before n)) ++ zs) ih

is_in-both : (id : ℕ) (xs ys : List ℕ) → is_in id (xs ++ ys) ≡ (is_in id xs || is_in id ys)
is_in-both id [] ys = refl
is_in-both id (x ∷ xs) ys = ap (λ b. (x == id) || b) (is_in-both id xs ys) ∙ assoc (x == id) (is_in id xs) (is_in id ys)
  where
    assoc : (a b c : Bool) → (a || (b || c)) ≡ ((a || b) || c)
    assoc true b c = refl
    assoc false b c = refl

hide_then : (first second third : List Entry) (xs ys : List ℕ) → Hide second first xs → Hide third second ys → Hide third first (xs ++ ys)
hide_then first second third xs ys h k id =
    k id
    ∙ ap (λ zs. if is_in id ys then [] else zs) (h id)
    ∙ both (is_in id xs) (is_in id ys)
    ∙ ap (λ b. if b then [] else control_slots (entity_of (lookup first id))) (sym (is_in-both id xs ys))
  where
    both : (a b : Bool) → (if b then [] else (if a then [] else control_slots (entity_of (lookup first id)))) ≡ (if a || b then [] else control_slots (entity_of (lookup first id)))
    both true true = refl
    both true false = refl
    both false true = refl
    both false false = refl

hide_one : (id depth : ℕ) (e : Entity) (u : Bool) (es : List Entry) → control_slots (Some e) ≡ [] → Hide (record { id = id; depth = depth; entity = e; unsigned = u } ∷ es) es (id ∷ [])
hide_one id depth e u es none n = chosen (id == n)
  where
    chosen : (t : Bool) → control_slots (entity_of (if t then Some (record { id = id; depth = depth; entity = e; unsigned = u }) else lookup es n))
        ≡ (if t || false then [] else control_slots (entity_of (lookup es n)))
    chosen true = none
    chosen false = refl

-- no scalar of a task's body is one of `main`
scalar_apart : (o : Owner) (slot : ℕ) → o ≡ owner.OfTask → control_slots (Some (scalar_entity o slot)) ≡ []
scalar_apart owner.OfTask slot h = refl
scalar_apart owner.OfFunction slot h = refl
scalar_apart owner.OfMain slot h = absurd (cc)

form_apart : (s : Scope) (f : Form) → s.owner ≡ owner.OfTask → control_slots (Some (form_entity s f)) ≡ []
form_apart s form_of.Scalar h = scalar_apart s.owner s.slots h
form_apart s (form_of.Array size) h = refl
form_apart s form_of.Window h = refl
form_apart s form_of.Stream h = refl
form_apart s (form_of.Streams size) h = refl

taken_entries : (s : Scope) (f : Form) → (taken s f).entries ≡ s.entries
taken_entries s form_of.Scalar = refl
taken_entries s (form_of.Array n) = refl
taken_entries s form_of.Window = refl
taken_entries s form_of.Stream = refl
taken_entries s (form_of.Streams n) = refl

hide_declarator : (s : Scope) (d : tree.DeclaratorTree) → s.owner ≡ owner.OfTask → Hide (after_declarator s d).entries s.entries (d.name.id ∷ [])
hide_declarator s d h =
    subst (λ (es : List Entry). Hide (after_declarator s d).entries es (d.name.id ∷ [])) (taken_entries s (form s d))
    (hide_one d.name.id (taken s (form s d)).depth (declared_entity s d) (taken s (form s d)).unsigned (taken s (form s d)).entries (form_apart s (form s d) h))

task_declarator : (s : Scope) (d : tree.DeclaratorTree) → s.owner ≡ owner.OfTask → (after_declarator s d).owner ≡ owner.OfTask
task_declarator s d h = owner_declarator s d ∙ h

hide_declarators : (s : Scope) (ds : List tree.DeclaratorTree) → s.owner ≡ owner.OfTask → Hide (after_declarators s ds).entries s.entries (declared_ids ds)
hide_declarators s [] h = λ id. refl
hide_declarators s (d ∷ ds) h =
    hide_then s.entries (after_declarator s d).entries (after_declarators s (d ∷ ds)).entries (d.name.id ∷ []) (declared_ids ds)
    (hide_declarator s d h) (hide_declarators (after_declarator s d) ds (task_declarator s d h))

-- sizes name no variable of what is round the task
size_names : (s : Scope) (e : tree.ExprTree) → used_slots (size_notes s e) ≡ []
size_names s (tree.Number n) = refl
size_names s (tree.Wide n) = refl
size_names s (tree.Place (tree.Variable n)) = refl
size_names s (tree.Place (tree.Element n m e)) = refl
size_names s (tree.ExprTree.Call f args) = refl
size_names s (tree.Paren e) = refl
size_names s (tree.Unary op m e) = refl
size_names s (tree.Chain l first links) = refl
size_names s (tree.Choice c a b) = refl

sized_by : (s : Scope) (e : tree.ExprTree) (b : Bool) → b ≡ false → used_slots (if b then expr_notes s e else size_notes s e) ≡ []
sized_by s e true h = absurd (cc)
sized_by s e false h = size_names s e

no_window : (o : Owner) (stream : Bool) → o ≡ owner.OfTask → (is_window o && not stream) ≡ false
no_window owner.OfTask stream h = refl
no_window owner.OfFunction stream h = refl
no_window owner.OfMain stream h = absurd (cc)

sized_names : (s : Scope) (stream : Bool) (i : Option tree.IndexTree) → s.owner ≡ owner.OfTask → used_slots (sized_notes s stream i) ≡ []
sized_names s stream None h = refl
sized_names s stream (Some i) h = sized_by s i.value (is_window s.owner && not stream) (no_window s.owner stream h)

named-declarators : (s : Scope) (ds : List tree.DeclaratorTree) → s.owner ≡ owner.OfTask → used_slots (declarators_notes s ds) ≡ slots_named s.entries (declarators_names ds)
named-declarators s [] h = refl
named-declarators s (d ∷ ds) h =
    let after = after_declarator s d in
    let sized = sized_notes s d.stream d.size in
    let first = value_notes after d.first in
    let more = declarators_notes after ds in
    let behind : used_slots (first ++ more) ≡ slots_named after.entries (value_names d.first ++ declarators_names ds) =
    two after.entries first more (value_names d.first) (declarators_names ds) (named-value after d.first) (named-declarators after ds (task_declarator s d h)) in
    ap used_slots (append_assoc sized first more)
    ∙ used_slots-append sized (first ++ more)
    ∙ ap (λ zs. zs ++ used_slots (first ++ more)) (sized_names s d.stream d.size h)
    ∙ behind
    ∙ hidden after.entries s.entries (d.name.id ∷ []) (value_names d.first ++ declarators_names ds) (hide_declarator s d h)

hide_start : (s : Scope) (t : tree.StartTree) → s.owner ≡ owner.OfTask → Hide (after_start s t).entries s.entries (start_ids t)
hide_start s tree.StartTree.Empty h = λ id. refl
hide_start s (tree.StartTree.Declare t ds) h = hide_declarators (typed t s) ds h
hide_start s (tree.StartTree.Change c) h = λ id. refl

named-start : (s : Scope) (t : tree.StartTree) → s.owner ≡ owner.OfTask → used_slots (start_notes s t) ≡ slots_named s.entries (start_names t)
named-start s tree.StartTree.Empty h = refl
named-start s (tree.StartTree.Declare t ds) h = named-declarators (typed t s) ds h
named-start s (tree.StartTree.Change c) h = named-change s c

item_hides : (item : ℕ) (d : Direction) (j : Option tree.JoinTree) (e : Option Entity) → control_slots (Some (named_entity item d j e)) ≡ []
item_hides i d None e = refl
item_hides i d (Some j) None = refl
item_hides i d (Some j) (Some (entity.Constant v)) = refl
item_hides i d (Some j) (Some (entity.Function n k)) = refl
item_hides i d (Some j) (Some (entity.Scalar n)) = refl
item_hides i d (Some j) (Some (entity.Control n)) = refl
item_hides i d (Some j) (Some entity.InputLength) = refl
item_hides i d (Some j) (Some (entity.Array n k)) = refl
item_hides i d (Some j) (Some (entity.Window n)) = refl
item_hides i d (Some j) (Some (entity.Stream n)) = refl
item_hides i d (Some j) (Some (entity.Streams n k)) = refl
item_hides i d (Some j) (Some (entity.Element n k)) = refl
item_hides i d (Some j) (Some (entity.View n k)) = refl

hide_items : (s inner : Scope) (item : ℕ) (ps : List ClauseMember) → Hide (with_items s inner item ps).entries inner.entries (item_ids ps)
hide_items s inner item [] = λ id. refl
hide_items s inner item (Item d i ∷ ps) =
    let name = (item_name i.stream i.window).id in
    let entity = item_entity s item d i in
    let named = declare (flagged (item_flag s i) inner) name entity in
    hide_then inner.entries named.entries (with_items s named (suc item) ps).entries (name ∷ []) (item_ids ps)
    (hide_one name inner.depth entity (item_flag s i) inner.entries (item_hides item d i.window (entity_of (lookup s.entries name))))
    (hide_items s named (suc item) ps)
hide_items s inner item (Private n ∷ ps) = hide_items s inner item ps

hide_stmt : (s : Scope) (a : tree.StmtTree) → s.owner ≡ owner.OfTask → Hide (after_stmt s a).entries s.entries (stmt_ids a)
hide_stmt s tree.StmtTree.Empty h = λ id. refl
hide_stmt s (tree.Block ss) h = λ id. refl
hide_stmt s (tree.StmtTree.Declare t ds) h = hide_declarators (typed t s) ds h
hide_stmt s (tree.StmtTree.Change c) h = λ id. refl
hide_stmt s (tree.StmtTree.Call f args) h = λ id. refl
hide_stmt s (tree.If c a) h = hide_stmt s a h
hide_stmt s (tree.IfElse c a b) h =
    hide_then s.entries (after_stmt s a).entries (after_stmt (after_stmt s a) b).entries (stmt_ids a) (stmt_ids b)
    (hide_stmt s a h) (hide_stmt (after_stmt s a) b (owner_stmt s a ∙ h))
hide_stmt s (tree.While c a) h = hide_stmt (in_loop s) a h
hide_stmt s (tree.For start test step a) h = λ id. refl
hide_stmt s (tree.Break m) h = λ id. refl
hide_stmt s (tree.Continue m) h = λ id. refl
hide_stmt s (tree.Return m e) h = λ id. refl
hide_stmt s (tree.Task m cs a) h = λ id. refl
hide_stmt s (tree.Tick m t arrow e) h = λ id. refl
hide_stmt s (tree.Taskwait m) h = λ id. refl

-- four parts, the first apart
four : (a b c d : List Note) → a ++ b ++ c ++ d ≡ a ++ (b ++ c ++ d)
four a b c d = append_assoc (a ++ b) c d ∙ append_assoc a b (c ++ d) ∙ ap (λ zs. a ++ zs) (sym (append_assoc b c d))

mutual
  named-stmt : (s : Scope) (a : tree.StmtTree) → s.owner ≡ owner.OfTask → used_slots (stmt_notes s a) ≡ slots_named s.entries (stmt_names a)
  named-stmt s tree.StmtTree.Empty h = refl
  named-stmt s (tree.Block ss) h = named-stmts (enter s) ss h
  named-stmt s (tree.StmtTree.Declare t ds) h = named-declarators (typed t s) ds h
  named-stmt s (tree.StmtTree.Change c) h = named-change s c
  named-stmt s (tree.StmtTree.Call f args) h = ap (λ zs. control_slots (entity_of (lookup s.entries f.id)) ++ zs) (named-args s args)
  named-stmt s (tree.If c a) h = two s.entries (expr_notes s c) (stmt_notes s a) (expr_names c) (stmt_names a) (named-expr s c) (named-stmt s a h)
  named-stmt s (tree.IfElse c a b) h =
      let after = after_stmt s a in
      two s.entries (expr_notes s c ++ stmt_notes s a) (stmt_notes after b) (expr_names c ++ stmt_names a) (without (stmt_ids a) (stmt_names b))
      (two s.entries (expr_notes s c) (stmt_notes s a) (expr_names c) (stmt_names a) (named-expr s c) (named-stmt s a h))
      (named-stmt after b (owner_stmt s a ∙ h) ∙ hidden after.entries s.entries (stmt_ids a) (stmt_names b) (hide_stmt s a h))
  named-stmt s (tree.While c a) h = two s.entries (expr_notes s c) (stmt_notes (in_loop s) a) (expr_names c) (stmt_names a) (named-expr s c) (named-stmt (in_loop s) a h)
  named-stmt s (tree.For start test step a) h =
      let head = after_start (enter s) start in
      let own : head.owner ≡ owner.OfTask = owner_start (enter s) start ∙ h in
      let inner = value_notes head test ++ step_notes head step ++ stmt_notes (in_loop head) a in
      let names = value_names test ++ step_names step ++ stmt_names a in
      let inside : used_slots inner ≡ slots_named head.entries names =
      two head.entries (value_notes head test ++ step_notes head step) (stmt_notes (in_loop head) a) (value_names test ++ step_names step) (stmt_names a)
      (two head.entries (value_notes head test) (step_notes head step) (value_names test) (step_names step) (named-value head test) (named-step head step))
      (named-stmt (in_loop head) a own) in
      ap used_slots (four (start_notes (enter s) start) (value_notes head test) (step_notes head step) (stmt_notes (in_loop head) a))
      ∙ two s.entries (start_notes (enter s) start) inner (start_names start) (without (start_ids start) names)
      (named-start (enter s) start h) (inside ∙ hidden head.entries s.entries (start_ids start) names (hide_start (enter s) start h))
  named-stmt s (tree.Break m) h = refl
  named-stmt s (tree.Continue m) h = refl
  named-stmt s (tree.Return m e) h = named-expr s e
  named-stmt s (tree.Task m cs a) h =
      let ps = members cs in
      let slots = captured_in s.owner (slots_of (captured s.entries ps a)) in
      let inner = in_task_body s ps a in
      two s.entries (clauses_notes s m ps a) (stmt_notes inner a) (members_names ps) (without (item_ids ps) (stmt_names a))
      (used_slots-append (members_notes s [] ps) _ ∙ append-nil (used_slots (members_notes s [] ps)) ∙ named-members s [] ps)
      (named-stmt inner a (owner_items s (in_task s slots) 0 ps)
      ∙ hidden inner.entries s.entries (item_ids ps) (stmt_names a) (hide_items s (in_task s slots) 0 ps))
  named-stmt s (tree.Tick m t arrow e) h = two s.entries (place_notes s _ t) (expr_notes s e) (target_names t) (expr_names e) (named-place s _ t) (named-expr s e)
  named-stmt s (tree.Taskwait m) h = refl

  named-stmts : (s : Scope) (ss : tree.Stmts) → s.owner ≡ owner.OfTask → used_slots (stmts_notes s ss) ≡ slots_named s.entries (stmts_names ss)
  named-stmts s tree.no_stmts h = refl
  named-stmts s (tree.stmt a rest) h =
      let after = after_stmt s a in
      two s.entries (stmt_notes s a) (stmts_notes after rest) (stmt_names a) (without (stmt_ids a) (stmts_names rest)) (named-stmt s a h)
      (named-stmts after rest (owner_stmt s a ∙ h) ∙ hidden after.entries s.entries (stmt_ids a) (stmts_names rest) (hide_stmt s a h))

-- what a task's body uses, by its free names
pub named-body : (s : Scope) (slots : List ℕ) (ps : List ClauseMember) (a : tree.StmtTree) →
    used_slots (stmt_notes (with_items s (in_task s slots) 0 ps) a) ≡ slots_named s.entries (without (item_ids ps) (stmt_names a))
named-body s slots ps a =
    let inner = with_items s (in_task s slots) 0 ps in
    named-stmt inner a (owner_items s (in_task s slots) 0 ps) ∙ hidden inner.entries s.entries (item_ids ps) (stmt_names a) (hide_items s (in_task s slots) 0 ps)

-- The members of what a task captures are those that its `firstprivate` clauses name and those that its body uses.
pub captured-members : (s : Scope) (ps : List ClauseMember) (a : tree.StmtTree) (x : ℕ) →
    is_in x (slots_of (captured s.entries ps a))
    ≡ (is_in x (slots_named s.entries (private_ids ps)) || is_in x (used_slots (stmt_notes (in_task_body s ps a) a)))
captured-members s ps a x =
    let slots = captured_in s.owner (slots_of (captured s.entries ps a)) in
    let names = without (item_ids ps) (stmt_names a) in
    collected-members s.entries (task_names ps a) x
    ∙ ap (is_in x) (slots_named-append s.entries (private_ids ps) names)
    ∙ is_in-append x (slots_named s.entries (private_ids ps)) (slots_named s.entries names)
    ∙ ap (λ (xs : List ℕ). is_in x (slots_named s.entries (private_ids ps)) || is_in x xs) (sym (named-body s slots ps a))
