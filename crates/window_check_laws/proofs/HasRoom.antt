-- Room for what a part of a program declares.
use Rattle.std.proofs.Common.{◌≡◌, ℕ, ◌+◌, ◌≤◌, ◌==◌, ◌&&◌, Bool, true, false, if◌then◌else◌, suc, List, [], ◌∷◌, length, Option, Some, None, ℤ, pos, negsuc, leb, length-append, refl, sym, subst, ◌∙◌, arith}
use Rattle.std.specs.Prelude.{is_some, unwrap_or}
use Rattle.std.proofs.lemmas.List.{length-map}
use Rattle.std.proofs.lemmas.Bool.{leb-true}
use Rattle.os_ast.specs.Unsigned.{is_unsigned}
use Rattle.os_ast.specs.declared.program.Param.{Param}
use Rattle.os_ast.specs.Captured.{Scalar, scalars, others, scalar_of, among, captured, slots_of}
use Rattle.os_ast.specs.FreeNames.{task_names}
use Rattle.os_ast.specs.Limits.{size_limit}
use Rattle.os_ast.specs.Names.{Scope, lookup, entity_of, declare, enter, in_loop, in_unit, leave, after_unit, behind, typed, flagged}
use Rattle.os_ast.specs.Notes.Clauses.{with_items, in_task, in_task_body, captured_in, item_entity, named_entity, item_flag}
use Rattle.os_ast.specs.Notes.Declarators.{form, form_with, sized_form, size_value, limited, taken, declared_entity, after_declarator, after_declarators, after_start}
use Rattle.os_ast.specs.Notes.Programs.{in_body, in_function, after_param, after_params, after_item, after_items, after_function, round_body, owner_of, param_list}
use Rattle.os_ast.specs.Notes.Statements.{after_stmt, after_stmts}
use Rattle.os_ast.specs.ClauseMembers.{ClauseMember, Item, Private, members, item_name, is_in}
use Rattle.os_ast.specs.Stacked.{Stacked, main_extent}
use Rattle.os_ast.specs.Trees as tree
use Rattle.os_ast.specs.declared.names.Direction.{Direction}
use Rattle.os_ast.specs.declared.names.Entity.{Entity}
use Rattle.os_ast.specs.declared.names.Entity.TheVariants as entity
use Rattle.os_ast.specs.declared.names.Entry.{Entry}
use Rattle.os_ast.specs.declared.names.Form.{Form}
use Rattle.os_ast.specs.declared.names.Form.TheVariants as form_of
use Rattle.os_ast.specs.declared.names.Owner.{Owner}
use Rattle.os_ast.specs.declared.names.Owner.TheVariants as owner
use Rattle.window_check_laws.proofs.Owners.{owner_start, owner_stmt, owner_stmts}
use Rattle.window_check_laws.proofs.Rise.{rise_start, rise_stmt, rise_stmts}
use Rattle.window_check_laws.proofs.Stacks.{ordered_other, ordered_rise, ordered_scalar, ordered_form}
use Rattle.window_check_laws.specs.Room.{HasRoom, IsOrdered, declarator_weight, declarators_weight, start_weight, stmt_weight, stmts_weight, item_weight, items_weight, form_weight}

-- less room, and as much
pub room_less : (s : Scope) (n m : ℕ) → HasRoom s n → m ≤ n → HasRoom s m
room_less s n m h le = record {
  slots = omega (arith, h.slots, le);
  depth = omega (arith, h.depth, le);
  functions = omega (arith, h.functions, le);
  elements = omega (arith, h.elements, le);
  arrays = omega (arith, h.arrays, le);
  streams = omega (arith, h.streams, le);
  entries = omega (arith, h.entries, le);
  order = h.order;
}

pub room_enter : (s : Scope) (n : ℕ) → HasRoom s (1 + n) → HasRoom (enter s) n
room_enter s n h = record {
  slots = omega (arith, h.slots);
  depth = omega (arith, h.depth);
  functions = omega (arith, h.functions);
  elements = omega (arith, h.elements);
  arrays = omega (arith, h.arrays);
  streams = omega (arith, h.streams);
  entries = omega (arith, h.entries);
  order = h.order;
}

pub room_in_loop : (s : Scope) (n : ℕ) → HasRoom s n → HasRoom (in_loop s) n
room_in_loop s n h = record {
  slots = h.slots;
  depth = h.depth;
  functions = h.functions;
  elements = h.elements;
  arrays = h.arrays;
  streams = h.streams;
  entries = h.entries;
  order = h.order;
}

pub room_behind : (s inner : Scope) (n : ℕ) → HasRoom inner n → HasRoom (behind s inner) n
room_behind s inner n h = record {
  slots = h.slots;
  depth = h.depth;
  functions = h.functions;
  elements = h.elements;
  arrays = h.arrays;
  streams = h.streams;
  entries = h.entries;
  order = h.order;
}

-- behind a scope, or a body, there is as much room as round it
pub room_leave : (s inner : Scope) (n : ℕ) → HasRoom s n → HasRoom inner n → inner.owner ≡ s.owner → s.slots ≤ inner.slots → HasRoom (leave s inner) n
room_leave s inner n h k same rise = record {
  slots = k.slots;
  depth = h.depth;
  functions = k.functions;
  elements = k.elements;
  arrays = k.arrays;
  streams = k.streams;
  entries = h.entries;
  order = subst (λ (o : Owner). IsOrdered o inner.slots s.entries) (sym same) (ordered_rise s.owner s.slots inner.slots s.entries rise h.order);
}

pub room_after_unit : (s inner : Scope) (n : ℕ) → HasRoom s n → HasRoom inner n → HasRoom (after_unit s inner) n
room_after_unit s inner n h k = record {
  slots = h.slots;
  depth = h.depth;
  functions = k.functions;
  elements = h.elements;
  arrays = k.arrays;
  streams = k.streams;
  entries = h.entries;
  order = h.order;
}

-- a size is at most the limit
size_within : (n : ℕ) (b : Bool) → leb n size_limit ≡ b → unwrap_or (if (leb 1 n && b) then Some n else None) 0 ≤ size_limit
size_within n true h = size_chosen (leb 1 n) (leb-true n size_limit h)
  where
    size_chosen : (c : Bool) → n ≤ size_limit → unwrap_or (if (c && true) then Some n else None) 0 ≤ size_limit
    size_chosen true h = h
    size_chosen false h = omega arith
size_within n false h = size_missed (leb 1 n)
  where
    size_missed : (c : Bool) → unwrap_or (if (c && false) then Some n else None) 0 ≤ size_limit
    size_missed true = omega arith
    size_missed false = omega arith

size_most : (v : Option ℤ) → unwrap_or (limited v) 0 ≤ size_limit
size_most None = omega arith
size_most (Some (pos n)) = size_within n (leb n size_limit) refl
size_most (Some (negsuc n)) = omega arith

sized_weight : (o : Owner) (v : Option ℤ) → form_weight (sized_form o (limited v)) ≤ size_limit
sized_weight owner.OfMain v = omega arith
sized_weight owner.OfFunction v = size_most v
sized_weight owner.OfTask v = size_most v

form_weights : (s : Scope) (stream : Bool) (size : Option tree.IndexTree) → form_weight (form_with s stream size) ≤ (if is_some size then size_limit else 1)
form_weights s false None = omega arith
form_weights s false (Some i) = sized_weight s.owner (size_value s i.value)
form_weights s true None = omega arith
form_weights s true (Some i) = size_most (size_value s i.value)

some_weight : (size : Option tree.IndexTree) → 1 ≤ (if is_some size then size_limit else 1)
some_weight None = omega arith
some_weight (Some i) = omega arith

-- a declarator takes no more than its form
room_taken : (s : Scope) (f : Form) (id : ℕ) (e : Entity) (w n : ℕ) → form_weight f ≤ w → 1 ≤ w → HasRoom s (w + n) →
    IsOrdered s.owner (taken s f).slots (record { id = id; depth = s.depth; entity = e; unsigned = s.unsigned } ∷ s.entries) → HasRoom (declare (taken s f) id e) n
room_taken s form_of.Scalar id e w n fits some h order = record {
  slots = omega (arith, h.slots, fits, some);
  depth = omega (arith, h.depth, fits, some);
  functions = omega (arith, h.functions, fits, some);
  elements = omega (arith, h.elements, fits, some);
  arrays = omega (arith, h.arrays, fits, some);
  streams = omega (arith, h.streams, fits, some);
  entries = omega (arith, h.entries, fits, some);
  order = order;
}
room_taken s (form_of.Array size) id e w n fits some h order = record {
  slots = omega (arith, h.slots, fits, some);
  depth = omega (arith, h.depth, fits, some);
  functions = omega (arith, h.functions, fits, some);
  elements = omega (arith, h.elements, fits, some);
  arrays = omega (arith, h.arrays, fits, some);
  streams = omega (arith, h.streams, fits, some);
  entries = omega (arith, h.entries, fits, some);
  order = order;
}
room_taken s form_of.Window id e w n fits some h order = record {
  slots = omega (arith, h.slots, fits, some);
  depth = omega (arith, h.depth, fits, some);
  functions = omega (arith, h.functions, fits, some);
  elements = omega (arith, h.elements, fits, some);
  arrays = omega (arith, h.arrays, fits, some);
  streams = omega (arith, h.streams, fits, some);
  entries = omega (arith, h.entries, fits, some);
  order = order;
}
room_taken s form_of.Stream id e w n fits some h order = record {
  slots = omega (arith, h.slots, fits, some);
  depth = omega (arith, h.depth, fits, some);
  functions = omega (arith, h.functions, fits, some);
  elements = omega (arith, h.elements, fits, some);
  arrays = omega (arith, h.arrays, fits, some);
  streams = omega (arith, h.streams, fits, some);
  entries = omega (arith, h.entries, fits, some);
  order = order;
}
room_taken s (form_of.Streams size) id e w n fits some h order = record {
  slots = omega (arith, h.slots, fits, some);
  depth = omega (arith, h.depth, fits, some);
  functions = omega (arith, h.functions, fits, some);
  elements = omega (arith, h.elements, fits, some);
  arrays = omega (arith, h.arrays, fits, some);
  streams = omega (arith, h.streams, fits, some);
  entries = omega (arith, h.entries, fits, some);
  order = order;
}

pub room_declarator : (s : Scope) (d : tree.DeclaratorTree) (n : ℕ) → HasRoom s (declarator_weight d + n) → HasRoom (after_declarator s d) n
room_declarator s d n h =
    room_taken s (form s d) d.name.id (declared_entity s d) (declarator_weight d) n (form_weights s d.stream d.size) (some_weight d.size) h
    (ordered_form s d.name.id d.stream d.size h.order)

-- what the code asks of a declarator
pub room_form : (s : Scope) (d : tree.DeclaratorTree) → HasRoom s (declarator_weight d) → HasRoom s (form_weight (form s d))
room_form s d h = room_less s (declarator_weight d) (form_weight (form s d)) h (form_weights s d.stream d.size)

pub room_declarators : (s : Scope) (ds : List tree.DeclaratorTree) (n : ℕ) → HasRoom s (declarators_weight ds + n) → HasRoom (after_declarators s ds) n
room_declarators s [] n h = room_less s _ n h (omega arith)
room_declarators s (d ∷ ds) n h =
    room_declarators (after_declarator s d) ds n
    (room_declarator s d (declarators_weight ds + n)
    (room_less s (declarators_weight (d ∷ ds) + n) (declarator_weight d + (declarators_weight ds + n)) h (omega arith)))

-- a declaration of a type begins
pub room_flagged : (s : Scope) (u : Bool) (n : ℕ) → HasRoom s n → HasRoom (flagged u s) n
room_flagged s u n h = record {
  slots = h.slots;
  depth = h.depth;
  functions = h.functions;
  elements = h.elements;
  arrays = h.arrays;
  streams = h.streams;
  entries = h.entries;
  order = h.order;
}

pub room_start : (s : Scope) (start : tree.StartTree) (n : ℕ) → HasRoom s (start_weight start + n) → HasRoom (after_start s start) n
room_start s tree.StartTree.Empty n h = room_less s _ n h (omega arith)
room_start s (tree.StartTree.Declare t ds) n h = room_declarators (typed t s) ds n (room_flagged s (is_unsigned t) _ h)
room_start s (tree.StartTree.Change c) n h = room_less s _ n h (omega arith)

-- a task captures no more scalars than are in scope
others_few : (id : ℕ) (cs : List Scalar) → length (others id cs) ≤ length cs
others_few id [] = omega arith
others_few id (c ∷ cs) = chosen (c.id == id) (others_few id cs)
  where
    chosen : (b : Bool) → length (others id cs) ≤ length cs → length (if b then others id cs else c ∷ others id cs) ≤ length (c ∷ cs)
    chosen true h = omega (arith, h)
    chosen false h = omega (arith, h)

one_scalar : (id : ℕ) (e : Entity) → length (scalar_of id e) ≤ 1
one_scalar id (entity.Control slot) = omega arith
one_scalar id entity.InputLength = omega arith
one_scalar id (entity.Constant v) = omega arith
one_scalar id (entity.Function n k) = omega arith
one_scalar id (entity.Scalar slot) = omega arith
one_scalar id (entity.Array first size) = omega arith
one_scalar id (entity.Window slot) = omega arith
one_scalar id (entity.Stream n) = omega arith
one_scalar id (entity.Streams n k) = omega arith
one_scalar id (entity.Element i d) = omega arith
one_scalar id (entity.View i d) = omega arith

scalars_few : (es : List Entry) → length (scalars es) ≤ length es
scalars_few [] = omega arith
scalars_few (e ∷ es) =
    omega (arith, scalars_few es, others_few e.id (scalars es), one_scalar e.id e.entity, length-append (others e.id (scalars es)) (scalar_of e.id e.entity))

among_few : (ids : List ℕ) (cs : List Scalar) → length (among ids cs) ≤ length cs
among_few ids [] = omega arith
among_few ids (c ∷ cs) = chosen (is_in c.id ids) (among_few ids cs)
  where
    chosen : (b : Bool) → length (among ids cs) ≤ length cs → length (if b then c ∷ among ids cs else among ids cs) ≤ length (c ∷ cs)
    chosen true h = omega (arith, h)
    chosen false h = omega (arith, h)

pub captured_few : (o : Owner) (es : List Entry) (ps : List ClauseMember) (a : tree.StmtTree) → length (captured_in o (slots_of (captured es ps a))) ≤ length es
captured_few owner.OfMain es ps a =
    omega (arith, length-map (among (task_names ps a) (scalars es)) (λ (c : Scalar). c.slot), among_few (task_names ps a) (scalars es), scalars_few es)
captured_few owner.OfFunction es ps a = omega arith
captured_few owner.OfTask es ps a = omega arith

pub room_in_task : (s : Scope) (slots : List ℕ) (n : ℕ) → length slots ≤ length s.entries → HasRoom s (1 + n) → HasRoom (in_task s slots) n
room_in_task s slots n few h = record {
  slots = omega (arith, h.entries, few);
  depth = omega (arith, h.depth);
  functions = omega (arith, h.functions);
  elements = omega (arith, h.elements);
  arrays = omega (arith, h.arrays);
  streams = omega (arith, h.streams);
  entries = omega (arith, h.entries);
  order = record { top = h.order.top; stacked = h.order.stacked; below = λ is. absurd (cc); outside = λ is. absurd (cc) };
}

-- one more name
room_declared : (s : Scope) (id : ℕ) (e : Entity) (n : ℕ) → main_extent e ≡ None → HasRoom s (1 + n) → HasRoom (declare s id e) n
room_declared s id e n none h = record {
  slots = omega (arith, h.slots);
  depth = omega (arith, h.depth);
  functions = omega (arith, h.functions);
  elements = omega (arith, h.elements);
  arrays = omega (arith, h.arrays);
  streams = omega (arith, h.streams);
  entries = omega (arith, h.entries);
  order = ordered_other s.owner s.slots s.slots s.entries (record { id = id; depth = s.depth; entity = e; unsigned = s.unsigned }) none (omega arith) h.order;
}

named_apart : (i : ℕ) (d : Direction) (j : Option tree.JoinTree) (e : Option Entity) → main_extent (named_entity i d j e) ≡ None
named_apart i d None e = refl
named_apart i d (Some j) None = refl
named_apart i d (Some j) (Some (entity.Constant v)) = refl
named_apart i d (Some j) (Some (entity.Function n k)) = refl
named_apart i d (Some j) (Some (entity.Scalar n)) = refl
named_apart i d (Some j) (Some (entity.Control n)) = refl
named_apart i d (Some j) (Some entity.InputLength) = refl
named_apart i d (Some j) (Some (entity.Array n k)) = refl
named_apart i d (Some j) (Some (entity.Window n)) = refl
named_apart i d (Some j) (Some (entity.Stream n)) = refl
named_apart i d (Some j) (Some (entity.Streams n k)) = refl
named_apart i d (Some j) (Some (entity.Element n k)) = refl
named_apart i d (Some j) (Some (entity.View n k)) = refl

pub item_apart : (s : Scope) (i : ℕ) (d : Direction) (it : tree.ClauseItemTree) → main_extent (item_entity s i d it) ≡ None
item_apart s i d it = named_apart i d it.window (entity_of (lookup s.entries (item_name it.stream it.window).id))

pub room_items : (s inner : Scope) (i : ℕ) (ps : List ClauseMember) (n : ℕ) → HasRoom inner (length ps + n) → HasRoom (with_items s inner i ps) n
room_items s inner i [] n h = room_less inner _ n h (omega arith)
room_items s inner i (Item d it ∷ ps) n h =
    let flag = item_flag s it in
    let named = declare (flagged flag inner) (item_name it.stream it.window).id (item_entity s i d it) in
    room_items s named (suc i) ps n
    (room_declared (flagged flag inner) (item_name it.stream it.window).id (item_entity s i d it) (length ps + n) (item_apart s i d it)
    (room_flagged inner flag (1 + (length ps + n)) (room_less inner (length (Item d it ∷ ps) + n) (1 + (length ps + n)) h (omega arith))))
room_items s inner i (Private p ∷ ps) n h =
    room_items s inner i ps n (room_less inner (length (Private p ∷ ps) + n) (length ps + n) h (omega arith))

pub room_in_task_body : (s : Scope) (ps : List ClauseMember) (a : tree.StmtTree) (n : ℕ) → HasRoom s (1 + (length ps + n)) → HasRoom (in_task_body s ps a) n
room_in_task_body s ps a n h =
    let slots = captured_in s.owner (slots_of (captured s.entries ps a)) in
    room_items s (in_task s slots) 0 ps n (room_in_task s slots (length ps + n) (captured_few s.owner s.entries ps a) h)

mutual
  pub room_stmt : (s : Scope) (a : tree.StmtTree) (n : ℕ) → HasRoom s (stmt_weight a + n) → HasRoom (after_stmt s a) n
  room_stmt s tree.StmtTree.Empty n h = room_less s _ n h (omega arith)
  room_stmt s (tree.Block ss) n h =
      room_leave s (after_stmts (enter s) ss) n (room_less s _ n h (omega arith))
      (room_stmts (enter s) ss n (room_enter s (stmts_weight ss + n) (room_less s _ (1 + (stmts_weight ss + n)) h (omega arith))))
      (owner_stmts (enter s) ss) (rise_stmts (enter s) ss)
  room_stmt s (tree.StmtTree.Declare t ds) n h = room_declarators (typed t s) ds n (room_flagged s (is_unsigned t) _ h)
  room_stmt s (tree.StmtTree.Change c) n h = room_less s _ n h (omega arith)
  room_stmt s (tree.StmtTree.Call f args) n h = room_less s _ n h (omega arith)
  room_stmt s (tree.If c a) n h = room_stmt s a n h
  room_stmt s (tree.IfElse c a b) n h =
      room_stmt (after_stmt s a) b n
      (room_stmt s a (stmt_weight b + n) (room_less s _ (stmt_weight a + (stmt_weight b + n)) h (omega arith)))
  room_stmt s (tree.While c a) n h =
      room_behind s (after_stmt (in_loop s) a) n (room_stmt (in_loop s) a n (room_in_loop s (stmt_weight a + n) h))
  room_stmt s (tree.For start test step a) n h =
      let head = after_start (enter s) start in
      room_leave s (after_stmt (in_loop head) a) n (room_less s _ n h (omega arith))
      (room_stmt (in_loop head) a n
      (room_in_loop head (stmt_weight a + n)
      (room_start (enter s) start (stmt_weight a + n)
      (room_enter s (start_weight start + (stmt_weight a + n))
      (room_less s _ (1 + (start_weight start + (stmt_weight a + n))) h (omega arith))))))
      (owner_stmt (in_loop head) a ∙ owner_start (enter s) start)
      (omega (arith, rise_start (enter s) start, rise_stmt (in_loop head) a))
  room_stmt s (tree.Break m) n h = room_less s _ n h (omega arith)
  room_stmt s (tree.Continue m) n h = room_less s _ n h (omega arith)
  room_stmt s (tree.Return m e) n h = room_less s _ n h (omega arith)
  room_stmt s (tree.Task m cs a) n h =
      let inner = in_task_body s (members cs) a in
      room_after_unit s (after_stmt inner a) n (room_less s _ n h (omega arith))
      (room_stmt inner a n
      (room_in_task_body s (members cs) a (stmt_weight a + n) (room_less s _ (1 + (length (members cs) + (stmt_weight a + n))) h (omega arith))))
  room_stmt s (tree.Tick m t arrow e) n h = room_less s _ n h (omega arith)
  room_stmt s (tree.Taskwait m) n h = room_less s _ n h (omega arith)

  pub room_stmts : (s : Scope) (ss : tree.Stmts) (n : ℕ) → HasRoom s (stmts_weight ss + n) → HasRoom (after_stmts s ss) n
  room_stmts s tree.no_stmts n h = room_less s _ n h (omega arith)
  room_stmts s (tree.stmt a rest) n h =
      room_stmts (after_stmt s a) rest n
      (room_stmt s a (stmts_weight rest + n) (room_less s _ (stmt_weight a + (stmts_weight rest + n)) h (omega arith)))

pub room_param : (s : Scope) (p : Param) (n : ℕ) → HasRoom s (1 + n) → HasRoom (after_param s p) n
room_param s p n h = record {
  slots = omega (arith, h.slots);
  depth = omega (arith, h.depth);
  functions = omega (arith, h.functions);
  elements = omega (arith, h.elements);
  arrays = omega (arith, h.arrays);
  streams = omega (arith, h.streams);
  entries = omega (arith, h.entries);
  order = ordered_scalar s.owner p.name.id s.depth s.slots (is_unsigned p.ty) s.entries h.order;
}

pub room_params : (s : Scope) (ps : List Param) (n : ℕ) → HasRoom s (length ps + n) → HasRoom (after_params s ps) n
room_params s [] n h = room_less s _ n h (omega arith)
room_params s (p ∷ ps) n h =
    room_params (after_param s p) ps n
    (room_param s p (length ps + n) (room_less s (length (p ∷ ps) + n) (1 + (length ps + n)) h (omega arith)))

-- the scopes of a function, of its parameters and of its body: round it there are no slots of `main`
ordered_round : (o : Owner) (s : Scope) → s.owner ≡ owner.OfFunction → IsOrdered s.owner s.slots s.entries →
    IsOrdered o (round_body o (enter (in_unit o s))).slots (round_body o (enter (in_unit o s))).entries
ordered_round owner.OfMain s is h = record {
  top = 1;
  stacked = (omega arith, (omega arith, (omega arith, subst (λ (top : ℕ). Stacked main_extent top s.entries) (h.outside is) h.stacked)));
  below = λ _. omega arith;
  outside = λ is. absurd (cc);
}
ordered_round owner.OfFunction s is h = record { top = h.top; stacked = h.stacked; below = λ is. absurd (cc); outside = λ _. h.outside is }
ordered_round owner.OfTask s is h = record { top = h.top; stacked = h.stacked; below = λ is. absurd (cc); outside = λ is. absurd (cc) }

round_room : (o : Owner) (s : Scope) (n : ℕ) → s.owner ≡ owner.OfFunction → HasRoom s (4 + n) → HasRoom (enter (round_body o (enter (in_unit o s)))) n
round_room owner.OfMain s n is h = record {
  slots = omega (arith, h.slots);
  depth = omega (arith, h.depth);
  functions = omega (arith, h.functions);
  elements = omega (arith, h.elements);
  arrays = omega (arith, h.arrays);
  streams = omega (arith, h.streams);
  entries = omega (arith, h.entries);
  order = ordered_round owner.OfMain s is h.order;
}
round_room owner.OfFunction s n is h = record {
  slots = omega (arith, h.slots);
  depth = omega (arith, h.depth);
  functions = omega (arith, h.functions);
  elements = omega (arith, h.elements);
  arrays = omega (arith, h.arrays);
  streams = omega (arith, h.streams);
  entries = omega (arith, h.entries);
  order = ordered_round owner.OfFunction s is h.order;
}
round_room owner.OfTask s n is h = record {
  slots = omega (arith, h.slots);
  depth = omega (arith, h.depth);
  functions = omega (arith, h.functions);
  elements = omega (arith, h.elements);
  arrays = omega (arith, h.arrays);
  streams = omega (arith, h.streams);
  entries = omega (arith, h.entries);
  order = ordered_round owner.OfTask s is h.order;
}

pub room_in_function : (s : Scope) (id : ℕ) (n : ℕ) → s.owner ≡ owner.OfFunction → HasRoom s (4 + n) → HasRoom (in_function s id) n
room_in_function s id n is h = round_room (owner_of id) s n is h

pub room_in_body : (s : Scope) (f : tree.FunctionTree) (n : ℕ) → s.owner ≡ owner.OfFunction →
    HasRoom s (4 + length (param_list f.params) + n) → HasRoom (in_body s f) n
room_in_body s f n is h =
    let ps = param_list f.params in
    room_params (in_function s f.name.id) ps n
    (room_in_function s f.name.id (length ps + n) is (room_less s _ (4 + (length ps + n)) h (omega arith)))

-- behind a function, which is one more
pub room_function : (s inner : Scope) (f : tree.FunctionTree) (n : ℕ) → HasRoom s (1 + n) → HasRoom inner (2 + n) → HasRoom (after_function s inner f) n
room_function s inner f n h k = room_declared (typed f.ty (record (after_unit s inner) { functions = inner.functions + 1 })) f.name.id _ n refl (record {
  slots = h.slots;
  depth = h.depth;
  functions = omega (arith, k.functions);
  elements = h.elements;
  arrays = omega (arith, k.arrays);
  streams = omega (arith, k.streams);
  entries = h.entries;
  order = h.order;
})

pub room_item : (s : Scope) (i : tree.ItemTree) (n : ℕ) → s.owner ≡ owner.OfFunction → HasRoom s (item_weight i + n) → HasRoom (after_item s i) n
room_item s (tree.Constant c) n is h = room_declared (typed c.ty s) c.name.id _ n refl (room_flagged s (is_unsigned c.ty) (1 + n) h)
room_item s (tree.Function f) n is h =
    let inner = after_stmts (in_body s f) f.body in
    let l = length (param_list f.params) in
    let w = stmts_weight f.body in
    room_function s inner f n (room_less s _ (1 + n) h (omega arith))
    (room_stmts (in_body s f) f.body (2 + n)
    (room_in_body s f (w + (2 + n)) is (room_less s _ (4 + l + (w + (2 + n))) h (omega arith))))

-- behind an item the file goes on
pub owner_item : (s : Scope) (i : tree.ItemTree) → (after_item s i).owner ≡ s.owner
owner_item s (tree.Constant c) = refl
owner_item s (tree.Function f) = refl

pub room_items_of_file : (s : Scope) (is : List tree.ItemTree) (n : ℕ) → s.owner ≡ owner.OfFunction → HasRoom s (items_weight is + n) → HasRoom (after_items s is) n
room_items_of_file s [] n o h = room_less s _ n h (omega arith)
room_items_of_file s (i ∷ is) n o h =
    room_items_of_file (after_item s i) is n (owner_item s i ∙ o)
    (room_item s i (items_weight is + n) o (room_less s _ (item_weight i + (items_weight is + n)) h (omega arith)))

-- the scopes within a statement or an item, which has room

pub room_then : (s : Scope) (a : tree.StmtTree) (n : ℕ) → HasRoom s (stmt_weight a + n) → HasRoom s (stmt_weight a)
room_then s a n h = room_less s (stmt_weight a + n) (stmt_weight a) h (omega arith)

pub room_in_for : (s : Scope) (start : tree.StartTree) (n : ℕ) → HasRoom s (1 + start_weight start + n) →
    HasRoom (in_loop (after_start (enter s) start)) n
room_in_for s start n h =
    room_in_loop (after_start (enter s) start) n
    (room_start (enter s) start n (room_enter s (start_weight start + n) (room_less s _ (1 + (start_weight start + n)) h (omega arith))))

pub room_for_body : (s : Scope) (f : tree.FunctionTree) → s.owner ≡ owner.OfFunction → HasRoom s (6 + length (param_list f.params) + stmts_weight f.body) →
    HasRoom (in_body s f) (stmts_weight f.body)
room_for_body s f is h = room_in_body s f (stmts_weight f.body) is (room_less s _ (4 + length (param_list f.params) + stmts_weight f.body) h (omega arith))
