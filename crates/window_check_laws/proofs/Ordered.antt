-- Names are noted in the order of their places.
use Rattle.std.proofs.Common.{◌≡◌, ◌≤◌, ◌+◌, ℕ, suc, List, [], ◌∷◌, ◌++◌, map, Option, Some, None, refl, ap, sym, subst, ◌∙◌, append_assoc, Bool, true, false, not, ◌&&◌, if◌then◌else◌, ℤ, arith}
use Rattle.std.specs.Prelude.{⊤}
use Rattle.os_ast.specs.declared.ty.Ty.TheVariants as ty_of
use Rattle.os_ast.specs.declared.ty.Ty.{Ty}
use Rattle.os_ast.specs.declared.program.Param.{Param}
use Rattle.os_ast.specs.Captured.{captured}
use Rattle.os_ast.specs.Marks.{HasMark, HasPlaces}
use Rattle.os_ast.specs.Names.{Scope, entity_of, lookup, enter, in_loop, typed, flag_of}
use Rattle.os_ast.specs.Notes.Clauses.{member_notes, members_notes, window_notes, shape_of, in_task_body}
use Rattle.os_ast.specs.Notes.Declarators.{declarator_notes, declarators_notes, after_declarator, after_start, start_notes, sized_notes, size_notes, constant_of, is_window}
use Rattle.os_ast.specs.Notes.Expressions.{expr_notes, place_notes, args_notes, links_notes, value_notes, index_notes, change_notes, step_notes, count_args}
use Rattle.os_ast.specs.Notes.Kinds.{Note, Used, Sized, Declared, Parameter, Global, Left, Returned, Pragma, Task, Listed}
use Rattle.os_ast.specs.Notes.Programs.{params_notes, after_param, param_list, item_notes, items_notes, after_item, in_function, in_body, program_notes, file}
use Rattle.os_ast.specs.Notes.Statements.{stmt_notes, stmts_notes, after_stmt}
use Rattle.os_ast.specs.Operators.{assign_mark, step_mark}
use Rattle.os_ast.specs.ClauseMembers.{ClauseMember, Item, Private, members, clause_members, member_name, count_items, target_name}
use Rattle.os_ast.specs.Spelling as spelling
use Rattle.os_ast.specs.Spelling.{Symbol, bare, marked, symbols, ◌⨾◌}
use Rattle.os_ast.specs.Trees as tree
use Rattle.os_ast.specs.Violations.{names, resolutions, declared_meaning, constant_meaning}
use Rattle.os_ast.specs.declared.expr.Mark.{Mark}
use Rattle.os_ast.specs.declared.expr.Name.{Name}
use Rattle.os_ast.specs.declared.names.Direction.{Direction}
use Rattle.os_ast.specs.declared.names.Direction.TheVariants as direction
use Rattle.os_ast.specs.declared.names.Entity.{Entity}
use Rattle.os_ast.specs.declared.names.Role.{Role}
use Rattle.os_ast.specs.declared.names.Role.TheVariants as role
use Rattle.os_ast.specs.declared.names.Shape.TheVariants as shape
use Rattle.os_ast.specs.declared.names.Use.{Use}
use Rattle.os_ast.specs.declared.names.Use.TheVariants as usage
use Rattle.os_ast.specs.declared.program.Params.{Params}
use Rattle.os_ast.specs.declared.program.Params.TheVariants as params_of
use Rattle.os_lexer.specs.declared.token.Key.TheVariants as keys
use Rattle.os_lexer.specs.declared.token.Kind.{Kind}
use Rattle.os_lexer.specs.declared.token.Kind.TheVariants as kind
use Rattle.os_lexer.specs.declared.token.Punct.{Punct}
use Rattle.os_lexer.specs.declared.token.Punct.TheVariants as puncts
use Rattle.window_check_laws.specs.Order.{InOrder, IsBelowNext}

-- the marks of symbols have their places, counted from a number
abbrev pub HasFrom : ℕ → List Symbol → Type 0
HasFrom lo [] = ⊤
HasFrom lo (bare k ∷ ps) = HasFrom (suc lo) ps
HasFrom lo (marked k m ∷ ps) = (m.place ≡ lo) × HasFrom (suc lo) ps

-- the token of a name that has a meaning; of every other one none
abbrev pub name_mark : Note → List Mark
name_mark (Used s n u) = n.mark ∷ []
name_mark (Sized s n) = n.mark ∷ []
name_mark (Declared s d) = d.name.mark ∷ []
name_mark (Parameter s p) = p.name.mark ∷ []
name_mark _ = []

abbrev pub name_marks : List Note → List Mark
name_marks [] = []
name_marks (n ∷ ns) = name_mark n ++ name_marks ns

name_marks-append : (xs ys : List Note) → name_marks (xs ++ ys) ≡ name_marks xs ++ name_marks ys
name_marks-append [] ys = refl
name_marks-append (n ∷ xs) ys =
    ap (λ ms. name_mark n ++ ms) (name_marks-append xs ys) ∙ sym (append_assoc (name_mark n) (name_marks xs) (name_marks ys))

-- tokens ascend, from one place on and below another
abbrev pub Ascend : ℕ → List Mark → ℕ → Type 0
Ascend lo [] hi = lo ≤ hi
Ascend lo (m ∷ ms) hi = (lo ≤ m.place) × Ascend (suc m.place) ms hi

ascend-lower : (lo from : ℕ) (ms : List Mark) (hi : ℕ) → lo ≤ from → Ascend from ms hi → Ascend lo ms hi
ascend-lower lo from [] hi h a = omega (arith, h, a)
ascend-lower lo from (m ∷ ms) hi h a = (omega (arith, h, a.0), a.1)

ascend-append : (lo : ℕ) (ms : List Mark) (mid : ℕ) (qs : List Mark) (hi : ℕ) → Ascend lo ms mid → Ascend mid qs hi → Ascend lo (ms ++ qs) hi
ascend-append lo [] mid qs hi a b = ascend-lower lo mid qs hi a b
ascend-append lo (m ∷ ms) mid qs hi a b = (a.0, ascend-append (suc m.place) ms mid qs hi a.1 b)

ascend-higher : (lo : ℕ) (ms : List Mark) (mid hi : ℕ) → mid ≤ hi → Ascend lo ms mid → Ascend lo ms hi
ascend-higher lo [] mid hi h a = omega (arith, h, a)
ascend-higher lo (m ∷ ms) mid hi h a = (a.0, ascend-higher (suc m.place) ms mid hi h a.1)

ascend-none : (lo : ℕ) (ms : List Mark) (hi : ℕ) → Ascend lo ms hi → lo ≤ hi
ascend-none lo [] hi a = a
ascend-none lo (m ∷ ms) hi a = omega (arith, a.0, ascend-none (suc m.place) ms hi a.1)

-- the names of a part ascend, and what follows it has its places
record Passed (lo : ℕ) (ns : List Note) (rest : List Symbol) : Type 0 where
  to : ℕ
  order : Ascend lo (name_marks ns) to
  after : HasFrom to rest

-- a part without names
silent : (lo : ℕ) (rest : List Symbol) → HasFrom lo rest → Passed lo [] rest
silent lo rest h = record { to = lo; order = omega arith; after = h }

-- a token before a part, and behind it
opened : {lo : ℕ} {ns : List Note} {rest : List Symbol} → Passed (suc lo) ns rest → Passed lo ns rest
opened {lo} {ns} {rest} p = record { to = p.to; order = ascend-lower lo (suc lo) (name_marks ns) p.to (omega arith) p.order; after = p.after }

closed : {lo : ℕ} {ns : List Note} {k : Kind} {rest : List Symbol} → Passed lo ns (bare k ∷ rest) → Passed lo ns rest
closed {lo} {ns} {k} {rest} p = record { to = suc p.to; order = ascend-higher lo (name_marks ns) p.to (suc p.to) (omega arith) p.order; after = p.after }

closed_mark : {lo : ℕ} {ns : List Note} {k : Kind} {m : Mark} {rest : List Symbol} → Passed lo ns (marked k m ∷ rest) → Passed lo ns rest
closed_mark {lo} {ns} {k} {m} {rest} p = record { to = suc p.to; order = ascend-higher lo (name_marks ns) p.to (suc p.to) (omega arith) p.order; after = p.after.1 }

-- one part after another
both : {lo : ℕ} {xs ys : List Note} {ps rest : List Symbol} (one : Passed lo xs ps) → Passed one.to ys rest → Passed lo (xs ++ ys) rest
both {lo} {xs} {ys} {ps} {rest} one two = record {
  to = two.to;
  order = subst (λ ms. Ascend lo ms two.to) (sym (name_marks-append xs ys)) (ascend-append lo (name_marks xs) one.to (name_marks ys) two.to one.order two.order);
  after = two.after;
}

-- tokens without names behind a part
silently : {lo : ℕ} {ns : List Note} {ps rest : List Symbol} (p : Passed lo ns ps) → Passed p.to [] rest → Passed lo ns rest
silently {lo} {ns} {ps} {rest} p q = record { to = q.to; order = ascend-higher lo (name_marks ns) p.to q.to q.order p.order; after = q.after }

-- a note of no name
quiet : {lo : ℕ} (n : Note) {ns : List Note} {rest : List Symbol} → name_mark n ≡ [] → Passed lo ns rest → Passed lo (n ∷ ns) rest
quiet {lo} n {ns} {rest} none p = record { to = p.to; order = subst (λ ms. Ascend lo (ms ++ name_marks ns) p.to) (sym none) p.order; after = p.after }

-- a name
with_name : {lo : ℕ} (n : Note) (m : Mark) {ns : List Note} {rest : List Symbol} → name_mark n ≡ m ∷ [] → m.place ≡ lo → Passed (suc lo) ns rest → Passed lo (n ∷ ns) rest
with_name {lo} n m {ns} {rest} is h p = record {
  to = p.to;
  order = subst (λ ms. Ascend lo (ms ++ name_marks ns) p.to) (sym is) (omega (arith, h), ascend-lower (suc m.place) (suc lo) (name_marks ns) p.to (omega (arith, h)) p.order);
  after = p.after;
}

used : (s : Scope) (n : Name) (u : Use) (lo : ℕ) (rest : List Symbol) → n.mark.place ≡ lo → HasFrom (suc lo) rest → Passed lo (Used s n u ∷ []) rest
used s n u lo rest h a = with_name (Used s n u) n.mark refl h (silent (suc lo) rest a)

mutual
  in-expr : (s : Scope) (e : tree.ExprTree) (lo : ℕ) (rest : List Symbol) → HasFrom lo (spelling.expr e rest) → Passed lo (expr_notes s e) rest
  in-expr s (tree.Number n) lo rest h = opened (silent (suc lo) rest h)
  in-expr s (tree.Wide n) lo rest h = opened (silent (suc lo) rest h)
  in-expr s (tree.Place t) lo rest h = in-place s role.Value t lo rest h
  in-expr s (tree.ExprTree.Call f es) lo rest h =
      closed (with_name (Used s f (usage.Called (count_args es))) f.mark refl h.0 (opened (in-args s es (suc (suc lo)) (spelling.punct puncts.CloseParen rest) h.1)))
  in-expr s (tree.Paren e) lo rest h = opened (closed (in-expr s e (suc lo) (spelling.punct puncts.CloseParen rest) h))
  in-expr s (tree.Unary op m e) lo rest h = opened (in-expr s e (suc lo) rest h.1)
  in-expr s (tree.Chain l first links) lo rest h =
      let one = in-expr s first lo (spelling.links links rest) h in
      both one (in-links s links one.to rest one.after)
  in-expr s (tree.Choice c a b) lo rest h =
      let last = spelling.expr b rest in
      let middle = spelling.expr a (spelling.punct puncts.Colon last) in
      let one = closed (in-expr s c lo (spelling.punct puncts.Question middle) h) in
      let two = closed (both one (in-expr s a one.to (spelling.punct puncts.Colon last) one.after)) in
      both two (in-expr s b two.to rest two.after)

  in-place : (s : Scope) (r : Role) (t : tree.TargetTree) (lo : ℕ) (rest : List Symbol) → HasFrom lo (spelling.target t rest) → Passed lo (place_notes s r t) rest
  in-place s r (tree.Variable n) lo rest h = used s n (usage.Place r shape.Bare) lo rest h.0 h.1
  in-place s r (tree.Element n m e) lo rest h =
      closed
      (with_name (Used s n (usage.Place r shape.Indexed)) n.mark refl h.0 (opened (in-expr s e (suc (suc lo)) (spelling.punct puncts.CloseBracket rest) h.1.1)))

  in-args : (s : Scope) (es : tree.Args) (lo : ℕ) (rest : List Symbol) → HasFrom lo (spelling.args es rest) → Passed lo (args_notes s es) rest
  in-args s tree.no_args lo rest h = silent lo rest h
  in-args s (tree.arg e es) lo rest h =
      let one = in-expr s e lo (spelling.more_args es rest) h in
      both one (in-more_args s es one.to rest one.after)

  in-more_args : (s : Scope) (es : tree.Args) (lo : ℕ) (rest : List Symbol) → HasFrom lo (spelling.more_args es rest) → Passed lo (args_notes s es) rest
  in-more_args s tree.no_args lo rest h = silent lo rest h
  in-more_args s (tree.arg e es) lo rest h =
      let one = opened (in-expr s e (suc lo) (spelling.more_args es rest) h) in
      both one (in-more_args s es one.to rest one.after)

  in-links : (s : Scope) (ls : tree.Links) (lo : ℕ) (rest : List Symbol) → HasFrom lo (spelling.links ls rest) → Passed lo (links_notes s ls) rest
  in-links s tree.no_links lo rest h = silent lo rest h
  in-links s (tree.link op m e ls) lo rest h =
      let one = opened (in-expr s e (suc lo) (spelling.links ls rest) h.1) in
      both one (in-links s ls one.to rest one.after)

in-value : (s : Scope) (e : Option tree.ExprTree) (lo : ℕ) (rest : List Symbol) → HasFrom lo (spelling.optional spelling.expr e rest) → Passed lo (value_notes s e) rest
in-value s None lo rest h = silent lo rest h
in-value s (Some e) lo rest h = in-expr s e lo rest h

in-first : (s : Scope) (e : Option tree.ExprTree) (lo : ℕ) (rest : List Symbol) → HasFrom lo (spelling.optional spelling.first_value e rest) → Passed lo (value_notes s e) rest
in-first s None lo rest h = silent lo rest h
in-first s (Some e) lo rest h = opened (in-expr s e (suc lo) rest h)

in-index : (s : Scope) (i : Option tree.IndexTree) (lo : ℕ) (rest : List Symbol) → HasFrom lo (spelling.optional spelling.index i rest) → Passed lo (index_notes s i) rest
in-index s None lo rest h = silent lo rest h
in-index s (Some i) lo rest h = opened (closed (in-expr s i.value (suc lo) (spelling.punct puncts.CloseBracket rest) h.1))

in-change : (s : Scope) (c : tree.ChangeTree) (lo : ℕ) (rest : List Symbol) → HasFrom lo (spelling.change c rest) → Passed lo (change_notes s c) rest
in-change s (tree.Set t a m e) lo rest h =
    let one = closed_mark (in-place s role.Changed t lo (spelling.punct_at (assign_mark a) m (spelling.expr e rest)) h) in
    both one (in-expr s e one.to rest one.after)
in-change s (tree.After t step m) lo rest h = closed_mark (in-place s role.Changed t lo (spelling.punct_at (step_mark step) m rest) h)
in-change s (tree.Before t step m) lo rest h = opened (in-place s role.Changed t (suc lo) rest h.1)

in-step : (s : Scope) (c : Option tree.ChangeTree) (lo : ℕ) (rest : List Symbol) → HasFrom lo (spelling.optional spelling.change c rest) → Passed lo (step_notes s c) rest
in-step s None lo rest h = silent lo rest h
in-step s (Some c) lo rest h = in-change s c lo rest h

-- sizes: the name of a constant, or nothing, of an expression
unnamed : {lo : ℕ} {ns : List Note} {rest : List Symbol} → Passed lo ns rest → Passed lo [] rest
unnamed {lo} {ns} {rest} p = record { to = p.to; order = ascend-none lo (name_marks ns) p.to p.order; after = p.after }

in-size_name : (s : Scope) (e : tree.ExprTree) (lo : ℕ) (rest : List Symbol) → HasFrom lo (spelling.expr e rest) → Passed lo (size_notes s e) rest
in-size_name s (tree.Place (tree.Variable n)) lo rest h = with_name (Sized s n) n.mark refl h.0 (silent (suc lo) rest h.1)
in-size_name s (tree.Place (tree.Element n m e)) lo rest h = unnamed (in-expr s (tree.Place (tree.Element n m e)) lo rest h)
in-size_name s (tree.Number n) lo rest h = unnamed (in-expr s (tree.Number n) lo rest h)
in-size_name s (tree.Wide n) lo rest h = unnamed (in-expr s (tree.Wide n) lo rest h)
in-size_name s (tree.ExprTree.Call f es) lo rest h = unnamed (in-expr s (tree.ExprTree.Call f es) lo rest h)
in-size_name s (tree.Paren e) lo rest h = unnamed (in-expr s (tree.Paren e) lo rest h)
in-size_name s (tree.Unary op m e) lo rest h = unnamed (in-expr s (tree.Unary op m e) lo rest h)
in-size_name s (tree.Chain l first links) lo rest h = unnamed (in-expr s (tree.Chain l first links) lo rest h)
in-size_name s (tree.Choice c a b) lo rest h = unnamed (in-expr s (tree.Choice c a b) lo rest h)

in-size : (s : Scope) (window : Bool) (e : tree.ExprTree) (lo : ℕ) (rest : List Symbol) → HasFrom lo (spelling.expr e rest) → Passed lo (if window then expr_notes s e else size_notes s e) rest
in-size s true e lo rest h = in-expr s e lo rest h
in-size s false e lo rest h = in-size_name s e lo rest h

in-sized : (s : Scope) (stream : Bool) (i : Option tree.IndexTree) (lo : ℕ) (rest : List Symbol) → HasFrom lo (spelling.optional spelling.index i rest) → Passed lo (sized_notes s stream i) rest
in-sized s stream None lo rest h = silent lo rest h
in-sized s stream (Some i) lo rest h = opened (closed (in-size s (is_window s.owner && not stream) i.value (suc lo) (spelling.punct puncts.CloseBracket rest) h.1))

in-attribute : (stream : Bool) (lo : ℕ) (rest : List Symbol) → HasFrom lo (spelling.attribute stream rest) → Passed lo [] rest
in-attribute false lo rest h = silent lo rest h
in-attribute true lo rest h = opened (opened (opened (opened (opened (opened (silent (suc (suc (suc (suc (suc (suc lo)))))) rest h))))))

in-declarator : (s : Scope) (d : tree.DeclaratorTree) (lo : ℕ) (rest : List Symbol) → HasFrom lo (spelling.declarator d rest) → Passed lo (declarator_notes s d) rest
in-declarator s d lo rest h =
    let last = spelling.optional spelling.first_value d.first rest in
    let size = in-sized s d.stream d.size (suc lo) (spelling.attribute d.stream last) h.1 in
    let named = with_name (Declared s d) d.name.mark refl h.0 size in
    let stream = silently named (in-attribute d.stream named.to last named.after) in
    both stream (in-first (after_declarator s d) d.first stream.to rest stream.after)

in-declarators : (s : Scope) (ds : List tree.DeclaratorTree) (lo : ℕ) (rest : List Symbol) → HasFrom lo (spelling.each (λ d. spelling.punct puncts.Comma ⨾ spelling.declarator d) ds rest) → Passed lo (declarators_notes s ds) rest
in-declarators s [] lo rest h = silent lo rest h
in-declarators s (d ∷ ds) lo rest h =
    let one = opened (in-declarator s d (suc lo) _ h) in
    both one (in-declarators (after_declarator s d) ds one.to rest one.after)

in-listed : (s : Scope) (ds : List tree.DeclaratorTree) (lo : ℕ) (rest : List Symbol) → HasFrom lo (spelling.listed spelling.declarator ds rest) → Passed lo (declarators_notes s ds) rest
in-listed s [] lo rest h = silent lo rest h
in-listed s (d ∷ ds) lo rest h =
    let one = in-declarator s d lo _ h in
    both one (in-declarators (after_declarator s d) ds one.to rest one.after)

-- the words of a type before a part
behind_type : (t : Ty) {lo : ℕ} {ns : List Note} (ps : List Symbol) {rest : List Symbol} → HasFrom lo (spelling.type_words t ps) →
    ((mid : ℕ) → HasFrom mid ps → Passed mid ns rest) → Passed lo ns rest
behind_type ty_of.Int {lo} ps h k = opened (k (suc lo) h)
behind_type ty_of.Unsigned {lo} ps h k = opened (k (suc lo) h)
behind_type ty_of.UnsignedInt {lo} ps h k = opened (opened (k (suc (suc lo)) h))

in-declare : (s : Scope) (t : Ty) (ds : List tree.DeclaratorTree) (lo : ℕ) (rest : List Symbol) → HasFrom lo (spelling.declare t ds rest) → Passed lo (declarators_notes s ds) rest
in-declare s t ds lo rest h = behind_type t _ h (λ mid g. closed (in-listed s ds mid (spelling.punct puncts.Semicolon rest) g))

in-start : (s : Scope) (st : tree.StartTree) (lo : ℕ) (rest : List Symbol) → HasFrom lo (spelling.start st rest) → Passed lo (start_notes s st) rest
in-start s tree.StartTree.Empty lo rest h = opened (silent (suc lo) rest h)
in-start s (tree.StartTree.Declare t ds) lo rest h = in-declare (typed t s) t ds lo rest h
in-start s (tree.StartTree.Change c) lo rest h = closed (in-change s c lo (spelling.punct puncts.Semicolon rest) h)

-- the members of clauses
abbrev pub names_after : List ℕ → List ClauseMember → List ℕ
names_after before [] = before
names_after before (p ∷ ps) = names_after ((member_name p).id ∷ before) ps

members_notes-append : (s : Scope) (before : List ℕ) (ps qs : List ClauseMember) → members_notes s before (ps ++ qs) ≡ members_notes s before ps ++ members_notes s (names_after before ps) qs
members_notes-append s before [] qs = refl
members_notes-append s before (p ∷ ps) qs =
    ap (λ ns. member_notes s before p ++ ns) (members_notes-append s ((member_name p).id ∷ before) ps qs)
    ∙ sym (append_assoc (member_notes s before p) (members_notes s ((member_name p).id ∷ before) ps) (members_notes s (names_after before (p ∷ ps)) qs))

in-join : (s : Scope) (before : List ℕ) (arrow : Punct) (t : tree.TargetTree) (w : Option tree.JoinTree) (lo : ℕ) (rest : List Symbol) →
    HasFrom lo (spelling.optional (spelling.join arrow) w rest) → Passed lo (window_notes s before t w) rest
in-join s before arrow t None lo rest h = quiet (Listed before (target_name t)) refl (silent lo rest h)
in-join s before arrow t (Some j) lo rest h =
    opened
    (quiet (Listed before j.name) refl
    (with_name (Used s j.name (usage.Joined (shape_of j.burst))) j.name.mark refl h.1.0 (in-index s j.burst (suc (suc lo)) rest h.1.1)))

in-item : (s : Scope) (before : List ℕ) (d : Direction) (arrow : Punct) (i : tree.ClauseItemTree) (lo : ℕ) (rest : List Symbol) →
    HasFrom lo (spelling.clause_item arrow i rest) → Passed lo (member_notes s before (Item d i)) rest
in-item s before d arrow i lo rest h =
    let one = in-place s (role.Flow d) i.stream lo (spelling.optional (spelling.join arrow) i.window rest) h in
    both one (in-join s before arrow i.stream i.window one.to rest one.after)

in-items : (s : Scope) (before : List ℕ) (d : Direction) (arrow : Punct) (is : List tree.ClauseItemTree) (lo : ℕ) (rest : List Symbol) →
    HasFrom lo (spelling.each (λ i. spelling.punct puncts.Comma ⨾ spelling.clause_item arrow i) is rest) → Passed lo (members_notes s before (map (Item d) is)) rest
in-items s before d arrow [] lo rest h = silent lo rest h
in-items s before d arrow (i ∷ is) lo rest h =
    let one = opened (in-item s before d arrow i (suc lo) _ h) in
    both one (in-items s ((member_name (Item d i)).id ∷ before) d arrow is one.to rest one.after)

in-item_list : (s : Scope) (before : List ℕ) (d : Direction) (arrow : Punct) (is : List tree.ClauseItemTree) (lo : ℕ) (rest : List Symbol) →
    HasFrom lo (spelling.listed (spelling.clause_item arrow) is rest) → Passed lo (members_notes s before (map (Item d) is)) rest
in-item_list s before d arrow [] lo rest h = silent lo rest h
in-item_list s before d arrow (i ∷ is) lo rest h =
    let one = in-item s before d arrow i lo _ h in
    both one (in-items s ((member_name (Item d i)).id ∷ before) d arrow is one.to rest one.after)

in-private : (s : Scope) (before : List ℕ) (n : Name) (lo : ℕ) (rest : List Symbol) → HasFrom lo (spelling.name n rest) → Passed lo (member_notes s before (Private n)) rest
in-private s before n lo rest h = quiet (Listed before n) refl (used s n usage.Private lo rest h.0 h.1)

in-privates : (s : Scope) (before : List ℕ) (ns : List Name) (lo : ℕ) (rest : List Symbol) →
    HasFrom lo (spelling.each (λ n. spelling.punct puncts.Comma ⨾ spelling.name n) ns rest) → Passed lo (members_notes s before (map Private ns)) rest
in-privates s before [] lo rest h = silent lo rest h
in-privates s before (n ∷ ns) lo rest h =
    let more = spelling.each (λ n. spelling.punct puncts.Comma ⨾ spelling.name n) ns rest in
    let one = opened (in-private s before n (suc lo) more h) in
    both one (in-privates s (n.id ∷ before) ns one.to rest one.after)

in-private_list : (s : Scope) (before : List ℕ) (ns : List Name) (lo : ℕ) (rest : List Symbol) →
    HasFrom lo (spelling.listed spelling.name ns rest) → Passed lo (members_notes s before (map Private ns)) rest
in-private_list s before [] lo rest h = silent lo rest h
in-private_list s before (n ∷ ns) lo rest h =
    let more = spelling.each (λ n. spelling.punct puncts.Comma ⨾ spelling.name n) ns rest in
    let one = in-private s before n lo more h in
    both one (in-privates s (n.id ∷ before) ns one.to rest one.after)

in-kind : (s : Scope) (before : List ℕ) (k : tree.ClauseKindTree) (lo : ℕ) (rest : List Symbol) → HasFrom lo (spelling.clause_kind k rest) → Passed lo (members_notes s before (clause_members k)) rest
in-kind s before (tree.Input is) lo rest h =
    opened (opened (closed (in-item_list s before direction.Reads puncts.ShiftRight is (suc (suc lo)) (spelling.punct puncts.CloseParen rest) h)))
in-kind s before (tree.Output is) lo rest h =
    opened (opened (closed (in-item_list s before direction.Writes puncts.ShiftLeft is (suc (suc lo)) (spelling.punct puncts.CloseParen rest) h)))
in-kind s before (tree.Firstprivate ns) lo rest h =
    opened (opened (closed (in-private_list s before ns (suc (suc lo)) (spelling.punct puncts.CloseParen rest) h)))

in-clause : (s : Scope) (before : List ℕ) (comma : Bool) (k : tree.ClauseKindTree) (lo : ℕ) (rest : List Symbol) →
    HasFrom lo (spelling.comma comma (spelling.clause_kind k rest)) → Passed lo (members_notes s before (clause_members k)) rest
in-clause s before false k lo rest h = in-kind s before k lo rest h
in-clause s before true k lo rest h = opened (in-kind s before k (suc lo) rest h)

in-clauses : (s : Scope) (before : List ℕ) (cs : List tree.ClauseTree) (lo : ℕ) (rest : List Symbol) →
    HasFrom lo (spelling.each spelling.clause cs rest) → Passed lo (members_notes s before (members cs)) rest
in-clauses s before [] lo rest h = silent lo rest h
in-clauses s before (c ∷ cs) lo rest h =
    let one = in-clause s before c.comma c.kind lo (spelling.each spelling.clause cs rest) h in
    subst (λ ns. Passed lo ns rest) (sym (members_notes-append s before (clause_members c.kind) (members cs)))
    (both one (in-clauses s (names_after before (clause_members c.kind)) cs one.to rest one.after))

-- a note of no name behind a part
then_quiet : {lo : ℕ} {ns : List Note} {rest : List Symbol} (n : Note) → name_mark n ≡ [] → Passed lo ns rest → Passed lo (ns ++ n ∷ []) rest
then_quiet {lo} {ns} {rest} n none p = both p (quiet n none (silent p.to rest p.after))

mutual
  in-stmt : (s : Scope) (a : tree.StmtTree) (lo : ℕ) (rest : List Symbol) → HasFrom lo (spelling.stmt a rest) → Passed lo (stmt_notes s a) rest
  in-stmt s tree.StmtTree.Empty lo rest h = opened (silent (suc lo) rest h)
  in-stmt s (tree.Block ss) lo rest h = opened (closed (in-stmts (enter s) ss (suc lo) (spelling.punct puncts.CloseBrace rest) h))
  in-stmt s (tree.StmtTree.Declare t ds) lo rest h = in-declare (typed t s) t ds lo rest h
  in-stmt s (tree.StmtTree.Change c) lo rest h = closed (in-change s c lo (spelling.punct puncts.Semicolon rest) h)
  in-stmt s (tree.StmtTree.Call f es) lo rest h = closed (in-expr s (tree.ExprTree.Call f es) lo (spelling.punct puncts.Semicolon rest) h)
  in-stmt s (tree.If c a) lo rest h =
      let body = spelling.stmt a rest in
      let one = opened (opened (closed (in-expr s c (suc (suc lo)) (spelling.punct puncts.CloseParen body) h))) in
      both one (in-stmt s a one.to rest one.after)
  in-stmt s (tree.IfElse c a b) lo rest h =
      let second = spelling.stmt b rest in
      let first = spelling.stmt a (spelling.key keys.Else second) in
      let one = opened (opened (closed (in-expr s c (suc (suc lo)) (spelling.punct puncts.CloseParen first) h))) in
      let two = closed (both one (in-stmt s a one.to (spelling.key keys.Else second) one.after)) in
      both two (in-stmt (after_stmt s a) b two.to rest two.after)
  in-stmt s (tree.While c a) lo rest h =
      let body = spelling.stmt a rest in
      let one = opened (opened (closed (in-expr s c (suc (suc lo)) (spelling.punct puncts.CloseParen body) h))) in
      both one (in-stmt (in_loop s) a one.to rest one.after)
  in-stmt s (tree.For start test step a) lo rest h =
      let head = after_start (enter s) start in
      let last = spelling.optional spelling.change step (spelling.punct puncts.CloseParen (spelling.stmt a rest)) in
      let middle = spelling.optional spelling.expr test (spelling.punct puncts.Semicolon last) in
      let one = opened (opened (in-start (enter s) start (suc (suc lo)) middle h)) in
      let two = closed (both one (in-value head test one.to (spelling.punct puncts.Semicolon last) one.after)) in
      let three = closed (both two (in-step head step two.to (spelling.punct puncts.CloseParen (spelling.stmt a rest)) two.after)) in
      both three (in-stmt (in_loop head) a three.to rest three.after)
  in-stmt s (tree.Break m) lo rest h = quiet (Left s m) refl (opened (opened (silent (suc (suc lo)) rest h.1)))
  in-stmt s (tree.Continue m) lo rest h = quiet (Left s m) refl (opened (opened (silent (suc (suc lo)) rest h.1)))
  in-stmt s (tree.Return m e) lo rest h = quiet (Returned s m) refl (opened (closed (in-expr s e (suc lo) (spelling.punct puncts.Semicolon rest) h.1)))
  in-stmt s (tree.Task m cs a) lo rest h =
      let inner = in_task_body s (members cs) a in
      let one = opened (opened (opened (closed (in-clauses s [] cs (suc (suc (suc lo))) (spelling.token kind.PragmaEnd (spelling.stmt a rest)) h.1)))) in
      let two = then_quiet (Task s m (count_items (members cs)) (captured s.entries (members cs) a)) refl one in
      both two (in-stmt inner a two.to rest two.after)
  in-stmt s (tree.Tick m t arrow e) lo rest h =
      let last = spelling.punct puncts.CloseParen (spelling.token kind.PragmaEnd rest) in
      let one = opened (opened (opened (opened (closed_mark (in-place s (role.Flow direction.Reads) t (suc (suc (suc (suc lo)))) (spelling.punct_at puncts.ShiftRight arrow (spelling.expr e last)) h.1))))) in
      closed (closed (quiet (Pragma s m) refl (both one (in-expr s e one.to last one.after))))
  in-stmt s (tree.Taskwait m) lo rest h = quiet (Pragma s m) refl (opened (opened (opened (opened (silent (suc (suc (suc (suc lo)))) rest h.1)))))

  in-stmts : (s : Scope) (ss : tree.Stmts) (lo : ℕ) (rest : List Symbol) → HasFrom lo (spelling.stmts ss rest) → Passed lo (stmts_notes s ss) rest
  in-stmts s tree.no_stmts lo rest h = silent lo rest h
  in-stmts s (tree.stmt a ss) lo rest h =
      let one = in-stmt s a lo (spelling.stmts ss rest) h in
      both one (in-stmts (after_stmt s a) ss one.to rest one.after)

-- functions and programs
in-params : (s : Scope) (ns : List Param) (lo : ℕ) (rest : List Symbol) →
    HasFrom lo (spelling.each (λ p. spelling.punct puncts.Comma ⨾ spelling.param p) ns rest) → Passed lo (params_notes s ns) rest
in-params s [] lo rest h = silent lo rest h
in-params s (p ∷ ps) lo rest h =
    opened (behind_type p.ty _ h (λ mid g. with_name (Parameter s p) p.name.mark refl g.0 (in-params (after_param s p) ps (suc mid) rest g.1)))

in-param_list : (s : Scope) (ps : Params) (lo : ℕ) (rest : List Symbol) → HasFrom lo (spelling.params ps rest) → Passed lo (params_notes s (param_list ps)) rest
in-param_list s params_of.Empty lo rest h = silent lo rest h
in-param_list s params_of.Void lo rest h = opened (silent (suc lo) rest h)
in-param_list s (params_of.Names []) lo rest h = silent lo rest h
in-param_list s (params_of.Names (p ∷ ps)) lo rest h =
    behind_type p.ty _ h (λ mid g. with_name (Parameter s p) p.name.mark refl g.0 (in-params (after_param s p) ps (suc mid) rest g.1))

in-sign : (minus : Bool) (lo : ℕ) (rest : List Symbol) → HasFrom lo (spelling.sign minus rest) → Passed lo [] rest
in-sign false lo rest h = silent lo rest h
in-sign true lo rest h = opened (silent (suc lo) rest h)

closed_number : (wide : Bool) (size : ℕ) {lo : ℕ} {ns : List Note} {rest : List Symbol} → Passed lo ns (spelling.numeral wide size rest) → Passed lo ns rest
closed_number false size p = closed p
closed_number true size p = closed p

in-programs_item : (s : Scope) (i : tree.ItemTree) (lo : ℕ) (rest : List Symbol) → HasFrom lo (spelling.item i rest) → Passed lo (item_notes s i) rest
in-programs_item s (tree.Constant c) lo rest h =
    let number = spelling.numeral c.wide c.size (spelling.punct puncts.Semicolon rest) in
    let named = quiet (Global s c.name) refl (opened (behind_type c.ty _ h (λ mid g. opened (closed (silent (suc mid) (spelling.punct puncts.Set (spelling.sign c.minus number)) g.1))))) in
    closed (closed_number c.wide c.size (silently named (in-sign c.minus named.to number named.after)))
in-programs_item s (tree.Function f) lo rest h =
    let body = spelling.stmts f.body (spelling.punct puncts.CloseBrace rest) in
    let behind = spelling.punct puncts.CloseParen (spelling.punct puncts.OpenBrace body) in
    let one = behind_type f.ty _ h (λ mid g. opened (opened (closed (closed (in-param_list (in_function s f.name.id) f.params (suc (suc mid)) behind g.1))))) in
    let two = quiet (Global s f.name) refl one in
    closed (both two (in-stmts (in_body s f) f.body two.to (spelling.punct puncts.CloseBrace rest) two.after))

in-program : (s : Scope) (is : List tree.ItemTree) (lo : ℕ) (rest : List Symbol) → HasFrom lo (spelling.each spelling.item is rest) → Passed lo (items_notes s is) rest
in-program s [] lo rest h = silent lo rest h
in-program s (i ∷ is) lo rest h =
    let one = in-programs_item s i lo (spelling.each spelling.item is rest) h in
    both one (in-program (after_item s i) is one.to rest one.after)

-- every symbol has its place
pub has-from : (ps : List Symbol) (from : ℕ) → ((i : ℕ) (m : Mark) → HasMark ps i m → m.place ≡ from + i) → HasFrom from ps
has-from [] from f = tt
has-from (bare k ∷ ps) from f = has-from ps (suc from) (λ i m is. omega (arith, f (suc i) m is))
has-from (marked k m ∷ ps) from f = (omega (arith, f 0 m (k, refl)), has-from ps (suc from) (λ i q is. omega (arith, f (suc i) q is)))

below_next : (place : ℕ) (ns : List Note) (hi : ℕ) → Ascend (suc place) (name_marks ns) hi → IsBelowNext place (resolutions ns)
below_next place [] hi a = tt
below_next place (Used s n u ∷ ns) hi a =
    below_found (entity_of (lookup s.entries n.id)) (below_next place ns hi (ascend-lower (suc place) (suc n.mark.place) (name_marks ns) hi (omega (arith, a.0)) a.1)) (below_next n.mark.place ns hi a.1)
  where
    below_found : (d : Option Entity) → IsBelowNext place (resolutions ns) → IsBelowNext n.mark.place (resolutions ns) → IsBelowNext place (declared_meaning n.mark (flag_of (lookup s.entries n.id)) s.owner s.captured d ++ resolutions ns)
    below_found None h k = h
    below_found (Some e) h k = (omega (arith, a.0), k)
below_next place (Sized s n ∷ ns) hi a =
    below_found (constant_of (entity_of (lookup s.entries n.id))) (below_next place ns hi (ascend-lower (suc place) (suc n.mark.place) (name_marks ns) hi (omega (arith, a.0)) a.1)) (below_next n.mark.place ns hi a.1)
  where
    below_found : (v : Option ℤ) → IsBelowNext place (resolutions ns) → IsBelowNext n.mark.place (resolutions ns) → IsBelowNext place (constant_meaning n.mark (flag_of (lookup s.entries n.id)) v ++ resolutions ns)
    below_found None h k = h
    below_found (Some v) h k = (omega (arith, a.0), k)
below_next place (Declared s d ∷ ns) hi a = (omega (arith, a.0), below_next d.name.mark.place ns hi a.1)
below_next place (Parameter s p ∷ ns) hi a = (omega (arith, a.0), below_next p.name.mark.place ns hi a.1)
below_next place (Global s n ∷ ns) hi a = below_next place ns hi a
below_next place (Left s m ∷ ns) hi a = below_next place ns hi a
below_next place (Returned s m ∷ ns) hi a = below_next place ns hi a
below_next place (Pragma s m ∷ ns) hi a = below_next place ns hi a
below_next place (Task s m items slots ∷ ns) hi a = below_next place ns hi a
below_next place (Listed again n ∷ ns) hi a = below_next place ns hi a

in_order : (lo : ℕ) (ns : List Note) (hi : ℕ) → Ascend lo (name_marks ns) hi → InOrder (resolutions ns)
in_order lo [] hi a = tt
in_order lo (Used s n u ∷ ns) hi a = order_found (entity_of (lookup s.entries n.id)) (in_order (suc n.mark.place) ns hi a.1)
  where
    order_found : (d : Option Entity) → InOrder (resolutions ns) → InOrder (declared_meaning n.mark (flag_of (lookup s.entries n.id)) s.owner s.captured d ++ resolutions ns)
    order_found None h = h
    order_found (Some e) h = below_next n.mark.place ns hi a.1
in_order lo (Sized s n ∷ ns) hi a = order_found (constant_of (entity_of (lookup s.entries n.id))) (in_order (suc n.mark.place) ns hi a.1)
  where
    order_found : (v : Option ℤ) → InOrder (resolutions ns) → InOrder (constant_meaning n.mark (flag_of (lookup s.entries n.id)) v ++ resolutions ns)
    order_found None h = h
    order_found (Some v) h = below_next n.mark.place ns hi a.1
in_order lo (Declared s d ∷ ns) hi a = below_next d.name.mark.place ns hi a.1
in_order lo (Parameter s p ∷ ns) hi a = below_next p.name.mark.place ns hi a.1
in_order lo (Global s n ∷ ns) hi a = in_order lo ns hi a
in_order lo (Left s m ∷ ns) hi a = in_order lo ns hi a
in_order lo (Returned s m ∷ ns) hi a = in_order lo ns hi a
in_order lo (Pragma s m ∷ ns) hi a = in_order lo ns hi a
in_order lo (Task s m items slots ∷ ns) hi a = in_order lo ns hi a
in_order lo (Listed again n ∷ ns) hi a = in_order lo ns hi a

pub names_in_order : (p : tree.ProgramTree) → HasPlaces p → InOrder (names p)
names_in_order p h =
    let all = in-program file p 0 [] (has-from (symbols p) 0 (λ i m is. omega (arith, h i m is))) in
    in_order 0 (program_notes p) all.to all.order
