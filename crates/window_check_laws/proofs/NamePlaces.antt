-- The names of a lawful program have the places of its name tokens.
use Rattle.std.proofs.Common.{◌≡◌, ℕ, ◌&&◌, ◌||◌, Bool, true, false, not, if◌then◌else◌, List, [], ◌∷◌, ◌++◌, map, Option, Some, None, ℤ, refl, ap, sym, subst, ◌∙◌, append_assoc}
use Rattle.std.specs.Prelude.{is_none}
use Rattle.std.proofs.lemmas.List.{append-nil, map-append}
use Rattle.os_ast.specs.declared.ty.Ty.{Ty}
use Rattle.os_ast.specs.declared.ty.Ty.TheVariants as ty_of
use Rattle.os_ast.specs.declared.program.Param.{Param}
use Rattle.os_ast.specs.Captured.{captured}
use Rattle.os_ast.specs.Limits.{is_size}
use Rattle.os_ast.specs.Names.{Scope, lookup, entity_of, enter, in_loop, typed, flag_of}
use Rattle.os_ast.specs.Notes.Clauses.{member_notes, members_notes, window_notes, shape_of, clauses_notes, in_task_body}
use Rattle.os_ast.specs.Notes.Declarators.{form, form_with, sized_form, size_of, size_told, size_value, constant_of, declarator_notes, declarators_notes, after_declarator, after_start, start_notes, sized_notes, size_notes, is_window}
use Rattle.os_ast.specs.Notes.Expressions.{expr_notes, place_notes, args_notes, links_notes, value_notes, index_notes, change_notes, step_notes, count_args}
use Rattle.os_ast.specs.Notes.Kinds.{Note, Used, Task}
use Rattle.os_ast.specs.Notes.Programs.{params_notes, after_param, param_list, item_notes, items_notes, after_item, in_function, in_body, program_notes, file}
use Rattle.os_ast.specs.Notes.Statements.{stmt_notes, stmts_notes, after_stmt}
use Rattle.os_ast.specs.ClauseMembers.{ClauseMember, Item, Private, members, clause_members, member_name, count_items}
use Rattle.os_ast.specs.Rules.{has_no_size, has_too_many}
use Rattle.os_ast.specs.Spelling as spelling
use Rattle.os_ast.specs.Spelling.{Symbol, ◌⨾◌}
use Rattle.os_ast.specs.Trees as tree
use Rattle.os_ast.specs.Violations.{names, resolutions_of, resolutions, declared_meaning, constant_meaning}
use Rattle.os_ast.specs.declared.expr.Mark.{Mark}
use Rattle.os_ast.specs.declared.expr.Name.{Name}
use Rattle.os_ast.specs.declared.names.Direction.{Direction}
use Rattle.os_ast.specs.declared.names.Direction.TheVariants as direction
use Rattle.os_ast.specs.declared.names.Entity.{Entity}
use Rattle.os_ast.specs.declared.names.Owner.{Owner}
use Rattle.os_ast.specs.declared.names.Owner.TheVariants as owner
use Rattle.os_ast.specs.declared.names.Resolved.{Resolved}
use Rattle.os_ast.specs.declared.names.Role.{Role}
use Rattle.os_ast.specs.declared.names.Role.TheVariants as role
use Rattle.os_ast.specs.declared.names.Shape.TheVariants as shape
use Rattle.os_ast.specs.declared.names.Use.{Use}
use Rattle.os_ast.specs.declared.names.Use.TheVariants as usage
use Rattle.os_ast.specs.declared.program.Params.{Params}
use Rattle.os_ast.specs.declared.program.Params.TheVariants as params_of
use Rattle.os_lexer.specs.declared.token.Key.TheVariants as keys
use Rattle.os_lexer.specs.declared.token.Punct.{Punct}
use Rattle.os_lexer.specs.declared.token.Punct.TheVariants as puncts
use Rattle.window_check_laws.proofs.Told.{lawful-first, lawful-rest}
use Rattle.window_check_laws.specs.NameTokens.{name_places, item_places, program_places}
use Rattle.window_check_laws.specs.Told.{KeepsAll, AreLawful, rules}

-- the places of the names among notes
abbrev told : List Note → List ℕ
told [] = []
told (n ∷ ns) = map (λ (r : Resolved). r.place) (resolutions_of n) ++ told ns

told-append : (xs ys : List Note) → told (xs ++ ys) ≡ told xs ++ told ys
told-append [] ys = refl
told-append (n ∷ xs) ys =
    let own = map (λ (r : Resolved). r.place) (resolutions_of n) in
    ap (λ zs. own ++ zs) (told-append xs ys) ∙ sym (append_assoc own (told xs) (told ys))

-- one part after another
joined : {x y : List ℕ} (z : List ℕ) (xs ys : List Note) → x ≡ told xs ++ y → y ≡ told ys ++ z → x ≡ told (xs ++ ys) ++ z
joined {x} {y} z xs ys a b =
    a ∙ ap (λ ws. told xs ++ ws) b ∙ sym (append_assoc (told xs) (told ys) z) ∙ ap (λ ws. ws ++ z) (sym (told-append xs ys))

known : (m : Mark) (u : Bool) (o : Owner) (cs : List ℕ) (d : Option Entity) → is_none d ≡ false → map (λ (r : Resolved). r.place) (declared_meaning m u o cs d) ≡ m.place ∷ []
known m u o cs None h = absurd (cc)
known m u o cs (Some e) h = refl

-- a used name
used : (s : Scope) (n : Name) (u : Use) (ns : List Note) {x : List ℕ} (z : List ℕ) → KeepsAll rules (Used s n u) → x ≡ told ns ++ z → n.mark.place ∷ x ≡ told (Used s n u ∷ ns) ++ z
used s n u ns {x} z h e =
    ap (λ ws. n.mark.place ∷ ws) e
    ∙ ap (λ ws. (ws ++ told ns) ++ z) (sym (known n.mark (flag_of (lookup s.entries n.id)) s.owner s.captured (entity_of (lookup s.entries n.id)) h.0))

mutual
  at-expr : (s : Scope) (e : tree.ExprTree) (rest : List Symbol) → AreLawful (expr_notes s e) → name_places (spelling.expr e rest) ≡ told (expr_notes s e) ++ name_places rest
  at-expr s (tree.Number n) rest h = refl
  at-expr s (tree.Wide n) rest h = refl
  at-expr s (tree.Place t) rest h = at-place s role.Value t rest h
  at-expr s (tree.ExprTree.Call f es) rest h =
      used s f (usage.Called (count_args es)) (args_notes s es) _ h.0 (at-args s es (spelling.punct puncts.CloseParen rest) h.1)
  at-expr s (tree.Paren e) rest h = at-expr s e (spelling.punct puncts.CloseParen rest) h
  at-expr s (tree.Unary op m e) rest h = at-expr s e rest h
  at-expr s (tree.Chain l first links) rest h =
      joined _ (expr_notes s first) (links_notes s links) (at-expr s first (spelling.links links rest) (lawful-first (expr_notes s first) (links_notes s links) h))
      (at-links s links rest (lawful-rest (expr_notes s first) (links_notes s links) h))
  at-expr s (tree.Choice c a b) rest h =
      let last = spelling.expr b rest in
      let middle = spelling.expr a (spelling.punct puncts.Colon last) in
      let front = expr_notes s c ++ expr_notes s a in
      let one = lawful-first front (expr_notes s b) h in
      joined _ front (expr_notes s b)
      (joined _ (expr_notes s c) (expr_notes s a) (at-expr s c (spelling.punct puncts.Question middle) (lawful-first (expr_notes s c) (expr_notes s a) one))
      (at-expr s a (spelling.punct puncts.Colon last) (lawful-rest (expr_notes s c) (expr_notes s a) one)))
      (at-expr s b rest (lawful-rest front (expr_notes s b) h))

  at-place : (s : Scope) (r : Role) (t : tree.TargetTree) (rest : List Symbol) → AreLawful (place_notes s r t) → name_places (spelling.target t rest) ≡ told (place_notes s r t) ++ name_places rest
  at-place s r (tree.Variable n) rest h = used s n (usage.Place r shape.Bare) [] (name_places rest) h.0 refl
  at-place s r (tree.Element n m e) rest h =
      used s n (usage.Place r shape.Indexed) (expr_notes s e) _ h.0 (at-expr s e (spelling.punct puncts.CloseBracket rest) h.1)

  at-args : (s : Scope) (es : tree.Args) (rest : List Symbol) → AreLawful (args_notes s es) → name_places (spelling.args es rest) ≡ told (args_notes s es) ++ name_places rest
  at-args s tree.no_args rest h = refl
  at-args s (tree.arg e es) rest h =
      joined _ (expr_notes s e) (args_notes s es) (at-expr s e (spelling.more_args es rest) (lawful-first (expr_notes s e) (args_notes s es) h))
      (at-more_args s es rest (lawful-rest (expr_notes s e) (args_notes s es) h))

  at-more_args : (s : Scope) (es : tree.Args) (rest : List Symbol) → AreLawful (args_notes s es) → name_places (spelling.more_args es rest) ≡ told (args_notes s es) ++ name_places rest
  at-more_args s tree.no_args rest h = refl
  at-more_args s (tree.arg e es) rest h =
      joined _ (expr_notes s e) (args_notes s es) (at-expr s e (spelling.more_args es rest) (lawful-first (expr_notes s e) (args_notes s es) h))
      (at-more_args s es rest (lawful-rest (expr_notes s e) (args_notes s es) h))

  at-links : (s : Scope) (ls : tree.Links) (rest : List Symbol) → AreLawful (links_notes s ls) → name_places (spelling.links ls rest) ≡ told (links_notes s ls) ++ name_places rest
  at-links s tree.no_links rest h = refl
  at-links s (tree.link op m e ls) rest h =
      joined _ (expr_notes s e) (links_notes s ls) (at-expr s e (spelling.links ls rest) (lawful-first (expr_notes s e) (links_notes s ls) h))
      (at-links s ls rest (lawful-rest (expr_notes s e) (links_notes s ls) h))

at-value : (s : Scope) (e : Option tree.ExprTree) (rest : List Symbol) → AreLawful (value_notes s e) → name_places (spelling.optional spelling.expr e rest) ≡ told (value_notes s e) ++ name_places rest
at-value s None rest h = refl
at-value s (Some e) rest h = at-expr s e rest h

at-first : (s : Scope) (e : Option tree.ExprTree) (rest : List Symbol) → AreLawful (value_notes s e) → name_places (spelling.optional spelling.first_value e rest) ≡ told (value_notes s e) ++ name_places rest
at-first s None rest h = refl
at-first s (Some e) rest h = at-expr s e rest h

at-index : (s : Scope) (i : Option tree.IndexTree) (rest : List Symbol) → AreLawful (index_notes s i) → name_places (spelling.optional spelling.index i rest) ≡ told (index_notes s i) ++ name_places rest
at-index s None rest h = refl
at-index s (Some i) rest h = at-expr s i.value (spelling.punct puncts.CloseBracket rest) h

at-change : (s : Scope) (c : tree.ChangeTree) (rest : List Symbol) → AreLawful (change_notes s c) → name_places (spelling.change c rest) ≡ told (change_notes s c) ++ name_places rest
at-change s (tree.Set t a m e) rest h =
    joined _ (place_notes s role.Changed t) (expr_notes s e) (at-place s role.Changed t _ (lawful-first (place_notes s role.Changed t) (expr_notes s e) h))
    (at-expr s e rest (lawful-rest (place_notes s role.Changed t) (expr_notes s e) h))
at-change s (tree.After t step m) rest h = at-place s role.Changed t _ h
at-change s (tree.Before t step m) rest h = at-place s role.Changed t rest h

at-step : (s : Scope) (c : Option tree.ChangeTree) (rest : List Symbol) → AreLawful (step_notes s c) → name_places (spelling.optional spelling.change c rest) ≡ told (step_notes s c) ++ name_places rest
at-step s None rest h = refl
at-step s (Some c) rest h = at-change s c rest h

-- a lawful size is a number, or names a constant
constant-place : (m : Mark) (u : Bool) (v : Option ℤ) → is_size v ≡ true → map (λ (r : Resolved). r.place) (constant_meaning m u v) ≡ m.place ∷ []
constant-place m u None h = absurd (cc)
constant-place m u (Some v) h = refl

at-size : (s : Scope) (e : tree.ExprTree) (rest : List Symbol) → is_size (size_value s e) ≡ true → name_places (spelling.expr e rest) ≡ told (size_notes s e) ++ name_places rest
at-size s (tree.Number n) rest h = refl
at-size s (tree.Wide n) rest h = refl
at-size s (tree.Place (tree.Variable n)) rest h =
    ap (λ ws. (ws ++ []) ++ name_places rest) (sym (constant-place n.mark (flag_of (lookup s.entries n.id)) (constant_of (entity_of (lookup s.entries n.id))) h))
at-size s (tree.Place (tree.Element n m e)) rest h = absurd (cc)
at-size s (tree.ExprTree.Call f es) rest h = absurd (cc)
at-size s (tree.Paren e) rest h = absurd (cc)
at-size s (tree.Unary op m e) rest h = absurd (cc)
at-size s (tree.Chain l first links) rest h = absurd (cc)
at-size s (tree.Choice c a b) rest h = absurd (cc)

not-false : (b : Bool) → not b ≡ false → b ≡ true
not-false true h = refl
not-false false h = absurd (cc)

array-sized : (o : Owner) (v : Option ℕ) (t : Option ℤ) → has_no_size (sized_form o v) t ≡ false → (is_window o && true) ≡ false → is_size t ≡ true
array-sized owner.OfMain v t h k = absurd (cc)
array-sized owner.OfFunction v t h k = not-false (is_size t) h
array-sized owner.OfTask v t h k = not-false (is_size t) h

is-sized : (s : Scope) (stream : Bool) (i : tree.IndexTree) → has_no_size (form_with s stream (Some i)) (size_value s i.value) ≡ false → (is_window s.owner && not stream) ≡ false →
    is_size (size_value s i.value) ≡ true
is-sized s true i h k = not-false (is_size (size_value s i.value)) h
is-sized s false i h k = array-sized s.owner (size_of s i.value) (size_value s i.value) h k

at-either : (s : Scope) (b : Bool) (e : tree.ExprTree) (rest : List Symbol) → (b ≡ false → is_size (size_value s e) ≡ true) → AreLawful (if b then expr_notes s e else size_notes s e) →
    name_places (spelling.expr e rest) ≡ told (if b then expr_notes s e else size_notes s e) ++ name_places rest
at-either s true e rest h k = at-expr s e rest k
at-either s false e rest h k = at-size s e rest (h refl)

at-sized : (s : Scope) (stream : Bool) (i : Option tree.IndexTree) (rest : List Symbol) → has_no_size (form_with s stream i) (size_told s i) ≡ false → AreLawful (sized_notes s stream i) →
    name_places (spelling.optional spelling.index i rest) ≡ told (sized_notes s stream i) ++ name_places rest
at-sized s stream None rest h k = refl
at-sized s stream (Some i) rest h k =
    at-either s (is_window s.owner && not stream) i.value (spelling.punct puncts.CloseBracket rest) (λ e. is-sized s stream i h e) k

at-attribute : (stream : Bool) (rest : List Symbol) → name_places (spelling.attribute stream rest) ≡ name_places rest
at-attribute false rest = refl
at-attribute true rest = refl

pub or-first : (a b : Bool) → (a || b) ≡ false → a ≡ false
or-first true b h = absurd (cc)
or-first false b h = refl

at-declarator : (s : Scope) (d : tree.DeclaratorTree) (rest : List Symbol) → AreLawful (declarator_notes s d) → name_places (spelling.declarator d rest) ≡ told (declarator_notes s d) ++ name_places rest
at-declarator s d rest h =
    let last = spelling.optional spelling.first_value d.first rest in
    let sized = sized_notes s d.stream d.size in
    let first = value_notes (after_declarator s d) d.first in
    let size = or-first (has_no_size (form s d) (size_told s d.size)) (has_too_many (after_declarator s d) (form s d)) h.0.1.1.1.1.1.0 in
    ap
    (λ ws. d.name.mark.place ∷ ws)
    (joined _ sized first
    (at-sized s d.stream d.size (spelling.attribute d.stream last) size (lawful-first sized first h.1) ∙ ap (λ ws. told sized ++ ws) (at-attribute d.stream last))
    (at-first (after_declarator s d) d.first rest (lawful-rest sized first h.1)))

at-declarators : (s : Scope) (ds : List tree.DeclaratorTree) (rest : List Symbol) → AreLawful (declarators_notes s ds) →
    name_places (spelling.each (λ d. spelling.punct puncts.Comma ⨾ spelling.declarator d) ds rest) ≡ told (declarators_notes s ds) ++ name_places rest
at-declarators s [] rest h = refl
at-declarators s (d ∷ ds) rest h =
    let more = declarators_notes (after_declarator s d) ds in
    joined _ (declarator_notes s d) more (at-declarator s d _ (lawful-first (declarator_notes s d) more h)) (at-declarators (after_declarator s d) ds rest (lawful-rest (declarator_notes s d) more h))

at-listed : (s : Scope) (ds : List tree.DeclaratorTree) (rest : List Symbol) → AreLawful (declarators_notes s ds) →
    name_places (spelling.listed spelling.declarator ds rest) ≡ told (declarators_notes s ds) ++ name_places rest
at-listed s [] rest h = refl
at-listed s (d ∷ ds) rest h =
    let more = declarators_notes (after_declarator s d) ds in
    joined _ (declarator_notes s d) more (at-declarator s d _ (lawful-first (declarator_notes s d) more h)) (at-declarators (after_declarator s d) ds rest (lawful-rest (declarator_notes s d) more h))

-- the words of a type are no names
typeless : (t : Ty) (rest : List Symbol) → name_places (spelling.type_words t rest) ≡ name_places rest
typeless ty_of.Int rest = refl
typeless ty_of.Unsigned rest = refl
typeless ty_of.UnsignedInt rest = refl

at-start : (s : Scope) (st : tree.StartTree) (rest : List Symbol) → AreLawful (start_notes s st) → name_places (spelling.start st rest) ≡ told (start_notes s st) ++ name_places rest
at-start s tree.StartTree.Empty rest h = refl
at-start s (tree.StartTree.Declare t ds) rest h = typeless t _ ∙ at-listed (typed t s) ds (spelling.punct puncts.Semicolon rest) h
at-start s (tree.StartTree.Change c) rest h = at-change s c (spelling.punct puncts.Semicolon rest) h

-- clauses
at-window : (s : Scope) (before : List ℕ) (arrow : Punct) (t : tree.TargetTree) (w : Option tree.JoinTree) (rest : List Symbol) → AreLawful (window_notes s before t w) →
    name_places (spelling.optional (spelling.join arrow) w rest) ≡ told (window_notes s before t w) ++ name_places rest
at-window s before arrow t None rest h = refl
at-window s before arrow t (Some j) rest h =
    used s j.name (usage.Joined (shape_of j.burst)) (index_notes s j.burst) _ h.1.0 (at-index s j.burst rest h.1.1)

at-item : (s : Scope) (before : List ℕ) (d : Direction) (arrow : Punct) (i : tree.ClauseItemTree) (rest : List Symbol) → AreLawful (member_notes s before (Item d i)) →
    name_places (spelling.clause_item arrow i rest) ≡ told (member_notes s before (Item d i)) ++ name_places rest
at-item s before d arrow i rest h =
    let stream = place_notes s (role.Flow d) i.stream in
    let window = window_notes s before i.stream i.window in
    joined _ stream window (at-place s (role.Flow d) i.stream _ (lawful-first stream window h)) (at-window s before arrow i.stream i.window rest (lawful-rest stream window h))

at-items : (s : Scope) (before : List ℕ) (d : Direction) (arrow : Punct) (is : List tree.ClauseItemTree) (rest : List Symbol) → AreLawful (members_notes s before (map (Item d) is)) →
    name_places (spelling.each (λ i. spelling.punct puncts.Comma ⨾ spelling.clause_item arrow i) is rest) ≡ told (members_notes s before (map (Item d) is)) ++ name_places rest
at-items s before d arrow [] rest h = refl
at-items s before d arrow (i ∷ is) rest h =
    let here = member_notes s before (Item d i) in
    let more = members_notes s ((member_name (Item d i)).id ∷ before) (map (Item d) is) in
    joined _ here more (at-item s before d arrow i _ (lawful-first here more h)) (at-items s ((member_name (Item d i)).id ∷ before) d arrow is rest (lawful-rest here more h))

at-item_list : (s : Scope) (before : List ℕ) (d : Direction) (arrow : Punct) (is : List tree.ClauseItemTree) (rest : List Symbol) → AreLawful (members_notes s before (map (Item d) is)) →
    name_places (spelling.listed (spelling.clause_item arrow) is rest) ≡ told (members_notes s before (map (Item d) is)) ++ name_places rest
at-item_list s before d arrow [] rest h = refl
at-item_list s before d arrow (i ∷ is) rest h =
    let here = member_notes s before (Item d i) in
    let more = members_notes s ((member_name (Item d i)).id ∷ before) (map (Item d) is) in
    joined _ here more (at-item s before d arrow i _ (lawful-first here more h)) (at-items s ((member_name (Item d i)).id ∷ before) d arrow is rest (lawful-rest here more h))

at-privates : (s : Scope) (before : List ℕ) (ns : List Name) (rest : List Symbol) → AreLawful (members_notes s before (map Private ns)) →
    name_places (spelling.each (λ n. spelling.punct puncts.Comma ⨾ spelling.name n) ns rest) ≡ told (members_notes s before (map Private ns)) ++ name_places rest
at-privates s before [] rest h = refl
at-privates s before (n ∷ ns) rest h =
    used s n usage.Private (members_notes s (n.id ∷ before) (map Private ns)) _ h.1.0 (at-privates s (n.id ∷ before) ns rest h.1.1)

at-private_list : (s : Scope) (before : List ℕ) (ns : List Name) (rest : List Symbol) → AreLawful (members_notes s before (map Private ns)) →
    name_places (spelling.listed spelling.name ns rest) ≡ told (members_notes s before (map Private ns)) ++ name_places rest
at-private_list s before [] rest h = refl
at-private_list s before (n ∷ ns) rest h =
    used s n usage.Private (members_notes s (n.id ∷ before) (map Private ns)) _ h.1.0 (at-privates s (n.id ∷ before) ns rest h.1.1)

at-kind : (s : Scope) (before : List ℕ) (k : tree.ClauseKindTree) (rest : List Symbol) → AreLawful (members_notes s before (clause_members k)) →
    name_places (spelling.clause_kind k rest) ≡ told (members_notes s before (clause_members k)) ++ name_places rest
at-kind s before (tree.Input is) rest h = at-item_list s before direction.Reads puncts.ShiftRight is (spelling.punct puncts.CloseParen rest) h
at-kind s before (tree.Output is) rest h = at-item_list s before direction.Writes puncts.ShiftLeft is (spelling.punct puncts.CloseParen rest) h
at-kind s before (tree.Firstprivate ns) rest h = at-private_list s before ns (spelling.punct puncts.CloseParen rest) h

at-comma : (comma : Bool) (ps : List Symbol) → name_places (spelling.comma comma ps) ≡ name_places ps
at-comma false ps = refl
at-comma true ps = refl

abbrev names_behind : List ℕ → List ClauseMember → List ℕ
names_behind before [] = before
names_behind before (p ∷ ps) = names_behind ((member_name p).id ∷ before) ps

members-append : (s : Scope) (before : List ℕ) (ps qs : List ClauseMember) → members_notes s before (ps ++ qs) ≡ members_notes s before ps ++ members_notes s (names_behind before ps) qs
members-append s before [] qs = refl
members-append s before (p ∷ ps) qs =
    ap (λ ns. member_notes s before p ++ ns) (members-append s ((member_name p).id ∷ before) ps qs)
    ∙ sym (append_assoc (member_notes s before p) (members_notes s ((member_name p).id ∷ before) ps) (members_notes s (names_behind before (p ∷ ps)) qs))

at-clauses : (s : Scope) (before : List ℕ) (cs : List tree.ClauseTree) (rest : List Symbol) → AreLawful (members_notes s before (members cs)) →
    name_places (spelling.each spelling.clause cs rest) ≡ told (members_notes s before (members cs)) ++ name_places rest
at-clauses s before [] rest h = refl
at-clauses s before (c ∷ cs) rest h =
    let more = spelling.each spelling.clause cs rest in
    let here = members_notes s before (clause_members c.kind) in
    let later = members_notes s (names_behind before (clause_members c.kind)) (members cs) in
    let split = members-append s before (clause_members c.kind) (members cs) in
    let lawful : AreLawful (here ++ later) = subst AreLawful split h in
    at-comma c.comma (spelling.clause_kind c.kind more)
    ∙ joined _ here later (at-kind s before c.kind more (lawful-first here later lawful)) (at-clauses s (names_behind before (clause_members c.kind)) cs rest (lawful-rest here later lawful))
    ∙ ap (λ (ns : List Note). told ns ++ name_places rest) (sym split)

mutual
  at-stmt : (s : Scope) (a : tree.StmtTree) (rest : List Symbol) → AreLawful (stmt_notes s a) → name_places (spelling.stmt a rest) ≡ told (stmt_notes s a) ++ name_places rest
  at-stmt s tree.StmtTree.Empty rest h = refl
  at-stmt s (tree.Block ss) rest h = at-stmts (enter s) ss (spelling.punct puncts.CloseBrace rest) h
  at-stmt s (tree.StmtTree.Declare t ds) rest h = typeless t _ ∙ at-listed (typed t s) ds (spelling.punct puncts.Semicolon rest) h
  at-stmt s (tree.StmtTree.Change c) rest h = at-change s c (spelling.punct puncts.Semicolon rest) h
  at-stmt s (tree.StmtTree.Call f es) rest h = at-expr s (tree.ExprTree.Call f es) (spelling.punct puncts.Semicolon rest) h
  at-stmt s (tree.If c a) rest h =
      let test = expr_notes s c in
      let first = stmt_notes s a in
      joined _ test first (at-expr s c (spelling.punct puncts.CloseParen (spelling.stmt a rest)) (lawful-first test first h)) (at-stmt s a rest (lawful-rest test first h))
  at-stmt s (tree.IfElse c a b) rest h =
      let test = expr_notes s c in
      let first = stmt_notes s a in
      let second = stmt_notes (after_stmt s a) b in
      let last = spelling.key keys.Else (spelling.stmt b rest) in
      let one = lawful-first (test ++ first) second h in
      joined _ (test ++ first) second
      (joined _ test first (at-expr s c (spelling.punct puncts.CloseParen (spelling.stmt a last)) (lawful-first test first one)) (at-stmt s a last (lawful-rest test first one)))
      (at-stmt (after_stmt s a) b rest (lawful-rest (test ++ first) second h))
  at-stmt s (tree.While c a) rest h =
      let test = expr_notes s c in
      let first = stmt_notes (in_loop s) a in
      joined _ test first (at-expr s c (spelling.punct puncts.CloseParen (spelling.stmt a rest)) (lawful-first test first h)) (at-stmt (in_loop s) a rest (lawful-rest test first h))
  at-stmt s (tree.For start test step a) rest h =
      let head = after_start (enter s) start in
      let body = spelling.punct puncts.CloseParen (spelling.stmt a rest) in
      let last = spelling.optional spelling.change step body in
      let middle = spelling.optional spelling.expr test (spelling.punct puncts.Semicolon last) in
      let n1 = start_notes (enter s) start in
      let n2 = value_notes head test in
      let n3 = step_notes head step in
      let n4 = stmt_notes (in_loop head) a in
      let h3 = lawful-first (n1 ++ n2 ++ n3) n4 h in
      let h2 = lawful-first (n1 ++ n2) n3 h3 in
      joined _ (n1 ++ n2 ++ n3) n4
      (joined _ (n1 ++ n2) n3
      (joined _ n1 n2 (at-start (enter s) start middle (lawful-first n1 n2 h2)) (at-value head test (spelling.punct puncts.Semicolon last) (lawful-rest n1 n2 h2)))
      (at-step head step body (lawful-rest (n1 ++ n2) n3 h3)))
      (at-stmt (in_loop head) a rest (lawful-rest (n1 ++ n2 ++ n3) n4 h))
  at-stmt s (tree.Break m) rest h = refl
  at-stmt s (tree.Continue m) rest h = refl
  at-stmt s (tree.Return m e) rest h = at-expr s e (spelling.punct puncts.Semicolon rest) h.1
  at-stmt s (tree.Task m cs a) rest h =
      let ps = members cs in
      let inner = in_task_body s ps a in
      let clauses = members_notes s [] ps in
      let start = Task s m (count_items ps) (captured s.entries ps a) ∷ [] in
      let front = lawful-first (clauses_notes s m ps a) (stmt_notes inner a) h in
      joined _ (clauses_notes s m ps a) (stmt_notes inner a)
      (joined _ clauses start (at-clauses s [] cs _ (lawful-first clauses start front)) refl)
      (at-stmt inner a rest (lawful-rest (clauses_notes s m ps a) (stmt_notes inner a) h))
  at-stmt s (tree.Tick m t arrow e) rest h =
      let stream = place_notes s (role.Flow direction.Reads) t in
      joined _ stream (expr_notes s e) (at-place s (role.Flow direction.Reads) t _ (lawful-first stream (expr_notes s e) h.1))
      (at-expr s e _ (lawful-rest stream (expr_notes s e) h.1))
  at-stmt s (tree.Taskwait m) rest h = refl

  at-stmts : (s : Scope) (ss : tree.Stmts) (rest : List Symbol) → AreLawful (stmts_notes s ss) → name_places (spelling.stmts ss rest) ≡ told (stmts_notes s ss) ++ name_places rest
  at-stmts s tree.no_stmts rest h = refl
  at-stmts s (tree.stmt a ss) rest h =
      let here = stmt_notes s a in
      let more = stmts_notes (after_stmt s a) ss in
      joined _ here more (at-stmt s a (spelling.stmts ss rest) (lawful-first here more h)) (at-stmts (after_stmt s a) ss rest (lawful-rest here more h))

at-params : (s : Scope) (ns : List Param) (rest : List Symbol) →
    name_places (spelling.each (λ p. spelling.punct puncts.Comma ⨾ spelling.param p) ns rest) ≡ told (params_notes s ns) ++ name_places rest
at-params s [] rest = refl
at-params s (p ∷ ps) rest = typeless p.ty _ ∙ ap (λ ws. p.name.mark.place ∷ ws) (at-params (after_param s p) ps rest)

at-param_list : (s : Scope) (ps : Params) (rest : List Symbol) → name_places (spelling.params ps rest) ≡ told (params_notes s (param_list ps)) ++ name_places rest
at-param_list s params_of.Empty rest = refl
at-param_list s params_of.Void rest = refl
at-param_list s (params_of.Names []) rest = refl
at-param_list s (params_of.Names (p ∷ ps)) rest = typeless p.ty _ ∙ ap (λ ws. p.name.mark.place ∷ ws) (at-params (after_param s p) ps rest)

at-item_of_file : (s : Scope) (i : tree.ItemTree) → AreLawful (item_notes s i) → item_places i ≡ told (item_notes s i)
at-item_of_file s (tree.Constant c) h = refl
at-item_of_file s (tree.Function f) h =
    let given = params_notes (in_function s f.name.id) (param_list f.params) in
    let body = stmts_notes (in_body s f) f.body in
    joined _ given body (at-param_list (in_function s f.name.id) f.params (spelling.stmts f.body [])) (at-stmts (in_body s f) f.body [] (lawful-rest given body h.1))
    ∙ append-nil (told (given ++ body))

at-program : (s : Scope) (is : List tree.ItemTree) → AreLawful (items_notes s is) → program_places is ≡ told (items_notes s is)
at-program s [] h = refl
at-program s (i ∷ is) h =
    let here = item_notes s i in
    let more = items_notes (after_item s i) is in
    ap (λ ws. ws ++ program_places is) (at-item_of_file s i (lawful-first here more h))
    ∙ ap (λ ws. told here ++ ws) (at-program (after_item s i) is (lawful-rest here more h))
    ∙ sym (told-append here more)

told-names : (ns : List Note) → map (λ (r : Resolved). r.place) (resolutions ns) ≡ told ns
told-names [] = refl
told-names (n ∷ ns) =
    map-append (λ (r : Resolved). r.place) (resolutions_of n) (resolutions ns) ∙ ap (λ ws. map (λ (r : Resolved). r.place) (resolutions_of n) ++ ws) (told-names ns)

pub names-places : (p : tree.ProgramTree) → AreLawful (program_notes p) → map (λ (r : Resolved). r.place) (names p) ≡ program_places p
names-places p h = told-names (program_notes p) ∙ sym (at-program file p h)
