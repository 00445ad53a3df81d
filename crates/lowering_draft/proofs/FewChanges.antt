-- Changes and declarations have few instructions for their tokens.
use Rattle.std.proofs.Common.{◌≡◌, ℕ, ◌+◌, ◌*◌, ◌≤◌, Bool, true, false, List, [], ◌∷◌, length, Option, Some, None, arith}
use Rattle.std.specs.Prelude.{pos}
use Rattle.cddf_meaning.specs.Operators.{step_operator}
use Rattle.lowering_draft.proofs.ExpressionsStand.{length-instr}
use Rattle.lowering_draft.proofs.FewExpressions.{expr_pays}
use Rattle.lowering_draft.proofs.KeptExpressions.{expr_kept}
use Rattle.lowering_draft.proofs.Paying.{Pays, aiming_few, length-instrs, operation_few, reading_few}
use Rattle.lowering_draft.specs.Draft.{with_instr, with_instrs}
use Rattle.lowering_draft.specs.Emission.Changes.{aim_code, change_code, plain_aim, stepped_code, store_code}
use Rattle.lowering_draft.specs.Emission.Declarators.{cleared_code, declarators_code, declared_code, scalar_code, start_code, window_code}
use Rattle.lowering_draft.specs.Emission.Expressions.{expr_code}
use Rattle.lowering_draft.specs.declared.draft.Draft.{Draft}
use Rattle.os_ast.specs.FreeNames.{expr_names}
use Rattle.os_ast.specs.ClauseMembers.{is_in}
use Rattle.os_ast.specs.Spelling as spelling
use Rattle.os_ast.specs.Spelling.{Symbol, Printer, bare, marked, attribute, change, declarator, each, expr, first_value, index, listed, optional, start, target, ◌⨾◌, punct}
use Rattle.os_ast.specs.Operators.{assign_mark, step_mark}
use Rattle.os_ast.specs.Trees as tree
use Rattle.os_ast.specs.declared.expr.Binary.{Binary}
use Rattle.os_ast.specs.declared.names.Resolved.{Resolved}
use Rattle.os_ast.specs.declared.names.What.{What}
use Rattle.os_ast.specs.declared.names.What.TheVariants as what
use Rattle.os_ast.specs.declared.stmt.Assign.TheVariants as assign
use Rattle.os_ast.specs.declared.ty.Ty.{Ty}
use Rattle.os_ast.specs.declared.ty.Ty.TheVariants as ty_of
use Rattle.os_code.specs.declared.instr.Instr.TheVariants.{Push, Store, Window, Zero}
use Rattle.os_lexer.specs.declared.token.Kind.TheVariants as kind
use Rattle.os_lexer.specs.declared.token.Punct.TheVariants as puncts
use Rattle.lowering_relation.specs.Changes.{is_quiet, target_by}
use Rattle.lowering_relation.specs.Expressions.{operation, type_by}
use Rattle.lowering_relation.specs.Names.{aiming, fetching, fetching_at, storing, storing_at}

fetching_few : (old : Bool) (w : What) (line : ℕ) → length (fetching old w line) ≤ 2
fetching_few true w line = reading_few w line
fetching_few false w line = omega arith

fetching_at_few : (old : Bool) (w : What) (line : ℕ) → length (fetching_at old w line) ≤ 2
fetching_at_few true w line = omega arith
fetching_at_few false w line = omega arith

-- the words of a type
pub type_words_grow : (t : Ty) (rest : List Symbol) → length rest + 1 ≤ length (spelling.type_words t rest)
type_words_grow ty_of.Int rest = omega arith
type_words_grow ty_of.Unsigned rest = omega arith
type_words_grow ty_of.UnsignedInt rest = omega arith

module _ (tells : ℕ → Resolved) where
  -- A target pays for what stands before its value and for its store, and 4 more.
  aim_pays : (old : Bool) (t : tree.TargetTree) (d : Draft) (rest : List Symbol)
      → length (aim_code tells old t d).instrs + 5 + 8 * length rest ≤ length d.instrs + 8 * length (target t rest)
  aim_pays old (tree.Variable n) d rest =
      let w = (tells n.mark.place).what in
      omega (
        arith,
        length-instrs (with_instrs d (aiming w)) (fetching old w n.mark.line),
        length-instrs d (aiming w),
        aiming_few w,
        fetching_few old w n.mark.line,
      )
  aim_pays old (tree.Element n m e) d rest =
      let w = (tells n.mark.place).what in
      omega (
        arith,
        expr_pays tells e d (bare (kind.Punct puncts.CloseBracket) ∷ rest),
        length-instrs (expr_code tells e d) (fetching_at old w m.line),
        fetching_at_few old w m.line,
      )

  plain_aim_pays : (quiet : Bool) (t : tree.TargetTree) (d : Draft) (rest : List Symbol)
      → length (plain_aim tells quiet t d).instrs + 5 + 8 * length rest ≤ length d.instrs + 8 * length (target t rest)
  plain_aim_pays true (tree.Variable n) d rest = aim_pays false (tree.Variable n) d rest
  plain_aim_pays true (tree.Element n m i) d rest = omega (arith, expr_pays tells i d (bare (kind.Punct puncts.CloseBracket) ∷ rest))
  plain_aim_pays false t d rest = aim_pays false t d rest

  length-store : (t : tree.TargetTree) (d : Draft) → length (store_code tells t d).instrs ≡ length d.instrs + 1
  length-store (tree.Variable n) d = length-instr d (storing (tells n.mark.place).what n.mark.line)
  length-store (tree.Element n m e) d = length-instr d (storing_at (tells n.mark.place).what m.line)

  length-stepped : (op : Binary) (line : ℕ) (u : Bool) (d : Draft) → length (stepped_code op line u d).instrs ≤ length d.instrs + 4
  length-stepped op line u d =
      omega (arith, length-instr d (Push (pos 1)), length-instrs (with_instr d (Push (pos 1))) (operation op line u false), operation_few op line u false)

  pub change_pays : (c : tree.ChangeTree) → Pays (change_code tells c) (change c) 0
  change_pays (tree.Set t assign.Plain m e) d rest =
      let aimed = plain_aim tells (is_quiet e) t d in
      let made = expr_code tells e aimed in
      omega (
        arith,
        plain_aim_pays (is_quiet e) t d (marked (kind.Punct (assign_mark assign.Plain)) m ∷ expr e rest),
        expr_pays tells e aimed rest,
        length-store t made,
      )
  change_pays (tree.Set t (assign.With op) m e) d rest =
      let aimed = aim_code tells true t d in
      let made = expr_code tells e aimed in
      let u = target_by tells t in
      let operated = with_instrs made (operation op m.line u (type_by tells e)) in
      omega (
        arith,
        aim_pays true t d (marked (kind.Punct (assign_mark (assign.With op))) m ∷ expr e rest),
        expr_pays tells e aimed rest,
        length-instrs made (operation op m.line u (type_by tells e)),
        operation_few op m.line u (type_by tells e),
        length-store t operated,
      )
  change_pays (tree.After t p m) d rest =
      let aimed = aim_code tells true t d in
      let stepped = stepped_code (step_operator p) m.line (target_by tells t) aimed in
      omega (arith, aim_pays true t d (marked (kind.Punct (step_mark p)) m ∷ rest), length-stepped (step_operator p) m.line (target_by tells t) aimed, length-store t stepped)
  change_pays (tree.Before t p m) d rest =
      let aimed = aim_code tells true t d in
      let stepped = stepped_code (step_operator p) m.line (target_by tells t) aimed in
      omega (arith, aim_pays true t d rest, length-stepped (step_operator p) m.line (target_by tells t) aimed, length-store t stepped)

  -- what is printed is no shorter than what follows
  expr_grows : (e : tree.ExprTree) (rest : List Symbol) → length rest ≤ length (expr e rest)
  expr_grows e rest =
      let none : Draft = record { instrs = []; places = []; spawned = 0 } in
      omega (arith, expr_pays tells e none rest, (expr_kept tells e none).no_shorter)

  index_grows : (size : Option tree.IndexTree) (rest : List Symbol) → length rest ≤ length (optional index size rest)
  index_grows None rest = omega arith
  index_grows (Some i) rest = omega (arith, expr_grows i.value (bare (kind.Punct puncts.CloseBracket) ∷ rest))

  first_grows : (first : Option tree.ExprTree) (rest : List Symbol) → length rest ≤ length (optional first_value first rest)
  first_grows None rest = omega arith
  first_grows (Some e) rest = omega (arith, expr_grows e rest)

  attribute_grows : (stream : Bool) (rest : List Symbol) → length rest ≤ length (attribute stream rest)
  attribute_grows true rest = omega arith
  attribute_grows false rest = omega arith

  length-cleared : (named : Bool) (slot : ℕ) (d : Draft) → length (cleared_code named slot d).instrs ≤ length d.instrs + 2
  length-cleared true slot d = omega (arith, length-instrs d (Push (pos 0) ∷ Store slot ∷ []))
  length-cleared false slot d = omega arith

  scalar_pays : (id slot : ℕ) (first : Option tree.ExprTree) → Pays (scalar_code tells id slot first) (optional first_value first) 3
  scalar_pays id slot None d rest = omega (arith, length-instrs d (Push (pos 0) ∷ Store slot ∷ []))
  scalar_pays id slot (Some e) d rest =
      let cleared = cleared_code (is_in id (expr_names e)) slot d in
      omega (arith, length-cleared (is_in id (expr_names e)) slot d, expr_pays tells e cleared rest, length-instr (expr_code tells e cleared) (Store slot))

  window_pays : (slot : ℕ) (size : Option tree.IndexTree) → Pays (window_code tells slot size) (optional index size) 1
  window_pays slot None d rest = omega arith
  window_pays slot (Some i) d rest =
      omega (
        arith,
        expr_pays tells i.value d (bare (kind.Punct puncts.CloseBracket) ∷ rest),
        length-instr (expr_code tells i.value d) (Window slot i.mark.line),
      )

  -- a declarator for which nothing is done
  quiet_pays : (x : tree.DeclaratorTree) (rest : List Symbol) → length rest + 1 ≤ length (declarator x rest)
  quiet_pays x rest =
      omega (
        arith,
        first_grows x.first rest,
        attribute_grows x.stream (optional first_value x.first rest),
        index_grows x.size (attribute x.stream (optional first_value x.first rest)),
      )

  declared_pays : (w : What) (x : tree.DeclaratorTree) → Pays (declared_code tells w x) (declarator x) 0
  declared_pays (what.Scalar slot) x d rest =
      omega (
        arith,
        scalar_pays x.name.id slot x.first d rest,
        attribute_grows x.stream (optional first_value x.first rest),
        index_grows x.size (attribute x.stream (optional first_value x.first rest)),
      )
  declared_pays (what.Array first size) x d rest = omega (arith, length-instr d (Zero first size), quiet_pays x rest)
  declared_pays (what.Window slot) x d rest =
      let behind = attribute x.stream (optional first_value x.first rest) in
      omega (arith, window_pays slot x.size d behind, first_grows x.first rest, attribute_grows x.stream (optional first_value x.first rest))
  declared_pays (what.Constant v) x d rest = omega (arith, quiet_pays x rest)
  declared_pays (what.Function n) x d rest = omega (arith, quiet_pays x rest)
  declared_pays (what.Stream first count) x d rest = omega (arith, quiet_pays x rest)
  declared_pays (what.Element item) x d rest = omega (arith, quiet_pays x rest)
  declared_pays (what.View item) x d rest = omega (arith, quiet_pays x rest)

  -- declarators behind the first one
  more_pay : (ds : List tree.DeclaratorTree) → Pays (declarators_code tells ds) (each (λ y. punct puncts.Comma ⨾ declarator y) ds) 0
  more_pay [] d rest = omega arith
  more_pay (x ∷ ds) d rest =
      let more = each (λ y. punct puncts.Comma ⨾ declarator y) ds rest in
      let made = declared_code tells (tells x.name.mark.place).what x d in
      omega (arith, declared_pays (tells x.name.mark.place).what x d more, more_pay ds made rest)

  listed_pay : (ds : List tree.DeclaratorTree) → Pays (declarators_code tells ds) (listed declarator ds) 0
  listed_pay [] d rest = omega arith
  listed_pay (x ∷ ds) d rest =
      let more = each (λ y. punct puncts.Comma ⨾ declarator y) ds rest in
      let made = declared_code tells (tells x.name.mark.place).what x d in
      omega (arith, declared_pays (tells x.name.mark.place).what x d more, more_pay ds made rest)

  -- A declaration's key words and semicolon pay for more.
  pub declarators_pay : (ty : Ty) (ds : List tree.DeclaratorTree) (d : Draft) (rest : List Symbol)
      → length (declarators_code tells ds d).instrs + 16 + 8 * length rest ≤ length d.instrs + 8 * length (spelling.declare ty ds rest)
  declarators_pay ty ds d rest =
      let behind = bare (kind.Punct puncts.Semicolon) ∷ rest in
      omega (arith, listed_pay ds d behind, type_words_grow ty (listed declarator ds behind))

  pub start_pays : (s : tree.StartTree) → Pays (start_code tells s) (start s) 0
  start_pays tree.StartTree.Empty d rest = omega arith
  start_pays (tree.StartTree.Declare ty ds) d rest = omega (arith, declarators_pay ty ds d rest)
  start_pays (tree.StartTree.Change c) d rest = omega (arith, change_pays c d (bare (kind.Punct puncts.Semicolon) ∷ rest))
