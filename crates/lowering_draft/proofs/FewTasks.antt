-- The items of tasks, and ticks, have few instructions for their tokens.
use Rattle.std.proofs.Common.{◌≡◌, ℕ, ◌+◌, ◌*◌, ◌≤◌, Bool, true, false, List, [], ◌∷◌, length, map, Option, Some, None, ap, refl, arith}
use Rattle.std.specs.Prelude.{pos}
use Rattle.lowering_draft.proofs.ExpressionsStand.{length-instr}
use Rattle.lowering_draft.proofs.FewExpressions.{expr_pays}
use Rattle.lowering_draft.proofs.ClauseItems.{items_code-append}
use Rattle.lowering_draft.proofs.Paying.{Pays, length-instrs}
use Rattle.lowering_draft.specs.Emission.Expressions.{expr_code}
use Rattle.lowering_draft.specs.Emission.Tasks.{burst_code, item_code, items_code, join_code, stream_code, tick_code}
use Rattle.lowering_draft.specs.declared.draft.Draft.{Draft}
use Rattle.os_ast.specs.ClauseMembers.{Item, Private, members, clause_members, target_name}
use Rattle.os_ast.specs.Spelling as spelling
use Rattle.os_ast.specs.Spelling.{Symbol, Printer, bare, marked, clause, clause_item, clause_kind, comma, each, expr, index, join, listed, name, optional, punct, target, ◌⨾◌}
use Rattle.os_ast.specs.Trees as tree
use Rattle.os_ast.specs.declared.expr.Mark.{Mark}
use Rattle.os_ast.specs.declared.expr.Name.{Name}
use Rattle.os_ast.specs.declared.names.Direction.{Direction}
use Rattle.os_ast.specs.declared.names.Direction.TheVariants as direction
use Rattle.os_ast.specs.declared.names.Resolved.{Resolved}
use Rattle.os_ast.specs.declared.names.What.{What}
use Rattle.os_code.specs.declared.instr.Instr.TheVariants.{BurstIn, CheckAt, Push, Tick, Turn}
use Rattle.os_lexer.specs.declared.token.Kind.TheVariants as kind
use Rattle.os_lexer.specs.declared.token.Punct.{Punct}
use Rattle.os_lexer.specs.declared.token.Punct.TheVariants as puncts
use Rattle.lowering_relation.specs.Names.{count_of, first_of}
use Rattle.lowering_relation.specs.Tasks.{bursting}

-- names of `firstprivate` behind the first one
names_grow : (ns : List Name) (rest : List Symbol) → length rest ≤ length (each (λ y. punct puncts.Comma ⨾ name y) ns rest)
names_grow [] rest = omega arith
names_grow (n ∷ ns) rest = omega (arith, names_grow ns rest)

listed_grow : (ns : List Name) (rest : List Symbol) → length rest ≤ length (listed name ns rest)
listed_grow [] rest = omega arith
listed_grow (n ∷ ns) rest = omega (arith, names_grow ns rest)

module _ (tells : ℕ → Resolved) where
  -- A stream pays for its code, and 7 more.
  stream_pays : (t : tree.TargetTree) (d : Draft) (rest : List Symbol)
      → length (stream_code tells t d).instrs + 7 + 8 * length rest ≤ length d.instrs + 8 * length (target t rest)
  stream_pays (tree.Variable n) d rest = omega (arith, length-instr d (Push (pos 0)))
  stream_pays (tree.Element n m e) d rest =
      omega (
        arith,
        expr_pays tells e d (bare (kind.Punct puncts.CloseBracket) ∷ rest),
        length-instr (expr_code tells e d) (CheckAt (count_of (tells n.mark.place).what) m.line),
      )

  burst_pays : (r : Direction) (w : What) (b : Option tree.IndexTree) → Pays (burst_code tells r w b) (optional index b) 1
  burst_pays r w None d rest = omega (arith, length-instr d (Push (pos 1)))
  burst_pays r w (Some i) d rest =
      omega (
        arith,
        expr_pays tells i.value d (bare (kind.Punct puncts.CloseBracket) ∷ rest),
        length-instr (expr_code tells i.value d) (bursting r w i.mark.line),
      )

  join_pays : (arrow : Punct) (r : Direction) (j : Option tree.JoinTree) → Pays (join_code tells r j) (optional (join arrow) j) 1
  join_pays arrow r None d rest = omega (arith, length-instr d (Push (pos 1)))
  join_pays arrow r (Some j) d rest = omega (arith, burst_pays r (tells j.name.mark.place).what j.burst d rest)

  item_pays : (arrow : Punct) (r : Direction) (i : tree.ClauseItemTree) → Pays (item_code tells r i) (clause_item arrow i) 0
  item_pays arrow r i d rest =
      omega (arith, stream_pays i.stream d (optional (join arrow) i.window rest), join_pays arrow r i.window (stream_code tells i.stream d) rest)

  -- items behind the first one
  more_pay : (arrow : Punct) (r : Direction) (is : List tree.ClauseItemTree)
      → Pays (items_code tells (map (Item r) is)) (each (λ y. punct puncts.Comma ⨾ clause_item arrow y) is) 0
  more_pay arrow r [] d rest = omega arith
  more_pay arrow r (i ∷ is) d rest =
      omega (arith, item_pays arrow r i d (each (λ y. punct puncts.Comma ⨾ clause_item arrow y) is rest), more_pay arrow r is (item_code tells r i d) rest)

  listed_pay : (arrow : Punct) (r : Direction) (is : List tree.ClauseItemTree) → Pays (items_code tells (map (Item r) is)) (listed (clause_item arrow) is) 0
  listed_pay arrow r [] d rest = omega arith
  listed_pay arrow r (i ∷ is) d rest =
      omega (arith, item_pays arrow r i d (each (λ y. punct puncts.Comma ⨾ clause_item arrow y) is rest), more_pay arrow r is (item_code tells r i d) rest)

  privates_code : (ns : List Name) (d : Draft) → items_code tells (map Private ns) d ≡ d
  privates_code [] d = refl
  privates_code (n ∷ ns) d = privates_code ns d

  kind_pays : (k : tree.ClauseKindTree) → Pays (items_code tells (clause_members k)) (clause_kind k) 0
  kind_pays (tree.Input is) d rest = omega (arith, listed_pay puncts.ShiftRight direction.Reads is d (bare (kind.Punct puncts.CloseParen) ∷ rest))
  kind_pays (tree.Output is) d rest = omega (arith, listed_pay puncts.ShiftLeft direction.Writes is d (bare (kind.Punct puncts.CloseParen) ∷ rest))
  kind_pays (tree.Firstprivate ns) d rest =
      omega (arith, ap (λ (e : Draft). length e.instrs) (privates_code ns d), listed_grow ns (bare (kind.Punct puncts.CloseParen) ∷ rest))

  comma_grows : (b : Bool) (rest : List Symbol) → length rest ≤ length (comma b rest)
  comma_grows true rest = omega arith
  comma_grows false rest = omega arith

  pub clauses_pay : (cs : List tree.ClauseTree) → Pays (items_code tells (members cs)) (each clause cs) 0
  clauses_pay [] d rest = omega arith
  clauses_pay (c ∷ cs) d rest =
      let more = each clause cs rest in
      let made = items_code tells (clause_members c.kind) d in
      omega (
        arith,
        ap (λ (e : Draft). length e.instrs) (items_code-append tells (clause_members c.kind) (members cs) d),
        comma_grows c.comma (clause_kind c.kind more),
        kind_pays c.kind d more,
        clauses_pay cs made rest,
      )

  -- What a tick has in its parentheses pays for its code.
  pub tick_pays : (t : tree.TargetTree) (m : Mark) (e : tree.ExprTree) (line : ℕ)
      → Pays (tick_code tells t line e) (target t ⨾ spelling.punct_at puncts.ShiftRight m ⨾ expr e) 0
  tick_pays t m e line d rest =
      let streamed = stream_code tells t d in
      let made = expr_code tells e streamed in
      omega (
        arith,
        stream_pays t d (marked (kind.Punct puncts.ShiftRight) m ∷ expr e rest),
        expr_pays tells e streamed rest,
        length-instrs made (BurstIn line ∷ Turn ∷ Tick (first_of (tells (target_name t).mark.place).what) ∷ []),
      )
