-- What is spelled as the clauses of a task is read back.
use Rattle.std.proofs.Common.{◌≡◌, ℕ, suc, ◌≤◌, ◌<◌, Bool, true, false, not, List, [], ◌∷◌, Option, Some, None, refl, ap, length, arith}
use Rattle.os_ast.specs.Beginnings as can
use Rattle.os_ast.specs.Beginnings.{BeginsWith}
use Rattle.os_ast.specs.Depth.{deepest, clause_item_depth, clause_kind_depth, clause_depth}
use Rattle.os_ast.specs.Leveled as leveled
use Rattle.os_ast.specs.Leveled.{IsExpr, IsTarget, AreAll, AreListed, IsOptional, IsIndex, IsDeclarator, IsHeadDeclarator, IsChange, IsStart, IsClauseItem, IsClauseKind, IsClause, AreClauses}
use Rattle.os_ast.specs.Means.{Placed, Fit}
use Rattle.os_ast.specs.Spelling as spelling
use Rattle.os_ast.specs.Spelling.{Symbol, Printer, bare, marked, ◌⨾◌}
use Rattle.os_ast.specs.Trees as tree
use Rattle.os_ast.specs.Trees.{ExprTree, TargetTree, IndexTree, DeclaratorTree, ChangeTree, StartTree, JoinTree, ClauseItemTree, ClauseKindTree, ClauseTree}
use Rattle.os_ast.specs.declared.expr.Mark.{Mark}
use Rattle.os_ast.specs.declared.expr.Name.{Name}
use Rattle.os_lexer.specs.Names.{input_id, output_id, firstprivate_id}
use Rattle.os_lexer.specs.declared.token.Kind.{Kind}
use Rattle.os_lexer.specs.declared.token.Kind.TheVariants as kind
use Rattle.os_lexer.specs.declared.token.Punct.{Punct}
use Rattle.os_lexer.specs.declared.token.Punct.TheVariants as puncts
use Rattle.os_parser_grammar.specs.Expressions.{below}
use Rattle.os_parser_grammar.specs.Kinds.{same}
use Rattle.os_parser_grammar.specs.Reading.{Reader, begins}
use Rattle.os_parser_grammar.specs.Statements.{many, list_of, name, target, size, join, clause_item, in_parens, clause_kind, clause, first_clause, some_clauses, clauses, line_goes_on}
use Rattle.os_parser_grammar.proofs.Follows.{grows}
use Rattle.os_parser_grammar.proofs.SameKinds.{same-self}
use Rattle.os_parser_grammar.proofs.BackExprs.{Back, Plain, plain-back, Noted, noted-back, expect-back, back-target}
use Rattle.os_ast.specs.Beginnings.{CanBeginExpr}
use Rattle.os_parser_grammar.proofs.BackParts.{begins-not, Ends, ends-stop, Taken, back-many, EndsList, back-list, all-within, listed-within, back-name, back-whole, back-size}

-- an arrow of an item
pub data IsArrow : Punct → Type 0 where
  right : IsArrow puncts.ShiftRight
  left : IsArrow puncts.ShiftLeft

arrow-least : {p : Punct} → IsArrow p → grows (kind.Punct p) ≤ 12
arrow-least right = omega arith
arrow-least left = omega arith

right-not : (l : Kind) → Ends l → same l (kind.Punct puncts.ShiftRight) ≡ false
right-not l Ends.comma = refl
right-not l Ends.semicolon = refl
right-not l Ends.paren = refl

left-not : (l : Kind) → Ends l → same l (kind.Punct puncts.ShiftLeft) ≡ false
left-not l Ends.comma = refl
left-not l Ends.semicolon = refl
left-not l Ends.paren = refl

arrow-not : {p : Punct} → IsArrow p → (l : Kind) → Ends l → same l (kind.Punct p) ≡ false
arrow-not right = right-not
arrow-not left = left-not

item-joined : (arrow : Punct) (d : ℕ) (t : TargetTree) (m : Mark) (n : Name) (burst : Option IndexTree) (ps qs : List Symbol) (ts : List Placed) →
    (b : Back (target (below d)) t qs ts) → (u : Noted (kind.Punct arrow) m (spelling.name n (spelling.optional spelling.index burst ps)) b.rest) →
    (a : Back name n (spelling.optional spelling.index burst ps) u.rest) → Back (size (below d)) burst ps a.rest →
    Back (clause_item arrow (below d)) (record { stream = t; window = Some (record { mark = m; name = n; burst = burst }) }) ps ts
unfolding clause_item join
item-joined arrow d t m n burst ps qs ts b u a s =
    let size = ap length u.head in
    let is : same (kind.Punct arrow) (kind.Punct arrow) ≡ true = same-self (kind.Punct arrow) in
    record { rest = s.rest; read = rw (b.read, u.head, is, a.read, s.read) refl; fits = s.fits; within = omega (arith, b.within, a.within, s.within) }

item-alone : (arrow : Punct) (d : ℕ) (n : Name) (ps : List Symbol) (ts : List Placed) →
    (b : Back (target (below d)) (tree.Variable n) ps ts) → begins (kind.Punct arrow) b.rest ≡ false →
    Back (clause_item arrow (below d)) (record { stream = tree.Variable n; window = None }) ps ts
unfolding clause_item
item-alone arrow d n ps ts b off = record { rest = b.rest; read = rw (b.read, off) refl; fits = b.fits; within = b.within }

back-item : {arrow : Punct} → IsArrow arrow → (d : ℕ) {i : ClauseItemTree} (ps : List Symbol) (ts : List Placed) → IsClauseItem i → clause_item_depth i ≤ d → BeginsWith Ends ps →
    Fit (spelling.clause_item arrow i ps) ts → Back (clause_item arrow (below d)) i ps ts
back-item {arrow} way d ps ts (leveled.IsClauseItem.joined {t} {m} {n} {burst} it ib) h e f =
    let b = back-whole d t _ ts (back-target d it (omega (arith, h)) f (record { least = arrow-least way })) in
    let u = noted-back b.fits in
    let a = back-name n _ u.rest u.fits in
    item-joined arrow d t m n burst ps _ ts b u a (back-size d ps a.rest ib (omega (arith, h)) (ends-stop 12 ps e) a.fits)
back-item {arrow} way d ps ts (leveled.IsClauseItem.alone {n}) h e f =
    let b = back-whole d (tree.Variable n) ps ts (back-target d leveled.variable (omega arith) f (ends-stop 12 ps e)) in
    item-alone arrow d n ps ts b (begins-not (kind.Punct arrow) ps b.rest e (arrow-not way) b.fits)

parens-back : {A : Type 0} (part : Reader A) (xs : List A) (ps qs : List Symbol) (ts : List Placed) → (t : Plain (kind.Punct puncts.OpenParen) qs ts) →
    (b : Back (list_of part) xs (bare (kind.Punct puncts.CloseParen) ∷ ps) t.rest) → Plain (kind.Punct puncts.CloseParen) ps b.rest → Back (in_parens part) xs ps ts
unfolding in_parens
parens-back part xs ps qs ts t b u =
    let s0 = ap length t.head in
    let s1 = ap length u.head in
    record {
      rest = u.rest;
      read = rw (t.head, expect-back (kind.Punct puncts.OpenParen) t.mark t.rest, b.read, u.head, expect-back (kind.Punct puncts.CloseParen) u.mark u.rest) refl;
      fits = u.fits;
      within = omega (arith, b.within);
    }

back-parens : {A : Type 0} (Is : A → Type 0) (p : A → Printer) (part : Reader A) {xs : List A} (ps : List Symbol) (ts : List Placed) → AreListed Is xs →
    ((x : A) (qs : List Symbol) (us : List Placed) → Is x → BeginsWith Ends qs → Fit (p x qs) us → Back part x qs us) →
    Fit (spelling.in_parens (spelling.listed p xs) ps) ts → Back (in_parens part) xs ps ts
back-parens Is p part {xs} ps ts are one f =
    let t = plain-back f in
    let b = back-list Is p part (kind.Punct puncts.CloseParen) ps t.rest are EndsList.paren one t.fits in
    parens-back part xs ps _ ts t b (plain-back b.fits)

-- a part that takes at least one token
record Shorter {A : Type 0} (part : Reader A) (x : A) (ps : List Symbol) (ts : List Placed) : Type 0 where
  pub back : Back part x ps ts
  pub less : length back.rest < length ts

input-back : (d : ℕ) (items : List ClauseItemTree) (ps qs : List Symbol) (ts : List Placed) → (t : Plain (kind.Name input_id) qs ts) →
    Back (in_parens (clause_item puncts.ShiftRight (below d))) items ps t.rest → Shorter (clause_kind (below d)) (tree.Input items) ps ts
unfolding clause_kind
input-back d items ps qs ts t b =
    let size = ap length t.head in
    record { back = record { rest = b.rest; read = rw (t.head, b.read) refl; fits = b.fits; within = omega (arith, b.within) }; less = omega (arith, b.within) }

output-back : (d : ℕ) (items : List ClauseItemTree) (ps qs : List Symbol) (ts : List Placed) → (t : Plain (kind.Name output_id) qs ts) →
    Back (in_parens (clause_item puncts.ShiftLeft (below d))) items ps t.rest → Shorter (clause_kind (below d)) (tree.Output items) ps ts
unfolding clause_kind
output-back d items ps qs ts t b =
    let size = ap length t.head in
    record { back = record { rest = b.rest; read = rw (t.head, b.read) refl; fits = b.fits; within = omega (arith, b.within) }; less = omega (arith, b.within) }

firstprivate-back : (d : ℕ) (names : List Name) (ps qs : List Symbol) (ts : List Placed) → (t : Plain (kind.Name firstprivate_id) qs ts) →
    Back (in_parens name) names ps t.rest → Shorter (clause_kind (below d)) (tree.Firstprivate names) ps ts
unfolding clause_kind
firstprivate-back d names ps qs ts t b =
    let size = ap length t.head in
    record { back = record { rest = b.rest; read = rw (t.head, b.read) refl; fits = b.fits; within = omega (arith, b.within) }; less = omega (arith, b.within) }

pub data IsName : Name → Type 0 where
  any_name : {n : Name} → IsName n

pub all-names : (ns : List Name) → AreAll IsName ns
all-names [] = leveled.AreAll.nil
all-names (n ∷ ns) = leveled.AreAll.cons any_name (all-names ns)

back-kind : (d : ℕ) {k : ClauseKindTree} (ps : List Symbol) (ts : List Placed) → IsClauseKind k → clause_kind_depth k ≤ d → Fit (spelling.clause_kind k ps) ts →
    Shorter (clause_kind (below d)) k ps ts
back-kind d ps ts (leveled.IsClauseKind.input {items} is) h f =
    let t = plain-back f in
    input-back d items ps _ ts t (back-parens (λ x. IsClauseItem x × (clause_item_depth x ≤ d)) (spelling.clause_item puncts.ShiftRight) (clause_item puncts.ShiftRight (below d)) ps t.rest
    (listed-within clause_item_depth d is h) (λ x qs us i e g. back-item right d qs us i.0 i.1 e g) t.fits)
back-kind d ps ts (leveled.IsClauseKind.output {items} is) h f =
    let t = plain-back f in
    output-back d items ps _ ts t (back-parens (λ x. IsClauseItem x × (clause_item_depth x ≤ d)) (spelling.clause_item puncts.ShiftLeft) (clause_item puncts.ShiftLeft (below d)) ps t.rest
    (listed-within clause_item_depth d is h) (λ x qs us i e g. back-item left d qs us i.0 i.1 e g) t.fits)
back-kind d ps ts (leveled.IsClauseKind.firstprivate {n} {ns}) h f =
    let t = plain-back f in
    firstprivate-back d (n ∷ ns) ps _ ts t (back-parens IsName spelling.name name ps t.rest
    (leveled.AreListed.listed any_name (all-names ns)) (λ x qs us i e g. back-name x qs us g) t.fits)

-- how a clause begins
data Words : Kind → Type 0 where
  input : Words (kind.Name input_id)
  output : Words (kind.Name output_id)
  firstprivate : Words (kind.Name firstprivate_id)
  comma : Words (kind.Punct puncts.Comma)

kind-begins : (k : ClauseKindTree) (ps : List Symbol) → BeginsWith Words (spelling.clause_kind k ps)
kind-begins (tree.Input items) ps = can.begins input
kind-begins (tree.Output items) ps = can.begins output
kind-begins (tree.Firstprivate names) ps = can.begins firstprivate

clause-begins : (c : Bool) (k : ClauseKindTree) (ps : List Symbol) → BeginsWith Words (spelling.clause (record { comma = c; kind = k }) ps)
clause-begins false k ps = kind-begins k ps
clause-begins true k ps = can.begins comma

-- how a clause without a comma begins
data Bare : Kind → Type 0 where
  word : {n : ℕ} → Bare (kind.Name n)

kind-bare : (k : ClauseKindTree) (ps : List Symbol) → BeginsWith Bare (spelling.clause_kind k ps)
kind-bare (tree.Input items) ps = can.begins word
kind-bare (tree.Output items) ps = can.begins word
kind-bare (tree.Firstprivate names) ps = can.begins word

bare-no-comma : (l : Kind) → Bare l → same l (kind.Punct puncts.Comma) ≡ false
bare-no-comma l word = refl

no-end : (l : Kind) → Words l → same l kind.PragmaEnd ≡ false
no-end l input = refl
no-end l output = refl
no-end l firstprivate = refl
no-end l comma = refl

plain-clause : (d : ℕ) (k : ClauseKindTree) (ps : List Symbol) (ts : List Placed) → begins (kind.Punct puncts.Comma) ts ≡ false → Shorter (clause_kind (below d)) k ps ts →
    Shorter (clause (below d)) (record { comma = false; kind = k }) ps ts
unfolding clause
plain-clause d k ps ts off s =
    let b = s.back in
    record { back = record { rest = b.rest; read = rw (off, b.read) refl; fits = b.fits; within = b.within }; less = s.less }

comma-clause : (d : ℕ) (k : ClauseKindTree) (ps qs : List Symbol) (ts : List Placed) → (t : Plain (kind.Punct puncts.Comma) qs ts) → Shorter (clause_kind (below d)) k ps t.rest →
    Shorter (clause (below d)) (record { comma = true; kind = k }) ps ts
unfolding clause
comma-clause d k ps qs ts t s =
    let b = s.back in
    let size = ap length t.head in
    record { back = record { rest = b.rest; read = rw (t.head, b.read) refl; fits = b.fits; within = omega (arith, b.within) }; less = omega (arith, b.within) }

back-clause : (d : ℕ) (c : Bool) (k : ClauseKindTree) (ps : List Symbol) (ts : List Placed) → IsClauseKind k → clause_kind_depth k ≤ d →
    Fit (spelling.clause (record { comma = c; kind = k }) ps) ts → Shorter (clause (below d)) (record { comma = c; kind = k }) ps ts
back-clause d false k ps ts is h f =
    plain-clause d k ps ts (begins-not (kind.Punct puncts.Comma) _ ts (kind-bare k ps) bare-no-comma f) (back-kind d ps ts is h f)
back-clause d true k ps ts is h f = let t = plain-back f in comma-clause d k ps _ ts t (back-kind d ps t.rest is h t.fits)

goes-on : (b : Bool) → b ≡ false → not b ≡ true
goes-on false e = refl
goes-on true e = absurd (cc e)

clause-taken : (d : ℕ) (c : ClauseTree) (qs : List Symbol) (us : List Placed) → IsClause c × (clause_depth c ≤ d) → Fit (spelling.clause c qs) us →
    Taken line_goes_on (clause (below d)) c qs us
clause-taken d c qs us (leveled.IsClause.clause {b = b} {kind = k} is, h) f =
    let s = back-clause d b k qs us is h f in
    record { on = goes-on _ (begins-not kind.PragmaEnd _ us (clause-begins b k qs) no-end f); back = s.back; less = s.less }

ended-line : (ps : List Symbol) (us : List Placed) → Fit (bare kind.PragmaEnd ∷ ps) us → line_goes_on us ≡ false
ended-line ps us f = let t = plain-back f in rw t.head refl

no_clauses-back : (d : ℕ) (ps : List Symbol) (ts : List Placed) → Fit (bare kind.PragmaEnd ∷ ps) ts → Back (clauses (below d)) [] (bare kind.PragmaEnd ∷ ps) ts
unfolding clauses
no_clauses-back d ps ts f =
    let t = plain-back f in
    record { rest = ts; read = rw t.head refl; fits = f; within = omega arith }

some_clauses-back : (d : ℕ) (k : ClauseKindTree) (cs : List ClauseTree) (ps qs : List Symbol) (ts : List Placed) → begins kind.PragmaEnd ts ≡ false →
    (a : Back (clause_kind (below d)) k qs ts) → Back (many (suc (length a.rest)) line_goes_on (clause (below d))) cs (bare kind.PragmaEnd ∷ ps) a.rest →
    Back (clauses (below d)) (record { comma = false; kind = k } ∷ cs) (bare kind.PragmaEnd ∷ ps) ts
unfolding clauses some_clauses first_clause
some_clauses-back d k cs ps qs ts off a b =
    record { rest = b.rest; read = rw (off, a.read, b.read) refl; fits = b.fits; within = omega (arith, a.within, b.within) }

pub back-clauses : (d : ℕ) {cs : List ClauseTree} (ps : List Symbol) (ts : List Placed) → AreClauses cs → deepest clause_depth cs ≤ d →
    Fit (spelling.each spelling.clause cs (bare kind.PragmaEnd ∷ ps)) ts → Back (clauses (below d)) cs (bare kind.PragmaEnd ∷ ps) ts
back-clauses d ps ts leveled.AreClauses.no_clauses h f = no_clauses-back d ps ts f
back-clauses d ps ts (leveled.AreClauses.clauses {kind = k} {cs = cs} is all) h f =
    let s = back-kind d _ ts is (omega (arith, h)) f in
    let off = begins-not kind.PragmaEnd _ ts (kind-begins k _) no-end f in
    let b = back-many (suc (length s.back.rest)) (λ c. IsClause c × (clause_depth c ≤ d)) spelling.clause (λ _. Unit {0}) line_goes_on (clause (below d)) (bare kind.PragmaEnd ∷ ps) s.back.rest
    (all-within clause_depth d all (omega (arith, h))) (λ x qs. tt) (λ x qs us i e g. clause-taken d x qs us i g) tt (λ us g. ended-line ps us g) s.back.fits (omega arith) in
    some_clauses-back d k cs ps _ ts off s.back b
