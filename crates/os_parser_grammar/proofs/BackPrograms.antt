-- What is spelled as a function, a constant or a program is read back.
use Rattle.std.proofs.Common.{◌≡◌, ℕ, suc, ◌≤◌, ◌<◌, Bool, true, false, List, [], ◌∷◌, Option, refl, ap, length, arith}
use Rattle.os_ast.specs.Beginnings as can
use Rattle.os_ast.specs.Beginnings.{BeginsWith}
use Rattle.os_ast.specs.Depth.{item_depth, program_depth}
use Rattle.os_ast.specs.Leveled as leveled
use Rattle.os_ast.specs.Leveled.{IsExpr, IsChange, takes_else, IsStmt, AreStmts, AreAll, IsParams, IsItem}
use Rattle.os_ast.specs.Means.{Placed, placed, Fit}
use Rattle.os_ast.specs.Spelling as spelling
use Rattle.os_ast.specs.Spelling.{Symbol, Printer, bare, marked}
use Rattle.os_ast.specs.Trees as tree
use Rattle.os_ast.specs.Trees.{ExprTree, Args, TargetTree, DeclaratorTree, StartTree, ChangeTree, ClauseTree, StmtTree, Stmts, ItemTree}
use Rattle.os_ast.specs.declared.expr.Name.{Name}
use Rattle.os_ast.specs.declared.program.Param.{Param}
use Rattle.os_ast.specs.declared.ty.Ty.{Ty}
use Rattle.os_ast.proofs.Begins.{item-begins}
use Rattle.os_ast.proofs.Prints.{prints_item}
use Rattle.os_lexer.specs.declared.token.Key.TheVariants as keys
use Rattle.os_lexer.specs.declared.token.Kind.{Kind}
use Rattle.os_lexer.specs.declared.token.Kind.TheVariants as kind
use Rattle.os_lexer.specs.declared.token.Punct.TheVariants as puncts
use Rattle.os_parser_grammar.specs.Kinds.{same}
use Rattle.os_parser_grammar.specs.Reading.{begins}
use Rattle.os_parser_grammar.specs.declared.numeral.Numeral.{Numeral}
use Rattle.os_parser_grammar.specs.Statements.{Inner, inner, block, many, list_of, type_words, name, param, params, function, number, minus, constant, item, is_more, program}
use Rattle.os_parser_grammar.proofs.BackExprs.{Back, Plain, plain-back, expect-back}
use Rattle.os_parser_grammar.proofs.BackParts.{begins-not, back-type, a_name, IsTypeWord, int, unsigned, type-begun, Taken, back-many, EndsList, back-list, back-name, all-within}
use Rattle.os_ast.specs.declared.program.Params.{Params}
use Rattle.os_ast.specs.declared.program.Params.TheVariants as params_of
use Rattle.std.specs.Prelude.{◌^◌}
use Rattle.std.proofs.lemmas.Bool.{lt-ltb}
use Rattle.os_parser_grammar.proofs.BackStmts.{print-less}
use Rattle.os_parser_grammar.proofs.BackBlocks.{back-stmts, block-read}

data IsParam : Param → Type 0 where
  any_param : {p : Param} → IsParam p

all-params : (ps : List Param) → AreAll IsParam ps
all-params [] = leveled.AreAll.nil
all-params (p ∷ ps) = leveled.AreAll.cons any_param (all-params ps)

param-back : (t : Ty) (n : Name) (ps qs : List Symbol) (ts : List Placed) → (a : Back type_words t qs ts) → Back name n ps a.rest → Back param (record { ty = t; name = n }) ps ts
unfolding param
param-back t n ps qs ts a b =
    record { rest = b.rest; read = rw (a.read, b.read) refl; fits = b.fits; within = omega (arith, a.within, b.within) }

back-param : (p : Param) (ps : List Symbol) (ts : List Placed) → Fit (spelling.param p ps) ts → Back param p ps ts
back-param p ps ts f = let a = back-type p.ty _ ts (can.begins a_name) f in param-back p.ty p.name ps _ ts a (back-name p.name ps a.rest a.fits)

word-closed : (l : Kind) → IsTypeWord l → same l (kind.Punct puncts.CloseParen) ≡ false
word-closed l int = refl
word-closed l unsigned = refl

word-void : (l : Kind) → IsTypeWord l → same l (kind.Key keys.Void) ≡ false
word-void l int = refl
word-void l unsigned = refl

word-const : (l : Kind) → IsTypeWord l → same l (kind.Key keys.Const) ≡ false
word-const l int = refl
word-const l unsigned = refl

params-none : (ps : List Symbol) (ts : List Placed) → Fit (bare (kind.Punct puncts.CloseParen) ∷ ps) ts → Plain (kind.Punct puncts.CloseParen) ps ts →
    Back params params_of.Empty (bare (kind.Punct puncts.CloseParen) ∷ ps) ts
unfolding params
params-none ps ts f t = record { rest = ts; read = let closes : begins (kind.Punct puncts.CloseParen) ts ≡ true = rw t.head refl in rw closes refl; fits = f; within = omega arith }

params-void : (ps : List Symbol) (ts : List Placed) → Plain (kind.Key keys.Void) ps ts → Back params params_of.Void ps ts
unfolding params
params-void ps ts t =
    let size = ap length t.head in
    record { rest = t.rest; read = rw t.head refl; fits = t.fits; within = omega arith }

params-some : (xs : List Param) (ps : List Symbol) (ts : List Placed) → begins (kind.Punct puncts.CloseParen) ts ≡ false → begins (kind.Key keys.Void) ts ≡ false →
    Back (list_of param) xs ps ts → Back params (params_of.Names xs) ps ts
unfolding params
params-some xs ps ts off out b =
    record { rest = b.rest; read = rw (off, out, b.read) refl; fits = b.fits; within = b.within }

back-params : {x : Params} (ps : List Symbol) (ts : List Placed) → IsParams x → Fit (spelling.params x (bare (kind.Punct puncts.CloseParen) ∷ ps)) ts →
    Back params x (bare (kind.Punct puncts.CloseParen) ∷ ps) ts
back-params ps ts leveled.IsParams.empty f = params-none ps ts f (plain-back f)
back-params ps ts leveled.IsParams.void f = params-void _ ts (plain-back f)
back-params ps ts (leveled.IsParams.names {p} {ps = xs}) f =
    params-some (p ∷ xs) _ ts
    (begins-not (kind.Punct puncts.CloseParen) _ ts (type-begun p.ty _) word-closed f)
    (begins-not (kind.Key keys.Void) _ ts (type-begun p.ty _) word-void f)
    (back-list IsParam spelling.param param (kind.Punct puncts.CloseParen) ps ts (leveled.AreListed.listed any_param (all-params xs)) EndsList.paren (λ x qs us i e g. back-param x qs us g) f)

function-back : (d : ℕ) (y : Ty) (n : Name) (x : Params) (ss : Stmts) (ps p0 p1 p2 p3 p4 : List Symbol) (ts : List Placed) → (t : Back type_words y p0 ts) →
    (a : Back name n p1 t.rest) → (o : Plain (kind.Punct puncts.OpenParen) p2 a.rest) → (b : Back params x p3 o.rest) → (c : Plain (kind.Punct puncts.CloseParen) p4 b.rest) →
    (g : Plain (kind.Punct puncts.OpenBrace) (spelling.stmts ss (bare (kind.Punct puncts.CloseBrace) ∷ ps)) c.rest) → Back (block (inner d)) ss ps g.rest →
    Back (function (inner d)) (tree.Function (record { ty = y; name = n; params = x; body = ss })) ps ts
unfolding function
function-back d y n x ss ps p0 p1 p2 p3 p4 ts t a o b c g z =
    let s1 = ap length o.head in
    let s2 = ap length c.head in
    let s3 = ap length g.head in
    record {
      rest = z.rest;
      read = rw (
        t.read,
        a.read,
        o.head,
        expect-back (kind.Punct puncts.OpenParen) o.mark o.rest,
        b.read,
        c.head,
        expect-back (kind.Punct puncts.CloseParen) c.mark c.rest,
        g.head,
        expect-back (kind.Punct puncts.OpenBrace) g.mark g.rest,
        z.read,
      ) refl;
      fits = z.fits;
      within = omega (arith, t.within, a.within, b.within, z.within);
    }

function-item : (d : ℕ) (x : ItemTree) (ps : List Symbol) (ts : List Placed) → begins (kind.Key keys.Const) ts ≡ false → Back (function (inner d)) x ps ts → Back (item (inner d)) x ps ts
unfolding item
function-item d x ps ts off b = record { rest = b.rest; read = rw off b.read; fits = b.fits; within = b.within }

constant-item : (d : ℕ) (x : ItemTree) (ps qs : List Symbol) (ts : List Placed) → Plain (kind.Key keys.Const) qs ts → Back constant x ps ts → Back (item (inner d)) x ps ts
unfolding item
constant-item d x ps qs ts t b =
    let on : begins (kind.Key keys.Const) ts ≡ true = rw t.head refl in
    record { rest = b.rest; read = rw on b.read; fits = b.fits; within = b.within }

minus-some : (ps : List Symbol) (ts : List Placed) → Plain (kind.Punct puncts.Minus) ps ts → Back minus true ps ts
unfolding minus
minus-some ps ts t =
    let size = ap length t.head in
    record { rest = t.rest; read = rw t.head refl; fits = t.fits; within = omega arith }

minus-none : (k : Kind) (ps : List Symbol) (ts : List Placed) → same k (kind.Punct puncts.Minus) ≡ false → Fit (bare k ∷ ps) ts → Plain k ps ts → Back minus false (bare k ∷ ps) ts
unfolding minus
minus-none k ps ts other f t =
    let off : begins (kind.Punct puncts.Minus) ts ≡ false = rw t.head other in
    record { rest = ts; read = rw off refl; fits = f; within = omega arith }

back-minus : (m : Bool) (k : Kind) (ps : List Symbol) (ts : List Placed) → same k (kind.Punct puncts.Minus) ≡ false → Fit (spelling.sign m (bare k ∷ ps)) ts → Back minus m (bare k ∷ ps) ts
back-minus true k ps ts other f = minus-some _ ts (plain-back f)
back-minus false k ps ts other f = minus-none k ps ts other f (plain-back f)

wide-back : (v : ℕ) (ps : List Symbol) (ts : List Placed) → v < 2 ^ 32 → Plain (kind.Wide v) ps ts → Back number (record { size = v; wide = true }) ps ts
unfolding number
wide-back v ps ts wide t =
    let size = ap length t.head in
    record { rest = t.rest; read = rw (t.head, lt-ltb v (2 ^ 32) wide) refl; fits = t.fits; within = omega arith }

number-back : (v : ℕ) (ps : List Symbol) (ts : List Placed) → v < 2 ^ 31 → Plain (kind.Number v) ps ts → Back number (record { size = v; wide = false }) ps ts
unfolding number
number-back v ps ts small t =
    let size = ap length t.head in
    record { rest = t.rest; read = rw (t.head, lt-ltb v (2 ^ 31) small) refl; fits = t.fits; within = omega arith }

constant-back : (y : Ty) (n : Name) (m : Bool) (v : Numeral) (ps p0 p1 p2 p3 p4 p5 : List Symbol) (ts : List Placed) → (t : Plain (kind.Key keys.Const) p0 ts) → (i : Back type_words y p1 t.rest) →
    (a : Back name n p2 i.rest) → (e : Plain (kind.Punct puncts.Set) p3 a.rest) → (b : Back minus m p4 e.rest) → (c : Back number v p5 b.rest) → Plain (kind.Punct puncts.Semicolon) ps c.rest →
    Back constant (tree.Constant (record { ty = y; name = n; minus = m; size = v.size; wide = v.wide })) ps ts
unfolding constant
constant-back y n m v ps p0 p1 p2 p3 p4 p5 ts t i a e b c u =
    let s0 = ap length t.head in
    let s2 = ap length e.head in
    let s3 = ap length u.head in
    record {
      rest = u.rest;
      read = rw (
        t.head,
        i.read,
        a.read,
        e.head,
        expect-back (kind.Punct puncts.Set) e.mark e.rest,
        b.read,
        c.read,
        u.head,
        expect-back (kind.Punct puncts.Semicolon) u.mark u.rest,
      ) refl;
      fits = u.fits;
      within = omega (arith, i.within, a.within, b.within, c.within);
    }

back-item : (d : ℕ) {x : ItemTree} (ps : List Symbol) (ts : List Placed) → IsItem x → item_depth x ≤ suc d → Fit (spelling.item x ps) ts → Back (item (inner d)) x ps ts
back-item d ps ts (leveled.IsItem.constant {t = y} {n = n} {minus = m} {size = v} small) h f =
    let t = plain-back f in
    let i = back-type y _ t.rest (can.begins a_name) t.fits in
    let a = back-name n _ i.rest i.fits in
    let e = plain-back a.fits in
    let b = back-minus m (kind.Number v) _ e.rest refl e.fits in
    let c = number-back v _ b.rest small (plain-back b.fits) in
    constant-item d _ ps _ ts t (constant-back y n m (record { size = v; wide = false }) ps _ _ _ _ _ _ ts t i a e b c (plain-back c.fits))
back-item d ps ts (leveled.IsItem.wide_constant {t = y} {n = n} {minus = m} {size = v} fits) h f =
    let t = plain-back f in
    let i = back-type y _ t.rest (can.begins a_name) t.fits in
    let a = back-name n _ i.rest i.fits in
    let e = plain-back a.fits in
    let b = back-minus m (kind.Wide v) _ e.rest refl e.fits in
    let c = wide-back v _ b.rest fits (plain-back b.fits) in
    constant-item d _ ps _ ts t (constant-back y n m (record { size = v; wide = true }) ps _ _ _ _ _ _ ts t i a e b c (plain-back c.fits))
back-item d ps ts (leveled.IsItem.function {t = z} {n = n} {params = x} {body = ss} ip is) h f =
    let t = back-type z _ ts (can.begins a_name) f in
    let a = back-name n _ t.rest t.fits in
    let o = plain-back a.fits in
    let b = back-params _ o.rest ip o.fits in
    let c = plain-back b.fits in
    let g = plain-back c.fits in
    let y = block-read (inner d) ss ps g.rest (back-stmts (suc (length g.rest)) d is (omega (arith, h)) g.fits (omega arith)) in
    function-item d _ ps ts (begins-not (kind.Key keys.Const) _ ts (type-begun z _) word-const f) (function-back d z n x ss ps _ _ _ _ _ ts t a o b c g y)

has-more : (p : Symbol) (ps : List Symbol) (ts : List Placed) → Fit (p ∷ ps) ts → is_more ts ≡ true
has-more (bare k) ps (placed l m ∷ ts) f = refl
has-more (marked k n) ps (placed l m ∷ ts) f = refl
has-more (bare k) ps [] f = elim f [ ]
has-more (marked k n) ps [] f = elim f [ ]

some-more : {P : Kind → Type 0} (ps : List Symbol) (ts : List Placed) → BeginsWith P ps → Fit ps ts → is_more ts ≡ true
some-more (p ∷ ps) ts b f = has-more p ps ts f
some-more [] ts b f = elim b [ ]

no-more : (ts : List Placed) → Fit [] ts → is_more ts ≡ false
no-more [] f = refl
no-more (t ∷ ts) f = elim f [ ]

item-taken : (d : ℕ) (x : ItemTree) (ps : List Symbol) (ts : List Placed) → IsItem x × (item_depth x ≤ suc d) → Fit (spelling.item x ps) ts → Taken is_more (item (inner d)) x ps ts
item-taken d x ps ts is f =
    let b = back-item d ps ts is.0 is.1 f in
    record { on = some-more _ ts (item-begins x ps) f; back = b; less = print-less ps ts b.rest (prints_item x) (item-begins x []) f b.fits }

program-read : (s : Option Inner) (p : List ItemTree) (ts : List Placed) → Back (many (suc (length ts)) is_more (item s)) p [] ts → Back (program s) p [] ts
unfolding program
program-read s p ts b = record { rest = b.rest; read = b.read; fits = b.fits; within = b.within }

-- what is spelled as a program is read back
pub back-program : (d : ℕ) {p : List ItemTree} (ts : List Placed) → AreAll IsItem p → program_depth p ≤ suc d → Fit (spelling.symbols p) ts → Back (program (inner d)) p [] ts
back-program d ts all h f =
    program-read (inner d) _ ts
    (back-many (suc (length ts)) (λ x. IsItem x × (item_depth x ≤ suc d)) spelling.item (λ _. Unit {0}) is_more (item (inner d)) [] ts (all-within item_depth (suc d) all h)
    (λ x qs. tt) (λ x qs us i e g. item-taken d x qs us i g) tt no-more f (omega arith))
