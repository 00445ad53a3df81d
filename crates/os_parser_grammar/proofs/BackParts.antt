-- What is spelled as a part of a statement, with what does not go on behind it, is read back.
use Rattle.std.proofs.Common.{◌≡◌, ℕ, zero, suc, ◌≤◌, ◌<◌, Bool, true, false, List, [], ◌∷◌, Option, Some, None, refl, ap, length, arith}
use Rattle.os_ast.specs.Beginnings as can
use Rattle.os_ast.specs.Beginnings.{BeginsWith}
use Rattle.os_ast.specs.Depth.{deepest, index_depth, value_depth, declarator_depth}
use Rattle.os_ast.specs.Leveled as leveled
use Rattle.os_ast.specs.Leveled.{IsExpr, IsTarget, AreAll, AreListed, IsOptional, IsIndex, IsDeclarator, IsHeadDeclarator, IsChange, IsClauseItem, IsClauseKind, IsClause, AreClauses}
use Rattle.os_ast.specs.Means as means
use Rattle.os_ast.specs.Means.{Placed, placed, Fit}
use Rattle.os_ast.specs.Spelling as spelling
use Rattle.os_ast.specs.Spelling.{Symbol, Printer, bare, marked, ◌⨾◌}
use Rattle.os_ast.specs.Trees.{ExprTree, TargetTree, IndexTree, DeclaratorTree}
use Rattle.os_ast.specs.declared.expr.Name.{Name}
use Rattle.os_ast.specs.declared.ty.Ty.{Ty}
use Rattle.os_ast.specs.declared.ty.Ty.TheVariants as ty_of
use Rattle.os_lexer.specs.Names.{stream_id}
use Rattle.os_lexer.specs.declared.token.Key.TheVariants as keys
use Rattle.os_lexer.specs.declared.token.Kind.{Kind}
use Rattle.os_lexer.specs.declared.token.Kind.TheVariants as kind
use Rattle.os_lexer.specs.declared.token.Punct.TheVariants as puncts
use Rattle.os_parser_grammar.specs.Expressions.{expr_on, below}
use Rattle.os_parser_grammar.specs.Kinds.{same}
use Rattle.os_parser_grammar.specs.Reading.{Reader, got, begins, after}
use Rattle.os_parser_grammar.specs.Statements.{many, commas, list_of, name, target, size, value, attribute, declarator, head_declarator, type_words, begins_type, declared, head_declared}
use Rattle.os_parser_grammar.proofs.Follows.{Stops, grows, no-token}
use Rattle.os_parser_grammar.proofs.BackExprs.{Back, Plain, plain-back, Noted, noted-back, expect-back, depth-some, BackTarget, back-index, bracket, back-expr}

-- what follows is of a kind, so it is of no other
pub begins-not : {Q : Kind → Type 0} (k : Kind) (ps : List Symbol) (ts : List Placed) → BeginsWith Q ps → ((l : Kind) → Q l → same l k ≡ false) →
    Fit ps ts → begins k ts ≡ false
begins-not k (bare l ∷ ps) (placed j m ∷ ts) (can.begins q) h (means.bare f) = h l q
begins-not k (marked l n ∷ ps) (placed j m ∷ ts) (can.begins q) h (means.marked f) = h l q
begins-not k [] ts q h f = elim q [ ]
begins-not k (bare l ∷ ps) [] q h f = elim f [ ]
begins-not k (marked l n ∷ ps) [] q h f = elim f [ ]

pub begins-stops : {Q : Kind → Type 0} (n : ℕ) (ps : List Symbol) → BeginsWith Q ps → ((l : Kind) → Q l → grows l ≤ n) → Stops n ps
begins-stops n (bare l ∷ ps) (can.begins q) h = record { least = h l q }
begins-stops n (marked l m ∷ ps) (can.begins q) h = record { least = h l q }
begins-stops n [] q h = elim q [ ]

-- the tokens that stand behind a part of a list
pub data Ends : Kind → Type 0 where
  comma : Ends (kind.Punct puncts.Comma)
  semicolon : Ends (kind.Punct puncts.Semicolon)
  paren : Ends (kind.Punct puncts.CloseParen)

ends-least : (n : ℕ) (l : Kind) → Ends l → grows l ≤ n
ends-least n l comma = omega arith
ends-least n l semicolon = omega arith
ends-least n l paren = omega arith

pub ends-stop : (n : ℕ) (ps : List Symbol) → BeginsWith Ends ps → Stops n ps
ends-stop n ps b = begins-stops n ps b (ends-least n)

-- lists of parts
pub record Taken {A : Type 0} (goes : List Placed → Bool) (part : Reader A) (x : A) (ps : List Symbol) (ts : List Placed) : Type 0 where
  pub on : goes ts ≡ true
  pub back : Back part x ps ts
  pub less : length back.rest < length ts

each-follows : {A : Type 0} (p : A → Printer) (F : List Symbol → Type 0) (xs : List A) (ps : List Symbol) → ((x : A) (qs : List Symbol) → F (p x qs)) → F ps →
    F (spelling.each p xs ps)
each-follows p F [] ps h f = f
each-follows p F (x ∷ xs) ps h f = h x (spelling.each p xs ps)

many-none : {A : Type 0} (f : ℕ) (goes : List Placed → Bool) (part : Reader A) (ts : List Placed) → goes ts ≡ false → many (suc f) goes part ts ≡ got [] ts
unfolding many
many-none f goes part ts e = rw e refl

many-some : {A : Type 0} (f : ℕ) (goes : List Placed → Bool) (part : Reader A) (x : A) (xs : List A) (ts us vs : List Placed) → goes ts ≡ true →
    part ts ≡ got x us → many f goes part us ≡ got xs vs → many (suc f) goes part ts ≡ got (x ∷ xs) vs
unfolding many
many-some f goes part x xs ts us vs on read rest = rw (on, read, rest) refl

pub back-many : {A : Type 0} (f : ℕ) (Is : A → Type 0) (p : A → Printer) (F : List Symbol → Type 0) (goes : List Placed → Bool) (part : Reader A)
    {xs : List A} (ps : List Symbol) (ts : List Placed) → AreAll Is xs →
    ((x : A) (qs : List Symbol) → F (p x qs)) →
    ((x : A) (qs : List Symbol) (us : List Placed) → Is x → F qs → Fit (p x qs) us → Taken goes part x qs us) →
    F ps → ((us : List Placed) → Fit ps us → goes us ≡ false) → Fit (spelling.each p xs ps) ts → length ts < f →
    Back (many f goes part) xs ps ts
back-many zero Is p F goes part ps ts all next one fps off fit less = absurd (omega arith)
back-many (suc f) Is p F goes part ps ts leveled.AreAll.nil next one fps off fit less =
    record { rest = ts; read = many-none f goes part ts (off ts fit); fits = fit; within = omega arith }
back-many (suc f) Is p F goes part ps ts (leveled.AreAll.cons {x} {xs} is all) next one fps off fit less =
    let a = one x (spelling.each p xs ps) ts is (each-follows p F xs ps next fps) fit in
    let b = back-many f Is p F goes part ps a.back.rest all next one fps off a.back.fits (omega (arith, a.less)) in
    record { rest = b.rest; read = many-some f goes part x xs ts a.back.rest b.rest a.on a.back.read b.read; fits = b.fits; within = omega (arith, a.less, b.within) }

comma-taken : {A : Type 0} (part : Reader A) (x : A) (qs : List Symbol) (us : List Placed) (p : A → Printer) →
    (t : Plain (kind.Punct puncts.Comma) (p x qs) us) → Back part x qs t.rest →
    Taken (begins (kind.Punct puncts.Comma)) (λ vs. part (after vs)) x qs us
comma-taken part x qs us p t b =
    let size = ap length t.head in
    record {
      on = rw t.head refl;
      back = record { rest = b.rest; read = rw t.head b.read; fits = b.fits; within = omega (arith, b.within) };
      less = omega (arith, b.within);
    }

-- a kind that ends a list
pub data EndsList : Kind → Type 0 where
  semicolon : EndsList (kind.Punct puncts.Semicolon)
  paren : EndsList (kind.Punct puncts.CloseParen)

ends-list : {k : Kind} → EndsList k → Ends k
ends-list EndsList.semicolon = Ends.semicolon
ends-list EndsList.paren = Ends.paren

no-comma : (l : Kind) → EndsList l → same l (kind.Punct puncts.Comma) ≡ false
no-comma l EndsList.semicolon = refl
no-comma l EndsList.paren = refl

list_of-read : {A : Type 0} (part : Reader A) (x : A) (xs : List A) (ts us vs : List Placed) → part ts ≡ got x us →
    commas (suc (length us)) part us ≡ got xs vs → list_of part ts ≡ got (x ∷ xs) vs
unfolding list_of
list_of-read part x xs ts us vs read rest = rw (read, rest) refl

pub back-list : {A : Type 0} (Is : A → Type 0) (p : A → Printer) (part : Reader A) (k : Kind) {xs : List A} (ps : List Symbol) (ts : List Placed) →
    AreListed Is xs → EndsList k →
    ((x : A) (qs : List Symbol) (us : List Placed) → Is x → BeginsWith Ends qs → Fit (p x qs) us → Back part x qs us) →
    Fit (spelling.listed p xs (bare k ∷ ps)) ts → Back (list_of part) xs (bare k ∷ ps) ts
back-list Is p part k ps ts (leveled.AreListed.listed {x} {xs} is all) e one fit =
    let next : (y : _) (qs : List Symbol) → BeginsWith Ends ((spelling.punct puncts.Comma ⨾ p y) qs) = λ y qs. can.begins Ends.comma in
    let last : BeginsWith Ends (bare k ∷ ps) = can.begins (ends-list e) in
    let a = one x (spelling.each (λ y. spelling.punct puncts.Comma ⨾ p y) xs (bare k ∷ ps)) ts is
    (each-follows (λ y. spelling.punct puncts.Comma ⨾ p y) (BeginsWith Ends) xs (bare k ∷ ps) next last) fit in
    let b = back-many (suc (length a.rest)) Is (λ y. spelling.punct puncts.Comma ⨾ p y) (BeginsWith Ends) (begins (kind.Punct puncts.Comma)) (λ vs. part (after vs))
    (bare k ∷ ps) a.rest all next
    (λ y qs us is' f fit'. let t = plain-back fit' in comma-taken part y qs us p t (one y qs t.rest is' f t.fits))
    last (λ us fit'. begins-not (kind.Punct puncts.Comma) (bare k ∷ ps) us (can.begins e) no-comma fit') a.fits (omega arith) in
    record { rest = b.rest; read = list_of-read part x xs ts a.rest b.rest a.read b.read; fits = b.fits; within = omega (arith, a.within, b.within) }

-- the parts of a list, with a depth that none of them passes
pub all-within : {A : Type 0} {Is : A → Type 0} (depth : A → ℕ) (d : ℕ) {xs : List A} → AreAll Is xs → deepest depth xs ≤ d → AreAll (λ x. Is x × (depth x ≤ d)) xs
all-within depth d leveled.AreAll.nil h = leveled.AreAll.nil
all-within depth d (leveled.AreAll.cons is all) h = leveled.AreAll.cons (is, omega (arith, h)) (all-within depth d all (omega (arith, h)))

pub listed-within : {A : Type 0} {Is : A → Type 0} (depth : A → ℕ) (d : ℕ) {xs : List A} → AreListed Is xs → deepest depth xs ≤ d → AreListed (λ x. Is x × (depth x ≤ d)) xs
listed-within depth d (leveled.AreListed.listed is all) h = leveled.AreListed.listed (is, omega (arith, h)) (all-within depth d all (omega (arith, h)))

-- names and targets
name-back : (n : Name) (ps : List Symbol) (ts : List Placed) → Noted (kind.Name n.id) n.mark ps ts → Back name n ps ts
unfolding name
name-back n ps ts t =
    let size = ap length t.head in
    record { rest = t.rest; read = rw t.head refl; fits = t.fits; within = omega arith }

pub back-name : (n : Name) (ps : List Symbol) (ts : List Placed) → Fit (spelling.name n ps) ts → Back name n ps ts
back-name n ps ts f = name-back n ps ts (noted-back f)

pub back-whole : (d : ℕ) (t : TargetTree) (ps : List Symbol) (ts : List Placed) → BackTarget d t ps ts → Back (target (below d)) t ps ts
unfolding target name
back-whole d t ps ts b =
    let size = ap length b.head in
    record { rest = b.back.rest; read = rw (b.head, b.back.read) refl; fits = b.back.fits; within = omega (arith, b.back.within) }

pub back-size : (d : ℕ) {s : Option IndexTree} (ps : List Symbol) (ts : List Placed) → IsOptional IsIndex s → index_depth s ≤ d → Stops 12 ps →
    Fit (spelling.optional spelling.index s ps) ts → Back (size (below d)) s ps ts
unfolding size
back-size d ps ts leveled.IsOptional.absent h s f =
    record { rest = ts; read = rw (no-token 12 (kind.Punct puncts.OpenBracket) ps ts s (omega arith) f) refl; fits = f; within = omega arith }
back-size zero ps ts (leveled.IsOptional.present (leveled.IsIndex.index {m} {e} is)) h s f = let some = depth-some e in absurd (omega (arith, h))
back-size (suc c) ps ts (leveled.IsOptional.present (leveled.IsIndex.index {m} {e} is)) h s f =
    let t = noted-back f in
    let b = back-expr c is (omega (arith, h)) t.fits (bracket _) in
    let i = back-index c m e ps ts t b (plain-back b.fits) in
    let opens : begins (kind.Punct puncts.OpenBracket) ts ≡ true = rw t.head refl in
    record { rest = i.rest; read = rw (opens, i.read) refl; fits = i.fits; within = i.within }

no-set : (l : Kind) → Ends l → same l (kind.Punct puncts.Set) ≡ false
no-set l Ends.comma = refl
no-set l Ends.semicolon = refl
no-set l Ends.paren = refl

no-value : (d : ℕ) (ps : List Symbol) (ts : List Placed) → BeginsWith Ends ps → Fit ps ts → Back (value (below d)) None ps ts
unfolding value
no-value d ps ts e f = record { rest = ts; read = rw (begins-not (kind.Punct puncts.Set) ps ts e no-set f) refl; fits = f; within = omega arith }

value-back : (c : ℕ) (x : ExprTree) (ps : List Symbol) (ts : List Placed) → (t : Plain (kind.Punct puncts.Set) (spelling.expr x ps) ts) → Back (expr_on (below c)) x ps t.rest →
    Back (value (below (suc c))) (Some x) ps ts
unfolding value below
value-back c x ps ts t b =
    let size = ap length t.head in
    record { rest = b.rest; read = rw (t.head, b.read) refl; fits = b.fits; within = omega (arith, b.within) }

pub back-value : (d : ℕ) {v : Option ExprTree} (ps : List Symbol) (ts : List Placed) → IsOptional IsExpr v → value_depth v ≤ d → BeginsWith Ends ps →
    Fit (spelling.optional spelling.first_value v ps) ts → Back (value (below d)) v ps ts
back-value d ps ts leveled.IsOptional.absent h e f = no-value d ps ts e f
back-value zero ps ts (leveled.IsOptional.present {x} is) h e f = let some = depth-some x in absurd (omega (arith, h))
back-value (suc c) ps ts (leveled.IsOptional.present {x} is) h e f =
    let t = plain-back f in
    value-back c x ps ts t (back-expr c is (omega (arith, h)) t.fits (ends-stop 0 ps e))

-- what may stand behind a name without a size
data Tails : Kind → Type 0 where
  end : {k : Kind} → Ends k → Tails k
  set : Tails (kind.Punct puncts.Set)

tails-least : (l : Kind) → Tails l → grows l ≤ 12
tails-least l (end e) = ends-least 12 l e
tails-least l set = omega arith

end-attribute : (l : Kind) → Ends l → same l (kind.Key keys.Attribute) ≡ false
end-attribute l Ends.comma = refl
end-attribute l Ends.semicolon = refl
end-attribute l Ends.paren = refl

no-attribute : (l : Kind) → Tails l → same l (kind.Key keys.Attribute) ≡ false
no-attribute l (end e) = end-attribute l e
no-attribute l set = refl

as-tail : (ps : List Symbol) → BeginsWith Ends ps → BeginsWith Tails ps
as-tail (p ∷ ps) (can.begins e) = can.begins (end e)
as-tail [] e = elim e [ ]

value-tail : (v : Option ExprTree) (ps : List Symbol) → BeginsWith Ends ps → BeginsWith Tails (spelling.optional spelling.first_value v ps)
value-tail None ps e = as-tail ps e
value-tail (Some x) ps e = can.begins set

back-plain_attribute : (ps : List Symbol) (ts : List Placed) → BeginsWith Tails ps → Fit ps ts → Back attribute false ps ts
unfolding attribute
back-plain_attribute ps ts e f =
    record { rest = ts; read = rw (begins-not (kind.Key keys.Attribute) ps ts e no-attribute f) refl; fits = f; within = omega arith }

attribute-back : {p0 p1 p2 p3 p4 : List Symbol} (ps : List Symbol) (ts : List Placed) → (t0 : Plain (kind.Key keys.Attribute) p0 ts) →
    (t1 : Plain (kind.Punct puncts.OpenParen) p1 t0.rest) → (t2 : Plain (kind.Punct puncts.OpenParen) p2 t1.rest) → (t3 : Plain (kind.Name stream_id) p3 t2.rest) →
    (t4 : Plain (kind.Punct puncts.CloseParen) p4 t3.rest) → Plain (kind.Punct puncts.CloseParen) ps t4.rest → Back attribute true ps ts
unfolding attribute
attribute-back ps ts t0 t1 t2 t3 t4 t5 =
    let s0 = ap length t0.head in
    let s1 = ap length t1.head in
    let s2 = ap length t2.head in
    let s3 = ap length t3.head in
    let s4 = ap length t4.head in
    let s5 = ap length t5.head in
    record {
      rest = t5.rest;
      read = rw (
        t0.head,
        t1.head,
        expect-back (kind.Punct puncts.OpenParen) t1.mark t1.rest,
        t2.head,
        expect-back (kind.Punct puncts.OpenParen) t2.mark t2.rest,
        t3.head,
        expect-back (kind.Name stream_id) t3.mark t3.rest,
        t4.head,
        expect-back (kind.Punct puncts.CloseParen) t4.mark t4.rest,
        t5.head,
        expect-back (kind.Punct puncts.CloseParen) t5.mark t5.rest,
      ) refl;
      fits = t5.fits;
      within = omega arith;
    }

back-attribute : (ps : List Symbol) (ts : List Placed) → Fit (spelling.attribute true ps) ts → Back attribute true ps ts
back-attribute ps ts f =
    let t0 = plain-back f in
    let t1 = plain-back t0.fits in
    let t2 = plain-back t1.fits in
    let t3 = plain-back t2.fits in
    let t4 = plain-back t3.fits in
    attribute-back ps ts t0 t1 t2 t3 t4 (plain-back t4.fits)

word-stops : {n : ℕ} (ps : List Symbol) → Stops n (bare (kind.Key keys.Attribute) ∷ ps)
word-stops ps = record { least = omega arith }

pub back-declarator : (d : ℕ) {x : DeclaratorTree} (ps : List Symbol) (ts : List Placed) → IsDeclarator x → declarator_depth x ≤ d → BeginsWith Ends ps →
    Fit (spelling.declarator x ps) ts → Back (declarator (below d)) x ps ts
unfolding declarator
back-declarator d ps ts (leveled.IsDeclarator.scalar {n} {first} is) h e f =
    let tail = value-tail first ps e in
    let a = back-name n _ ts f in
    let s = back-size d _ a.rest leveled.IsOptional.absent (omega arith) (begins-stops 12 _ tail tails-least) a.fits in
    let w = back-plain_attribute _ s.rest tail s.fits in
    let v = back-value d ps w.rest is (omega (arith, h)) e w.fits in
    record { rest = v.rest; read = rw (a.read, s.read, w.read, v.read) refl; fits = v.fits; within = omega (arith, a.within, s.within, w.within, v.within) }
back-declarator d ps ts (leveled.IsDeclarator.sized {n} {size} is) h e f =
    let tail = as-tail ps e in
    let a = back-name n _ ts f in
    let s = back-size d _ a.rest (leveled.IsOptional.present is) (omega (arith, h)) (begins-stops 12 _ tail tails-least) a.fits in
    let w = back-plain_attribute _ s.rest tail s.fits in
    record { rest = w.rest; read = rw (a.read, s.read, w.read) refl; fits = w.fits; within = omega (arith, a.within, s.within, w.within) }
back-declarator d ps ts (leveled.IsDeclarator.stream {n} leveled.IsOptional.absent) h e f =
    let a = back-name n _ ts f in
    let s = back-size d _ a.rest leveled.IsOptional.absent (omega arith) (word-stops _) a.fits in
    let w = back-attribute ps s.rest s.fits in
    record { rest = w.rest; read = rw (a.read, s.read, w.read) refl; fits = w.fits; within = omega (arith, a.within, s.within, w.within) }
back-declarator d ps ts (leveled.IsDeclarator.stream {n} (leveled.IsOptional.present is)) h e f =
    let a = back-name n _ ts f in
    let s = back-size d _ a.rest (leveled.IsOptional.present is) (omega (arith, h)) (word-stops _) a.fits in
    let w = back-attribute ps s.rest s.fits in
    record { rest = w.rest; read = rw (a.read, s.read, w.read) refl; fits = w.fits; within = omega (arith, a.within, s.within, w.within) }

pub back-head_declarator : (d : ℕ) {x : DeclaratorTree} (ps : List Symbol) (ts : List Placed) → IsHeadDeclarator x → declarator_depth x ≤ d → BeginsWith Ends ps →
    Fit (spelling.declarator x ps) ts → Back (head_declarator (below d)) x ps ts
unfolding head_declarator
back-head_declarator d ps ts (leveled.IsHeadDeclarator.head {n} is) h e f =
    let a = back-name n _ ts f in
    let v = back-value d ps a.rest is (omega (arith, h)) e a.fits in
    record { rest = v.rest; read = rw (a.read, v.read) refl; fits = v.fits; within = omega (arith, a.within, v.within) }

declared-read : (d : ℕ) (ds : List DeclaratorTree) (ps : List Symbol) (ts : List Placed) →
    (l : Back (list_of (declarator (below d))) ds (bare (kind.Punct puncts.Semicolon) ∷ ps) ts) → Plain (kind.Punct puncts.Semicolon) ps l.rest →
    Back (declared (below d)) ds ps ts
unfolding declared
declared-read d ds ps ts l u =
    let s1 = ap length u.head in
    record { rest = u.rest; read = rw (l.read, u.head, expect-back (kind.Punct puncts.Semicolon) u.mark u.rest) refl; fits = u.fits; within = omega (arith, l.within) }

pub back-declared : (d : ℕ) {ds : List DeclaratorTree} (ps : List Symbol) (ts : List Placed) → AreListed IsDeclarator ds → deepest declarator_depth ds ≤ d →
    Fit (spelling.declared ds ps) ts → Back (declared (below d)) ds ps ts
back-declared d {ds} ps ts is h f =
    let l = back-list (λ x. IsDeclarator x × (declarator_depth x ≤ d)) spelling.declarator (declarator (below d)) (kind.Punct puncts.Semicolon) ps ts
    (listed-within declarator_depth d is h) EndsList.semicolon (λ x qs us i e g. back-declarator d qs us i.0 i.1 e g) f in
    declared-read d ds ps ts l (plain-back l.fits)

head_declared-read : (d : ℕ) (ds : List DeclaratorTree) (ps : List Symbol) (ts : List Placed) →
    (l : Back (list_of (head_declarator (below d))) ds (bare (kind.Punct puncts.Semicolon) ∷ ps) ts) → Plain (kind.Punct puncts.Semicolon) ps l.rest →
    Back (head_declared (below d)) ds ps ts
unfolding head_declared
head_declared-read d ds ps ts l u =
    let s1 = ap length u.head in
    record { rest = u.rest; read = rw (l.read, u.head, expect-back (kind.Punct puncts.Semicolon) u.mark u.rest) refl; fits = u.fits; within = omega (arith, l.within) }

pub back-head_declared : (d : ℕ) {ds : List DeclaratorTree} (ps : List Symbol) (ts : List Placed) → AreListed IsHeadDeclarator ds → deepest declarator_depth ds ≤ d →
    Fit (spelling.declared ds ps) ts → Back (head_declared (below d)) ds ps ts
back-head_declared d {ds} ps ts is h f =
    let l = back-list (λ x. IsHeadDeclarator x × (declarator_depth x ≤ d)) spelling.declarator (head_declarator (below d)) (kind.Punct puncts.Semicolon) ps ts
    (listed-within declarator_depth d is h) EndsList.semicolon (λ x qs us i e g. back-head_declarator d qs us i.0 i.1 e g) f in
    head_declared-read d ds ps ts l (plain-back l.fits)

-- types
type-int : (ps : List Symbol) (ts : List Placed) → Plain (kind.Key keys.Int) ps ts → Back type_words ty_of.Int ps ts
unfolding type_words
type-int ps ts t =
    let size = ap length t.head in
    record { rest = t.rest; read = rw t.head refl; fits = t.fits; within = omega arith }

type-unsigned : (ps : List Symbol) (ts : List Placed) → (t : Plain (kind.Key keys.Unsigned) ps ts) → begins (kind.Key keys.Int) t.rest ≡ false → Back type_words ty_of.Unsigned ps ts
unfolding type_words
type-unsigned ps ts t off =
    let size = ap length t.head in
    record { rest = t.rest; read = rw (t.head, off) refl; fits = t.fits; within = omega arith }

type-unsigned_int : (ps qs : List Symbol) (ts : List Placed) → (t : Plain (kind.Key keys.Unsigned) qs ts) → Plain (kind.Key keys.Int) ps t.rest → Back type_words ty_of.UnsignedInt ps ts
unfolding type_words
type-unsigned_int ps qs ts t u =
    let size = ap length t.head in
    let more = ap length u.head in
    record { rest = u.rest; read = rw (t.head, u.head) refl; fits = u.fits; within = omega arith }

-- a name stands behind a type
pub data BehindType : Kind → Type 0 where
  a_name : {n : ℕ} → BehindType (kind.Name n)

no-int : (l : Kind) → BehindType l → same l (kind.Key keys.Int) ≡ false
no-int l a_name = refl

pub back-type : (t : Ty) (ps : List Symbol) (ts : List Placed) → BeginsWith BehindType ps → Fit (spelling.type_words t ps) ts → Back type_words t ps ts
back-type ty_of.Int ps ts b f = type-int ps ts (plain-back f)
back-type ty_of.Unsigned ps ts b f = let t = plain-back f in type-unsigned ps ts t (begins-not (kind.Key keys.Int) ps t.rest b no-int t.fits)
back-type ty_of.UnsignedInt ps ts b f = let t = plain-back f in type-unsigned_int ps _ ts t (plain-back t.fits)

-- what a type begins with
pub data IsTypeWord : Kind → Type 0 where
  int : IsTypeWord (kind.Key keys.Int)
  unsigned : IsTypeWord (kind.Key keys.Unsigned)

pub type-begun : (t : Ty) (ps : List Symbol) → BeginsWith IsTypeWord (spelling.type_words t ps)
type-begun ty_of.Int ps = can.begins int
type-begun ty_of.Unsigned ps = can.begins unsigned
type-begun ty_of.UnsignedInt ps = can.begins unsigned

pub type-begins : (ps : List Symbol) (ts : List Placed) → BeginsWith IsTypeWord ps → Fit ps ts → begins_type ts ≡ true
type-begins (bare k ∷ ps) (placed j m ∷ ts) (can.begins int) (means.bare f) = refl
type-begins (bare k ∷ ps) (placed j m ∷ ts) (can.begins unsigned) (means.bare f) = refl
type-begins (marked k n ∷ ps) (placed j m ∷ ts) (can.begins int) (means.marked f) = refl
type-begins (marked k n ∷ ps) (placed j m ∷ ts) (can.begins unsigned) (means.marked f) = refl
type-begins [] ts q f = elim q [ ]
type-begins (bare k ∷ ps) [] q f = elim f [ ]
type-begins (marked k n ∷ ps) [] q f = elim f [ ]

pub listed-names : {P : DeclaratorTree → Type 0} (ds : List DeclaratorTree) (ps : List Symbol) → AreListed P ds → BeginsWith BehindType (spelling.declared ds ps)
listed-names ds ps (leveled.AreListed.listed x xs) = can.begins a_name
