-- The names of a program tell of each of its notes, and a lawful program keeps each rule at each of them.
use Rattle.std.proofs.Common.{◌≡◌, ◌<◌, ℕ, zero, suc, Bool, true, false, List, [], ◌∷◌, ◌++◌, Option, Some, None, refl, ap, sym, subst, ◌∙◌, Contains, arith}
use Rattle.std.specs.Prelude.{is_none}
use Rattle.os_ast.specs.Meanings.{meaning_in, resolved}
use Rattle.os_ast.specs.Names.{Scope, lookup, entity_of, flag_of}
use Rattle.os_ast.specs.Notes.Kinds.{Note, Used, mark_of}
use Rattle.os_ast.specs.Notes.Programs.{program_notes}
use Rattle.os_ast.specs.Rules.{broken, when}
use Rattle.os_ast.specs.Trees.{ProgramTree}
use Rattle.os_ast.specs.Violations.{violations, no_main, violations_at, violations_of, names, resolutions_of, resolutions, declared_meaning}
use Rattle.os_ast.specs.declared.expr.Mark.{Mark}
use Rattle.os_ast.specs.declared.expr.Name.{Name}
use Rattle.os_ast.specs.declared.names.Entity.{Entity}
use Rattle.os_ast.specs.declared.names.Resolved.{Resolved}
use Rattle.os_ast.specs.declared.names.Use.{Use}
use Rattle.os_ast.specs.declared.names.What.{What}
use Rattle.window_check_laws.specs.Order.{InOrder, IsBelowNext}
use Rattle.window_check_laws.specs.Told.{AreIn, Tells, KeepsAll, AreLawful, RuleTest, rules, broken_among}
use Rattle.os_ast.specs.declared.rule.Rule.{Rule}

contains-head : (r : Resolved) (rs : List Resolved) → Contains (r ∷ rs) r
contains-head r rs = (0, omega arith, refl)

contains-tail : (r q : Resolved) (rs : List Resolved) → Contains rs q → Contains (r ∷ rs) q
contains-tail r q rs (k, h, e) = (suc k, omega (arith, h), e)

in-more : (r : Resolved) (all rs : List Resolved) → AreIn all rs → AreIn (r ∷ all) rs
in-more r all [] h = tt
in-more r all (q ∷ rs) h = (contains-tail r q all h.0, in-more r all rs h.1)

in-front : (rs all : List Resolved) → AreIn (rs ++ all) rs
in-front [] all = tt
in-front (r ∷ rs) all = (contains-head r (rs ++ all), in-more r (rs ++ all) rs (in-front rs all))

in-behind : (front all rs : List Resolved) → AreIn all rs → AreIn (front ++ all) rs
in-behind [] all rs h = h
in-behind (r ∷ front) all rs h = in-more r (front ++ all) rs (in-behind front all rs h)

tells-behind : (front all : List Resolved) (ns : List Note) → Tells all ns → Tells (front ++ all) ns
tells-behind front all [] h = tt
tells-behind front all (n ∷ ns) h = (in-behind front all (resolutions_of n) h.0, tells-behind front all ns h.1)

tells-all : (ns : List Note) → Tells (resolutions ns) ns
tells-all [] = tt
tells-all (n ∷ ns) = (in-front (resolutions_of n) (resolutions ns), tells-behind (resolutions_of n) (resolutions ns) ns (tells-all ns))

pub tells-program : (p : ProgramTree) → Tells (names p) (program_notes p)
tells-program p = tells-all (program_notes p)

pub tells-first : (rs : List Resolved) (xs ys : List Note) → Tells rs (xs ++ ys) → Tells rs xs
tells-first rs [] ys h = tt
tells-first rs (x ∷ xs) ys h = (h.0, tells-first rs xs ys h.1)

pub tells-rest : (rs : List Resolved) (xs ys : List Note) → Tells rs (xs ++ ys) → Tells rs ys
tells-rest rs [] ys h = h
tells-rest rs (x ∷ xs) ys h = tells-rest rs xs ys h.1

-- what is said of a name that is declared
told-by : (rs : List Resolved) (m : Mark) (b : Bool) (s : Scope) (d : Option Entity) (e : Entity) → d ≡ Some e → AreIn rs (declared_meaning m b s.owner s.captured d) →
    Contains rs (resolved m.place (meaning_in s.owner s.captured e) b)
told-by rs m b s d e is h = (subst (λ (x : Option Entity). AreIn rs (declared_meaning m b s.owner s.captured x)) is h).0

pub told-use : (rs : List Resolved) (s : Scope) (n : Name) (u : Use) (e : Entity) → entity_of (lookup s.entries n.id) ≡ Some e →
    Tells rs (Used s n u ∷ []) → Contains rs (resolved n.mark.place (meaning_in s.owner s.captured e) (flag_of (lookup s.entries n.id)))
told-use rs s n u e is h = told-by rs n.mark (flag_of (lookup s.entries n.id)) s (entity_of (lookup s.entries n.id)) e is h.0

-- lawful parts
pub lawful-first : (xs ys : List Note) → AreLawful (xs ++ ys) → AreLawful xs
lawful-first [] ys h = tt
lawful-first (x ∷ xs) ys h = (h.0, lawful-first xs ys h.1)

pub lawful-rest : (xs ys : List Note) → AreLawful (xs ++ ys) → AreLawful ys
lawful-rest [] ys h = h
lawful-rest (x ∷ xs) ys h = lawful-rest xs ys h.1

first-none : {A : Type 0} (xs ys : List A) → xs ++ ys ≡ [] → xs ≡ []
first-none [] ys h = refl
first-none (x ∷ xs) ys h = absurd (cc)

rest-none : {A : Type 0} (xs ys : List A) → xs ++ ys ≡ [] → ys ≡ []
rest-none [] ys h = h
rest-none (x ∷ xs) ys h = absurd (cc)

not-when : (b : Bool) (r : Rule) → when b r ≡ [] → b ≡ false
not-when true r h = absurd (cc)
not-when false r h = refl

keeps-among : (ts : List RuleTest) (n : Note) → broken_among ts n ≡ [] → KeepsAll ts n
keeps-among [] n h = tt
keeps-among (t ∷ ts) n h =
    (not-when (t.is_violated n) t.rule (first-none (when (t.is_violated n) t.rule) (broken_among ts n) h), keeps-among ts n (rest-none (when (t.is_violated n) t.rule) (broken_among ts n) h))

no-violations_at : (m : Mark) (rs : List Rule) → violations_at m rs ≡ [] → rs ≡ []
no-violations_at m [] h = refl
no-violations_at m (r ∷ rs) h = absurd (cc)

keeps-notes : (ns : List Note) → violations_of ns ≡ [] → AreLawful ns
keeps-notes [] h = tt
keeps-notes (n ∷ ns) h =
    (keeps-among rules n (no-violations_at (mark_of n) (broken n) (first-none (violations_at (mark_of n) (broken n)) (violations_of ns) h)), keeps-notes ns (rest-none (violations_at (mark_of n) (broken n)) (violations_of ns) h))

pub lawful-program : (p : ProgramTree) → violations p ≡ [] → AreLawful (program_notes p)
lawful-program p h = keeps-notes (program_notes p) (first-none (violations_of (program_notes p)) (no_main p) h)

-- a used name that keeps the rules is declared in scope
declared-by : (d : Option Entity) → is_none d ≡ false → (e : Entity) × (d ≡ Some e)
declared-by None h = absurd (cc)
declared-by (Some e) h = (e, refl)

pub declared-use : (s : Scope) (n : Name) (u : Use) → AreLawful (Used s n u ∷ []) → (e : Entity) × (entity_of (lookup s.entries n.id) ≡ Some e)
declared-use s n u h = declared-by (entity_of (lookup s.entries n.id)) h.0.0

-- a place has one entry
below-all : (lo : ℕ) (rs : List Resolved) (q : ℕ) (w : What) (b : Bool) → IsBelowNext lo rs → Contains rs (resolved q w b) → lo < q
below-all lo [] q w b h (k, lt, e) = absurd (omega (arith, lt))
below-all lo (r ∷ rs) q w b h (zero, lt, e) =
    let same : r.place ≡ q = ap (λ (x : Resolved). x.place) e in
    omega (arith, h.0, same)
below-all lo (r ∷ rs) q w b h (suc k, lt, e) =
    let far : r.place < q = below-all r.place rs q w b h.1 (k, omega (arith, lt), e) in
    omega (arith, h.0, far)

pub in-order-tail : (lo : ℕ) (rs : List Resolved) → IsBelowNext lo rs → InOrder rs
in-order-tail lo [] h = tt
in-order-tail lo (r ∷ rs) h = h.1

one-entry : (rs : List Resolved) (p : ℕ) (v w : What) (a b : Bool) → InOrder rs → Contains rs (resolved p v a) → Contains rs (resolved p w b) →
    resolved p v a ≡ resolved p w b
one-entry [] p v w a b o (k, lt, e) c = absurd (omega (arith, lt))
one-entry (r ∷ rs) p v w a b o (zero, _, e) (zero, _, f) = sym e ∙ f
one-entry (r ∷ rs) p v w a b o (zero, _, e) (suc k, lt, f) =
    let same : r.place ≡ p = ap (λ (x : Resolved). x.place) e in
    let far : r.place < p = below-all r.place rs p w b o (k, omega (arith, lt), f) in
    absurd (omega (arith, same, far))
one-entry (r ∷ rs) p v w a b o (suc k, lt, e) (zero, _, f) =
    let same : r.place ≡ p = ap (λ (x : Resolved). x.place) f in
    let far : r.place < p = below-all r.place rs p v a o (k, omega (arith, lt), e) in
    absurd (omega (arith, same, far))
one-entry (r ∷ rs) p v w a b o (suc k, lt, e) (suc j, lk, f) =
    one-entry rs p v w a b (in-order-tail r.place rs o) (k, omega (arith, lt), e) (j, omega (arith, lk), f)

-- so it has one meaning, of one type
pub one-meaning : (rs : List Resolved) (p : ℕ) (v w : What) (a b : Bool) → InOrder rs → Contains rs (resolved p v a) → Contains rs (resolved p w b) → v ≡ w
one-meaning rs p v w a b o h k = ap (λ (x : Resolved). x.what) (one-entry rs p v w a b o h k)

pub one-type : (rs : List Resolved) (p : ℕ) (v w : What) (a b : Bool) → InOrder rs → Contains rs (resolved p v a) → Contains rs (resolved p w b) → a ≡ b
one-type rs p v w a b o h k = ap (λ (x : Resolved). x.unsigned) (one-entry rs p v w a b o h k)
