-- A lawful program has no more names than tokens: those that declare variables or parameters, and those that use a name.
use Rattle.std.proofs.Common.{◌≡◌, ℕ, suc, ◌+◌, ◌<◌, ◌≤◌, List, [], ◌∷◌, ◌++◌, length, length-append, Option, Some, None, sym, subst, refl, arith, Bool}
use Rattle.std.specs.Prelude.{⊤}
use Rattle.std.proofs.lemmas.List.{length-map}
use Rattle.os_ast.specs.Marks.{HasMark, HasPlaces}
use Rattle.os_ast.specs.Names.{entity_of, lookup, flag_of}
use Rattle.os_ast.specs.Notes.Declarators.{constant_of}
use Rattle.os_ast.specs.Notes.Kinds.{Declared, Parameter, Global, Left, Listed, Note, Pragma, Returned, Sized, Task, Used}
use Rattle.os_ast.specs.Notes.Programs.{file, program_notes}
use Rattle.os_ast.specs.Spelling.{Symbol, bare, kind_of, marked, symbols, spell}
use Rattle.os_ast.specs.Trees as tree
use Rattle.os_ast.specs.Violations.{constant_meaning, declared_meaning, names, resolutions, resolutions_of}
use Rattle.os_ast.specs.declared.expr.Mark.{Mark}
use Rattle.os_ast.specs.declared.names.Entity.{Entity}
use Rattle.os_ast.specs.declared.names.Resolved.{Resolved}
use Rattle.window_check_laws.proofs.Ordered.{names_in_order}
use Rattle.window_check_laws.proofs.Placed.{AreOf, HasKept, of-program}
use Rattle.window_check_laws.proofs.Told.{declared-use}
use Rattle.window_check_laws.specs.Order.{InOrder, IsBelowNext}
use Rattle.window_check_laws.specs.Told.{AreLawful}

-- what declares a variable or a parameter, and what uses a name
abbrev pub declares : Note → ℕ
declares (Declared s d) = 1
declares (Parameter s n) = 1
declares (Used s n u) = 0
declares (Sized s n) = 0
declares (Global s n) = 0
declares (Left s m) = 0
declares (Returned s m) = 0
declares (Pragma s m) = 0
declares (Task s m items captured) = 0
declares (Listed before n) = 0

abbrev pub uses : Note → ℕ
uses (Used s n u) = 1
uses (Declared s d) = 0
uses (Parameter s n) = 0
uses (Sized s n) = 0
uses (Global s n) = 0
uses (Left s m) = 0
uses (Returned s m) = 0
uses (Pragma s m) = 0
uses (Task s m items captured) = 0
uses (Listed before n) = 0

abbrev pub declared_in : List Note → ℕ
declared_in [] = 0
declared_in (n ∷ ns) = declares n + declared_in ns

abbrev pub used_in : List Note → ℕ
used_in [] = 0
used_in (n ∷ ns) = uses n + used_in ns

pub declared_in-append : (xs ys : List Note) → declared_in (xs ++ ys) ≡ declared_in xs + declared_in ys
declared_in-append [] ys = omega arith
declared_in-append (n ∷ xs) ys = omega (arith, declared_in-append xs ys)

pub used_in-append : (xs ys : List Note) → used_in (xs ++ ys) ≡ used_in xs + used_in ys
used_in-append [] ys = omega arith
used_in-append (n ∷ xs) ys = omega (arith, used_in-append xs ys)

-- a name that is declared has a meaning
one_meaning : (m : Mark) (u : Bool) (o : _) (captured : List ℕ) (d : Option Entity) (e : Entity) → d ≡ Some e → 1 ≤ length (declared_meaning m u o captured d)
one_meaning m u o captured d e is = subst (λ x. 1 ≤ length (declared_meaning m u o captured x)) (sym is) (omega arith)

each_has_one : (n : Note) → AreLawful (n ∷ []) → declares n + uses n ≤ length (resolutions_of n)
each_has_one (Used s n u) lawful = let d = declared-use s n u lawful in one_meaning n.mark (flag_of (lookup s.entries n.id)) s.owner s.captured (entity_of (lookup s.entries n.id)) d.0 d.1
each_has_one (Declared s d) lawful = omega arith
each_has_one (Parameter s n) lawful = omega arith
each_has_one (Sized s n) lawful = omega arith
each_has_one (Global s n) lawful = omega arith
each_has_one (Left s m) lawful = omega arith
each_has_one (Returned s m) lawful = omega arith
each_has_one (Pragma s m) lawful = omega arith
each_has_one (Task s m items captured) lawful = omega arith
each_has_one (Listed before n) lawful = omega arith

counted : (ns : List Note) → AreLawful ns → declared_in ns + used_in ns ≤ length (resolutions ns)
counted [] lawful = omega arith
counted (n ∷ ns) lawful = omega (arith, each_has_one n (lawful.0, tt), counted ns lawful.1, length-append (resolutions_of n) (resolutions ns))

abbrev Below : ℕ → List Resolved → Type 0
Below n [] = ⊤
Below n (r ∷ rs) = (r.place < n) × Below n rs

-- places that ascend below a number are no more than it
few_behind : (place n : ℕ) (rs : List Resolved) → IsBelowNext place rs → Below n rs → place < n → place + length rs < n
few_behind place n [] order below lt = omega (arith, lt)
few_behind place n (r ∷ rs) order below lt = omega (arith, few_behind r.place n rs order.1 below.1 below.0, order.0)

few : (n : ℕ) (rs : List Resolved) → InOrder rs → Below n rs → length rs ≤ n
few n [] order below = omega arith
few n (r ∷ rs) order below = omega (arith, few_behind r.place n rs order below.1 below.0)

-- each mark is below the number of symbols
pub kept_below : (ps : List Symbol) (from n : ℕ) → from + length ps ≤ n → ((i : ℕ) (m : Mark) → HasMark ps i m → m.place ≡ from + i)
    → HasKept (λ m. m.place < n) ps
kept_below [] from n h f = tt
kept_below (bare k ∷ ps) from n h f = kept_below ps (suc from) n (omega (arith, h)) (λ i m is. omega (arith, f (suc i) m is))
kept_below (marked k m ∷ ps) from n h f =
    (omega (arith, h, f 0 m (k, refl)), kept_below ps (suc from) n (omega (arith, h)) (λ i q is. omega (arith, f (suc i) q is)))

below_both : (n : ℕ) (rs ss : List Resolved) → Below n rs → Below n ss → Below n (rs ++ ss)
below_both n [] ss a b = b
below_both n (r ∷ rs) ss a b = (a.0, below_both n rs ss a.1 b)

declared_below : (n : ℕ) (m : Mark) (u : Bool) (o : _) (captured : List ℕ) (d : Option Entity) → m.place < n → Below n (declared_meaning m u o captured d)
declared_below n m u o captured None lt = tt
declared_below n m u o captured (Some e) lt = (lt, tt)

constant_below : (n : ℕ) (m : Mark) (u : Bool) (v : _) → m.place < n → Below n (constant_meaning m u v)
constant_below n m u None lt = tt
constant_below n m u (Some v) lt = (lt, tt)

each_below : (n : ℕ) (x : Note) → AreOf (λ m. m.place < n) (x ∷ []) → Below n (resolutions_of x)
each_below k (Used s n u) h = declared_below k n.mark (flag_of (lookup s.entries n.id)) s.owner s.captured (entity_of (lookup s.entries n.id)) h.0
each_below k (Sized s n) h = constant_below k n.mark (flag_of (lookup s.entries n.id)) (constant_of (entity_of (lookup s.entries n.id))) h.0
each_below k (Declared s d) h = (h.0, tt)
each_below k (Parameter s n) h = (h.0, tt)
each_below k (Global s n) h = tt
each_below k (Left s m) h = tt
each_below k (Returned s m) h = tt
each_below k (Pragma s m) h = tt
each_below k (Task s m items captured) h = tt
each_below k (Listed before n) h = tt

all_below : (n : ℕ) (ns : List Note) → AreOf (λ m. m.place < n) ns → Below n (resolutions ns)
all_below n [] h = tt
all_below n (x ∷ ns) h = below_both n (resolutions_of x) (resolutions ns) (each_below n x (h.0, tt)) (all_below n ns h.1)

-- A lawful program declares and uses no more names than it has tokens.
pub names_few : (p : tree.ProgramTree) → HasPlaces p → AreLawful (program_notes p)
    → declared_in (program_notes p) + used_in (program_notes p) ≤ length (spell p)
names_few p places lawful =
    let long : length (symbols p) ≡ length (spell p) = sym (length-map (symbols p) kind_of) in
    let kept = kept_below (symbols p) 0 (length (spell p)) (omega (arith, long)) (λ i m is. omega (arith, places i m is)) in
    let below = all_below (length (spell p)) (program_notes p) (of-program (λ m. m.place < length (spell p)) file p [] kept).0 in
    omega (arith, counted (program_notes p) lawful, few (length (spell p)) (names p) (names_in_order p places) below)
