-- What the walk over a whole program answers.
use Rattle.std.proofs.Common.{◌≡◌, ◌<◌, ◌+◌, ℕ, List, [], ◌∷◌, ◌++◌, length, All, Contains, Some, None, refl, ap, sym, ◌∙◌, Bool, true, false, subst, arith, ◌⊎◌, inl, inr, append-nil, append_assoc}
use Rattle.std.proofs.lemmas.List.{length-map}
use Rattle.std.proofs.lemmas.List.Elements.{All-cons, All-nil, All-append, Contains-append_left}
use Rattle.std.specs.Prelude.{unwrap_or}
use Rattle.window_check_laws.proofs.NameCounts.{kept_below}
use Rattle.os_ast.specs.Marks.{HasPlaces}
use Rattle.os_ast.specs.Notes.Kinds.{Note, mark_of}
use Rattle.os_ast.specs.Notes.Programs.{program_notes, file}
use Rattle.os_ast.specs.Rules.{broken}
use Rattle.os_ast.specs.Spelling.{kind_of, symbols, spell}
use Rattle.os_ast.specs.Trees as tree
use Rattle.os_ast.specs.Violations.{violated, violations_at, violations_of, resolutions_of, resolutions, captures_of, captures, captured_by_tasks, has_main, no_main, violations, names, IsNotAbove, earlier, same_place, IsRefusal}
use Rattle.os_ast.specs.declared.expr.Mark.{Mark}
use Rattle.os_ast.specs.declared.violation.Violation.{Violation}
use Rattle.window_check_names.specs.Findings.{nothing_found, noted, judged, judged_in, pushed}
use Rattle.window_check_names.specs.declared.found.Found.TheVariants.{Judging}
use Rattle.window_check_names.specs.declared.found.Judged.{Judged}
use Rattle.window_check.proofs.Least.{least_of, least_among, least_of-some, judged_all, noted-judging, noted-least, least-first, least-others, least-among, contains-tail}
use Rattle.window_check_laws.proofs.Placed.{AreOf, of-program}
use Rattle.os_ast.specs.declared.rule.Rule.{Rule}
use Rattle.os_ast.specs.declared.rule.Rule.TheVariants as rule

violations_at-below : (n : ℕ) (m : Mark) (rs : List Rule) → m.place < n → All (λ v. v.place < n) (violations_at m rs)
violations_at-below n m [] h = All-nil (λ v. v.place < n)
violations_at-below n m (r ∷ rs) h = All-cons (λ v. v.place < n) (violated m.place r m.line) (violations_at m rs) h (violations_at-below n m rs h)

violations_of-below : (n : ℕ) (ns : List Note) → AreOf (λ m. m.place < n) ns → All (λ v. v.place < n) (violations_of ns)
violations_of-below n [] h = All-nil (λ v. v.place < n)
violations_of-below n (x ∷ ns) h =
    All-append (λ v. v.place < n) (violations_at (mark_of x) (broken x)) (violations_of ns) (violations_at-below n (mark_of x) (broken x) h.0) (violations_of-below n ns h.1)

all-below : (p : tree.ProgramTree) → HasPlaces p → All (λ v. v.place < length (spell p)) (violations_of (program_notes p))
all-below p h =
    violations_of-below (length (spell p)) (program_notes p)
    (of-program (λ m. m.place < length (spell p)) file p []
    (kept_below (symbols p) 0 (length (spell p)) (omega (arith, length-map (symbols p) kind_of)) (λ i m is. omega (arith, h i m is)))).0

-- the least of no violation and of some
least-none : (vs : List Violation) → least_of None vs ≡ None → vs ≡ []
least-none [] h = refl
least-none (v ∷ vs) h = let e : Some (least_among v vs) ≡ None = sym (least_of-some v vs) ∙ h in absurd (cc)

first-among : (u : Violation) (us : List Violation) → (least_among u us ≡ u) ⊎ Contains us (least_among u us) → Contains (u ∷ us) (least_among u us)
first-among u us (inl e) = (0, omega arith, sym e)
first-among u us (inr c) = contains-tail u (least_among u us) us c

record IsLeast (vs : List Violation) (v : Violation) : Type 0 where
  among : Contains vs v
  least : All (IsNotAbove v) vs

least-some : (vs : List Violation) (v : Violation) → least_of None vs ≡ Some v → IsLeast vs v
least-some [] v h = absurd (cc)
least-some (u ∷ us) v h =
    let is : least_among u us ≡ v = ap (λ o. unwrap_or o v) (sym (least_of-some u us) ∙ h) in
    subst (IsLeast (u ∷ us)) is (record {
      among = first-among u us (least-among u us);
      least = All-cons (IsNotAbove (least_among u us)) u us (least-first u us) (least-others u us);
    })

-- the least comes before the violation that stands behind all tokens
before-end : (p : tree.ProgramTree) (v : Violation) (b : Bool) → has_main p ≡ b → v.place < length (spell p) → All (IsNotAbove v) (no_main p)
before-end p v true e h = rw e (All-nil (IsNotAbove v))
before-end p v false e h = rw e (All-cons (IsNotAbove v) (violated (length (spell p)) rule.NoMain 1) [] (earlier h) (All-nil (IsNotAbove v)))

among-below : (n : ℕ) (vs : List Violation) (v : Violation) → All (λ v. v.place < n) vs → Contains vs v → v.place < n
among-below n vs v a (k, h, e) = subst (λ (v : Violation). v.place < n) e (a k v h)

-- what the walk over a program gives
abbrev pub all_judged : tree.ProgramTree → Judged
all_judged p = judged_in (noted (Judging nothing_found) (program_notes p))

all-judged : (p : tree.ProgramTree) → all_judged p ≡ judged_all nothing_found (program_notes p)
all-judged p = ap judged_in (noted-judging nothing_found (program_notes p))

all-least : (p : tree.ProgramTree) → least_of None (violations_of (program_notes p)) ≡ (all_judged p).least
all-least p = sym (ap (λ (j : Judged). j.least) (all-judged p) ∙ noted-least nothing_found (program_notes p))

-- what the walk found is the refusal
pub refused : (p : tree.ProgramTree) (v : Violation) → HasPlaces p → (all_judged p).least ≡ Some v → IsRefusal p v
refused p v h is =
    let found = least-some (violations_of (program_notes p)) v (all-least p ∙ is) in
    let below = among-below (length (spell p)) (violations_of (program_notes p)) v (all-below p h) found.among in
    record {
      among = Contains-append_left (violations_of (program_notes p)) (no_main p) v found.among;
      least = All-append (IsNotAbove v) (violations_of (program_notes p)) (no_main p) found.least (before-end p v (has_main p) refl below);
    }

no_violations : (p : tree.ProgramTree) → (all_judged p).least ≡ None → violations_of (program_notes p) ≡ []
no_violations p is = least-none (violations_of (program_notes p)) (all-least p ∙ is)

-- nothing was found, and there is no `main`
pub refused-end : (p : tree.ProgramTree) → (all_judged p).least ≡ None → has_main p ≡ false → IsRefusal p (violated (length (spell p)) rule.NoMain 1)
refused-end p is e =
    let v = violated (length (spell p)) rule.NoMain 1 in
    let all : violations p ≡ v ∷ [] = rw (no_violations p is, e) refl in
    record {
      among = rw all (0, omega arith, refl);
      least = rw all (All-cons (IsNotAbove v) v [] (same_place refl (omega arith)) (All-nil (IsNotAbove v)));
    }

-- nothing was found, and there is a `main`
pub lawful : (p : tree.ProgramTree) → (all_judged p).least ≡ None → has_main p ≡ true → violations p ≡ []
lawful p is e = rw (no_violations p is, e) refl

pub pushed-all : {A : Type 0} (xs ys : List A) → pushed xs ys ≡ xs ++ ys
pushed-all xs [] = sym (append-nil xs)
pushed-all xs (y ∷ ys) = pushed-all (xs ++ y ∷ []) ys ∙ append_assoc xs (y ∷ []) ys

judged-names : (j : Judged) (ns : List Note) → (judged_all j ns).names ≡ j.names ++ resolutions ns
judged-names j [] = sym (append-nil j.names)
judged-names j (n ∷ ns) =
    judged-names (judged j n) ns
    ∙ ap (λ xs. xs ++ resolutions ns) (pushed-all j.names (resolutions_of n))
    ∙ append_assoc j.names (resolutions_of n) (resolutions ns)

judged-captured : (j : Judged) (ns : List Note) → (judged_all j ns).captured ≡ j.captured ++ captures ns
judged-captured j [] = sym (append-nil j.captured)
judged-captured j (n ∷ ns) =
    judged-captured (judged j n) ns
    ∙ ap (λ xs. xs ++ captures ns) (pushed-all j.captured (captures_of n))
    ∙ append_assoc j.captured (captures_of n) (captures ns)

pub found-names : (p : tree.ProgramTree) → (all_judged p).names ≡ names p
found-names p = ap (λ (j : Judged). j.names) (all-judged p) ∙ judged-names nothing_found (program_notes p)

pub found-captured : (p : tree.ProgramTree) → (all_judged p).captured ≡ captured_by_tasks p
found-captured p = ap (λ (j : Judged). j.captured) (all-judged p) ∙ judged-captured nothing_found (program_notes p)
