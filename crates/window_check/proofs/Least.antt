-- The least violation of those that were noted is the refusal.
use Rattle.std.proofs.Common.{◌≡◌, ℕ, suc, List, [], ◌∷◌, ◌++◌, if◌then◌else◌, All, Contains, Option, Some, None, refl, ap, sym, ◌∙◌, Bool, true, false, ltb, arith, ◌⊎◌, inl, inr, subst}
use Rattle.std.proofs.lemmas.Bool.{ltb-true}
use Rattle.std.proofs.lemmas.Bool.Decides.{nat_tests}
use Rattle.std.proofs.lemmas.List.Elements.{All-cons, All-nil}
use Rattle.os_ast.specs.Codes.{code}
use Rattle.os_ast.specs.Notes.Kinds.{Note, mark_of}
use Rattle.os_ast.specs.Rules.{broken}
use Rattle.os_ast.specs.Violations.{violated, violations_at, violations_of, IsNotAbove, earlier, same_place}
use Rattle.os_ast.specs.declared.expr.Mark.{Mark}
use Rattle.os_ast.specs.declared.violation.Violation.{Violation}
use Rattle.window_check_names.specs.BrokenRules.{least_rule, lesser_rule}
use Rattle.window_check_names.specs.Findings.{before, lesser, least_with, judged, noted}
use Rattle.window_check_names.specs.declared.found.Found.TheVariants.{Judging}
use Rattle.window_check_names.specs.declared.found.Judged.{Judged}
use Rattle.os_ast.specs.declared.rule.Rule.{Rule}

abbrev pub least_of : Option Violation → List Violation → Option Violation
least_of o [] = o
least_of o (v ∷ vs) = least_of (Some (lesser o v)) vs

-- one token that violates two rules
lesser-rules : (least : Option Violation) (p l : ℕ) (c d : Rule) →
    lesser (Some (lesser least (violated p c l))) (violated p d l) ≡ lesser least (violated p (if ltb (code d) (code c) then d else c) l)
lesser-rules None p l c d = grind (arith, nat_tests)
lesser-rules (Some u) p l c d = grind (arith, nat_tests)

judged_with_violation-again : (least : Option Violation) (m : Mark) (c : Rule) (d : Option Rule) →
    least_with (Some (lesser least (violated m.place c m.line))) m d ≡ least_with least m (lesser_rule (Some c) d)
judged_with_violation-again least m c None = refl
judged_with_violation-again least m c (Some d) = ap Some (lesser-rules least m.place m.line c d)

-- one token that violates several
least_at : (least : Option Violation) (m : Mark) (cs : List Rule) → least_of least (violations_at m cs) ≡ least_with least m (least_rule cs)
least_at least m [] = refl
least_at least m (c ∷ cs) = least_at (Some (lesser least (violated m.place c m.line))) m cs ∙ judged_with_violation-again least m c (least_rule cs)

least_of-append : (least : Option Violation) (vs ws : List Violation) → least_of least (vs ++ ws) ≡ least_of (least_of least vs) ws
least_of-append least [] ws = refl
least_of-append least (v ∷ vs) ws = least_of-append (Some (lesser least v)) vs ws

-- what is found of notes by a walk that judges
abbrev pub judged_all : Judged → List Note → Judged
judged_all j [] = j
judged_all j (n ∷ ns) = judged_all (judged j n) ns

pub noted-judging : (j : Judged) (ns : List Note) → noted (Judging j) ns ≡ Judging (judged_all j ns)
noted-judging j [] = refl
noted-judging j (n ∷ ns) = noted-judging (judged j n) ns

-- the least violation is that of all violations of the notes
pub noted-least : (j : Judged) (ns : List Note) → (judged_all j ns).least ≡ least_of j.least (violations_of ns)
noted-least j [] = refl
noted-least j (n ∷ ns) =
    noted-least (judged j n) ns
    ∙ ap (λ o. least_of o (violations_of ns)) (sym (least_at j.least (mark_of n) (broken n)))
    ∙ sym (least_of-append j.least (violations_at (mark_of n) (broken n)) (violations_of ns))

-- the least of one violation and others
abbrev pub least_among : Violation → List Violation → Violation
least_among u [] = u
least_among u (v ∷ vs) = least_among (lesser (Some u) v) vs

pub least_of-some : (u : Violation) (vs : List Violation) → least_of (Some u) vs ≡ Some (least_among u vs)
least_of-some u [] = refl
least_of-some u (v ∷ vs) = least_of-some (lesser (Some u) v) vs

before-self : (v : Violation) → IsNotAbove v v
before-self v = same_place refl (omega arith)

before-then : (u v w : Violation) → IsNotAbove u v → IsNotAbove v w → IsNotAbove u w
before-then u v w (earlier a) (earlier b) = earlier (omega (arith, a, b))
before-then u v w (earlier a) (same_place b c) = earlier (omega (arith, a, b))
before-then u v w (same_place a c) (earlier b) = earlier (omega (arith, a, b))
before-then u v w (same_place a c) (same_place b d) = same_place (a ∙ b) (omega (arith, c, d))

is_before : (v u : Violation) (b : Bool) → ltb v.place u.place ≡ b → before v u ≡ true → IsNotAbove v u
is_before v u true p h = earlier (ltb-true v.place u.place p)
is_before v u false p h = same_place (grind (arith, nat_tests)) (grind (arith, nat_tests))

isn't_before : (v u : Violation) (b : Bool) → ltb u.place v.place ≡ b → before v u ≡ false → IsNotAbove u v
isn't_before v u true p h = earlier (ltb-true u.place v.place p)
isn't_before v u false p h = same_place (grind (arith, nat_tests)) (grind (arith, nat_tests))

lesser-first : (u v : Violation) (b : Bool) → before v u ≡ b → IsNotAbove (lesser (Some u) v) u
lesser-first u v true p = rw p (is_before v u (ltb v.place u.place) refl p)
lesser-first u v false p = rw p (before-self u)

lesser-second : (u v : Violation) (b : Bool) → before v u ≡ b → IsNotAbove (lesser (Some u) v) v
lesser-second u v true p = rw p (before-self v)
lesser-second u v false p = rw p (isn't_before v u (ltb u.place v.place) refl p)

pub least-first : (u : Violation) (vs : List Violation) → IsNotAbove (least_among u vs) u
least-first u [] = before-self u
least-first u (v ∷ vs) =
    before-then (least_among (lesser (Some u) v) vs) (lesser (Some u) v) u (least-first (lesser (Some u) v) vs) (lesser-first u v (before v u) refl)

pub least-others : (u : Violation) (vs : List Violation) → All (IsNotAbove (least_among u vs)) vs
least-others u [] = All-nil (IsNotAbove u)
least-others u (v ∷ vs) =
    let w = lesser (Some u) v in
    All-cons (IsNotAbove (least_among w vs)) v vs
    (before-then (least_among w vs) w v (least-first w vs) (lesser-second u v (before v u) refl))
    (least-others w vs)

-- it is one of them
lesser-either : (u v : Violation) (b : Bool) → before v u ≡ b → (lesser (Some u) v ≡ u) ⊎ (lesser (Some u) v ≡ v)
lesser-either u v true p = rw p (inr refl)
lesser-either u v false p = rw p (inl refl)

contains-head : (v : Violation) (vs : List Violation) → Contains (v ∷ vs) v
contains-head v vs = (0, omega arith, refl)

pub contains-tail : (v w : Violation) (vs : List Violation) → Contains vs w → Contains (v ∷ vs) w
contains-tail v w vs (k, h, e) = (suc k, omega (arith, h), e)

among-more : (u v w : Violation) (vs : List Violation) → (lesser (Some u) v ≡ u) ⊎ (lesser (Some u) v ≡ v) → (w ≡ lesser (Some u) v) ⊎ Contains vs w → (w ≡ u) ⊎ Contains (v ∷ vs) w
among-more u v w vs (inl a) (inl e) = inl (e ∙ a)
among-more u v w vs (inr b) (inl e) = inr (subst (λ x. Contains (v ∷ vs) x) (sym (e ∙ b)) (contains-head v vs))
among-more u v w vs _ (inr c) = inr (contains-tail v w vs c)

pub least-among : (u : Violation) (vs : List Violation) → (least_among u vs ≡ u) ⊎ Contains vs (least_among u vs)
least-among u [] = inl refl
least-among u (v ∷ vs) = among-more u v (least_among (lesser (Some u) v) vs) vs (lesser-either u v (before v u) refl) (least-among (lesser (Some u) v) vs)
