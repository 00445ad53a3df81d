-- The code of a condition, which may jump where its value is 0.
use Rattle.std.proofs.Common.{ℕ, ◌<◌, arith}
use Rattle.os_ast.specs.Names.{Scope}
use Rattle.os_ast.specs.Notes.Expressions.{expr_notes, links_notes}
use Rattle.os_ast.specs.Trees as tree
use Rattle.lowering_relation.specs.Expressions.{HasCondition, tested, always, in_parens, each, HaveConditions, no_more, one_more}
use Rattle.lowering_relation.proofs.Homes.{Home, tells, AllFit}
use Rattle.lowering_relation.proofs.LaidExprs.{expr_lays}
use Rattle.lowering_relation.proofs.Lays.{Lays, IsLabel, fit_first, fit_rest, label_before, label_target, nothing, then_lays, from_more, free, jumping_zero}

module _ (h : Home) where
  -- a stretch that jumps to one label
  abbrev pub Tests : (fails from to : ℕ) → Type 0
  Tests fails from to = Lays h (from < to → IsLabel h to fails) from 0 to 0

  pub tests_both : (fails from mid to : ℕ) → Tests fails from mid → Tests fails mid to → Tests fails from to
  tests_both fails from mid to first second =
      then_lays h
      (from_more h (λ g lt. label_before h second.onward (g (omega (arith, lt, second.onward)))) first)
      (from_more h (λ g lt. g (omega (arith, lt, first.onward))) second)

  mutual
    pub condition_lays : {e : tree.ExprTree} {fails from to : ℕ} (s : Scope) → AllFit h (expr_notes s e) → HasCondition h.code (tells h) e fails from to →
        Tests fails from to
    condition_lays {e = e} {fails = fails} {from = from} s fit (tested end has is) =
        let v = expr_lays h e s from end 0 fit has in
        then_lays h (free h v.1) (jumping_zero h end fails 0 is (λ g low high f. label_target h end (omega arith) (g (omega (arith, v.0)))))
    condition_lays {from = from} s fit always = nothing h from 0
    condition_lays s fit (in_parens has) = condition_lays s fit has
    condition_lays {fails = fails} {from = from} {to = to} s fit (each {first = first} {links = links} {mid = mid} has rest) =
        tests_both fails from mid to
        (condition_lays s (fit_first h (expr_notes s first) (links_notes s links) fit) has)
        (conditions_lay s (fit_rest h (expr_notes s first) (links_notes s links) fit) rest)

    pub conditions_lay : {links : tree.Links} {fails from to : ℕ} (s : Scope) → AllFit h (links_notes s links) →
        HaveConditions h.code (tells h) links fails from to → Tests fails from to
    conditions_lay {from = from} s fit no_more = nothing h from 0
    conditions_lay {fails = fails} {from = from} {to = to} s fit (one_more {e = e} {rest = rest} {mid = mid} has more) =
        tests_both fails from mid to
        (condition_lays s (fit_first h (expr_notes s e) (links_notes s rest) fit) has)
        (conditions_lay s (fit_rest h (expr_notes s e) (links_notes s rest) fit) more)
