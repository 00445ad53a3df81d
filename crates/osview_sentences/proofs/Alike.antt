-- Sentences are alike exactly where they have the same likeness.
use Rattle.std.proofs.Common.{◌≡◌, ◌∙◌, ℕ, true, ◌&&◌, nat_cmp, refl, ap, arith}
use Rattle.std.proofs.lemmas.Bool.Decides.{nat_tests}
use Rattle.std.specs.Prelude.{◌==◌}
use Rattle.std.specs.Ordering.{is_eq, ordering_then}
use Rattle.std.specs.declared.cmp.Ordering.{Ordering}
use Rattle.osview_sentences.specs.Sentences.{is_alike, is_same, is_supplied_so}
use Rattle.osview_sentences.specs.Tally.{likeness, way_of, what_of}
use Rattle.osview_sentences.specs.contracts.likeness.LikenessOrd.TheImpl as likeness_order
use Rattle.osview_sentences.specs.contracts.likeness.WayOrd.TheImpl as way_order
use Rattle.osview_sentences.specs.contracts.likeness.WhatOrd.TheImpl as what_order
use Rattle.osview_sentences.specs.declared.fact.Fact.{Fact}
use Rattle.osview_sentences.specs.declared.fact.Fact.TheVariants as fact
use Rattle.osview_sentences.specs.declared.fact.Sentence.{Sentence}
use Rattle.osview_sentences.specs.declared.fact.Supply.{Supply}
use Rattle.osview_sentences.specs.declared.fact.Supply.TheVariants as supply

number_then : (a b : ℕ) (o : Ordering) → is_eq (ordering_then (nat_cmp a b) o) ≡ ((a == b) && is_eq o)
number_then a b o = grind (arith, nat_tests)

one_number : (a b : ℕ) → is_eq (nat_cmp a b) ≡ (a == b)
one_number a b = grind (arith, nat_tests)

ways : (by other : Supply) → is_eq ((way_order.ghosts).cmp (way_of other) (way_of by)) ≡ is_supplied_so by other
ways supply.Ended supply.Ended = refl
ways supply.Ended supply.Nobody = refl
ways supply.Ended supply.Itself = refl
ways supply.Ended (supply.Waiting b) = refl
ways supply.Nobody supply.Ended = refl
ways supply.Nobody supply.Nobody = refl
ways supply.Nobody supply.Itself = refl
ways supply.Nobody (supply.Waiting b) = refl
ways supply.Itself supply.Ended = refl
ways supply.Itself supply.Nobody = refl
ways supply.Itself supply.Itself = refl
ways supply.Itself (supply.Waiting b) = refl
ways (supply.Waiting a) supply.Ended = refl
ways (supply.Waiting a) supply.Nobody = refl
ways (supply.Waiting a) supply.Itself = refl
ways (supply.Waiting a) (supply.Waiting b) = refl

facts : (f other : Fact) → is_eq ((what_order.ghosts).cmp (what_of other) (what_of f)) ≡ is_same f other
facts (fact.Trapped c l) (fact.Trapped d m) = number_then d c (nat_cmp m l) ∙ ap (λ b. (d == c) && b) (one_number m l)
facts (fact.Trapped c l) fact.OverBudget = refl
facts (fact.Trapped c l) (fact.Poisoned r) = refl
facts (fact.Trapped c l) (fact.Waits s p by) = refl
facts fact.OverBudget (fact.Trapped d m) = refl
facts fact.OverBudget fact.OverBudget = refl
facts fact.OverBudget (fact.Poisoned r) = refl
facts fact.OverBudget (fact.Waits s p by) = refl
facts (fact.Poisoned q) (fact.Trapped d m) = refl
facts (fact.Poisoned q) fact.OverBudget = refl
facts (fact.Poisoned q) (fact.Poisoned r) = one_number r q
facts (fact.Poisoned q) (fact.Waits s p by) = refl
facts (fact.Waits t o on) (fact.Trapped d m) = refl
facts (fact.Waits t o on) fact.OverBudget = refl
facts (fact.Waits t o on) (fact.Poisoned r) = refl
facts (fact.Waits t o on) (fact.Waits s p by) =
    number_then s t ((way_order.ghosts).cmp (way_of by) (way_of on)) ∙ ap (λ b. (s == t) && b) (ways on by)

-- the order finds those that are alike
pub alike_by_order : (s other : Sentence) → is_eq ((likeness_order.ghosts).cmp (likeness other) (likeness s)) ≡ is_alike s other
alike_by_order s other =
    number_then other.task_line s.task_line ((what_order.ghosts).cmp (what_of other.fact) (what_of s.fact))
    ∙ ap (λ b. (other.task_line == s.task_line) && b) (facts s.fact other.fact)

same_ways : (by other : Supply) → is_supplied_so by other ≡ true → way_of by ≡ way_of other
same_ways supply.Ended supply.Ended e = refl
same_ways supply.Ended supply.Nobody e = cc
same_ways supply.Ended supply.Itself e = cc
same_ways supply.Ended (supply.Waiting b) e = cc
same_ways supply.Nobody supply.Ended e = cc
same_ways supply.Nobody supply.Nobody e = refl
same_ways supply.Nobody supply.Itself e = cc
same_ways supply.Nobody (supply.Waiting b) e = cc
same_ways supply.Itself supply.Ended e = cc
same_ways supply.Itself supply.Nobody e = cc
same_ways supply.Itself supply.Itself e = refl
same_ways supply.Itself (supply.Waiting b) e = cc
same_ways (supply.Waiting a) supply.Ended e = cc
same_ways (supply.Waiting a) supply.Nobody e = cc
same_ways (supply.Waiting a) supply.Itself e = cc
same_ways (supply.Waiting a) (supply.Waiting b) e = refl

same_facts : (f other : Fact) → is_same f other ≡ true → what_of f ≡ what_of other
same_facts (fact.Trapped c l) (fact.Trapped d m) e = grind (arith, nat_tests)
same_facts (fact.Trapped c l) fact.OverBudget e = cc
same_facts (fact.Trapped c l) (fact.Poisoned r) e = cc
same_facts (fact.Trapped c l) (fact.Waits s p by) e = cc
same_facts fact.OverBudget (fact.Trapped d m) e = cc
same_facts fact.OverBudget fact.OverBudget e = refl
same_facts fact.OverBudget (fact.Poisoned r) e = cc
same_facts fact.OverBudget (fact.Waits s p by) e = cc
same_facts (fact.Poisoned q) (fact.Trapped d m) e = cc
same_facts (fact.Poisoned q) fact.OverBudget e = cc
same_facts (fact.Poisoned q) (fact.Poisoned r) e = grind (arith, nat_tests)
same_facts (fact.Poisoned q) (fact.Waits s p by) e = cc
same_facts (fact.Waits t o on) (fact.Trapped d m) e = cc
same_facts (fact.Waits t o on) fact.OverBudget e = cc
same_facts (fact.Waits t o on) (fact.Poisoned r) e = cc
same_facts (fact.Waits t o on) (fact.Waits s p by) e = grind (arith, nat_tests, same_ways on by)

-- those that are alike have one likeness
pub same_likeness : (s other : Sentence) → is_alike s other ≡ true → likeness s ≡ likeness other
same_likeness s other e = grind (arith, nat_tests, same_facts s.fact other.fact)
