use Rattle.std.proofs.Common.{◌≤◌, ◌^◌, ℕ, List, length, sym, ◌∙◌, subst}
use Rattle.std.specs.List.Sorted.{IsStrictlySortedBy}
use Rattle.std.specs.Ordering.{nat_cmp}
use Rattle.std.proofs.lemmas.Map.Views.{length-le_from_below}
use Rattle.std.proofs.lemmas.Result.{IfOk-weaker}
use Rattle.window_check_names.proofs.captures.Captured.in_order.Goals as goal

pub returns-clause-same : goal.returns-clause-same
returns-clause-same c =
    IfOk-weaker c.from_slice.result _ _ (λ (all : List ℕ) is. is ∙ (c.as_slice.ensures.value ∙ c.in_ok-slots.ensures.same)) c.from_slice.ensures

pub returns-clause-ascending : goal.returns-clause-ascending
returns-clause-ascending c =
    IfOk-weaker c.from_slice.result _ _
    (λ (all : List ℕ) is. subst (λ (xs : List ℕ). IsStrictlySortedBy nat_cmp xs) (sym (is ∙ c.as_slice.ensures.value)) c.in_ok-slots.ensures.ascending)
    c.from_slice.ensures

pub returns-clause-few : goal.returns-clause-few
returns-clause-few c =
    IfOk-weaker c.from_slice.result _ _
    (λ (all : List ℕ) is.
    subst (λ (xs : List ℕ). length xs ≤ 2 ^ 32) (sym (is ∙ c.as_slice.ensures.value))
    (length-le_from_below (2 ^ 32) c.in_ok-slots.slots.items c.in_ok-slots.ensures.ascending c.in_ok-slots.ensures.small))
    c.from_slice.ensures
