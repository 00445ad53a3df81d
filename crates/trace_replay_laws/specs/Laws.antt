-- The laws of orders and answers, as statements.
use Rattle.std.specs.Prelude.{◌≡◌, ℕ, ℤ, List, Option, length}
use Rattle.flow_core_laws.specs.declared.plan.Plan.{Plan}
use Rattle.flow_core_laws.specs.declared.outcome.Outcome.{Outcome}
use Rattle.flow_core_laws.specs.Laws.{Reached}
use Rattle.trace_replay_laws.specs.declared.replayed.Replayed.{Replayed}
use Rattle.trace_replay_laws.specs.Orders.{state_after, IsLawful}
use Rattle.trace_replay_laws.specs.Lists.{HaveNoRepeat, Taken, frames_of, taken_from, IsOrderOf, HaveRun}
use Rattle.trace_replay_laws.specs.Answers.{IsAnswer}

-- Of every kind of elements and outcomes.
module _ {S V O : Type 0} (element : List (Option O) → S → Option V) where
  -- a fact of lists, for all that activations read and bodies make of it
  abbrev pub OfLists : ((ℕ → List S) → (ℕ → List V → O) → ℕ → List (List ℕ) → Type 0) → Type 0
  OfLists fact = (reads : ℕ → List S) (body : ℕ → List V → O) (count : ℕ) (lists : List (List ℕ)) → fact reads body count lists

  -- the state behind a lawful order is reached by giving enabled activations their outcomes one at a time
  abbrev pub LawfulIsReached : (ℕ → List S) → (ℕ → List V → O) → ℕ → List (List ℕ) → Type 0
  LawfulIsReached reads body count lists =
      (order : List ℕ) → IsLawful element reads body count order → Reached element reads body count (state_after element reads body count order)

  -- two ways to run heads as long as one is enabled end in one state, and take as many numbers from each list
  abbrev pub ChoicesAgree : (ℕ → List S) → (ℕ → List V → O) → ℕ → List (List ℕ) → Type 0
  ChoicesAgree reads body count lists =
      HaveNoRepeat lists → (order other : List Taken) → HaveRun element reads body count lists order → HaveRun element reads body count lists other
      → (state_after element reads body count (frames_of order) ≡ state_after element reads body count (frames_of other))
      × ((k : ℕ) → length (taken_from k order) ≡ length (taken_from k other))

  -- where the lists have a lawful order, each way to run heads as long as one is enabled is an order of all their numbers
  abbrev pub FindsOrders : (ℕ → List S) → (ℕ → List V → O) → ℕ → List (List ℕ) → Type 0
  FindsOrders reads body count lists =
      HaveNoRepeat lists → (order other : List Taken) → IsOrderOf lists order → IsLawful element reads body count (frames_of order)
      → HaveRun element reads body count lists other → IsOrderOf lists other

-- only one answer about lists is right
abbrev pub HasOneAnswer : Type 0
HasOneAnswer =
    (plan : Plan) (outcome : ℕ → List ℤ → Outcome) (lists : List (List ℕ)) (answer other : Replayed) → IsAnswer plan outcome lists answer
    → IsAnswer plan outcome lists other → answer ≡ other
