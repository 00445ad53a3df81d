-- The numbers of tasks that stand one after another.
use Rattle.std.proofs.Common.{◌≡◌, ◌∙◌, ℕ, suc, ◌+◌, List, [], ◌∷◌, ◌++◌, length, Some, slice_get, ap, subst, sym, arith}
use Rattle.std.proofs.lemmas.Option.{slice_get_within}
use Rattle.lowering_draft.proofs.Lists.{slice_get-front}
use Rattle.lowering_draft.specs.Going.{AreNumbered}
use Rattle.lowering_draft.specs.declared.draft.Draft.{Draft}
use Rattle.lowering_relation.specs.Tasks.{TaskTree}

-- those behind the first ones
slice_get-behind : {A : Type 0} (xs ys : List A) (i : ℕ) → slice_get (xs ++ ys) (length xs + i) ≡ slice_get ys i
slice_get-behind [] ys i = let same : 0 + i ≡ i = omega arith in ap (slice_get ys) same
slice_get-behind (x ∷ xs) ys i =
    let same : suc (length xs) + i ≡ suc (length xs + i) = omega arith in
    ap (slice_get (x ∷ xs ++ ys)) same ∙ slice_get-behind xs ys i

-- behind code that spawns nothing the numbers are the same
pub still_numbered : (all tasks : List TaskTree) (d e : Draft) → e.spawned ≡ d.spawned → AreNumbered all d.spawned tasks → AreNumbered all e.spawned tasks
still_numbered all tasks d e same are = subst (λ n. AreNumbered all n tasks) (sym same) are

module _ (all : List TaskTree) (first : ℕ) where
  pub first_numbered : (ts us : List TaskTree) → AreNumbered all first (ts ++ us) → AreNumbered all first ts
  first_numbered ts us are k t is = are k t (slice_get-front ts us k (slice_get_within ts k t is) ∙ is)

  pub second_numbered : (ts us : List TaskTree) → AreNumbered all first (ts ++ us) → AreNumbered all (first + length ts) us
  second_numbered ts us are k t is = are (length ts + k) t (slice_get-behind ts us k ∙ is) ∙ ap Some (omega arith)
