-- Lines that are asked one after another, each once.
use Rattle.std.proofs.Common.{◌≡◌, ◌≢◌, ℕ, zero, suc, ◌+◌, ◌<◌, ◌≤◌, List, [], ◌∷◌, length, map, set, get_or, sym, refl, ap, ◌∙◌, subst, arith, get_or-set_same, get_or-set_other, ◌⊎◌, inl, inr}
use Rattle.std.proofs.lemmas.Bool.{cases_eq}
use Rattle.steal_pool.specs.declared.line.Look.{Look}
use Rattle.steal_pool.specs.declared.lines.StealLine.{StealLine}
use Rattle.steal_pool.specs.Ends.{stolen_deque}
use Rattle.steal_pool.specs.Handles.{StealTells}
use Rattle.steal_pool.specs.Lines.{IsAskedOnce, AreAskedOnce}

-- n lines were asked once, and none behind them
pub record AskedUpTo {S : Type 0} (tells : S → S → Look → Type 0) (n : ℕ) (old new : List S) : Type 0 where
  pub once : AreAskedOnce tells old new
  pub behind : (j : ℕ) (d : S) → n ≤ j → get_or new j d ≡ get_or old j d

pub none_asked : {S : Type 0} (tells : S → S → Look → Type 0) (old : List S) → AskedUpTo tells 0 old old
none_asked tells old = record { once = λ j d lt. inl refl; behind = λ j d le. refl }

-- what stands at a place is there whatever else is named
there : {S : Type 0} (xs : List S) (j : ℕ) (d e : S) → j < length xs → get_or xs j d ≡ get_or xs j e
there [] j d e lt = absurd (omega (arith, lt))
there (x ∷ xs) zero d e lt = refl
there (x ∷ xs) (suc j) d e lt = there xs j d e (omega (arith, lt))

pub asked_more : {S : Type 0} (tells : S → S → Look → Type 0) (n : ℕ) (old new : List S) (d s : S) (look : Look) → AskedUpTo tells n old new → length new ≡ length old → n < length old → tells (get_or new n d) s look → AskedUpTo tells (n + 1) old (set new n s)
asked_more {S} tells n old new d s look so long lt tell = record {
  once = λ j e l. by j e l (cases_eq j n);
  behind = λ j e le. get_or-set_other new n j s e (λ is. omega (arith, is, le)) ∙ so.behind j e (omega (arith, le));
}
  where
    by : (j : ℕ) (e : S) → j < length old → (j ≡ n) ⊎ (j ≢ n) → IsAskedOnce tells (get_or old j e) (get_or (set new n s) j e)
    by j e l (inl is) =
        let mine : tells (get_or old n e) s look = subst (λ a. tells a s look) (there new n d e (omega (arith, lt, long)) ∙ so.behind n e (omega arith)) tell in
        let new_one : get_or (set new n s) n e ≡ s = get_or-set_same new n s e (omega (arith, lt, long)) in
        subst (λ k. IsAskedOnce tells (get_or old k e) (get_or (set new n s) k e)) (sym is) (inr (look, subst (λ a. tells (get_or old n e) a look) (sym new_one) mine))
    by j e l (inr ne) = subst (IsAskedOnce tells (get_or old j e)) (sym (get_or-set_other new n j s e ne)) (so.once j e l)

-- thieves that are asked stay thieves of the same deques
pub same_deques : (old new : List StealLine) → length new ≡ length old → AreAskedOnce StealTells old new → map stolen_deque new ≡ map stolen_deque old
same_deques [] [] long asked = refl
same_deques [] (y ∷ ys) long asked = absurd (omega (arith, long))
same_deques (x ∷ xs) [] long asked = absurd (omega (arith, long))
same_deques (x ∷ xs) (y ∷ ys) long asked = let rest = same_deques xs ys (omega (arith, long)) (λ j d lt. asked (suc j) d (omega (arith, lt))) in (λ i. same (asked 0 x (omega arith)) i ∷ rest i)
  where
    same : IsAskedOnce StealTells x y → stolen_deque y ≡ stolen_deque x
    same (inl is) = ap stolen_deque is
    same (inr (look, tells)) = tells.deque
