-- The readers that have no mark, one by one.
use Rattle.std.proofs.Common.{◌≡◌, ◌≢◌, ℕ, suc, ◌+◌, ◌<◌, List, [], ◌∷◌, ◌++◌, Bool, true, false, cond, length, get_or, take, refl, sym, ap, ◌∙◌, arith}
use Rattle.std.specs.Prelude.{filter, not}
use Rattle.std.proofs.lemmas.List.{append-nil, get_or-take, length-take-le, take_more}
use Rattle.std.proofs.lemmas.List.Elements.{filter-append}
use Rattle.stream_match.specs.EpochCode.{Ascend}

-- those of some readers that have no mark
abbrev pub unmarked : List Bool → List ℕ → List ℕ
unmarked waits readers = filter (λ a. not (get_or waits a false)) readers

-- a mark of another one changes nothing
unmarked_same : (old new : List Bool) (r : ℕ) (xs : List ℕ) → ((a : ℕ) → a ≢ r → get_or new a false ≡ get_or old a false) → ((i : ℕ) → i < length xs → get_or xs i 0 ≢ r) → unmarked new xs ≡ unmarked old xs
unmarked_same old new r [] same other = refl
unmarked_same old new r (x ∷ xs) same other =
    ap (λ b. cond (not b) (x ∷ unmarked new xs) (unmarked new xs)) (same x (other 0 (omega arith)))
    ∙ ap (λ ys. cond (not (get_or old x false)) (x ∷ ys) ys) (unmarked_same old new r xs same (λ i lt. other (suc i) (omega arith)))

-- where none has a mark, all are there
pub unmarked_all : (waits : List Bool) (xs : List ℕ) → ((a : ℕ) → get_or waits a false ≡ false) → unmarked waits xs ≡ xs
unmarked_all waits [] none = refl
unmarked_all waits (x ∷ xs) none = ap (λ b. cond (not b) (x ∷ unmarked waits xs) (unmarked waits xs)) (none x) ∙ ap (λ ys. x ∷ ys) (unmarked_all waits xs none)

-- one more reader
pub unmarked_more : (readers : List ℕ) (old new : List Bool) (before after : List ℕ) (n : ℕ) → n < length readers → Ascend readers → ((a : ℕ) → a ≢ get_or readers n 0 → get_or new a false ≡ get_or old a false) → before ≡ unmarked old (take n readers)
    → after ≡ cond (get_or new (get_or readers n 0) false) before (before ++ get_or readers n 0 ∷ []) → after ≡ unmarked new (take (n + 1) readers)
unmarked_more readers old new before after n lt ascend same so_far step =
    step
    ∙ ap (λ xs. cond (get_or new r false) xs (xs ++ r ∷ [])) (so_far ∙ sym (unmarked_same old new r front same other))
    ∙ by_mark (get_or new r false) (unmarked new front)
    ∙ sym (ap (unmarked new) (take_more readers n 0 lt) ∙ filter-append (λ a. not (get_or new a false)) front (r ∷ []))
  where
    r : ℕ
    r = get_or readers n 0

    front : List ℕ
    front = take n readers

    other : (i : ℕ) → i < length (take n readers) → get_or (take n readers) i 0 ≢ get_or readers n 0
    other i within e =
        let len = length-take-le n readers (omega arith) in
        let below : i < n = omega (arith, len) in
        omega (arith, get_or-take n readers i 0 below, ascend i n below lt)

    by_mark : (b : Bool) (xs : List ℕ) → cond b xs (xs ++ get_or readers n 0 ∷ []) ≡ xs ++ cond (not b) (get_or readers n 0 ∷ []) []
    by_mark true xs = sym (append-nil xs)
    by_mark false xs = refl
