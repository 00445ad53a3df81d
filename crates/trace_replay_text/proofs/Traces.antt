-- Traces with one more line, and that a text is one trace at most.
use Rattle.std.proofs.Common.{◌≡◌, ◌≢◌, ℕ, zero, suc, ◌+◌, ◌^◌, ◌<◌, ◌≤◌, ◌⊎◌, inl, inr, List, [], ◌∷◌, ◌++◌, length, refl, subst, sym, ap, ◌∙◌, append_assoc, append-nil, arith}
use Rattle.std.specs.List.{AllByRecursion}
use Rattle.trace_replay_text.specs.Laws.{TracesAreTold}
use Rattle.trace_replay_text.specs.Trace.{AreNumbers, IsFirstWrongLine, IsTraceOf, NoLine, lines_from, trace, worker_line}
use Rattle.trace_replay_text.proofs.WorkerLines.{line_once}

lines_push : (worker : ℕ) (lists : List (List ℕ)) (frames : List ℕ)
    → lines_from worker (lists ++ frames ∷ []) ≡ lines_from worker lists ++ worker_line (worker + length lists) frames
lines_push worker [] frames =
    append-nil (worker_line worker frames) ∙ ap (λ (w : ℕ). worker_line w frames) (let e : worker ≡ worker + 0 = omega arith in e)
lines_push worker (l ∷ lists) frames =
    ap (λ (t : List ℕ). worker_line worker l ++ t) (lines_push (suc worker) lists frames)
    ∙ sym (append_assoc (worker_line worker l) (lines_from (suc worker) lists) (worker_line (suc worker + length lists) frames))
    ∙ ap (λ (w : ℕ). (worker_line worker l ++ lines_from (suc worker) lists) ++ worker_line w frames)
    (let e : suc worker + length lists ≡ worker + length (l ∷ lists) = omega arith in e)

pub lists_push : (lists new : List (List ℕ)) (frames : List ℕ) → AllByRecursion AreNumbers lists → AreNumbers frames → new ≡ lists ++ frames ∷ []
    → AllByRecursion AreNumbers new
lists_push lists new frames fit also is = subst (λ (ls : List (List ℕ)). AllByRecursion AreNumbers ls) (sym is) (pushed lists fit)
  where
    pushed : (ls : List (List ℕ)) → AllByRecursion AreNumbers ls → AllByRecursion AreNumbers (ls ++ frames ∷ [])
    pushed [] p = (also, tt)
    pushed (l ∷ ls) p = (p.0, pushed ls p.1)

-- a text of which one more line was read
pub trace_push : (text rest after frames : List ℕ) (lists new : List (List ℕ)) (worker : ℕ) → length lists ≡ worker → text ≡ trace lists ++ rest
    → rest ≡ worker_line worker frames ++ after → new ≡ lists ++ frames ∷ [] → text ≡ trace new ++ after
trace_push text rest after frames lists new worker counted spelled here is =
    spelled ∙ ap (λ (t : List ℕ). trace lists ++ t) (here ∙ ap (λ (w : ℕ). worker_line w frames ++ after) (sym counted))
    ∙ sym (append_assoc (trace lists) (worker_line (length lists) frames) after)
    ∙ ap (λ (w : ℕ). (trace lists ++ worker_line w frames) ++ after) (let e : length lists ≡ 0 + length lists = omega arith in e)
    ∙ ap (λ (t : List ℕ). t ++ after) (sym (lines_push 0 lists frames)) ∙ ap (λ (ls : List (List ℕ)). trace ls ++ after) (sym is)

-- Where the lines of some workers stand in front of a rest, and those of as many or more in front of another: the lines of those that
-- are more stand in front of the rest.
record Behind (worker : ℕ) (before others : List (List ℕ)) (rest tail : List ℕ) : Type 0 where
  pub more : List (List ℕ)
  pub others_are : others ≡ before ++ more
  pub fit : AllByRecursion AreNumbers more
  pub rest_is : rest ≡ lines_from (worker + length before) more ++ tail

behind : (worker : ℕ) (before others : List (List ℕ)) (rest tail : List ℕ) → AllByRecursion AreNumbers before → AllByRecursion AreNumbers others
    → length before ≤ length others → worker + length others < 2 ^ 32 → lines_from worker before ++ rest ≡ lines_from worker others ++ tail
    → Behind worker before others rest tail
behind worker [] others rest tail fit also few small e = record {
  more = others;
  others_are = refl;
  fit = also;
  rest_is = e ∙ ap (λ (w : ℕ). lines_from w others ++ tail) (let z : worker ≡ worker + 0 = omega arith in z);
}
behind worker (l ∷ before) [] rest tail fit also few small e = absurd (omega (arith, few))
behind worker (l ∷ before) (o ∷ others) rest tail fit also few small e =
    let both = line_once worker l o (lines_from (suc worker) before ++ rest) (lines_from (suc worker) others ++ tail) (omega (arith, small)) fit.0 also.0
    (sym (append_assoc (worker_line worker l) (lines_from (suc worker) before) rest) ∙ e ∙ append_assoc (worker_line worker o) (lines_from (suc worker) others) tail) in
    let next = behind (suc worker) before others rest tail fit.1 also.1 (omega (arith, few)) (omega (arith, small)) both.1 in
    record {
      more = next.more;
      others_are = (λ i. sym both.0 i ∷ next.others_are i);
      fit = next.fit;
      rest_is = next.rest_is ∙ ap (λ (w : ℕ). lines_from w next.more ++ tail) (let z : suc worker + length before ≡ worker + length (l ∷ before) = omega arith in z);
    }

-- further workers have at least a line
some_line : (worker : ℕ) (more : List (List ℕ)) (tail : List ℕ) → [] ≡ lines_from worker more ++ tail → (more ≡ []) × (tail ≡ [])
some_line worker [] tail e = (refl, sym e)
some_line worker (l ∷ more) tail e = absurd (cc)

-- where a line is wrong, no list has further workers there
no_more : (worker : ℕ) (more : List (List ℕ)) (rest tail : List ℕ) → AllByRecursion AreNumbers more → NoLine worker rest → rest ≡ lines_from worker more ++ tail
    → more ≡ []
no_more worker [] rest tail fit none e = refl
no_more worker (l ∷ more) rest tail fit none e =
    absurd (none l (lines_from (suc worker) more ++ tail) fit.0 (e ∙ append_assoc (worker_line worker l) (lines_from (suc worker) more) tail))

by_order : (m n : ℕ) → (m < n) ⊎ ((n < m) ⊎ (m ≡ n))
by_order zero zero = inr (inr refl)
by_order zero (suc n) = inl (omega arith)
by_order (suc m) zero = inr (inl (omega arith))
by_order (suc m) (suc n) = more (by_order m n)
  where
    more : (m < n) ⊎ ((n < m) ⊎ (m ≡ n)) → (suc m < suc n) ⊎ ((suc n < suc m) ⊎ (suc m ≡ suc n))
    more (inl h) = inl (omega (arith, h))
    more (inr (inl h)) = inr (inl (omega (arith, h)))
    more (inr (inr h)) = inr (inr (ap suc h))

-- no more lines stand before the first wrong line than before another
not_fewer : (text : List ℕ) (line other : ℕ) → (p : IsFirstWrongLine text line) → (q : IsFirstWrongLine text other) → length p.before < length q.before → ⊥
not_fewer text line other p q fewer =
    let few = q.few in
    let b = behind 0 p.before q.before p.rest q.rest p.numbers q.numbers (omega (arith, fewer)) (omega (arith, few)) (sym p.spelled ∙ q.spelled) in
    let rest_is : p.rest ≡ lines_from (length p.before) b.more ++ q.rest =
    b.rest_is ∙ ap (λ (w : ℕ). lines_from w b.more ++ q.rest) (let z : 0 + length p.before ≡ length p.before = omega arith in z) in
    let none = no_more (length p.before) b.more p.rest q.rest b.fit (p.wrong (omega (arith, fewer, few))) rest_is in
    let same = ap length (b.others_are ∙ ap (λ (m : List (List ℕ)). p.before ++ m) none ∙ append-nil p.before) in
    omega (arith, same, fewer)

one_line : (text : List ℕ) (line other : ℕ) → IsFirstWrongLine text line → IsFirstWrongLine text other → line ≡ other
one_line text line other p q = by_case (by_order (length p.before) (length q.before))
  where
    by_case : (length p.before < length q.before) ⊎ ((length q.before < length p.before) ⊎ (length p.before ≡ length q.before)) → line ≡ other
    by_case (inl h) = absurd (not_fewer text line other p q h)
    by_case (inr (inl h)) = absurd (not_fewer text other line q p h)
    by_case (inr (inr h)) = let a = p.counted in let b = q.counted in omega (arith, a, b, h)

-- the trace of some lists has no more lists behind them
whole : (text : List ℕ) (lists others : List (List ℕ)) → IsTraceOf text lists → IsTraceOf text others → length lists ≤ length others → lists ≡ others
whole text lists others p q few =
    let most = q.few in
    let b = behind 0 lists others [] [] p.numbers q.numbers few (omega (arith, most))
    (append-nil (trace lists) ∙ sym p.spelled ∙ q.spelled ∙ sym (append-nil (trace others))) in
    let none = (some_line (0 + length lists) b.more [] b.rest_is).0 in
    sym (b.others_are ∙ ap (λ (m : List (List ℕ)). lists ++ m) none ∙ append-nil lists)

one_reading : (text : List ℕ) (lists others : List (List ℕ)) → IsTraceOf text lists → IsTraceOf text others → lists ≡ others
one_reading text lists others p q = by_case (by_order (length lists) (length others))
  where
    by_case : (length lists < length others) ⊎ ((length others < length lists) ⊎ (length lists ≡ length others)) → lists ≡ others
    by_case (inl h) = whole text lists others p q (omega (arith, h))
    by_case (inr (inl h)) = sym (whole text others lists q p (omega (arith, h)))
    by_case (inr (inr h)) = whole text lists others p q (omega (arith, h))

not_both : (text : List ℕ) (lists : List (List ℕ)) (line : ℕ) → IsTraceOf text lists → IsFirstWrongLine text line → ⊥
not_both text lists line p q = by_case (by_order (length q.before) (length lists))
  where
    all : length lists ≤ length q.before → ⊥
    all few =
        let most = q.few in
        let b = behind 0 lists q.before [] q.rest p.numbers q.numbers few (omega (arith, most)) (append-nil (trace lists) ∙ sym p.spelled ∙ q.spelled) in
        let none = some_line (0 + length lists) b.more q.rest b.rest_is in
        there none.1 q.there
      where
        empty : (ls : List (List ℕ)) → 1 ≤ length ls → [] ≡ trace ls → ⊥
        empty [] some e = omega (arith, some)
        empty (l ∷ ls) some e = cc

        there : q.rest ≡ [] → (q.rest ≢ []) ⊎ (text ≡ []) → ⊥
        there e (inl some) = some e
        there e (inr none) = empty lists p.some (sym none ∙ p.spelled)

    by_case : (length q.before < length lists) ⊎ ((length lists < length q.before) ⊎ (length q.before ≡ length lists)) → ⊥
    by_case (inl h) =
        let most = p.few in
        let b = behind 0 q.before lists q.rest [] q.numbers p.numbers (omega (arith, h)) (omega (arith, most))
        (sym q.spelled ∙ p.spelled ∙ sym (append-nil (trace lists))) in
        let rest_is : q.rest ≡ lines_from (length q.before) b.more ++ [] =
        b.rest_is ∙ ap (λ (w : ℕ). lines_from w b.more ++ []) (let z : 0 + length q.before ≡ length q.before = omega arith in z) in
        let none = no_more (length q.before) b.more q.rest [] b.fit (q.wrong (omega (arith, h, most))) rest_is in
        let same = ap length (b.others_are ∙ ap (λ (m : List (List ℕ)). q.before ++ m) none ∙ append-nil q.before) in
        omega (arith, same, h)
    by_case (inr (inl h)) = all (omega (arith, h))
    by_case (inr (inr h)) = all (omega (arith, h))

pub told : TracesAreTold
told = record { one_reading = one_reading; one_line = one_line; not_both = not_both }
