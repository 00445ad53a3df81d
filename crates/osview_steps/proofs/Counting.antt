-- What is counted, activation by activation, is what a task has.
use Rattle.std.proofs.Common.{◌≡◌, ◌∙◌, ◌⊎◌, inl, inr, ℕ, ◌+◌, ◌<◌, ◌≤◌, min, max, Bool, true, false, cond, List, [], ◌∷◌, Option, Some, None, length, get_or, set, refl, subst, sym, ap, arith, zero-add, take}
use Rattle.std.specs.Prelude.{◌==◌, ◌≢◌, filter_map, fold, if◌then◌else◌, sum}
use Rattle.std.specs.List.{cons_option}
use Rattle.std.proofs.lemmas.Bool.{cases_eq, eq-eqb, ne_eqb}
use Rattle.std.specs.Option.{option_map_or}
use Rattle.std.proofs.lemmas.List.{get_or-set_other, get_or-set_same, map-append, take_more}
use Rattle.std.proofs.lemmas.List.Elements.{filter_map-append}
use Rattle.std.proofs.lemmas.List.Sums.{sum_by-append, sum_by-cons}
use Rattle.osview_steps.specs.Counting.{IsSmall, IsTallyOf, counted, nothing_counted}
use Rattle.osview_steps.specs.Tallies.{activation_count, all_steps, steps_in, taken_by, turns_in}
use Rattle.osview_steps.specs.Steps.{steps_if}
use Rattle.osview_steps.specs.declared.runs.Taken.{Taken}
use Rattle.osview_steps.specs.declared.runs.TaskRun.{TaskRun}
use Rattle.osview_text.specs.Numbers.{least}
use Rattle.osview_steps.specs.declared.tally.Tally.{Tally}

-- what one more activation makes of a task's tally
abbrev pub step : ℕ → Tally → TaskRun → Tally
step t tally r = cond (r.task == t) (counted tally r.took) tally

-- the least of some numbers, or another one where there is none
abbrev least_or : ℕ → List ℕ → ℕ
least_or n [] = n
least_or n (m ∷ ms) = fold min m ms

-- a tally with `n` more activations, of which those that ran took `ts`
record Adds (old new : Tally) (n : ℕ) (ts : List Taken) : Type 0 where
  activations : new.activations ≡ old.activations + n
  ran : new.ran ≡ old.ran + length ts
  least_first : old.ran ≡ 0 → new.least ≡ least_or old.least (steps_in ts)
  least_later : 1 ≤ old.ran → new.least ≡ fold min old.least (steps_in ts)
  most : new.most ≡ fold max old.most (steps_in ts)
  sum : new.sum ≡ old.sum + sum (steps_in ts)
  turns : new.turns ≡ fold max old.turns (turns_in ts)

one_none : (old new : Tally) (n : ℕ) (ts : List Taken) → Adds (counted old None) new n ts → Adds old new (1 + n) ts
one_none old new n ts adds = record {
  activations = let a = adds.activations in omega (arith, a);
  ran = adds.ran;
  least_first = adds.least_first;
  least_later = adds.least_later;
  most = adds.most;
  sum = adds.sum;
  turns = adds.turns;
}

one_some : (old new : Tally) (n : ℕ) (k : Taken) (ts : List Taken) → Adds (counted old (Some k)) new n ts → Adds old new (1 + n) (k ∷ ts)
one_some old new n k ts adds = record {
  activations = let a = adds.activations in omega (arith, a);
  ran = let a = adds.ran in omega (arith, a);
  least_first = λ zero. adds.least_later (omega arith) ∙ ap (λ (m : ℕ). fold min m (steps_in ts)) (ap (λ (r : ℕ). if r == 0 then k.steps else min old.least k.steps) zero);
  least_later = λ some. adds.least_later (omega arith) ∙ ap (λ (m : ℕ). fold min m (steps_in ts)) (ap (λ (b : Bool). if b then k.steps else min old.least k.steps) (ne_eqb old.ran 0 (λ zero. omega (arith, zero, some))));
  most = adds.most;
  sum = let a = adds.sum in let c = sum_by-cons (λ x. x) k.steps (steps_in ts) in omega (arith, a, c);
  turns = adds.turns;
}

-- the activations of a list
adds_all : (t : ℕ) (runs : List TaskRun) (old : Tally) → Adds old (fold (step t) old runs) (activation_count t runs) (taken_by t runs)
adds_all t [] old = record {
  activations = omega arith;
  ran = omega arith;
  least_first = λ _. refl;
  least_later = λ _. refl;
  most = refl;
  sum = omega arith;
  turns = refl;
}
adds_all t (r ∷ runs) old = subst (λ (n : ℕ). Adds old (fold (step t) (step t old r) runs) n (taken_by t (r ∷ runs))) (sym (sum_by-cons (λ (x : TaskRun). cond (x.task == t) 1 0) r runs))
    (by_test (r.task == t) r.took (adds_all t runs (cond (r.task == t) (counted old r.took) old)))
  where
    by_test : (b : Bool) (s : Option Taken) → Adds (cond b (counted old s) old) (fold (step t) (cond b (counted old s) old) runs) (activation_count t runs) (taken_by t runs)
        → Adds old (fold (step t) (cond b (counted old s) old) runs) (cond b 1 0 + activation_count t runs) (cons_option (if b then s else None) (taken_by t runs))
    by_test true None adds = one_none old (fold (step t) (counted old None) runs) (activation_count t runs) (taken_by t runs) adds
    by_test true (Some k) adds = one_some old (fold (step t) (counted old (Some k)) runs) (activation_count t runs) k (taken_by t runs) adds
    by_test false s adds = subst (λ (n : ℕ). Adds old (fold (step t) old runs) n (taken_by t runs)) (sym (zero-add (activation_count t runs))) adds

least_of : (ns : List ℕ) → least_or 0 ns ≡ least ns
least_of [] = refl
least_of (n ∷ ns) = refl

pub is_tally : (t : ℕ) (runs : List TaskRun) (tally : Tally) → tally ≡ fold (step t) nothing_counted runs → IsTallyOf t runs tally
is_tally t runs tally is = subst (IsTallyOf t runs) (sym is) (
    let adds = adds_all t runs nothing_counted in
    record {
      activations = adds.activations ∙ omega arith;
      ran = adds.ran ∙ omega arith;
      least = adds.least_first refl ∙ least_of (steps_in (taken_by t runs));
      most = adds.most;
      sum = adds.sum ∙ omega arith;
      turns = adds.turns;
    })

-- tallies with one more activation
pub at_task : (tallies new : List Tally) (r : TaskRun) → r.task < length tallies → new ≡ set tallies r.task (counted (get_or tallies r.task nothing_counted) r.took)
    → (t : ℕ) → get_or new t nothing_counted ≡ step t (get_or tallies t nothing_counted) r
at_task tallies new r inside is t = ap (λ (xs : List Tally). get_or xs t nothing_counted) is ∙ by_place (cases_eq r.task t)
  where
    by_place : (r.task ≡ t) ⊎ (r.task ≢ t) → get_or (set tallies r.task (counted (get_or tallies r.task nothing_counted) r.took)) t nothing_counted ≡ step t (get_or tallies t nothing_counted) r
    by_place (inl same) =
        subst (λ (k : ℕ). get_or (set tallies r.task (counted (get_or tallies r.task nothing_counted) r.took)) k nothing_counted ≡ counted (get_or tallies k nothing_counted) r.took) same
        (get_or-set_same tallies r.task _ nothing_counted inside)
        ∙ sym (ap (λ (b : Bool). cond b (counted (get_or tallies t nothing_counted) r.took) (get_or tallies t nothing_counted)) (eq-eqb r.task t same))
    by_place (inr other) =
        get_or-set_other tallies r.task t _ nothing_counted (λ same. other (sym same))
        ∙ sym (ap (λ (b : Bool). cond b (counted (get_or tallies t nothing_counted) r.took) (get_or tallies t nothing_counted)) (ne_eqb r.task t other))

-- what is small for a number is small for a greater one
pub small_grows : (n m : ℕ) (tally : Tally) → n ≤ m → IsSmall n tally → IsSmall m tally
small_grows n m tally le small = let a = small.activations in let b = small.ran in let s = small.sum in
    record { activations = omega (arith, a, le); ran = omega (arith, b, le); sum = omega (arith, s, le) }

-- and it is one more at most
pub small_step : (n t : ℕ) (tallies new : List Tally) (r : TaskRun) → get_or new t nothing_counted ≡ step t (get_or tallies t nothing_counted) r
    → (IsSmall n (get_or tallies r.task nothing_counted) → IsSmall (n + 1) (counted (get_or tallies r.task nothing_counted) r.took))
    → IsSmall n (get_or tallies t nothing_counted) → IsSmall (n + 1) (get_or new t nothing_counted)
small_step n t tallies new r here counts small = subst (IsSmall (n + 1)) (sym here) (by_place (cases_eq r.task t))
  where
    by_place : (r.task ≡ t) ⊎ (r.task ≢ t) → IsSmall (n + 1) (step t (get_or tallies t nothing_counted) r)
    by_place (inl same) =
        subst (λ (b : Bool). IsSmall (n + 1) (cond b (counted (get_or tallies t nothing_counted) r.took) (get_or tallies t nothing_counted))) (sym (eq-eqb r.task t same))
        (subst (λ (k : ℕ). IsSmall (n + 1) (counted (get_or tallies k nothing_counted) r.took)) same
        (counts (subst (λ (k : ℕ). IsSmall n (get_or tallies k nothing_counted)) (sym same) small)))
    by_place (inr other) =
        subst (λ (b : Bool). IsSmall (n + 1) (cond b (counted (get_or tallies t nothing_counted) r.took) (get_or tallies t nothing_counted))) (sym (ne_eqb r.task t other))
        (small_grows n (n + 1) (get_or tallies t nothing_counted) (omega arith) small)

pub small_first : (n : ℕ) (tally : Tally) → tally ≡ nothing_counted → IsSmall n tally
small_first n tally is = subst (IsSmall n) (sym is) (record { activations = omega arith; ran = omega arith; sum = omega arith })

-- the steps of one more activation
pub total_more : (runs : List TaskRun) (i : ℕ) (d : TaskRun) → i < length runs
    → sum (all_steps (take (i + 1) runs)) ≡ sum (all_steps (take i runs)) + option_map_or (λ n. n) (steps_if (get_or runs i d).took) 0
total_more runs i d lt =
    let front = filter_map (λ (r : TaskRun). r.took) (take i runs) in
    let one = filter_map (λ (r : TaskRun). r.took) (get_or runs i d ∷ []) in
    ap (λ (xs : List TaskRun). sum (all_steps xs)) (take_more runs i d lt)
    ∙ ap (λ (ts : List Taken). sum (steps_in ts)) (filter_map-append (λ (r : TaskRun). r.took) (take i runs) (get_or runs i d ∷ []))
    ∙ ap sum (map-append (λ (t : Taken). t.steps) front one)
    ∙ sum_by-append (λ n. n) (steps_in front) (steps_in one)
    ∙ ap (λ (n : ℕ). sum (steps_in front) + n) (of_one (get_or runs i d).took)
  where
    of_one : (s : Option Taken) → sum (steps_in (cons_option s [])) ≡ option_map_or (λ n. n) (steps_if s) 0
    of_one None = refl
    of_one (Some n) = omega arith
