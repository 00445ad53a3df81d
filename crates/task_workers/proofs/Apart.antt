-- Sums over numbers of which no two are equal.
use Rattle.std.proofs.Common.{◌≡◌, ◌≢◌, ℕ, suc, ◌+◌, ◌<◌, ◌≤◌, List, [], ◌∷◌, length, get_or, set, drop, replicate, refl, sym, ap, ◌∙◌, arith}
use Rattle.std.specs.Prelude.{sum_by}
use Rattle.std.proofs.lemmas.List.{get_or-set_other, length-set, length-replicate, length-drop, get_or-drop, get_or-replicate}
use Rattle.std.proofs.lemmas.List.Sums.{sum_by-cons, sum_by-set, sum_by-le}
use Rattle.flow_core_laws.specs.declared.plan.FramePlan.{FramePlan}
use Rattle.flow_core_laws.specs.declared.plan.Plan.{Plan}
use Rattle.flow_core.specs.declared.waits.Waits.{Waits}
use Rattle.flow_core.specs.Waits.{OpensFull}
use Rattle.task_workers_round.specs.Results.{room_of}

-- numbers below n, of which no two are equal
pub record AreApart (n : ℕ) (xs : List ℕ) : Type 0 where
  pub below : (k : ℕ) → k < length xs → get_or xs k 0 < n
  pub apart : (i k : ℕ) → i < k → k < length xs → get_or xs i 0 ≢ get_or xs k 0

AreApart-tail : (n m x : ℕ) (xs : List ℕ) → m ≡ n → AreApart n (x ∷ xs) → AreApart m xs
AreApart-tail n m x xs is a = record {
  below = λ k lt. (let h : get_or xs k 0 < n = a.below (suc k) (omega arith) in omega arith);
  apart = λ i k lt l. a.apart (suc i) (suc k) (omega arith) (omega arith);
}

-- sums of the same terms
sum_same : (g h : ℕ → ℕ) (xs : List ℕ) → ((k : ℕ) → k < length xs → g (get_or xs k 0) ≡ h (get_or xs k 0)) → sum_by g xs ≡ sum_by h xs
sum_same g h [] same = refl
sum_same g h (x ∷ xs) same =
    let here : g x ≡ h x = same 0 (omega arith) in
    let rest = sum_same g h xs (λ k l. same (suc k) (omega arith)) in
    omega (arith, here, rest, sum_by-cons g x xs, sum_by-cons h x xs)

-- the sum over some places of a list is at most that over all
sum_apart : {X : Type 0} (f : X → ℕ) (none d : X) → f none ≡ 0 → (xs : List ℕ) (ps : List X) → AreApart (length ps) xs → sum_by (λ i. f (get_or ps i d)) xs ≤ sum_by f ps
sum_apart f none d zero [] ps a = omega arith
sum_apart f none d zero (x ∷ xs) ps a =
    let lt : x < length ps = a.below 0 (omega arith) in
    let rest = sum_apart f none d zero xs (set ps x none) (AreApart-tail (length ps) (length (set ps x none)) x xs (length-set ps x none) a) in
    let other : (k : ℕ) → k < length xs → get_or xs k 0 ≢ x = λ k l is. a.apart 0 (suc k) (omega arith) (omega arith) (sym is) in
    let same = sum_same (λ i. f (get_or (set ps x none) i d)) (λ i. f (get_or ps i d)) xs (λ k l. ap f (get_or-set_other ps x (get_or xs k 0) none d (other k l))) in
    omega (arith, lt, rest, same, zero, sum_by-set f ps x none d lt, sum_by-cons (λ i. f (get_or ps i d)) x xs)

sum_ones : (xs : List ℕ) → sum_by (λ x. 1) xs ≡ length xs
sum_ones [] = refl
sum_ones (x ∷ xs) = omega (arith, sum_by-cons (λ (y : ℕ). 1) x xs, sum_ones xs)

-- such numbers are few
length_apart : (n : ℕ) (xs : List ℕ) → AreApart n xs → length xs ≤ n
length_apart n xs a =
    let ones = replicate n 1 in
    let len : length ones ≡ n = length-replicate n 1 in
    let within = sum_apart (λ (x : ℕ). x) 0 0 refl xs ones (record { below = λ k l. (let h = a.below k l in omega (arith, len)); apart = a.apart }) in
    let terms = sum_same (λ i. get_or ones i 0) (λ i. 1) xs (λ k l. get_or-replicate n (get_or xs k 0) 1 0 (a.below k l)) in
    let most = sum_by-le (λ (x : ℕ). x) 1 ones (λ k d l. (let h : get_or ones k d ≡ 1 = get_or-replicate n k 1 d (omega (arith, len)) in omega arith)) in
    omega (arith, len, within, terms, most, sum_ones xs)

-- the opened frames from one on
opened_apart : (n turn : ℕ) (waits : Waits) → OpensFull waits → length waits.missing.items ≡ n → AreApart n (drop turn waits.opened.items)
opened_apart n turn waits full len = record {
  below = λ k l. (let at = get_or-drop turn waits.opened.items k 0 in let h = full.exist (turn + k) (let e = length-drop turn waits.opened.items in omega arith) in omega arith);
  apart = λ i k lt l is. full.listed_once (turn + i) (turn + k) (omega arith) (let e = length-drop turn waits.opened.items in omega arith) (sym (get_or-drop turn waits.opened.items i 0) ∙ is ∙ get_or-drop turn waits.opened.items k 0);
}

pub opened_few : (n turn : ℕ) (waits : Waits) → OpensFull waits → length waits.missing.items ≡ n → length (drop turn waits.opened.items) ≤ n
opened_few n turn waits full len = length_apart n (drop turn waits.opened.items) (opened_apart n turn waits full len)

-- what they write is within what all frames write
pub opened_room : (plan : Plan) (turn : ℕ) (waits : Waits) → OpensFull waits → length waits.missing.items ≡ length plan.frames → room_of plan (drop turn waits.opened.items) ≤ sum_by (λ (p : FramePlan). p.outputs) plan.frames
opened_room plan turn waits full len = sum_apart (λ (p : FramePlan). p.outputs) (record { cell = 0; inputs = 0; outputs = 0; wait = 0; piece = 0; pieces = 0 }) plan.sink refl (drop turn waits.opened.items) plan.frames (opened_apart (length plan.frames) turn waits full len)
