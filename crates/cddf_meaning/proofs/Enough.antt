-- A loop is the same for every count that is as large as its turns.
use Rattle.std.proofs.Common.{◌≡◌, ℕ, zero, suc, ◌≤◌, Bool, true, false, if◌then◌else◌, Ok, Err, ℤ, arith, refl}
use Rattle.c_int.specs.Operators.{is_zero}
use Rattle.cddf_meaning.specs.Answers.{Answer, Left}
use Rattle.cddf_meaning.specs.Flow.{Ran, Went, Ended, Runs, with_value, goes_on, flows, loops}
use Rattle.cddf_meaning.specs.Moves.{Falls, Keeps}
use Rattle.cddf_meaning.specs.Run.{loop}
use Rattle.cddf_meaning.specs.BodyState.{BodyState}
use Rattle.cddf_meaning.specs.declared.flow.Flow.TheVariants.{GoesOn, Breaks, Continues, Returns}

pub with_value-same : (s : BodyState) (turns : ℕ) (a : Answer (Left ℤ)) (f g : Left ℤ → Ran) → Falls turns a →
    ((n : Left ℤ) → n.turns ≤ turns → f n ≡ g n) → with_value a s f ≡ with_value a s g
with_value-same s turns (Err ending) f g h e = refl
with_value-same s turns (Ok n) f g h e = e n h

pub if-same : (t : Bool) (a b c : Ran) → b ≡ c → (if t then a else b) ≡ (if t then a else c)
if-same true a b c e = refl
if-same false a b c e = e

pub flows-same : (s : BodyState) (turns : ℕ) (f g : Runs) (r : Ran) → Keeps s turns r → ((t : BodyState) (left : ℕ) → left ≤ turns → f t left ≡ g t left) →
    flows f r ≡ flows g r
flows-same s turns f g (Ended ending acts) k e = refl
flows-same s turns f g (Went GoesOn t left) (a, b) e = e t left a
flows-same s turns f g (Went Breaks t left) k e = refl
flows-same s turns f g (Went Continues t left) k e = refl
flows-same s turns f g (Went (Returns v) t left) k e = refl

pub loops-same : (s : BodyState) (turns : ℕ) (f g : Runs) (r : Ran) → Keeps s turns r → ((t : BodyState) (left : ℕ) → left ≤ turns → f t left ≡ g t left) →
    loops f r ≡ loops g r
loops-same s turns f g (Ended ending acts) k e = refl
loops-same s turns f g (Went GoesOn t left) (a, b) e = e t left a
loops-same s turns f g (Went Breaks t left) k e = refl
loops-same s turns f g (Went Continues t left) (a, b) e = e t left a
loops-same s turns f g (Went (Returns v) t left) k e = refl

pub loop-enough : (most other : ℕ) (test : BodyState → ℕ → Answer (Left ℤ)) (body step : Runs) →
    ((s : BodyState) (turns : ℕ) → Falls turns (test s turns)) → ((s : BodyState) (turns : ℕ) → Keeps s turns (body s turns)) →
    ((s : BodyState) (turns : ℕ) → Keeps s turns (step s turns)) → (s : BodyState) (turns : ℕ) → turns ≤ most → turns ≤ other →
    loop most test body step s turns ≡ loop other test body step s turns
loop-enough most other test body step ft kb ks s zero m o = refl
loop-enough zero other test body step ft kb ks s (suc turns) m o = search (m, arith)
loop-enough (suc most) zero test body step ft kb ks s (suc turns) m o = search (o, arith)
loop-enough (suc most) (suc other) test body step ft kb ks s (suc turns) m o =
    let f : Runs = λ s turns. flows (loop most test body step) (step s turns) in
    let g : Runs = λ s turns. flows (loop other test body step) (step s turns) in
    with_value-same s turns (test s turns) (λ n. if is_zero n.value then goes_on s n.turns else loops f (body s n.turns))
    (λ n. if is_zero n.value then goes_on s n.turns else loops g (body s n.turns)) (ft s turns)
    (λ n h. if-same (is_zero n.value) (goes_on s n.turns) (loops f (body s n.turns)) (loops g (body s n.turns))
    (loops-same s n.turns f g (body s n.turns) (kb s n.turns)
    (λ t left k. flows-same t left (loop most test body step) (loop other test body step) (step t left) (ks t left)
    (λ u rest j. loop-enough most other test body step ft kb ks u rest (omega (arith, m, h, k, j)) (omega (arith, o, h, k, j))))))
