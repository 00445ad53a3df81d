use Rattle.std.proofs.Common.{◌≡◌, ◌∙◌, ◌+◌, ◌-◌, ◌<◌, ℕ, suc, Bool, false, Some, ap, arith, cond, find, length, refl, sym}
use Rattle.std.specs.Prelude.{is_some}
use Rattle.std.specs.List.{range_with_len}
use Rattle.osview_sentences.specs.Passing.{passing_claim}
use Rattle.osview_sentences.proofs.passing.first_passing.Goals as goal

-- the first number of some, or one behind it
front : (p : ℕ → Bool) (k m : ℕ) → find p (range_with_len k (suc m)) ≡ cond (p k) (Some k) (find p (range_with_len (k + 1) m))
front p k m = refl

pub loop-frame-preserved : goal.loop-frame-preserved
loop-frame-preserved c =
    let activations = c.args.activations.now in
    let p : ℕ → Bool = λ a. is_some (passing_claim activations a) in
    let k = c.loop-frame.frame in
    let n = length activations in
    let lt : k < n = omega (arith, c.loop-frame-test.true) in
    let left : n - k ≡ suc (n - (k + 1)) = omega (arith, lt) in
    let no : p k ≡ false = ap is_some (sym c.passing_claim.ensures) ∙ sym c.is_some.ensures ∙ c.if-is_some.false in
    let rest : find p (range_with_len k (n - k)) ≡ find p (range_with_len (k + 1) (n - (k + 1))) =
    ap (λ m. find p (range_with_len k m)) left ∙ front p k (n - (k + 1))
    ∙ ap (λ (b : Bool). cond b (Some k) (find p (range_with_len (k + 1) (n - (k + 1))))) no in
    sym rest ∙ c.loop-frame.invariant
