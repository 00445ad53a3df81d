-- What a word says, and the words after one was written.
use Rattle.std.proofs.Common.{◌≡◌, ℕ, ◌<◌, ◌≤◌, ◌≢◌, true, false, List, length, set, refl, sym, ap, ◌∙◌, ◌⊎◌, inl, inr, arith, Bool}
use Rattle.std.proofs.lemmas.Bool.{cases_eq}
use Rattle.std.proofs.lemmas.List.{get_or-set_same, get_or-set_other}
use Rattle.flow_core_concurrent.specs.declared.word.Word.{Word}
use Rattle.flow_core_concurrent.specs.declared.word.Word.TheVariants.{Wait, Open, Taken, Ended}
use Rattle.flow_core_concurrent.specs.Words.{word_at, amount, waits, is_open, is_taken, is_started}
use Rattle.flow_core_concurrent.specs.Counted.{one}

pub one_is_true : (b : Bool) → 1 ≤ one b → b ≡ true
one_is_true true h = refl
one_is_true false h = absurd (omega arith)

pub one_is_false : (b : Bool) → one b ≡ 0 → b ≡ false
one_is_false true h = absurd (omega arith)
one_is_false false h = refl

-- the words after one was written
pub word_at-set : (words : List Word) (f : ℕ) (w : Word) (g : ℕ) → f < length words → ((g ≡ f) × (word_at (set words f w) g ≡ w)) ⊎ ((g ≢ f) × (word_at (set words f w) g ≡ word_at words g))
word_at-set words f w g lt = by (cases_eq g f)
  where
    by : (g ≡ f) ⊎ (g ≢ f) → ((g ≡ f) × (word_at (set words f w) g ≡ w)) ⊎ ((g ≢ f) × (word_at (set words f w) g ≡ word_at words g))
    by (inl e) = inl (e, ap (word_at (set words f w)) e ∙ get_or-set_same words f w Open lt)
    by (inr n) = inr (n, get_or-set_other words f g w Open n)

pub word_at-set_same : (words : List Word) (f : ℕ) (w : Word) → f < length words → word_at (set words f w) f ≡ w
word_at-set_same words f w lt = get_or-set_same words f w Open lt

pub word_at-set_other : (words : List Word) (f : ℕ) (w : Word) (g : ℕ) → g ≢ f → word_at (set words f w) g ≡ word_at words g
word_at-set_other words f w g n = get_or-set_other words f g w Open n

-- what is the same of the old and the new word is the same of all words
pub word_at-kept : {A : Type 0} (h : Word → A) (words : List Word) (f : ℕ) (w : Word) → f < length words → h w ≡ h (word_at words f) → (g : ℕ) → h (word_at (set words f w) g) ≡ h (word_at words g)
word_at-kept {A = A} h words f w lt same g = by (word_at-set words f w g lt)
  where
    by : ((g ≡ f) × (word_at (set words f w) g ≡ w)) ⊎ ((g ≢ f) × (word_at (set words f w) g ≡ word_at words g)) → h (word_at (set words f w) g) ≡ h (word_at words g)
    by (inl (e, is)) = ap h is ∙ same ∙ ap (λ k. h (word_at words k)) (sym e)
    by (inr (n, is)) = ap h is

-- words by their tests
pub open_is : (w : Word) → is_open w ≡ true → w ≡ Open
open_is (Wait n) h = absurd (cc)
open_is Open h = refl
open_is Taken h = absurd (cc)
open_is (Ended e) h = absurd (cc)

pub taken_is : (w : Word) → is_taken w ≡ true → w ≡ Taken
taken_is (Wait n) h = absurd (cc)
taken_is Open h = absurd (cc)
taken_is Taken h = refl
taken_is (Ended e) h = absurd (cc)

-- a frame that neither waits nor is Open was claimed
pub started_from : (w : Word) → waits w ≡ false → is_open w ≡ false → is_started w ≡ true
started_from (Wait n) h o = absurd (cc)
started_from Open h o = absurd (cc)
started_from Taken h o = refl
started_from (Ended e) h o = refl

-- a frame that misses something waits for it
pub wait_is : (w : Word) → 1 ≤ amount w → w ≡ Wait (amount w)
wait_is (Wait n) h = refl
wait_is Open h = absurd (omega arith)
wait_is Taken h = absurd (omega arith)
wait_is (Ended e) h = absurd (omega arith)

-- a frame that misses nothing doesn't wait
pub full_waits : (w : Word) → w ≢ Wait 0 → amount w ≡ 0 → waits w ≡ false
full_waits (Wait n) some none = absurd (some (ap (λ k. Wait k) none))
full_waits Open some none = refl
full_waits Taken some none = refl
full_waits (Ended e) some none = refl

pub taken_started : (w : Word) → is_taken w ≡ true → is_started w ≡ true
taken_started (Wait n) h = absurd (cc)
taken_started Open h = absurd (cc)
taken_started Taken h = refl
taken_started (Ended e) h = refl
