-- What was done to read cursors, a move at a time, the last one first.
use Rattle.std.proofs.Common.{◌≡◌, ℕ, suc, ◌+◌, ◌<◌, ◌==◌, Bool, true, false, if◌then◌else◌, List, [], ◌∷◌, ◌++◌, length, get_or, take, reverse, refl, sym, ap, ◌∙◌, arith}
use Rattle.std.proofs.lemmas.List.{reverse-append}
use Rattle.cddf_meaning.specs.Claims.{since_read}
use Rattle.cddf_meaning.specs.declared.cursor_move.Move.{Move}
use Rattle.cddf_meaning.specs.declared.cursor_move.Move.TheVariants.{Take, Tick}
use Rattle.cddf_meaning_plain_state.specs.Moving.{is_read, skipped}

pub reverse_last : {A : Type 0} → (xs : List A) (x : A) → reverse (xs ++ x ∷ []) ≡ x ∷ reverse xs
reverse_last xs x = reverse-append xs (x ∷ [])

-- a claim that reads the stream stops the count
pub since-read : (stream : ℕ) (m : Move) (before : List Move) → is_read stream m ≡ true → since_read stream (m ∷ before) ≡ 0
since-read stream (Tick s amount) before h = absurd (cc)
since-read stream (Take claim) before h = ap (λ b. if b then 0 else since_read stream before) h

tick-past : (b : Bool) (amount sum : ℕ) → (if b then sum + amount else sum) ≡ sum + (if b then amount else 0)
tick-past true amount sum = refl
tick-past false amount sum = omega arith

-- any other move is counted, and what stands before it
pub since-past : (stream : ℕ) (m : Move) (before : List Move) → is_read stream m ≡ false → since_read stream (m ∷ before) ≡ since_read stream before + skipped stream m
since-past stream (Tick s amount) before h = tick-past (s == stream) amount (since_read stream before)
since-past stream (Take claim) before h = ap (λ b. if b then 0 else since_read stream before) h ∙ omega arith
