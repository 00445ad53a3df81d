-- Two lists of tokens that begin with the same kinds, and what readers give of both.
use Rattle.std.proofs.Common.{◌≡◌, ℕ, suc, ◌+◌, ◌≤◌, Bool, true, false, List, ◌∷◌, cond, length, refl, arith}
use Rattle.os_ast.specs.Means.{Placed, placed}
use Rattle.os_ast.specs.declared.expr.Mark.{Mark}
use Rattle.os_lexer.specs.declared.token.Kind.{Kind}
use Rattle.os_parser_grammar.specs.Operands.{operator_at, start_at}
use Rattle.os_parser_grammar.specs.Reading.{Read, Reader, got, fails, ◌>>=◌, begins, expect}
use Rattle.os_parser_grammar.proofs.Tokens.{length-after}

-- The first tokens, as many as the number says, and the next one are of the same kinds; behind these the lists are any two.
pub data Alike (xs ys : List Placed) : ℕ → List Placed → List Placed → Type 0 where
  last : {k : Kind} {m n : Mark} → Alike xs ys 0 (placed k m ∷ xs) (placed k n ∷ ys)
  more : {d : ℕ} {k : Kind} {m n : Mark} {ts us : List Placed} → Alike xs ys d ts us → Alike xs ys (suc d) (placed k m ∷ ts) (placed k n ∷ us)

-- how many tokens are left
abbrev pub left : {A : Type 0} → Read A → ℕ
left (got x rest) = length rest
left (fails rest) = length rest

abbrev pub Shrinks : {A : Type 0} → Reader A → Type 0
Shrinks r = (ts : List Placed) → left (r ts) ≤ length ts

-- what is of no weight
abbrev pub flat : {A : Type 0} → A → ℕ
flat x = 0

pub left-then : {A B : Type 0} (r : Read A) (f : A → Reader B) (n : ℕ) → left r ≤ n → ((x : A) (ts : List Placed) → left (f x ts) ≤ length ts) →
    left (r >>= f) ≤ n
left-then (got x ts) f n h k = let small = k x ts in omega (arith, small, h)
left-then (fails ts) f n h k = h

pub left-if : {A : Type 0} (b : Bool) (r s : Read A) (n : ℕ) → left r ≤ n → left s ≤ n → left (cond b r s) ≤ n
left-if true r s n h k = h
left-if false r s n h k = k

pub left-expect : (k : Kind) (ts : List Placed) → left (expect k ts) ≤ length ts
unfolding expect
left-expect k ts = let h = length-after ts in left-if (begins k ts) _ _ _ h (omega arith)

pub begins-alike : (k : Kind) {xs ys : List Placed} {d : ℕ} {ts us : List Placed} → Alike xs ys d ts us → begins k ts ≡ begins k us
begins-alike k last = refl
begins-alike k (more a) = refl

pub start-alike : {xs ys : List Placed} {d : ℕ} {ts us : List Placed} → Alike xs ys d ts us → start_at ts ≡ start_at us
start-alike last = refl
start-alike (more a) = refl

pub operator-alike : (p : ℕ) {xs ys : List Placed} {d : ℕ} {ts us : List Placed} → Alike xs ys d ts us → operator_at p ts ≡ operator_at p us
operator-alike p last = refl
operator-alike p (more a) = refl

pub length-alike : {xs ys : List Placed} {d : ℕ} {ts us : List Placed} → Alike xs ys d ts us → (length ts ≡ suc (d + length xs)) × (length us ≡ suc (d + length ys))
length-alike last = (omega arith, omega arith)
length-alike (more a) = let h = length-alike a in (omega (arith, h.0), omega (arith, h.1))
