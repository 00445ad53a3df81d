-- What may follow a part, so that its reader doesn't go on.
use Rattle.std.proofs.Common.{◌≡◌, ℕ, suc, ◌≤◌, ◌<◌, Bool, true, false, List, [], ◌∷◌, Option, Some, None, cond, nat_eq, eqb-true, refl, ap, arith}
use Rattle.os_ast.specs.Means as means
use Rattle.os_ast.specs.Means.{Placed, placed, Fit}
use Rattle.os_ast.specs.Operators.{binary_mark}
use Rattle.os_ast.specs.Spelling.{Symbol, bare, marked, kind_of}
use Rattle.os_ast.specs.declared.expr.Binary.{Binary}
use Rattle.os_ast.specs.declared.expr.Binary.TheVariants as binary
use Rattle.os_lexer.specs.declared.token.Kind.{Kind}
use Rattle.os_lexer.specs.declared.token.Kind.TheVariants as kind
use Rattle.os_lexer.specs.declared.token.Punct.TheVariants as puncts
use Rattle.os_parser_grammar.specs.Kinds.{same}
use Rattle.os_parser_grammar.specs.Operands.{binary_of, of_precedence, op_precedence, operator_at}
use Rattle.os_parser_grammar.specs.Reading.{begins}
use Rattle.os_parser_grammar.proofs.SameKinds.{same-equal}

-- from which level on readers do not go on at a token that is no operator
abbrev pub grows_else : Kind → ℕ
grows_else (kind.Punct puncts.Question) = 1
grows_else (kind.Punct puncts.OpenParen) = 13
grows_else (kind.Punct puncts.OpenBracket) = 13
grows_else _ = 0

abbrev pub grows_by : Option Binary → Kind → ℕ
grows_by (Some op) k = suc (op_precedence op)
grows_by None k = grows_else k

-- from which level on readers do not go on at a token
abbrev pub grows : Kind → ℕ
grows k = grows_by (binary_of k) k

abbrev pub grows_at : List Symbol → ℕ
grows_at [] = 0
grows_at (p ∷ ps) = grows (kind_of p)

-- a reader of a level does not go on where these symbols follow
pub record Stops (n : ℕ) (ps : List Symbol) : Type 0 where
  pub least : grows_at ps ≤ n

pub stops-more : (m n : ℕ) (ps : List Symbol) → m ≤ n → Stops m ps → Stops n ps
stops-more m n ps h s = record { least = omega (arith, s.least) }

pub grows-operator : (op : Binary) → grows (kind.Punct (binary_mark op)) ≡ suc (op_precedence op)
grows-operator binary.Or = refl
grows-operator binary.And = refl
grows-operator binary.BitOr = refl
grows-operator binary.BitXor = refl
grows-operator binary.BitAnd = refl
grows-operator binary.Equal = refl
grows-operator binary.Unequal = refl
grows-operator binary.Less = refl
grows-operator binary.LessEqual = refl
grows-operator binary.Greater = refl
grows-operator binary.GreaterEqual = refl
grows-operator binary.ShiftLeft = refl
grows-operator binary.ShiftRight = refl
grows-operator binary.Add = refl
grows-operator binary.Subtract = refl
grows-operator binary.Multiply = refl
grows-operator binary.Divide = refl
grows-operator binary.Remainder = refl

pub binary_of-mark : (op : Binary) → binary_of (kind.Punct (binary_mark op)) ≡ Some op
binary_of-mark binary.Or = refl
binary_of-mark binary.And = refl
binary_of-mark binary.BitOr = refl
binary_of-mark binary.BitXor = refl
binary_of-mark binary.BitAnd = refl
binary_of-mark binary.Equal = refl
binary_of-mark binary.Unequal = refl
binary_of-mark binary.Less = refl
binary_of-mark binary.LessEqual = refl
binary_of-mark binary.Greater = refl
binary_of-mark binary.GreaterEqual = refl
binary_of-mark binary.ShiftLeft = refl
binary_of-mark binary.ShiftRight = refl
binary_of-mark binary.Add = refl
binary_of-mark binary.Subtract = refl
binary_of-mark binary.Multiply = refl
binary_of-mark binary.Divide = refl
binary_of-mark binary.Remainder = refl

unequal : (r : ℕ) (op : Binary) (b : Bool) → nat_eq (op_precedence op) r ≡ b → suc (op_precedence op) ≤ r → cond b (Some op) None ≡ None
unequal r op true e h = let is : op_precedence op ≡ r = eqb-true _ _ e in absurd (omega arith)
unequal r op false e h = refl

of_precedence-none : (r : ℕ) (o : Option Binary) (k : Kind) → grows_by o k ≤ r → of_precedence r o ≡ None
of_precedence-none r None k h = refl
of_precedence-none r (Some op) k h = unequal r op (nat_eq (op_precedence op) r) refl h

pub no-operator : (r : ℕ) (ps : List Symbol) (ts : List Placed) → Stops r ps → Fit ps ts → operator_at r ts ≡ None
no-operator r [] [] s means.none = refl
no-operator r [] (_ ∷ ts) s f = elim f [ ]
no-operator r (bare k ∷ ps) [] s f = elim f [ ]
no-operator r (marked k n ∷ ps) [] s f = elim f [ ]
no-operator r (bare k ∷ ps) (placed l m ∷ ts) s (means.bare f) = of_precedence-none r (binary_of k) k s.least
no-operator r (marked k n ∷ ps) (placed l m ∷ ts) s (means.marked f) = of_precedence-none r (binary_of k) k s.least

differs : (k l : Kind) (b : Bool) → same k l ≡ b → grows k < grows l → b ≡ false
differs k l true e h = let is : grows k ≡ grows l = ap grows (same-equal k l e) in absurd (omega arith)
differs k l false e h = refl

other-kind : (k l : Kind) → grows k < grows l → same k l ≡ false
other-kind k l h = differs k l (same k l) refl h

-- no token follows at which a reader would go on
pub no-token : (n : ℕ) (l : Kind) (ps : List Symbol) (ts : List Placed) → Stops n ps → n < grows l → Fit ps ts → begins l ts ≡ false
no-token n l [] [] s h means.none = refl
no-token n l [] (_ ∷ ts) s h f = elim f [ ]
no-token n l (bare k ∷ ps) [] s h f = elim f [ ]
no-token n l (marked k n' ∷ ps) [] s h f = elim f [ ]
no-token n l (bare k ∷ ps) (placed j m ∷ ts) s h (means.bare f) = other-kind k l (omega (arith, s.least))
no-token n l (marked k n' ∷ ps) (placed j m ∷ ts) s h (means.marked f) = other-kind k l (omega (arith, s.least))
