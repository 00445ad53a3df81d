-- A quiet expression gives a number, and takes no turns.
use Rattle.std.proofs.Common.{◌≡◌, ℕ, ◌&&◌, ◌||◌, Bool, true, false, if◌then◌else◌, Ok, ℤ, pos, refl, ap, ◌∙◌}
use Rattle.std.specs.Int.{w32, cast_signed}
use Rattle.c_int.specs.Operators.{is_zero, unary_value, binary_value}
use Rattle.c_int.specs.declared.operators.Binary as int_binary
use Rattle.c_int.specs.declared.operators.Binary.TheVariants as two
use Rattle.c_int.specs.declared.operators.Unary as int_unary
use Rattle.c_int.specs.declared.operators.Unary.TheVariants as one
use Rattle.cddf_meaning.specs.Answers.{Answer, at_line, and_then, Left, left, with_turns}
use Rattle.cddf_meaning.specs.File.{File, variable, type_in}
use Rattle.cddf_meaning.specs.Operators.{binary_answer, unary_answer}
use Rattle.cddf_meaning.specs.BodyState.{BodyState}
use Rattle.cddf_meaning.specs.ExpressionTypes.{type_of_two}
use Rattle.cddf_meaning.specs.Value.{scalar_value, as_truth, linked, value, chained}
use Rattle.os_ast.specs.Trees as tree
use Rattle.os_ast.specs.declared.expr.Binary.{Binary}
use Rattle.os_ast.specs.declared.expr.Binary.TheVariants as binary
use Rattle.os_ast.specs.declared.expr.Unary.{Unary}
use Rattle.os_ast.specs.declared.expr.Unary.TheVariants as unary
use Rattle.lowering_relation.specs.Changes.{is_quiet_one, is_quiet_two, is_quiet, are_quiet}

abbrev Gives : ℕ → Answer (Left ℤ) → Type 0
Gives turns a = (v : ℤ) × (a ≡ Ok (left v turns))

first : (a b : Bool) → (a && b) ≡ true → a ≡ true
first true b h = refl
first false b h = absurd (cc)

rest : (a b : Bool) → (a && b) ≡ true → b ≡ true
rest true b h = h
rest false b h = absurd (cc)

gives_then : {turns : ℕ} {a : Answer (Left ℤ)} (f : Left ℤ → Answer (Left ℤ)) → Gives turns a → ((v : ℤ) → Gives turns (f (left v turns))) → Gives turns (and_then a f)
gives_then {turns = turns} f (v, e) next = let n = next v in (n.0, ap (λ x. and_then x f) e ∙ n.1)

gives_if : {turns : ℕ} (t : Bool) (a b : Answer (Left ℤ)) → Gives turns a → Gives turns b → Gives turns (if t then a else b)
gives_if true a b f g = f
gives_if false a b f g = g

-- where both forms of an operator give a number, so does the one of them that a type chooses
gives_one : (t : Bool) (op other : int_unary.Unary) (line : ℕ) (v : ℤ) (turns : ℕ) → Gives turns (with_turns turns (at_line line (unary_value op v))) →
    Gives turns (with_turns turns (at_line line (unary_value other v))) →
    Gives turns (with_turns turns (at_line line (unary_value (if t then op else other) v)))
gives_one true op other line v turns f g = f
gives_one false op other line v turns f g = g

gives_two : (t : Bool) (op other : int_binary.Binary) (line : ℕ) (v w : ℤ) (turns : ℕ) → Gives turns (with_turns turns (at_line line (binary_value op v w))) →
    Gives turns (with_turns turns (at_line line (binary_value other v w))) →
    Gives turns (with_turns turns (at_line line (binary_value (if t then op else other) v w)))
gives_two true op other line v w turns f g = f
gives_two false op other line v w turns f g = g

unary_gives : (op : Unary) (line : ℕ) (x : Bool) (v : ℤ) (turns : ℕ) → is_quiet_one op ≡ true → Gives turns (with_turns turns (unary_answer op line x v))
unary_gives unary.Minus line x v turns h = absurd (cc)
unary_gives unary.Plus line x v turns h = gives_one x one.Plus one.Plus line v turns (_, refl) (_, refl)
unary_gives unary.Not line x v turns h = gives_one x one.Not one.Not line v turns (_, refl) (_, refl)
unary_gives unary.Invert line x v turns h = gives_one x one.Invert one.Invert line v turns (_, refl) (_, refl)

truth_gives : (a : Left ℤ) → Gives a.turns (as_truth a)
truth_gives a = (_, refl)

linked_gives : (op : Binary) (line : ℕ) (x y : Bool) (turns : ℕ) (v : ℤ) (right : ℕ → Answer (Left ℤ)) → is_quiet_two op ≡ true → Gives turns (right turns) → Gives turns (linked op line x y (left v turns) right)
linked_gives binary.And line x y turns v right h g = gives_if (is_zero v) (Ok (left (pos 0) turns)) (and_then (right turns) as_truth) (pos 0, refl) (gives_then as_truth g (λ w. truth_gives (left w turns)))
linked_gives binary.Or line x y turns v right h g = gives_if (is_zero v) (and_then (right turns) as_truth) (Ok (left (pos 1) turns)) (gives_then as_truth g (λ w. truth_gives (left w turns))) (pos 1, refl)
linked_gives binary.BitOr line x y turns v right h g =
    gives_then (λ b. with_turns b.turns (binary_answer binary.BitOr line x y v b.value)) g (λ w. gives_two (x || y) two.BitOr two.BitOr line v w turns (_, refl) (_, refl))
linked_gives binary.BitXor line x y turns v right h g =
    gives_then (λ b. with_turns b.turns (binary_answer binary.BitXor line x y v b.value)) g (λ w. gives_two (x || y) two.BitXor two.BitXor line v w turns (_, refl) (_, refl))
linked_gives binary.BitAnd line x y turns v right h g =
    gives_then (λ b. with_turns b.turns (binary_answer binary.BitAnd line x y v b.value)) g (λ w. gives_two (x || y) two.BitAnd two.BitAnd line v w turns (_, refl) (_, refl))
linked_gives binary.Equal line x y turns v right h g =
    gives_then (λ b. with_turns b.turns (binary_answer binary.Equal line x y v b.value)) g (λ w. gives_two (x || y) two.Equal two.Equal line v w turns (_, refl) (_, refl))
linked_gives binary.Unequal line x y turns v right h g =
    gives_then (λ b. with_turns b.turns (binary_answer binary.Unequal line x y v b.value)) g (λ w. gives_two (x || y) two.Unequal two.Unequal line v w turns (_, refl) (_, refl))
linked_gives binary.Less line x y turns v right h g =
    gives_then (λ b. with_turns b.turns (binary_answer binary.Less line x y v b.value)) g (λ w. gives_two (x || y) two.LessUnsigned two.Less line v w turns (_, refl) (_, refl))
linked_gives binary.LessEqual line x y turns v right h g =
    gives_then (λ b. with_turns b.turns (binary_answer binary.LessEqual line x y v b.value)) g (λ w. gives_two (x || y) two.LessEqualUnsigned two.LessEqual line v w turns (_, refl) (_, refl))
linked_gives binary.Greater line x y turns v right h g =
    gives_then (λ b. with_turns b.turns (binary_answer binary.Greater line x y v b.value)) g (λ w. gives_two (x || y) two.GreaterUnsigned two.Greater line v w turns (_, refl) (_, refl))
linked_gives binary.GreaterEqual line x y turns v right h g =
    gives_then (λ b. with_turns b.turns (binary_answer binary.GreaterEqual line x y v b.value)) g (λ w. gives_two (x || y) two.GreaterEqualUnsigned two.GreaterEqual line v w turns (_, refl) (_, refl))
linked_gives binary.ShiftLeft line x y turns v right h g = absurd (cc)
linked_gives binary.ShiftRight line x y turns v right h g = absurd (cc)
linked_gives binary.Add line x y turns v right h g = absurd (cc)
linked_gives binary.Subtract line x y turns v right h g = absurd (cc)
linked_gives binary.Multiply line x y turns v right h g = absurd (cc)
linked_gives binary.Divide line x y turns v right h g = absurd (cc)
linked_gives binary.Remainder line x y turns v right h g = absurd (cc)

mutual
  pub quiet_gives : (file : File) (e : tree.ExprTree) (s : BodyState) (turns : ℕ) → is_quiet e ≡ true → Gives turns (value file e s turns)
  quiet_gives file (tree.Number n) s turns h = (pos n, refl)
  quiet_gives file (tree.Wide n) s turns h = (cast_signed w32 n, refl)
  quiet_gives file (tree.Place (tree.Variable n)) s turns h = (scalar_value s (variable file s n.id), refl)
  quiet_gives file (tree.Place (tree.Element n m e)) s turns h = absurd (cc)
  quiet_gives file (tree.ExprTree.Call f args) s turns h = absurd (cc)
  quiet_gives file (tree.Paren e) s turns h = quiet_gives file e s turns h
  quiet_gives file (tree.Unary op m e) s turns h =
      gives_then (λ n. with_turns n.turns (unary_answer op m.line (type_in file s e) n.value)) (quiet_gives file e s turns (rest (is_quiet_one op) (is_quiet e) h))
      (λ v. unary_gives op m.line (type_in file s e) v turns (first (is_quiet_one op) (is_quiet e) h))
  quiet_gives file (tree.Chain l x links) s turns h =
      gives_then (chained file links s (type_in file s x)) (quiet_gives file x s turns (first (is_quiet x) (are_quiet links) h)) (λ v. links_give file links s (type_in file s x) turns v (rest (is_quiet x) (are_quiet links) h))
  quiet_gives file (tree.Choice x a b) s turns h =
      let more = rest (is_quiet x) (is_quiet a && is_quiet b) h in
      gives_then (λ n. if is_zero n.value then value file b s n.turns else value file a s n.turns) (quiet_gives file x s turns (first (is_quiet x) (is_quiet a && is_quiet b) h))
      (λ v. gives_if (is_zero v) (value file b s turns) (value file a s turns) (quiet_gives file b s turns (rest (is_quiet a) (is_quiet b) more)) (quiet_gives file a s turns (first (is_quiet a) (is_quiet b) more)))

  links_give : (file : File) (ls : tree.Links) (s : BodyState) (y : Bool) (turns : ℕ) (v : ℤ) → are_quiet ls ≡ true → Gives turns (chained file ls s y (left v turns))
  links_give file tree.no_links s y turns v h = (v, refl)
  links_give file (tree.link op m e more) s y turns v h =
      let inner = rest (is_quiet_two op) (is_quiet e && are_quiet more) h in
      gives_then (chained file more s (type_of_two op y (type_in file s e)))
      (linked_gives op m.line y (type_in file s e) turns v (value file e s) (first (is_quiet_two op) (is_quiet e && are_quiet more) h) (quiet_gives file e s turns (first (is_quiet e) (are_quiet more) inner)))
      (λ w. links_give file more s (type_of_two op y (type_in file s e)) turns w (rest (is_quiet e) (are_quiet more) inner))
