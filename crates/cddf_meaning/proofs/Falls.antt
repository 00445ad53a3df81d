-- Turns never grow in an expression.
use Rattle.std.proofs.Common.{ℕ, ◌≤◌, Bool, true, false, if◌then◌else◌, List, ◌∷◌, Option, Some, None, Ok, Err, ℤ, pos, arith}
use Rattle.c_int.specs.Operators.{is_zero}
use Rattle.cddf_meaning.specs.Answers.{Answer, Left, and_then, left, with_turns}
use Rattle.cddf_meaning.specs.File.{File, variable, type_in}
use Rattle.cddf_meaning.specs.Moves.{Falls, CallsFall}
use Rattle.cddf_meaning.specs.Operators.{binary_answer, unary_answer}
use Rattle.cddf_meaning.specs.BodyState.{BodyState}
use Rattle.cddf_meaning.specs.Value.{value, place_value, values, chained, linked, call_value, as_truth, element_at, elements}
use Rattle.cddf_meaning.specs.ExpressionTypes.{type_of_two}
use Rattle.cddf_meaning.specs.Variables.{find}
use Rattle.cddf_meaning.specs.declared.variable.Variable.{Variable}
use Rattle.cddf_meaning.specs.declared.variable.Variable.TheVariants.{Constant, Function, Scalar, Array, Window, Stream, Item}
use Rattle.os_ast.specs.Trees as tree
use Rattle.os_ast.specs.declared.expr.Binary.{Binary}
use Rattle.os_ast.specs.declared.expr.Binary.TheVariants as binary

same : (n : ℕ) → n ≤ n
same n = omega arith

pub falls-less : {A : Type 0} (turns less : ℕ) (a : Answer (Left A)) → less ≤ turns → Falls less a → Falls turns a
falls-less turns less (Err ending) h f = tt
falls-less turns less (Ok n) h f = omega (arith, h, f)

pub falls-then : {A B : Type 0} (turns : ℕ) (a : Answer (Left A)) (next : Left A → Answer (Left B)) → Falls turns a →
    ((n : Left A) → Falls n.turns (next n)) → Falls turns (and_then a next)
falls-then turns (Err ending) next h rest = tt
falls-then turns (Ok n) next h rest = falls-less turns n.turns (next n) h (rest n)

pub falls-with : {A : Type 0} (turns : ℕ) (a : Answer A) → Falls turns (with_turns turns a)
falls-with turns (Err ending) = tt
falls-with turns (Ok v) = same turns

pub falls-if : {A : Type 0} (t : Bool) (turns : ℕ) (a b : Answer (Left A)) → Falls turns a → Falls turns b → Falls turns (if t then a else b)
falls-if true turns a b f g = f
falls-if false turns a b f g = g

pub call-falls : (file : File) → CallsFall file → (v : Option Variable) (args : Left (List ℤ)) → Falls args.turns (call_value file.calls v args)
call-falls file calls None args = same args.turns
call-falls file calls (Some (Function f)) args = calls f args.value args.turns
call-falls file calls (Some (Constant v)) args = same args.turns
call-falls file calls (Some (Scalar v)) args = same args.turns
call-falls file calls (Some (Array vs)) args = same args.turns
call-falls file calls (Some (Window h)) args = same args.turns
call-falls file calls (Some (Stream first count)) args = same args.turns
call-falls file calls (Some (Item item)) args = same args.turns

linked-falls : (op : Binary) (line : ℕ) (u v : Bool) (a : Left ℤ) (right : ℕ → Answer (Left ℤ)) → ((turns : ℕ) → Falls turns (right turns)) →
    Falls a.turns (linked op line u v a right)
linked-falls binary.And line u v a right f =
    falls-if (is_zero a.value) a.turns (Ok (left (pos 0) a.turns)) (and_then (right a.turns) as_truth) (same a.turns)
    (falls-then a.turns (right a.turns) as_truth (f a.turns) (λ n. same n.turns))
linked-falls binary.Or line u v a right f =
    falls-if (is_zero a.value) a.turns (and_then (right a.turns) as_truth) (Ok (left (pos 1) a.turns))
    (falls-then a.turns (right a.turns) as_truth (f a.turns) (λ n. same n.turns)) (same a.turns)
linked-falls op line u v a right f =
    falls-then a.turns (right a.turns) (λ b. with_turns b.turns (binary_answer op line u v a.value b.value)) (f a.turns)
    (λ n. falls-with n.turns (binary_answer op line u v a.value n.value))

mutual
  pub value-falls : (file : File) → CallsFall file → (e : tree.ExprTree) (s : BodyState) (turns : ℕ) → Falls turns (value file e s turns)
  value-falls file calls (tree.Number n) s turns = same turns
  value-falls file calls (tree.Wide n) s turns = same turns
  value-falls file calls (tree.Place t) s turns = place-falls file calls t s turns
  value-falls file calls (tree.ExprTree.Call f args) s turns =
      falls-then turns (values file args s turns) (call_value file.calls (variable file s f.id)) (values-falls file calls args s turns)
      (call-falls file calls (variable file s f.id))
  value-falls file calls (tree.Paren e) s turns = value-falls file calls e s turns
  value-falls file calls (tree.Unary op m e) s turns =
      falls-then turns (value file e s turns) (λ n. with_turns n.turns (unary_answer op m.line (type_in file s e) n.value)) (value-falls file calls e s turns)
      (λ n. falls-with n.turns (unary_answer op m.line (type_in file s e) n.value))
  value-falls file calls (tree.Chain l first links) s turns =
      falls-then turns (value file first s turns) (chained file links s (type_in file s first)) (value-falls file calls first s turns)
      (chained-falls file calls links s (type_in file s first))
  value-falls file calls (tree.Choice c a b) s turns =
      falls-then turns (value file c s turns) (λ n. if is_zero n.value then value file b s n.turns else value file a s n.turns)
      (value-falls file calls c s turns)
      (λ n. falls-if (is_zero n.value) n.turns (value file b s n.turns) (value file a s n.turns)
      (value-falls file calls b s n.turns) (value-falls file calls a s n.turns))

  pub place-falls : (file : File) → CallsFall file → (t : tree.TargetTree) (s : BodyState) (turns : ℕ) → Falls turns (place_value file t s turns)
  place-falls file calls (tree.Variable n) s turns = same turns
  place-falls file calls (tree.Element n m e) s turns =
      falls-then turns (value file e s turns) (λ i. with_turns i.turns (element_at (elements s (find s.bound n.id)) m.line i.value))
      (value-falls file calls e s turns) (λ i. falls-with i.turns (element_at (elements s (find s.bound n.id)) m.line i.value))

  pub values-falls : (file : File) → CallsFall file → (es : tree.Args) (s : BodyState) (turns : ℕ) → Falls turns (values file es s turns)
  values-falls file calls tree.no_args s turns = same turns
  values-falls file calls (tree.arg e es) s turns =
      falls-then turns (value file e s turns)
      (λ n. and_then (values file es s n.turns) (λ ns. Ok (left (n.value ∷ ns.value) ns.turns)))
      (value-falls file calls e s turns)
      (λ n. falls-then n.turns (values file es s n.turns) (λ ns. Ok (left (n.value ∷ ns.value) ns.turns))
      (values-falls file calls es s n.turns) (λ ns. same ns.turns))

  pub chained-falls : (file : File) → CallsFall file → (ls : tree.Links) (s : BodyState) (u : Bool) (n : Left ℤ) → Falls n.turns (chained file ls s u n)
  chained-falls file calls tree.no_links s u n = same n.turns
  chained-falls file calls (tree.link op m e rest) s u n =
      falls-then n.turns (linked op m.line u (type_in file s e) n (value file e s)) (chained file rest s (type_of_two op u (type_in file s e)))
      (linked-falls op m.line u (type_in file s e) n (value file e s) (value-falls file calls e s))
      (chained-falls file calls rest s (type_of_two op u (type_in file s e)))
