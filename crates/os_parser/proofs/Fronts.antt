-- Tokens are the front of a program where they mean one, or are refused behind the last of them.
use Rattle.std.proofs.Common.{◌≡◌, ◌==◌, ◌↔◌, ℕ, suc, Bool, true, false, IsTrue, List, [], ◌∷◌, length, refl, sym, ◌∙◌, subst, arith}
use Rattle.std.proofs.lemmas.Bool.{eqb-true, eq-eqb}
use Rattle.std.proofs.lemmas.List.{take_all, length-map, append-nil}
use Rattle.os_ast.specs.Fronts.{Begun, kinds_of, IsPlace}
use Rattle.os_ast.specs.Leveled as leveled
use Rattle.os_ast.specs.Means.{Means}
use Rattle.os_ast.specs.Trees.{ProgramTree}
use Rattle.os_ast.proofs.Fits.{means-kinds}
use Rattle.os_lexer.specs.declared.token.Token.{Token}
use Rattle.os_parser_places.proofs.PlaceOfRefusal.{begun-front}

pub means-begun : (tokens : List Token) (p : ProgramTree) → Means tokens p → Begun (kinds_of tokens)
means-begun tokens p means = record {
  whole = p;
  leveled = means.leveled;
  more = [];
  spelled = means-kinds tokens p means ∙ sym (append-nil (kinds_of tokens));
}

none-begun : Begun []
none-begun = record { whole = []; leveled = record { items = leveled.nil; depth = omega arith }; more = []; spelled = refl }

as_long : (tokens : List Token) → length (kinds_of tokens) ≡ length tokens
as_long tokens = length-map tokens (λ (t : Token). t.kind)

pub end-begun : (tokens : List Token) (place : ℕ) → IsPlace tokens place → place ≡ length tokens → Begun (kinds_of tokens)
end-begun [] place at end = none-begun
end-begun (t ∷ ts) place at end =
    subst Begun (take_all (suc (length ts)) (kinds_of (t ∷ ts)) (omega (arith, as_long ts))) (at.before (length ts) (omega (arith, end)))

pub other-not_begun : (tokens : List Token) (place : ℕ) → IsPlace tokens place → (place ≡ length tokens → ⊥) → Begun (kinds_of tokens) → ⊥
other-not_begun tokens place at other b = at.refused (omega (arith, at.within, other)) (begun-front (suc place) (kinds_of tokens) b)

-- where tokens are refused at a place, they are a front exactly where it is that behind all of them
pub told : (tokens : List Token) (place : ℕ) (b : Bool) → (place == length tokens) ≡ b → IsPlace tokens place → IsTrue b ↔ Begun (kinds_of tokens)
told tokens place true e at = ((λ _. end-begun tokens place at (eqb-true place (length tokens) e)), (λ _. refl))
told tokens place false e at = (
  (λ (t : false ≡ true). absurd (cc t)),
  (λ b. absurd (other-not_begun tokens place at (λ same. absurd (cc (e, eq-eqb place (length tokens) same))) b)),
)
