-- What an accepted text says of the program that it means.
use Rattle.std.proofs.Common.{◌≡◌, ◌≤◌, ℕ, List, [], length, map, ap, arith}
use Rattle.std.proofs.lemmas.List.{length-map}
use Rattle.front_end.specs.Texts.{IsAccepted}
use Rattle.os_ast.specs.Leveled.{IsLeveled}
use Rattle.os_ast.specs.Marks.{HasPlaces}
use Rattle.os_ast.specs.Means.{Means}
use Rattle.os_ast.specs.Spelling.{spell}
use Rattle.os_ast.specs.Trees.{ProgramTree}
use Rattle.os_ast.specs.Violations.{violations}
use Rattle.os_lexer.specs.Laws.{FewTokens}
use Rattle.os_lexer.specs.declared.token.Token.{Token}

-- what the compiler asks of a program
pub record IsLawful (p : ProgramTree) : Type 0 where
  pub leveled : IsLeveled p
  pub placed : HasPlaces p
  pub lawful : violations p ≡ []
  pub few : length (spell p) ≤ 262144

-- what the laws of trees say
abbrev pub KindsAreSpelled : Type 0
KindsAreSpelled = (tokens : List Token) (p : ProgramTree) → Means tokens p → spell p ≡ map (λ (t : Token). t.kind) tokens

abbrev pub MarksHavePlaces : Type 0
MarksHavePlaces = (tokens : List Token) (p : ProgramTree) → Means tokens p → HasPlaces p

pub accepted_lawful : KindsAreSpelled → MarksHavePlaces → FewTokens → (text : List ℕ) (p : ProgramTree) → length text ≤ 262144 → IsAccepted text p → IsLawful p
accepted_lawful kinds places few_tokens text p short accepted =
    let (tokens, cover, means) = accepted.0 in
    record {
      leveled = means.leveled;
      placed = places tokens p means;
      lawful = accepted.1;
      few = omega (arith, short, few_tokens text tokens cover, ap length (kinds tokens p means), length-map tokens (λ (t : Token). t.kind));
    }
