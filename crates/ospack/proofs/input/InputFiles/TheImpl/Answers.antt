use Rattle.std.proofs.Common.{◌≡◌, ℕ, Option, None, List, Result, Ok, Err, refl, rules, IfOk, MatchResult, ◌<◌}
use Rattle.std.specs.Prelude.{⊤}
use Rattle.ospack.proofs.input.InputFiles.TheImpl.Goals as goal

-- what isn't told stays so, whatever is answered
untold : {A B : Type 0} (r : Result A B) → let none : Option (List ℕ) = None in MatchResult r (λ _. none ≡ none) (λ _. none ≡ none)
untold (Ok x) = refl
untold (Err e) = refl

never_at_end : {B : Type 0} (r : Result ℕ B) (room : ℕ) → IfOk r (λ n. n ≡ 0 → 0 < room → ⊤)
never_at_end (Ok n) room = λ _ _. tt
never_at_end (Err e) room = tt

pub open-tells : goal.open-tells
open-tells g c = search (untold c.result, rules)

pub read-tells : goal.read-tells
read-tells g c = search (untold c.result, never_at_end, rules)
