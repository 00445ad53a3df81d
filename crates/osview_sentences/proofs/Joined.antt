-- Texts that were added one behind the other.
use Rattle.std.proofs.Common.{◌≡◌, ◌∙◌, ℕ, List, ◌++◌, ap, append_assoc}

-- one text behind another
pub behind : (old a b : List ℕ) {mid new : List ℕ} → mid ≡ old ++ a → new ≡ mid ++ b → new ≡ old ++ (a ++ b)
behind old a b first last = last ∙ ap (λ x. x ++ b) first ∙ append_assoc old a b

-- one that was found to be this
pub behind_as : (old a b : List ℕ) {mid new found : List ℕ} → mid ≡ old ++ a → new ≡ mid ++ found → found ≡ b → new ≡ old ++ (a ++ b)
behind_as old a b {mid} first last is = behind old a b first (last ∙ ap (λ x. mid ++ x) is)
