-- One more part, and one more output, after those whose states were handed on.
use Rattle.std.proofs.Common.{◌≡◌, ℕ, suc, ◌≤◌, List, [], ◌∷◌, ◌++◌, length, refl, ap, arith}
use Rattle.osparts_parts.specs.declared.terms.Terms.{Terms}
use Rattle.osparts_parts.specs.Joined.{inputs_of, last_bytes, state_after}

pub one_more_input : (begin : List ℕ) (parts outputs : List (List ℕ)) (part : List ℕ) (terms : Terms) → length outputs ≡ length parts
    → inputs_of begin (parts ++ part ∷ []) outputs terms ≡ inputs_of begin parts outputs terms ++ (state_after begin outputs terms ++ part) ∷ []
one_more_input begin [] [] part terms many = refl
one_more_input begin [] (output ∷ outputs) part terms many = absurd (omega (arith, many))
one_more_input begin (first ∷ parts) [] part terms many = absurd (omega (arith, many))
one_more_input begin (first ∷ parts) (output ∷ outputs) part terms many =
    ap (λ (xs : List (List ℕ)). (begin ++ first) ∷ xs) (one_more_input (last_bytes terms.state output) parts outputs part terms (omega (arith, many)))

pub one_more_output : (begin : List ℕ) (parts outputs : List (List ℕ)) (output : List ℕ) (terms : Terms) → length parts ≤ suc (length outputs)
    → inputs_of begin parts (outputs ++ output ∷ []) terms ≡ inputs_of begin parts outputs terms
one_more_output begin [] [] output terms few = refl
one_more_output begin [] (other ∷ outputs) output terms few = refl
one_more_output begin (first ∷ []) [] output terms few = refl
one_more_output begin (first ∷ second ∷ parts) [] output terms few = absurd (omega (arith, few))
one_more_output begin (first ∷ parts) (other ∷ outputs) output terms few =
    ap (λ (xs : List (List ℕ)). (begin ++ first) ∷ xs) (one_more_output (last_bytes terms.state other) parts outputs output terms (omega (arith, few)))
