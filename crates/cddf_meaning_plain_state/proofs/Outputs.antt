-- Where no item is left, nothing is written and nothing is asked of it.
use Rattle.std.proofs.Common.{◌≡◌, ℕ, zero, suc, true, List, [], ◌∷◌, ◌++◌, ◌≤◌, length, drop, refl, ap, arith, ◌∙◌, ℤ}
use Rattle.std.proofs.lemmas.List.{append-nil}
use Rattle.cddf_meaning.specs.Body.{gives_bytes, outputs_of}
use Rattle.flow_core_laws.specs.declared.claim.Claim.{Claim}

none-left : {A : Type 0} → (n : ℕ) (xs : List A) → length xs ≤ n → drop n xs ≡ []
none-left zero [] h = refl
none-left zero (x ∷ xs) h = search (h, arith)
none-left (suc n) [] h = refl
none-left (suc n) (x ∷ xs) h = none-left n xs (omega (arith, h))

gives-none : (cs : List Claim) → gives_bytes cs [] ≡ true
gives-none [] = refl
gives-none (c ∷ cs) = refl

outputs_of-none : (cs : List Claim) → outputs_of cs [] ≡ []
outputs_of-none [] = refl
outputs_of-none (c ∷ cs) = refl

pub gives-end : (n : ℕ) (cs : List Claim) (items : List (List ℤ)) → length items ≤ n → gives_bytes cs (drop n items) ≡ true
gives-end n cs items h = ap (gives_bytes cs) (none-left n items h) ∙ gives-none cs

pub outputs_of-end : (n : ℕ) (cs : List Claim) (items : List (List ℤ)) (so : List ℤ) → length items ≤ n → so ++ outputs_of cs (drop n items) ≡ so
outputs_of-end n cs items so h = ap (λ vs. so ++ vs) (ap (outputs_of cs) (none-left n items h) ∙ outputs_of-none cs) ∙ append-nil so
