-- The claims of tokens are lawful together.
use Rattle.std.proofs.Common.{◌≡◌, ℕ, ◌+◌, ◌≤◌, List, [], ◌∷◌, ◌++◌, All, length, sum_by, subst, sym, ap, ◌∙◌, arith, length-append}
use Rattle.std.proofs.lemmas.List.Elements.{All-append, All-head, All-tail}
use Rattle.std.proofs.lemmas.List.Sums.{sum_by-cons}
use Rattle.flow_core_laws.specs.declared.activation.Activation.{Activation}
use Rattle.flow_core_laws.specs.declared.claim.Claim.{Claim}
use Rattle.flow_core_laws.specs.Limits.{activations_limit, positions_limit}
use Rattle.flow_core_laws.specs.Window.{claims_of}
use Rattle.stream_match_layouts.specs.Lawful.{AreLawful}
use Rattle.stream_match_layouts.proofs.Appending.{claims_of-push}
use Rattle.epoch_run_batches_table.specs.Tokens.{IsTokenClaim}

positions : (streams : ℕ) (cs : List Claim) → All (IsTokenClaim streams) cs → sum_by (λ (c : Claim). c.horizon) cs ≤ length cs
positions streams [] all = omega arith
positions streams (c ∷ cs) all =
    let one = (All-head (IsTokenClaim streams) c cs all).covers_one in
    let rest = positions streams cs (All-tail (IsTokenClaim streams) c cs all) in
    omega (arith, one, rest, sum_by-cons (λ (d : Claim). d.horizon) c cs)

moves : (streams : ℕ) (cs : List Claim) → All (IsTokenClaim streams) cs → sum_by (λ (c : Claim). c.skip + c.burst) cs ≤ length cs
moves streams [] all = omega arith
moves streams (c ∷ cs) all =
    let one = (All-head (IsTokenClaim streams) c cs all).moves_little in
    let rest = moves streams cs (All-tail (IsTokenClaim streams) c cs all) in
    omega (arith, one, rest, sum_by-cons (λ (d : Claim). d.skip + d.burst) c cs)

-- few tokens with few claims
pub are_lawful : (streams : ℕ) (tokens : List Activation) → length tokens ≤ activations_limit → All (IsTokenClaim streams) (claims_of tokens) → length (claims_of tokens) ≤ positions_limit → AreLawful streams tokens
are_lawful streams tokens few all within = record {
  activations_are_few = few;
  claims_are_lawful = λ k d lt. (all k d lt).lawful;
  positions_are_few = omega (arith, positions streams (claims_of tokens) all, within);
  cursors_are_small = omega (arith, moves streams (claims_of tokens) all, within);
}

-- one token more
pub more_claims : (streams : ℕ) (tokens : List Activation) (token : Activation) → All (IsTokenClaim streams) (claims_of tokens) → All (IsTokenClaim streams) token.claims → All (IsTokenClaim streams) (claims_of (tokens ++ token ∷ []))
more_claims streams tokens token all one =
    subst (All (IsTokenClaim streams)) (sym (claims_of-push tokens token)) (All-append (IsTokenClaim streams) (claims_of tokens) token.claims all one)

pub as_many : (tokens : List Activation) (token : Activation) → length (claims_of (tokens ++ token ∷ [])) ≡ length (claims_of tokens) + length token.claims
as_many tokens token = ap length (claims_of-push tokens token) ∙ length-append (claims_of tokens) token.claims
