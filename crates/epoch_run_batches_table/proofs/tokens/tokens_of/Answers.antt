use Rattle.std.proofs.Common.{◌≡◌, ◌+◌, [], ◌∷◌, All, List, length, length-append, subst, sym, ap, ◌∙◌, arith}
use Rattle.flow_core_laws.specs.declared.activation.Activation.{Activation}
use Rattle.flow_core_laws.specs.Window.{claims_of}
use Rattle.epoch_run_batches_table.specs.Tokens.{IsTokenClaim}
use Rattle.epoch_run_batches_table.proofs.Claimed.{are_lawful, as_many, more_claims}
use Rattle.epoch_run_batches_table.proofs.tokens.tokens_of.Goals as goal

pub loop-number-preserved : goal.loop-number-preserved
loop-number-preserved c =
    let was : List Activation = c.loop-number.tokens in
    let token : Activation = c.in_ok-token.token in
    let streams = 2 + length c.args.batches.now in
    let sum : c.saturating_add-claims.result ≡ c.loop-number.claims + length token.claims = omega (arith, c.saturating_add-claims.ensures, c.len.ensures, c.if-claims.false, c.loop-number.invariant.within) in
    record {
      counted = ap length c.in_ok-push.ensures.ok ∙ length-append was (token ∷ []) ∙ (omega (arith, c.loop-number.invariant.counted));
      are_tokens = subst (λ ts. All (IsTokenClaim streams) (claims_of ts)) (sym c.in_ok-push.ensures.ok) (more_claims streams was token c.loop-number.invariant.are_tokens c.in_ok-token.ensures);
      claimed = ap (λ ts. length (claims_of ts)) c.in_ok-push.ensures.ok ∙ as_many was token ∙ (omega (arith, sum, c.loop-number.invariant.claimed));
      within = omega (arith, c.if-claims.false);
    }

pub returns : goal.returns
returns c =
    are_lawful (2 + length c.args.batches.now) c.loop-number.tokens (omega (arith, c.loop-number.invariant.counted, c.loop-number-test.false, c.requires.few, c.loop-number.auto.number-end)) c.loop-number.invariant.are_tokens (omega (arith, c.loop-number.invariant.claimed, c.loop-number.invariant.within))
