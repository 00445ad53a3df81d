use Rattle.std.proofs.Common.{ℕ, ◌+◌, ◌*◌, List, take, drop, sym, ap, ◌∙◌, arith, length-set, rules, w32}
use Rattle.std.proofs.lemmas.Int.{to_z-of_z}
use Rattle.std.proofs.lemmas.List.{take_more_set}
use Rattle.flow_core_laws.specs.declared.claim.Claim.{Claim}
use Rattle.os_code.specs.Machine.{spawned_claims}
use Rattle.control_run.proofs.Joining.{joined, joined-more, joined-small, joined-stops, horizons-more}
use Rattle.control_run.proofs.claims.set_claims.Goals as goal

pub returns-in-Err-clause-claims : goal.returns-in-Err-clause-claims
returns-in-Err-clause-claims c =
    let low = c.loop-k-test.true in
    let pairs = c.requires.pairs in
    sym (joined-stops c.args.streams c.args.slots.now c.args.items.now c.args.operands.now c.loop-k.k _ _ _ low (omega (arith, low, pairs))
    (to_z-of_z w32 c.number_at-index.result (search rules) ∙ c.number_at-index.ensures) (to_z-of_z w32 c.number_at-burst.result (search rules) ∙ c.number_at-burst.ensures)
    (take c.loop-k.k c.loop-k.claims) c.in-Err.trap (sym c.in-Err.ensures.claim))
    ∙ c.loop-k.invariant.claims

pub loop-k-preserved : goal.loop-k-preserved
loop-k-preserved c =
    let low = c.loop-k-test.true in
    let pairs = c.requires.pairs in
    let room = c.loop-k.invariant.room in
    let so_far = c.loop-k.invariant.positions in
    let few = c.loop-k.invariant.low in
    let same = c.in-Ok.ensures.positions in
    let small = joined-small c.args.streams c.args.slots.now c.args.items.now c.args.operands.now c.loop-k.k _ _ _ low (omega (arith, low, pairs))
    (to_z-of_z w32 c.number_at-index.result (search rules) ∙ c.number_at-index.ensures) (to_z-of_z w32 c.number_at-burst.result (search rules) ∙ c.number_at-burst.ensures)
    (take c.loop-k.k c.loop-k.claims) c.set_claim.new.claim (sym c.in-Ok.ensures.claim) in
    let front = take_more_set c.loop-k.claims c.loop-k.k c.set_claim.new.claim (omega (arith, low, room)) in
    record {
      claims = ap (λ (claims : List Claim). joined claims (spawned_claims c.args.streams c.args.slots.now (drop (c.loop-k.k + 1) c.args.items.now) (drop (2 * (c.loop-k.k + 1)) c.args.operands.now))) front
          ∙ joined-more c.args.streams c.args.slots.now c.args.items.now c.args.operands.now c.loop-k.k _ _ _ low (omega (arith, low, pairs))
          (to_z-of_z w32 c.number_at-index.result (search rules) ∙ c.number_at-index.ensures) (to_z-of_z w32 c.number_at-burst.result (search rules) ∙ c.number_at-burst.ensures)
          (take c.loop-k.k c.loop-k.claims) c.set_claim.new.claim (sym c.in-Ok.ensures.claim)
          ∙ c.loop-k.invariant.claims;
      positions = ap (λ (n : ℕ). c.loop-k.positions + n) same ∙ horizons-more _ _ _ _ so_far front;
      low = omega (arith, few, small, same);
      room = length-set c.loop-k.claims c.loop-k.k c.set_claim.new.claim ∙ room;
    }
