use Rattle.std.proofs.Common.{◌∙◌, ◌≤◌, length, arith, sym}
use Rattle.wait_certs.proofs.Chains.{chain_of, exist_of, linked_of}
use Rattle.wait_certs.proofs.check.check_chain.Goals as goal

pub returns-then-not-are_frames : goal.returns-then-not-are_frames
returns-then-not-are_frames c = λ activations of. (
  λ h. absurd (cc),
  λ chain. absurd (c.are_frames.ensures.no c.if-not-are_frames.true (exist_of c.args.layout.now c.requires activations of c.args.chain.now chain)),
)

pub returns-then-not-are_linked : goal.returns-then-not-are_linked
returns-then-not-are_linked c = λ activations of. (
  λ h. absurd (cc),
  λ chain.
      let (k, lt, apart) = c.are_linked.ensures.no activations of c.if-not-are_linked.true in
      sym apart ∙ linked_of c.args.layout.now c.requires activations of c.args.chain.now chain k lt,
)

pub returns : goal.returns
returns c = λ activations of.
    let vain = c.in_ok-vain.ensures activations of in
    let some : 1 ≤ length c.args.chain.now = omega (arith, c.if-chain-eq0.false) in (
      λ h. chain_of c.args.layout.now c.requires activations of c.args.chain.now some (c.are_frames.ensures.yes c.if-not-are_frames.false) (c.are_linked.ensures.yes activations of c.if-not-are_linked.false) (vain.0 h),
      λ chain. vain.1 chain.ends_in_vain,
    )
