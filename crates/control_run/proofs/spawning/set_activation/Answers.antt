use Rattle.std.proofs.Common.{◌≡◌, ◌<◌, length, List, sym, ap, subst, ◌∙◌, arith}
use Rattle.std.specs.Prelude.{All}
use Rattle.std.proofs.lemmas.List.{take_at}
use Rattle.flow_core_laws.specs.declared.claim.Claim.{Claim}
use Rattle.os_code.specs.declared.site.SiteItem.{SiteItem}
use Rattle.os_code.specs.Machine.{spawned_claims}
use Rattle.control_run.proofs.Claimed.{made-few, made-sum, made-streams, made-nothing, all-made-so}
use Rattle.control_run.proofs.spawning.set_activation.Goals as goal

pub limit-requires : goal.limit-requires
limit-requires c =
    let is = all-made-so _ _ _ _ c.set_claims.ensures.claims c.in-Ok.is ∙ ap (λ (items : List SiteItem). spawned_claims c.args.streams c.args.slots.now items c.args.operands.now) c.as_slice-2.ensures in
    let few = made-few c.args.streams c.args.slots.now c.args.site.now.items c.args.operands.now _ c.requires.pairs (sym is) in
    let sum = made-sum c.args.streams c.args.slots.now c.args.site.now.items c.args.operands.now _ c.requires.pairs (sym is) in
    let most = c.requires.few in
    let before = c.requires.positions in
    let e = c.in-Ok.ensures.positions in
    omega (arith, few, sum, most, before, e)

pub give-requires-clause-streams : goal.give-requires-clause-streams
give-requires-clause-streams c =
    let is = all-made-so _ _ _ _ c.set_claims.ensures.claims c.in-Ok.is ∙ ap (λ (items : List SiteItem). spawned_claims c.args.streams c.args.slots.now items c.args.operands.now) c.as_slice-2.ensures in
    let same = c.as_mut_slice-3.ensures.value ∙ take_at c.set_claims.new.claims _ _ (c.set_claims.auto.claims ∙ ap length c.as_mut_slice-2.ensures.value) in
    subst (λ (claims : List Claim). All (λ (claim : Claim). claim.stream < length c.args.made.now.skips) claims) (sym same)
    (made-streams c.args.streams c.args.slots.now c.args.site.now.items c.args.operands.now _ (length c.args.made.now.skips) c.requires.pairs (sym is) c.requires.streams)

pub give-requires-clause-nothing : goal.give-requires-clause-nothing
give-requires-clause-nothing c =
    let is = all-made-so _ _ _ _ c.set_claims.ensures.claims c.in-Ok.is ∙ ap (λ (items : List SiteItem). spawned_claims c.args.streams c.args.slots.now items c.args.operands.now) c.as_slice-2.ensures in
    let same = c.as_mut_slice-3.ensures.value ∙ take_at c.set_claims.new.claims _ _ (c.set_claims.auto.claims ∙ ap length c.as_mut_slice-2.ensures.value) in
    subst (λ (claims : List Claim). All (λ (claim : Claim). claim.skip ≡ 0) claims) (sym same)
    (made-nothing c.args.streams c.args.slots.now c.args.site.now.items c.args.operands.now _ c.requires.pairs (sym is))
