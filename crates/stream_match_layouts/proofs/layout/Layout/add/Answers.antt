use Rattle.std.proofs.Common.{◌≡◌, ◌∙◌, ◌+◌, ◌-◌, ◌^◌, ◌<◌, ◌++◌, ◌∷◌, [], arith, sym, ap, subst, length, take, List}
use Rattle.flow_core_laws.specs.declared.claim.Claim.{Claim}
use Rattle.flow_core_laws.specs.Window.{Window, claim_at}
use Rattle.stream_match_layouts.specs.declared.layout.Layout.{Layout}
use Rattle.stream_match_layouts.specs.Layout.{claims_in, IsOfWindows}
use Rattle.stream_match_layouts.specs.Adding.{HasRoom}
use Rattle.stream_match_layouts.proofs.Pushing.{length-writers_after}
use Rattle.stream_match_layouts.specs.Offsets.{offset_by}
use Rattle.stream_match_layouts.proofs.Windows.{first_windows}
use Rattle.stream_match_layouts.proofs.Appending.{alike_fits, length-before, before_few, room_at, spans_few, added_claim, added_activation}
use Rattle.stream_match_layouts.proofs.OffsetsBehind.{behind-more, offset-fits, offset_by-alike}
use Rattle.stream_match_layouts.proofs.layout.Layout.add.Goals as goal

pub overflow_cast-frame : goal.overflow_cast-frame
overflow_cast-frame c = omega (arith, length-before c.args.self.now c.args.activation.now c.requires, before_few c.args.self.now c.args.activation.now c.requires)

pub next-offset-requires : goal.next-offset-requires
next-offset-requires c =
    let items = c.as_slice-claim-items.ensures in
    let k = c.loop-claim.claim-index in
    let lt = subst (λ xs. k < length xs) items c.loop-claim-test.true in
    subst (λ xs. offset_by c.loop-claim.offsets (claim_at xs k) + (claim_at xs k).horizon < 2 ^ 32) (sym items)
    (offset-fits (take k c.args.activation.now.claims) c.loop-claim.offsets (claim_at c.args.activation.now.claims k) c.loop-claim.invariant.offsets
    (λ b. alike_fits c.args.self.now c.args.activation.now c.requires b k lt))

pub take-requires : goal.take-requires
take-requires c =
    let items = c.as_slice-claim-items.ensures in
    let k = c.loop-claim.claim-index in
    subst (λ xs. HasRoom c.loop-claim.self (claim_at xs k)) (sym items)
    (room_at c.args.self.now c.args.activation.now c.requires c.loop-claim.self (c.len.result - 1) k (subst (λ xs. k < length xs) items c.loop-claim-test.true) c.loop-claim.invariant.streams c.loop-claim.invariant.added)

pub loop-claim-preserved : goal.loop-claim-preserved
loop-claim-preserved c =
    let items = c.as_slice-claim-items.ensures in
    let k = c.loop-claim.claim-index in
    let frame = c.len.result - 1 in
    let cl = c.args.activation.now.claims in
    let claim : Claim = claim_at c.as_slice-claim-items.result.now k in
    let is : claim ≡ claim_at cl k = ap (λ xs. claim_at xs k) items in
    let lt : k < length cl = subst (λ xs. k < length xs) items c.loop-claim-test.true in
    let room = room_at c.args.self.now c.args.activation.now c.requires c.loop-claim.self frame k lt c.loop-claim.invariant.streams c.loop-claim.invariant.added in
    let exists : claim.stream < length c.loop-claim.self.writers = subst (λ (d : Claim). d.stream < length c.loop-claim.self.writers) (sym is) room.stream_exists in
    let self = c.in_ok-take.ensures in
    let offset = c.next-offset.ensures.offset ∙ offset_by-alike (take k cl) c.loop-claim.offsets claim c.loop-claim.invariant.offsets in
    record {
      added = λ ws of. subst (λ (l : Layout). IsOfWindows l (ws ++ first_windows frame (claims_in ws) cl (k + 1))) (sym self)
          (added_claim c.args.self.now c.loop-claim.self frame k c.next-offset.result cl claim is lt exists offset c.loop-claim.invariant.added ws of);
      starts = ap (λ (l : Layout). l.starts) self ∙ c.loop-claim.invariant.starts;
      streams = ap (λ (l : Layout). length l.writers) self ∙ length-writers_after c.loop-claim.self claim ∙ c.loop-claim.invariant.streams;
      input_len = ap (λ (l : Layout). l.input_len) self ∙ c.loop-claim.invariant.input_len;
      offsets = behind-more cl k claim c.loop-claim.offsets c.next-offset.new.self lt is c.loop-claim.invariant.offsets c.next-offset.ensures.counted;
    }

pub overflow_cast-len : goal.overflow_cast-len
overflow_cast-len c =
    let cl = c.args.activation.now.claims in
    let frame = c.len.result - 1 in
    let end : c.loop-claim.claim-index ≡ length cl = omega (arith, ap length c.as_slice-claim-items.ensures) in
    let added = subst (λ n. (ws : List Window) → IsOfWindows c.args.self.now ws → IsOfWindows c.loop-claim.self (ws ++ first_windows frame (claims_in ws) cl n)) end c.loop-claim.invariant.added in
    omega (arith, spans_few c.args.self.now c.args.activation.now c.requires c.loop-claim.self frame added c.loop-claim.invariant.streams)

pub returns-clause-added : goal.returns-clause-added
returns-clause-added c =
    let cl = c.args.activation.now.claims in
    let frame = c.len.result - 1 in
    let end : c.loop-claim.claim-index ≡ length cl = omega (arith, ap length c.as_slice-claim-items.ensures) in
    let added = subst (λ n. (ws : List Window) → IsOfWindows c.args.self.now ws → IsOfWindows c.loop-claim.self (ws ++ first_windows frame (claims_in ws) cl n)) end c.loop-claim.invariant.added in
    added_activation c.args.self.now c.loop-claim.self c.args.activation.now frame c.push.new.self (ap (λ n. n - 1) c.len.ensures)
    (c.in_ok-push.ensures.ok ∙ ap (λ xs. xs ++ c.len-2.result ∷ []) c.loop-claim.invariant.starts ∙ ap (λ n. c.args.self.now.starts ++ n ∷ []) c.len-2.ensures) added
