use Rattle.std.proofs.Common.{◌≡◌, ◌∙◌, ◌+◌, ◌-◌, ◌^◌, ◌<◌, ◌++◌, ◌∷◌, [], arith, sym, ap, subst, length, length-append, append_assoc, take, List}
use Rattle.flow_core_laws.specs.declared.claim.Claim.{Claim}
use Rattle.flow_core_laws.specs.Window.{Window, claim_at}
use Rattle.stream_match_layouts.specs.declared.layout.Layout.{Layout}
use Rattle.stream_match_layouts.specs.Layout.{claims_in, IsOfWindows}
use Rattle.stream_match_layouts.specs.Cursors.{HasCursors}
use Rattle.stream_match_layouts.specs.Offsets.{offset_by}
use Rattle.stream_match_layouts.proofs.Windows.{first_windows}
use Rattle.stream_match_layouts.proofs.Appending.{alike_fits, length-before, before_few, room_at, spans_few, added_claim, added_activation}
use Rattle.stream_match_layouts.proofs.OffsetsBehind.{behind-more, offset-fits, offset_by-alike}
use Rattle.epoch_run.specs.NextSpans.{joined}
use Rattle.epoch_run.specs.declared.next_spans.NextSpans.{NextSpans}
use Rattle.epoch_run.proofs.LaidBehind.{joined-with_next, length-joined}
use Rattle.epoch_run.proofs.next_spans.NextSpans.add.Goals as goal

pub overflow_add-frame : goal.overflow_add-frame
overflow_add-frame c =
    let l = joined c.args.layout.now c.args.self.now in
    omega (arith, length-before l c.args.activation.now c.requires, before_few l c.args.activation.now c.requires, length-append c.args.layout.now.starts c.args.self.now.starts, c.len.ensures, c.len-2.ensures)

pub overflow_sub-frame : goal.overflow_sub-frame
overflow_sub-frame c =
    let l = joined c.args.layout.now c.args.self.now in
    omega (arith, length-before l c.args.activation.now c.requires, length-append c.args.layout.now.starts c.args.self.now.starts, c.len.ensures, c.len-2.ensures)

pub overflow_cast-frame : goal.overflow_cast-frame
overflow_cast-frame c =
    let l = joined c.args.layout.now c.args.self.now in
    omega (arith, length-before l c.args.activation.now c.requires, before_few l c.args.activation.now c.requires, length-append c.args.layout.now.starts c.args.self.now.starts, c.len.ensures, c.len-2.ensures)

pub next-offset-requires : goal.next-offset-requires
next-offset-requires c =
    let items = c.as_slice-claim-items.ensures in
    let k = c.loop-claim.claim-index in
    let lt = subst (λ xs. k < length xs) items c.loop-claim-test.true in
    subst (λ xs. offset_by c.loop-claim.offsets (claim_at xs k) + (claim_at xs k).horizon < 2 ^ 32) (sym items)
    (offset-fits (take k c.args.activation.now.claims) c.loop-claim.offsets (claim_at c.args.activation.now.claims k) c.loop-claim.invariant.offsets
    (λ b. alike_fits (joined c.args.layout.now c.args.self.now) c.args.activation.now c.requires b k lt))

pub take-requires : goal.take-requires
take-requires c =
    let layout = c.args.layout.now in
    let items = c.as_slice-claim-items.ensures in
    let k = c.loop-claim.claim-index in
    let room = room_at (joined layout c.args.self.now) c.args.activation.now c.requires (joined layout c.loop-claim.self) (c.len.result + c.len-2.result - 1) k
    (subst (λ xs. k < length xs) items c.loop-claim-test.true) (length-joined layout c.loop-claim.self ∙ sym (length-joined layout c.args.self.now)) c.loop-claim.invariant.added in
    subst (λ xs. HasCursors c.loop-claim.self.cursors (claim_at xs k)) (sym items) room.cursors

pub loop-claim-preserved : goal.loop-claim-preserved
loop-claim-preserved c =
    let layout = c.args.layout.now in
    let items = c.as_slice-claim-items.ensures in
    let k = c.loop-claim.claim-index in
    let frame = c.len.result + c.len-2.result - 1 in
    let before = joined layout c.args.self.now in
    let now = joined layout c.loop-claim.self in
    let cl = c.args.activation.now.claims in
    let claim : Claim = claim_at c.as_slice-claim-items.result.now k in
    let is : claim ≡ claim_at cl k = ap (λ xs. claim_at xs k) items in
    let lt : k < length cl = subst (λ xs. k < length xs) items c.loop-claim-test.true in
    let same = length-joined layout c.loop-claim.self ∙ sym (length-joined layout c.args.self.now) in
    let room = room_at before c.args.activation.now c.requires now frame k lt same c.loop-claim.invariant.added in
    let exists : claim.stream < length now.writers = subst (λ (d : Claim). d.stream < length now.writers) (sym is) room.stream_exists in
    let self = c.in_ok-take.ensures in
    let offset = c.next-offset.ensures.offset ∙ offset_by-alike (take k cl) c.loop-claim.offsets claim c.loop-claim.invariant.offsets in
    record {
      added = λ ws of. subst (λ (l : Layout). IsOfWindows l (ws ++ first_windows frame (claims_in ws) cl (k + 1))) (sym (ap (joined layout) self ∙ joined-with_next layout c.loop-claim.self frame claim c.next-offset.result))
          (added_claim before now frame k c.next-offset.result cl claim is lt exists offset c.loop-claim.invariant.added ws of);
      starts = ap (λ (n : NextSpans). n.starts) self ∙ c.loop-claim.invariant.starts;
      offsets = behind-more cl k claim c.loop-claim.offsets c.next-offset.new.self lt is c.loop-claim.invariant.offsets c.next-offset.ensures.counted;
    }

pub overflow_add-len : goal.overflow_add-len
overflow_add-len c =
    let layout = c.args.layout.now in
    let cl = c.args.activation.now.claims in
    let frame = c.len.result + c.len-2.result - 1 in
    let end : c.loop-claim.claim-index ≡ length cl = omega (arith, ap length c.as_slice-claim-items.ensures) in
    let added = subst (λ n. (ws : List Window) → IsOfWindows (joined layout c.args.self.now) ws → IsOfWindows (joined layout c.loop-claim.self) (ws ++ first_windows frame (claims_in ws) cl n)) end c.loop-claim.invariant.added in
    omega (
      arith,
      spans_few (joined layout c.args.self.now) c.args.activation.now c.requires (joined layout c.loop-claim.self) frame added (length-joined layout c.loop-claim.self ∙ sym (length-joined layout c.args.self.now)),
      length-append layout.spans c.loop-claim.self.spans,
      c.len-3.ensures,
      c.len-4.ensures,
    )

pub overflow_cast-len : goal.overflow_cast-len
overflow_cast-len c =
    let layout = c.args.layout.now in
    let cl = c.args.activation.now.claims in
    let frame = c.len.result + c.len-2.result - 1 in
    let end : c.loop-claim.claim-index ≡ length cl = omega (arith, ap length c.as_slice-claim-items.ensures) in
    let added = subst (λ n. (ws : List Window) → IsOfWindows (joined layout c.args.self.now) ws → IsOfWindows (joined layout c.loop-claim.self) (ws ++ first_windows frame (claims_in ws) cl n)) end c.loop-claim.invariant.added in
    omega (
      arith,
      spans_few (joined layout c.args.self.now) c.args.activation.now c.requires (joined layout c.loop-claim.self) frame added (length-joined layout c.loop-claim.self ∙ sym (length-joined layout c.args.self.now)),
      length-append layout.spans c.loop-claim.self.spans,
      c.len-3.ensures,
      c.len-4.ensures,
    )

pub returns : goal.returns
returns c =
    let layout = c.args.layout.now in
    let cl = c.args.activation.now.claims in
    let frame = c.len.result + c.len-2.result - 1 in
    let end : c.loop-claim.claim-index ≡ length cl = omega (arith, ap length c.as_slice-claim-items.ensures) in
    let added = subst (λ n. (ws : List Window) → IsOfWindows (joined layout c.args.self.now) ws → IsOfWindows (joined layout c.loop-claim.self) (ws ++ first_windows frame (claims_in ws) cl n)) end c.loop-claim.invariant.added in
    let count : c.len-3.result + c.len-4.result ≡ length (layout.spans ++ c.loop-claim.self.spans) = omega (arith, length-append layout.spans c.loop-claim.self.spans, c.len-3.ensures, c.len-4.ensures) in
    let frame_is : frame ≡ length (layout.starts ++ c.args.self.now.starts) - 1 = omega (arith, length-append layout.starts c.args.self.now.starts, c.len.ensures, c.len-2.ensures) in
    added_activation (joined layout c.args.self.now) (joined layout c.loop-claim.self) c.args.activation.now frame (layout.starts ++ c.push.new.self) frame_is
    (ap (λ xs. layout.starts ++ xs) (c.in_ok-push.ensures.ok ∙ ap (λ xs. xs ++ (c.len-3.result + c.len-4.result) ∷ []) c.loop-claim.invariant.starts ∙ ap (λ n. c.args.self.now.starts ++ n ∷ []) count)
    ∙ sym (append_assoc layout.starts c.args.self.now.starts (length (layout.spans ++ c.loop-claim.self.spans) ∷ []))) added
