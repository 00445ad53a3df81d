use Rattle.std.proofs.Common.{◌≡◌, ◌∙◌, ◌+◌, ◌^◌, ◌<◌, ℕ, arith, refl, sym, ap, subst, length, take, List}
use Rattle.flow_core_laws.specs.declared.activation.Activation.{Activation}
use Rattle.flow_core_laws.specs.declared.claim.Claim.{Claim}
use Rattle.flow_core_laws.specs.Window.{claim_at, claims_of}
use Rattle.stream_match_layouts.specs.Cursors.{HasCursors}
use Rattle.stream_match_layouts.specs.Offsets.{offset_by}
use Rattle.stream_match_layouts.specs.declared.offsets.Offsets.{Offsets}
use Rattle.stream_match_layouts.proofs.OffsetsBehind.{behind-more, offset-fits, offset_by-alike}
use Rattle.epoch_run_portions.specs.Positions.{HavePassed}
use Rattle.epoch_run_portions.proofs.Passing.{HaveAdded, added_next, alike_fits, all_added, cursors_at, none_added, same_streams, spans_added, stream_exists}
use Rattle.epoch_run_portions.proofs.positions.Positions.pass.Goals as goal

pub loop-claim-init : goal.loop-claim-init
loop-claim-init c = record {
  added = λ streams passed h. none_added streams c.args.self.now.count passed c.args.activation.now.claims c.args.self.now _ h refl refl c.clear.ensures.items;
  count = refl;
  offsets = record { inputs = ap (λ (o : Offsets). o.inputs) c.new-offsets.ensures; outputs = ap (λ (o : Offsets). o.outputs) c.new-offsets.ensures };
}

pub next-offset-requires : goal.next-offset-requires
next-offset-requires c =
    let items = c.as_slice-claim-items.ensures in
    let k = c.loop-claim.claim-index in
    let lt = subst (λ xs. k < length xs) items c.loop-claim-test.true in
    subst (λ xs. offset_by c.loop-claim.offsets (claim_at xs k) + (claim_at xs k).horizon < 2 ^ 32) (sym items)
    (offset-fits (take k c.args.activation.now.claims) c.loop-claim.offsets (claim_at c.args.activation.now.claims k) c.loop-claim.invariant.offsets
    (λ b. alike_fits c.args.self.now c.args.activation.now c.requires b k lt))

pub take-requires : goal.take-requires
take-requires c =
    let items = c.as_slice-claim-items.ensures in
    let k = c.loop-claim.claim-index in
    let lt : k < length c.args.activation.now.claims = subst (λ xs. k < length xs) items c.loop-claim-test.true in
    subst (λ xs. HasCursors c.loop-claim.self.cursors (claim_at xs k)) (sym items)
    (cursors_at c.args.self.now c.args.activation.now c.requires k lt c.args.self.now.count c.loop-claim.self (c.loop-claim.invariant.added c.requires.streams c.requires.passed c.requires.have_passed))

pub loop-claim-preserved : goal.loop-claim-preserved
loop-claim-preserved c =
    let items = c.as_slice-claim-items.ensures in
    let k = c.loop-claim.claim-index in
    let frame = c.args.self.now.count in
    let cl = c.args.activation.now.claims in
    let claim : Claim = claim_at c.as_slice-claim-items.result.now k in
    let is : claim ≡ claim_at cl k = ap (λ xs. claim_at xs k) items in
    let lt : k < length cl = subst (λ xs. k < length xs) items c.loop-claim-test.true in
    let there : (streams : ℕ) (passed : List Activation) → HavePassed streams passed c.args.self.now → claim.stream < streams =
    λ streams passed h. subst (λ n. claim.stream < n) (same_streams c.args.self.now c.args.activation.now c.requires streams passed h)
    (subst (λ (d : Claim). d.stream < c.requires.streams) (sym is) (stream_exists c.args.self.now c.args.activation.now c.requires k lt)) in
    let offset = c.next-offset.ensures.offset ∙ offset_by-alike (take k cl) c.loop-claim.offsets claim c.loop-claim.invariant.offsets in
    record {
      added = λ streams passed h. added_next streams frame (claims_of passed) cl k c.loop-claim.self (c.loop-claim.invariant.added streams passed h) claim is lt (there streams passed h)
          c.next-offset.result c.take.new.self offset c.in_ok-take.ensures;
      count = c.in_ok-take.ensures.count ∙ c.loop-claim.invariant.count;
      offsets = behind-more cl k claim c.loop-claim.offsets c.next-offset.new.self lt is c.loop-claim.invariant.offsets c.next-offset.ensures.counted;
    }

pub returns-clause-passed : goal.returns-clause-passed
returns-clause-passed c = λ streams passed h.
    let cl = c.args.activation.now.claims in
    let end : c.loop-claim.claim-index ≡ length cl = omega (arith, ap length c.as_slice-claim-items.ensures) in
    let added = subst (λ n. HaveAdded streams n (claims_of passed) cl c.loop-claim.claim-index c.loop-claim.self) h.count (c.loop-claim.invariant.added streams passed h) in
    let whole = subst (λ n. HaveAdded streams (length passed) (claims_of passed) cl n c.loop-claim.self) end added in
    all_added streams passed c.args.activation.now _ (ap (λ n. n + 1) (c.loop-claim.invariant.count ∙ h.count)) (record { reads = whole.reads; writes = whole.writes; spans = whole.spans })

pub returns-clause-spans : goal.returns-clause-spans
returns-clause-spans c = λ streams passed h.
    let cl = c.args.activation.now.claims in
    let end : c.loop-claim.claim-index ≡ length cl = omega (arith, ap length c.as_slice-claim-items.ensures) in
    let added = subst (λ n. HaveAdded streams n (claims_of passed) cl c.loop-claim.claim-index c.loop-claim.self) h.count (c.loop-claim.invariant.added streams passed h) in
    spans_added streams passed c.args.activation.now c.loop-claim.self (subst (λ n. HaveAdded streams (length passed) (claims_of passed) cl n c.loop-claim.self) end added)
