use Rattle.std.proofs.Common.{◌≡◌, ◌∙◌, ◌≤◌, ◌++◌, ◌∷◌, [], ℕ, true, false, Option, length, get_or, set, replicate, arith, ap, sym, subst}
use Rattle.std.specs.Prelude.{option_and_then}
use Rattle.std.proofs.lemmas.List.{length_push, length-replicate, length-set}
use Rattle.stream_match_layouts.specs.Spans.{frame_count}
use Rattle.wait_certs_laws.specs.Walk.{waited_for}
use Rattle.wait_certs_laws.proofs.Growing.{IsGrown, grown_first, grown_more}
use Rattle.wait_certs.specs.Searching.{has_member, unmarked}
use Rattle.wait_certs.proofs.Growth.{few, follows_unmarked, marked_first, marked_more, next_exists, walk_by}
use Rattle.wait_certs.proofs.walking.walk_from.Goals as goal

pub walking-init : goal.walking-init
walking-init c =
    let l = c.args.layout.now in
    let frame = c.args.frame in
    let marks_are : c.mark.new.marks ≡ set (replicate (frame_count l) false) frame true = c.mark.ensures ∙ ap (λ m. set m frame true) (c.in_ok-marks.ensures ∙ ap (λ n. replicate n false) c.frames.ensures) in
    let members_are : c.push.new.self ≡ frame ∷ [] = c.in_ok-push.ensures.ok ∙ ap (λ m. m ++ frame ∷ []) c.new-members.ensures in
    record {
      one_each = ap length marks_are ∙ length-set (replicate (frame_count l) false) frame true ∙ length-replicate (frame_count l) false;
      last_exists = c.requires.exists;
      grown = λ activations of.
          let next : ℕ → Option ℕ = waited_for activations l.input_len c.args.ends.now.ends in
          subst (λ m. IsGrown next frame m frame) (sym members_are) (grown_first next frame);
      marked = λ q lt. ap (λ m. get_or m q false) marks_are ∙ marked_first (frame_count l) frame c.requires.exists q lt ∙ ap (λ m. has_member m q) (sym members_are);
    }

pub walking-preserved : goal.walking-preserved
walking-preserved c =
    let l = c.args.layout.now in
    let b = c.in-Some.next in
    let exists = c.in-Some.ensures.exists in
    let members_are : c.push-in-Some.new.self ≡ c.walking.members ++ b ∷ [] = c.in_ok-push-2.ensures.ok in
    let marks_are : c.mark-in-Some.new.marks ≡ set c.walking.marks b true = c.mark-in-Some.ensures in
    record {
      one_each = ap length marks_are ∙ length-set c.walking.marks b true ∙ c.walking.invariant.one_each;
      last_exists = exists;
      grown = λ activations of.
          let next : ℕ → Option ℕ = waited_for activations l.input_len c.args.ends.now.ends in
          let follows = follows_unmarked c.walking.marks (next c.walking.last) b (c.in-Some.ensures.next activations of ∙ ap (λ m. option_and_then (unmarked m) (next c.walking.last)) c.as_slice.ensures) in
          subst (λ m. IsGrown next c.args.frame m b) (sym members_are)
          (grown_more next c.args.frame c.walking.members c.walking.last b (c.walking.invariant.grown activations of) follows.0 (sym (c.walking.invariant.marked b exists) ∙ follows.1));
      marked = λ q lt.
          ap (λ m. get_or m q false) marks_are
          ∙ marked_more (frame_count l) c.walking.marks c.walking.members b c.walking.invariant.one_each exists c.walking.invariant.marked q lt
          ∙ ap (λ m. has_member m q) (sym members_are);
    }

pub walking-smaller : goal.walking-smaller
walking-smaller c =
    let l = c.args.layout.now in
    let is = c.requires.layout in
    let b = c.in-Some.next in
    let exists = c.in-Some.ensures.exists in
    let next : ℕ → Option ℕ = waited_for is.activations l.input_len c.args.ends.now.ends in
    let follows = follows_unmarked c.walking.marks (next c.walking.last) b (c.in-Some.ensures.next is.activations is.is_of ∙ ap (λ m. option_and_then (unmarked m) (next c.walking.last)) c.as_slice.ensures) in
    let grown = grown_more next c.args.frame c.walking.members c.walking.last b (c.walking.invariant.grown is.activations is.is_of) follows.0 (sym (c.walking.invariant.marked b exists) ∙ follows.1) in
    let most : length (c.walking.members ++ b ∷ []) ≤ frame_count l = few l is is.activations is.is_of c.args.ends.now.ends c.args.frame b (c.walking.members ++ b ∷ []) c.requires.exists grown in
    let more = length_push c.walking.members b in
    let new : length c.push-in-Some.new.self ≡ length (c.walking.members ++ b ∷ []) = ap length c.in_ok-push-2.ensures.ok in
    omega (arith, most, more, new)

pub returns : goal.returns
returns c = λ activations of.
    let l = c.args.layout.now in
    let next : ℕ → Option ℕ = waited_for activations l.input_len c.args.ends.now.ends in
    walk_by activations l.input_len c.args.ends.now.ends c.args.frame c.walking.last (frame_count l) c.walking.members c.walking.marks (c.walking.invariant.grown activations of) c.walking.invariant.marked
    (λ b e. next_exists l c.requires.layout activations of c.args.ends.now.ends c.walking.last b e)
    (c.in_default.ensures.next activations of ∙ ap (λ m. option_and_then (unmarked m) (next c.walking.last)) c.as_slice.ensures)
