use Rattle.std.proofs.Common.{List, Option, length, refl, subst, arith}
use Rattle.flow_core_laws.specs.declared.elem.Elem.{Elem}
use Rattle.stream_match_layouts.proofs.Tallies.{frame_count-is}
use Rattle.epoch_run_stretch.specs.Consecutive.{AreConsecutive, ends_in}
use Rattle.epoch_run_stretch.specs.Ends.{AreEndsFrom}
use Rattle.epoch_run_stretch.proofs.Gathering.{held_all}
use Rattle.epoch_run_stretch.proofs.GoingOn.{consecutive_gathered, streams_in, streams_more}
use Rattle.epoch_run_stretch.proofs.held.gather.Goals as goal

pub returns-then-all_consecutive-clause-held : goal.returns-then-all_consecutive-clause-held
returns-then-all_consecutive-clause-held c = λ all run of are before.
    let layout = c.args.layout.now in
    let outcomes = c.args.outcomes.now in
    let ends = c.args.ends.now in
    let elements = c.args.elements.now in
    let firsts = c.args.firsts.now in
    let frames = frame_count-is layout run.activations of in
    let ended = c.if-all_consecutive.ensures.ends refl in
    let consecutive = subst (λ (es : List (List (Option Elem))). AreConsecutive firsts es layout outcomes (length es)) c.as_slice.ensures (c.if-all_consecutive.ensures.elements refl) in
    held_all c.apart_and_joined.ensures.join layout run of outcomes are ends (ends_in outcomes) c.add_ends.new.ends firsts elements (streams_in (length elements) outcomes) c.add_streams.new.elements c.requires.streams
    (omega (arith, c.requires.within, frames))
    (omega (arith, ended.up_to, c.len.ensures, frames))
    ended.all
    (subst (λ n. AreEndsFrom run n (ends_in outcomes)) c.len.ensures (ended.meant run are))
    c.in_ok-add_ends.ensures
    (consecutive_gathered firsts elements layout outcomes consecutive)
    (streams_more outcomes elements c.add_streams.new.elements c.in_ok-add_streams.ensures)
    before
