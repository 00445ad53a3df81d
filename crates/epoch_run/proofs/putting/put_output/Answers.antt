use Rattle.std.proofs.Common.{◌∙◌, ap, arith, length, sym}
use Rattle.std.specs.List.{flat_map}
use Rattle.std.proofs.lemmas.List.{take_all}
use Rattle.std.proofs.lemmas.List.Edits.{length-between}
use Rattle.stream_match.specs.Stretch.{stretch_places}
use Rattle.epoch_run_carrying.proofs.Leaves.{length_within, no_stretch}
use Rattle.epoch_run.proofs.Over.{last_count, over_begin, over_more}
use Rattle.epoch_run.proofs.putting.put_output.Goals as goal

pub overflow_sub-first : goal.overflow_sub-first
overflow_sub-first c =
    let p = c.putting in
    let count = last_count c.args.leaves.now p.left p.end no_stretch c.putting-test.true p.invariant.few p.invariant.place in
    omega arith

pub offset_bounds-values-first : goal.offset_bounds-values-first
offset_bounds-values-first c =
    let within = length_within c.args.leaves.now c.putting.left in
    let place = c.putting.invariant.place in
    let fit = c.requires in
    omega arith

pub slice_bounds-put_stretch-end : goal.slice_bounds-put_stretch-end
slice_bounds-put_stretch-end c =
    let within = length_within c.args.leaves.now c.putting.left in
    let place = c.putting.invariant.place in
    let fit = c.requires in
    omega arith

pub put_stretch-requires : goal.put_stretch-requires
put_stretch-requires c =
    let p = c.putting in
    let count = last_count c.args.leaves.now p.left p.end no_stretch c.putting-test.true p.invariant.few p.invariant.place in
    let within = length_within c.args.leaves.now p.left in
    let place = p.invariant.place in
    let fit = c.requires in
    length-between c.args.values.now _ p.end (omega arith) ∙ omega arith

pub putting-init : goal.putting-init
putting-init c = record {
  few = omega arith;
  place = c.requires ∙ ap (λ ss. length (flat_map stretch_places ss)) (sym (take_all (length c.args.leaves.now) c.args.leaves.now (omega arith)));
  put = over_begin c.args.output.now c.args.leaves.now c.args.values.now;
}

pub putting-preserved : goal.putting-preserved
putting-preserved c =
    let p = c.putting in
    let count = last_count c.args.leaves.now p.left p.end no_stretch c.putting-test.true p.invariant.few p.invariant.place in
    let within = length_within c.args.leaves.now p.left in
    let place = p.invariant.place in
    let fit = c.requires in
    record {
      few = omega (arith, p.invariant.few);
      place = omega arith;
      put = over_more c.args.output.now p.output c.put_stretch.new.output c.args.leaves.now c.args.values.now p.left p.end _ no_stretch
          c.putting-test.true p.invariant.few (omega arith) (omega arith) p.invariant.put c.put_stretch.ensures;
    }
