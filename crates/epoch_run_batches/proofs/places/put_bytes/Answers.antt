use Rattle.std.proofs.Common.{◌≡◌, ℤ, pos, ◌+◌, ◌<◌, ◌≤◌, List, Option, map, length, get_or, take, refl, sym, subst, arith}
use Rattle.std.proofs.lemmas.Grind.{common_steps}
use Rattle.std.proofs.lemmas.Int.{ints, to_z-of_z}
use Rattle.std.proofs.lemmas.List.{map_more}
use mir.Syntax.{w32}
use mir.Val.{of_z, to_z}
use Rattle.std.specs.Prelude.{slice_set}
use Rattle.flow_core_laws.specs.declared.elem.Elem.{Elem}
use Rattle.epoch_run_batches.specs.Reads.{ArePut, byte_element}
use Rattle.epoch_run_batches.proofs.ReadSoFar.{ArePut-more}
use Rattle.epoch_run_batches.proofs.places.put_bytes.Goals as goal

pub loop-number-preserved : goal.loop-number-preserved
loop-number-preserved c =
    let bytes = c.args.bytes.now in
    let places = c.loop-number.places in
    let first = c.args.first in
    let k = c.loop-number.number in
    let b = get_or bytes k 0 in
    let x : ℤ = to_z w32 (of_z w32 c.from.result) in
    let lt : k < length bytes = c.loop-number-test.true in
    let room = c.loop-number.invariant.room in
    let within : first + length bytes ≤ length c.args.places.now = c.requires in
    let fits = c.type_inv.bytes k in
    let same : x ≡ pos b = first_of (grind (arith, to_z-of_z), grind (arith, ints, to_z-of_z), grind (arith, common_steps, ints, to_z-of_z)) in
    record {
      room = grind (arith, common_steps);
      put = subst (λ (es : List (Option Elem)). ArePut first c.args.places.now es (first + (k + 1)) (slice_set places (first + k) x)) (sym (map_more byte_element bytes k 0 lt))
          (ArePut-more first k c.args.places.now places (map byte_element (take k bytes)) (byte_element b) (pos b) x refl same (omega arith) c.loop-number.invariant.put);
    }
