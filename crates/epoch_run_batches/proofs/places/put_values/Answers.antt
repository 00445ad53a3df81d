use Rattle.std.proofs.Common.{◌≡◌, ℤ, ◌+◌, ◌<◌, ◌≤◌, List, Option, Some, None, length, get_or, take, sym, ap, ◌∙◌, subst, arith, rules}
use Rattle.std.proofs.lemmas.Grind.{common_steps}
use Rattle.std.proofs.lemmas.Int.{to_z-of_z}
use Rattle.std.proofs.lemmas.List.{take_more}
use mir.Syntax.{w32}
use mir.Val.{SFits, of_z, to_z}
use Rattle.std.specs.Prelude.{slice_set}
use Rattle.flow_core_laws.specs.declared.elem.Elem.{Elem}
use Rattle.flow_core_laws.specs.declared.elem.Elem.TheVariants.{Value}
use Rattle.epoch_run_batches.specs.Reads.{ArePut}
use Rattle.epoch_run_batches.proofs.ReadSoFar.{ArePut-more}
use Rattle.epoch_run_batches.proofs.places.put_values.Goals as goal

pub loop-number-preserved : goal.loop-number-preserved
loop-number-preserved c =
    let elements = c.args.elements.now in
    let places = c.loop-number.places in
    let first = c.args.first in
    let k = c.loop-number.number in
    let v = c.in-Some-Value.value in
    let x : ℤ = to_z w32 (of_z w32 v) in
    let lt : k < length elements = c.loop-number-test.true in
    let room = c.loop-number.invariant.room in
    let within : first + length elements ≤ length c.args.places.now = c.requires in
    let fits : SFits w32 v = search rules in
    let same : x ≡ v = grind (arith, to_z-of_z) in
    let value : c.in-Some-Value.field-0 ≡ Value v = first_of (cc, grind (arith, common_steps)) in
    let is : get_or elements k None ≡ Some (Value v) = c.in-Some-Value.is ∙ ap (λ (e : Elem). Some e) value in
    record {
      room = grind (arith, common_steps);
      put = subst (λ (es : List (Option Elem)). ArePut first c.args.places.now es (first + (k + 1)) (slice_set places (first + k) x)) (sym (take_more elements k None lt))
          (ArePut-more first k c.args.places.now places (take k elements) (get_or elements k None) v x is same (omega arith) c.loop-number.invariant.put);
    }
