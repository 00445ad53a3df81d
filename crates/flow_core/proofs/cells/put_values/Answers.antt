use Rattle.std.proofs.Common.{◌≡◌, ◌+◌, ◌++◌, ◌∷◌, ◌<◌, ◌≤◌, [], ℤ, List, Option, Some, None, get_or, length, take, refl, subst, ap, ◌∙◌, arith, rules}
use Rattle.std.proofs.lemmas.Grind.{common_steps}
use Rattle.std.proofs.lemmas.Int.{to_z-of_z}
use Rattle.std.proofs.lemmas.List.{take_all, take_more_set}
use mir.Syntax.{w32}
use mir.Val.{SFits, of_z, to_z}
use Rattle.flow_core_laws.specs.declared.elem.Elem.{Elem}
use Rattle.flow_core_laws.specs.declared.elem.Elem.TheVariants.{Value}
use Rattle.flow_core.specs.Gathered.{AreGathered}
use Rattle.flow_core.proofs.Gathering.{AreGathered-none, AreGathered-as_value}
use Rattle.flow_core.proofs.cells.put_values.Goals as goal

pub loop-number-init : goal.loop-number-init
loop-number-init c = record { room = c.requires; put = AreGathered-none }

pub loop-number-preserved : goal.loop-number-preserved
loop-number-preserved c =
    let cells = c.args.cells.now in
    let into = c.loop-number.into in
    let k = c.loop-number.number in
    let v = c.in-Some-Value.value in
    let fits : SFits w32 v = search rules in
    let same : to_z w32 (of_z w32 v) ≡ v = grind (arith, to_z-of_z) in
    let lt : k < length cells = c.loop-number-test.true in
    let room = c.loop-number.invariant.room in
    let at : get_or cells k None ≡ Some (Value v) = first_of (cc, grind (arith, common_steps)) in
    let after : take (k + 1) (lib.ListN.set into k (to_z w32 (of_z w32 v))) ≡ take k into ++ v ∷ [] =
    take_more_set into k (to_z w32 (of_z w32 v)) (omega arith) ∙ ap (λ (x : ℤ). take k into ++ x ∷ []) same in
    record {
      room = grind (arith, common_steps);
      put = AreGathered-as_value cells k None None (take k into) _ v (Value v) lt at refl refl after c.loop-number.invariant.put;
    }

pub returns : goal.returns
returns c = λ _.
    let cells = c.args.cells.now in
    let into = c.loop-number.into in
    let n = c.loop-number.number in
    let past : length cells ≤ n = c.loop-number-test.false in
    let room = c.loop-number.invariant.room in
    subst (AreGathered cells None) (take_all n into (omega arith))
    (subst (λ (cs : List (Option Elem)). AreGathered cs None (take n into)) (take_all n cells past) c.loop-number.invariant.put)
