use Rattle.std.proofs.Common.{◌≡◌, ℤ, [], ◌∷◌, ◌++◌, Some, refl, ap, ◌∙◌, arith, rules}
use Rattle.std.proofs.lemmas.Grind.{common_steps}
use Rattle.std.proofs.lemmas.Int.{to_z-of_z}
use mir.Syntax.{w32}
use mir.Val.{SFits, of_z, to_z}
use Rattle.flow_core_laws.specs.declared.elem.Elem.{Elem}
use Rattle.flow_core_laws.specs.declared.elem.Elem.TheVariants.{Value, Poison}
use Rattle.epoch_run_in_order.specs.Reading.{values_in}
use Rattle.epoch_run_in_order.proofs.Reading.{AreRead-as_value, AreRead-as_poison}
use Rattle.epoch_run_in_order.proofs.inputs.Inputs.add.Goals as goal

pub returns-in_ok-add_value-in-Some-Value : goal.returns-in_ok-add_value-in-Some-Value
returns-in_ok-add_value-in-Some-Value c = λ _ cells r.
    let v = c.in-Some-Value.value in
    let is : c.in-Some-Value.field-0 ≡ Value v = first_of (cc, grind (arith, common_steps)) in
    let fits : SFits w32 v = search rules in
    let same : to_z w32 (of_z w32 v) ≡ v = grind (arith, to_z-of_z) in
    let after : values_in c.add_value.new.self ≡ values_in c.args.self.now ++ v ∷ [] = c.in_ok-add_value-in-Some-Value.ensures.values ∙ ap (λ (x : ℤ). values_in c.args.self.now ++ x ∷ []) same in
    AreRead-as_value cells c.args.self.now c.add_value.new.self c.args.element v (c.in-Some-Value.is ∙ ap (λ (e : Elem). Some e) is) c.in_ok-add_value-in-Some-Value.ensures.root after r

pub returns-in-Some-Poison : goal.returns-in-Some-Poison
returns-in-Some-Poison c = λ _ cells r.
    let root = c.in-Some-Poison.root in
    let is : c.in-Some-Poison.field-0 ≡ Poison root = first_of (cc, grind (arith, common_steps)) in
    AreRead-as_poison cells c.args.self.now _ c.args.element root c.lesser.result (c.in-Some-Poison.is ∙ ap (λ (e : Elem). Some e) is) c.lesser.ensures refl refl r
