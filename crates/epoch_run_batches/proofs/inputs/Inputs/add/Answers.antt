use Rattle.std.proofs.Common.{◌≡◌, ℤ, [], ◌∷◌, ◌++◌, refl, ap, ◌∙◌, arith, rules}
use Rattle.std.proofs.lemmas.Int.{to_z-of_z}
use mir.Syntax.{w32}
use mir.Val.{SFits, of_z, to_z}
use Rattle.epoch_run_batches.specs.Reads.{values_in}
use Rattle.epoch_run_batches.proofs.ReadSoFar.{AreRead-as_value, AreRead-as_poison}
use Rattle.epoch_run_batches.proofs.inputs.Inputs.add.Goals as goal

pub returns-in_ok-add_value-in-Value : goal.returns-in_ok-add_value-in-Value
returns-in_ok-add_value-in-Value c = λ cells r.
    let v = c.in-Value.value in
    let fits : SFits w32 v = search rules in
    let same : to_z w32 (of_z w32 v) ≡ v = grind (arith, to_z-of_z) in
    AreRead-as_value cells c.args.self.now c.add_value.new.self c.args.element v c.in-Value.is c.in_ok-add_value-in-Value.ensures.root (c.in_ok-add_value-in-Value.ensures.values ∙ ap (λ (x : ℤ). values_in c.args.self.now ++ x ∷ []) same) r

pub returns-in-Poison : goal.returns-in-Poison
returns-in-Poison c = λ cells r.
    AreRead-as_poison cells c.args.self.now _ c.args.element c.in-Poison.root c.lesser.result c.in-Poison.is c.lesser.ensures refl refl r
