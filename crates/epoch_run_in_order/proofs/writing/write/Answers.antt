use Rattle.std.proofs.Common.{ℕ, ◌+◌, ◌-◌, List, ◌++◌, Option, Some, map, take, drop, sym, ap, ◌∙◌, arith}
use Rattle.std.specs.Prelude.{replicate}
use Rattle.std.proofs.lemmas.Result.{IfOk-equal}
use Rattle.flow_core_laws.specs.declared.elem.Elem.{Elem}
use Rattle.flow_core_laws.specs.declared.elem.Elem.TheVariants.{Value, Poison}
use Rattle.epoch_run_in_order.specs.Writing.{written_through}
use Rattle.epoch_run_in_order.proofs.Through.{through_poison, through_slice}
use Rattle.epoch_run_in_order.proofs.writing.write.Goals as goal

pub returns-in-Some : goal.returns-in-Some
returns-in-Some c =
    let outputs = c.args.outputs.now in
    let span = c.args.span.now in
    IfOk-equal c.add_poison.result c.add_poison.new.elements (c.args.elements.now ++ replicate span.count (Some (Poison c.in-Some.root))) (c.args.elements.now ++ written_through c.args.root outputs span)
    c.add_poison.ensures
    (ap (λ (ws : List (Option Elem)). c.args.elements.now ++ ws) (sym (ap (λ (o : Option ℕ). written_through o outputs span) c.in-Some.is ∙ through_poison c.in-Some.root outputs span)))

pub returns-in-None : goal.returns-in-None
returns-in-None c =
    let outputs = c.args.outputs.now in
    let span = c.args.span.now in
    let n : ℕ = span.offset + span.count - span.offset in
    IfOk-equal c.add_values.result c.add_values.new.elements (c.args.elements.now ++ map (λ value. Some (Value value)) (take n (drop span.offset outputs))) (c.args.elements.now ++ written_through c.args.root outputs span)
    c.add_values.ensures
    (ap (λ (ws : List (Option Elem)). c.args.elements.now ++ ws) (through_slice c.args.root outputs span n c.in-None.is (c.requires c.in-None.is) (omega arith)))
