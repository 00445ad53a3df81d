use Rattle.std.proofs.Common.{◌≡◌, take, refl, ◌∙◌}
use Rattle.std.specs.Vec.{with_items}
use Rattle.std.proofs.lemmas.List.{with_items_is}
use Rattle.epoch_run_batches.proofs.ReadSoFar.{AreRead-put}
use Rattle.epoch_run_batches.proofs.inputs.Inputs.add_values.Goals as goal

pub returns-clause-read : goal.returns-clause-read
returns-clause-read c = λ cells r.
    let room = c.make_room.new.self in
    let put = c.put_values-added.new.places in
    let all : (with_items room.places put).items ≡ put = with_items_is room.places put (c.put_values-added.ensures.length ∙ c.as_mut_slice.ensures.len) in
    AreRead-put cells (take c.put_values-added.result c.args.elements.now) c.as_mut_slice.result.now put c.args.self.now room _ c.as_mut_slice.ensures.value all c.in_ok-make_room.ensures.root refl c.in_ok-make_room.ensures.values c.put_values-added.ensures.put r
