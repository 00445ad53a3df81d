use Rattle.std.proofs.Common.{◌≡◌, map, refl, ◌∙◌}
use Rattle.std.specs.Vec.{with_items}
use Rattle.std.proofs.lemmas.List.{with_items_is}
use Rattle.epoch_run_batches.specs.Reads.{byte_element}
use Rattle.epoch_run_batches.proofs.ReadSoFar.{AreRead-put}
use Rattle.epoch_run_batches.proofs.inputs.Inputs.add_bytes.Goals as goal

pub returns : goal.returns
returns c = λ cells r.
    let room = c.make_room.new.self in
    let put = c.put_bytes.new.places in
    let all : (with_items room.places put).items ≡ put = with_items_is room.places put (c.put_bytes.ensures.length ∙ c.as_mut_slice.ensures.len) in
    AreRead-put cells (map byte_element c.args.bytes.now) c.as_mut_slice.result.now put c.args.self.now room _ c.as_mut_slice.ensures.value all c.in_ok-make_room.ensures.root refl c.in_ok-make_room.ensures.values c.put_bytes.ensures.put r
