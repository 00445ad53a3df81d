use Rattle.std.proofs.Common.{◌≡◌, ℤ, ◌+◌, List, ◌++◌, map, length, take, pos, ap, ◌∙◌}
use Rattle.std.specs.Vec.{with_items}
use Rattle.std.proofs.lemmas.List.{with_items_is}
use Rattle.epoch_run_in_order.proofs.Reading.{AreRead-bytes}
use Rattle.epoch_run_in_order.proofs.inputs.Inputs.add_bytes.Goals as goal

pub returns : goal.returns
returns c = λ cells r.
    let bytes = c.args.bytes.now in
    let room = c.make_room.new.self in
    let all : (with_items room.places c.put_bytes.new.places).items ≡ c.put_bytes.new.places = with_items_is room.places c.put_bytes.new.places (c.put_bytes.ensures.length ∙ c.as_mut_slice.ensures.len) in
    let values : take (room.count + length bytes) (with_items room.places c.put_bytes.new.places).items ≡ take room.count room.places.items ++ map pos bytes =
    ap (λ (xs : List ℤ). take (room.count + length bytes) xs) all ∙ c.put_bytes.ensures.values ∙ ap (λ (xs : List ℤ). take room.count xs ++ map pos bytes) c.as_mut_slice.ensures.value in
    AreRead-bytes cells bytes c.args.self.now _ c.in_ok-make_room.ensures.root (values ∙ ap (λ (xs : List ℤ). xs ++ map pos bytes) c.in_ok-make_room.ensures.values) r
