use Rattle.std.proofs.Common.{◌≡◌, ◌++◌, ◌-◌, length, take, drop, refl, sym, ap, ◌∙◌}
use Rattle.os_io.specs.RoomStates.{RoomState, with_items}
use Rattle.os_io.proofs.room.Room.as_mut_slice.Goals as goal

pub returns : goal.returns
returns g c =
    let count : c.self.inside.items.len ≡ length c.self.inside.items.items =
    sym c.as_mut_slice.ensures.len ∙ ap length c.as_mut_slice.ensures.value in
    let spare = c.self.inside.items.cap - c.self.inside.items.len in
    let old = c.self.inside.items.items in
    ((refl {a = c.as_mut_slice.result.ghost_name}, λ w. (λ i. record { items = take (count i) (w ++ drop (length w) old); spare = spare }) ∙ ap (λ (s : RoomState g.row.T.Denot). with_items s w) c.self.view_is), record { writes_back = tt; value = c.as_mut_slice.ensures.value ∙ ap (λ (s : RoomState g.row.T.Denot). s.items) c.self.view_is })
