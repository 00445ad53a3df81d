-- What contracts see of a room.
use Rattle.std.specs.Prelude.{List}
use Rattle.std.specs.Borrow.{Lends, Fml, RattleType, MutBor, Array}
use Rattle.os_io.specs.RoomStates.{RoomState, with_items}
use Rattle.os_io.specs.contracts.room.Room.{the_row}

-- once the loan ends, the room holds the items that it shows last, and is as spare as before
abbrev pub LendsRoom : (T : RattleType) → MutBor (RoomState T.Denot) → MutBor (List T.Denot) → Fml
LendsRoom T room items = Lends (the_row T) (Array T 0) room items (with_items room.now)
