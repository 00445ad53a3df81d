-- What contracts see of a room.
use Rattle.std.specs.Prelude.{ℕ, List, length, take, drop, ◌++◌, refl}
use Rattle.std.specs.Coded.{Coded, code_by, coded×, coded_ℕ, coded_list}

-- What a room holds: its items, and how many more it can take without memory.
pub record RoomState (T : Type 0) : Type 0 where
  pub items : List T
  pub spare : ℕ

-- what is stored of a room: the pair of its items and of how many more it can take
abbrev pub coded_room : {T : Type 0} → Coded T → Coded (RoomState T)
coded_room {T} code = code_by (List T × ℕ) (coded× (coded_list code) coded_ℕ) (λ r. (r.items, r.spare)) (λ p. record { items = p.0; spare = p.1 }) (λ _. refl)

-- a room with others in the place of the first of its items; a loan keeps their number, so it leaves the others alone
abbrev pub with_items : {T : Type 0} → RoomState T → List T → RoomState T
with_items r others = record r { items = take (length r.items) (others ++ drop (length others) r.items) }
