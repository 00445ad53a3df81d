-- What a list holds after its items were lent for writing.
use Rattle.std.specs.Prelude.{List, length, take, drop, ◌++◌}
use Rattle.std.specs.Borrow.{Lends, Fml, RattleType, MutBor, Array}
use Rattle.os_io.specs.contracts.list.List.{the_row}

-- the items with others in the place of the first of them; a loan keeps their number, so it leaves
-- the others alone
abbrev pub written_over : {T : Type 0} → List T → List T → List T
written_over items others = take (length items) (others ++ drop (length others) items)

-- once the loan ends, the list holds the items that it shows last
abbrev pub LendsItems : (T : RattleType) → MutBor (List T.Denot) → MutBor (List T.Denot) → Fml
LendsItems T list items = Lends (the_row T) (Array T 0) list items (written_over list.now)
