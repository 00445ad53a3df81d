-- The sizes of items that are left to be drawn, by what they have in common.
use Rattle.std.specs.Prelude.{ℕ, if◌then◌else◌, List, [], ◌∷◌, ◌++◌, Option, None, Some, codes, map, max, min}
use Rattle.std.specs.BTreeMap.{get}
use Rattle.std.specs.Option.{option_map_or}
use Rattle.osview_graph.specs.Arrows.{greatest, reading_text, span_text, writing_text}
use Rattle.osview_graph.specs.contracts.tally.ItemOrd.TheImpl as item_order
use Rattle.osview_graph.specs.declared.tally.Item.{Item}
use Rattle.osview_graph.specs.declared.tally.Sizes.{Sizes}
use Rattle.osview_graph.specs.declared.tally.Tally.{Tally}
use Rattle.osview_graph.specs.declared.uses.Use.{Use}
use Rattle.osview_text.specs.Numbers.{least}

-- what uses have in common that are alike
abbrev pub item_of : Use → Item
item_of u = record { task = u.task; item = u.item; stream = u.stream }

-- the least and the greatest horizon and burst of some, where there are any
abbrev pub sizes_of : List Use → Option Sizes
sizes_of [] = None
sizes_of (u ∷ us) = Some (record {
  least_horizon = least (map (λ (v : Use). v.horizon) (u ∷ us));
  greatest_horizon = greatest (map (λ (v : Use). v.horizon) (u ∷ us));
  least_burst = least (map (λ (v : Use). v.burst) (u ∷ us));
  greatest_burst = greatest (map (λ (v : Use). v.burst) (u ∷ us));
})

-- the least and the greatest sizes with those of one more use
abbrev pub with_use : Option Sizes → Use → Sizes
with_use None u = record { least_horizon = u.horizon; greatest_horizon = u.horizon; least_burst = u.burst; greatest_burst = u.burst }
with_use (Some s) u = record {
  least_horizon = min s.least_horizon u.horizon;
  greatest_horizon = max s.greatest_horizon u.horizon;
  least_burst = min s.least_burst u.burst;
  greatest_burst = max s.greatest_burst u.burst;
}

-- the sizes that are still to be drawn of the uses that are like this one
abbrev pub left : Tally → Use → Option Sizes
left tally u = get (item_order.ghosts).cmp tally.sizes (item_of u)

-- the arrow of one with these sizes
abbrev pub arrow_by : Use → Sizes → List ℕ
arrow_by u s =
    if u.write then writing_text u ++ span_text s.least_horizon s.greatest_horizon ++ codes "\"];\n"
    else reading_text u ++ span_text s.least_horizon s.greatest_horizon ++ codes ", burst " ++ span_text s.least_burst s.greatest_burst ++ codes "\"];\n"

-- the arrow of one with the sizes that are left, if there are any
abbrev pub arrow_for : Use → Option Sizes → List ℕ
arrow_for u left = option_map_or (arrow_by u) left []
