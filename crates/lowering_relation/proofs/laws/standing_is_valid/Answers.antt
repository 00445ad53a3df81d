use Rattle.lowering_relation.proofs.AllUnits.{Standing, all_laid}
use Rattle.lowering_relation.proofs.ValidHeights.{frames, heights}
use Rattle.lowering_relation.proofs.ValidRegions.{regions, targets}
use Rattle.lowering_relation.proofs.ValidSites.{sites}
use Rattle.lowering_relation.proofs.laws.standing_is_valid.Goals as goal

pub returns : goal.returns
returns c = λ p code leveled placed lawful has tiled.
    let st : Standing p code = record { leveled = leveled; placed = placed; lawful = lawful; has = has; tiled = tiled } in
    let all = all_laid p code st in
    record { regions = regions code all; targets = targets code all; frames = frames code all; sites = sites p code st; heights = heights code all }
