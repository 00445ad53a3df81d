use Rattle.std.proofs.Common.{◌≡◌, ◌∷◌, ◌++◌, length, take}
use Rattle.std.specs.List.{flat_map}
use Rattle.os_object.specs.Object.{number, site_numbers}
use Rattle.os_object.proofs.writing.write_sites.Given as goal

abbrev pub invariant-loop-site : goal.invariant-loop-site
invariant-loop-site l = l.object.items ≡ l.fn.object.items ++ flat_map number (length l.sites ∷ flat_map site_numbers (take l.site-index l.sites))
