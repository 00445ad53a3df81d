use Rattle.std.proofs.Common.{◌≡◌, drop}
use Rattle.std.specs.List.{list_all}
use Rattle.os_object_validity.specs.Tables.{site_stands}
use Rattle.os_object_validity.proofs.sites.all_stand.Given as goal

abbrev pub invariant-loop-site : goal.invariant-loop-site
invariant-loop-site l = list_all (site_stands l.parts l.main) (drop l.site-index l.site-items) ≡ list_all (site_stands l.parts l.main) l.parts.sites
