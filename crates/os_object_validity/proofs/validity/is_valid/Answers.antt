use Rattle.std.proofs.Common.{◌≡◌, true, rules}
use Rattle.std.proofs.lemmas.Result.{IfOk-weaker}
use Rattle.os_code.specs.IsValid.{HasRegions}
use Rattle.os_object_validity.specs.Tables.{sites_stand, TasksDistinct}
use Rattle.os_object_validity.proofs.Standing.{targets_from, valid_from, all_stand, sites_of}
use Rattle.os_object_validity.proofs.validity.is_valid.Goals as goal

pub returns-then-not-sites_stand-clause-not_valid : goal.returns-then-not-sites_stand-clause-not_valid
returns-then-not-sites_stand-clause-not_valid c e valid =
    let stand = sites_of c.args.parts.now valid in
    cc

pub returns-then-not-places_stand-clause-not_valid : goal.returns-then-not-places_stand-clause-not_valid
returns-then-not-places_stand-clause-not_valid c e valid = c.places_stand.ensures.no (cc) (all_stand c.args.parts.now valid)

pub heights_fit-requires-clause-targets : goal.heights_fit-requires-clause-targets
heights_fit-requires-clause-targets c =
    let regions : HasRegions c.args.parts.now = search rules in
    targets_from c.args.parts.now regions (c.places_stand.ensures.yes (cc))

pub returns-clause-valid : goal.returns-clause-valid
returns-clause-valid c =
    let regions : HasRegions c.args.parts.now = search rules in
    let distinct : TasksDistinct c.args.parts.now = search rules in
    let stand : sites_stand c.args.parts.now ≡ true = cc in
    IfOk-weaker c.heights_fit.result _ _ (λ fits heights e. valid_from c.args.parts.now stand regions distinct (c.places_stand.ensures.yes (cc)) (heights e)) c.heights_fit.ensures.yes
