use Rattle.osparts_parts.proofs.Covering.{one_part, parts_cover, plain_parts_cover}
use Rattle.osparts_parts.proofs.laws.parts_are_the_input.Goals as goal

pub returns-clause-parts : goal.returns-clause-parts
returns-clause-parts c = parts_cover

pub returns-clause-plain : goal.returns-clause-plain
returns-clause-plain c = plain_parts_cover

pub returns-clause-one : goal.returns-clause-one
returns-clause-one c = one_part
