use Rattle.lowering_laws.proofs.Accepted.{accepted_lawful}
use Rattle.lowering_laws.proofs.Drafted.{has_code}
use Rattle.lowering_laws.proofs.laws.programs_have_codes.Goals as goal

pub returns : goal.returns
returns c text p short accepted =
    has_code c.standing_is_valid.ensures p
    (accepted_lawful c.meaning_by_tokens.ensures.kinds c.marks_have_places.ensures c.cover_cuts.ensures.few text p short accepted)
