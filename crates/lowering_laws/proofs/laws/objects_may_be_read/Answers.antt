use Rattle.lowering_laws.proofs.Accepted.{accepted_lawful}
use Rattle.lowering_laws.proofs.Objects.{fits}
use Rattle.lowering_laws.proofs.laws.objects_may_be_read.Goals as goal

pub returns : goal.returns
returns c text p short accepted =
    fits p (accepted_lawful c.meaning_by_tokens.ensures.kinds c.marks_have_places.ensures c.cover_cuts.ensures.few text p short accepted)
