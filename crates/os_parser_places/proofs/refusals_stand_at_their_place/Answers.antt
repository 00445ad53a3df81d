use Rattle.os_parser_places.proofs.PlaceOfRefusal.{place, somewhere, one}
use Rattle.os_parser_places.proofs.refusals_stand_at_their_place.Goals as goal

pub returns : goal.returns
returns c = record { refused = place; some = somewhere; one = one }
