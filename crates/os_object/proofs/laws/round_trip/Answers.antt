use Rattle.os_object.proofs.RoundTrip.{back, same}
use Rattle.os_object.proofs.laws.round_trip.Goals as goal

pub returns : goal.returns
returns c = record { back = back; same = same }
