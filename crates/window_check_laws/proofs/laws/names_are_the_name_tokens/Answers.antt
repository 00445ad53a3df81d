use Rattle.window_check_laws.proofs.NamePlaces.{names-places}
use Rattle.window_check_laws.proofs.Told.{lawful-program}
use Rattle.window_check_laws.proofs.laws.names_are_the_name_tokens.Goals as goal

pub returns : goal.returns
returns c p h = names-places p (lawful-program p h)
