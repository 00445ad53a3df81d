-- What the proofs of the items cite.
use Rattle.window_check_laws.proofs.Trees.{has_main-drop}

pub ruleset items = (has_main-drop)
