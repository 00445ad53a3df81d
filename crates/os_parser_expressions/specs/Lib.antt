-- What a reader believes stands in os_ast: what is read is stated by what the production gives, and that by what tokens mean.
-- What the contracts of the readers say beside it: which answer comes with what reading gives.
pub mod Gives
pub mod Deepens
