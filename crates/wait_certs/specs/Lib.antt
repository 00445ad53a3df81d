-- What a reader believes, beside the definitions of `wait_certs_laws`: what there is to tell of an activation, and its line.
pub mod Finding
-- What restates private functions: searches for what an activation awaits, and marks of those that a walk has.
pub mod Searching
