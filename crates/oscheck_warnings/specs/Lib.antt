-- What a reader believes: where there is something to warn of, and which names and constants of a program that is about.
pub mod Accesses
pub mod Bursts
pub mod DeadStores
pub mod EmptyBodies
pub mod Extents
pub mod Meanings
pub mod Octal
pub mod OpenEnds
pub mod Places
pub mod Warnings
pub mod Streams
pub mod WindowSizes
-- What restates private functions.
pub mod Endings
pub mod LastReads
pub mod NoSizes
pub mod Open
pub mod Otherwise
pub mod Sizes
