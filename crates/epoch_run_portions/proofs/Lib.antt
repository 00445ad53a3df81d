pub mod Passing
mod OneByOne
mod Portions
