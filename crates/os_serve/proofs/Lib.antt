pub mod FirstWords
pub mod JobAnswers
