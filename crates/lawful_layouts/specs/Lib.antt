-- What a reader believes: what the bodies give, and else the words of `stream_match_layouts`.
pub mod Lasts
