-- How long a text may be.
use Rattle.std.specs.Prelude.{ℕ}

-- a text has at most `text_limit` bytes, and so no more tokens
abbrev pub text_limit : ℕ
text_limit = 262144
