-- What stands behind the parentheses that are open, one token after another.
use Rattle.std.proofs.Common.{◌≡◌, ◌≢◌, ℕ, zero, suc, ◌+◌, ◌-◌, ◌<◌, List, length, get_or, drop, add-one, refl, ap, sym, ◌∙◌, arith}
use Rattle.std.proofs.Math.Seq.{drop-cons}
use Rattle.os_lexer.specs.declared.token.Token.{Token}
use Rattle.oscheck_warnings.specs.EmptyBodies.{open_past, behind_parens}

pub one_token : (tokens : List Token) (place more point : ℕ) (t : Token) → place < length tokens → t ≡ get_or tokens place t →
    behind_parens (suc more) point (drop place tokens) ≡ behind_parens (open_past more t.kind) t.end (drop (place + 1) tokens)
one_token tokens place more point t h is = rw (drop-cons tokens place t h, ← is, add-one)

pub one_more : (tokens : List Token) (place depth point : ℕ) (t : Token) → place < length tokens → t ≡ get_or tokens place t → depth ≢ 0 →
    behind_parens (open_past (depth - 1) t.kind) t.end (drop (place + 1) tokens) ≡ behind_parens depth point (drop place tokens)
one_more tokens place zero point t h is n = absurd (n refl)
one_more tokens place (suc more) point t h is n =
    let less : suc more - 1 ≡ more = omega arith in
    ap (λ (k : ℕ). behind_parens (open_past k t.kind) t.end (drop (place + 1) tokens)) less ∙ sym (one_token tokens place more point t h is)
