-- A part of a buffer that is filled piece by piece.
use Rattle.std.proofs.Common.{◌≡◌, ℕ, ◌+◌, ◌≤◌, Option, None, Some, List, [], ◌++◌, length, take, drop, refl, sym, ap, ◌∙◌, take-add, take-take, length-take, length-take-le, arith}
use Rattle.std.proofs.lemmas.List.{drop_all, drop-append-le}
use Rattle.std.specs.Io.KnownBytes.{prepend_known}
use Rattle.os_io.proofs.Pieces.{prepend_known-prepend}

-- lists that are equal up to a place are so up to an earlier one
pub front : (from past : ℕ) (new old : List ℕ) → from ≤ past → take past new ≡ take past old → take from new ≡ take from old
front from past new old within same =
    sym (take-take from past new within) ∙ ap (take from) same ∙ take-take from past old within

-- nothing in front of known bytes
pub prepend_nothing : (known : Option (List ℕ)) → known ≡ prepend_known [] known
prepend_nothing None = refl
prepend_nothing (Some xs) = refl

-- before anything was read
pub begun : (from : ℕ) (buffer : List ℕ) (known : Option (List ℕ)) → known ≡ prepend_known (drop from (take from buffer)) known
begun from buffer known =
    let none : drop from (take from buffer) ≡ [] = drop_all from (take from buffer) (omega (arith, length-take from buffer)) in
    prepend_nothing known ∙ ap (λ xs. prepend_known xs known) (sym none)

-- one more read
pub one_more : (told mid after : Option (List ℕ)) (from past n : ℕ) (old new : List ℕ) → from ≤ past → past ≤ length new
    → take past new ≡ take past old → told ≡ prepend_known (drop from (take past old)) mid
    → mid ≡ prepend_known (take n (drop past new)) after → told ≡ prepend_known (drop from (take (past + n) new)) after
one_more told mid after from past n old new low high same was now =
    let whole : drop from (take (past + n) new) ≡ drop from (take past old) ++ take n (drop past new) =
    ap (drop from) (take-add past n new)
    ∙ drop-append-le from (take past new) (take n (drop past new)) (omega (arith, length-take-le past new high))
    ∙ ap (λ xs. drop from xs ++ take n (drop past new)) same in
    was
    ∙ ap (prepend_known (drop from (take past old))) now
    ∙ prepend_known-prepend (drop from (take past old)) (take n (drop past new)) after
    ∙ ap (λ xs. prepend_known xs after) (sym whole)
