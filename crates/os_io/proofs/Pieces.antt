-- Known bytes that are read or written piece by piece.
use Rattle.std.proofs.Common.{◌≡◌, ℕ, ◌+◌, ◌-◌, ◌≤◌, Option, None, Some, Result, Ok, Err, List, ◌++◌, length, take, drop, refl, sym, ap, ◌∙◌, append_assoc, take-add, take_at, drop_at, length-take-le, append-nil, subst, IfOk, IfSome, MatchResult}
use Rattle.std.proofs.lemmas.List.{take_rest, take-append-le}
use Rattle.std.specs.Io.KnownBytes.{append_known, prepend_known, IsAtEnd}
use borrow.Rule.Slice.PartMut.{put_mid}

-- the bytes up to a place and then a piece from there on
pub append_known-piece : (known : Option (List ℕ)) (bytes : List ℕ) (at n : ℕ)
    → append_known (append_known known (take at bytes)) (take n (take (length bytes - at) (drop at bytes)))
    ≡ append_known known (take (at + n) bytes)
append_known-piece None bytes at n = refl
append_known-piece (Some known) bytes at n = ap Some (rw (take_rest, take-add) (append_assoc known _ _))

-- bytes in front of bytes in front of what is known
pub prepend_known-prepend : (front middle : List ℕ) (known : Option (List ℕ))
    → prepend_known front (prepend_known middle known) ≡ prepend_known (front ++ middle) known
prepend_known-prepend front middle None = refl
prepend_known-prepend front middle (Some known) = ap Some (sym (append_assoc front middle known))

-- what a list begins with where its part from a place on was written over
take-put_mid-front : (at k n : ℕ) (old part : List ℕ) → at ≤ length old → n ≤ length part
    → take (at + n) (put_mid at k old part) ≡ take at old ++ take n part
take-put_mid-front at k n old part within piece =
    let front : length (take at old) ≡ at = length-take-le at old within in
    rw (take-add, take_at, drop_at, take-append-le) refl

-- a read into the part of a buffer from a place on
pub prepend_known-behind : {E : Type 0} (r : Result ℕ E) (before after : Option (List ℕ)) (buffer part : List ℕ) (at k : ℕ)
    → at ≤ length buffer → IfOk r (λ n. n ≤ length part)
    → MatchResult r (λ n. before ≡ prepend_known (take n part) after) (λ _. after ≡ before)
    → MatchResult r
    (λ n. prepend_known (take at buffer) before ≡ prepend_known (take (at + n) (put_mid at k buffer part)) after)
    (λ _. after ≡ before)
prepend_known-behind (Ok n) before after buffer part at k within piece read =
    ap (prepend_known (take at buffer)) read
    ∙ prepend_known-prepend (take at buffer) (take n part) after
    ∙ ap (λ front. prepend_known front after) (sym (take-put_mid-front at k n buffer part within piece))
prepend_known-behind (Err e) before after buffer part at k within piece read = read

-- after a read that came to the end, all that was told has been read
pub prepend_known-all : (told before after : Option (List ℕ)) (had front read all : List ℕ)
    → told ≡ prepend_known had before → front ≡ had → prepend_known front before ≡ prepend_known read after → all ≡ read
    → IsAtEnd after → IfSome told (λ bytes. all ≡ bytes)
prepend_known-all told before after had front read all was same step now end =
    let is : told ≡ prepend_known all after =
    was ∙ ap (λ xs. prepend_known xs before) (sym same) ∙ step ∙ ap (λ xs. prepend_known xs after) (sym now) in
    subst (λ t. IfSome t (λ bytes. all ≡ bytes)) (sym is) (at_end after end)
  where
    at_end : (known : Option (List ℕ)) → IsAtEnd known → IfSome (prepend_known all known) (λ bytes. all ≡ bytes)
    at_end None end = tt
    at_end (Some rest) end = sym (ap (λ r. all ++ r) end ∙ append-nil all)
