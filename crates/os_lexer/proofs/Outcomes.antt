-- An answer that is right is the one that is wanted.
use Rattle.std.proofs.Common.{◌≤◌, ℕ, length, List, Result, Ok, Err, IfOk, IfErr, All, Vec, Global}
use Rattle.os_lexer.specs.Answer.{IsFaultOf, IsMemory, HasCodeUnlessMemory, IsGivenUnlessMemory, IsToldUnlessMemory}
use Rattle.os_lexer.specs.Cover.{IsTokenCover, IsFirstFault}
use Rattle.os_lexer.specs.declared.fault.LexError.{LexError}
use Rattle.os_lexer.specs.declared.fault.LexError.TheVariants.{BadByte, OpenComment, BigNumber, Memory}
use Rattle.os_lexer.specs.declared.token.Token.{Token}
use Rattle.os_lexer.proofs.FewTokens.{few_tokens}
use Rattle.os_lexer.specs.Laws.{HasFittingNumber}
use Rattle.os_lexer.proofs.TokenNumbers.{numbers_fit}
use Rattle.os_lexer.proofs.CoverLaws.{one_cover, one_fault, never_both}

module _ (text : List ℕ) where
  no_fault_but_memory : (e : LexError) (tokens : List Token) → IsTokenCover text tokens → IsFaultOf text e → IsMemory e
  no_fault_but_memory (BadByte line) tokens cover is = never_both text tokens 1 line cover is
  no_fault_but_memory (OpenComment line) tokens cover is = never_both text tokens 2 line cover is
  no_fault_but_memory (BigNumber line) tokens cover is = never_both text tokens 3 line cover is
  no_fault_but_memory Memory tokens cover is = tt

  -- where a cover is there, it is answered
  pub given : (r : Result (Vec Token Global) LexError) → IfOk r (λ v. IsTokenCover text v.items) → IfErr r (IsFaultOf text) → (tokens : List Token) → IsTokenCover text tokens → IsGivenUnlessMemory tokens r
  given (Ok v) ok err tokens cover = one_cover text v.items tokens ok cover
  given (Err e) ok err tokens cover = no_fault_but_memory e tokens cover err

  same_fault : (e : LexError) (code line : ℕ) → IsFirstFault text code line → IsFaultOf text e → HasCodeUnlessMemory code line e
  same_fault (BadByte l) code line first is = one_fault text code line 1 l first is
  same_fault (OpenComment l) code line first is = one_fault text code line 2 l first is
  same_fault (BigNumber l) code line first is = one_fault text code line 3 l first is
  same_fault Memory code line first is = tt

  -- where a first fault is there, it is answered
  pub told : (r : Result (Vec Token Global) LexError) → IfOk r (λ v. IsTokenCover text v.items) → IfErr r (IsFaultOf text) → (code line : ℕ) → IsFirstFault text code line → IsToldUnlessMemory code line r
  told (Ok v) ok err code line first = never_both text v.items code line ok first
  told (Err e) ok err code line first = same_fault e code line first err

  -- what is answered has no more tokens than the text has bytes
  pub few : (r : Result (Vec Token Global) LexError) → IfOk r (λ v. IsTokenCover text v.items) → IfOk r (λ v. length v.items ≤ length text)
  few (Ok v) ok = few_tokens text v.items ok
  few (Err e) ok = tt

  -- and its numbers have values of their types
  pub fit : (r : Result (Vec Token Global) LexError) → IfOk r (λ v. IsTokenCover text v.items) → IfOk r (λ v. All (λ token. HasFittingNumber token.kind) v.items)
  fit (Ok v) ok = numbers_fit text v.items ok
  fit (Err e) ok = tt
