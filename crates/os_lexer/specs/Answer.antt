-- What an answer says of the text.
use Rattle.std.specs.Prelude.{◌≡◌, ℕ, List, Result, Ok, Err, Vec}
use Rattle.std.specs.declared.alloc.Global.{Global}
use Rattle.os_lexer.specs.Cover.{IsFirstFault}
use Rattle.os_lexer.specs.Effects.{fault_code}
use Rattle.os_lexer.specs.declared.fault.Fault.{Fault}
use Rattle.os_lexer.specs.declared.fault.Fault.TheVariants as fault
use Rattle.os_lexer.specs.declared.fault.LexError.{LexError}
use Rattle.os_lexer.specs.declared.fault.LexError.TheVariants.{BadByte, OpenComment, BigNumber, Memory}
use Rattle.os_lexer.specs.declared.token.Token.{Token}

-- the error is the first fault of the text; want of memory says nothing
abbrev pub IsFaultOf : List ℕ → LexError → Type 0
IsFaultOf text (BadByte line) = IsFirstFault text (fault_code fault.BadByte) line
IsFaultOf text (OpenComment line) = IsFirstFault text (fault_code fault.OpenComment) line
IsFaultOf text (BigNumber line) = IsFirstFault text (fault_code fault.BigNumber) line
IsFaultOf text Memory = Unit {0}

-- the error has this code and line, unless memory ran out
abbrev pub HasCodeUnlessMemory : ℕ → ℕ → LexError → Type 0
HasCodeUnlessMemory code line (BadByte l) = (code ≡ fault_code fault.BadByte) × (line ≡ l)
HasCodeUnlessMemory code line (OpenComment l) = (code ≡ fault_code fault.OpenComment) × (line ≡ l)
HasCodeUnlessMemory code line (BigNumber l) = (code ≡ fault_code fault.BigNumber) × (line ≡ l)
HasCodeUnlessMemory code line Memory = Unit {0}

-- the error is want of memory
abbrev pub IsMemory : LexError → Type 0
IsMemory (BadByte l) = ⊥
IsMemory (OpenComment l) = ⊥
IsMemory (BigNumber l) = ⊥
IsMemory Memory = Unit {0}

-- these tokens are answered, unless memory ran out
abbrev pub IsGivenUnlessMemory : List Token → Result (Vec Token Global) LexError → Type 0
IsGivenUnlessMemory tokens (Ok v) = v.items ≡ tokens
IsGivenUnlessMemory tokens (Err e) = IsMemory e

-- this fault is answered, unless memory ran out
abbrev pub IsToldUnlessMemory : ℕ → ℕ → Result (Vec Token Global) LexError → Type 0
IsToldUnlessMemory code line (Ok v) = ⊥
IsToldUnlessMemory code line (Err e) = HasCodeUnlessMemory code line e

-- the error for a fault on a line
abbrev pub error_of : Fault → ℕ → LexError
error_of fault.BadByte line = BadByte line
error_of fault.OpenComment line = OpenComment line
error_of fault.BigNumber line = BigNumber line
