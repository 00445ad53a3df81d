-- What is said of an activation that isn't done, and which sentences are alike.
use Rattle.std.specs.Prelude.{ℕ, ◌==◌, ◌&&◌, Bool, true, false, if◌then◌else◌, List, [], ◌∷◌, ◌++◌, Option, codes, find}
use Rattle.std.specs.Fmt.{decimal}
use Rattle.std.specs.Option.{option_map_or}
use Rattle.c_int.specs.Traps.{trap_code}
use Rattle.c_int.specs.declared.trap.OperatorTrap.TheVariants.{Overflow, DivisorZero, Shift}
use Rattle.c_int.specs.declared.trap.Trap.{Trap}
use Rattle.c_int.specs.declared.trap.Trap.TheVariants.{Operator, Index, NoByte, WindowSize, Move, OutputBurst}
use Rattle.osview_sentences.specs.Names.{stream_text}
use Rattle.osview_sentences.specs.declared.fact.Fact.{Fact}
use Rattle.osview_sentences.specs.declared.fact.Fact.TheVariants as fact
use Rattle.osview_sentences.specs.declared.fact.Sentence.{Sentence}
use Rattle.osview_sentences.specs.declared.fact.Supply.{Supply}
use Rattle.osview_sentences.specs.declared.fact.Supply.TheVariants as supply
use Rattle.osview_sentences.specs.declared.stream_name.StreamName.{StreamName}

-- a trap in words
abbrev pub trap_words : Trap → List ℕ
trap_words (Operator Overflow) = codes "overflow, the result is no int"
trap_words (Operator DivisorZero) = codes "division by zero"
trap_words (Operator Shift) = codes "a shift by less than 0 or more than 31, or to the left of a negative number or out of int"
trap_words Index = codes "the index is outside the array, the view or the stream array"
trap_words NoByte = codes "an element for osout is no byte"
trap_words WindowSize = codes "the size of the window is outside 1 to 65536"
trap_words Move = codes "the burst or the tick is outside 0 to 65536"
trap_words OutputBurst = codes "the burst of the output window isn't its size"

-- all traps
abbrev pub traps : List Trap
traps = Operator Overflow ∷ Operator DivisorZero ∷ Operator Shift ∷ Index ∷ NoByte ∷ WindowSize ∷ Move ∷ OutputBurst ∷ []

-- the trap with a code, if one has it
abbrev pub trap_of : ℕ → Option Trap
trap_of code = find (λ trap. code == trap_code trap) traps

-- A trap in words, by its code.
abbrev pub trap_text : ℕ → List ℕ
trap_text code = option_map_or trap_words (trap_of code) (codes "a code that no trap has")

-- an element of a stream
abbrev pub element_text : (name : List ℕ) → (position : ℕ) → List ℕ
element_text name position = codes "element " ++ decimal position ++ codes " of stream " ++ name

-- an activation should give it, and how that one fares
abbrev pub from_text : (giver : ℕ) → (fares : List ℕ) → List ℕ
from_text giver fares = codes " from activation " ++ decimal giver ++ codes ", which " ++ fares

-- who should give an element
abbrev pub supply_text : Supply → List ℕ
supply_text supply.Ended = codes ", which stands past the end of the input"
supply_text supply.Nobody = codes ", which no task writes"
supply_text supply.Itself = []
supply_text (supply.Waiting giver) = from_text giver (codes "waits too")

-- an element that another one should give
abbrev pub given_text : (name : List ℕ) → (position : ℕ) → Supply → List ℕ
given_text name position by = codes "waits for " ++ element_text name position ++ supply_text by

-- an element that an activation waits for, and who should give it; one that waits for itself may miss the first element
abbrev pub waits_text : (name : List ℕ) → (position : ℕ) → Supply → List ℕ
waits_text name position supply.Itself =
    if position == 0 then codes "waits for itself: stream " ++ name ++ codes " has no first element"
    else codes "waits for itself: it writes " ++ element_text name position
waits_text name position supply.Ended = given_text name position supply.Ended
waits_text name position supply.Nobody = given_text name position supply.Nobody
waits_text name position (supply.Waiting giver) = given_text name position (supply.Waiting giver)

-- what became of an activation, where the streams have these names in a text
abbrev pub fact_text : List ℕ → List StreamName → Fact → List ℕ
fact_text text names (fact.Trapped code line) = codes "trapped in line " ++ decimal line ++ codes ": " ++ trap_text code
fact_text text names fact.OverBudget = codes "used up its turns"
fact_text text names (fact.Poisoned root) = codes "never ran, since activation " ++ decimal root ++ codes " failed"
fact_text text names (fact.Waits stream position by) = waits_text (stream_text text names stream) position by

-- of which activation something is said
abbrev pub who_text : (a line : ℕ) → List ℕ
who_text a line = codes "activation " ++ decimal a ++ codes ", of the task in line " ++ decimal line ++ codes ", "

-- What became of an activation.
abbrev pub sentence_text : List ℕ → List StreamName → Sentence → List ℕ
sentence_text text names s = who_text s.activation s.task_line ++ fact_text text names s.fact

-- whether an element is to be given in the same way
abbrev pub is_supplied_so : Supply → Supply → Bool
is_supplied_so supply.Ended supply.Ended = true
is_supplied_so supply.Nobody supply.Nobody = true
is_supplied_so supply.Itself supply.Itself = true
is_supplied_so (supply.Waiting giver) (supply.Waiting other) = true
is_supplied_so _ _ = false

abbrev pub is_trap : (code line : ℕ) → Fact → Bool
is_trap code line (fact.Trapped other at) = (other == code) && (at == line)
is_trap code line fact.OverBudget = false
is_trap code line (fact.Poisoned root) = false
is_trap code line (fact.Waits stream position by) = false

abbrev pub is_over_budget : Fact → Bool
is_over_budget (fact.Trapped code line) = false
is_over_budget fact.OverBudget = true
is_over_budget (fact.Poisoned root) = false
is_over_budget (fact.Waits stream position by) = false

abbrev pub is_poisoned_by : (root : ℕ) → Fact → Bool
is_poisoned_by root (fact.Trapped code line) = false
is_poisoned_by root fact.OverBudget = false
is_poisoned_by root (fact.Poisoned other) = other == root
is_poisoned_by root (fact.Waits stream position by) = false

abbrev pub is_wait : (stream : ℕ) → Supply → Fact → Bool
is_wait stream by (fact.Trapped code line) = false
is_wait stream by fact.OverBudget = false
is_wait stream by (fact.Poisoned root) = false
is_wait stream by (fact.Waits other position other_by) = (other == stream) && is_supplied_so by other_by

-- whether the same became of two activations, but for their numbers and for positions
abbrev pub is_same : Fact → Fact → Bool
is_same (fact.Trapped code line) other = is_trap code line other
is_same fact.OverBudget other = is_over_budget other
is_same (fact.Poisoned root) other = is_poisoned_by root other
is_same (fact.Waits stream position by) other = is_wait stream by other

-- Whether two sentences are alike: of activations of one task, to which the same happened.
abbrev pub is_alike : Sentence → Sentence → Bool
is_alike s other = (other.task_line == s.task_line) && is_same s.fact other.fact
