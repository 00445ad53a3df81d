-- What activations read in the meaning are `int`s, as a statement.
use Rattle.std.specs.Prelude.{◌≡◌, ℕ, ℤ, ◌<◌, All, List, Some, length}
use Rattle.cddf_meaning_laws.specs.Beginning.{AreInts}
use Rattle.flow_core_laws.specs.Poisoning.{values_of}
use Rattle.flow_core_laws.specs.Round.{inputs_in}
use Rattle.flow_core_laws.specs.Streams.{stream_element, stream_meaning, stream_reads}
use Rattle.flow_core_laws.specs.declared.activation.Activation.{Activation}
use Rattle.flow_core_laws.specs.declared.elem.Elem.{Elem}
use Rattle.flow_core_laws.specs.declared.outcome.Outcome.{Outcome}

-- Over an input of bytes, where each body gives `int`s for the `int`s that it reads, the values that an activation reads in the
-- meaning are `int`s.
abbrev pub ReadsInts : Type 0
ReadsInts = (activations : List Activation) (input : List ℕ) (body : ℕ → List ℤ → Outcome) → All (λ byte. byte < 256) input
    → ((a : ℕ) (inputs : List ℤ) → a < length activations → AreInts inputs → AreInts (body a inputs).outputs)
    → (a : ℕ) (read : List Elem)
    → inputs_in stream_element (stream_reads activations input) (stream_meaning activations input body) a ≡ Some read
    → AreInts (values_of read)
