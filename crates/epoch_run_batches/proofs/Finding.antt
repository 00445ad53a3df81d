-- What is found is meant.
use Rattle.std.proofs.Common.{◌≡◌, ℕ, ◌+◌, ◌-◌, ◌≤◌, List, [], Option, Some, None, Bool, true, false, cond, pos, refl, sym, ap, ◌∙◌, arith}
use Rattle.std.specs.Prelude.{IfSome, nat_le, slice_get, slice_index, slice_index_or}
use Rattle.std.specs.Option.{option_map_or}
use Rattle.std.proofs.lemmas.Bool.Decides.{nat_tests}
use Rattle.flow_core_laws.specs.declared.elem.Elem.{Elem}
use Rattle.flow_core_laws.specs.declared.elem.Elem.TheVariants.{Value}
use Rattle.flow_core_laws.specs.Element.{initial, nobody}
use Rattle.flow_core_laws.specs.Streams.{stream_element}
use Rattle.epoch_run_batches.specs.declared.streams.Streams.{Streams}
use Rattle.epoch_run_batches.specs.Found.{held_on}
use Rattle.epoch_run_batches.specs.Meant.{HoldMeant, Run, element_meant, meant}

-- what streams hold is meant
pub held_is_meant : (run : Run) (streams : Streams) (stream position : ℕ) (e : Elem) → HoldMeant run streams → held_on streams stream position ≡ Some e → element_meant run stream position ≡ Some e
held_is_meant run streams stream position e holds is = by (nat_le first position) refl is
  where
    first : ℕ
    first = slice_index streams.firsts stream

    by : (b : Bool) → nat_le first position ≡ b → cond b (slice_index_or (slice_index_or streams.elements stream []) (position - first) None) None ≡ Some e → element_meant run stream position ≡ Some e
    by false q h = absurd (cc)
    by true q h =
        let le : first ≤ position = grind (arith, nat_tests) in
        ap (element_meant run stream) (let s : position ≡ first + (position - first) = omega arith in s) ∙ holds stream (position - first) e h

-- a byte of the input is meant
pub byte_is_meant : (run : Run) (input : List ℕ) (position byte : ℕ) → input ≡ run.input → slice_get input position ≡ Some byte → element_meant run 0 position ≡ Some (Value (pos byte))
byte_is_meant run input position byte is at =
    ap (λ o. stream_element (meant run) (option_map_or (λ b. initial (Value (pos b))) o nobody)) (ap (λ xs. slice_get xs position) (sym is) ∙ at)

-- of what is found something weaker
pub IfSome-weaker : {X : Type 0} (o : Option X) (P Q : X → Type 0) → ((x : X) → P x → Q x) → IfSome o P → IfSome o Q
IfSome-weaker None P Q weaker h = h
IfSome-weaker (Some x) P Q weaker h = weaker x h
