-- The end of `main`, from what its statements do.
use Rattle.std.proofs.Common.{◌≡◌, ℕ, List, [], ◌∷◌, length, Some, ℤ, refl, sym, ap, ◌∙◌, subst}
use Rattle.cddf_meaning.specs.Control as meaning
use Rattle.cddf_meaning.specs.Flow.{Ran, Went, Ended, Runs as StmtRuns, flows}
use Rattle.cddf_meaning.specs.BodyState.{BodyState}
use Rattle.cddf_meaning.specs.declared.ending.Ending.{Ending}
use Rattle.cddf_meaning.specs.declared.ending.Ending.TheVariants as ending
use Rattle.cddf_meaning.specs.declared.flow.Flow.{Flow}
use Rattle.cddf_meaning.specs.declared.flow.Flow.TheVariants.{GoesOn, Breaks, Continues, Returns}
use Rattle.flow_core_laws.specs.declared.activation.Activation.{Activation}
use Rattle.flow_core_laws.specs.declared.control.Control.{Control}
use Rattle.os_ast.specs.declared.names.Entry.{Entry}
use Rattle.os_code.specs.declared.instr.Instr.TheVariants as instr
use Rattle.os_code.specs.declared.parts.Parts.{Parts}
use Rattle.os_code.specs.Control.{halt_end}
use Rattle.os_code.specs.Machine as machine
use Rattle.os_code.specs.Machine.{Halt, RunsToHalt}
use Rattle.os_code.specs.Parts.{instr_at}
use Rattle.lowering_relation.proofs.Context.{InMain, Kept, Made, Context}
use Rattle.lowering_relation.proofs.Flows.{Does, went, ended, settled, AlignedIn}
use Rattle.lowering_relation.proofs.Steps.{Store, at, Leads, stays, steps, Stops, halt_of}
use Rattle.lowering_relation.proofs.TaskRuns.{to_end}

abbrev pub made_so : List Activation → Halt → Control
made_so activations halt = record { activations = activations; end = halt_end halt }

-- the machine ends from this state as the rest of `main` does
pub record MainEnds (code : Parts) (s : machine.MachineState) (r : Ran) : Type 0 where
  pub halt : Halt
  pub last : machine.MachineState
  pub count : ℕ
  pub runs : RunsToHalt code s halt last count
  pub ends : meaning.control_of r ≡ made_so last.created halt

pub ends_from : {code : Parts} {s t : machine.MachineState} {r : Ran} → Leads code s t → MainEnds code t r → MainEnds code s r
ends_from stays h = h
ends_from (steps a l) h = let k = ends_from l h in record { halt = k.halt; last = k.last; count = _; runs = machine.GoesOn a k.runs; ends = k.ends }

pub at_end : {code : Parts} {s : machine.MachineState} (f : Flow) (st : BodyState) (m : Store) (q : ℕ) (stack : List ℤ) (turns left : ℕ) → Leads code s (at [] q stack m turns) → instr_at code q ≡ Some instr.End → st.activations ≡ m.created →
    MainEnds code s (Went f st left)
at_end {code = code} {s = s} f st m q stack turns left l is same =
    let run = to_end code s (at [] q stack m turns) l is in
    record { halt = machine.Ended; last = at [] q stack m turns; count = run.0; runs = run.1; ends = ap (λ made. made_so made machine.Ended) same }

same_end : (e : Ending) → meaning.control_end e ≡ halt_end (halt_of e)
same_end (ending.Trapped code line) = refl
same_end ending.OverBudget = refl
same_end (ending.Limited n) = refl

pub at_halt : {code : Parts} {s : machine.MachineState} (e : Ending) (activations made : List Activation) → Stops code s e made → made ≡ activations → MainEnds code s (Ended e activations)
at_halt e activations made h same = record {
  halt = halt_of e;
  last = h.last;
  count = h.steps;
  runs = h.runs;
  ends = ap (λ xs. record { activations = xs; end = meaning.control_end e }) (sym same ∙ sym h.made) ∙ ap (λ x. record { activations = h.last.created; end = x }) (same_end e);
}

-- what follows a statement of the outermost block
pub flow_ends : {s : machine.MachineState} {r : Ran} (c : Context) (streams later total mid end : ℕ) (within : List Entry → Type 0) (after : List Entry) (next : StmtRuns) → c.side ≡ InMain streams later → instr_at c.code end ≡ Some instr.End →
    Does c.code s (settled c [] instr.End total mid end end [] within after) r →
    ((st : BodyState) (m : Store) (turns : ℕ) → length m.slots ≡ total → Kept c.side st m → AlignedIn c [] instr.End total m st.bound after → MainEnds c.code (at [] mid [] m turns) (next st turns)) → MainEnds c.code s (flows next r)
flow_ends c streams later total mid end within after next side is (went GoesOn st turns (m, len, kept, al) l) go = ends_from l (go st m turns len kept al)
flow_ends c streams later total mid end within after next side is (went Breaks st turns (m, len, kept, al) l) go =
    let k : Kept (InMain streams later) st m = subst (λ x. Kept x st m) side kept in at_end Breaks st m end [] turns turns l is k.0
flow_ends c streams later total mid end within after next side is (went Continues st turns (m, len, kept, al) l) go =
    let k : Kept (InMain streams later) st m = subst (λ x. Kept x st m) side kept in at_end Continues st m end [] turns turns l is k.0
flow_ends c streams later total mid end within after next side is (went (Returns v) st turns (m, len, kept, (q, at_q)) l) go =
    let k : Kept (InMain streams later) st m = subst (λ x. Kept x st m) side kept in at_end (Returns v) st m q (v ∷ []) turns turns l at_q k.0
flow_ends c streams later total mid end within after next side is (ended {e = e} {activations = activations} made h k) go =
    at_halt e activations made h (subst (λ x. Made x activations made) side k)
