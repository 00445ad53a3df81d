-- What the machine makes of an activation writes nothing but bytes to the output.
use Rattle.std.proofs.Common.{◌≡◌, ◌∙◌, ℕ, ℤ, pos, ◌+◌, Bool, true, false, cond, not, List, [], ◌∷◌, ◌++◌, Some, length, map, slice_get, take, drop, replicate, refl, sym, ap, ap₂, subst, arith}
use Rattle.std.specs.Prelude.{◌&&◌, ◌||◌}
use Rattle.std.specs.List.{list_all}
use Rattle.std.proofs.lemmas.List.{length-drop, length-replicate, length-take}
use Rattle.os_code.proofs.Proper.{keeps-step, kept-going, sound-going}
use Rattle.cddf_meaning.specs.Body.{gives_bytes, outputs_of, writes_output}
use Rattle.c_int.specs.Traps.{trap_code}
use Rattle.flow_core_laws.specs.Byte.{is_byte}
use Rattle.flow_core_laws.specs.Outcome.{outcome_of}
use Rattle.flow_core_laws.specs.Window.{offset_after}
use Rattle.flow_core_laws.specs.declared.activation.Activation.{Activation}
use Rattle.flow_core_laws.specs.declared.claim.Claim.{Claim}
use Rattle.flow_core_laws.specs.declared.outcome.Outcome.{Outcome}
use Rattle.flow_core_laws.specs.declared.task_end.TaskEnd.TheVariants as task
use Rattle.os_code.specs.declared.parts.Parts.{Parts}
use Rattle.os_code.specs.declared.site.Site.{Site}
use Rattle.os_code.specs.declared.unit.CodeUnit.{CodeUnit}
use Rattle.os_code.specs.IsValid.{IsValid}
use Rattle.os_code.specs.Laws.{TasksEnd}
use Rattle.os_code.specs.Machine.{MachineState, TaskWindow, Halt, Progress, Halted, step, RunsToHalt, Halts, GoesOn}
use Rattle.os_code.specs.Outcomes.{code_outcome}
use Rattle.os_code.specs.Parts.{unit_at}
use Rattle.os_code.specs.Tasks.{TaskOutcome, IsDone, SendsNoByte, IsTrapped, IsOver, sends_bytes, task_start, task_windows, written_elements}
use Rattle.os_code.proofs.Halting.{task_stands}
use Rattle.os_code.proofs.Keeping.{Keeps, KeepsGoing, KeepsHalted, KeepsStuck, keeps, shape_of}
use Rattle.os_code.proofs.Proceeding.{proceeds}
use Rattle.os_code.proofs.Sound.{IsSound, Job}
use Rattle.osrun_core_run.specs.BodyLaws.{CodesGiveBytes, GivesBytes}
use Rattle.osrun_core_run.proofs.BodyBytes.{nothing, read_sum, read_sum-cons}
use Rattle.osrun_core_run.proofs.WrittenBytes.{bytes_written}

-- ---- a run of a task keeps the claims of its windows, and how many elements each has

kept_halted : (s last : MachineState) (halt : Halt) (p : Progress) → Keeps 4 s p → p ≡ Halted halt last → shape_of last.windows ≡ shape_of s.windows
kept_halted s last halt _ (KeepsGoing shape) e = cc
kept_halted s last halt _ KeepsStuck e = cc
kept_halted s last halt _ (KeepsHalted {t = t} shape codes) e = let same : t ≡ last = cc in ap (λ (u : MachineState). shape_of u.windows) (sym same) ∙ shape

run_keeps : (code : Parts) → IsValid code → (job : Job) → job.is_main ≡ false → (left : ℕ) (s last : MachineState) (halt : Halt) (n : ℕ) → IsSound code job left s → RunsToHalt code s halt last n
    → shape_of last.windows ≡ shape_of s.windows
run_keeps code valid job no_main left s last halt _ sound (Halts is) = kept_halted s last halt (step code s) (keeps-step code valid job left s no_main sound) is
run_keeps code valid job no_main left s last halt _ sound (GoesOn {t = t} {steps = n} is rest) =
    let next = sound-going code job left (step code s) t (proceeds code valid job left s sound) is in
    run_keeps code valid job no_main next.left t last halt n next.sound rest
    ∙ kept-going s t (step code s) (keeps-step code valid job left s no_main sound) is

-- ---- at the start each claim has as many elements as its horizon

abbrev shape_for : List Claim → List (Claim × ℕ)
shape_for claims = map (λ (c : Claim). (c, c.horizon)) claims

start_shape : (claims : List Claim) (inputs : List ℤ) → length inputs ≡ read_sum claims → shape_of (task_windows claims inputs) ≡ shape_for claims
start_shape [] inputs h = refl
start_shape (c ∷ cs) inputs h = by_write c.write (h ∙ read_sum-cons c cs) (start_shape cs)
  where
    by_write : (b : Bool) → length inputs ≡ cond (not b) (c.horizon + read_sum cs) (read_sum cs)
        → ((more : List ℤ) → length more ≡ read_sum cs → shape_of (task_windows cs more) ≡ shape_for cs)
        → shape_of (cond b (record { claim = c; elements = replicate c.horizon (pos 0) } ∷ task_windows cs inputs) (record { claim = c; elements = take c.horizon inputs } ∷ task_windows cs (drop c.horizon inputs)))
        ≡ (c, c.horizon) ∷ shape_for cs
    by_write true long next =
        ap (λ (n : ℕ). (c, n) ∷ shape_of (task_windows cs inputs)) (length-replicate c.horizon (pos 0))
        ∙ ap (λ (xs : List (Claim × ℕ)). (c, c.horizon) ∷ xs) (next inputs long)
    by_write false long next =
        let size : length (take c.horizon inputs) ≡ c.horizon = length-take c.horizon inputs ∙ omega (arith, long) in
        ap (λ (n : ℕ). (c, n) ∷ shape_of (task_windows cs (drop c.horizon inputs))) size
        ∙ ap (λ (xs : List (Claim × ℕ)). (c, c.horizon) ∷ xs) (next (drop c.horizon inputs) (omega (arith, long, length-drop c.horizon inputs)))

-- ---- windows as claims and lists

abbrev claims_in : List TaskWindow → List Claim
claims_in windows = map (λ (w : TaskWindow). w.claim) windows

abbrev elements_in : List TaskWindow → List (List ℤ)
elements_in windows = map (λ (w : TaskWindow). w.elements) windows

abbrev horizons : List Claim → List ℕ
horizons claims = map (λ (c : Claim). c.horizon) claims

same_shape : (windows : List TaskWindow) (claims : List Claim) → shape_of windows ≡ shape_for claims
    → (claims_in windows ≡ claims) × (map length (elements_in windows) ≡ horizons claims)
same_shape [] [] e = (refl, refl)
same_shape [] (c ∷ cs) e = cc
same_shape (w ∷ ws) [] e = cc
same_shape (w ∷ ws) (c ∷ cs) e =
    let head : ◌≡◌ {A = Claim × ℕ} (w.claim, length w.elements) (c, c.horizon) = cc in
    let rest = same_shape ws cs cc in (
      ap₂ (λ (x : Claim) (xs : List Claim). x ∷ xs) (ap (λ (x : Claim × ℕ). x.0) head) rest.0,
      ap₂ (λ (n : ℕ) (ns : List ℕ). n ∷ ns) (ap (λ (x : Claim × ℕ). x.1) head) rest.1,
    )

same_sends : (windows : List TaskWindow) → gives_bytes (claims_in windows) (elements_in windows) ≡ list_all sends_bytes windows
same_sends [] = refl
same_sends (w ∷ ws) = ap (λ (b : Bool). (not (writes_output w.claim) || list_all is_byte w.elements) && b) (same_sends ws)

same_written : (windows : List TaskWindow) → outputs_of (claims_in windows) (elements_in windows) ≡ written_elements windows
same_written [] = refl
same_written (w ∷ ws) = by_write w.claim.write (same_written ws)
  where
    by_write : (b : Bool) → outputs_of (claims_in ws) (elements_in ws) ≡ written_elements ws
        → cond b (w.elements ++ outputs_of (claims_in ws) (elements_in ws)) (outputs_of (claims_in ws) (elements_in ws)) ≡ cond b w.elements [] ++ written_elements ws
    by_write true rest = ap (λ (xs : List ℤ). w.elements ++ xs) rest
    by_write false rest = rest

-- ---- what a run gives

done_gives : (x : Activation) (windows : List TaskWindow) → list_all sends_bytes windows ≡ true → shape_of windows ≡ shape_for x.claims
    → GivesBytes x (outcome_of task.Done (written_elements windows))
done_gives x windows sends shape k j c value at write stream lt is =
    let same = same_shape windows x.claims shape in
    bytes_written (claims_in windows) (elements_in windows) (same.1 ∙ ap horizons (sym same.0)) (same_sends windows ∙ sends) k j c value
    (ap (λ (cs : List Claim). slice_get cs k) same.0 ∙ at) write stream lt
    (ap (λ (cs : List Claim). slice_get (outputs_of (claims_in windows) (elements_in windows)) (offset_after (take k cs) c + j)) same.0
    ∙ ap (λ (xs : List ℤ). slice_get xs (offset_after (take k x.claims) c + j)) (same_written windows) ∙ is)

gives_at : (x : Activation) (line : ℕ) (halt : Halt) (last : MachineState) (o : Outcome) → TaskOutcome line halt last o → shape_of last.windows ≡ shape_for x.claims → GivesBytes x o
gives_at x line halt last _ (IsDone sends) shape = done_gives x last.windows sends shape
gives_at x line halt last _ (SendsNoByte fails) shape = nothing x (outcome_of (task.Trapped 5 line) []) refl
gives_at x line halt last _ (IsTrapped {why = why} {at_line = at_line}) shape = nothing x (outcome_of (task.Trapped (trap_code why) at_line) []) refl
gives_at x line halt last _ IsOver shape = nothing x (outcome_of task.OverBudget []) refl

pub code_gives : TasksEnd → CodesGiveBytes
code_gives tasks_end code x inputs budget valid fits long =
    let stands = task_stands code valid x inputs budget fits in
    let had = tasks_end code x inputs budget valid fits in
    let ends = had.ends in
    let sites : ends.site ≡ stands.site = let e : Some ends.site ≡ Some stands.site = sym ends.is_site ∙ stands.is_site in cc in
    let units : ends.unit ≡ stands.unit = let e : Some ends.unit ≡ Some stands.unit = sym ends.is_unit ∙ ap (λ (site : Site). unit_at code site.unit) sites ∙ stands.is_unit in cc in
    let runs : RunsToHalt code (task_start stands.unit x inputs budget) ends.halt ends.last had.steps =
    subst (λ (u : CodeUnit). RunsToHalt code (task_start u x inputs budget) ends.halt ends.last had.steps) units ends.runs in
    let kept = run_keeps code valid (record { is_main = false; windows = length (task_windows x.claims inputs) }) refl _ _ ends.last ends.halt had.steps stands.sound runs in
    gives_at x ends.site.line ends.halt ends.last (code_outcome code x inputs budget) ends.ends (kept ∙ start_shape x.claims inputs long)
