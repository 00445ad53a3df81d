-- The answer of a call doesn't depend on the number of workers.
use Rattle.std.proofs.Common.{◌≡◌, ◌≢◌, ◌∙◌, inl, inr, subst, ℕ, ◌<◌, ◌≤◌, List, [], ◌∷◌, Option, Some, None, All, IfSome, IsSomeAnd, refl, sym, ap, arith, length, slice_get, take}
use Rattle.std.specs.Prelude.{IsSome}
use Rattle.std.proofs.lemmas.Bool.{cases_lt, cases_order, false≢true}
use Rattle.std.proofs.lemmas.List.{get_or-take, length-take}
use Rattle.std.proofs.lemmas.List.Elements.{All-nil, All-cons, All-head, All-tail, All-take, All-get_or}
use Rattle.std.proofs.lemmas.Option.{get_or_from_slice_get, same_Some, slice_get_within}
use Rattle.collector.proofs.Buffered.{append_known-nil}
use Rattle.front_end.specs.Texts.{OneRefusal}
use Rattle.os_io.specs.declared.files.Files.{Ghosts as FilesView}
use Rattle.os_io.specs.declared.sink.Sink.{Ghosts as SinkView}
use Rattle.osrun_core.specs.Given.{GivesOutcome}
use Rattle.osrun_core.proofs.Says.{cases, kept, not_replayed_alone, same_file}
use Rattle.osrun_core_answer.specs.Answers.{AnswersRequest, IsMade, IsFileRefused}
use Rattle.osrun_core_answer.specs.JobOutcome.{JobOutcome}
use Rattle.osrun_core_answer.specs.Laws.{IsTold, SameButForWorkers}
use Rattle.osrun_core_jobs.specs.Files.{JobFile, files_of, limit_of}
use Rattle.osrun_core_jobs.specs.Jobs.{Exec, Explain, Gen, Request, Run, replay_in}
use Rattle.osrun_core_jobs.specs.Reading.{IsCauseOf, IsFailed, IsReadable, WereRead}
use Rattle.osrun_core_jobs.specs.Refusal.{refusal_line, refusal_status}
use Rattle.osrun_core_jobs.specs.Status.{status_code}
use Rattle.osrun_core_jobs.specs.Telling.{Took}
use Rattle.osrun_core_jobs.specs.declared.refusal.Refusal.{Refusal}
use Rattle.osrun_core_jobs.specs.declared.refusal.Refusal.TheVariants as refusals
use Rattle.osrun_core_jobs.specs.declared.status.Status.{Status}
use Rattle.osrun_core_jobs.specs.declared.subject.Subject.{Subject}
use Rattle.osrun_core_jobs.specs.declared.subject.Subject.TheVariants as subjects
use Rattle.osrun_core_run.specs.Laws.{NeverUsableAndRefused}
use Rattle.osrun_core_run.specs.Refusal.{IsUnusable, IsUsable}

-- ---- requests that differ in their workers

abbrev IsNoTrace : JobFile → Type 0
IsNoTrace file = file.subject ≢ subjects.Trace

-- no program, no input and no object is a trace
program_none : subjects.Program ≢ subjects.Trace
program_none e = cc

input_none : subjects.Input ≢ subjects.Trace
input_none e = cc

object_none : subjects.Object ≢ subjects.Trace
object_none e = cc

two_none : (first second : JobFile) → IsNoTrace first → IsNoTrace second → All IsNoTrace (first ∷ second ∷ [])
two_none first second a b = All-cons IsNoTrace first (second ∷ []) a (All-cons IsNoTrace second [] b (All-nil IsNoTrace))

-- they have the same files, of which none is a trace, and the second one is no replay, as the first one isn't
record Alike (request other : Request) : Type 0 where
  files : files_of request ≡ files_of other
  traces : All IsNoTrace (files_of request)
  replay : IsSome (replay_in request) → ⊥
  other_replay : IsSome (replay_in other) → ⊥

alike : (request other : Request) → SameButForWorkers request other → Alike request other
alike (Run job) (Run other) same = record {
  files = ap (λ name. files_of (Run (record job { program = name }))) same.0
      ∙ ap (λ name. files_of (Run (record job { program = other.program; input = name }))) same.1;
  traces = two_none _ _ program_none input_none;
  replay = false≢true;
  other_replay = false≢true;
}
alike (Gen job) (Gen other) same = record { files = refl; traces = All-nil IsNoTrace; replay = false≢true; other_replay = false≢true }
alike (Exec job) (Exec other) same = record {
  files = ap (λ name. files_of (Exec (record job { object = name }))) same.0
      ∙ ap (λ name. files_of (Exec (record job { object = other.object; input = name }))) same.1;
  traces = two_none _ _ object_none input_none;
  replay = false≢true;
  other_replay = false≢true;
}
alike (Explain job) (Explain other) same = record {
  files = ap (λ name. files_of (Explain (record job { program = name }))) same.0
      ∙ ap (λ name. files_of (Explain (record job { program = other.program; input = name }))) same.1;
  traces = two_none _ _ program_none input_none;
  replay = false≢true;
  other_replay = false≢true;
}
alike _ _ same = absurd same

-- ---- how a file is judged by what it holds

-- bytes are refused as such a file in one way
one_refusal : OneRefusal → (subject : Subject) (bytes : List ℕ) (code other : ℕ) (line there : Option ℕ) → subject ≢ subjects.Trace
    → IsUnusable subject bytes code line → IsUnusable subject bytes other there → (code ≡ other) × (line ≡ there)
one_refusal texts subjects.Program bytes code other (Some line) (Some there) not u v = let r = texts bytes code line other there u v in (r.0, ap Some r.1)
one_refusal texts subjects.Program bytes code other (Some line) None not u v = absurd v
one_refusal texts subjects.Program bytes code other None there not u v = absurd u
one_refusal texts subjects.Input bytes code other line there not u v = absurd u
one_refusal texts subjects.Object bytes code other (Some line) there not u v = absurd u
one_refusal texts subjects.Object bytes code other None (Some there) not u v = absurd v
one_refusal texts subjects.Object bytes code other None None not (inl u) (inl v) = (u.0 ∙ sym v.0, refl)
one_refusal texts subjects.Object bytes code other None None not (inl u) (inr v) = absurd (u.1 v.1.0 v.1.1)
one_refusal texts subjects.Object bytes code other None None not (inr u) (inl v) = absurd (v.1 u.1.0 u.1.1)
one_refusal texts subjects.Object bytes code other None None not (inr u) (inr v) = (u.0 ∙ sym v.0, refl)
one_refusal texts subjects.Trace bytes code other line there not u v = absurd (not refl)

-- the file is told, and refused so for what it holds
abbrev IsJudged : (List ℕ → Option (List ℕ)) → JobFile → Refusal → Type 0
IsJudged holds file (refusals.Refused code line) =
    (bytes : List ℕ) × (holds file.name ≡ Some bytes) × (length bytes ≤ limit_of file.subject) × IsUnusable file.subject bytes code line
IsJudged holds file (refusals.TooLong named) =
    (bytes : List ℕ) × (holds file.name ≡ Some bytes) × (limit_of file.subject < length bytes) × (named ≡ file.subject)
IsJudged holds file (refusals.ReadFault _) = ⊥
IsJudged holds file refusals.Memory = ⊥

judged : {F : Type 0} (view : FilesView F) (old new : F) (file : JobFile) (r : Refusal) → IsTold (view.holds old) file
    → IsFailed IsUnusable view old new file r → status_code (refusal_status r) < 5 → IsJudged (view.holds old) file r
judged view old new file (refusals.Refused code line) told failed small =
    let same : failed.bytes ≡ told.0 = subst (λ t. IfSome t (λ held. failed.bytes ≡ held)) told.1 failed.read.is_held in
    (failed.bytes, told.1 ∙ ap Some (sym same), failed.read.fits, failed.refused)
judged view old new file (refusals.TooLong _) told failed small =
    (told.0, told.1, subst (λ t. IfSome t (λ held. limit_of file.subject < length held)) told.1 failed.held, failed.named)
judged view old new file (refusals.ReadFault _) told failed small = absurd (omega (arith, small))
judged view old new file refusals.Memory told failed small = absurd (omega (arith, small))

-- none that can be used is refused so
never_both : NeverUsableAndRefused → (holds : List ℕ → Option (List ℕ)) (file : JobFile) (r : Refusal) → IsReadable IsUsable holds file
    → IsJudged holds file r → ⊥
never_both never holds file (refusals.Refused code line) readable j =
    let same : j.0 ≡ readable.bytes = same_Some j.0 readable.bytes (sym j.1 ∙ readable.told) in
    never file.subject readable.bytes code line readable.is_usable (subst (λ b. IsUnusable file.subject b code line) same j.3)
never_both never holds file (refusals.TooLong _) readable j =
    let same : length j.0 ≡ length readable.bytes = ap length (same_Some j.0 readable.bytes (sym j.1 ∙ readable.told)) in
    let long = j.2 in
    let fits = readable.fits in
    omega (arith, same, long, fits)
never_both never holds file (refusals.ReadFault _) readable j = j
never_both never holds file refusals.Memory readable j = j

-- it is refused in one way
one_judgment : OneRefusal → (holds : List ℕ → Option (List ℕ)) (file : JobFile) (r s : Refusal) → IsNoTrace file → IsJudged holds file r
    → IsJudged holds file s → r ≡ s
one_judgment texts holds file (refusals.Refused code line) (refusals.Refused other there) not j k =
    let same : j.0 ≡ k.0 = same_Some j.0 k.0 (sym j.1 ∙ k.1) in
    let is = one_refusal texts file.subject k.0 code other line there not (subst (λ b. IsUnusable file.subject b code line) same j.3) k.3 in
    ap (λ c. refusals.Refused c line) is.0 ∙ ap (λ l. refusals.Refused other l) is.1
one_judgment texts holds file (refusals.Refused code line) (refusals.TooLong _) not j k =
    let same : length j.0 ≡ length k.0 = ap length (same_Some j.0 k.0 (sym j.1 ∙ k.1)) in
    let fits = j.2 in
    let long = k.2 in
    absurd (omega (arith, same, fits, long))
one_judgment texts holds file (refusals.TooLong _) (refusals.Refused other there) not j k =
    let same : length j.0 ≡ length k.0 = ap length (same_Some j.0 k.0 (sym j.1 ∙ k.1)) in
    let long = j.2 in
    let fits = k.2 in
    absurd (omega (arith, same, fits, long))
one_judgment texts holds file (refusals.TooLong _) (refusals.TooLong _) not j k = ap (λ x. refusals.TooLong x) (j.3 ∙ sym k.3)
one_judgment texts holds file (refusals.ReadFault _) s not j k = absurd j
one_judgment texts holds file refusals.Memory s not j k = absurd j
one_judgment texts holds file (refusals.Refused code line) (refusals.ReadFault _) not j k = absurd k
one_judgment texts holds file (refusals.Refused code line) refusals.Memory not j k = absurd k
one_judgment texts holds file (refusals.TooLong _) (refusals.ReadFault _) not j k = absurd k
one_judgment texts holds file (refusals.TooLong _) refusals.Memory not j k = absurd k

-- ---- how files are judged

-- the first files can be used, and the one behind them is refused so
record Verdict (holds : List ℕ → Option (List ℕ)) (files : List JobFile) (r : Refusal) : Type 0 where
  place : ℕ
  file : JobFile
  is_there : slice_get files place ≡ Some file
  earlier : All (IsReadable IsUsable holds) (take place files)
  is_judged : IsJudged holds file r

module _ (P : JobFile → Type 0) (files : List JobFile) (k : ℕ) (file : JobFile) (is_there : slice_get files k ≡ Some file) where
  at_place : All P files → P file
  at_place all = subst P (get_or_from_slice_get files k file file is_there) (All-get_or P files k file (slice_get_within files k file is_there) all)

  before_place : (place : ℕ) → k < place → All P (take place files) → P file
  before_place place less all =
      let within = slice_get_within files k file is_there in
      subst P (get_or-take place files k file less ∙ get_or_from_slice_get files k file file is_there)
      (All-get_or P (take place files) k file (omega (arith, less, within, length-take place files)) all)

-- files that can all be used are not refused
no_verdict : NeverUsableAndRefused → (holds : List ℕ → Option (List ℕ)) (files : List JobFile) (r : Refusal) → All (IsReadable IsUsable holds) files
    → Verdict holds files r → ⊥
no_verdict never holds files r all v =
    never_both never holds v.file r (at_place (IsReadable IsUsable holds) files v.place v.file v.is_there all) v.is_judged

-- files are refused in one way
one_verdict : OneRefusal → NeverUsableAndRefused → (holds : List ℕ → Option (List ℕ)) (files : List JobFile) (r s : Refusal) → All IsNoTrace files
    → Verdict holds files r → Verdict holds files s → r ≡ s
one_verdict texts never holds files r s traces v w = elim (cases_order v.place w.place) [
  | inl same ↦
      one_judgment texts holds w.file r s (at_place IsNoTrace files w.place w.file w.is_there traces)
      (subst (λ f. IsJudged holds f r) (same_file files v.place w.place v.file w.file v.is_there w.is_there same) v.is_judged) w.is_judged
  | inr (inl less) ↦ absurd (never_both never holds v.file r
      (before_place (IsReadable IsUsable holds) files v.place v.file v.is_there w.place less w.earlier) v.is_judged)
  | inr (inr more) ↦ absurd (never_both never holds w.file s
      (before_place (IsReadable IsUsable holds) files w.place w.file w.is_there v.place more v.earlier) w.is_judged)
]

module _ {F : Type 0} (view : FilesView F) where
  -- told files that were read can be used
  readable : (old new : F) (files : List JobFile) (contents : List (List ℕ)) → WereRead IsUsable view old new files contents
      → All (IsTold (view.holds old)) files → All (IsReadable IsUsable (view.holds old)) files
  readable old new [] contents read told = All-nil (IsReadable IsUsable (view.holds old))
  readable old new (file ∷ files) [] read told = absurd read
  readable old new (file ∷ files) (bytes ∷ contents) read told =
      let first = All-head (IsTold (view.holds old)) file files told in
      let same : bytes ≡ first.0 = subst (λ t. IfSome t (λ held. bytes ≡ held)) first.1 read.1.read.is_held in
      let more = All-tail (IsTold (view.holds old)) file files told in
      All-cons (IsReadable IsUsable (view.holds old)) file files
      (record { bytes = bytes; told = first.1 ∙ ap Some (sym same); fits = read.1.read.fits; is_usable = read.1.is_usable })
      (subst (λ h. All (IsReadable IsUsable h) files) read.1.holds_kept
      (readable read.0 new files contents read.2 (subst (λ h. All (IsTold h) files) (sym read.1.holds_kept) more)))

  -- the cause of a refusal is a verdict, where no read failed
  verdict : (old new : F) (files : List JobFile) (r : Refusal) → IsCauseOf IsUsable IsUnusable view old new files r
      → All (IsTold (view.holds old)) files → status_code (refusal_status r) < 5 → Verdict (view.holds old) files r
  verdict old new files r cause told small =
      let before = cause.ended.before in
      let holds : view.holds before ≡ view.holds old = (kept view old before (take cause.place files) cause.ended.contents cause.ended.earlier).0 in
      let file_told = at_place (IsTold (view.holds old)) files cause.place cause.file cause.ended.is_there told in
      record {
        place = cause.place;
        file = cause.file;
        is_there = cause.ended.is_there;
        earlier = readable old before (take cause.place files) cause.ended.contents cause.ended.earlier
            (All-take (IsTold (view.holds old)) cause.place files told);
        is_judged = subst (λ h. IsJudged h cause.file r) holds
            (judged view before new cause.file r (subst (λ h. IsTold h cause.file) (sym holds) file_told) cause.failed small);
      }

-- ---- what a call gives

-- a refusal is given so
abbrev refusal_outcome : Refusal → JobOutcome
refusal_outcome r = record { output = []; told = refusal_line r; own = status_code (refusal_status r) }

took_nothing : {S : Type 0} (view : SinkView S) (old new : S) → new ≡ old → Took view old new []
took_nothing view old new same = (ap view.taken same ∙ append_known-nil (view.taken old), ap view.faults same, ap view.empty_takes same)

module _ {F O E : Type 0} (of_files : FilesView F) (fo fn : F) (of_out : SinkView O) (oo on : O) (of_report : SinkView E) (ro rn : E)
    (request : Request) (status : ℕ) where
  abbrev Gave : JobOutcome → Type 0
  Gave outcome = GivesOutcome of_out oo on of_report ro rn status outcome

  -- A call gives what is meant, or tells a refusal, or gives nothing: then no outcome is contradicted.
  data Way (holds : List ℕ → Option (List ℕ)) (files : List JobFile) : Type 0 where
    was_made : (made : IsMade of_files fo fn (Some request)) → All (IsReadable IsUsable holds) files → Gave made.outcome → Way holds files
    was_refused : (r : Refusal) → Verdict holds files r → Gave (refusal_outcome r) → Way holds files
    was_lost : ((outcome : JobOutcome) → Gave outcome) → Way holds files

  -- with the statuses 5 and 7 no outcome is contradicted
  lost : 5 ≤ status → status ≢ 6 → (outcome : JobOutcome) → Gave outcome
  lost large not_six outcome = record {
    own = λ small. absurd (omega (arith, small, large));
    output = λ small. absurd (omega (arith, small, large));
    report = λ small. absurd (omega (arith, small, large));
    refusal = λ _ small. absurd (omega (arith, small, large));
    cut_short = λ six. absurd (not_six six);
  }

  module _ (told : All (IsTold (of_files.holds fo)) (files_of request)) where
    made_readable : (made : IsMade of_files fo fn (Some request)) → All (IsReadable IsUsable (of_files.holds fo)) (files_of request)
    made_readable made =
        let same : made.request ≡ request = same_Some made.request request (sym made.is_asked) in
        readable of_files fo fn (files_of request) made.contents
        (subst (λ q. WereRead IsUsable of_files fo fn (files_of q) made.contents) same made.read) told

    -- the way of a refusal
    refused_way : (s : Status) → IsFileRefused of_files fo fn oo on of_report ro rn (Some request) s → status ≡ status_code s → 3 ≤ status → status ≤ 5
        → Way (of_files.holds fo) (files_of request)
    refused_way s h is low high = elim (cases_lt status 5) [
      | inl small ↦
          let same : h.request ≡ request = same_Some h.request request (sym h.is_asked) in
          let own : status ≡ status_code (refusal_status h.refusal) = is ∙ ap status_code h.answered_is in
          was_refused h.refusal
          (verdict of_files fo fn (files_of request) h.refusal
          (subst (λ q. IsCauseOf IsUsable IsUnusable of_files fo fn (files_of q) h.refusal) same h.cause) told (subst (λ n. n < 5) own small))
          (record {
            own = λ _. own;
            output = λ _. took_nothing of_out oo on h.output_kept;
            report = λ less. absurd (omega (arith, less, low));
            refusal = λ _ _. h.report;
            cut_short = λ six. absurd (omega (arith, six, high));
          })
      | inr large ↦ was_lost (lost large (λ six. omega (arith, six, high)))
    ]

    way : (IsSome (replay_in request) → ⊥) → AnswersRequest of_files fo fn of_out oo on of_report ro rn (Some request) status
        → Way (of_files.holds fo) (files_of request)
    way no_replay answer = cases of_files fo fn of_out oo on of_report ro rn (Some request) status answer
        (λ g small. was_made g.made (made_readable g.made) (record {
          own = λ _. g.own;
          output = λ _. g.output;
          report = λ _. g.report;
          refusal = λ large _. absurd (omega (arith, small, large));
          cut_short = λ six. absurd (omega (arith, small, six));
        }))
        (λ u _. absurd (let e : Some request ≡ None = u.nothing_asked in cc))
        (λ s h is low high. refused_way s h is low high)
        (λ c six. was_made c.made (made_readable c.made) (record {
          own = λ small. absurd (omega (arith, small, six));
          output = λ small. absurd (omega (arith, small, six));
          report = λ small. absurd (omega (arith, small, six));
          refusal = λ _ small. absurd (omega (arith, small, six));
          cut_short = λ _. (c.own, c.undelivered);
        }))
        (λ _ seven. was_lost (lost (omega (arith, seven)) (λ six. omega (arith, six, seven))))
        (λ _ eight. absurd (no_replay (not_replayed_alone of_files fo fn of_out oo on of_report ro rn (Some request) status answer eight)))

-- ---- two calls

module _ {F O E : Type 0} (of_files : FilesView F) (fo fn go gn : F) (of_out : SinkView O) (oo on po pn : O) (of_report : SinkView E)
    (ro rn so sn : E) (status other_status : ℕ) where
  abbrev GiveOne : Type 0
  GiveOne = (outcome : JobOutcome) × GivesOutcome of_out oo on of_report ro rn status outcome × GivesOutcome of_out po pn of_report so sn other_status outcome

  -- what requests that differ in their workers are meant to give
  abbrev AreMadeAlike : Type 0
  AreMadeAlike = (request other : Request) → SameButForWorkers request other → All (IsTold (of_files.holds fo)) (files_of request)
      → (one : IsMade of_files fo fn (Some request)) → (two : IsMade of_files go gn (Some other)) → one.outcome ≡ two.outcome

  joined : OneRefusal → NeverUsableAndRefused → (request other : Request) (holds : List ℕ → Option (List ℕ)) (files : List JobFile) → All IsNoTrace files
      → ((one : IsMade of_files fo fn (Some request)) → (two : IsMade of_files go gn (Some other)) → one.outcome ≡ two.outcome)
      → Way of_files fo fn of_out oo on of_report ro rn request status holds files
      → Way of_files go gn of_out po pn of_report so sn other other_status holds files → GiveOne
  joined texts never request other holds files traces made (was_made a _ gave) (was_made b _ also) =
      (b.outcome, subst (GivesOutcome of_out oo on of_report ro rn status) (made a b) gave, also)
  joined texts never request other holds files traces made (was_made a all gave) (was_refused s w also) = absurd (no_verdict never holds files s all w)
  joined texts never request other holds files traces made (was_refused r v gave) (was_made b all also) = absurd (no_verdict never holds files r all v)
  joined texts never request other holds files traces made (was_refused r v gave) (was_refused s w also) =
      let same : r ≡ s = one_verdict texts never holds files r s traces v w in
      (refusal_outcome s, subst (λ x. GivesOutcome of_out oo on of_report ro rn status (refusal_outcome x)) same gave, also)
  joined texts never request other holds files traces made (was_made a _ gave) (was_lost any) = (a.outcome, gave, any a.outcome)
  joined texts never request other holds files traces made (was_refused r _ gave) (was_lost any) = (refusal_outcome r, gave, any (refusal_outcome r))
  joined texts never request other holds files traces made (was_lost any) (was_made b _ also) = (b.outcome, any b.outcome, also)
  joined texts never request other holds files traces made (was_lost any) (was_refused s _ also) = (refusal_outcome s, any (refusal_outcome s), also)
  joined texts never request other holds files traces made (was_lost any) (was_lost all) =
      let none : JobOutcome = record { output = []; told = []; own = 0 } in
      (none, any none, all none)

  pub one_outcome : (asked asked_too : Option Request) → OneRefusal → NeverUsableAndRefused → AreMadeAlike → of_files.holds go ≡ of_files.holds fo
      → IsSomeAnd asked (λ request. IsSomeAnd asked_too (SameButForWorkers request))
      → IfSome asked (λ request. All (IsTold (of_files.holds fo)) (files_of request))
      → AnswersRequest of_files fo fn of_out oo on of_report ro rn asked status
      → AnswersRequest of_files go gn of_out po pn of_report so sn asked_too other_status → GiveOne
  one_outcome None asked_too texts never made holds same told one two = absurd same
  one_outcome (Some request) None texts never made holds same told one two = absurd same
  one_outcome (Some request) (Some other) texts never made holds same told one two =
      let both = alike request other same in
      let told_too : All (IsTold (of_files.holds go)) (files_of other) =
      subst (λ h. All (IsTold h) (files_of other)) (sym holds) (subst (All (IsTold (of_files.holds fo))) both.files told) in
      let second = way of_files go gn of_out po pn of_report so sn other other_status told_too both.other_replay two in
      joined texts never request other (of_files.holds fo) (files_of request) both.traces (made request other same told)
      (way of_files fo fn of_out oo on of_report ro rn request status told both.replay one)
      (subst (λ fs. Way of_files go gn of_out po pn of_report so sn other other_status (of_files.holds fo) fs) (sym both.files)
      (subst (λ h. Way of_files go gn of_out po pn of_report so sn other other_status h (files_of other)) holds second))

  pub same_status : (asked asked_too : Option Request) → OneRefusal → NeverUsableAndRefused → AreMadeAlike → of_files.holds go ≡ of_files.holds fo
      → IsSomeAnd asked (λ request. IsSomeAnd asked_too (SameButForWorkers request))
      → IfSome asked (λ request. All (IsTold (of_files.holds fo)) (files_of request))
      → AnswersRequest of_files fo fn of_out oo on of_report ro rn asked status
      → AnswersRequest of_files go gn of_out po pn of_report so sn asked_too other_status → status < 5 → other_status < 5 → status ≡ other_status
  same_status asked asked_too texts never made holds same told one two small small_too =
      let both = one_outcome asked asked_too texts never made holds same told one two in
      both.1.own small ∙ sym (both.2.own small_too)
