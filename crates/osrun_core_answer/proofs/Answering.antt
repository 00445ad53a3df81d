-- What the answer to a request says.
use Rattle.std.proofs.Common.{◌≡◌, ◌∙◌, ◌⊎◌, inl, inr, subst, ℕ, zero, suc, ◌<◌, ◌≤◌, List, [], ◌∷◌, Option, Some, None, All, IfSome, refl, sym, ap, arith, length, slice_get, take, cond, Bool, true, false}
use Rattle.std.specs.Prelude.{string_bytes}
use Rattle.std.specs.declared.alloc.Global.{Global}
use Rattle.std.specs.declared.string.String.{String}
use Rattle.std.proofs.lemmas.List.Elements.{All-get_or}
use Rattle.std.proofs.lemmas.Option.{get_or_from_slice_get, same_Some, slice_get_within}
use Rattle.collector.specs.Report.{report}
use Rattle.collector.specs.Status.{status}
use Rattle.flow_core_laws.specs.declared.control.Control.{Control}
use Rattle.flow_core_laws.specs.declared.plan.Plan.{Plan}
use Rattle.os_ast.specs.Trees.{ProgramTree}
use Rattle.os_io.specs.declared.files.Files.{Ghosts as FilesView}
use Rattle.os_io.specs.declared.sink.Sink.{Ghosts as SinkView}
use Rattle.osrun_core_answer.specs.Answers.{AnswersRequest, HasCause, IsGiven, IsMade, asked_files}
use Rattle.osrun_core_answer.specs.JobOutcome.{GivesReplay, JobOutcome}
use Rattle.osrun_core_answer.specs.Made.{AnswersGen, IsCompiledOf, IsExecOf, IsExplainedOf, IsMadeOf, IsReplayedOf, IsTracedOf, IsUnmadeOf, told_outcome}
use Rattle.osrun_core_answer.specs.declared.make_explain.Explanation.{Explanation}
use Rattle.osrun_core_answer.specs.declared.make_trace.TracedRun.{TracedRun}
use Rattle.osrun_core_answer.proofs.Findings.{small_status}
use Rattle.osrun_core_jobs.specs.Files.{JobFile, files_of, limit_of}
use Rattle.osrun_core_jobs.specs.HandsOver.{HandsOver}
use Rattle.osrun_core_jobs.specs.Jobs.{Compile, CompileJob, Exec, ExecJob, Explain, ExplainJob, Gen, GenJob, IsExecWithin, IsExplainWithin, IsGenWithin, IsReplayWithin, IsRequestWithin, IsWithin, Job, Replay as ReplayRequest, ReplayJob, Request, Run, Trace}
use Rattle.osrun_core_jobs.specs.Reading.{IsCauseOf, IsFailed, IsReadable, IsRejected, ReadsInOrder, WasRead, WereRead}
use Rattle.osrun_core_jobs.specs.Refusal.{refusal_status, usage_line}
use Rattle.osrun_core_jobs.specs.Refuses.{Refuses}
use Rattle.osrun_core_jobs.specs.Status.{status_code}
use Rattle.osrun_core_jobs.specs.Telling.{IsUndelivered, Tells, Took, TookLines}
use Rattle.osrun_core_jobs.specs.declared.refusal.Refusal.{Refusal}
use Rattle.osrun_core_jobs.specs.declared.refusal.Refusal.TheVariants as refusals
use Rattle.osrun_core_jobs.specs.declared.status.Status.{Status}
use Rattle.osrun_core_jobs.specs.declared.status.Status.TheVariants as statuses
use Rattle.osrun_core_run.specs.Laws.{NeverUsableAndRefused}
use Rattle.osrun_core_run.specs.Reported.{IsReportOf}
use Rattle.osrun_core_run.specs.Refusal.{IsUnusable, IsUsable}
use Rattle.osrun_core_run.specs.ReplayLine.{IsReplayLine}
use Rattle.osrun_core_run.specs.Run.{ends_over}
use Rattle.osrun_core_run.specs.RunOf.{IsRunOf}
use Rattle.osrun_core_run.specs.declared.made.MadeRun.{MadeRun}
use Rattle.osrun_core_run.specs.declared.replaying.Replay.{Replay}
use Rattle.osrun_core_run.specs.declared.replaying.Replay.TheVariants.{Whole, Told}
use Rattle.trace_replay_laws.specs.declared.replayed.Replayed.{Replayed}
use Rattle.trace_replay_laws.specs.declared.replayed.Replayed.TheVariants as replayed

-- ---- files

-- the files hold the same after reading
pub holds_read : {F : Type 0} (view : FilesView F) (old new : F) (files : List JobFile) (contents : List (List ℕ))
    → WereRead IsUsable view old new files contents → view.holds new ≡ view.holds old
holds_read view old new [] [] read = ap view.holds read
holds_read view old new [] (bytes ∷ contents) read = absurd read
holds_read view old new (file ∷ files) [] read = absurd read
holds_read view old new (file ∷ files) (bytes ∷ contents) read =
    holds_read view read.0 new files contents read.2 ∙ read.1.holds_kept

-- what was read of a file that is told is what it holds
the_same : (told : Option (List ℕ)) (bytes held : List ℕ) → IfSome told (λ t. bytes ≡ t) → told ≡ Some held → bytes ≡ held
the_same told bytes held is is_told = subst (λ t. IfSome t (λ t. bytes ≡ t)) is_told is

module _ {F : Type 0} (view : FilesView F) (both : NeverUsableAndRefused) where
  -- a file that is told, within its limit and usable is the cause only of a fault
  only_fault : (old new : F) (file : JobFile) (r : Refusal) → IsReadable IsUsable (view.holds old) file → IsFailed IsUnusable view old new file r
      → 5 ≤ status_code (refusal_status r)
  only_fault old new file (refusals.Refused code line) readable failed =
      absurd (both file.subject failed.bytes code line
      (subst (IsUsable file.subject) (sym (the_same (view.holds old file.name) failed.bytes readable.bytes failed.read.is_held readable.told)) readable.is_usable) failed.refused)
  only_fault old new file (refusals.TooLong subject) readable failed =
      absurd (let long = subst (λ t. IfSome t (λ told. limit_of file.subject < length told)) readable.told failed.held in omega (arith, long, readable.fits))
  only_fault old new file (refusals.ReadFault subject) readable failed = omega arith
  only_fault old new file refusals.Memory readable failed = omega arith

  -- a file that is told, within its limit and refused is the cause of no length
  not_long : (old new : F) (file : JobFile) (r : Refusal) → IsRejected IsUnusable (view.holds old) file → IsFailed IsUnusable view old new file r
      → (status_code (refusal_status r) ≡ 3) ⊎ ((status_code (refusal_status r) ≡ 5) ⊎ (status_code (refusal_status r) ≡ 7))
  not_long old new file (refusals.Refused code line) rejected failed = inl refl
  not_long old new file (refusals.TooLong subject) rejected failed =
      absurd (let long = subst (λ t. IfSome t (λ told. limit_of file.subject < length told)) rejected.told failed.held in omega (arith, long, rejected.fits))
  not_long old new file (refusals.ReadFault subject) rejected failed = inr (inl refl)
  not_long old new file refusals.Memory rejected failed = inr (inr refl)

  -- the first file that was read isn't refused
  first_read : (old new : F) (files : List JobFile) (contents : List (List ℕ)) (first : JobFile) → slice_get files 0 ≡ Some first
      → WereRead IsUsable view old new files contents → IsRejected IsUnusable (view.holds old) first → ⊥
  first_read old new [] contents first at read rejected = cc
  first_read old new (file ∷ files) [] first at read rejected = read
  first_read old new (file ∷ files) (bytes ∷ contents) first at read rejected =
      let same : file ≡ first = same_Some file first at in
      let was : WasRead IsUsable view old read.0 first bytes = subst (λ x. WasRead IsUsable view old read.0 x bytes) same read.1 in
      both first.subject rejected.bytes rejected.code rejected.line
      (subst (IsUsable first.subject) (the_same (view.holds old first.name) bytes rejected.bytes was.read.is_held rejected.told) was.is_usable) rejected.refused

  -- the file at which the reading ended is the first one, or the first one was read
  first_ended : (old before : F) (files : List JobFile) (place : ℕ) (file first : JobFile) (contents : List (List ℕ)) → slice_get files place ≡ Some file
      → slice_get files 0 ≡ Some first → WereRead IsUsable view old before (take place files) contents → IsRejected IsUnusable (view.holds old) first → file ≡ first
  first_ended old before files zero file first contents there at read rejected = same_Some file first (sym there ∙ at)
  first_ended old before [] (suc place) file first contents there at read rejected = absurd (cc)
  first_ended old before (x ∷ files) (suc place) file first contents there at read rejected =
      absurd (first_read old before (x ∷ take place files) contents first at read rejected)

  -- where all files are readable, the cause is a fault
  complete_refused : (old new : F) (files : List JobFile) (r : Refusal) → IsCauseOf IsUsable IsUnusable view old new files r
      → All (IsReadable IsUsable (view.holds old)) files → 5 ≤ status_code (refusal_status r)
  complete_refused old new files r cause all =
      let P = IsReadable IsUsable (view.holds old) in
      let here : P cause.file = subst P (get_or_from_slice_get files cause.place cause.file cause.file cause.ended.is_there)
      (All-get_or P files cause.place cause.file (slice_get_within files cause.place cause.file cause.ended.is_there) all) in
      only_fault cause.ended.before new cause.file r
      (subst (λ h. IsReadable IsUsable h cause.file) (sym (holds_read view old cause.ended.before (take cause.place files) cause.ended.contents cause.ended.earlier)) here)
      cause.failed

  -- where the first file is rejected, that is told, or a fault
  rejected_refused : (old new : F) (files : List JobFile) (r : Refusal) (first : JobFile) → IsCauseOf IsUsable IsUnusable view old new files r
      → slice_get files 0 ≡ Some first → IsRejected IsUnusable (view.holds old) first
      → (status_code (refusal_status r) ≡ 3) ⊎ ((status_code (refusal_status r) ≡ 5) ⊎ (status_code (refusal_status r) ≡ 7))
  rejected_refused old new files r first cause at rejected =
      let same : cause.file ≡ first = first_ended old cause.ended.before files cause.place cause.file first cause.ended.contents cause.ended.is_there at cause.ended.earlier rejected in
      not_long cause.ended.before new first r
      (subst (λ h. IsRejected IsUnusable h first) (sym (holds_read view old cause.ended.before (take cause.place files) cause.ended.contents cause.ended.earlier)) rejected)
      (subst (λ x. IsFailed IsUnusable view cause.ended.before new x r) same cause.failed)

-- ---- statuses

-- a choice between 0 and 1 is below 2
choice_small : (b : Bool) (n : ℕ) → n ≡ cond b 0 1 → n < 2
choice_small true n e = omega arith
choice_small false n e = omega arith

-- all that is asked for is this
one_request : (request other : Request) → Some request ≡ Some other → request ≡ other
one_request request other same = same_Some request other same

module _ {F O E : Type 0} (of_files : FilesView F) (files_old files_new : F) (of_out : SinkView O) (out_old out_new : O)
    (of_report : SinkView E) (report_old report_new : E) (asked : Option Request) where
  -- what was given, by its status
  given_cause : (s : Status) → status_code s < 2 → IsGiven of_files files_old files_new of_out out_old out_new of_report report_old report_new asked (status_code s)
      → HasCause of_files files_old files_new of_out out_old out_new of_report report_old report_new asked s
  given_cause statuses.AllDone small given = given
  given_cause statuses.NotAllDone small given = given
  given_cause statuses.BadWords small given = absurd (omega (arith, small))
  given_cause statuses.Refused small given = absurd (omega (arith, small))
  given_cause statuses.TooLong small given = absurd (omega (arith, small))
  given_cause statuses.ReadFault small given = absurd (omega (arith, small))
  given_cause statuses.WriteFault small given = absurd (omega (arith, small))
  given_cause statuses.NoMemory small given = absurd (omega (arith, small))
  given_cause statuses.NotReplayed small given = absurd (omega (arith, small))

  module _ (both : NeverUsableAndRefused) (made : IsMade of_files files_old files_new asked) where
    reads_made : ReadsInOrder IsUsable of_files files_old files_new (asked_files asked)
    reads_made = subst (λ a. ReadsInOrder IsUsable of_files files_old files_new (asked_files a)) (sym made.is_asked) (inr (inl (made.contents, made.read)))

    not_rejected : (file : JobFile) → slice_get (asked_files asked) 0 ≡ Some file → IsRejected IsUnusable (of_files.holds files_old) file → ⊥
    not_rejected file at rejected =
        first_read of_files both files_old files_new (files_of made.request) made.contents file
        (subst (λ a. slice_get (asked_files a) 0 ≡ Some file) made.is_asked at) made.read rejected

    pub answers_given : (s : Status) → status_code s < 2 → Took of_out out_old out_new made.outcome.output → TookLines of_report report_old report_new made.outcome.told
        → status_code s ≡ made.outcome.own → AnswersRequest of_files files_old files_new of_out out_old out_new of_report report_old report_new asked (status_code s)
    answers_given s small output lines own = record {
      answered = s;
      status_is = refl;
      cause = given_cause s small (record { made = made; output = output; report = lines; own = own });
      reads = reads_made;
      complete = λ request is all. inl small;
      rejected = λ file at rejected. absurd (not_rejected file at rejected);
    }

    pub answers_cut : made.outcome.own < 2 → IsUndelivered of_out out_old out_new made.outcome.output of_report report_old report_new made.outcome.told
        → AnswersRequest of_files files_old files_new of_out out_old out_new of_report report_old report_new asked 6
    answers_cut small undelivered = record {
      answered = statuses.WriteFault;
      status_is = refl;
      cause = record { made = made; own = small; undelivered = undelivered };
      reads = reads_made;
      complete = λ request is all. inr (omega arith);
      rejected = λ file at rejected. absurd (not_rejected file at rejected);
    }

    -- what is handed over answers the request
    pub answers_handed : (own s : Status) → status_code own < 2 → status_code own ≡ made.outcome.own
        → HandsOver of_out out_old out_new made.outcome.output of_report report_old report_new made.outcome.told own s
        → AnswersRequest of_files files_old files_new of_out out_old out_new of_report report_old report_new asked (status_code s)
    answers_handed own s small is (inl h) =
        subst (λ x. AnswersRequest of_files files_old files_new of_out out_old out_new of_report report_old report_new asked (status_code x)) (sym h.2)
        (answers_given own small h.0 h.1 is)
    answers_handed own s small is (inr h) =
        subst (λ x. AnswersRequest of_files files_old files_new of_out out_old out_new of_report report_old report_new asked (status_code x)) (sym h.1)
        (answers_cut (omega (arith, small, is)) h.0)

    -- what lists of a trace come to, where there is no run, was told
    pub answers_line : made.outcome.own ≡ 8 → out_new ≡ out_old → Tells of_report report_old report_new made.outcome.told
        → AnswersRequest of_files files_old files_new of_out out_old out_new of_report report_old report_new asked 8
    answers_line own kept told = record {
      answered = statuses.NotReplayed;
      status_is = refl;
      cause = record { made = made; own = own; output_kept = kept; report = told };
      reads = reads_made;
      complete = λ request is all. inr (omega arith);
      rejected = λ file at rejected. absurd (not_rejected file at rejected);
    }

  -- want of memory
  pub answers_unmade : ReadsInOrder IsUsable of_files files_old files_new (asked_files asked) → out_new ≡ out_old → report_new ≡ report_old
      → AnswersRequest of_files files_old files_new of_out out_old out_new of_report report_old report_new asked 7
  answers_unmade reads out report = record {
    answered = statuses.NoMemory;
    status_is = refl;
    cause = record { output_kept = out; report_kept = report };
    reads = reads;
    complete = λ request is all. inr (omega arith);
    rejected = λ file at rejected. inr (inr refl);
  }

-- words that ask for nothing
pub answers_unasked : {F O E : Type 0} (of_files : FilesView F) (files : F) (of_out : SinkView O) (out : O) (of_report : SinkView E) (report_old report_new : E)
    (asked : Option Request) → asked ≡ None → Tells of_report report_old report_new usage_line
    → AnswersRequest of_files files files of_out out out of_report report_old report_new asked 2
answers_unasked of_files files of_out out of_report report_old report_new asked nothing told = record {
  answered = statuses.BadWords;
  status_is = refl;
  cause = record { nothing_asked = nothing; files_kept = refl; output_kept = refl; report = told };
  reads = subst (λ a. ReadsInOrder IsUsable of_files files files (asked_files a)) (sym nothing) (inl refl);
  complete = λ request is all. absurd (let e : None ≡ Some request = sym nothing ∙ is in cc);
  rejected = λ file at rejected. absurd (let e : None ≡ Some file = subst (λ a. slice_get (asked_files a) 0 ≡ Some file) nothing at in cc);
}

-- ---- a refusal

module _ {F O E : Type 0} (of_files : FilesView F) (files_old files_new : F) (of_out : SinkView O) (out_old out_new : O)
    (of_report : SinkView E) (report_old report_new : E) (both : NeverUsableAndRefused) (request : Request) (within : IsRequestWithin request) where
  -- a refusal that is told
  refused_of : (r : Refusal) → IsCauseOf IsUsable IsUnusable of_files files_old files_new (files_of request) r
      → HasCause of_files files_old files_new of_out out_old out_new of_report report_old report_new (Some request) (refusal_status r)
      → AnswersRequest of_files files_old files_new of_out out_old out_new of_report report_old report_new (Some request) (status_code (refusal_status r))
  refused_of r cause has = record {
    answered = refusal_status r;
    status_is = refl;
    cause = has;
    reads = inr (inr (cause.place, cause.file, cause.ended));
    complete = λ other is all. inr (complete_refused of_files both files_old files_new (files_of request) r cause
        (subst (λ q. All (IsReadable IsUsable (of_files.holds files_old)) (files_of q)) (sym (one_request request other is)) all));
    rejected = λ file at rejected. rejected_refused of_files both files_old files_new (files_of request) r file cause at rejected;
  }

  pub answers_refused : (r : Refusal) → IsUnmadeOf of_files files_old files_new (files_of request) r → Refuses of_report report_old report_new r → out_new ≡ out_old
      → AnswersRequest of_files files_old files_new of_out out_old out_new of_report report_old report_new (Some request) (status_code (refusal_status r))
  answers_refused (refusals.Refused code line) (inl cause) told kept =
      refused_of (refusals.Refused code line) cause
      (record { request = request; is_asked = refl; within = within; refusal = refusals.Refused code line; answered_is = refl; cause = cause; output_kept = kept; report = told })
  answers_refused (refusals.Refused code line) (inr memory) told kept =
      absurd (let n : 3 ≡ 7 = ap (λ r. status_code (refusal_status r)) memory.0 in omega arith)
  answers_refused (refusals.TooLong subject) (inl cause) told kept =
      refused_of (refusals.TooLong subject) cause
      (record { request = request; is_asked = refl; within = within; refusal = refusals.TooLong subject; answered_is = refl; cause = cause; output_kept = kept; report = told })
  answers_refused (refusals.TooLong subject) (inr memory) told kept =
      absurd (let n : 4 ≡ 7 = ap (λ r. status_code (refusal_status r)) memory.0 in omega arith)
  answers_refused (refusals.ReadFault subject) (inl cause) told kept =
      refused_of (refusals.ReadFault subject) cause
      (record { request = request; is_asked = refl; within = within; refusal = refusals.ReadFault subject; answered_is = refl; cause = cause; output_kept = kept; report = told })
  answers_refused (refusals.ReadFault subject) (inr memory) told kept =
      absurd (let n : 5 ≡ 7 = ap (λ r. status_code (refusal_status r)) memory.0 in omega arith)
  answers_refused refusals.Memory (inl cause) told kept =
      answers_unmade of_files files_old files_new of_out out_old out_new of_report report_old report_new (Some request)
      (inr (inr (cause.place, cause.file, cause.ended))) kept told
  answers_refused refusals.Memory (inr memory) told kept =
      answers_unmade of_files files_old files_new of_out out_old out_new of_report report_old report_new (Some request) memory.1 kept told

-- ---- a run

module _ {F O E : Type 0} (of_files : FilesView F) (files_old files_new : F) (of_out : SinkView O) (out_old out_new : O)
    (of_report : SinkView E) (report_old report_new : E) (both : NeverUsableAndRefused) (job : Job) (within : IsWithin job) where
  module _ (run : MadeRun) (is : IsMadeOf of_files files_old files_new job run) (own : Status) (own_is : status_code own ≡ status run.ends.ends run.control) where
    -- what is reported, by the layout and by the input
    abbrev told_of : List ℕ
    told_of = report is.is_run.made.activations run.layout.input_len run.ends run.control

    abbrev made_run : IsMade of_files files_old files_new (Some (Run job))
    made_run = record {
      request = Run job;
      is_asked = refl;
      within = within;
      contents = is.text ∷ is.input ∷ [];
      read = is.read;
      outcome = record { output = run.output.items; told = report is.is_run.made.activations run.layout.input_len run.ends run.control; own = status_code own };
      is_outcome = record {
        text = is.text;
        run = record { control = is.is_run.made; input = is.input; ends = run.ends };
        contents_are = refl;
        program = is.program;
        is_program = is.is_program;
        control_is = is.is_run.made_is;
        ends_are = is.is_run.ends_are;
        output_is = is.is_run.writes;
        report_is = ap (λ n. report is.is_run.made.activations n run.ends run.control) is.is_run.over
            ∙ ap (report is.is_run.made.activations (length is.input) run.ends) is.is_run.end_is;
        status_is = own_is ∙ ap (status run.ends.ends) is.is_run.end_is;
      };
    }

    pub answers_run : (s : Status) → ((text : List ℕ) → IsReportOf run text → HandsOver of_out out_old out_new run.output.items of_report report_old report_new text own s)
        → AnswersRequest of_files files_old files_new of_out out_old out_new of_report report_old report_new (Some (Run job)) (status_code s)
    answers_run s hands =
        answers_handed of_files files_old files_new of_out out_old out_new of_report report_old report_new (Some (Run job)) both made_run own s
        (choice_small _ (status_code own) own_is) refl
        (hands told_of (record { whole = is.is_run.whole; activations = is.is_run.made.activations; laid = is.is_run.laid; is_report = refl }))

-- ---- the run of an object

module _ {F O E : Type 0} (of_files : FilesView F) (files_old files_new : F) (of_out : SinkView O) (out_old out_new : O)
    (of_report : SinkView E) (report_old report_new : E) (both : NeverUsableAndRefused) (job : ExecJob) (within : IsExecWithin job) where
  module _ (run : MadeRun) (is : IsExecOf of_files files_old files_new job run) (own : Status) (own_is : status_code own ≡ status run.ends.ends run.control) where
    -- what is reported, by the layout and by the input
    abbrev lines_of : List ℕ
    lines_of = report is.is_run.made.activations run.layout.input_len run.ends run.control

    abbrev made_exec : IsMade of_files files_old files_new (Some (Exec job))
    made_exec = record {
      request = Exec job;
      is_asked = refl;
      within = within;
      contents = is.object ∷ is.input ∷ [];
      read = is.read;
      outcome = record { output = run.output.items; told = report is.is_run.made.activations run.layout.input_len run.ends run.control; own = status_code own };
      is_outcome = record {
        object = is.object;
        run = record { control = is.is_run.made; input = is.input; ends = run.ends };
        contents_are = refl;
        code = is.code;
        is_object = is.is_object;
        control_is = is.is_run.made_is;
        fit = is.is_run.fit;
        ends_are = is.is_run.ends_are;
        output_is = is.is_run.writes;
        report_is = ap (λ n. report is.is_run.made.activations n run.ends run.control) is.is_run.over
            ∙ ap (report is.is_run.made.activations (length is.input) run.ends) is.is_run.end_is;
        status_is = own_is ∙ ap (status run.ends.ends) is.is_run.end_is;
      };
    }

    pub answers_exec : (s : Status) → ((text : List ℕ) → IsReportOf run text → HandsOver of_out out_old out_new run.output.items of_report report_old report_new text own s)
        → AnswersRequest of_files files_old files_new of_out out_old out_new of_report report_old report_new (Some (Exec job)) (status_code s)
    answers_exec s hands =
        answers_handed of_files files_old files_new of_out out_old out_new of_report report_old report_new (Some (Exec job)) both made_exec own s
        (choice_small _ (status_code own) own_is) refl
        (hands lines_of (record { whole = is.is_run.whole; activations = is.is_run.made.activations; laid = is.is_run.laid; is_report = refl }))

-- ---- an object that is written

module _ {F O E : Type 0} (of_files : FilesView F) (files_old files_new : F) (of_out : SinkView O) (out_old out_new : O)
    (of_report : SinkView E) (report_old report_new : E) (both : NeverUsableAndRefused) (job : CompileJob) where
  pub answers_compile : (object : List ℕ) → IsCompiledOf of_files files_old files_new job object → (s : Status)
      → HandsOver of_out out_old out_new object of_report report_old report_new [] statuses.AllDone s
      → AnswersRequest of_files files_old files_new of_out out_old out_new of_report report_old report_new (Some (Compile job)) (status_code s)
  answers_compile object is s hands =
      answers_handed of_files files_old files_new of_out out_old out_new of_report report_old report_new (Some (Compile job)) both
      (record {
        request = Compile job;
        is_asked = refl;
        within = tt;
        contents = is.text ∷ [];
        read = is.read;
        outcome = record { output = object; told = []; own = 0 };
        is_outcome = record {
          text = is.text;
          contents_are = refl;
          program = is.program;
          is_program = is.is_program;
          code = is.code;
          is_code = is.is_code;
          is_object = is.is_object;
          report_is = refl;
          status_is = refl;
        };
      })
      statuses.AllDone s (omega arith) refl hands

-- ---- what is told of an activation

module _ {F O E : Type 0} (of_files : FilesView F) (files_old files_new : F) (of_out : SinkView O) (out_old out_new : O)
    (of_report : SinkView E) (report_old report_new : E) (both : NeverUsableAndRefused) (job : ExplainJob) (within : IsExplainWithin job) where
  pub answers_explain : (explanation : Explanation) → IsExplainedOf of_files files_old files_new job explanation → (s : Status)
      → HandsOver of_out out_old out_new (string_bytes explanation.text) of_report report_old report_new [] explanation.status s
      → AnswersRequest of_files files_old files_new of_out out_old out_new of_report report_old report_new (Some (Explain job)) (status_code s)
  answers_explain explanation is s hands =
      answers_handed of_files files_old files_new of_out out_old out_new of_report report_old report_new (Some (Explain job)) both
      (record { request = Explain job; is_asked = refl; within = within; contents = is.0; read = is.1; outcome = told_outcome explanation; is_outcome = is.2 })
      explanation.status s (small_status is.2.explains.finding (status_code explanation.status) is.2.explains.own_is) refl hands

-- ---- a trace

module _ {F O E : Type 0} (of_files : FilesView F) (files_old files_new : F) (of_out : SinkView O) (out_old out_new : O)
    (of_report : SinkView E) (report_old report_new : E) (both : NeverUsableAndRefused) (job : Job) (within : IsWithin job) where
  module _ (traced : TracedRun) (is : IsTracedOf of_files files_old files_new job traced) (own : Status) (own_is : status_code own ≡ status traced.run.ends.ends traced.run.control) where
    abbrev run : MadeRun
    run = traced.run

    abbrev of_run : IsRunOf job.task_budget job.control_budget is.made.program is.made.input run.output.items run.layout run.ends run.control
    of_run = is.made.is_run

    abbrev traced_told : List ℕ
    traced_told = report of_run.made.activations run.layout.input_len run.ends run.control

    abbrev made_trace : IsMade of_files files_old files_new (Some (Trace job))
    made_trace = record {
      request = Trace job;
      is_asked = refl;
      within = within;
      contents = is.made.text ∷ is.made.input ∷ [];
      read = is.made.read;
      outcome = record { output = traced.text.items; told = report of_run.made.activations run.layout.input_len run.ends run.control; own = status_code own };
      is_outcome = record {
        text = is.made.text;
        run = record { control = of_run.made; input = is.made.input; ends = run.ends };
        contents_are = refl;
        program = is.made.program;
        is_program = is.made.is_program;
        control_is = of_run.made_is;
        ends_are = of_run.ends_are;
        lists = is.traces.lists;
        one_each = is.traces.one_each;
        hold_the_ended = is.traces.hold_the_ended;
        output_is = is.traces.text_is;
        report_is = ap (λ n. report of_run.made.activations n run.ends run.control) of_run.over
            ∙ ap (report of_run.made.activations (length is.made.input) run.ends) of_run.end_is;
        status_is = own_is ∙ ap (status run.ends.ends) of_run.end_is;
      };
    }

    pub answers_trace : (s : Status) → ((text : List ℕ) → IsReportOf run text → HandsOver of_out out_old out_new traced.text.items of_report report_old report_new text own s)
        → AnswersRequest of_files files_old files_new of_out out_old out_new of_report report_old report_new (Some (Trace job)) (status_code s)
    answers_trace s hands =
        answers_handed of_files files_old files_new of_out out_old out_new of_report report_old report_new (Some (Trace job)) both made_trace own s
        (choice_small _ (status_code own) own_is) refl
        (hands traced_told (record { whole = of_run.whole; activations = of_run.made.activations; laid = of_run.laid; is_report = refl }))

-- ---- a run by the lists of a trace

module _ {F O E : Type 0} (of_files : FilesView F) (files_old files_new : F) (of_out : SinkView O) (out_old out_new : O)
    (of_report : SinkView E) (report_old report_new : E) (both : NeverUsableAndRefused) (job : ReplayJob) (within : IsReplayWithin job) where
  -- what is given of it
  abbrev made_replay : (replay : Replay) (is : IsReplayedOf of_files files_old files_new job replay) (outcome : JobOutcome)
      → GivesReplay is.program is.comes_to.made is.input job.task_budget is.comes_to.plan is.comes_to.answer outcome
      → IsMade of_files files_old files_new (Some (ReplayRequest job))
  made_replay replay is outcome gives = record {
    request = ReplayRequest job;
    is_asked = refl;
    within = within;
    contents = is.text ∷ is.input ∷ is.told ∷ [];
    read = is.read;
    outcome = outcome;
    is_outcome = record {
      text = is.text;
      input = is.input;
      told = is.told;
      contents_are = refl;
      program = is.program;
      is_program = is.is_program;
      lists = is.lists;
      is_trace = is.is_trace;
      made = is.comes_to.made;
      plan = is.comes_to.plan;
      answer = is.comes_to.answer;
      is_replay = is.comes_to.is_replay;
      gives = gives;
    };
  }

  -- a run is given of lists that are whole
  module _ (run : MadeRun) (is : IsReplayedOf of_files files_old files_new job (Whole run)) (own : Status) (own_is : status_code own ≡ status run.ends.ends run.control) where
    abbrev of_whole : IsRunOf job.task_budget job.control_budget is.program is.input run.output.items run.layout run.ends run.control
    of_whole = is.comes_to.is_handed_back.1

    abbrev whole_told : List ℕ
    whole_told = report of_whole.made.activations run.layout.input_len run.ends run.control

    abbrev whole_outcome : JobOutcome
    whole_outcome = record { output = run.output.items; told = whole_told; own = status_code own }

    -- the control program creates the same over the plan and in the run
    same_made : of_whole.made ≡ is.comes_to.made
    same_made = of_whole.made_is ∙ sym is.comes_to.is_replay.made_is

    whole_gives : GivesReplay is.program is.comes_to.made is.input job.task_budget is.comes_to.plan is.comes_to.answer whole_outcome
    whole_gives =
        subst (λ (a : Replayed). GivesReplay is.program is.comes_to.made is.input job.task_budget is.comes_to.plan a whole_outcome) (sym is.comes_to.is_handed_back.0) (
          of_whole.ends_are ∙ ap (λ (m : Control). ends_over is.program m.activations is.input job.task_budget) same_made,
          record {
            output_is = of_whole.writes;
            report_is = ap (λ n. report of_whole.made.activations n run.ends run.control) of_whole.over
                ∙ ap (report of_whole.made.activations (length is.input) run.ends) of_whole.end_is
                ∙ ap (λ (m : Control). report m.activations (length is.input) run.ends m.end) same_made;
            status_is = own_is ∙ ap (status run.ends.ends) of_whole.end_is ∙ ap (λ (m : Control). status run.ends.ends m.end) same_made;
          },
        )

    pub answers_whole : (s : Status) → ((text : List ℕ) → IsReportOf run text → HandsOver of_out out_old out_new run.output.items of_report report_old report_new text own s)
        → AnswersRequest of_files files_old files_new of_out out_old out_new of_report report_old report_new (Some (ReplayRequest job)) (status_code s)
    answers_whole s hands =
        answers_handed of_files files_old files_new of_out out_old out_new of_report report_old report_new (Some (ReplayRequest job)) both
        (made_replay (Whole run) is whole_outcome whole_gives) own s
        (choice_small _ (status_code own) own_is) refl
        (hands whole_told (record { whole = of_whole.whole; activations = of_whole.made.activations; laid = of_whole.laid; is_report = refl }))

  -- the line of an answer that isn't whole
  line_gives : (program : ProgramTree) (made : Control) (input : List ℕ) (budget : ℕ) (plan : Plan) (answer : Replayed) (text : List ℕ)
      → IsReplayLine plan made.activations answer text → GivesReplay program made input budget plan answer (record { output = []; told = text; own = 8 })
  line_gives program made input budget plan (replayed.Whole ends) text is = absurd is
  line_gives program made input budget plan (replayed.Short frame) text is = record { output_is = refl; is_line = is; status_is = refl }
  line_gives program made input budget plan (replayed.Stuck list frame cell) text is = record { output_is = refl; is_line = is; status_is = refl }
  line_gives program made input budget plan (replayed.Repeat frame) text is = record { output_is = refl; is_line = is; status_is = refl }
  line_gives program made input budget plan (replayed.Stranger list place) text is = record { output_is = refl; is_line = is; status_is = refl }

  pub answers_told : (text : String Global) → IsReplayedOf of_files files_old files_new job (Told text) → out_new ≡ out_old
      → Tells of_report report_old report_new (string_bytes text)
      → AnswersRequest of_files files_old files_new of_out out_old out_new of_report report_old report_new (Some (ReplayRequest job)) 8
  answers_told text is kept told =
      answers_line of_files files_old files_new of_out out_old out_new of_report report_old report_new (Some (ReplayRequest job)) both
      (made_replay (Told text) is (record { output = []; told = string_bytes text; own = 8 })
      (line_gives is.program is.comes_to.made is.input job.task_budget is.comes_to.plan is.comes_to.answer (string_bytes text) is.comes_to.is_handed_back))
      refl kept told

-- ---- the four lines of `gen`

module _ {F O E : Type 0} (of_files : FilesView F) (files : F) (of_out : SinkView O) (out_old out_new : O) (of_report : SinkView E) (report_old report_new : E)
    (both : NeverUsableAndRefused) (job : GenJob) (within : IsGenWithin job) where
  pub answers_gen : (s : Status) → AnswersGen of_out out_old out_new of_report report_old report_new job s
      → AnswersRequest of_files files files of_out out_old out_new of_report report_old report_new (Some (Gen job)) (status_code s)
  answers_gen s (inl h) =
      answers_handed of_files files files of_out out_old out_new of_report report_old report_new (Some (Gen job)) both
      (record { request = Gen job; is_asked = refl; within = within; contents = []; read = refl; outcome = h.0; is_outcome = h.1 })
      statuses.AllDone s (omega arith) (sym h.1.status_is) h.2
  answers_gen s (inr h) =
      subst (λ x. AnswersRequest of_files files files of_out out_old out_new of_report report_old report_new (Some (Gen job)) (status_code x)) (sym h.0)
      (answers_unmade of_files files files of_out out_old out_new of_report report_old report_new (Some (Gen job)) (inl refl) h.1 h.2)

-- a run that was made has a report
pub reported : {F : Type 0} (view : FilesView F) (old new : F) (job : Job) (run : MadeRun) → IsMadeOf view old new job run → (text : List ℕ) × IsReportOf run text
reported view old new job run is = (
  report is.is_run.made.activations run.layout.input_len run.ends run.control,
  record { whole = is.is_run.whole; activations = is.is_run.made.activations; laid = is.is_run.laid; is_report = refl },
)

pub exec_reported : {F : Type 0} (view : FilesView F) (old new : F) (job : ExecJob) (run : MadeRun) → IsExecOf view old new job run → (text : List ℕ) × IsReportOf run text
exec_reported view old new job run is = (
  report is.is_run.made.activations run.layout.input_len run.ends run.control,
  record { whole = is.is_run.whole; activations = is.is_run.made.activations; laid = is.is_run.laid; is_report = refl },
)

pub replay_reported : {F : Type 0} (view : FilesView F) (old new : F) (job : ReplayJob) (run : MadeRun) → IsReplayedOf view old new job (Whole run)
    → (text : List ℕ) × IsReportOf run text
replay_reported view old new job run is =
    let ran = is.comes_to.is_handed_back.1 in (
      report ran.made.activations run.layout.input_len run.ends run.control,
      record { whole = ran.whole; activations = ran.made.activations; laid = ran.laid; is_report = refl },
    )
