-- One more job is answered, or the server stops.
use Rattle.std.proofs.Common.{◌≡◌, ◌∙◌, subst, ℕ, ◌+◌, ◌≤◌, List, [], ◌∷◌, ◌++◌, Option, Result, Ok, Err, refl, sym, ap, arith, append_assoc, append-nil, length}
use Rattle.std.specs.Prelude.{IfSome, MatchResult, true, false, is_err}
use Rattle.std.proofs.lemmas.List.{length-append}
use Rattle.os_io.specs.declared.files.Files.{Ghosts as FilesView}
use Rattle.os_io.specs.declared.sink.Sink.{Ghosts as SinkView}
use Rattle.osrun_core_jobs.specs.Telling.{IsCutShort, Took}
use Rattle.os_serve_answers.proofs.JobLines.{few, is_job}
use Rattle.os_serve_answers.proofs.Written.{answers_to_more, cut_later, one_more, took_more, took_nothing}
use Rattle.os_serve_answers.specs.Answered.{AnswersNext, IsAnswered, IsOutOfMemory, StopsServing}
use Rattle.os_serve_answers.specs.Between.{IsServing}
use Rattle.os_serve_answers.specs.Replies.{AreReplies, JobRun}
use Rattle.os_serve_answers.specs.declared.serve_error.ServeError.{ServeError}
use Rattle.os_serve_answers.specs.declared.serve_error.ServeError.TheVariants as stops
use Rattle.os_serve_jobs.proofs.FirstJobs.{are_first_jobs}
use Rattle.os_serve_jobs.specs.Answers.{Reply, answer, answers}
use Rattle.os_serve_jobs.specs.Lines.{IsJobIn}
use Rattle.os_serve_jobs.specs.Reading.{HasRead, ReadsOn}
use Rattle.os_serve_jobs.specs.declared.reading.Reading.{Reading}

-- a step that failed, and one that didn't
pub stops_by : {T E : Type 0} (P P' : T → Type 0) (Q : E → Type 0) (result : Result T E) → is_err result ≡ true → MatchResult result P Q → MatchResult result P' Q
stops_by P P' Q (Ok t) failed m = absurd (cc)
stops_by P P' Q (Err e) failed m = m

pub goes_on : {T E : Type 0} (P : Type 0) (Q : E → Type 0) (result : Result T E) → is_err result ≡ false → MatchResult result (λ _. P) Q → P
goes_on P Q (Ok t) fine m = m
goes_on P Q (Err e) fine m = absurd (cc)

-- lines, one more, and others behind it
behind : (lines : List (List ℕ)) (line : List ℕ) (more : List (List ℕ)) → lines ++ line ∷ more ≡ (lines ++ line ∷ []) ++ more
behind lines line more = sym (append_assoc lines (line ∷ []) more)

one_longer : (number : ℕ) (lines : List (List ℕ)) (line : List ℕ) → number ≡ length lines → number + 1 ≡ length (lines ++ line ∷ [])
one_longer number lines line counted = let l = length-append lines (line ∷ []) in omega (arith, l, counted)

module _ {J F O : Type 0} (of_jobs : FilesView J) (run : JobRun F) (of_out : SinkView O) where
  -- the line was taken off those that wait, and further lines were read behind it
  read_behind : (told : Option (List ℕ)) (faults : ℕ) (jobs_old jobs : J) (reading_old reading : Reading) (lines waiting_old waiting_mid waiting : List (List ℕ)) (line : List ℕ)
      → waiting_old ≡ line ∷ waiting_mid → ReadsOn of_jobs jobs_old jobs reading_old reading waiting_mid waiting
      → HasRead of_jobs told faults jobs_old reading_old (lines ++ waiting_old) → HasRead of_jobs told faults jobs reading ((lines ++ line ∷ []) ++ waiting)
  read_behind told faults jobs_old jobs reading_old reading lines waiting_old waiting_mid waiting line first reads has =
      reads told faults (lines ++ line ∷ [])
      (subst (HasRead of_jobs told faults jobs_old reading_old) (ap (λ w. lines ++ w) first ∙ behind lines line waiting_mid) has)

  module _ (jobs_old jobs : J) (reading_old reading : Reading) (waiting_old waiting_mid waiting : List (List ℕ)) (files_old files : F) (out_old out : O) (number : ℕ)
      (line : List ℕ) (first : waiting_old ≡ line ∷ waiting_mid) (reads : ReadsOn of_jobs jobs_old jobs reading_old reading waiting_mid waiting) where
    -- no memory was found for the words of the line
    pub next_memory : (stop : ServeError) → stop ≡ stops.Memory → files ≡ files_old → out ≡ out_old
        → AnswersNext of_jobs jobs_old jobs reading_old reading waiting_old waiting run files_old files of_out out_old out number (Err stop)
    next_memory stop is same kept told faults files_first out_first s =
        subst (StopsServing of_jobs told faults jobs reading run files_first files of_out out_first out) (sym is) (record {
          lines = s.lines;
          replies = s.replies;
          waiting = line ∷ waiting;
          has_read = subst (HasRead of_jobs told faults jobs reading) (sym (behind s.lines line waiting))
              (read_behind told faults jobs_old jobs reading_old reading s.lines waiting_old waiting_mid waiting line first reads s.has_read);
          are_replies = subst (λ f. AreReplies run files_first f s.lines s.replies) (sym same) s.are_replies;
          output = subst (λ o. Took of_out out_first o (answers s.replies)) (sym kept) s.output;
        })

    module _ (reply : Reply) (is_reply : run files_old files line reply) where
      -- the output did not take the whole answer
      pub next_short : (stop : ServeError) → stop ≡ stops.Write → IsCutShort of_out out_old out (answer number reply)
          → AnswersNext of_jobs jobs_old jobs reading_old reading waiting_old waiting run files_old files of_out out_old out number (Err stop)
      next_short stop is short told faults files_first out_first s =
          subst (StopsServing of_jobs told faults jobs reading run files_first files of_out out_first out) (sym is) (record {
            lines = s.lines ++ line ∷ [];
            replies = s.replies ++ reply ∷ [];
            waiting = waiting;
            has_read = read_behind told faults jobs_old jobs reading_old reading s.lines waiting_old waiting_mid waiting line first reads s.has_read;
            are_replies = one_more run files_first files_old files s.lines s.replies line reply s.are_replies is_reply;
            output = subst (IsCutShort of_out out_first out) (sym (answers_to_more run files_first files_old s.lines s.replies reply number s.are_replies s.counted))
                (cut_later of_out out_first out_old out (answers s.replies) (answer number reply) s.output short);
          })

      module _ (took : Took of_out out_old out (answer number reply)) where
        all_output : (files_first : F) (out_first : O) (lines : List (List ℕ)) (replies : List Reply) → AreReplies run files_first files_old lines replies
            → number ≡ length lines → Took of_out out_first out_old (answers replies) → Took of_out out_first out (answers (replies ++ reply ∷ []))
        all_output files_first out_first lines replies are counted before =
            subst (Took of_out out_first out) (sym (answers_to_more run files_first files_old lines replies reply number are counted))
            (took_more of_out out_first out_old out (answers replies) (answer number reply) before took)

        -- it did
        pub next_answered : AnswersNext of_jobs jobs_old jobs reading_old reading waiting_old waiting run files_old files of_out out_old out number (Ok tt)
        next_answered told faults files_first out_first s = record {
          lines = s.lines ++ line ∷ [];
          replies = s.replies ++ reply ∷ [];
          has_read = read_behind told faults jobs_old jobs reading_old reading s.lines waiting_old waiting_mid waiting line first reads s.has_read;
          first_jobs = are_first_jobs of_jobs told faults jobs reading ((s.lines ++ line ∷ []) ++ waiting)
              (read_behind told faults jobs_old jobs reading_old reading s.lines waiting_old waiting_mid waiting line first reads s.has_read);
          are_replies = one_more run files_first files_old files s.lines s.replies line reply s.are_replies is_reply;
          output = all_output files_first out_first s.lines s.replies s.are_replies s.counted s.output;
          counted = one_longer number s.lines line s.counted;
        }

        -- it did, and no memory was found for the lines that were read on
        pub next_last : (stop : ServeError) → stop ≡ stops.Memory
            → AnswersNext of_jobs jobs_old jobs reading_old reading waiting_old waiting run files_old files of_out out_old out number (Err stop)
        next_last stop is told faults files_first out_first s =
            subst (StopsServing of_jobs told faults jobs reading run files_first files of_out out_first out) (sym is) (record {
              lines = s.lines ++ line ∷ [];
              replies = s.replies ++ reply ∷ [];
              waiting = waiting;
              has_read = read_behind told faults jobs_old jobs reading_old reading s.lines waiting_old waiting_mid waiting line first reads s.has_read;
              are_replies = one_more run files_first files_old files s.lines s.replies line reply s.are_replies is_reply;
              output = all_output files_first out_first s.lines s.replies s.are_replies s.counted s.output;
            })

  -- ---- the loop over all jobs

  module _ (told : Option (List ℕ)) (faults : ℕ) where
    -- before the first job
    pub begins : (jobs : J) (reading : Reading) (files : F) (out : O) → HasRead of_jobs told faults jobs reading []
        → IsServing of_jobs told faults jobs reading [] run files files of_out out out 0
    begins jobs reading files out has = record {
      lines = [];
      replies = [];
      has_read = has;
      first_jobs = are_first_jobs of_jobs told faults jobs reading [] has;
      are_replies = refl;
      output = took_nothing of_out out;
      counted = refl;
    }

    -- lines were read on
    pub reads_on : (jobs_old jobs : J) (reading_old reading : Reading) (waiting_old waiting : List (List ℕ)) (files_old files : F) (out_old out : O) (number : ℕ)
        → ReadsOn of_jobs jobs_old jobs reading_old reading waiting_old waiting
        → IsServing of_jobs told faults jobs_old reading_old waiting_old run files_old files of_out out_old out number
        → IsServing of_jobs told faults jobs reading waiting run files_old files of_out out_old out number
    reads_on jobs_old jobs reading_old reading waiting_old waiting files_old files out_old out number reads s = record {
      lines = s.lines;
      replies = s.replies;
      has_read = reads told faults s.lines s.has_read;
      first_jobs = are_first_jobs of_jobs told faults jobs reading (s.lines ++ waiting) (reads told faults s.lines s.has_read);
      are_replies = s.are_replies;
      output = s.output;
      counted = s.counted;
    }

    -- the server may stop for want of memory
    pub out_of_memory : (jobs : J) (reading : Reading) (waiting : List (List ℕ)) (files_old files : F) (out_old out : O) (number : ℕ)
        → IsServing of_jobs told faults jobs reading waiting run files_old files of_out out_old out number
        → IsOutOfMemory of_jobs told faults jobs reading run files_old files of_out out_old out
    out_of_memory jobs reading waiting files_old files out_old out number s = record {
      lines = s.lines;
      replies = s.replies;
      waiting = waiting;
      has_read = s.has_read;
      are_replies = s.are_replies;
      output = s.output;
    }

    -- no more job waits
    pub all_answered : (jobs : J) (reading : Reading) (waiting : List (List ℕ)) (files_old files : F) (out_old out : O) (number : ℕ) → waiting ≡ []
        → IsServing of_jobs told faults jobs reading waiting run files_old files of_out out_old out number
        → IsAnswered of_jobs told faults jobs reading run files_old files of_out out_old out
    all_answered jobs reading waiting files_old files out_old out number none s = record {
      lines = s.lines;
      replies = s.replies;
      has_read = subst (HasRead of_jobs told faults jobs reading) (ap (λ w. s.lines ++ w) none ∙ append-nil s.lines) s.has_read;
      are_replies = s.are_replies;
      output = s.output;
    }

    -- there are no more jobs than bytes
    pub few_jobs : (jobs : J) (reading : Reading) (waiting : List (List ℕ)) (files_old files : F) (out_old out : O) (number : ℕ)
        → IsServing of_jobs told faults jobs reading waiting run files_old files of_out out_old out number → number ≤ 4194305
    few_jobs jobs reading waiting files_old files out_old out number s =
        let w = few of_jobs told faults jobs reading (s.lines ++ waiting) s.has_read in
        let l = length-append s.lines waiting in
        let c = s.counted in
        omega (arith, w, l, c)

    -- the first line that waits may be run
    pub may_run : (may : List ℕ → Type 0) (jobs : J) (reading : Reading) (waiting : List (List ℕ)) (files_old files : F) (out_old out : O) (number : ℕ)
        → IsServing of_jobs told faults jobs reading waiting run files_old files of_out out_old out number → ((line : List ℕ) → IfSome told (λ bytes. IsJobIn bytes line) → may line)
        → (line : List ℕ) (more : List (List ℕ)) → waiting ≡ line ∷ more → may line
    may_run may jobs reading waiting files_old files out_old out number s serve line more first =
        serve line (is_job of_jobs told faults jobs reading s.lines line more
        (subst (λ w. HasRead of_jobs told faults jobs reading (s.lines ++ w)) first s.has_read))
