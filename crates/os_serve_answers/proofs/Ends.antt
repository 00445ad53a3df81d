-- What a call of the server leaves, by how far the jobs were answered.
use Rattle.std.proofs.Common.{◌≡◌, ◌⊎◌, inl, inr, subst, ℕ, List, [], ◌++◌, refl, sym, arith, length}
use Rattle.std.specs.Io.KnownBytes.{prepend_known}
use Rattle.std.proofs.lemmas.List.{take_all}
use Rattle.os_io.specs.Counts.{HasRisen}
use Rattle.os_io.specs.declared.files.Files.{Ghosts as FilesView}
use Rattle.os_io.specs.declared.sink.Sink.{Ghosts as SinkView}
use Rattle.osrun_core_jobs.specs.Status.{status_code}
use Rattle.osrun_core_jobs.specs.Telling.{Took}
use Rattle.osrun_core_jobs.specs.declared.status.Status.{Status}
use Rattle.osrun_core_jobs.specs.declared.status.Status.TheVariants as statuses
use Rattle.os_serve_answers.specs.Answered.{EndsBy, IsAnswered, IsOutOfMemory, IsOutOfOutput, StopsServing, stop_status}
use Rattle.os_serve_answers.specs.Replies.{AreReplies, JobRun}
use Rattle.os_serve_answers.specs.declared.serve_error.ServeError.{ServeError}
use Rattle.os_serve_answers.specs.declared.serve_error.ServeError.TheVariants as stops
use Rattle.os_serve_answers.specs.Serving.{AreFirst, ServedCause, Serves, WasGiven}
use Rattle.os_serve_jobs.proofs.ReadOn.{uncut-line}
use Rattle.os_serve_jobs.specs.Answers.{Reply, answers}
use Rattle.os_serve_jobs.specs.Lines.{IsLine, StartsWith}
use Rattle.os_serve_jobs.specs.Reading.{IsDone, IsReading, StandsBy, uncut}
use Rattle.os_serve_jobs.specs.declared.reading.Reading.{Reading}
use Rattle.os_serve_jobs.specs.declared.input_state.InputState.{InputState}
use Rattle.os_serve_jobs.specs.declared.input_state.InputState.TheVariants.{AtEnd, Failed, Open, TooLong}

module _ {J F O E : Type 0} (of_jobs : FilesView J) (jobs_old jobs : J) (run : JobRun F) (files_old files : F) (of_out : SinkView O) (out_old out : O)
    (of_report : SinkView E) (report_old report : E) (name : List ℕ) where
  serves : (lines : List (List ℕ)) (replies : List Reply) (status : Status) → AreReplies run files_old files lines replies
      → ServedCause of_jobs jobs_old jobs of_out out_old out of_report report_old report name lines replies status
      → Serves of_jobs jobs_old jobs run files_old files of_out out_old out of_report report_old report name (status_code status)
  serves lines replies status are cause = record {
    lines = lines;
    replies = replies;
    are_replies = are;
    answered = status;
    status_is = refl;
    cause = cause;
  }

  -- all jobs were answered: how the file of jobs ended says the rest
  cause_by : (lines : List (List ℕ)) (replies : List Reply) (status : Status) (read left : List ℕ) (source : InputState) → of_jobs.given jobs ≡ length read → IsLine left
      → StandsBy of_jobs (of_jobs.holds jobs_old name) (of_jobs.faults jobs_old) jobs lines read left source → Took of_out out_old out (answers replies)
      → EndsBy of_report report_old report source status → ServedCause of_jobs jobs_old jobs of_out out_old out of_report report_old report name lines replies status
  cause_by lines replies status read left Open given is_line s took ends = absurd ends
  cause_by lines replies status read left AtEnd given is_line s took ends =
      subst (ServedCause of_jobs jobs_old jobs of_out out_old out of_report report_old report name lines replies) (sym ends.0) (record {
        read = read;
        given = given;
        front = s.so_far.front;
        at_end = s.at_end;
        fits = s.fits;
        no_fault = s.so_far.no_fault;
        all = s.lines_are;
        output = took;
        report_kept = ends.1;
      })
  cause_by lines replies status read left TooLong given is_line s took ends =
      subst (ServedCause of_jobs jobs_old jobs of_out out_old out of_report report_old report name lines replies) (sym ends.0) (record {
        read = read;
        given = given;
        front = s.so_far.front;
        one_past = s.one_past;
        no_fault = s.so_far.no_fault;
        all = record { rest = left; starts = s.starts; no_more = is_line };
        output = took;
        report = ends.1;
      })
  cause_by lines replies status read left Failed given is_line s took ends =
      subst (ServedCause of_jobs jobs_old jobs of_out out_old out of_report report_old report name lines replies) (sym ends.0) (record {
        read = read;
        given = failed_front read given s.front s.fault;
        fits = s.fits;
        fault = s.fault;
        all = record { rest = left; starts = s.starts; no_more = is_line };
        output = took;
        report = ends.1;
      })
    where
      failed_front : (read : List ℕ) → of_jobs.given jobs ≡ length read → (of_jobs.holds jobs_old name ≡ prepend_known read (of_jobs.rest jobs)) ⊎ (read ≡ [])
          → HasRisen (of_jobs.faults jobs_old) (of_jobs.faults jobs) → WasGiven of_jobs jobs_old jobs name read
      failed_front read given (inl front) fault = record { given = given; front = inl front }
      failed_front read given (inr none) fault = record { given = given; front = inr (none, fault) }

  pub served_all : (reading : Reading) (status : Status) → IsReading reading → IsDone reading
      → IsAnswered of_jobs (of_jobs.holds jobs_old name) (of_jobs.faults jobs_old) jobs reading run files_old files of_out out_old out
      → EndsBy of_report report_old report reading.source status
      → Serves of_jobs jobs_old jobs run files_old files of_out out_old out of_report report_old report name (status_code status)
  served_all reading status is done a ends =
      let is_line : IsLine (uncut reading) = subst IsLine (sym (uncut-line reading done.all_cut)) is.is_line in
      serves a.lines a.replies status a.are_replies
      (cause_by a.lines a.replies status a.has_read.read (uncut reading) reading.source a.has_read.given is_line a.has_read.stands a.output ends)

  -- the first jobs, where further ones wait
  first_by : (lines waiting : List (List ℕ)) (read left : List ℕ) (source : InputState) → of_jobs.given jobs ≡ length read
      → StandsBy of_jobs (of_jobs.holds jobs_old name) (of_jobs.faults jobs_old) jobs (lines ++ waiting) read left source → AreFirst of_jobs jobs_old jobs name lines
  first_by lines waiting read left Open given s = record {
    read = read;
    given = record { given = given; front = inl s.so_far.front };
    few = omega (arith, s.fits);
    more = waiting;
    among = inl (left, subst (λ b. StartsWith b (lines ++ waiting) left) (sym (take_all 4194304 read s.fits)) s.starts);
  }
  first_by lines waiting read left AtEnd given s = record {
    read = read;
    given = record { given = given; front = inl s.so_far.front };
    few = omega (arith, s.fits);
    more = waiting;
    among = inr (s.at_end, s.fits, s.lines_are);
  }
  first_by lines waiting read left TooLong given s = record {
    read = read;
    given = record { given = given; front = inl s.so_far.front };
    few = omega (arith, s.one_past);
    more = waiting;
    among = inl (left, s.starts);
  }
  first_by lines waiting read left Failed given s = record {
    read = read;
    given = front_of s.front;
    few = omega (arith, s.fits);
    more = waiting;
    among = inl (left, subst (λ b. StartsWith b (lines ++ waiting) left) (sym (take_all 4194304 read s.fits)) s.starts);
  }
    where
      front_of : (of_jobs.holds jobs_old name ≡ prepend_known read (of_jobs.rest jobs)) ⊎ (read ≡ []) → WasGiven of_jobs jobs_old jobs name read
      front_of (inl front) = record { given = given; front = inl front }
      front_of (inr none) = record { given = given; front = inr (none, s.fault) }

  pub served_short : (reading : Reading) → IsOutOfOutput of_jobs (of_jobs.holds jobs_old name) (of_jobs.faults jobs_old) jobs reading run files_old files of_out out_old out
      → report ≡ report_old → Serves of_jobs jobs_old jobs run files_old files of_out out_old out of_report report_old report name (status_code statuses.WriteFault)
  served_short reading a kept = serves a.lines a.replies statuses.WriteFault a.are_replies (record {
    first = first_by a.lines a.waiting a.has_read.read (uncut reading) reading.source a.has_read.given a.has_read.stands;
    output = a.output;
    report_kept = kept;
  })

  pub served_until : (reading : Reading) → IsOutOfMemory of_jobs (of_jobs.holds jobs_old name) (of_jobs.faults jobs_old) jobs reading run files_old files of_out out_old out
      → report ≡ report_old → Serves of_jobs jobs_old jobs run files_old files of_out out_old out of_report report_old report name (status_code statuses.NoMemory)
  served_until reading a kept = serves a.lines a.replies statuses.NoMemory a.are_replies (record {
    first = first_by a.lines a.waiting a.has_read.read (uncut reading) reading.source a.has_read.given a.has_read.stands;
    output = a.output;
    report_kept = kept;
  })

  pub served_stopped : (reading : Reading) (stop : ServeError)
      → StopsServing of_jobs (of_jobs.holds jobs_old name) (of_jobs.faults jobs_old) jobs reading run files_old files of_out out_old out stop
      → report ≡ report_old → Serves of_jobs jobs_old jobs run files_old files of_out out_old out of_report report_old report name (status_code (stop_status stop))
  served_stopped reading stops.Memory a kept = served_until reading a kept
  served_stopped reading stops.Write a kept = served_short reading a kept
