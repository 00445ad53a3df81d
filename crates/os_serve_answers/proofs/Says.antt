-- What a call of the server comes to, status by status.
use Rattle.std.proofs.Common.{◌≡◌, ◌≢◌, ◌∙◌, ◌⊎◌, inl, inr, subst, ℕ, zero, suc, ◌+◌, ◌<◌, ◌≤◌, List, [], ◌++◌, Option, None, Some, IfSome, refl, sym, ap, arith, length, take}
use Rattle.std.specs.Io.KnownBytes.{IsAtEnd, prepend_known}
use Rattle.std.proofs.lemmas.List.{length-append, take_all}
use Rattle.os_io.specs.Counts.{HasRisen}
use Rattle.os_io.specs.declared.files.Files.{Ghosts as FilesView}
use Rattle.os_io.specs.declared.sink.Sink.{Ghosts as SinkView}
use Rattle.osrun_core_jobs.specs.Status.{status_code}
use Rattle.osrun_core_jobs.specs.Telling.{HasTrouble}
use Rattle.osrun_core_jobs.specs.declared.status.Status.{Status}
use Rattle.osrun_core_jobs.specs.declared.status.Status.TheVariants as statuses
use Rattle.os_serve_answers.specs.Replies.{JobRun}
use Rattle.os_serve_answers.specs.Said.{AnswersJobs, HaveReplies}
use Rattle.os_serve_answers.specs.Serving.{AreFirst, IsBroken, IsCutIn, IsCutOff, IsServed, IsStopped, ServedCause, Serves, WasGiven}
use Rattle.os_serve_jobs.proofs.FirstJobs.{all_jobs, all_whole, fewer, first_past, first_read, first_unread, no_lines, read_past, read_whole, some_jobs, told_front, within_or_past}
use Rattle.os_serve_jobs.specs.Lines.{AreEnded, AreFirstJobs, AreJobs, AreLines, StartsWith, jobs_limit}

-- the status with a number
abbrev status_at : ℕ → Status
status_at zero = statuses.AllDone
status_at (suc zero) = statuses.NotAllDone
status_at (suc (suc zero)) = statuses.BadWords
status_at (suc (suc (suc zero))) = statuses.Refused
status_at (suc (suc (suc (suc zero)))) = statuses.TooLong
status_at (suc (suc (suc (suc (suc zero))))) = statuses.ReadFault
status_at (suc (suc (suc (suc (suc (suc zero)))))) = statuses.WriteFault
status_at (suc (suc (suc (suc (suc (suc (suc zero))))))) = statuses.NoMemory
status_at (suc (suc (suc (suc (suc (suc (suc (suc n)))))))) = statuses.NotReplayed

of_code : (s : Status) → status_at (status_code s) ≡ s
of_code statuses.AllDone = refl
of_code statuses.NotAllDone = refl
of_code statuses.BadWords = refl
of_code statuses.Refused = refl
of_code statuses.TooLong = refl
of_code statuses.ReadFault = refl
of_code statuses.WriteFault = refl
of_code statuses.NoMemory = refl
of_code statuses.NotReplayed = refl

-- a number is that of one status
same_status : (status : ℕ) (one other : Status) → status ≡ status_code one → status ≡ status_code other → one ≡ other
same_status status one other a b = sym (of_code one) ∙ ap status_at (sym a ∙ b) ∙ of_code other

-- it is neither 0 nor 4
not_both : {status : ℕ} (code : ℕ) → 0 < code → code ≢ 4 → status ≡ code → (status ≡ 0) ⊎ (status ≡ 4) → ⊥
not_both code some other at (inl none) = absurd (omega (arith, some, at, none))
not_both code some other at (inr four) = other (sym at ∙ four)

-- of what is told, if it is
if_told : (told : Option (List ℕ)) (P : List ℕ → Type 0) → ((held : List ℕ) → told ≡ Some held → P held) → IfSome told P
if_told None P of = cc
if_told (Some held) P of = of held refl

module _ {J : Type 0} (of_jobs : FilesView J) (jobs_old jobs : J) (name : List ℕ) where
  -- the first lines of what was given
  first_of_given : (lines more : List (List ℕ)) (read rest : List ℕ) (held : List ℕ) → of_jobs.holds jobs_old name ≡ Some held
      → length read ≤ jobs_limit + 1 → (length read ≤ 4194304) ⊎ (4194304 < length read)
      → (of_jobs.holds jobs_old name ≡ prepend_known read (of_jobs.rest jobs)) ⊎ ((read ≡ []) × HasRisen (of_jobs.faults jobs_old) (of_jobs.faults jobs))
      → StartsWith (take jobs_limit read) (lines ++ more) rest → AreFirstJobs held lines
  first_of_given lines more read rest held told few (inl fits) (inl front) starts =
      fewer held lines more (first_read held read rest (lines ++ more) (of_jobs.rest jobs) (sym told ∙ front) fits
      (subst (λ r. StartsWith r (lines ++ more) rest) (take_all 4194304 read fits) starts))
  first_of_given lines more read rest held told few (inr past) (inl front) starts =
      fewer held lines more (first_past held read rest (lines ++ more) (read_past held read (of_jobs.rest jobs) (sym told ∙ front) (omega (arith, few, past))) starts)
  first_of_given lines more read rest held told few (inl fits) (inr none) starts =
      fewer held lines more (first_unread held read rest (lines ++ more) none.0 (subst (λ r. StartsWith r (lines ++ more) rest) (take_all 4194304 read fits) starts))
  first_of_given lines more read rest held told few (inr past) (inr none) starts =
      absurd (let l = ap length none.0 in omega (arith, l, past))

  -- and of all lines, where the file was read to its end
  first_of_all : (lines more : List (List ℕ)) (read : List ℕ) (held : List ℕ) → of_jobs.holds jobs_old name ≡ Some held
      → (of_jobs.holds jobs_old name ≡ prepend_known read (of_jobs.rest jobs)) ⊎ ((read ≡ []) × HasRisen (of_jobs.faults jobs_old) (of_jobs.faults jobs))
      → IsAtEnd (of_jobs.rest jobs) → length read ≤ jobs_limit → AreLines read (lines ++ more) → AreFirstJobs held lines
  first_of_all lines more read held told (inl front) at_end fits are =
      fewer held lines more (all_jobs held (lines ++ more) (all_whole held read (lines ++ more) (read_whole held read (of_jobs.rest jobs) (sym told ∙ front) at_end) fits are))
  first_of_all lines more read held told (inr none) at_end fits are =
      fewer held lines more (subst (AreFirstJobs held) (sym (no_lines read (lines ++ more) none.0 are)) (some_jobs held))

  first_among : (lines : List (List ℕ)) (held : List ℕ) → of_jobs.holds jobs_old name ≡ Some held → AreFirst of_jobs jobs_old jobs name lines → AreFirstJobs held lines
  first_among lines held told first = by first.among
    where
      by : ((rest : List ℕ) × StartsWith (take jobs_limit first.read) (lines ++ first.more) rest)
          ⊎ (IsAtEnd (of_jobs.rest jobs) × (length first.read ≤ jobs_limit) × AreLines first.read (lines ++ first.more)) → AreFirstJobs held lines
      by (inl some) = first_of_given lines first.more first.read some.0 held told first.few (within_or_past (length first.read)) first.given.front some.1
      by (inr all) = first_of_all lines first.more first.read held told first.given.front all.0 all.1 all.2

  -- the lines that ended before a fault
  first_ended : (lines : List (List ℕ)) (read : List ℕ) (held : List ℕ) → of_jobs.holds jobs_old name ≡ Some held → WasGiven of_jobs jobs_old jobs name read
      → length read ≤ jobs_limit → AreEnded read lines → AreFirstJobs held lines
  first_ended lines read held told given fits ended = by given.front
    where
      by : (of_jobs.holds jobs_old name ≡ prepend_known read (of_jobs.rest jobs)) ⊎ ((read ≡ []) × HasRisen (of_jobs.faults jobs_old) (of_jobs.faults jobs))
          → AreFirstJobs held lines
      by (inl front) = first_read held read ended.rest lines (of_jobs.rest jobs) (sym told ∙ front) fits ended.starts
      by (inr none) = first_unread held read ended.rest lines none.0 ended.starts

  -- all jobs, of a file that was read to its end or past its limit
  all_of_whole : (lines : List (List ℕ)) (read : List ℕ) (held : List ℕ) → of_jobs.holds jobs_old name ≡ Some held
      → of_jobs.holds jobs_old name ≡ prepend_known read (of_jobs.rest jobs) → IsAtEnd (of_jobs.rest jobs) → length read ≤ jobs_limit → AreLines read lines
      → AreJobs held lines
  all_of_whole lines read held told front at_end fits are =
      all_whole held read lines (read_whole held read (of_jobs.rest jobs) (sym told ∙ front) at_end) fits are

  all_of_past : (lines : List (List ℕ)) (read : List ℕ) (held : List ℕ) → of_jobs.holds jobs_old name ≡ Some held
      → of_jobs.holds jobs_old name ≡ prepend_known read (of_jobs.rest jobs) → length read ≡ jobs_limit + 1 → AreEnded (take jobs_limit read) lines → AreJobs held lines
  all_of_past lines read held told front past ended =
      let p = read_past held read (of_jobs.rest jobs) (sym told ∙ front) past in inr (p.0, subst (λ b. AreEnded b lines) (sym p.1) ended)

  -- no more was given than the file holds
  given_within : (read held : List ℕ) → of_jobs.holds jobs_old name ≡ Some held → of_jobs.holds jobs_old name ≡ prepend_known read (of_jobs.rest jobs)
      → length read ≤ length held
  given_within read held told front =
      let f = told_front held read (of_jobs.rest jobs) (sym told ∙ front) in
      let all = ap length f.2 ∙ length-append read f.0 in
      omega (arith, all)

  -- all that the file holds was given, where it was read to its end
  given_whole : (read held : List ℕ) → of_jobs.holds jobs_old name ≡ Some held → of_jobs.holds jobs_old name ≡ prepend_known read (of_jobs.rest jobs)
      → IsAtEnd (of_jobs.rest jobs) → length read ≡ length held
  given_whole read held told front at_end = ap length (sym (read_whole held read (of_jobs.rest jobs) (sym told ∙ front) at_end))

module _ {J F O E : Type 0} (of_jobs : FilesView J) (jobs_old jobs : J) (run : JobRun F) (files_old files : F) (of_out : SinkView O) (out_old out : O)
    (of_report : SinkView E) (report_old report : E) (name : List ℕ) (status : ℕ)
    (s : Serves of_jobs jobs_old jobs run files_old files of_out out_old out of_report report_old report name status) where
  -- the cause, of the status that it is
  cause_of : (is : Status) → status ≡ status_code is
      → ServedCause of_jobs jobs_old jobs of_out out_old out of_report report_old report name s.lines s.replies is
  cause_of is at =
      subst (ServedCause of_jobs jobs_old jobs of_out out_old out of_report report_old report name s.lines s.replies) (same_status status s.answered is s.status_is at) s.cause

  pub all_done : status ≡ 0 → HaveReplies run files_old files (IsServed of_jobs jobs_old jobs of_out out_old out report_old report name)
  all_done at = (s.lines, s.replies, s.are_replies, cause_of statuses.AllDone at)

  pub cut_off : status ≡ 4 → HaveReplies run files_old files (IsCutOff of_jobs jobs_old jobs of_out out_old out of_report report_old report name)
  cut_off at = (s.lines, s.replies, s.are_replies, cause_of statuses.TooLong at)

  pub broken : status ≡ 5 → HaveReplies run files_old files (IsBroken of_jobs jobs_old jobs of_out out_old out of_report report_old report name)
  broken at = (s.lines, s.replies, s.are_replies, cause_of statuses.ReadFault at)

  pub cut_in : status ≡ 6 → HaveReplies run files_old files (IsCutIn of_jobs jobs_old jobs of_out out_old out report_old report name)
  cut_in at = (s.lines, s.replies, s.are_replies, cause_of statuses.WriteFault at)

  pub stopped : status ≡ 7 → HaveReplies run files_old files (IsStopped of_jobs jobs_old jobs of_out out_old out report_old report name)
  stopped at = (s.lines, s.replies, s.are_replies, cause_of statuses.NoMemory at)

  -- which statuses there are
  statuses_by : (is : Status) → status ≡ status_code is → ServedCause of_jobs jobs_old jobs of_out out_old out of_report report_old report name s.lines s.replies is
      → (status ≡ 0) ⊎ ((4 ≤ status) × (status ≤ 7))
  statuses_by statuses.AllDone at c = inl at
  statuses_by statuses.NotAllDone at c = absurd c
  statuses_by statuses.BadWords at c = absurd c
  statuses_by statuses.Refused at c = absurd c
  statuses_by statuses.NotReplayed at c = absurd c
  statuses_by statuses.TooLong at c = inr (omega (arith, at), omega (arith, at))
  statuses_by statuses.ReadFault at c = inr (omega (arith, at), omega (arith, at))
  statuses_by statuses.WriteFault at c = inr (omega (arith, at), omega (arith, at))
  statuses_by statuses.NoMemory at c = inr (omega (arith, at), omega (arith, at))

  pub statuses_are : (status ≡ 0) ⊎ ((4 ≤ status) × (status ≤ 7))
  statuses_are = statuses_by s.answered s.status_is s.cause

  -- where one byte more than the limit was given, and the output had no trouble
  too_long_by : (is : Status) → status ≡ status_code is → ServedCause of_jobs jobs_old jobs of_out out_old out of_report report_old report name s.lines s.replies is
      → jobs_limit < of_jobs.given jobs → (HasTrouble of_out out_old out → ⊥) → (status ≡ 4) ⊎ (status ≡ 7)
  too_long_by statuses.AllDone at c past fine = absurd (let g = c.given in let f = c.fits in omega (arith, g, f, past))
  too_long_by statuses.NotAllDone at c past fine = absurd c
  too_long_by statuses.BadWords at c past fine = absurd c
  too_long_by statuses.Refused at c past fine = absurd c
  too_long_by statuses.NotReplayed at c past fine = absurd c
  too_long_by statuses.TooLong at c past fine = inl at
  too_long_by statuses.ReadFault at c past fine = absurd (let g = c.given.given in let f = c.fits in omega (arith, g, f, past))
  too_long_by statuses.WriteFault at c past fine = absurd (fine c.output.trouble)
  too_long_by statuses.NoMemory at c past fine = inr at

  pub too_long_always : jobs_limit < of_jobs.given jobs → (HasTrouble of_out out_old out → ⊥) → (status ≡ 4) ⊎ (status ≡ 7)
  too_long_always = too_long_by s.answered s.status_is s.cause

  -- of a file that tells that it holds more
  too_long_held_by : (is : Status) → status ≡ status_code is → ServedCause of_jobs jobs_old jobs of_out out_old out of_report report_old report name s.lines s.replies is
      → (held : List ℕ) → of_jobs.holds jobs_old name ≡ Some held → jobs_limit < length held → (HasRisen (of_jobs.faults jobs_old) (of_jobs.faults jobs) → ⊥)
      → (HasTrouble of_out out_old out → ⊥) → (status ≡ 4) ⊎ (status ≡ 7)
  too_long_held_by statuses.AllDone at c held told past sound fine =
      absurd (let g = given_whole of_jobs jobs_old jobs name c.read held told c.front c.at_end in let f = c.fits in omega (arith, g, f, past))
  too_long_held_by statuses.NotAllDone at c held told past sound fine = absurd c
  too_long_held_by statuses.BadWords at c held told past sound fine = absurd c
  too_long_held_by statuses.Refused at c held told past sound fine = absurd c
  too_long_held_by statuses.NotReplayed at c held told past sound fine = absurd c
  too_long_held_by statuses.TooLong at c held told past sound fine = inl at
  too_long_held_by statuses.ReadFault at c held told past sound fine = absurd (sound c.fault)
  too_long_held_by statuses.WriteFault at c held told past sound fine = absurd (fine c.output.trouble)
  too_long_held_by statuses.NoMemory at c held told past sound fine = inr at

  pub too_long_held : IfSome (of_jobs.holds jobs_old name) (λ held. jobs_limit < length held → (HasRisen (of_jobs.faults jobs_old) (of_jobs.faults jobs) → ⊥)
      → (HasTrouble of_out out_old out → ⊥) → (status ≡ 4) ⊎ (status ≡ 7))
  too_long_held = if_told (of_jobs.holds jobs_old name) _ (too_long_held_by s.answered s.status_is s.cause)

  -- where no more than the limit was given, and nothing failed
  complete_by : (is : Status) → status ≡ status_code is → ServedCause of_jobs jobs_old jobs of_out out_old out of_report report_old report name s.lines s.replies is
      → of_jobs.given jobs ≤ jobs_limit → (HasRisen (of_jobs.faults jobs_old) (of_jobs.faults jobs) → ⊥) → (HasTrouble of_out out_old out → ⊥)
      → (status ≡ 0) ⊎ (status ≡ 7)
  complete_by statuses.AllDone at c fits sound fine = inl at
  complete_by statuses.NotAllDone at c fits sound fine = absurd c
  complete_by statuses.BadWords at c fits sound fine = absurd c
  complete_by statuses.Refused at c fits sound fine = absurd c
  complete_by statuses.NotReplayed at c fits sound fine = absurd c
  complete_by statuses.TooLong at c fits sound fine = absurd (let g = c.given in let p = c.one_past in omega (arith, g, p, fits))
  complete_by statuses.ReadFault at c fits sound fine = absurd (sound c.fault)
  complete_by statuses.WriteFault at c fits sound fine = absurd (fine c.output.trouble)
  complete_by statuses.NoMemory at c fits sound fine = inr at

  pub complete_given : of_jobs.given jobs ≤ jobs_limit → (HasRisen (of_jobs.faults jobs_old) (of_jobs.faults jobs) → ⊥) → (HasTrouble of_out out_old out → ⊥)
      → (status ≡ 0) ⊎ (status ≡ 7)
  complete_given = complete_by s.answered s.status_is s.cause

  -- of a file that tells that it holds no more
  complete_held_by : (is : Status) → status ≡ status_code is → ServedCause of_jobs jobs_old jobs of_out out_old out of_report report_old report name s.lines s.replies is
      → (held : List ℕ) → of_jobs.holds jobs_old name ≡ Some held → length held ≤ jobs_limit → (HasRisen (of_jobs.faults jobs_old) (of_jobs.faults jobs) → ⊥)
      → (HasTrouble of_out out_old out → ⊥) → (status ≡ 0) ⊎ (status ≡ 7)
  complete_held_by statuses.AllDone at c held told fits sound fine = inl at
  complete_held_by statuses.NotAllDone at c held told fits sound fine = absurd c
  complete_held_by statuses.BadWords at c held told fits sound fine = absurd c
  complete_held_by statuses.Refused at c held told fits sound fine = absurd c
  complete_held_by statuses.NotReplayed at c held told fits sound fine = absurd c
  complete_held_by statuses.TooLong at c held told fits sound fine =
      absurd (let g = given_within of_jobs jobs_old jobs name c.read held told c.front in let p = c.one_past in omega (arith, g, p, fits))
  complete_held_by statuses.ReadFault at c held told fits sound fine = absurd (sound c.fault)
  complete_held_by statuses.WriteFault at c held told fits sound fine = absurd (fine c.output.trouble)
  complete_held_by statuses.NoMemory at c held told fits sound fine = inr at

  pub complete : IfSome (of_jobs.holds jobs_old name) (λ held. length held ≤ jobs_limit → (HasRisen (of_jobs.faults jobs_old) (of_jobs.faults jobs) → ⊥)
      → (HasTrouble of_out out_old out → ⊥) → (status ≡ 0) ⊎ (status ≡ 7))
  complete = if_told (of_jobs.holds jobs_old name) _ (complete_held_by s.answered s.status_is s.cause)

  -- which lines were answered
  answers_by : (is : Status) → status ≡ status_code is → ServedCause of_jobs jobs_old jobs of_out out_old out of_report report_old report name s.lines s.replies is
      → AnswersJobs of_jobs jobs_old of_out out_old out name status s.lines s.replies
  answers_by statuses.AllDone at c = record {
    first = if_told (of_jobs.holds jobs_old name) _ (λ held told. all_jobs held s.lines (all_of_whole of_jobs jobs_old jobs name s.lines c.read held told c.front c.at_end c.fits c.all));
    all = λ _. if_told (of_jobs.holds jobs_old name) _ (λ held told. all_of_whole of_jobs jobs_old jobs name s.lines c.read held told c.front c.at_end c.fits c.all);
    took = λ _. c.output;
    cut_short = λ six. absurd (omega (arith, at, six));
  }
  answers_by statuses.NotAllDone at c = absurd c
  answers_by statuses.BadWords at c = absurd c
  answers_by statuses.Refused at c = absurd c
  answers_by statuses.NotReplayed at c = absurd c
  answers_by statuses.TooLong at c = record {
    first = if_told (of_jobs.holds jobs_old name) _ (λ held told. all_jobs held s.lines (all_of_past of_jobs jobs_old jobs name s.lines c.read held told c.front c.one_past c.all));
    all = λ _. if_told (of_jobs.holds jobs_old name) _ (λ held told. all_of_past of_jobs jobs_old jobs name s.lines c.read held told c.front c.one_past c.all);
    took = λ _. c.output;
    cut_short = λ six. absurd (omega (arith, at, six));
  }
  answers_by statuses.ReadFault at c = record {
    first = if_told (of_jobs.holds jobs_old name) _ (λ held told. first_ended of_jobs jobs_old jobs name s.lines c.read held told c.given c.fits c.all);
    all = λ two. absurd (not_both 5 (omega arith) (omega arith) at two);
    took = λ _. c.output;
    cut_short = λ six. absurd (omega (arith, at, six));
  }
  answers_by statuses.WriteFault at c = record {
    first = if_told (of_jobs.holds jobs_old name) _ (λ held told. first_among of_jobs jobs_old jobs name s.lines held told c.first);
    all = λ two. absurd (not_both 6 (omega arith) (omega arith) at two);
    took = λ other. absurd (other at);
    cut_short = λ _. c.output;
  }
  answers_by statuses.NoMemory at c = record {
    first = if_told (of_jobs.holds jobs_old name) _ (λ held told. first_among of_jobs jobs_old jobs name s.lines held told c.first);
    all = λ two. absurd (not_both 7 (omega arith) (omega arith) at two);
    took = λ _. c.output;
    cut_short = λ six. absurd (omega (arith, at, six));
  }

  pub answers_jobs : HaveReplies run files_old files (AnswersJobs of_jobs jobs_old of_out out_old out name status)
  answers_jobs = (s.lines, s.replies, s.are_replies, answers_by s.answered s.status_is s.cause)
