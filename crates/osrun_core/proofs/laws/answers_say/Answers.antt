use Rattle.osrun_core.proofs.Says.{all_opened, bad_words, bad_words_always, compile_cut_short, compile_refused_always, compiled, complete, exec_refused_always, exec_undelivered, executed, explain_cut_short, explain_refused_always, explained, gen_complete, gen_cut_short, gen_files, gen_report, gen_statuses, gen_written, headline, in_order, keeps, memory, no_read_fault, no_write_fault, not_replayed, not_replayed_alone, nothing_read, nothing_written, opened_last, read_earlier, refused, refused_always, replay_refused_always, replay_undelivered, replayed_whole, statuses_small, too_long_always, trace_refused_always, trace_rejected_always, trace_undelivered, traced, undelivered, usage, within}
use Rattle.osrun_core.proofs.laws.answers_say.Goals as goal

pub returns-clause-headline : goal.returns-clause-headline
returns-clause-headline g c = headline _ _ _ _ _ _ _ _ _ _ _ c.requires

pub returns-clause-all_opened : goal.returns-clause-all_opened
returns-clause-all_opened g c = all_opened _ _ _ _ _ _ _ _ _ _ _ c.requires

pub returns-clause-within : goal.returns-clause-within
returns-clause-within g c = within _ _ _ _ _ _ _ _ _ _ _ c.requires

pub returns-clause-bad_words : goal.returns-clause-bad_words
returns-clause-bad_words g c = bad_words _ _ _ _ _ _ _ _ _ _ _ c.requires

pub returns-clause-bad_words_always : goal.returns-clause-bad_words_always
returns-clause-bad_words_always g c = bad_words_always _ _ _ _ _ _ _ _ _ _ _ c.requires

pub returns-clause-nothing_read : goal.returns-clause-nothing_read
returns-clause-nothing_read g c = nothing_read _ _ _ _ _ _ _ _ _ _ _ c.requires

pub returns-clause-usage : goal.returns-clause-usage
returns-clause-usage g c = usage _ _ _ _ _ _ _ _ _ _ _ c.requires

pub returns-clause-refused : goal.returns-clause-refused
returns-clause-refused g c = refused _ _ _ _ _ _ _ _ _ _ _ c.requires

pub returns-clause-opened_last : goal.returns-clause-opened_last
returns-clause-opened_last g c = opened_last _ _ _ _ _ _ _ _ _ _ _ c.requires

pub returns-clause-refused_always : goal.returns-clause-refused_always
returns-clause-refused_always g c = refused_always _ _ _ _ _ _ _ _ _ _ _ c.requires

pub returns-clause-too_long_always : goal.returns-clause-too_long_always
returns-clause-too_long_always g c = too_long_always _ _ _ _ _ _ _ _ _ _ _ c.requires

pub returns-clause-undelivered : goal.returns-clause-undelivered
returns-clause-undelivered g c = undelivered _ _ _ _ _ _ _ _ _ _ _ c.requires

pub returns-clause-memory : goal.returns-clause-memory
returns-clause-memory g c = memory _ _ _ _ _ _ _ _ _ _ _ c.requires

pub returns-clause-nothing_written : goal.returns-clause-nothing_written
returns-clause-nothing_written g c = nothing_written _ _ _ _ _ _ _ _ _ _ _ c.requires

pub returns-clause-statuses : goal.returns-clause-statuses
returns-clause-statuses g c = statuses_small _ _ _ _ _ _ _ _ _ _ _ c.requires

pub returns-clause-in_order : goal.returns-clause-in_order
returns-clause-in_order g c = in_order _ _ _ _ _ _ _ _ _ _ _ c.requires

pub returns-clause-read_before : goal.returns-clause-read_before
returns-clause-read_before g c = read_earlier _ _ _ _ _ _ _ _ _ _ _ c.requires

pub returns-clause-complete : goal.returns-clause-complete
returns-clause-complete g c = complete _ _ _ _ _ _ _ _ _ _ _ c.requires

pub returns-clause-no_read_fault : goal.returns-clause-no_read_fault
returns-clause-no_read_fault g c = no_read_fault _ _ _ _ _ _ _ _ _ _ _ c.requires

pub returns-clause-no_write_fault : goal.returns-clause-no_write_fault
returns-clause-no_write_fault g c = no_write_fault _ _ _ _ _ _ _ _ _ _ _ c.requires

pub returns-clause-gen_written : goal.returns-clause-gen_written
returns-clause-gen_written g c = gen_written _ _ _ _ _ _ _ _ _ _ _ c.requires

pub returns-clause-gen_cut_short : goal.returns-clause-gen_cut_short
returns-clause-gen_cut_short g c = gen_cut_short _ _ _ _ _ _ _ _ _ _ _ c.requires

pub returns-clause-gen_statuses : goal.returns-clause-gen_statuses
returns-clause-gen_statuses g c = gen_statuses _ _ _ _ _ _ _ _ _ _ _ c.requires

pub returns-clause-gen_files : goal.returns-clause-gen_files
returns-clause-gen_files g c = gen_files _ _ _ _ _ _ _ _ _ _ _ c.requires

pub returns-clause-gen_report : goal.returns-clause-gen_report
returns-clause-gen_report g c = gen_report _ _ _ _ _ _ _ _ _ _ _ c.requires

pub returns-clause-gen_complete : goal.returns-clause-gen_complete
returns-clause-gen_complete g c = gen_complete _ _ _ _ _ _ _ _ _ _ _ c.requires

pub returns-clause-faults_kept : goal.returns-clause-faults_kept
returns-clause-faults_kept g c = (keeps _ _ _ _ _ _ _ _ _ _ _ c.requires).0

pub returns-clause-holds : goal.returns-clause-holds
returns-clause-holds g c = (keeps _ _ _ _ _ _ _ _ _ _ _ c.requires).1

pub returns-clause-may : goal.returns-clause-may
returns-clause-may g c = (keeps _ _ _ _ _ _ _ _ _ _ _ c.requires).2

pub returns-clause-compiled : goal.returns-clause-compiled
returns-clause-compiled g c = compiled _ _ _ _ _ _ _ _ _ _ _ c.requires

pub returns-clause-compile_cut_short : goal.returns-clause-compile_cut_short
returns-clause-compile_cut_short g c = compile_cut_short _ _ _ _ _ _ _ _ _ _ _ c.requires

pub returns-clause-compile_refused_always : goal.returns-clause-compile_refused_always
returns-clause-compile_refused_always g c = compile_refused_always _ _ _ _ _ _ _ _ _ _ _ c.requires

pub returns-clause-executed : goal.returns-clause-executed
returns-clause-executed g c = executed _ _ _ _ _ _ _ _ _ _ _ c.requires

pub returns-clause-exec_undelivered : goal.returns-clause-exec_undelivered
returns-clause-exec_undelivered g c = exec_undelivered _ _ _ _ _ _ _ _ _ _ _ c.requires

pub returns-clause-exec_refused_always : goal.returns-clause-exec_refused_always
returns-clause-exec_refused_always g c = exec_refused_always _ _ _ _ _ _ _ _ _ _ _ c.requires

pub returns-clause-explained : goal.returns-clause-explained
returns-clause-explained g c = explained _ _ _ _ _ _ _ _ _ _ _ c.requires

pub returns-clause-explain_cut_short : goal.returns-clause-explain_cut_short
returns-clause-explain_cut_short g c = explain_cut_short _ _ _ _ _ _ _ _ _ _ _ c.requires

pub returns-clause-explain_refused_always : goal.returns-clause-explain_refused_always
returns-clause-explain_refused_always g c = explain_refused_always _ _ _ _ _ _ _ _ _ _ _ c.requires

pub returns-clause-not_replayed_alone : goal.returns-clause-not_replayed_alone
returns-clause-not_replayed_alone g c = not_replayed_alone _ _ _ _ _ _ _ _ _ _ _ c.requires

pub returns-clause-traced : goal.returns-clause-traced
returns-clause-traced g c = traced _ _ _ _ _ _ _ _ _ _ _ c.requires

pub returns-clause-trace_undelivered : goal.returns-clause-trace_undelivered
returns-clause-trace_undelivered g c = trace_undelivered _ _ _ _ _ _ _ _ _ _ _ c.requires

pub returns-clause-replayed : goal.returns-clause-replayed
returns-clause-replayed g c = replayed_whole _ _ _ _ _ _ _ _ _ _ _ c.requires

pub returns-clause-replay_undelivered : goal.returns-clause-replay_undelivered
returns-clause-replay_undelivered g c = replay_undelivered _ _ _ _ _ _ _ _ _ _ _ c.requires

pub returns-clause-not_replayed : goal.returns-clause-not_replayed
returns-clause-not_replayed g c = not_replayed _ _ _ _ _ _ _ _ _ _ _ c.requires

pub returns-clause-trace_refused_always : goal.returns-clause-trace_refused_always
returns-clause-trace_refused_always g c = trace_refused_always _ _ _ _ _ _ _ _ _ _ _ c.requires

pub returns-clause-replay_refused_always : goal.returns-clause-replay_refused_always
returns-clause-replay_refused_always g c = replay_refused_always _ _ _ _ _ _ _ _ _ _ _ c.requires

pub returns-clause-trace_rejected_always : goal.returns-clause-trace_rejected_always
returns-clause-trace_rejected_always g c = trace_rejected_always _ _ _ _ _ _ _ _ _ _ _ c.requires c.never_usable_and_refused.ensures
