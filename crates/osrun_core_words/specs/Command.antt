-- What the words of a command name.
use Rattle.std.specs.Prelude.{List, [], ◌∷◌, Option, Some, None, codes, find, map, option_and_then, string_bytes}
use Rattle.flow_core_laws.specs.Limits.{budget_limit, last_activation, workers_limit}
use Rattle.std.specs.Str.{bytes_eq}
use Rattle.std.specs.declared.string.String.{String}
use Rattle.std.specs.declared.alloc.Global.{Global}
use Rattle.clap.specs.Words.{App, Kinds, Row, Text, fault_of, matches_of}
use Rattle.osrun_core_words.specs.Arguments.{Argument, name, number, option, name_in, argument_number, simple_command}
use Rattle.osrun_core_jobs.specs.Limits.{blocks_limit, seed_limit}
use Rattle.osrun_core_jobs.specs.Jobs.{Compile, CompileJob, Exec, ExecJob, Explain, ExplainJob, Gen, GenJob, Job, Replay, ReplayJob, Request}
use Rattle.osrun_core_jobs.specs.Jobs.{Run, Trace, compile_in, exec_in, explain_in, gen_in, replay_in, run_in, trace_in}

-- ---- the commands

-- a command: the word that picks it, its arguments, and what is asked for where these are given
pub record CommandForm : Type 0 where
  pub word : Text
  pub arguments : List Argument
  pub request : List Row → Request

-- the default is `default_workers` in decimal
abbrev pub workers : Argument
workers = option (codes "workers") (codes "4") 1 workers_limit

-- the default is `default_budget` in decimal
abbrev pub task_budget : Argument
task_budget = option (codes "budget") (codes "1000000") 0 budget_limit

-- the default is `default_budget` in decimal
abbrev pub control_budget : Argument
control_budget = option (codes "control") (codes "1000000") 0 budget_limit

-- `run PROGRAM INPUT [--workers N] [--budget N] [--control N]`
abbrev pub run_form : CommandForm
run_form = record {
  word = codes "run";
  arguments =
      name (codes "PROGRAM") ∷ name (codes "INPUT") ∷ workers ∷ task_budget ∷ control_budget ∷ [];
  request = λ rows. Run (record {
    program = name_in rows (codes "PROGRAM");
    input = name_in rows (codes "INPUT");
    workers = argument_number rows (codes "workers");
    task_budget = argument_number rows (codes "budget");
    control_budget = argument_number rows (codes "control");
  });
}

-- `gen SEED BLOCKS [--workers N]`
abbrev pub gen_form : CommandForm
gen_form = record {
  word = codes "gen";
  arguments =
      number (codes "SEED") 0 seed_limit ∷ number (codes "BLOCKS") 1 blocks_limit ∷ workers ∷ [];
  request = λ rows. Gen (record {
    seed = argument_number rows (codes "SEED");
    blocks = argument_number rows (codes "BLOCKS");
    workers = argument_number rows (codes "workers");
  });
}

-- `compile PROGRAM`
abbrev pub compile_form : CommandForm
compile_form = record {
  word = codes "compile";
  arguments = name (codes "PROGRAM") ∷ [];
  request = λ rows. Compile (record { program = name_in rows (codes "PROGRAM") });
}

-- `exec OBJECT INPUT [--workers N] [--budget N] [--control N]`
abbrev pub exec_form : CommandForm
exec_form = record {
  word = codes "exec";
  arguments =
      name (codes "OBJECT") ∷ name (codes "INPUT") ∷ workers ∷ task_budget ∷ control_budget ∷ [];
  request = λ rows. Exec (record {
    object = name_in rows (codes "OBJECT");
    input = name_in rows (codes "INPUT");
    workers = argument_number rows (codes "workers");
    task_budget = argument_number rows (codes "budget");
    control_budget = argument_number rows (codes "control");
  });
}

-- `explain PROGRAM INPUT ACTIVATION [--workers N] [--budget N] [--control N]`
abbrev pub explain_form : CommandForm
explain_form = record {
  word = codes "explain";
  arguments =
      name (codes "PROGRAM") ∷ name (codes "INPUT") ∷ number (codes "ACTIVATION") 0 last_activation ∷ workers ∷ task_budget ∷ control_budget ∷ [];
  request = λ rows. Explain (record {
    program = name_in rows (codes "PROGRAM");
    input = name_in rows (codes "INPUT");
    activation = argument_number rows (codes "ACTIVATION");
    workers = argument_number rows (codes "workers");
    task_budget = argument_number rows (codes "budget");
    control_budget = argument_number rows (codes "control");
  });
}

-- `trace PROGRAM INPUT [--workers N] [--budget N] [--control N]`
abbrev pub trace_form : CommandForm
trace_form = record {
  word = codes "trace";
  arguments =
      name (codes "PROGRAM") ∷ name (codes "INPUT") ∷ workers ∷ task_budget ∷ control_budget ∷ [];
  request = λ rows. Trace (record {
    program = name_in rows (codes "PROGRAM");
    input = name_in rows (codes "INPUT");
    workers = argument_number rows (codes "workers");
    task_budget = argument_number rows (codes "budget");
    control_budget = argument_number rows (codes "control");
  });
}

-- `replay PROGRAM INPUT TRACE [--budget N] [--control N]`
abbrev pub replay_form : CommandForm
replay_form = record {
  word = codes "replay";
  arguments =
      name (codes "PROGRAM") ∷ name (codes "INPUT") ∷ name (codes "TRACE") ∷ task_budget ∷ control_budget ∷ [];
  request = λ rows. Replay (record {
    program = name_in rows (codes "PROGRAM");
    input = name_in rows (codes "INPUT");
    trace = name_in rows (codes "TRACE");
    task_budget = argument_number rows (codes "budget");
    control_budget = argument_number rows (codes "control");
  });
}

abbrev pub commands : List CommandForm
commands = run_form ∷ gen_form ∷ compile_form ∷ exec_form ∷ explain_form ∷ trace_form ∷ replay_form ∷ []

-- ---- the words

-- the simple command of clap that reads the words
abbrev pub app_of_form : CommandForm → App
app_of_form form = simple_command form.word form.arguments

-- a request, unless there is a fault
abbrev pub unless : Kinds → Request → Option Request
unless [] request = Some request
unless (fault ∷ more) request = None

-- what the matches of the simple command ask for, unless the words have a fault
unfoldable pub request_by : CommandForm → List Text → Option Request
request_by form words =
    unless (fault_of (app_of_form form) words) (form.request (matches_of (app_of_form form) words))

-- What the words ask for. The first word picks the command, and all words are read by it: the first one
-- stands in the place of the program's name.
abbrev pub command : List Text → Option Request
command [] = None
command (first ∷ rest) =
    option_and_then (λ form. request_by form (first ∷ rest)) (find (λ form. bytes_eq form.word first) commands)

-- the run that the words name
abbrev pub named_run : List Text → Option Job
named_run words = option_and_then run_in (command words)

-- the bytes that the words ask to be made
abbrev pub named_gen : List Text → Option GenJob
named_gen words = option_and_then gen_in (command words)

-- the program that the words ask to be compiled
abbrev pub named_compile : List Text → Option CompileJob
named_compile words = option_and_then compile_in (command words)

-- the run of an object that the words name
abbrev pub named_exec : List Text → Option ExecJob
named_exec words = option_and_then exec_in (command words)

-- the activation that the words ask to be explained
abbrev pub named_explain : List Text → Option ExplainJob
named_explain words = option_and_then explain_in (command words)

-- the run that the words ask to be traced
abbrev pub named_trace : List Text → Option Job
named_trace words = option_and_then trace_in (command words)

-- the run that the words ask to be made in the order of a trace
abbrev pub named_replay : List Text → Option ReplayJob
named_replay words = option_and_then replay_in (command words)

-- ---- what the code's values show

-- the texts of the words
abbrev pub texts : List (String Global) → List Text
texts words = map string_bytes words
