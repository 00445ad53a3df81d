-- What two lists of words name: one that says no more than it has to, and one that says all.
use Rattle.std.specs.Prelude.{◌≡◌, [], ◌∷◌, Some, codes}
use Rattle.osrun_core_jobs.specs.Limits.{default_budget, default_workers}
use Rattle.osrun_core_words.specs.Command.{named_run}

-- Where no option is given there are `default_workers` workers, and `default_budget` turns for each task and for the control program.
abbrev pub HasDefaults : Type 0
HasDefaults = named_run (codes "run" ∷ codes "p" ∷ codes "q" ∷ [])
    ≡ Some (record {
      program = codes "p";
      input = codes "q";
      workers = default_workers;
      task_budget = default_budget;
      control_budget = default_budget;
    })

-- Options may stand anywhere behind the first word, and each has its own number.
abbrev pub TakesOptions : Type 0
TakesOptions =
    named_run (codes "run" ∷ codes "--control" ∷ codes "5" ∷ codes "p" ∷ codes "--workers" ∷ codes "64" ∷ codes "q" ∷ codes "--budget=+0" ∷ [])
    ≡ Some (record { program = codes "p"; input = codes "q"; workers = 64; task_budget = 0; control_budget = 5 })
