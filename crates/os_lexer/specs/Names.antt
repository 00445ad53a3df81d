-- The numbers of names.
use Rattle.std.specs.Prelude.{ℕ, ◌+◌, List, [], ◌∷◌, unwrap_or, position, codes, bytes_eq, slice_range}
use Rattle.std.specs.List.{position_or_len}
use Rattle.os_lexer.specs.declared.token.Token.{Token}

-- the names that have the numbers 0 to 11
abbrev pub fixed_names : List (List ℕ)
fixed_names = codes "omp" ∷ codes "task" ∷ codes "tick" ∷ codes "taskwait" ∷ codes "input" ∷ codes "output" ∷
    codes "firstprivate" ∷ codes "stream" ∷ codes "main" ∷ codes "osin" ∷ codes "osout" ∷ codes "osin_len" ∷ []

-- the number of one of them, which is its place in this list
abbrev pub fixed_id : List ℕ → ℕ
fixed_id name = position_or_len (bytes_eq name) fixed_names

-- the numbers of the fixed names
abbrev pub omp_id : ℕ
omp_id = 0

abbrev pub task_id : ℕ
task_id = 1

abbrev pub tick_id : ℕ
tick_id = 2

abbrev pub taskwait_id : ℕ
taskwait_id = 3

abbrev pub input_id : ℕ
input_id = 4

abbrev pub output_id : ℕ
output_id = 5

abbrev pub firstprivate_id : ℕ
firstprivate_id = 6

abbrev pub stream_id : ℕ
stream_id = 7

abbrev pub main_id : ℕ
main_id = 8

abbrev pub osin_id : ℕ
osin_id = 9

abbrev pub osout_id : ℕ
osout_id = 10

abbrev pub osin_len_id : ℕ
osin_len_id = 11

-- the first number of the names that are a text's own
abbrev pub first_own_id : ℕ
first_own_id = 12

-- the slice of the text that a token is
abbrev pub spelling : List ℕ → Token → List ℕ
spelling text token = slice_range text token.start token.end

-- the index of the first token with this spelling, where the token to come has it
abbrev pub first_index : List ℕ → List Token → List ℕ → ℕ
first_index text tokens name = position_or_len (λ token. bytes_eq name (spelling text token)) tokens

-- every name that isn't fixed has `first_own_id` plus the index of the first token with the same spelling
abbrev pub name_number : List ℕ → List Token → List ℕ → ℕ
name_number text tokens name = unwrap_or (position (bytes_eq name) fixed_names) (first_own_id + first_index text tokens name)
