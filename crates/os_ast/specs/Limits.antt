-- How deep a program may be, and how much it may declare.
use Rattle.std.specs.Prelude.{ℕ, ◌&&◌, Bool, false, leb, Option, Some, ℤ, pos}

-- At most `depth_limit` constructs stand in one another.
abbrev pub depth_limit : ℕ
depth_limit = 200

-- A local array has at most `size_limit` elements, and a stream array at most as many streams.
abbrev pub size_limit : ℕ
size_limit = 65536

-- A value that is there is a size, from 1 to the limit.
abbrev pub is_size : Option ℤ → Bool
is_size (Some (pos n)) = leb 1 n && leb n size_limit
is_size _ = false

-- the elements of the local arrays of one function or task
abbrev pub elements_limit : ℕ
elements_limit = 65536

-- the elements of the local arrays of a program
abbrev pub arrays_limit : ℕ
arrays_limit = 1048576

-- the streams that a program declares
abbrev pub streams_limit : ℕ
streams_limit = 65536

-- all streams of a program: those that it declares, its input and its output
abbrev pub all_streams_limit : ℕ
all_streams_limit = 65538

-- the slots of all functions and tasks of a program together
abbrev pub slots_limit : ℕ
slots_limit = 2097152

-- the items of a task
abbrev pub items_limit : ℕ
items_limit = 8

-- the scalars that a task captures
abbrev pub captured_limit : ℕ
captured_limit = 64
