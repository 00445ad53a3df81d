-- What a body works on: its variables, and what it did to streams.
use Rattle.std.specs.Prelude.{ℕ, Bool, List, [], get_or, set, Option, Some, ℤ}
use Rattle.cddf_meaning.specs.Variables.{find, assign, bind}
use Rattle.cddf_meaning.specs.declared.cursor_move.Move.{Move}
use Rattle.cddf_meaning.specs.declared.variable.Binding.{Binding}
use Rattle.cddf_meaning.specs.declared.variable.Variable.TheVariants.{Scalar, Array, Item}
use Rattle.cddf_meaning.specs.declared.variable.Variable.{Variable}
use Rattle.flow_core_laws.specs.declared.activation.Activation.{Activation}

pub record BodyState : Type 0 where
  -- the declarations in scope, within those of the file
  pub bound : List Binding
  -- the elements of each item of a task
  pub items : List (List ℤ)
  -- the activations that the control program created, in order
  pub activations : List Activation
  -- how many streams there are so far
  pub streams : ℕ
  -- the ticks so far, and the claims of the activations so far before they got their skips, the last move first
  pub moves : List Move

-- the state in which a body begins: that of a function or a task does nothing to streams but through its items; `main` begins with two
abbrev pub state_of : List Binding → List (List ℤ) → BodyState
state_of bound items = record { bound = bound; items = items; activations = []; streams = 0; moves = [] }

-- a name is in scope from here on
abbrev pub declared : ℕ → Bool → Variable → BodyState → BodyState
declared id unsigned v s = record s { bound = bind id unsigned v s.bound }

-- the elements of an item
abbrev pub item_elements : BodyState → ℕ → List ℤ
item_elements s item = get_or s.items item []

-- an element of an item is set
abbrev pub with_element : BodyState → ℕ → ℕ → ℤ → BodyState
with_element s item k v = record s { items = set s.items item (set (item_elements s item) k v) }

-- A scalar is set, or an item's one element. Nothing else stands as a target without an index; neither does `osin_len`
-- or an input item.
abbrev pub stored_in : Option Variable → BodyState → ℕ → ℤ → BodyState
stored_in (Some (Scalar old)) s id v = record s { bound = assign s.bound id (Scalar v) }
stored_in (Some (Item item)) s id v = with_element s item 0 v
stored_in _ s id v = s

-- the target without an index
abbrev pub stored : BodyState → ℕ → ℤ → BodyState
stored s id v = stored_in (find s.bound id) s id v

-- An element of a local array is set, or of an item. Nothing else stands as a target with an index.
abbrev pub stored_in_at : Option Variable → BodyState → ℕ → ℕ → ℤ → BodyState
stored_in_at (Some (Array vs)) s id k v = record s { bound = assign s.bound id (Array (set vs k v)) }
stored_in_at (Some (Item item)) s id k v = with_element s item k v
stored_in_at _ s id k v = s

-- the target with an index, which was checked
abbrev pub stored_at : BodyState → ℕ → ℕ → ℤ → BodyState
stored_at s id k v = stored_in_at (find s.bound id) s id k v
