-- One key by itself: a cell that is absent or holds bytes.
use Rattle.std.specs.Prelude.{Bool, true, false, Option, Some, None}
use Rattle.oak_model.specs.declared.writes.Kind.{Kind}
use Rattle.oak_model.specs.declared.writes.Kind.TheVariants as kinds
use Rattle.oak_model.specs.declared.cells.CellCall.{CellCall}
use Rattle.oak_model.specs.declared.cells.CellCall.TheVariants.{Get, Put, PutNew, Compute, Upsert, Remove}
use Rattle.oak_model.specs.declared.cells.CellReply.{CellReply}
use Rattle.oak_model.specs.declared.cells.CellReply.TheVariants.{New, Over, Kept, Done, Removed, Absent, Holds}
use Rattle.oak_model.specs.Recipe.{IsArgument, recipe_result}
use Rattle.oak_model.specs.State.{State}

-- the reply to a call
abbrev pub reply_of : State → CellCall → CellReply
reply_of None Get = Absent
reply_of None (Put v) = New
reply_of None (PutNew v) = New
reply_of None (Compute r n) = Absent
reply_of None (Upsert v r n) = New
reply_of None Remove = Absent
reply_of (Some b) Get = Holds b
reply_of (Some b) (Put v) = Over
reply_of (Some b) (PutNew v) = Kept
reply_of (Some b) (Compute r n) = Done
reply_of (Some b) (Upsert v r n) = Done
reply_of (Some b) Remove = Removed

-- the state behind a call
abbrev pub state_after : State → CellCall → State
state_after None Get = None
state_after None (Put v) = Some v
state_after None (PutNew v) = Some v
state_after None (Compute r n) = None
state_after None (Upsert v r n) = Some v
state_after None Remove = None
state_after (Some b) Get = Some b
state_after (Some b) (Put v) = Some v
state_after (Some b) (PutNew v) = Some b
state_after (Some b) (Compute r n) = Some (recipe_result r n b)
state_after (Some b) (Upsert v r n) = Some (recipe_result r n b)
state_after (Some b) Remove = None

-- the replies of writes
abbrev pub is_write : CellReply → Bool
is_write New = true
is_write Over = true
is_write Kept = false
is_write Done = true
is_write Removed = true
is_write Absent = false
is_write (Holds b) = false

-- the reply of a write that inserts
abbrev pub is_new : CellReply → Bool
is_new New = true
is_new Over = false
is_new Kept = false
is_new Done = false
is_new Removed = false
is_new Absent = false
is_new (Holds b) = false

-- the kind of the write that a call makes where it makes one
abbrev pub kind_of : CellCall → Option Kind
kind_of Get = None
kind_of (Put v) = Some kinds.Put
kind_of (PutNew v) = Some kinds.PutNew
kind_of (Compute r n) = Some (kinds.Compute r n)
kind_of (Upsert v r n) = Some (kinds.Upsert r n)
kind_of Remove = Some kinds.Remove

-- the argument of a call's recipe is one
abbrev pub HasArgument : CellCall → Type 0
HasArgument Get = Unit {0}
HasArgument (Put v) = Unit {0}
HasArgument (PutNew v) = Unit {0}
HasArgument (Compute r n) = IsArgument r n
HasArgument (Upsert v r n) = IsArgument r n
HasArgument Remove = Unit {0}
