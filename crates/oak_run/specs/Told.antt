-- What calls ask and what replies tell.
use Rattle.std.specs.Prelude.{◌≡◌, ℕ, Bool, true, false, List, Option, Some, None}
use Rattle.oak_model.specs.declared.replies.Wrote.{Wrote}
use Rattle.oak_model.specs.declared.replies.Wrote.TheVariants as wrote
use Rattle.oak_model.specs.declared.replies.Reply.{Reply}
use Rattle.oak_model.specs.declared.replies.Reply.TheVariants as replies
use Rattle.oak_model.specs.declared.cells.CellCall.{CellCall}
use Rattle.oak_model.specs.declared.cells.CellCall.TheVariants as asks
use Rattle.oak_model.specs.declared.cells.CellReply.{CellReply}
use Rattle.oak_model.specs.declared.cells.CellReply.TheVariants as words
use Rattle.oak_model.specs.Cell.{is_write}
use Rattle.oak_script.specs.declared.scripts.Call.{Call}
use Rattle.oak_script.specs.declared.scripts.Call.TheVariants.{Put, Get, PutNew, Compute, Upsert, Remove, Hold, Look, Scan, Back}
-- the call was refused
pub use Rattle.oak_script.specs.Summary.{is_full}

-- a call on one key: the key, and what it asks of its cell
pub record Ask : Type 0 where
  pub key : List ℕ
  pub cell : CellCall

-- a hold is a get; looks and scans name no key
abbrev pub ask_of : Call → Option Ask
ask_of (Put k v) = Some (record { key = k; cell = asks.Put v })
ask_of (Get k) = Some (record { key = k; cell = asks.Get })
ask_of (PutNew k v) = Some (record { key = k; cell = asks.PutNew v })
ask_of (Compute k r n) = Some (record { key = k; cell = asks.Compute r n })
ask_of (Upsert k v r n) = Some (record { key = k; cell = asks.Upsert v r n })
ask_of (Remove k) = Some (record { key = k; cell = asks.Remove })
ask_of (Hold a k) = Some (record { key = k; cell = asks.Get })
ask_of (Look a) = None
ask_of (Scan low high) = None
ask_of (Back low high) = None

-- the number of a reply of one key, 0 for replies that have none
abbrev pub wrote_at : Wrote → ℕ
wrote_at (wrote.New at) = at
wrote_at (wrote.Over at) = at
wrote_at (wrote.Kept at) = at
wrote_at (wrote.Done at) = at
wrote_at (wrote.Removed at) = at
wrote_at (wrote.Absent at) = at
wrote_at (wrote.Full lack) = 0

abbrev pub reply_at : Reply → ℕ
reply_at (replies.Wrote w) = wrote_at w
reply_at (replies.Value key value at) = at
reply_at (replies.Held at) = at
reply_at replies.Gone = 0
reply_at replies.Unheld = 0
reply_at (replies.Pairs pairs) = 0

abbrev pub is_held : Reply → Bool
is_held (replies.Held at) = true
is_held (replies.Wrote w) = false
is_held (replies.Value key value at) = false
is_held replies.Gone = false
is_held replies.Unheld = false
is_held (replies.Pairs pairs) = false

-- the reply of a write
abbrev pub wrote_writes : Wrote → Bool
wrote_writes (wrote.New at) = true
wrote_writes (wrote.Over at) = true
wrote_writes (wrote.Kept at) = false
wrote_writes (wrote.Done at) = true
wrote_writes (wrote.Removed at) = true
wrote_writes (wrote.Absent at) = false
wrote_writes (wrote.Full lack) = false

abbrev pub makes_write : Reply → Bool
makes_write (replies.Wrote w) = wrote_writes w
makes_write (replies.Value key value at) = false
makes_write (replies.Held at) = false
makes_write replies.Gone = false
makes_write replies.Unheld = false
makes_write (replies.Pairs pairs) = false

-- The reply tells this of the cell of the key. A held does not tell the bytes, and a full tells nothing.
abbrev pub WroteTells : Wrote → CellReply → Type 0
WroteTells (wrote.New at) word = word ≡ words.New
WroteTells (wrote.Over at) word = word ≡ words.Over
WroteTells (wrote.Kept at) word = word ≡ words.Kept
WroteTells (wrote.Done at) word = word ≡ words.Done
WroteTells (wrote.Removed at) word = word ≡ words.Removed
WroteTells (wrote.Absent at) word = word ≡ words.Absent
WroteTells (wrote.Full lack) word = ⊥

abbrev pub Tells : List ℕ → Reply → CellReply → Type 0
Tells k (replies.Wrote w) word = WroteTells w word
Tells k (replies.Value key value at) word = (key ≡ k) × (word ≡ words.Holds value)
Tells k (replies.Held at) word = (bytes : List ℕ) × (word ≡ words.Holds bytes)
Tells k replies.Gone word = ⊥
Tells k replies.Unheld word = ⊥
Tells k (replies.Pairs pairs) word = ⊥

-- the reply tells the cell's word of the key, with this number
pub record TellsWord (k : List ℕ) (word : CellReply) (at : ℕ) (y : Reply) : Type 0 where
  pub tells : Tells k y word
  pub number : reply_at y ≡ at
  pub not_full : is_full y ≡ false
  pub writes : makes_write y ≡ is_write word
