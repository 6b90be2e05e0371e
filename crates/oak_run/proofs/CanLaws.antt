-- A call on a key is replied to by one of its reply words.
use Rattle.std.proofs.Common.{◌≡◌, ℕ, true, false, Bool, List, [], ◌∷◌, ◌++◌, Some, None, refl, ap}
use Rattle.oak_model.specs.declared.cells.CellCall.{CellCall}
use Rattle.oak_model.specs.declared.cells.CellCall.TheVariants as asks
use Rattle.oak_model.specs.declared.cells.CellReply.{CellReply}
use Rattle.oak_model.specs.declared.cells.CellReply.TheVariants as words
use Rattle.oak_model.specs.declared.replies.Wrote.TheVariants as wrote
use Rattle.oak_model.specs.declared.replies.Reply.{Reply}
use Rattle.oak_model.specs.declared.replies.Reply.TheVariants as replies
use Rattle.oak_model.specs.declared.recipes.RecipeKind.{RecipeKind}
use Rattle.oak_model.specs.State.{State}
use Rattle.oak_model.specs.Cell.{reply_of}
use Rattle.oak_script.specs.declared.scripts.Call.{Call}
use Rattle.oak_script.specs.declared.scripts.Call.TheVariants.{Put, Get, PutNew, Compute, Upsert, Remove}
use Rattle.oak_script.specs.Text.{CanReply, CallsAnswered}
use Rattle.oak_run.specs.Told.{Tells, is_held}

-- the words of a cell's replies that a call on a key can have
abbrev pub has_word : CellCall → CellReply → Bool
has_word asks.Get words.New = false
has_word asks.Get words.Over = false
has_word asks.Get words.Kept = false
has_word asks.Get words.Done = false
has_word asks.Get words.Removed = false
has_word asks.Get words.Absent = true
has_word asks.Get (words.Holds b) = true
has_word (asks.Put v) words.New = true
has_word (asks.Put v) words.Over = true
has_word (asks.Put v) words.Kept = false
has_word (asks.Put v) words.Done = false
has_word (asks.Put v) words.Removed = false
has_word (asks.Put v) words.Absent = false
has_word (asks.Put v) (words.Holds b) = false
has_word (asks.PutNew v) words.New = true
has_word (asks.PutNew v) words.Over = false
has_word (asks.PutNew v) words.Kept = true
has_word (asks.PutNew v) words.Done = false
has_word (asks.PutNew v) words.Removed = false
has_word (asks.PutNew v) words.Absent = false
has_word (asks.PutNew v) (words.Holds b) = false
has_word (asks.Compute r n) words.New = false
has_word (asks.Compute r n) words.Over = false
has_word (asks.Compute r n) words.Kept = false
has_word (asks.Compute r n) words.Done = true
has_word (asks.Compute r n) words.Removed = false
has_word (asks.Compute r n) words.Absent = true
has_word (asks.Compute r n) (words.Holds b) = false
has_word (asks.Upsert v r n) words.New = true
has_word (asks.Upsert v r n) words.Over = false
has_word (asks.Upsert v r n) words.Kept = false
has_word (asks.Upsert v r n) words.Done = true
has_word (asks.Upsert v r n) words.Removed = false
has_word (asks.Upsert v r n) words.Absent = false
has_word (asks.Upsert v r n) (words.Holds b) = false
has_word asks.Remove words.New = false
has_word asks.Remove words.Over = false
has_word asks.Remove words.Kept = false
has_word asks.Remove words.Done = false
has_word asks.Remove words.Removed = true
has_word asks.Remove words.Absent = true
has_word asks.Remove (words.Holds b) = false

pub reply-has_word : (s : State) (cell : CellCall) → has_word cell (reply_of s cell) ≡ true
reply-has_word None asks.Get = refl
reply-has_word (Some b) asks.Get = refl
reply-has_word None (asks.Put v) = refl
reply-has_word (Some b) (asks.Put v) = refl
reply-has_word None (asks.PutNew v) = refl
reply-has_word (Some b) (asks.PutNew v) = refl
reply-has_word None (asks.Compute r n) = refl
reply-has_word (Some b) (asks.Compute r n) = refl
reply-has_word None (asks.Upsert v r n) = refl
reply-has_word (Some b) (asks.Upsert v r n) = refl
reply-has_word None asks.Remove = refl
reply-has_word (Some b) asks.Remove = refl

no-word : (b : Bool) → b ≡ true → b ≡ false → ⊥
no-word b t f = cc

pub can-put : (k v : List ℕ) (y : Reply) (word : CellReply) → Tells k y word → is_held y ≡ false → has_word (asks.Put v) word ≡ true → CanReply (Put k v) y
can-put k v (replies.Wrote (wrote.New at)) word tells held has = tt
can-put k v (replies.Wrote (wrote.Over at)) word tells held has = tt
can-put k v (replies.Wrote (wrote.Kept at)) word tells held has = absurd (no-word _ has (ap (has_word (asks.Put v)) tells))
can-put k v (replies.Wrote (wrote.Done at)) word tells held has = absurd (no-word _ has (ap (has_word (asks.Put v)) tells))
can-put k v (replies.Wrote (wrote.Removed at)) word tells held has = absurd (no-word _ has (ap (has_word (asks.Put v)) tells))
can-put k v (replies.Wrote (wrote.Absent at)) word tells held has = absurd (no-word _ has (ap (has_word (asks.Put v)) tells))
can-put k v (replies.Wrote (wrote.Full lack)) word tells held has = tt
can-put k v (replies.Value key value at) word tells held has = absurd (no-word _ has (ap (has_word (asks.Put v)) tells.1))
can-put k v (replies.Held at) word tells held has = absurd cc
can-put k v replies.Gone word tells held has = absurd tells
can-put k v replies.Unheld word tells held has = absurd tells
can-put k v (replies.Pairs pairs) word tells held has = absurd tells

pub can-get : (k : List ℕ) (y : Reply) (word : CellReply) → Tells k y word → is_held y ≡ false → has_word (asks.Get) word ≡ true → CanReply (Get k) y
can-get k (replies.Wrote (wrote.New at)) word tells held has = absurd (no-word _ has (ap (has_word (asks.Get)) tells))
can-get k (replies.Wrote (wrote.Over at)) word tells held has = absurd (no-word _ has (ap (has_word (asks.Get)) tells))
can-get k (replies.Wrote (wrote.Kept at)) word tells held has = absurd (no-word _ has (ap (has_word (asks.Get)) tells))
can-get k (replies.Wrote (wrote.Done at)) word tells held has = absurd (no-word _ has (ap (has_word (asks.Get)) tells))
can-get k (replies.Wrote (wrote.Removed at)) word tells held has = absurd (no-word _ has (ap (has_word (asks.Get)) tells))
can-get k (replies.Wrote (wrote.Absent at)) word tells held has = tt
can-get k (replies.Wrote (wrote.Full lack)) word tells held has = absurd tells
can-get k (replies.Value key value at) word tells held has = tt
can-get k (replies.Held at) word tells held has = absurd cc
can-get k replies.Gone word tells held has = absurd tells
can-get k replies.Unheld word tells held has = absurd tells
can-get k (replies.Pairs pairs) word tells held has = absurd tells

pub can-put_new : (k v : List ℕ) (y : Reply) (word : CellReply) → Tells k y word → is_held y ≡ false → has_word (asks.PutNew v) word ≡ true → CanReply (PutNew k v) y
can-put_new k v (replies.Wrote (wrote.New at)) word tells held has = tt
can-put_new k v (replies.Wrote (wrote.Over at)) word tells held has = absurd (no-word _ has (ap (has_word (asks.PutNew v)) tells))
can-put_new k v (replies.Wrote (wrote.Kept at)) word tells held has = tt
can-put_new k v (replies.Wrote (wrote.Done at)) word tells held has = absurd (no-word _ has (ap (has_word (asks.PutNew v)) tells))
can-put_new k v (replies.Wrote (wrote.Removed at)) word tells held has = absurd (no-word _ has (ap (has_word (asks.PutNew v)) tells))
can-put_new k v (replies.Wrote (wrote.Absent at)) word tells held has = absurd (no-word _ has (ap (has_word (asks.PutNew v)) tells))
can-put_new k v (replies.Wrote (wrote.Full lack)) word tells held has = tt
can-put_new k v (replies.Value key value at) word tells held has = absurd (no-word _ has (ap (has_word (asks.PutNew v)) tells.1))
can-put_new k v (replies.Held at) word tells held has = absurd cc
can-put_new k v replies.Gone word tells held has = absurd tells
can-put_new k v replies.Unheld word tells held has = absurd tells
can-put_new k v (replies.Pairs pairs) word tells held has = absurd tells

pub can-compute : (k : List ℕ) (r : RecipeKind) (n : ℕ) (y : Reply) (word : CellReply) → Tells k y word → is_held y ≡ false → has_word (asks.Compute r n) word ≡ true → CanReply (Compute k r n) y
can-compute k r n (replies.Wrote (wrote.New at)) word tells held has = absurd (no-word _ has (ap (has_word (asks.Compute r n)) tells))
can-compute k r n (replies.Wrote (wrote.Over at)) word tells held has = absurd (no-word _ has (ap (has_word (asks.Compute r n)) tells))
can-compute k r n (replies.Wrote (wrote.Kept at)) word tells held has = absurd (no-word _ has (ap (has_word (asks.Compute r n)) tells))
can-compute k r n (replies.Wrote (wrote.Done at)) word tells held has = tt
can-compute k r n (replies.Wrote (wrote.Removed at)) word tells held has = absurd (no-word _ has (ap (has_word (asks.Compute r n)) tells))
can-compute k r n (replies.Wrote (wrote.Absent at)) word tells held has = tt
can-compute k r n (replies.Wrote (wrote.Full lack)) word tells held has = absurd tells
can-compute k r n (replies.Value key value at) word tells held has = absurd (no-word _ has (ap (has_word (asks.Compute r n)) tells.1))
can-compute k r n (replies.Held at) word tells held has = absurd cc
can-compute k r n replies.Gone word tells held has = absurd tells
can-compute k r n replies.Unheld word tells held has = absurd tells
can-compute k r n (replies.Pairs pairs) word tells held has = absurd tells

pub can-upsert : (k v : List ℕ) (r : RecipeKind) (n : ℕ) (y : Reply) (word : CellReply) → Tells k y word → is_held y ≡ false → has_word (asks.Upsert v r n) word ≡ true → CanReply (Upsert k v r n) y
can-upsert k v r n (replies.Wrote (wrote.New at)) word tells held has = tt
can-upsert k v r n (replies.Wrote (wrote.Over at)) word tells held has = absurd (no-word _ has (ap (has_word (asks.Upsert v r n)) tells))
can-upsert k v r n (replies.Wrote (wrote.Kept at)) word tells held has = absurd (no-word _ has (ap (has_word (asks.Upsert v r n)) tells))
can-upsert k v r n (replies.Wrote (wrote.Done at)) word tells held has = tt
can-upsert k v r n (replies.Wrote (wrote.Removed at)) word tells held has = absurd (no-word _ has (ap (has_word (asks.Upsert v r n)) tells))
can-upsert k v r n (replies.Wrote (wrote.Absent at)) word tells held has = absurd (no-word _ has (ap (has_word (asks.Upsert v r n)) tells))
can-upsert k v r n (replies.Wrote (wrote.Full lack)) word tells held has = tt
can-upsert k v r n (replies.Value key value at) word tells held has = absurd (no-word _ has (ap (has_word (asks.Upsert v r n)) tells.1))
can-upsert k v r n (replies.Held at) word tells held has = absurd cc
can-upsert k v r n replies.Gone word tells held has = absurd tells
can-upsert k v r n replies.Unheld word tells held has = absurd tells
can-upsert k v r n (replies.Pairs pairs) word tells held has = absurd tells

pub can-remove : (k : List ℕ) (y : Reply) (word : CellReply) → Tells k y word → is_held y ≡ false → has_word (asks.Remove) word ≡ true → CanReply (Remove k) y
can-remove k (replies.Wrote (wrote.New at)) word tells held has = absurd (no-word _ has (ap (has_word (asks.Remove)) tells))
can-remove k (replies.Wrote (wrote.Over at)) word tells held has = absurd (no-word _ has (ap (has_word (asks.Remove)) tells))
can-remove k (replies.Wrote (wrote.Kept at)) word tells held has = absurd (no-word _ has (ap (has_word (asks.Remove)) tells))
can-remove k (replies.Wrote (wrote.Done at)) word tells held has = absurd (no-word _ has (ap (has_word (asks.Remove)) tells))
can-remove k (replies.Wrote (wrote.Removed at)) word tells held has = tt
can-remove k (replies.Wrote (wrote.Absent at)) word tells held has = tt
can-remove k (replies.Wrote (wrote.Full lack)) word tells held has = absurd tells
can-remove k (replies.Value key value at) word tells held has = absurd (no-word _ has (ap (has_word (asks.Remove)) tells.1))
can-remove k (replies.Held at) word tells held has = absurd cc
can-remove k replies.Gone word tells held has = absurd tells
can-remove k replies.Unheld word tells held has = absurd tells
can-remove k (replies.Pairs pairs) word tells held has = absurd tells

pub answered-push : (cs : List Call) (ys : List Reply) (c : Call) (y : Reply) → CallsAnswered cs ys → CanReply c y → CallsAnswered (cs ++ c ∷ []) (ys ++ y ∷ [])
answered-push [] [] c y a can = (can, tt)
answered-push [] (z ∷ zs) c y a can = absurd a
answered-push (b ∷ bs) [] c y a can = absurd a
answered-push (b ∷ bs) (z ∷ zs) c y a can = (a.0, answered-push bs zs c y a.1 can)
