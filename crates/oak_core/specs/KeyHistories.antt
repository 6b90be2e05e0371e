-- The history of one key, as passes have seen it: which histories are legal, and what stands at their end. A key is given by its number.
use Rattle.std.specs.Prelude.{◌≡◌, ℕ, suc, ◌<◌, ◌==◌, ◌&&◌, nat_lt, cond, Bool, true, false, List, [], ◌∷◌, map, slice_index, Some, None, ⊤}
use Rattle.oak_model.specs.Counts.{one_at, total, Each, Has}
use Rattle.oak_model.specs.Key.{IsKey}
use Rattle.oak_model.specs.KeyNumber.{key_number}
use Rattle.oak_model.specs.State.{State}
use Rattle.oak_model.specs.History.{History, last_state, IsLegal}
use Rattle.chunk_core.specs.ValueWord.{names_header}
use Rattle.oak_core.specs.declared.states.KeyedWrite.{KeyedWrite}

-- the writes alone
abbrev pub writes_of : List KeyedWrite → History
writes_of h = map (λ (w : KeyedWrite). w.write) h

-- f of the last write, or d where there is none
unfoldable pub last_of : (KeyedWrite → ℕ) → ℕ → List KeyedWrite → ℕ
last_of f d [] = d
last_of f d (w ∷ ws) = last_of f (f w) ws

-- the state behind the last write
abbrev pub state_behind : List KeyedWrite → State
state_behind h = last_state (writes_of h)

-- the stamp of the last write, or 0
abbrev pub stamp_behind : List KeyedWrite → ℕ
stamp_behind h = last_of (λ w. w.write.stamp) 0 h

-- the value word of the life of the last write, or 0
abbrev pub home_behind : List KeyedWrite → ℕ
home_behind h = last_of (λ w. w.home) 0 h

-- the writes with a stamp below n
unfoldable pub before : ℕ → List KeyedWrite → List KeyedWrite
before n [] = []
before n (w ∷ ws) = cond (nat_lt w.write.stamp n) (w ∷ before n ws) (before n ws)

-- whether the state is that of no value
abbrev pub is_absent : State → Bool
is_absent None = true
is_absent (Some b) = false

-- Each write says whether it inserts. One that does names a header, and any other is of the life that it finds.
abbrev pub LivesFollow : State → ℕ → List KeyedWrite → Type 0
LivesFollow s home [] = ⊤
LivesFollow s home (w ∷ ws) = (w.inserts ≡ is_absent s) × (w.inserts ≡ true → names_header w.home ≡ 1) × (w.inserts ≡ false → w.home ≡ home) × LivesFollow w.write.after w.home ws

-- the bytes are those of a key, with this number
pub record IsKeyOf (k : ℕ) (key : List ℕ) : Type 0 where
  pub is_key : IsKey key
  pub bytes : (i : ℕ) → slice_index key i < 256
  pub number : key_number key ≡ k

-- the history of the key k is a legal one, of lives of headers
pub record IsKeyHistory (k : ℕ) (h : List KeyedWrite) : Type 0 where
  pub legal : IsLegal (writes_of h)
  pub lives : LivesFollow None 0 h
  pub keys : Each (λ (w : KeyedWrite). IsKeyOf k w.key) h

-- a write of the history removed the life, with the stamp
pub record IsRemovedAt (home stamp : ℕ) (h : List KeyedWrite) : Type 0 where
  pub write : KeyedWrite
  pub there : Has write h
  pub home_is : write.home ≡ home
  pub after : write.write.after ≡ None
  pub stamp_is : write.write.stamp ≡ stamp

-- with some stamp
abbrev pub IsRemoved : ℕ → List KeyedWrite → Type 0
IsRemoved home h = (stamp : ℕ) × IsRemovedAt home stamp h

-- the stamp of the removal of the life plus one, or 0 where it goes on
unfoldable pub removed_at : ℕ → List KeyedWrite → ℕ
removed_at home [] = 0
removed_at home (w ∷ ws) = cond ((w.home == home) && is_absent w.write.after) (suc w.write.stamp) (removed_at home ws)

-- how many writes of the history are of the life
abbrev pub homes_in : ℕ → List KeyedWrite → ℕ
homes_in v h = total (λ (w : KeyedWrite). one_at w.home v) h
