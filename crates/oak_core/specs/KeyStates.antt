-- The state of a key: what its entry and its header's word say is what stands behind the last write of its history.
use Rattle.std.specs.Prelude.{◌≡◌, ℕ, ◌+◌, ◌*◌, ◌<◌, ◌≤◌, not, true, false, List, Some, None}
use Rattle.pin_word.specs.PinWord.{generation_of, state_of}
use Rattle.oak_model.specs.Limits.{Sizes}
use Rattle.oak_model.specs.Counts.{one_at, one_if, total}
use Rattle.oak_model.specs.KeyNumber.{key_number}
use Rattle.oak_model.specs.State.{State}
use Rattle.header_core.specs.declared.states.TheConstants.{LIVE, DEAD}
use Rattle.header_core.specs.declared.holds.AtLock.{AtLock}
use Rattle.header_core.specs.declared.holds.HeldAs.{HeldAs}
use Rattle.header_core.specs.declared.holds.HeldAs.TheVariants.{Owned, Fresh, Locked, Buried}
use Rattle.header_core.specs.declared.holds.HeldHeader.{HeldHeader}
use Rattle.header_core.specs.declared.holds.HeaderHolds.{HeaderHolds}
use Rattle.header_core.specs.Headers.{HeaderMemory}
use Rattle.header_core.specs.HeaderHolds.{held_state}
use Rattle.chunk_core.specs.ValueWord.{names_header, header_in, generation_in}
use Rattle.oak_core.specs.declared.states.KeyedWrite.{KeyedWrite}
use Rattle.oak_core.specs.KeyHistories.{state_behind, stamp_behind, home_behind, IsKeyOf, IsRemovedAt}
use Rattle.oak_core.specs.KeyReads.{value_in, home_of}

-- A header that the entry of a key names, and the key's history: the header is at the generation named, its life is the last one of the key, and while it is live, or dead, the key's last write is its own.
pub record IsHome (z : Sizes) (m : HeaderMemory) (shown : ℕ → State) (v : ℕ) (h : List KeyedWrite) : Type 0 where
  pub inside : header_in v < z.headers
  pub generation : generation_of (m.pin (header_in v)) ≡ generation_in v
  pub home : home_behind h ≡ v
  pub live : state_of (m.pin (header_in v)) ≡ LIVE → (state_behind h ≡ shown (header_in v)) × (stamp_behind h ≡ m.stamp (header_in v))
  pub dead : state_of (m.pin (header_in v)) ≡ DEAD → (state_behind h ≡ None) × (stamp_behind h ≡ m.stamp (header_in v))

-- The state of a key, where w is the value word plus one of its entry, or 0 for none, and base is that of its cover.
pub record KeyStands (z : Sizes) (m : HeaderMemory) (shown : ℕ → State) (base w : ℕ) (h : List KeyedWrite) : Type 0 where
  -- without an entry it is absent, and its stamps are at most the base
  pub none : w ≡ 0 → (state_behind h ≡ None) × (stamp_behind h ≤ base)
  -- with a floor it is absent, and its stamps are at most the floor
  pub floor : (f : ℕ) → w ≡ f + 1 → names_header f ≡ 0 → (state_behind h ≡ None) × (stamp_behind h ≤ f)
  -- else its entry names a header
  pub named : (v : ℕ) → w ≡ v + 1 → names_header v ≡ 1 → IsHome z m shown v h

-- a locked header is named by the entry of its key, whose state and last stamp are those at the lock
pub record IsLockOf (word : ℕ → ℕ) (hist : ℕ → List KeyedWrite) (at : AtLock) (r : HeldHeader) : Type 0 where
  pub named : word (key_number r.key) ≡ home_of r.header r.generation + 1
  pub flag : r.named ≡ true
  pub key : IsKeyOf (key_number r.key) r.key
  pub state : state_behind (hist (key_number r.key)) ≡ Some (value_in at.place at.words)
  pub stamp : stamp_behind (hist (key_number r.key)) ≡ at.stamp

-- a buried header has the stamp of the removal of its life, and is named by the entry of its key until that has a floor
pub record IsBurialOf (word : ℕ → ℕ) (hist : ℕ → List KeyedWrite) (r : HeldHeader) : Type 0 where
  pub named : r.named ≡ true → word (key_number r.key) ≡ home_of r.header r.generation + 1
  pub removed : IsRemovedAt (home_of r.header r.generation) r.stamp (hist (key_number r.key))

-- what a pass knows of the key of a header that it holds; an owned or a fresh one has none
abbrev pub HoldStands : (ℕ → ℕ) → (ℕ → List KeyedWrite) → HeldAs → HeldHeader → Type 0
HoldStands word hist Owned r = r.named ≡ false
HoldStands word hist Fresh r = r.named ≡ false
HoldStands word hist (Locked at) r = IsLockOf word hist at r
HoldStands word hist Buried r = IsBurialOf word hist r

-- how often the pass has the header dead, and named by no entry any more
abbrev pub unnamed : ℕ → HeaderHolds → ℕ
unnamed h a = total (λ (r : HeldHeader). one_at r.header h * one_at (held_state r.held_as) DEAD * one_if (not r.named)) a.held
