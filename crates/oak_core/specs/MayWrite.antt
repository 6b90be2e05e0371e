-- What the steps that write, and the one that unlinks, ask of their pass.
use Rattle.std.specs.Prelude.{◌≡◌, ◌≢◌, ℕ, ◌+◌, ◌^◌, ◌<◌, true, false, Some, None}
use Rattle.oak_model.specs.declared.writes.Kind.{Kind}
use Rattle.oak_model.specs.Counts.{Each, Has}
use Rattle.oak_model.specs.History.{IsWriteOn}
use Rattle.oak_model.specs.KeyNumber.{key_number}
use Rattle.header_core.specs.declared.holds.AtLock.{AtLock}
use Rattle.header_core.specs.declared.holds.HeaderHolds.{HeaderHolds}
use Rattle.header_core.specs.declared.holds.HeldAs.TheVariants.{Fresh, Locked, Buried}
use Rattle.header_core.specs.HeaderStep.{HeaderStep, unlock_header, mark_dead, take_back}
use Rattle.header_core.specs.declared.holds.HeldHeader.{HeldHeader}
use Rattle.chunk_core.specs.declared.holds.FoundEntry.{FoundEntry}
use Rattle.chunk_core.specs.declared.holds.PinnedRoom.{PinnedRoom}
use Rattle.chunk_core.specs.KeyWords.{key_bytes}
use Rattle.chunk_core.specs.MayOnRooms.{FindsEntry}
use Rattle.chunk_core.specs.PinnedRooms.{found_key}
use Rattle.chunk_core.specs.ValueWord.{names_header, header_in, generation_in}
use Rattle.oak_core.specs.declared.states.KeyedWrite.{KeyedWrite}
use Rattle.oak_core.specs.declared.states.PassState.{PassState}
use Rattle.oak_core.specs.KeyReads.{value_in, home_of}
use Rattle.oak_core.specs.MadeWrites.{held_header, insertion, over_write}

-- all writes of the pass are of earlier calls
abbrev pub IsNewCall : ℕ → PassState → Type 0
IsNewCall call v = (call < 2 ^ 32) × Each (λ (w : KeyedWrite). w.write.call < call) v.knowledge.mine

-- under a lock either nothing was changed, or the stamp was raised by one and a call of the kind makes the bytes that stand now
pub record MayUnlock (call : ℕ) (kind : Kind) (at : AtLock) (r : HeldHeader) (v : PassState) : Type 0 where
  pub still : r.stamp ≡ at.stamp → (r.place ≡ at.place) × (r.words ≡ at.words)
  pub next : r.stamp ≢ at.stamp → r.stamp ≡ at.stamp + 1
  pub new : r.stamp ≢ at.stamp → IsNewCall call v
  pub writes : r.stamp ≢ at.stamp → IsWriteOn (Some (value_in at.place at.words)) (over_write v.numbers.number call kind r).write

-- a locked header is marked dead with its stamp raised by one
pub record MayBury (call : ℕ) (at : AtLock) (r : HeldHeader) (v : PassState) : Type 0 where
  pub next : r.stamp ≡ at.stamp + 1
  pub new : IsNewCall call v

-- a fresh header may be set as the value of an entry that was found under a good pin
pub record MaySet (call r i old new : ℕ) (kind : Kind) (v : PassState) : Type 0 where
  pub pinned : PinnedRoom
  pub entry : FoundEntry
  pub finds : FindsEntry r i v.rooms pinned entry
  pub floor : names_header old ≡ 0
  pub names : names_header new ≡ 1
  pub home : new ≡ home_of (header_in new) (generation_in new)
  pub header : HeldHeader
  pub held : held_header (header_in new) v.headers.held ≡ Some header
  pub fresh : header.held_as ≡ Fresh
  pub generation : header.generation ≡ generation_in new
  pub next : header.stamp ≡ old + 1
  pub new_call : IsNewCall call v
  pub writes : IsWriteOn None (insertion v.numbers.number call kind (key_bytes entry.word entry.words) header).write

-- the entry was found under a good pin, the pass buries the header of its key, and x is the stamp of its removal
pub record MayUnlink (r i x : ℕ) (v : PassState) : Type 0 where
  pub pinned : PinnedRoom
  pub entry : FoundEntry
  pub finds : FindsEntry r i v.rooms pinned entry
  pub header : HeldHeader
  pub held : Has header v.headers.held
  pub buried : header.held_as ≡ Buried
  pub named : header.named ≡ true
  pub key : key_number header.key ≡ found_key entry
  pub stamp : x ≡ header.stamp

-- the pass has the header locked, as P says
pub record EndsLock (h : ℕ) (P : AtLock → HeldHeader → Type 0) (a : HeaderHolds) : Type 0 where
  pub header : HeldHeader
  pub held : held_header h a.held ≡ Some header
  pub at : AtLock
  pub locked : header.held_as ≡ Locked at
  pub may : P at header

-- the pass buries the header, and no entry names it any more
pub record IsUnnamed (h : ℕ) (a : HeaderHolds) : Type 0 where
  pub header : HeldHeader
  pub held : held_header h a.held ≡ Some header
  pub buried : header.held_as ≡ Buried
  pub unnamed : header.named ≡ false

-- a lock is ended by what makes a write of the call, or with nothing changed; a header is taken back once no entry names it
abbrev pub MayEnd : ℕ → HeaderStep → PassState → Type 0
MayEnd call (unlock_header h kind) v = EndsLock h (λ at r. MayUnlock call kind at r v) v.headers
MayEnd call (mark_dead h) v = EndsLock h (λ at r. MayBury call at r v) v.headers
MayEnd call (take_back h x) v = IsUnnamed h v.headers
MayEnd call _ v = Unit {0}
