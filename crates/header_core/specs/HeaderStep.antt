-- The kinds of step on the words of the headers.
use Rattle.std.specs.Prelude.{◌≡◌, ℕ, ◌+◌, ◌-◌, ◌*◌, ◌%◌, ◌^◌, ◌<◌, ◌==◌, cond, true, false, List, [], ◌∷◌, map, Option, Some, None, slice_set}
use prog.Atomic.{either}
use Rattle.pin_word.specs.PinWord.{generation_of, STATE, HasNoPin}
use Rattle.oak_model.specs.declared.writes.Kind.{Kind}
use Rattle.header_core.specs.declared.states.TheConstants.{FREE, OWNED, LIVE, LOCKED, DEAD}
use Rattle.header_core.specs.declared.holds.HeldAs.{HeldAs}
use Rattle.header_core.specs.declared.holds.HeldAs.TheVariants.{Owned, Fresh, Locked, Buried}
use Rattle.header_core.specs.declared.holds.HeldHeader.{HeldHeader}
use Rattle.header_core.specs.declared.holds.HeaderHolds.{HeaderHolds}
use Rattle.header_core.specs.Headers.{HeaderMemory, HeaderSpot, at_pin, at_place, at_stamp, read_header, same_header_spot, headers_of}
use Rattle.header_core.specs.HeaderHolds.{pins_on, held_state, in_state, generation_held, without_header}

pub data HeaderStep : Type 0 where
  -- a free header without a pin, whose word is the second number, becomes owned
  claim_header : ℕ → ℕ → HeaderStep
  -- the place word of an owned header becomes x
  store_place : ℕ → ℕ → HeaderStep
  -- the stamp word of an owned or a locked header becomes x
  store_stamp : ℕ → ℕ → HeaderStep
  -- the place word of a locked header becomes x: it names the block that it named, or one that the pass holds, which is then exchanged for the old one
  change_place : ℕ → ℕ → HeaderStep
  -- an owned header becomes live: the pass has it fresh
  open_header : ℕ → HeaderStep
  -- one pin more on a header that is wanted at a generation
  pin_header : ℕ → ℕ → HeaderStep
  -- the pass's pin is undone
  unpin_header : ℕ → HeaderStep
  -- an owned or a fresh header becomes free
  release_header : ℕ → HeldAs → HeaderStep
  -- a live header without a pin, whose word is the second number, becomes locked
  lock_header : ℕ → ℕ → HeaderStep
  -- a locked header becomes live; where it was changed under the lock, this is a write of the kind
  unlock_header : ℕ → Kind → HeaderStep
  -- a locked header becomes dead: the pass buries it
  mark_dead : ℕ → HeaderStep
  -- x is added to the word of a buried header: it becomes free, or retired, at the next generation
  take_back : ℕ → ℕ → HeaderStep

abbrev pub header_spot : HeaderStep → HeaderSpot
header_spot (claim_header h old) = at_pin h
header_spot (store_place h x) = at_place h
header_spot (store_stamp h x) = at_stamp h
header_spot (change_place h x) = at_place h
header_spot (open_header h) = at_pin h
header_spot (pin_header h g) = at_pin h
header_spot (unpin_header h) = at_pin h
header_spot (release_header h s) = at_pin h
header_spot (lock_header h old) = at_pin h
header_spot (unlock_header h kind) = at_pin h
header_spot (mark_dead h) = at_pin h
header_spot (take_back h x) = at_pin h

-- what the word n becomes
abbrev pub header_effect : HeaderStep → ℕ → ℕ
header_effect (claim_header h old) n = either (n == old) (old + STATE) n
header_effect (store_place h x) n = x
header_effect (store_stamp h x) n = x
header_effect (change_place h x) n = x
header_effect (open_header h) n = (n + STATE) % 2 ^ 64
header_effect (pin_header h g) n = (n + 1) % 2 ^ 64
header_effect (unpin_header h) n = (n + (2 ^ 64 - 1)) % 2 ^ 64
header_effect (release_header h s) n = (n + (2 ^ 64 - held_state s * STATE)) % 2 ^ 64
header_effect (lock_header h old) n = either (n == old) (old + STATE) n
header_effect (unlock_header h kind) n = (n + (2 ^ 64 - STATE)) % 2 ^ 64
header_effect (mark_dead h) n = (n + STATE) % 2 ^ 64
header_effect (take_back h x) n = (n + x) % 2 ^ 64

-- the number that the step finds; a store finds none
abbrev pub header_found : HeaderStep → ℕ → Option ℕ
header_found (store_place h x) n = None
header_found (store_stamp h x) n = None
header_found (change_place h x) n = None
header_found _ n = Some n

-- a word of a free header without a pin, and of a live one

abbrev pub IsFreeWord : ℕ → Type 0
IsFreeWord w = HasNoPin FREE w

abbrev pub IsLiveWord : ℕ → Type 0
IsLiveWord w = HasNoPin LIVE w

-- what is added to the word of a dead header at the generation g, so that it is free at the next one, or retired where that is the last
abbrev pub renewal : ℕ → ℕ
renewal g = cond (g + 2 == 2 ^ 32) (2 ^ 32 + STATE) (2 ^ 32 - DEAD * STATE)

-- an owned header may be released, and a fresh one only by a pass that has no pin
abbrev pub MayRelease : HeldAs → HeaderHolds → Type 0
MayRelease Owned a = Unit {0}
MayRelease Fresh a = a.pin ≡ None
MayRelease (Locked at) a = ⊥
MayRelease Buried a = ⊥

-- what the step asks of what its pass holds of headers
abbrev pub MayHeader : HeaderStep → HeaderHolds → Type 0
MayHeader (claim_header h old) a = IsFreeWord old
MayHeader (store_place h x) a = (0 < in_state h OWNED a) × (x < 2 ^ 64)
MayHeader (store_stamp h x) a = (0 < in_state h OWNED a + in_state h LOCKED a) × (x < 2 ^ 64)
MayHeader (change_place h x) a = (0 < in_state h LOCKED a) × (x < 2 ^ 64)
MayHeader (open_header h) a = 0 < in_state h OWNED a
MayHeader (pin_header h g) a = a.pin ≡ None
MayHeader (unpin_header h) a = pins_on h a ≡ 1
MayHeader (release_header h s) a = (0 < in_state h (held_state s) a) × MayRelease s a
MayHeader (lock_header h old) a = IsLiveWord old
MayHeader (unlock_header h kind) a = 0 < in_state h LOCKED a
MayHeader (mark_dead h) a = 0 < in_state h LOCKED a
MayHeader (take_back h x) a = (0 < in_state h DEAD a) × (x ≡ renewal (generation_held h a.held))

-- the held headers, of which a step changed one

abbrev pub placed_at : ℕ → ℕ → List HeldHeader → List HeldHeader
placed_at h x rs = map (λ (r : HeldHeader). record r { place = cond (r.header == h) x r.place }) rs

abbrev pub stamped_at : ℕ → ℕ → List HeldHeader → List HeldHeader
stamped_at h x rs = map (λ (r : HeldHeader). record r { stamp = cond (r.header == h) x r.stamp }) rs

abbrev pub freshened : ℕ → List ℕ → List HeldHeader → List HeldHeader
freshened h words rs = map (λ (r : HeldHeader). record r { held_as = cond (r.header == h) Fresh r.held_as; words = cond (r.header == h) words r.words }) rs

abbrev pub changed_at : ℕ → ℕ → List ℕ → List HeldHeader → List HeldHeader
changed_at h x words rs = map (λ (r : HeldHeader). record r { place = cond (r.header == h) x r.place; words = cond (r.header == h) words r.words }) rs

-- word k of the header's block is x
abbrev pub reworded : ℕ → ℕ → ℕ → List HeldHeader → List HeldHeader
reworded h k x rs = map (λ (r : HeldHeader). record r { words = cond (r.header == h) (slice_set r.words k x) r.words }) rs

abbrev pub buried_at : ℕ → List HeldHeader → List HeldHeader
buried_at h rs = map (λ (r : HeldHeader). record r { held_as = cond (r.header == h) Buried r.held_as }) rs

abbrev pub owned_at : HeaderMemory → ℕ → HeldHeader
owned_at m h = record { header = h; generation = generation_of (m.pin h); held_as = Owned; key = []; named = false; place = m.place h; stamp = m.stamp h; words = [] }

abbrev pub locked_at : HeaderMemory → (ℕ → List ℕ) → ℕ → HeldHeader
locked_at m content h = record {
  header = h;
  generation = generation_of (m.pin h);
  held_as = Locked (record { place = m.place h; stamp = m.stamp h; words = content (m.place h) });
  key = [];
  named = true;
  place = m.place h;
  stamp = m.stamp h;
  words = content (m.place h);
}

-- what the pass holds of headers after the step
abbrev pub headers_after : HeaderMemory → (ℕ → List ℕ) → HeaderStep → HeaderHolds → HeaderHolds
headers_after m content (claim_header h old) a = record a { held = cond (m.pin h == old) (owned_at m h ∷ a.held) a.held }
headers_after m content (store_place h x) a = record a { held = placed_at h x a.held }
headers_after m content (store_stamp h x) a = record a { held = stamped_at h x a.held }
headers_after m content (change_place h x) a = record a { held = changed_at h x (content x) a.held }
headers_after m content (open_header h) a = record a { held = freshened h (content (m.place h)) a.held }
headers_after m content (pin_header h g) a = record a { pin = Some (record { header = h; wanted = g; found = m.pin h; place = m.place h; stamp = m.stamp h; words = content (m.place h) }) }
headers_after m content (unpin_header h) a = record a { pin = None }
headers_after m content (release_header h s) a = record a { held = without_header h a.held }
headers_after m content (lock_header h old) a = record a { held = cond (m.pin h == old) (locked_at m content h ∷ a.held) a.held }
headers_after m content (unlock_header h kind) a = record a { held = without_header h a.held }
headers_after m content (mark_dead h) a = record a { held = buried_at h a.held }
headers_after m content (take_back h x) a = record a { held = without_header h a.held }

-- the memory with x at one word
abbrev pub put_header : HeaderMemory → HeaderSpot → ℕ → HeaderMemory
put_header m p x = headers_of (λ q. cond (same_header_spot q p) x (read_header m q))
