-- What the counting asks of a table: who owns blocks and headers, and what the entries say of the keys. The rule gives it where the one pass holds nothing.
use Rattle.std.specs.Prelude.{◌≡◌, ℕ, ◌+◌, ◌^◌, ◌<◌, ◌≤◌, List, length, Some, None}
use mathlib.Core.Option.{some}
use lib.ListN.{get_elem?}
use Rattle.pin_word.specs.PinWord.{state_of, count_of}
use Rattle.oak_model.specs.declared.replies.Pair.{Pair}
use Rattle.oak_model.specs.Counts.{one_at, total, Every}
use Rattle.oak_model.specs.Key.{IsKey, AreBytes}
use Rattle.oak_model.specs.KeyNumber.{key_number}
use Rattle.oak_model.specs.Limits.{Sizes}
use Rattle.oak_model.specs.State.{State}
use Rattle.arena_core.specs.Arena.{blocks}
use Rattle.arena_core.specs.Place.{IsPlace, length_in}
use Rattle.header_core.specs.declared.states.TheConstants.{OWNED, LIVE, RETIRED}
use Rattle.header_core.specs.HeaderRule.{stocked}
use Rattle.header_core.specs.Headers.{HeaderMemory}
use Rattle.chunk_core.specs.Covers.{Entry}
use Rattle.chunk_core.specs.ValueWord.{header_in}
use Rattle.oak_core.specs.Owners.{other_owners}
use Rattle.lone_counts.specs.Counted.{bit_of}
use Rattle.lone_counts.specs.Entries.{valued, header_named, has_key_block, at_key}

-- how many owners a block has: the headers, and the entries
abbrev pub owners : Sizes → HeaderMemory → List Entry → ℕ → ℕ → ℕ
owners z m es c b = other_owners z m c b + total (has_key_block c b) es

-- one owner for each set bit; a block with an owner is one of the shape's
pub record BlocksOwned (z : Sizes) (bits : ℕ → ℕ → ℕ) (m : HeaderMemory) (es : List Entry) : Type 0 where
  pub small : (c i : ℕ) → bits c i < 2 ^ 64
  pub owned : (c b : ℕ) → bit_of (bits c) b ≡ owners z m es c b
  pub inside : (c b : ℕ) → blocks z c ≤ b → owners z m es c b ≡ 0

-- a header has no pin, and is free, live or retired; a live one is named by one entry
pub record HeadersStill (z : Sizes) (m : HeaderMemory) (es : List Entry) : Type 0 where
  pub unpinned : (h : ℕ) → count_of (m.pin h) ≡ 0
  pub six : (h : ℕ) → state_of (m.pin h) ≤ RETIRED
  pub unowned : (h : ℕ) → one_at (state_of (m.pin h)) OWNED ≡ 0
  pub still : (h : ℕ) → stocked (state_of (m.pin h)) ≡ one_at (state_of (m.pin h)) LIVE
  pub named : (h : ℕ) → total (header_named h) es ≡ one_at (state_of (m.pin h)) LIVE
  -- a header that an entry names is one of the shape's
  pub inside : Every (λ (e : Entry). valued e ≡ 1 → header_in e.value < z.headers) es

-- the key of an entry, and what it holds by the entry
pub record EntryStands (m : HeaderMemory) (state : List ℕ → State) (e : Entry) : Type 0 where
  pub key : List ℕ
  pub is_key : IsKey key
  pub bytes : AreBytes key
  pub number : e.key ≡ key_number key
  pub placed : IsPlace e.word
  pub long : length_in e.word ≡ length key
  pub floor : valued e ≡ 0 → state key ≡ None
  pub value : valued e ≡ 1 → (bytes : List ℕ) × (state key ≡ Some bytes) × (length_in (m.place (header_in e.value)) ≡ length bytes) × IsPlace (m.place (header_in e.value))

-- the entries say what each key holds
pub record EntriesStand (m : HeaderMemory) (es : List Entry) (state : List ℕ → State) : Type 0 where
  -- a key has at most one entry
  pub once : (k : ℕ) → total (at_key k) es ≤ 1
  pub each : Every (EntryStands m state) es
  -- a key without an entry is absent
  pub none : (q : List ℕ) → total (at_key (key_number q)) es ≡ 0 → state q ≡ None
  -- what is no key holds nothing
  pub keys : (q b : List ℕ) → state q ≡ Some b → IsKey q × AreBytes q

pub record TableStands (z : Sizes) (bits : ℕ → ℕ → ℕ) (m : HeaderMemory) (es : List Entry) (state : List ℕ → State) : Type 0 where
  pub blocks : BlocksOwned z bits m es
  pub headers : HeadersStill z m es
  pub entries : EntriesStand m es state

-- f of a pair of the map is g of the entry of its key
abbrev pub Agree : HeaderMemory → List Entry → (List ℕ → State) → (Pair → ℕ) → (Entry → ℕ) → Type 0
Agree m es state f g = (j : ℕ) (e : Entry) (p : Pair) → get_elem? es j ≡ some e → (t : EntryStands m state e) → valued e ≡ 1 → p.key ≡ t.key → state t.key ≡ Some p.value → f p ≡ g e
