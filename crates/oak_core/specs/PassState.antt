-- What a pass has seen, done and holds.
use Rattle.std.specs.Prelude.{◌≡◌, ℕ, ◌+◌, ◌*◌, ◌<◌, ◌==◌, cond, Bool, true, false, nat_lt, ◌&&◌, List, [], ◌∷◌, ◌++◌, map, Option, Some, None}
use Rattle.std.specs.List.{list_all}
use Rattle.oak_model.specs.Counts.{one_at, total, below, Begins, longest}
use Rattle.oak_model.specs.KeyNumber.{key_number}
use Rattle.oak_model.specs.Kept.{KeptWord, renamed}
use Rattle.arena_core.specs.declared.blocks.HeldBlocks.{HeldBlocks}
use Rattle.arena_core.specs.HeldBlocks.{no_blocks, kept_of_blocks}
use Rattle.header_core.specs.declared.holds.HeaderHolds.{HeaderHolds}
use Rattle.header_core.specs.HeaderHolds.{no_headers, kept_of_headers}
use Rattle.chunk_core.specs.declared.holds.RoomHolds.{RoomHolds}
use Rattle.chunk_core.specs.KeptRooms.{kept_of_rooms}
use Rattle.chunk_core.specs.RoomHolds.{no_rooms}
use Rattle.oak_core.specs.declared.states.KeyedWrite.{KeyedWrite}
use Rattle.oak_core.specs.declared.states.Knowledge.{Knowledge}
use Rattle.oak_core.specs.declared.states.Findings.{Findings}
use Rattle.oak_core.specs.declared.states.Joined.{Joined}
use Rattle.oak_core.specs.declared.states.Numbers.{Numbers}
use Rattle.oak_core.specs.declared.states.PassState.{PassState}
use Rattle.oak_core.specs.Memory.{Spot, in_arena, in_headers, in_rooms}
use Rattle.oak_core.specs.Owners.{header_blocks}

abbrev pub blocks_of : PassState → HeldBlocks
blocks_of v = v.blocks

abbrev pub headers_held : PassState → HeaderHolds
headers_held v = v.headers

abbrev pub rooms_held : PassState → RoomHolds
rooms_held v = v.rooms

abbrev pub numbers_of : PassState → Numbers
numbers_of v = v.numbers

abbrev pub findings_of : PassState → Findings
findings_of v = v.findings

abbrev pub knowledge_of : PassState → Knowledge
knowledge_of v = v.knowledge

-- the words of the arena and of headers that no other pass may change, each with its number: those of its blocks, and with its headers, those of the headers' blocks and the place and stamp words
abbrev pub kept_with_headers : PassState → List (KeptWord Spot)
kept_with_headers v = renamed in_arena (kept_of_blocks (header_blocks v.headers.held)) ++ renamed in_headers (kept_of_headers v.headers.held)

abbrev pub kept_of : PassState → List (KeptWord Spot)
kept_of v = renamed in_arena (kept_of_blocks v.blocks.held) ++ kept_with_headers v

-- with those of rooms
abbrev pub kept_of_all : PassState → List (KeptWord Spot)
kept_of_all v = kept_of v ++ renamed in_rooms (kept_of_rooms v.rooms)

-- numbers

-- how often the number is the pass's own, or that of a pass joined into it
abbrev pub rooted : ℕ → Numbers → ℕ
rooted k n = cond n.spent 0 (one_at n.number k) + total (λ (j : Joined). one_at j.number k) n.joined

abbrev pub in_hand : ℕ → Option ℕ → ℕ
in_hand k None = 0
in_hand k (Some n) = one_at n k

-- how often the pass has the number
abbrev pub has_number : ℕ → Numbers → ℕ
has_number k n = rooted k n + in_hand k n.hand

-- positive where the pass split the number off, and has a smaller one
abbrev pub is_parent : ℕ → Numbers → ℕ
is_parent k n = below (λ m. rooted m n) k * total (λ (m : ℕ). one_at m k) n.made

-- how often the pass split the number off
abbrev pub splits_of : ℕ → Numbers → ℕ
splits_of k n = total (λ (m : ℕ). one_at m k) n.made

-- 0 and each number that it split off is the pass's own, or that of a pass joined into it
pub record IsAlone (v : PassState) : Type 0 where
  pub first : 0 < rooted 0 v.numbers
  pub others : (k : ℕ) → 0 < total (λ (m : ℕ). one_at m k) v.numbers.made → 0 < rooted k v.numbers

-- whether it is so
abbrev pub is_alone : Numbers → Bool
is_alone n = nat_lt 0 (rooted 0 n) && list_all (λ (k : ℕ). nat_lt 0 (rooted k n)) n.made

-- histories; a key is given by its number

unfoldable pub of_key : ℕ → List KeyedWrite → List KeyedWrite
of_key k [] = []
of_key k (w ∷ ws) = cond (key_number w.key == k) (w ∷ of_key k ws) (of_key k ws)

-- what the pass has seen of the key
abbrev pub seen_of : ℕ → Knowledge → List KeyedWrite
seen_of k q = longest (map (of_key k) q.seen)

-- the longest that any pass has seen
abbrev pub history : ℕ → List Knowledge → List KeyedWrite
history k qs = longest (map (seen_of k) qs)

-- all that the pass has seen the later one has seen too
abbrev pub Extends : PassState → PassState → Type 0
Extends v w = (k : ℕ) → Begins (seen_of k v.knowledge) (seen_of k w.knowledge)

-- the pass holds nothing
pub record HoldsNothing (v : PassState) : Type 0 where
  pub hand : v.numbers.hand ≡ None
  pub blocks : v.blocks ≡ no_blocks
  pub headers : v.headers ≡ no_headers
  pub rooms : v.rooms ≡ no_rooms

abbrev pub no_findings : Findings
no_findings = record { met = []; fulls = []; swept = []; sights = []; gones = []; rebalances = record { steps = []; claims = [] } }

-- a pass that has the number 0, and has seen, done and holds nothing
abbrev pub bare_state : PassState
bare_state = record {
  numbers = record { number = 0; spent = false; hand = None; made = []; joined = [] };
  findings = no_findings;
  knowledge = record { seen = []; heard = []; loaded = []; mine = [] };
  blocks = no_blocks;
  headers = no_headers;
  rooms = no_rooms;
}

-- a split: the new pass has the number in hand and a copy of what was seen, and nothing else

abbrev pub number_in : Option ℕ → ℕ
number_in None = 0
number_in (Some k) = k

abbrev pub left_state : PassState → PassState
left_state v = record v { numbers = record v.numbers { hand = None } }

abbrev pub right_state : PassState → PassState
right_state v = record bare_state { numbers = record bare_state.numbers { number = number_in v.numbers.hand }; knowledge = record { seen = v.knowledge.seen; heard = v.knowledge.heard; loaded = []; mine = [] } }

-- a join: of each key the longer is seen; what the other wrote, met and noted is kept under its number

abbrev pub joined_from : PassState → Joined
joined_from w = record { number = w.numbers.number; mine = w.knowledge.mine; findings = w.findings }

abbrev pub both_state : PassState → PassState → PassState
both_state v w = record v {
  numbers = record v.numbers { made = v.numbers.made ++ w.numbers.made; joined = v.numbers.joined ++ joined_from w ∷ w.numbers.joined };
  knowledge = record v.knowledge { seen = v.knowledge.seen ++ w.knowledge.seen; heard = v.knowledge.heard ++ w.knowledge.heard; loaded = v.knowledge.loaded ++ w.knowledge.loaded };
}

abbrev pub spent_state : PassState
spent_state = record bare_state { numbers = record bare_state.numbers { spent = true } }
