-- A chunk that a call held, rewrote and opened again.
use Rattle.std.proofs.Common.{◌≡◌, ℕ, ◌+◌, ◌<◌, List, ◌++◌, length, sym, ap, ◌∙◌, arith, append_assoc}
use Rattle.oak_model.specs.Key.{AreBytes, IsKey}
use Rattle.oak_model.specs.KeyNumber.{key_number}
use Rattle.oak_model.specs.Limits.{Sizes}
use Rattle.oak_model.proofs.Lists.{begins_length}
use Rattle.chunk_core.specs.declared.holds.MovingRange.{MovingRange}
use Rattle.chunk_core.specs.declared.holds.RoomCopy.{RoomCopy}
use Rattle.chunk_core.specs.declared.states.TheConstants.{HELD}
use Rattle.chunk_core.specs.KeyWords.{low_number, high_number}
use Rattle.chunk_core.specs.RoomStep.{hold_room, open_room}
use Rattle.chunk_core.specs.Spans.{within}
use Rattle.oak_core.specs.declared.sorting.SortSlot.{SortSlot}
use Rattle.oak_core.specs.declared.states.PassState.{PassState}
use Rattle.oak_core.specs.declared.states.Swept.{Swept}
use Rattle.oak_core.specs.AloneWords.{Runs}
use Rattle.oak_core.specs.PassState.{HoldsNothing}
use Rattle.oak_core.specs.Step.{on_rooms}
use Rattle.oak_core.proofs.calls.CallSteps.{step_since, step_until}
use Rattle.oak_core.proofs.memory.MetLists.{at_behind}
use Rattle.oak_core.specs.RoomLacks.{ClaimsFull, RoomLackFound}
use Rattle.oak_core.proofs.covers.FullClaims.{claims_none}
use Rattle.rebalance.specs.Calls.{ComesToHold, Compacts, FindsNoRoom, Leaves, Loosens, OpensWith, SweepsKey}
use Rattle.rebalance.specs.Copies.{copy_span}
use Rattle.rebalance.specs.Chunks.{CompactsFront, HoldsFor, OpensFront, WorksBeside}
use Rattle.rebalance.specs.HeldTables.{HoldsOnlyRooms}
use Rattle.rebalance.specs.LoneCalls.{AllOpen}
use Rattle.rebalance.specs.LoneWords.{LeavesBut, TakesRoom, held_by, no_room}
use Rattle.rebalance.proofs.ChunkLaws.{works_both, works_of_rooms}
use Rattle.rebalance.proofs.CompactCalls.{idle_only}
use Rattle.rebalance.proofs.CopyBases.{base_still}
use Rattle.rebalance.proofs.LoneChunks.{step_apart}
use Rattle.rebalance.proofs.LoneTakes.{bare_of, bare_still, front_or, lone_rewrites, taken_works}
use Rattle.rebalance.proofs.SweptRooms.{mirrors_valued}

-- a range that was swept in a later part of a call was swept in the call
pub sweeps_since : (call : ℕ) (key : List ℕ) (u v w : PassState) → WorksBeside call u v → SweepsKey key v w → SweepsKey key u w
sweeps_since call key u v w b s = let first : List Swept = b.swept.0 in record {
  more = first ++ s.more;
  swept = s.swept ∙ (ap (λ (l : List Swept). l ++ s.more) b.swept.1 ∙ append_assoc u.findings.swept first s.more);
  place = length first + s.place;
  range = s.range;
  there = at_behind first s.more s.place s.range s.there;
  from = let f = s.from in let m = b.met in let l = begins_length u.findings.met v.findings.met (m.more, m.met) in omega arith;
  to = s.to;
  inside = s.inside;
}

-- so a room came to be held
pub holds_until : (z : Sizes) (call r : ℕ) (w : RoomCopy) (u v e : PassState) → WorksBeside call v e → ComesToHold z call r w u v → ComesToHold z call r w u e
holds_until z call r w u v e b c = record { old = c.old; step = step_until z call (on_rooms (hold_room r c.old)) u v e b.met c.step; found_is = c.found_is; copy_is = c.copy_is; linked = c.linked }

-- and was opened
abbrev pub opens_since : (z : Sizes) (call r : ℕ) (w : RoomCopy) (u v e : PassState) → WorksBeside call u v → OpensWith z call r w v e → OpensWith z call r w u e
opens_since z call r w u v e b o = record { step = step_since z call (on_rooms (open_room r)) u v e b.met o.step; copy_is = o.copy_is }

-- a pass that has of rooms what it had did nothing else
pub leaves_rooms : (call : ℕ) (v e : PassState) → WorksBeside call v e → e.rooms ≡ v.rooms → Leaves call v e
leaves_rooms call v e b same = record {
  met = b.met;
  numbers = b.numbers;
  knowledge = b.knowledge;
  fulls = b.fulls;
  swept = b.swept;
  sights = b.sights;
  gones = b.gones;
  blocks = b.blocks;
  headers = b.headers;
  rooms = same;
}

-- what it has of rooms, where that is nothing but rooms that it holds
pub only_rooms : (v s : PassState) → HoldsOnlyRooms v → HoldsOnlyRooms s → record s.rooms { held = v.rooms.held; moving = v.rooms.moving } ≡ v.rooms
only_rooms v s a b = λ i. record { pin = (b.pin ∙ sym a.pin) i; claim = (b.claim ∙ sym a.claim) i; held = v.rooms.held; moving = v.rooms.moving }

-- a range with the same bounds has the same keys
pub same_keys : (w x : RoomCopy) (k : ℕ) → x.low ≡ w.low → x.high ≡ w.high → within (copy_span x) k ≡ within (copy_span w) k
same_keys w x k low high = λ i. within (record { low = low_number (low i); high = high_number (high i); base = 0 }) k

-- The call held nothing, and came to hold the chunk of the key. Between v and t it only met more, and left all words but those of that.
module _ (z : Sizes) (call r : ℕ) (key : List ℕ) (w : RoomCopy) (g : MovingRange) (v0 v : PassState) (idle : HoldsNothing v0) (is : IsKey key) (bytes : AreBytes key) (p : HoldsFor z call key r w g v0 v) (t s e : PassState) (between : WorksBeside call v t) (still : Runs (LeavesBut z no_room (held_by v)) v t)
    (dropped : ℕ) (xs : List SortSlot) (c : CompactsFront z call r dropped xs w v0.rooms.held v0.rooms.moving t s) (o : OpensFront z call r c.words v0.rooms.held v0.rooms.moving s e) where
  -- what the call did before it opened the chunk
  pub worked : WorksBeside call v0 s
  worked = works_both call v0 t s (works_both call v0 v t p.beside between) (works_of_rooms z call t s c.works)

  -- and since it held it
  pub since : WorksBeside call v e
  since = works_both call v s e (works_both call v t s between (works_of_rooms z call t s c.works)) o.beside

  -- the pass has nothing again
  pub rooms_back : e.rooms ≡ v0.rooms
  rooms_back = o.rooms ∙ only_rooms v0 s (idle_only v0 idle) c.front.only

  -- it took the chunk and worked on it
  pub worked_alone : Runs (TakesRoom z v0 r w) v0 s
  worked_alone = taken_works z v0 t s r w (λ q h. front_or v0 s r c.words c.front.held q (let e = c.works.states q HELD in omega arith)) (taken_works z v0 v t r w (front_or v0 v r w p.front.held) p.alone still) c.works.words

  -- it is compacted
  abbrev pub reopened : ClaimsFull z v0 e → Compacts z call key dropped v0 e
  reopened full = record {
    room = r;
    held = w;
    opened = c.words;
    rewrites = record {
      holds = holds_until z call r w v0 v e since p.came;
      inside = p.inside;
      opens = opens_since z call r c.words v0 s e worked o.opens;
      low = c.rewritten.low;
      high = c.rewritten.high;
      kept = c.rewritten.kept;
      linked = c.rewritten.linked;
      base = c.rewritten.base;
      sorted = c.rewritten.sorted;
      swept = sweeps_since call key v0 s e worked (o.sweeps (mirrors_valued z c.words c.range c.front.mirrors c.rewritten.linked c.has.valued) key is bytes (same_keys w c.words (key_number key) c.rewritten.low c.rewritten.high ∙ p.inside));
    };
    count_is = let a = c.count_is in let b = c.kept_is in omega arith;
    leaves = leaves_rooms call v0 e (works_both call v0 s e worked o.beside) rooms_back;
    claims = full;
    alone = lone_rewrites z v0 s e r w c.words p.front.inside (bare_of v0 idle) (bare_still v0 e (bare_of v0 idle) rooms_back) o.moment (step_apart z call (on_rooms (open_room r)) v0 e (opens_since z call r c.words v0 s e worked o.opens).step) worked_alone o.alone;
  }

  -- with fewer values than a room has entries
  pub loosened : length xs < z.entries → e.findings.rebalances.claims ≡ v0.findings.rebalances.claims → Loosens z call key v0 e
  loosened few none = record { dropped = dropped; compacts = reopened (claims_none z v0 e none); fewer = let a = c.kept_is in omega arith; unclaimed = none }

-- where none was dropped of as many values as a room has entries, and no other room was free
pub lacks_room : (z : Sizes) (call r : ℕ) (key : List ℕ) (w : RoomCopy) (g : MovingRange) (v0 v : PassState) (idle : HoldsNothing v0) (is : IsKey key) (bytes : AreBytes key) (p : HoldsFor z call key r w g v0 v) (t s e : PassState) (between : WorksBeside call v t) (still : Runs (LeavesBut z no_room (held_by v)) v t)
    (xs : List SortSlot) (c : CompactsFront z call r 0 xs w v0.rooms.held v0.rooms.moving t s) (o : OpensFront z call r c.words v0.rooms.held v0.rooms.moving s e) → length xs ≡ z.entries → RoomLackFound z (length v0.findings.met) (length e.findings.met) e.findings.met (key_number key) → ClaimsFull z v0 e → Runs (AllOpen z) v0 e → FindsNoRoom z call key v0 e
lacks_room z call r key w g v0 v idle is bytes p t s e between still xs c o all lacks claims all_open = record { compacts = reopened z call r key w g v0 v idle is bytes p t s e between still 0 xs c o claims; full = let k = c.kept_is in omega arith; base = c.rewritten.base ∙ base_still w (let n = c.count_is in let k = c.kept_is in omega arith); lacks = lacks; all_open = all_open }
