-- A call that held the chunk of a key, compacted it and opened it again.
use Rattle.std.proofs.Common.{◌≡◌, ℕ, suc, ◌+◌, List, [], ◌∷◌, ◌++◌, length, sym, ap, ◌∙◌, subst, arith, append_assoc}
use lib.ListN.{get_elem?}
use mathlib.Core.Option.{some}
use Rattle.oak_model.specs.Key.{AreBytes, IsKey}
use Rattle.oak_model.specs.KeyNumber.{key_number}
use Rattle.oak_model.specs.Limits.{Sizes}
use Rattle.oak_model.specs.Counts.{Begins, Each}
use Rattle.oak_model.proofs.Lists.{begins_length}
use Rattle.chunk_core.specs.declared.holds.MovingRange.{MovingRange}
use Rattle.chunk_core.specs.declared.holds.RoomCopy.{RoomCopy}
use Rattle.chunk_core.specs.declared.holds.RoomHolds.{RoomHolds}
use Rattle.chunk_core.specs.KeyWords.{low_number, high_number}
use Rattle.chunk_core.specs.RoomStep.{hold_room, open_room}
use Rattle.chunk_core.specs.Spans.{within}
use Rattle.oak_core.specs.declared.sorting.SortSlot.{SortSlot}
use Rattle.oak_core.specs.declared.states.PassState.{PassState}
use Rattle.oak_core.specs.declared.states.Swept.{Swept}
use Rattle.oak_core.specs.CallSteps.{MetMore}
use Rattle.oak_core.specs.PassState.{HoldsNothing}
use Rattle.oak_core.specs.Step.{on_rooms}
use Rattle.oak_core.proofs.calls.CallSteps.{step_since, step_until}
use Rattle.oak_core.proofs.covers.FullClaims.{claims_none}
use Rattle.rebalance.specs.Calls.{ComesToHold, Compacts, Leaves, OpensWith, SweepsKey}
use Rattle.rebalance.specs.Copies.{copy_span}
use Rattle.rebalance.specs.Chunks.{CompactsFront, HoldsFor, OpensFront, WorksBeside}
use Rattle.rebalance.specs.HeldRooms.{AllValued}
use Rattle.rebalance.specs.HeldTables.{Apart, HoldsOnlyRooms, IsHeldRow}
use Rattle.rebalance.proofs.ChunkLaws.{works_both, works_of_rooms}
use Rattle.rebalance.proofs.LoneChunks.{step_apart}
use Rattle.rebalance.proofs.LoneTakes.{bare_of, bare_still, front_or, lone_rewrites, taken_works}
use Rattle.rebalance.proofs.SweptRooms.{mirrors_valued}

-- what stands in a list stands in a longer one, further on
pub at_behind : {A : Type 0} (xs ys : List A) (i : ℕ) (a : A) → get_elem? ys i ≡ some a → get_elem? (xs ++ ys) (length xs + i) ≡ some a
at_behind [] ys i a e = subst (λ (k : ℕ). get_elem? ys k ≡ some a) (let q : i ≡ 0 + i = omega arith in q) e
at_behind (x ∷ xs) ys i a e = subst (λ (k : ℕ). get_elem? (x ∷ (xs ++ ys)) k ≡ some a) (let q : suc (length xs + i) ≡ suc (length xs) + i = omega arith in q) (at_behind xs ys i a e)

-- the range is the same where the bounds are
pub same_span : (w x : RoomCopy) → x.low ≡ w.low → x.high ≡ w.high → (k : ℕ) → within (copy_span x) k ≡ within (copy_span w) k
same_span w x low high k = λ i. within (record { low = low_number (low i); high = high_number (high i); base = 0 }) k

-- what was swept in a later part of a call was swept in the call
pub sweeps_since : (call : ℕ) (key : List ℕ) (u v w : PassState) → Begins u.findings.swept v.findings.swept → MetMore call u v → SweepsKey key v w → SweepsKey key u w
sweeps_since call key u v w b m s = record {
  more = b.0 ++ s.more;
  swept = s.swept ∙ (ap (λ (l : List Swept). l ++ s.more) b.1 ∙ append_assoc u.findings.swept b.0 s.more);
  place = length b.0 + s.place;
  range = s.range;
  there = at_behind b.0 s.more s.place s.range s.there;
  from = let f = s.from in let l = begins_length u.findings.met v.findings.met (m.more, m.met) in omega arith;
  to = s.to;
  inside = s.inside;
}

-- a room that came to be held before was held in the call
pub held_until : (z : Sizes) (call r : ℕ) (w : RoomCopy) (v u t : PassState) → MetMore call u t → ComesToHold z call r w v u → ComesToHold z call r w v t
held_until z call r w v u t met c = record { old = c.old; step = step_until z call (on_rooms (hold_room r c.old)) v u t met c.step; found_is = c.found_is; copy_is = c.copy_is; linked = c.linked }

-- and one that is opened later is opened in it
pub opened_since : (z : Sizes) (call r : ℕ) (w : RoomCopy) (v u t : PassState) → MetMore call v u → OpensWith z call r w u t → OpensWith z call r w v t
opened_since z call r w v u t met o = record { step = step_since z call (on_rooms (open_room r)) v u t met o.step; copy_is = o.copy_is }

-- a pass that held nothing, and has no rooms again, has what it had
pub leaves_all : (call : ℕ) (v u : PassState) → HoldsNothing v → WorksBeside call v u → u.rooms ≡ v.rooms → Leaves call v u
leaves_all call v u idle b rooms = record { met = b.met; numbers = b.numbers; knowledge = b.knowledge; fulls = b.fulls; swept = b.swept; sights = b.sights; gones = b.gones; blocks = b.blocks; headers = b.headers; rooms = rooms }

-- it holds nothing but rooms
pub idle_only : (v : PassState) → HoldsNothing v → HoldsOnlyRooms v
idle_only v i = record { blocks = i.blocks; headers = i.headers; pin = ap (λ a. a.pin) i.rooms; claim = ap (λ a. a.claim) i.rooms }

module _ (z : Sizes) (call : ℕ) (key : List ℕ) (is_key : IsKey key) (bytes : AreBytes key) (r dropped : ℕ) (slots : List SortSlot) (w : RoomCopy) (g : MovingRange) (v u1 u2 u3 : PassState) (idle : HoldsNothing v) (f : HoldsFor z call key r w g v u1)
    (c : CompactsFront z call r dropped slots w v.rooms.held v.rooms.moving u1 u2) (o : OpensFront z call r c.words v.rooms.held v.rooms.moving u2 u3) where
  first : WorksBeside call v u2
  first = works_both call v u1 u2 f.beside (works_of_rooms z call u1 u2 c.works)

  all : WorksBeside call v u3
  all = works_both call v u2 u3 first o.beside

  rooms_back : u3.rooms ≡ v.rooms
  rooms_back = o.rooms ∙ (λ i. record { pin = (c.front.only.pin ∙ sym (ap (λ a. a.pin) idle.rooms)) i; claim = (c.front.only.claim ∙ sym (ap (λ a. a.claim) idle.rooms)) i; held = v.rooms.held; moving = v.rooms.moving })

  swept_key : SweepsKey key v u3
  swept_key = sweeps_since call key v u2 u3 first.swept first.met
      (o.sweeps (mirrors_valued z c.words c.range c.front.mirrors c.rewritten.linked c.has.valued) key is_key bytes (same_span w c.words c.rewritten.low c.rewritten.high (key_number key) ∙ f.inside))

  -- it claimed no room
  unclaimed : u3.findings.rebalances.claims ≡ v.findings.rebalances.claims
  unclaimed = o.claims ∙ (c.works.stands.claims ∙ f.claims)

  pub compacts_key : Compacts z call key dropped v u3
  compacts_key = record {
    room = r;
    held = w;
    opened = c.words;
    rewrites = record {
      holds = held_until z call r w v u1 u3 (works_both call u1 u2 u3 (works_of_rooms z call u1 u2 c.works) o.beside).met f.came;
      inside = f.inside;
      opens = opened_since z call r c.words v u2 u3 first.met o.opens;
      low = c.rewritten.low;
      high = c.rewritten.high;
      kept = c.rewritten.kept;
      linked = c.rewritten.linked;
      base = c.rewritten.base;
      sorted = c.rewritten.sorted;
      swept = swept_key;
    };
    count_is = let a = c.count_is in let b = c.kept_is in omega arith;
    leaves = leaves_all call v u3 idle all rooms_back;
    claims = claims_none z v u3 unclaimed;
    alone = lone_rewrites z v u2 u3 r w c.words f.front.inside (bare_of v idle) (bare_still v u3 (bare_of v idle) rooms_back) o.moment
        (step_apart z call (on_rooms (open_room r)) v u3 (opened_since z call r c.words v u2 u3 first.met o.opens).step) (taken_works z v u1 u2 r w (front_or v u1 r w f.front.held) f.alone c.works.words) o.alone;
  }

-- a pass that held nothing has no rooms behind the one that it came to hold
pub no_rows : (z : Sizes) (v : PassState) → HoldsNothing v → Each (IsHeldRow z) v.rooms.held
no_rows z v i = subst (λ (a : RoomHolds). Each (IsHeldRow z) a.held) (sym i.rooms) tt

pub no_several : (v : PassState) → HoldsNothing v → Apart v.rooms.held
no_several v i = subst (λ (a : RoomHolds). Apart a.held) (sym i.rooms) tt

pub no_ranges : (v : PassState) → HoldsNothing v → Each AllValued v.rooms.moving
no_ranges v i = subst (λ (a : RoomHolds). Each AllValued a.moving) (sym i.rooms) tt
