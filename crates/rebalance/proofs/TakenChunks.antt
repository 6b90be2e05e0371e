-- A chunk that a call takes, and opens again.
use Rattle.std.proofs.Common.{◌≡◌, ℕ, ◌+◌, ◌*◌, List, [], ◌∷◌, length, map, sym, refl, ap, ◌∙◌, subst, arith, Option, Some}
use Rattle.oak_model.specs.Counts.{Each, one_at, total}
use Rattle.oak_model.specs.Key.{AreBytes, IsKey}
use Rattle.oak_model.specs.KeyNumber.{key_number}
use Rattle.oak_model.specs.Limits.{Sizes}
use Rattle.oak_model.proofs.Counting.{one_at-other}
use Rattle.chunk_core.specs.declared.holds.Carried.{Carried}
use Rattle.chunk_core.specs.declared.holds.HeldRoom.{HeldRoom}
use Rattle.chunk_core.specs.declared.holds.MovingRange.{MovingRange}
use Rattle.chunk_core.specs.declared.holds.RoomCopy.{RoomCopy}
use Rattle.chunk_core.specs.declared.holds.RoomHolds.{RoomHolds}
use Rattle.chunk_core.specs.declared.states.TheConstants.{FROZEN, HELD}
use Rattle.chunk_core.specs.CoverSums.{is_in}
use Rattle.chunk_core.specs.Covers.{cover_from}
use Rattle.chunk_core.specs.KeyWords.{high_bytes, high_number, low_bytes, low_number}
use Rattle.chunk_core.specs.RoomRule.{room_state}
use Rattle.chunk_core.specs.RoomStep.{hold_room, open_room}
use Rattle.chunk_core.specs.Spans.{within}
use Rattle.chunk_core.specs.ValueWord.{names_header}
use Rattle.chunk_core.proofs.SpanLaws.{past-le}
use Rattle.chunk_ops.specs.LoneRooms.{HasElsewhere}
use Rattle.oak_core.specs.declared.sorting.SortSlot.{SortSlot}
use Rattle.oak_core.specs.declared.states.PassState.{PassState}
use Rattle.oak_core.specs.Lack.{IsBelow}
use Rattle.oak_core.specs.PassState.{HoldsNothing}
use Rattle.oak_core.specs.Step.{on_rooms}
use Rattle.oak_core.specs.Sweeping.{valueless}
use Rattle.oak_core.proofs.calls.CallSteps.{step_in, step_since, step_until}
use Rattle.rebalance.specs.declared.chunk_pairs.Taken.{Taken}
use Rattle.rebalance.specs.declared.reading.Read.{Read}
use Rattle.rebalance.specs.Calls.{ComesToHold, Leaves, OpensWith, Rewrites}
use Rattle.rebalance.specs.Copies.{copy_span}
use Rattle.rebalance.specs.Chunks.{CompactsFront, HoldsFor, HoldsFront, OpensFront, WorksBeside, ComesBack}
use Rattle.rebalance.specs.HeldRooms.{AllValued}
use Rattle.rebalance.specs.HeldTables.{Apart, IsHeldRow, WorksOnRooms}
use Rattle.rebalance.specs.Merging.{HoldsCompacted, SweepsUpTo, TakesChunk}
use Rattle.rebalance.specs.Mirrors.{copy_or, held_memory, range_span}
use Rattle.rebalance.proofs.ChunkLaws.{works_both, works_none, works_of_rooms}
use Rattle.rebalance.proofs.FrontLaws.{front_copy, opening_longer}
use Rattle.rebalance.proofs.LoneTakes.{front_or, taken_works}
use Rattle.rebalance.proofs.MirroredEntries.{each_of}
use Rattle.rebalance.proofs.SettledWords.{past_when}
use Rattle.rebalance.proofs.SweptKeys.{high_is_key, sweeps_since, swept_behind}
use Rattle.rebalance.proofs.SweptRooms.{mirrors_valued}

-- a pass that holds nothing
pub idle_compacted : (z : Sizes) (v : PassState) → HoldsNothing v → HoldsCompacted z v
idle_compacted z v idle = let n = idle.rooms in record {
  only = record { blocks = idle.blocks; headers = idle.headers; pin = ap (λ (a : RoomHolds). a.pin) n; claim = ap (λ (a : RoomHolds). a.claim) n };
  valued = subst (λ (a : RoomHolds). Each AllValued a.moving) (sym n) tt;
  rows = subst (λ (a : RoomHolds). Each (IsHeldRow z) a.held) (sym n) tt;
  apart = subst (λ (a : RoomHolds). Apart a.held) (sym n) tt;
}

-- a step by which the call came to hold a room, in a longer part of the call
pub held_in : (z : Sizes) (call r : ℕ) (w : RoomCopy) (u v t s : PassState) → WorksBeside call u v → WorksBeside call t s → ComesToHold z call r w v t → ComesToHold z call r w u s
held_in z call r w u v t s a b h = record { old = h.old; step = step_in z call (on_rooms (hold_room r h.old)) u v t s a.met b.met h.step; found_is = h.found_is; copy_is = h.copy_is; linked = h.linked }

-- and one by which it opened it
pub opens_since : (z : Sizes) (call r : ℕ) (w : RoomCopy) (u v t : PassState) → WorksBeside call u v → OpensWith z call r w v t → OpensWith z call r w u t
opens_since z call r w u v t a o = record { step = step_since z call (on_rooms (open_room r)) u v t a.met o.step; copy_is = o.copy_is }

-- the chunk is taken once it is held and compacted
pub taken : (z : Sizes) (call r : ℕ) (key : List ℕ) (w : RoomCopy) (g : MovingRange) (x : Read) (slots : List SortSlot) (v t u : PassState) → HoldsFor z call key r w g v t → CompactsFront z call r x.dropped slots w v.rooms.held v.rooms.moving t u → length slots ≡ x.kept → x.base ≡ (held_memory u.rooms.held).base r
    → TakesChunk z call key (record { room = r; kept = x.kept; base = x.base }) slots v u
taken z call r key w g x slots v t u p c many base = record {
  held = w;
  words = c.words;
  range = c.range;
  dropped = x.dropped;
  came = record { old = p.came.old; step = step_until z call (on_rooms (hold_room r p.came.old)) v t u c.works.stands.met p.came.step; found_is = p.came.found_is; copy_is = p.came.copy_is; linked = p.came.linked };
  inside = p.inside;
  beside = works_both call v t u p.beside (works_of_rooms z call t u c.works);
  claims = c.works.stands.claims ∙ p.claims;
  front = c.front;
  origin = c.origin g p.front.moving ∙ p.origin;
  rewritten = c.rewritten;
  kept_is = sym many ∙ c.kept_is;
  count_is = c.count_is ∙ ap (λ (n : ℕ). n + x.dropped) c.kept_is;
  many = many;
  base_is = base ∙ ap (λ (o : Option RoomCopy). (copy_or o).base) (front_copy z r c.words c.range v.rooms.held v.rooms.moving u c.front);
  has = c.has;
  filled = c.filled;
  named = c.named;
  alone = taken_works z v t u r w (front_or v t r w p.front.held) p.alone c.works.words;
}

-- the front room stays it while the pass works on words of its rooms
pub front_looked : (z : Sizes) (call r : ℕ) (w : RoomCopy) (g : MovingRange) (hs : List HeldRoom) (gs : List MovingRange) (v q : PassState) → HoldsFront z r w g hs gs v → WorksOnRooms z call v q → q.rooms ≡ v.rooms → HoldsFront z r w g hs gs q
front_looked z call r w g hs gs v q f works same = record {
  inside = f.inside;
  held = ap (λ (a : RoomHolds). a.held) same ∙ f.held;
  moving = ap (λ (a : RoomHolds). a.moving) same ∙ f.moving;
  apart = f.apart;
  only = record {
    blocks = works.blocks ∙ f.only.blocks;
    headers = works.headers ∙ f.only.headers;
    pin = works.pin ∙ f.only.pin;
    claim = works.claim ∙ f.only.claim;
  };
  whole = f.whole;
  mirrors = f.mirrors;
  moment = works.moment f.moment;
}

-- so it does where the pass came back to what it had of rooms
pub front_kept : (z : Sizes) (call r : ℕ) (w : RoomCopy) (g : MovingRange) (hs : List HeldRoom) (gs : List MovingRange) (v q : PassState) → HoldsFront z r w g hs gs v → ComesBack z call v q → HoldsFront z r w g hs gs q
front_kept z call r w g hs gs v q f back = record {
  inside = f.inside;
  held = ap (λ (a : RoomHolds). a.held) back.rooms ∙ f.held;
  moving = ap (λ (a : RoomHolds). a.moving) back.rooms ∙ f.moving;
  apart = f.apart;
  only = record {
    blocks = back.beside.blocks ∙ f.only.blocks;
    headers = back.beside.headers ∙ f.only.headers;
    pin = ap (λ (a : RoomHolds). a.pin) back.rooms ∙ f.only.pin;
    claim = ap (λ (a : RoomHolds). a.claim) back.rooms ∙ f.only.claim;
  };
  whole = f.whole;
  mirrors = f.mirrors;
  moment = back.ended;
}

-- The pass has the key at which the range of its one room ends elsewhere.
pub end_elsewhere : (z : Sizes) (r : ℕ) (w : RoomCopy) (g : MovingRange) (v : PassState) (k : ℕ) → HoldsFront z r w g [] [] v → high_number g.high ≡ k + 1 → HasElsewhere k v
unfolding total
end_elsewhere z r w g v k f ends = record {
  frozen = λ s. ap (λ (hs : List HeldRoom). total (λ (h : HeldRoom). one_at h.room s * one_at (room_state h.held_as) FROZEN) hs) f.held ∙ held_none s;
  moving = ap (λ (gs : List MovingRange). total (is_in k) (map cover_from gs)) f.moving ∙ outside;
}
  where
    held_none : (s : ℕ) → one_at r s * one_at HELD FROZEN + 0 ≡ 0
    held_none s = let n = one_at-other HELD FROZEN (λ e. absurd (omega arith)) in let t = ap (λ (m : ℕ). one_at r s * m) n in omega arith

    outside : within (range_span g) k + 0 ≡ 0
    outside = let p = past-le (low_number g.low) k in let q = past_when (high_number g.high) k (λ e. absurd (omega arith)) (omega arith) in omega arith

-- a room behind the front one is the front one again once that is opened
pub front_back : (z : Sizes) (call r s : ℕ) (w x : RoomCopy) (g h : MovingRange) (hs : List HeldRoom) (gs : List MovingRange) (v b d : PassState) → HoldsFront z r w g hs gs v → HoldsFront z s x h v.rooms.held v.rooms.moving b → OpensFront z call s x v.rooms.held v.rooms.moving b d → HoldsFront z r w g hs gs d
front_back z call r s w x g h hs gs v b d f n o = record {
  inside = f.inside;
  held = ap (λ (a : RoomHolds). a.held) o.rooms ∙ f.held;
  moving = ap (λ (a : RoomHolds). a.moving) o.rooms ∙ f.moving;
  apart = f.apart;
  only = record {
    blocks = o.beside.blocks ∙ n.only.blocks;
    headers = o.beside.headers ∙ n.only.headers;
    pin = ap (λ (a : RoomHolds). a.pin) o.rooms ∙ n.only.pin;
    claim = ap (λ (a : RoomHolds). a.claim) o.rooms ∙ n.only.claim;
  };
  whole = f.whole;
  mirrors = f.mirrors;
  moment = o.moment;
}

-- a pass whose last room was opened has no room
pub none_left : (z : Sizes) (call r : ℕ) (w : RoomCopy) (g : MovingRange) (v d u : PassState) → HoldsNothing v → HoldsFront z r w g [] [] d → OpensFront z call r w [] [] d u → u.rooms ≡ v.rooms
none_left z call r w g v d u idle f o = o.rooms ∙ ((λ i. record { pin = f.only.pin i; claim = f.only.claim i; held = []; moving = [] }) ∙ sym idle.rooms)

-- what a call leaves that came back to the rooms that it began with
pub leaves_of : (call : ℕ) (v u : PassState) → WorksBeside call v u → u.rooms ≡ v.rooms → Leaves call v u
leaves_of call v u b rooms = record { met = b.met; numbers = b.numbers; knowledge = b.knowledge; fulls = b.fulls; swept = b.swept; sights = b.sights; gones = b.gones; blocks = b.blocks; headers = b.headers; rooms = rooms }

-- The pass held nothing before it took the chunk.
module _ (z : Sizes) (call : ℕ) (key : List ℕ) (t : Taken) (slots : List SortSlot) (v a : PassState) (idle : HoldsNothing v) (take : TakesChunk z call key t slots v a) where
  -- so that is the one room that it has
  pub lone_front : HoldsFront z t.room take.words take.range [] [] a
  lone_front = subst (λ (h : RoomHolds). HoldsFront z t.room take.words take.range h.held h.moving a) idle.rooms take.front

  -- each of its entries has a value
  pub taken_valued : AllValued take.range
  taken_valued = each_of (λ (c : Carried). names_header c.value ≡ 1) take.range.carried take.has.valued

  pub lone_compacted : (q : PassState) → HoldsFront z t.room take.words take.range [] [] q → HoldsCompacted z q
  unfolding total
  lone_compacted q f = record {
    only = f.only;
    valued = subst (λ (gs : List MovingRange). Each AllValued gs) (sym f.moving) (taken_valued, tt);
    rows = subst (λ (hs : List HeldRoom). Each (IsHeldRow z) hs) (sym f.held) (f.whole, tt);
    apart = subst (λ (hs : List HeldRoom). Apart hs) (sym f.held) (refl, tt);
  }

  -- its words have the key in their range
  pub inside_still : within (copy_span take.words) (key_number key) ≡ 1
  inside_still = subst (λ (w : RoomCopy). within (copy_span w) (key_number key) ≡ 1) (λ i. record take.held { low = sym take.rewritten.low i; high = sym take.rewritten.high i }) take.inside

  -- the key at which the range ends is a key
  pub end_is_key : (h : List ℕ) → high_bytes take.words.high ≡ Some h → IsKey h
  end_is_key h is = high_is_key take.words key h take.front.mirrors.bounds.high_fits inside_still is

  -- It is opened again.
  module _ (d : PassState) (front : HoldsFront z t.room take.words take.range [] [] d) (beside : WorksBeside call a d) (u : PassState) (o : OpensFront z call t.room take.words [] [] d u) (bytes : AreBytes key) (is : IsKey key) where
    pub before : WorksBeside call v d
    before = works_both call v a d take.beside beside

    all : WorksBeside call v u
    all = works_both call v d u before o.beside

    pub none_lack : valueless take.words ≡ 0
    none_lack = mirrors_valued z take.words take.range take.front.mirrors take.rewritten.linked take.has.valued

    pub opened_leaves : Leaves call v u
    opened_leaves = leaves_of call v u all (none_left z call t.room take.words take.range v d u idle front o)

    -- with the words that it was taken with rewritten
    pub opened_rewrites : Rewrites z call key t.room take.held take.words v u × Leaves call v u
    opened_rewrites = (
      record {
        holds = held_in z call t.room take.held v v a u (works_none call v) (works_both call a d u beside o.beside) take.came;
        inside = take.inside;
        opens = opens_since z call t.room take.words v d u before o.opens;
        low = take.rewritten.low;
        high = take.rewritten.high;
        kept = take.rewritten.kept;
        linked = take.rewritten.linked;
        base = take.rewritten.base;
        sorted = take.rewritten.sorted;
        swept = sweeps_since call key v d u before.swept before.met (o.sweeps none_lack key is bytes inside_still);
      },
      opened_leaves,
    )

    pub opened_sweeps : (high : Option (List ℕ)) → high_bytes take.words.high ≡ high → SweepsUpTo key high v u
    opened_sweeps high end = record {
      swept = λ k k_is from to. sweeps_since call k v d u before.swept before.met (record {
        more = record { low = low_bytes take.words.low; high = high_bytes take.words.high; met = length d.findings.met } ∷ [];
        swept = o.swept none_lack;
        place = 0;
        range = record { low = low_bytes take.words.low; high = high_bytes take.words.high; met = length d.findings.met };
        there = refl;
        from = omega arith;
        to = opening_longer z call t.room d u o.opens.step;
        inside = swept_behind take.words (length d.findings.met) key k take.front.mirrors.bounds.low_fits bytes inside_still from (subst (λ (b : Option (List ℕ)). IsBelow b k) (sym end) to);
      });
      is_key = λ h e. end_is_key h (end ∙ e);
    }
