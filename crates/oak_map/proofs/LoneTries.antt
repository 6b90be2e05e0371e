-- How often a call that puts tries, where its pass is alone: before it settles and behind that each, once where its chunk is full and once where that has an entry left.
use Rattle.std.proofs.Common.{◌≡◌, ℕ, ◌+◌, ◌<◌, ◌≤◌, ◌⊎◌, Bool, true, false, List, None, inl, inr, sym, refl, ap, ◌∙◌, subst, arith}
use mathlib.Core.Logic.{dite}
use native.Mathlib.Decide.{ℕ_discrete}
use Rattle.oak_model.specs.declared.replies.Lack.{Lack}
use Rattle.oak_model.specs.declared.replies.Lack.TheVariants.{Block, Header, Room}
use Rattle.oak_model.specs.KeyNumber.{key_number}
use Rattle.oak_model.specs.Limits.{Sizes}
use Rattle.chunk_core.specs.declared.holds.RoomCopy.{RoomCopy}
use Rattle.chunk_core.specs.LinkedEntries.{entries_in}
use Rattle.chunk_core.specs.Spans.{within}
use Rattle.oak_core.specs.declared.states.PassState.{PassState}
use Rattle.oak_core.specs.AloneWords.{LeavesWords, Runs, RunsTo}
use Rattle.oak_core.proofs.seats.AloneRuns.{runs_none}
use Rattle.point_ops.specs.declared.halts.Halt.{Halt}
use Rattle.point_ops.specs.declared.halts.Halt.TheVariants.{Busy, Moved, Crowded, NoBlock, NoHeader}
use Rattle.point_ops.specs.LonePuts.{LoneHalts}
use Rattle.rebalance.specs.Calls.{Loosens}
use Rattle.rebalance.specs.Copies.{copy_span}
use Rattle.rebalance.specs.LoneCalls.{Divided, RewritesRoom}
use Rattle.rebalance.specs.LoneWords.{IsOpen, room_in}
use Rattle.oak_map.specs.MakingRoom.{IsRefused, MakesWay}
use Rattle.oak_map.proofs.LoneRooms.{refused_leaves, room_there}
use Rattle.oak_map.proofs.LoneWays.{crowded_room, not_noted}
use Rattle.oak_map.proofs.SettledSplits.{half_left}
use Rattle.oak_map.proofs.WordsThrough.{halts_somewhere, runs_through, still_to}

-- each open room that has the key in its range has an entry left
abbrev pub HasLeft : Sizes → (key words : List ℕ) → Type 0
HasLeft z key words = (r : ℕ) → IsOpen z words r → within (copy_span (room_in z words r)) (key_number key) ≡ 1 → entries_in (room_in z words r).count < z.entries

-- how many tries it made at most until the chunk of its key was full
abbrev pub tries_before : Bool → ℕ
tries_before false = 0
tries_before true = 2

-- it made so many tries, and then the words are these
abbrev pub HasTried : Sizes → List ℕ → ℕ → Bool → List ℕ → List ℕ → Type 0
HasTried z key n settled before after = (n ≤ tries_before settled) ⊎ ((n ≤ tries_before settled + 1) × HasLeft z key after)

tries_few : (settled : Bool) → tries_before settled ≤ 2
tries_few true = let g : 2 ≤ 2 = omega arith in g
tries_few false = let g : 0 ≤ 2 = omega arith in g

-- so four are one too many
pub never_four : (z : Sizes) (key : List ℕ) (n : ℕ) (settled : Bool) (a b : List ℕ) → 4 ≤ n → HasTried z key n settled a b → ⊥
never_four z key n settled a b many (inl few) = let t = tries_few settled in absurd (omega arith)
never_four z key n settled a b many (inr few) = let t = tries_few settled in let f = few.0 in absurd (omega arith)

pub none_tried : (z : Sizes) (key : List ℕ) (u : PassState) → Runs (HasTried z key 0 false) u u
none_tried z key u = runs_none (HasTried z key 0 false) u (λ a. inl (let g : 0 ≤ 0 = omega arith in g))

-- the room of the key is not full where it has an entry left, so its chunk was not
few_where_full : (z : Sizes) (key value : List ℕ) (n : ℕ) (settled : Bool) (a b c : List ℕ) → HasTried z key n settled a b → LoneHalts Crowded z key value b c → n ≤ tries_before settled
few_where_full z key value n settled a b c (inl few) h = few
few_where_full z key value n settled a b c (inr few) h = let f = crowded_room z key value b b (room_there z key value b c h) in let l = few.1 f.room f.is_open f.covers in let e = f.full in absurd (omega arith)

-- any chunk with the key has an entry left, where it was compacted and had fewer with a value
module _ (z : Sizes) (call : ℕ) (key : List ℕ) (v w : PassState) (s : Loosens z call key v w) (c d : List ℕ) (r : Divided z (RewritesRoom z s.compacts.room s.compacts.held s.compacts.opened) c d) where
  loosened_left : HasLeft z key d
  loosened_left q o covers = dite (ℕ_discrete q s.compacts.room)
      (λ e. let f = ap (λ (k : ℕ). entries_in (room_in z d k).count) e in let g = ap (λ (x : RoomCopy). entries_in x.count) r.does.is in let n = s.compacts.rewrites.sorted.count in let l = s.fewer in omega arith)
      (λ ne. absurd (ne (r.divided.once (key_number key) q s.compacts.room (record { inside = o.inside; state = sym (r.does.leaves.states q (λ n. n)) ∙ o.state }) r.does.is_open
      (subst (λ (x : RoomCopy). within (copy_span x) (key_number key) ≡ 1) (r.does.leaves.words q ne) covers) (subst (λ (x : RoomCopy). within (copy_span x) (key_number key) ≡ 1) (sym r.does.was) s.compacts.rewrites.inside))))

-- it settles once
settled_then : (z : Sizes) (call : ℕ) (settled then : Bool) (lack : Lack) (w x : PassState) → IsRefused z call settled then lack None w x → (settled ≡ false) × (then ≡ true)
settled_then z call true then lack w x r = not_noted lack None refl (r.full refl).0
settled_then z call false then lack w x r = (refl, (r.again refl).1)

-- the call made n tries, the last of them, from v to w, was refused, and it made way until x
module _ (z : Sizes) (call : ℕ) (key value : List ℕ) (n : ℕ) (settled then : Bool) (u v w x : PassState) where
  -- where it settled
  tried_settled : (c : List ℕ) (m : ℕ) (lack : Lack) (y : PassState) → m ≤ 1 → IsRefused z call settled then lack None y x → LeavesWords c y → (a : List ℕ) → RunsTo (λ _ d. HasTried z key (m + 1) then a d) c x
  tried_settled c m lack y few r l a = let s = settled_then z call settled then lack y x r in let e = refused_leaves z call settled then lack None c y x r l in record {
    after = e.after;
    leaves = e.leaves;
    does = inl (subst (λ (b : Bool). m + 1 ≤ tries_before b) (sym s.1) (let g : m + 1 ≤ 2 = omega arith in g));
  }

  few_before : settled ≡ false → (a b : List ℕ) → HasTried z key n settled a b → n ≤ 1
  few_before e a b (inl few) = let f = subst (λ (s : Bool). n ≤ tries_before s) e few in let g : n ≤ 0 = f in omega arith
  few_before e a b (inr few) = let f = subst (λ (s : Bool). n ≤ tries_before s + 1) e few.0 in let g : n ≤ 0 + 1 = f in omega arith

  module _ (a b c : List ℕ) (l : LeavesWords c w) (p : HasTried z key n settled a b) where
    abbrev Goes : Type 0
    Goes = RunsTo (λ _ d. HasTried z key (n + 1) then a d) c x

    refused_on : (lack : Lack) → IsRefused z call settled then lack None w x → Goes
    refused_on lack r = tried_settled c n lack w (few_before (settled_then z call settled then lack w x r).0 a b p) r l a

    -- it made room
    left_on : LoneHalts Crowded z key value b c → then ≡ settled → (d : List ℕ) → HasLeft z key d → HasTried z key (n + 1) then a d
    left_on q same d left = inr (subst (λ (s : Bool). n + 1 ≤ tries_before s + 1) (sym same) (let f = few_where_full z key value n settled a b c p q in omega arith), left)

    pub tried_on : (halt : Halt) → MakesWay halt z call key settled then None w x → LoneHalts halt z key value b c → Goes
    tried_on Busy m q = absurd q.2
    tried_on Moved m q = absurd q.2
    tried_on (NoBlock k) m q = refused_on (Block k) m
    tried_on NoHeader m q = refused_on Header m
    tried_on Crowded (inl (again, inl g)) q = absurd (g.1.alone.goes c l).does
    tried_on Crowded (inl (again, inr (inl s))) q = let r = s.compacts.alone.goes c l in record { after = r.after; leaves = r.leaves; does = left_on q again.same r.after (loosened_left z call key w x s c r.after r.does) }
    tried_on Crowded (inl (again, inr (inr (room, t, h, o)))) q = let r = h.alone.goes c l in still_to (λ _ d. HasTried z key (n + 1) then a d) c t x (record {
      after = r.after;
      leaves = r.leaves;
      does = left_on q again.same r.after (half_left z call key room w t h c r.after r.does (let least = h.holds.step.told.rule.sizes.entries_least in omega arith));
    }) o.still
    tried_on Crowded (inr (t, f, r)) q = let d = f.compacts.alone.goes c l in let e = tried_settled d.after n Room t (few_before (settled_then z call settled then Room t x r).0 a b p) r d.leaves a in record { after = e.after; leaves = e.leaves; does = e.does }

  -- the law of the loop
  pub tried_more : (halt : Halt) → Runs (HasTried z key n settled) u v → Runs (LoneHalts halt z key value) v w → MakesWay halt z call key settled then None w x → Runs (HasTried z key (n + 1) then) u x
  tried_more halt tried halts way = runs_through (HasTried z key n settled) (LoneHalts halt z key value) (HasTried z key (n + 1) then) u v w x (halts_somewhere halt z key value)
      (λ a b c l p q. tried_on a b c l p halt way q) tried halts
