-- What a call that needs a present key leaves of the words, where it answers a pass that is alone: under the pin of the key's room, and with the pin undone.
use Rattle.std.proofs.Common.{◌≡◌, ℕ, ◌+◌, ◌-◌, ◌*◌, ◌/◌, ◌%◌, ◌^◌, ◌<◌, List, sym, ap, ◌∙◌, subst}
use Rattle.std.specs.Prelude.{bit_and}
use Rattle.std.specs.Int.{bit_at}
use Rattle.pin_word.specs.PinWord.{STATE, state_of, count_of}
use Rattle.oak_model.specs.declared.replies.Wrote.{Wrote}
use Rattle.oak_model.specs.declared.replies.Wrote.TheVariants.{New, Over, Kept, Done, Removed, Absent, Full}
use Rattle.oak_model.specs.Limits.{Sizes}
use Rattle.arena_core.specs.Arena.{at_bits}
use Rattle.arena_core.specs.ArenaStep.{bit_of}
use Rattle.arena_core.specs.Place.{block_in, class_in}
use Rattle.chunk_core.specs.declared.states.TheConstants.{OPEN}
use Rattle.chunk_core.specs.Rooms.{at_value}
use Rattle.header_core.specs.Headers.{at_pin, at_place, at_stamp}
use Rattle.header_core.specs.HeaderStep.{renewal}
use Rattle.oak_core.specs.declared.states.PassState.{PassState}
use Rattle.oak_core.specs.AloneWords.{Runs}
use Rattle.oak_core.specs.Memory.{Spot, in_arena, in_headers, in_rooms, memory, read}
use Rattle.oak_core.proofs.seats.AloneRuns.{Then, runs_as, runs_then}
use Rattle.chunk_ops.specs.declared.entries.Content.TheVariants.{Value}
use Rattle.chunk_ops.specs.declared.entries.EntryNo.{EntryNo}
use Rattle.chunk_ops.specs.Contents.{Says}
use Rattle.chunk_ops.specs.RoomPins.{AddsRoomPin, DropsRoomPin}
use Rattle.chunk_ops.proofs.PinSteps.{undone}
use Rattle.value_ops.specs.AloneLocks.{pin_in, place_in}
use Rattle.value_ops.specs.Locking.{may_lock}
use Rattle.point_ops.specs.LoneInserts.{KeepsBut}
use Rattle.point_ops.specs.LoneLeft.{ClearsBlockIn, IsOfValue, IsRemoved, KeyNames, LeavesBy, LeavesUnder, RemovesIn, RemovesKey, RewritesIn, RewritesKey}
use Rattle.point_ops.specs.LoneLives.{EntrySays}
use Rattle.point_ops.proofs.LoneKeys.{key_before}
use Rattle.point_ops.proofs.LonePins.{IsPinOf, around, keys_were, pinned, unpinned}
use Rattle.point_ops.proofs.LoneWords.{but_same}

-- ---- under the pin

-- the entry was found to name the header, in words that stay, and then the value was changed
module _ (z : Sizes) (r h g : ℕ) (i : EntryNo) (key : List ℕ) (v u w : PassState) (named : Runs (EntrySays i (Value h g) z r key) v u) where
  names_of : (a m : List ℕ) → EntrySays i (Value h g) z r key a m → KeyNames z r i h g key a
  names_of a m e = record { has = e.0.1; says = e.1 }

  pub rewrites_key : (at : ℕ) → Runs (RewritesIn z h at) u w → Runs (RewritesKey z r key at) v w
  rewrites_key at s = runs_as (Then (EntrySays i (Value h g) z r key) (RewritesIn z h at)) (RewritesKey z r key at) v w
      (λ a d t. record { i = i; h = h; g = g; names = names_of a t.0 t.1; rewrites = subst (λ (m : List ℕ). RewritesIn z h at m d) t.1.0.0 t.2 })
      (runs_then (EntrySays i (Value h g) z r key) (RewritesIn z h at) v u w named s)

  pub removes_key : (at : ℕ) → Runs (RemovesIn z r i.0 h g at) u w → Runs (RemovesKey z r key at) v w
  removes_key at s = runs_as (Then (EntrySays i (Value h g) z r key) (RemovesIn z r i.0 h g at)) (RemovesKey z r key at) v w
      (λ a d t. record { i = i; h = h; g = g; names = names_of a t.0 t.1; removes = subst (λ (m : List ℕ). RemovesIn z r i.0 h g at m d) t.1.0.0 t.2 })
      (runs_then (EntrySays i (Value h g) z r key) (RemovesIn z r i.0 h g at) v u w named s)

-- ---- with the pin undone

module _ (z : Sizes) (r : ℕ) (inside : r < z.chunks) (a b : List ℕ) (up : AddsRoomPin z r a b) where
  pub was : (p : Spot) → (IsPinOf r p → ⊥) → read (memory z b) p ≡ read (memory z a) p
  was p out = but_same z (IsPinOf r) a b (pinned z r inside a b up) p out

  pub place_was : (h : ℕ) → place_in z h b ≡ place_in z h a
  place_was h = was (in_headers (at_place h)) (λ e. e)

  pub names_were : (i : EntryNo) (h g : ℕ) (key : List ℕ) → KeyNames z r i h g key b → KeyNames z r i h g key a
  names_were i h g key n = record {
    has = key_before z r a b (keys_were z r inside a b up) i key n.has;
    says = subst (Says (Value h g)) (was (in_rooms (at_value r i.0)) (λ e. e)) n.says;
  }

  module _ (c d : List ℕ) (down : DropsRoomPin z r c d) where
    pub now : (p : Spot) → (IsPinOf r p → ⊥) → read (memory z d) p ≡ read (memory z c) p
    now p out = but_same z (IsPinOf r) c d (unpinned z r inside a b up c d down) p out

    pub rewrites_around : (h stamp : ℕ) → RewritesIn z h stamp b c → RewritesIn z h stamp a d
    rewrites_around h stamp s = record {
      but = subst (λ (p : ℕ). KeepsBut z (IsOfValue h p) a d) (place_was h) (around z r inside a b up c d down (IsOfValue h (place_in z h b)) (λ e. e) s.but);
      stamp = now (in_headers (at_stamp h)) (λ e. e) ∙ s.stamp;
    }

    pub bit_around : (class block : ℕ) → ClearsBlockIn z class block b c → ClearsBlockIn z class block a d
    bit_around class block s = let e : (memory z b).arena.bits class (block / 64) ≡ (memory z a).arena.bits class (block / 64) = was (in_arena (at_bits class (block / 64))) (λ x. x) in record {
      was = ap (λ (n : ℕ). bit_at n (block % 64)) (sym e) ∙ s.was;
      bits = now (in_arena (at_bits class (block / 64))) (λ x. x) ∙ (s.bits ∙ ap (λ (n : ℕ). bit_and n (2 ^ 64 - 1 - bit_of block)) e);
    }

    removes_around : (i h g stamp : ℕ) → RemovesIn z r i h g stamp b c → RemovesIn z r i h g stamp a d
    removes_around i h g stamp s = let pin : pin_in z h b ≡ pin_in z h a = was (in_headers (at_pin h)) (λ e. e) in record {
      but = subst (λ (p : ℕ). KeepsBut z (IsRemoved r i h p) a d) (place_was h) (around z r inside a b up c d down (IsRemoved r i h (place_in z h b)) (λ e. e) s.but);
      floor = now (in_rooms (at_value r i)) (λ e. e) ∙ s.floor;
      stamp = now (in_headers (at_stamp h)) (λ e. e) ∙ s.stamp;
      live = ap (λ (n : ℕ). may_lock n g) (sym pin) ∙ s.live;
      pin = now (in_headers (at_pin h)) (λ e. e) ∙ (s.pin ∙ ap (λ (n : ℕ). n + 2 * STATE + renewal g) pin);
      bit = bit_around (class_in (place_in z h a)) (block_in (place_in z h a)) (subst (λ (p : ℕ). ClearsBlockIn z (class_in p) (block_in p) b c) (place_was h) s.bit);
    }

    pub leaves_around : (x : Wrote) (key : List ℕ) → LeavesUnder x z r key b c → LeavesUnder x z r key a d
    leaves_around (New at) key s = absurd s
    leaves_around (Over at) key s = absurd s
    leaves_around (Kept at) key s = absurd s
    leaves_around (Done at) key s = record { i = s.i; h = s.h; g = s.g; names = names_were s.i s.h s.g key s.names; rewrites = rewrites_around s.h at s.rewrites }
    leaves_around (Removed at) key s = record { i = s.i; h = s.h; g = s.g; names = names_were s.i s.h s.g key s.names; removes = removes_around s.i.0 s.h s.g at s.removes }
    leaves_around (Absent at) key s = undone z r inside a b d (λ n. state_of n ≡ OPEN) (λ n. 0 < count_of n) up (subst (λ (ws : List ℕ). DropsRoomPin z r ws d) s down)
    leaves_around (Full lack) key s = absurd s

pub pinned_leaves : (z : Sizes) (r : ℕ) (key : List ℕ) (v u w x : PassState) → r < z.chunks → Runs (AddsRoomPin z r) v u → Runs (DropsRoomPin z r) w x → (y : Wrote) → Runs (LeavesUnder y z r key) u w → Runs (LeavesBy y z key) v x
pinned_leaves z r key v u w x inside up down y s = let Rest = Then (LeavesUnder y z r key) (DropsRoomPin z r) in runs_as (Then (AddsRoomPin z r) Rest) (LeavesBy y z key) v x
    (λ a d t. (r, (inside, t.1.0), leaves_around z r inside a t.0 t.1 t.2.0 d t.2.2 y key t.2.1))
    (runs_then (AddsRoomPin z r) Rest v u x up (runs_then (LeavesUnder y z r key) (DropsRoomPin z r) u w x s down))
