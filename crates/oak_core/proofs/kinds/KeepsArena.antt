-- A step on the arena keeps the rule.
use Rattle.std.proofs.Common.{◌≡◌, ℕ, ◌-◌, ◌^◌, ◌<◌, false, List, map, get_or, set, sym, ◌∙◌, refl, subst, arith}
use Rattle.std.proofs.lemmas.Nat.{or_lt, and_le_l}
use mathlib.Core.Option.{some}
use lib.ListN.{get_elem?}
use Rattle.oak_model.specs.Limits.{Sizes}
use Rattle.oak_model.specs.Class.{class_number}
use Rattle.oak_model.specs.Kept.{KeptNumbersStand}
use Rattle.oak_model.proofs.Lists.{at_map, map_set, map_set_same}
use Rattle.arena_core.specs.declared.blocks.HeldBlocks.{HeldBlocks}
use Rattle.arena_core.specs.Arena.{read_arena, IsInArena, blocks}
use Rattle.arena_core.specs.Blocks.{BlocksAreOwned}
use Rattle.arena_core.specs.ArenaStep.{ArenaStep, take_bit, clear_bit, store_word, arena_spot, bit_of, arena_effect, MayArena, blocks_after, put_arena}
use Rattle.arena_core.proofs.ArenaSteps.{bit_of_below, arena_owned}
pub use Rattle.arena_core.proofs.PlaceLaws.{class_below}
use Rattle.chunk_core.specs.declared.holds.RoomHolds.{RoomHolds}
use Rattle.oak_core.specs.declared.states.PassState.{PassState}
use Rattle.oak_core.specs.Memory.{Memory, Spot, in_arena, same_spot, read, write, memory, index, IsInside}
use Rattle.oak_core.specs.Finding.{arena_finding}
use Rattle.oak_core.specs.PassState.{blocks_of, headers_held, rooms_held, knowledge_of, kept_of}
use Rattle.oak_core.specs.TableState.{TableState}
use Rattle.oak_core.specs.EntryOwners.{all_others}
use Rattle.oak_core.specs.Owners.{HeadersAreHeld}
use Rattle.oak_core.specs.Known.{known}
use Rattle.oak_core.specs.Rule.{Rule}
use Rattle.oak_core.specs.Step.{on_arena, state_after, table_after}
use Rattle.oak_core.proofs.memory.Words.{memory_read}
use Rattle.oak_core.proofs.owners.OwnerLaws.{live_inside}
use Rattle.oak_core.proofs.owners.HeaderSums.{headers_own}
use Rattle.oak_core.proofs.owners.EntryBlocks.{owned_whatever, rooms_on_arena, sums_on_arena}
use Rattle.oak_core.proofs.kinds.Keeps.{met_only, of_rooms, elsewhere_rule}
use Rattle.oak_core.proofs.owners.KeptWords.{kept_with}
use Rattle.oak_core.proofs.covers.RoomBundles.{RoomBundles}
use Rattle.oak_core.proofs.owners.KeptInArena.{arena_kept}
use Rattle.oak_core.proofs.owners.HeadersInArena.{headers_on_arena, shown_on_arena}
use Rattle.oak_core.proofs.keyed.KeyBundles.{keys_now, keys_idle, rooms_still}
use Rattle.oak_core.proofs.known.PinsKnown.{pins_same}

pub arena_inside : (z : Sizes) (x : ArenaStep) (a : HeldBlocks) → MayArena z x a → IsInArena z (arena_spot x)
arena_inside z (take_bit c b) a may = let k : b < blocks z (class_number c) = may in (class_below c, omega arith)
arena_inside z (clear_bit c b) a may = let k = may.inside in (class_below c, omega arith)
arena_inside z (store_word c b k x) a may = (class_below c, may.block.inside, may.word)

arena_small : (z : Sizes) (x : ArenaStep) (a : HeldBlocks) (n : ℕ) → MayArena z x a → n < 2 ^ 64 → arena_effect x n < 2 ^ 64
arena_small z (take_bit c b) a n may lt = or_lt 64 n (bit_of b) lt (bit_of_below b)
arena_small z (clear_bit c b) a n may lt = let h = and_le_l n (2 ^ 64 - 1 - bit_of b) in omega arith
arena_small z (store_word c b k x) a n may lt = may.small

module _ (z : Sizes) (s : TableState) (call seat : ℕ) (v : PassState) (r : Rule z s) (here : get_elem? s.states seat ≡ some v) (going : v.numbers.spent ≡ false) (x : ArenaStep) (may : MayArena z x v.blocks) where
  abbrev m : Memory
  m = memory z s.words

  abbrev p : Spot
  p = in_arena (arena_spot x)

  abbrev n : ℕ
  n = get_or s.words (index z p) 0

  abbrev y : ℕ
  y = arena_effect x n

  abbrev w : PassState
  w = state_after z call (on_arena x) s v

  inside : IsInside z p
  inside = arena_inside z x v.blocks may

  read_is : read_arena m.arena (arena_spot x) ≡ n
  read_is = memory_read z s.words p inside

  abbrev rs : List RoomHolds
  rs = map rooms_held s.states

  owned_before : BlocksAreOwned z (write m p y).arena.bits (all_others z m rs) (map blocks_of (set s.states seat w))
  owned_before = subst (BlocksAreOwned z (write m p y).arena.bits (all_others z m rs)) (sym (map_set blocks_of s.states seat w))
      (subst (λ (i : ℕ). BlocksAreOwned z (put_arena m.arena (arena_spot x) (arena_effect x i)).bits (all_others z m rs) (set (map blocks_of s.states) seat (blocks_after m.arena.bytes x i v.blocks))) read_is
      (arena_owned z m.arena (all_others z m rs) (map blocks_of s.states) seat v.blocks (at_map blocks_of s.states seat v here) r.blocks x may))

  owned_after : BlocksAreOwned z (write m p y).arena.bits (all_others z (write m p y) (map rooms_held (set s.states seat w))) (map blocks_of (set s.states seat w))
  owned_after = of_rooms z s call seat v r here going w refl (λ (hs : List RoomHolds). BlocksAreOwned z (write m p y).arena.bits (all_others z (write m p y) hs) (map blocks_of (set s.states seat w))) (owned_whatever z m (arena_spot x) y rs (write m p y).arena.bits (map blocks_of (set s.states seat w)) owned_before)

  abbrev knows : ℕ → ℕ → ℕ
  knows = known (map knowledge_of s.states)

  headers_after_it : HeadersAreHeld m.headers (write m p y).arena.bytes knows (map headers_held (set s.states seat w))
  headers_after_it = subst (HeadersAreHeld m.headers (write m p y).arena.bytes knows) (sym (map_set_same headers_held s.states seat v w here refl))
      (headers_on_arena z m s.states seat v here r.blocks knows r.headers (live_inside z s.words) x y may)

  kept_after : KeptNumbersStand same_spot (read (write m p y)) (map kept_of (set s.states seat w))
  kept_after = subst (KeptNumbersStand same_spot (read (write m p y))) (sym (map_set kept_of s.states seat w))
      (subst (λ (i : ℕ). KeptNumbersStand same_spot (read (write m p (arena_effect x i))) (set (map kept_of s.states) seat (kept_with (blocks_after m.arena.bytes x i v.blocks) v.headers))) read_is
      (arena_kept z m (all_others z m rs) s.states seat v here r.blocks (λ c b. let o = headers_own z s r c b in omega arith) r.kept x may))

  pub arena_keeps : Rule z (table_after z call (on_arena x) seat v s)
  arena_keeps = elsewhere_rule z s call seat v r here going (on_arena x) (arena_finding z call x n s.words v) inside (arena_small z x v.blocks n may (r.words.small (index z p))) refl refl (met_only _ _) refl refl owned_after headers_after_it (of_rooms z s call seat v r here going w refl (RoomBundles z m.rooms (write m p y).arena.bytes) (rooms_on_arena z s seat v r here x y may))
      (keys_idle z m (write m p y) s.states seat v w here (keys_now z s r) (λ F. rooms_still z (write m p y) s.states seat v w here refl F ∙ sums_on_arena z s seat v r here x y may F) refl refl refl refl (shown_on_arena z m s.states seat v here r.blocks knows r.headers (live_inside z s.words) x y may) (pins_same v w refl refl (r.heard.pins seat v here))) kept_after (r.passes seat v here)
