-- What is added up over the covers, when a room changes and what passes hold.
use Rattle.std.proofs.Common.{◌≡◌, ◌≢◌, ℕ, ◌+◌, ◌*◌, ◌<◌, ◌≤◌, List, map, set, ◌∙◌, ap, arith}
use mathlib.Core.Option.{some}
use lib.ListN.{get_elem?}
use Rattle.pin_word.specs.PinWord.{state_of}
use Rattle.chunk_core.specs.declared.states.TheConstants.{OPEN, FROZEN}
use Rattle.chunk_core.specs.declared.holds.MovingRange.{MovingRange}
use Rattle.chunk_core.specs.declared.holds.RoomHolds.{RoomHolds}
use Rattle.oak_model.specs.Counts.{one_at, total, below}
use Rattle.oak_model.specs.Limits.{Sizes}
use Rattle.oak_model.proofs.Changes.{Change}
use Rattle.oak_model.proofs.Counting.{one_at-cases, one_at-other, one_at-le, total_at, total_map, below_at, below_same, below_add}
use Rattle.oak_model.proofs.Lists.{at_map, map_set_same}
use Rattle.oak_model.proofs.RowLaws.{total_le}
use Rattle.oak_model.proofs.SumLaws.{times_le, below_set, below_le, total_same, total_plus, times-one, times-none}
use Rattle.chunk_core.specs.CoverSums.{covers, each, weight, all_of}
use Rattle.chunk_core.specs.Covers.{Entry, Cover, cover_at, span_in, entry_at, cover_from, moving_of}
use Rattle.chunk_core.specs.LinkedEntries.{linked}
use Rattle.chunk_core.specs.Rooms.{RoomMemory}
use Rattle.chunk_core.specs.Spans.{Span}

-- what the moving ranges of a pass add
abbrev pub moves : (Cover → ℕ) → RoomHolds → ℕ
moves F a = total F (moving_of a)

pub covers_parts : (n : ℕ) (pin : ℕ → ℕ) (cover : ℕ → Cover) (hs : List RoomHolds) (F : Cover → ℕ) → covers n pin cover (map moving_of hs) F ≡ below (λ r. weight (pin r) * F (cover r)) n + total (moves F) hs
unfolding covers
covers_parts n pin cover hs F = ap (λ (t : ℕ). below (λ r. weight (pin r) * F (cover r)) n + t) (total_map moving_of (total F) hs)

-- what a room that is a cover adds is no more than all
pub room_le : (n : ℕ) (pin : ℕ → ℕ) (cover : ℕ → Cover) (ms : List (List Cover)) (F : Cover → ℕ) (r : ℕ) → r < n → weight (pin r) ≡ 1 → F (cover r) ≤ covers n pin cover ms F
unfolding covers
room_le n pin cover ms F r l w = let t = below_at (λ j. weight (pin j) * F (cover j)) n r l in let q = times-one (weight (pin r)) (F (cover r)) w in omega arith

-- nor is what a pass's ranges add
pub moves_le : (n : ℕ) (pin : ℕ → ℕ) (cover : ℕ → Cover) (hs : List RoomHolds) (F : Cover → ℕ) (seat : ℕ) (a : RoomHolds) → get_elem? hs seat ≡ some a → total F (moving_of a) ≤ covers n pin cover (map moving_of hs) F
moves_le n pin cover hs F seat a here = let p = covers_parts n pin cover hs F in let t = total_at (moves F) hs seat a here in omega arith

-- nor what one of them adds
pub range_le : (n : ℕ) (pin : ℕ → ℕ) (cover : ℕ → Cover) (hs : List RoomHolds) (F : Cover → ℕ) (seat : ℕ) (a : RoomHolds) → get_elem? hs seat ≡ some a
    → (i : ℕ) (g : MovingRange) → get_elem? a.moving i ≡ some g → F (cover_from g) ≤ covers n pin cover (map moving_of hs) F
range_le n pin cover hs F seat a here i g at = let l = moves_le n pin cover hs F seat a here in let t = total_at F (moving_of a) i (cover_from g) (at_map cover_from a.moving i g at) in omega arith

-- the one law: a room changes, and what some passes hold
pub covers_step : (n : ℕ) (pin pin' : ℕ → ℕ) (cover cover' : ℕ → Cover) (hs hs' gone fresh : List RoomHolds) (c : Change hs hs' gone fresh) (r : ℕ) (F : Cover → ℕ)
    → r < n → ((j : ℕ) → j ≢ r → pin' j ≡ pin j) → ((j : ℕ) → j ≢ r → cover' j ≡ cover j)
    → covers n pin' cover' (map moving_of hs') F + weight (pin r) * F (cover r) + total (moves F) gone ≡ covers n pin cover (map moving_of hs) F + weight (pin' r) * F (cover' r) + total (moves F) fresh
covers_step n pin pin' cover cover' hs hs' gone fresh c r F l pins same =
    let s = below_set (λ j. weight (pin' j) * F (cover' j)) (λ j. weight (pin j) * F (cover j)) n r l (λ j ne. ap (λ (t : ℕ × Cover). weight t.0 * F t.1) (λ i. (pins j ne i, same j ne i))) in
    let t = c.sums (moves F) in let a = covers_parts n pin cover hs F in let b = covers_parts n pin' cover' hs' F in omega arith

-- no room changes
pub covers_still : (n : ℕ) (pin : ℕ → ℕ) (cover : ℕ → Cover) (hs hs' gone fresh : List RoomHolds) (c : Change hs hs' gone fresh) (F : Cover → ℕ)
    → covers n pin cover (map moving_of hs') F + total (moves F) gone ≡ covers n pin cover (map moving_of hs) F + total (moves F) fresh
covers_still n pin cover hs hs' gone fresh c F = let t = c.sums (moves F) in let a = covers_parts n pin cover hs F in let b = covers_parts n pin cover hs' F in omega arith

-- all rooms have the same covers
pub covers_same : (n : ℕ) (pin pin' : ℕ → ℕ) (cover cover' : ℕ → Cover) (ms : List (List Cover)) (F : Cover → ℕ) → ((j : ℕ) → j < n → weight (pin' j) * F (cover' j) ≡ weight (pin j) * F (cover j)) → covers n pin' cover' ms F ≡ covers n pin cover ms F
unfolding covers
covers_same n pin pin' cover cover' ms F h = ap (λ (t : ℕ). t + total (total F) ms) (below_same (λ j. weight (pin' j) * F (cover' j)) (λ j. weight (pin j) * F (cover j)) n h)

-- nor does a pass's step that leaves its moving ranges, and of each room what it adds, change what is added up
pub all_still : (z : Sizes) (m m' : RoomMemory) (content content' : ℕ → List ℕ) (hs : List RoomHolds) (seat : ℕ) (a b : RoomHolds) → get_elem? hs seat ≡ some a → b.moving ≡ a.moving
    → (F : Cover → ℕ) → ((j : ℕ) → j < z.chunks → weight (m'.pin j) * F (cover_at m' content' j) ≡ weight (m.pin j) * F (cover_at m content j)) → all_of z m' content' (set hs seat b) F ≡ all_of z m content hs F
all_still z m m' content content' hs seat a b here moving F same = covers_same z.chunks m.pin m'.pin (cover_at m content) (cover_at m' content') (map moving_of (set hs seat b)) F same
    ∙ ap (λ (ms : List (List Cover)). covers z.chunks m.pin (cover_at m content) ms F) (map_set_same moving_of hs seat a b here (ap (map cover_from) moving))

pub covers_le : (n : ℕ) (pin : ℕ → ℕ) (cover : ℕ → Cover) (ms : List (List Cover)) (F G : Cover → ℕ) → ((c : Cover) → F c ≤ G c) → covers n pin cover ms F ≤ covers n pin cover ms G
unfolding covers
covers_le n pin cover ms F G h = let a = below_le (λ j. weight (pin j) * F (cover j)) (λ j. weight (pin j) * G (cover j)) n (λ j. times_le (weight (pin j)) (F (cover j)) (G (cover j)) (h (cover j))) in
    let b = total_le (total F) (total G) ms (λ gs. total_le F G gs h) in omega arith

pub weight-le : (w : ℕ) → weight w ≤ 1
weight-le w = one_at-cases (state_of w) OPEN (λ (i : ℕ). i + one_at (state_of w) FROZEN ≤ 1) (λ e. let o = one_at-other (state_of w) FROZEN (λ q. absurd (let p = e in omega arith)) in omega arith) (λ _. let o = one_at-le (state_of w) FROZEN in omega arith)

pub covers_plus : (n : ℕ) (pin : ℕ → ℕ) (cover : ℕ → Cover) (ms : List (List Cover)) (F G : Cover → ℕ) → covers n pin cover ms (λ c. F c + G c) ≡ covers n pin cover ms F + covers n pin cover ms G
unfolding covers
covers_plus n pin cover ms F G = let a = below_same (λ j. weight (pin j) * (F (cover j) + G (cover j))) (λ j. weight (pin j) * F (cover j) + weight (pin j) * G (cover j)) n (λ j _. times (weight (pin j)) (F (cover j)) (G (cover j))) in
    let b = below_add (λ j. weight (pin j) * F (cover j)) (λ j. weight (pin j) * G (cover j)) n in
    let c = total_same (total (λ c. F c + G c)) (λ (g : List Cover). total F g + total G g) ms (λ g. total_plus F G g) in let d = total_plus (total F) (total G) ms in omega arith
  where
    times : (w x y : ℕ) → w * (x + y) ≡ w * x + w * y
    times w x y = grind arith

pub each_plus : (f g : Span → Entry → ℕ) (c : Cover) → each (λ s x. f s x + g s x) c ≡ each f c + each g c
each_plus f g c = total_plus (f c.span) (g c.span) c.entries

-- a change of the room r, and of what passes hold
module _ (z : Sizes) (m m' : RoomMemory) (content : ℕ → List ℕ) (hs hs' gone fresh : List RoomHolds) (c : Change hs hs' gone fresh) (r : ℕ) (l : r < z.chunks) (pins : (j : ℕ) → j ≢ r → m'.pin j ≡ m.pin j) (same : (j : ℕ) → j ≢ r → cover_at m' content j ≡ cover_at m content j) where
  pub all_step : (F : Cover → ℕ) → all_of z m' content hs' F + weight (m.pin r) * F (cover_at m content r) + total (moves F) gone ≡ all_of z m content hs F + weight (m'.pin r) * F (cover_at m' content r) + total (moves F) fresh
  all_step F = covers_step z.chunks m.pin m'.pin (cover_at m content) (cover_at m' content) hs hs' gone fresh c r F l pins same

  -- the room is a cover before and after
  pub all_inside : weight (m.pin r) ≡ 1 → weight (m'.pin r) ≡ 1 → (F : Cover → ℕ) → all_of z m' content hs' F + F (cover_at m content r) + total (moves F) gone ≡ all_of z m content hs F + F (cover_at m' content r) + total (moves F) fresh
  all_inside e e' F = let s = all_step F in let x = times-one (weight (m.pin r)) (F (cover_at m content r)) e in let y = times-one (weight (m'.pin r)) (F (cover_at m' content r)) e' in omega arith

  -- it is one before
  pub all_out : weight (m.pin r) ≡ 1 → weight (m'.pin r) ≡ 0 → (F : Cover → ℕ) → all_of z m' content hs' F + F (cover_at m content r) + total (moves F) gone ≡ all_of z m content hs F + total (moves F) fresh
  all_out e e' F = let s = all_step F in let x = times-one (weight (m.pin r)) (F (cover_at m content r)) e in let y = times-none (weight (m'.pin r)) (F (cover_at m' content r)) e' in omega arith

  -- it is one afterwards
  pub all_in : weight (m.pin r) ≡ 0 → weight (m'.pin r) ≡ 1 → (F : Cover → ℕ) → all_of z m' content hs' F + total (moves F) gone ≡ all_of z m content hs F + F (cover_at m' content r) + total (moves F) fresh
  all_in e e' F = let s = all_step F in let x = times-none (weight (m.pin r)) (F (cover_at m content r)) e in let y = times-one (weight (m'.pin r)) (F (cover_at m' content r)) e' in omega arith

  -- it is none
  pub all_aside : weight (m.pin r) ≡ 0 → weight (m'.pin r) ≡ 0 → (F : Cover → ℕ) → all_of z m' content hs' F + total (moves F) gone ≡ all_of z m content hs F + total (moves F) fresh
  all_aside e e' F = let s = all_step F in let x = times-none (weight (m.pin r)) (F (cover_at m content r)) e in let y = times-none (weight (m'.pin r)) (F (cover_at m' content r)) e' in omega arith

-- what an entry of a room adds: the room's total over its linked entries
pub room_total : (m : RoomMemory) (content : ℕ → List ℕ) (r : ℕ) (f : Span → Entry → ℕ) → each f (cover_at m content r) ≡ total (λ i. f (span_in m r) (entry_at m content r i)) (linked m r)
room_total m content r f = total_map (entry_at m content r) (f (span_in m r)) (linked m r)
