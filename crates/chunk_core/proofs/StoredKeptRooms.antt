-- The numbers that passes keep of rooms, behind a store to a room that one of them holds: its own copy has the new number, and nothing else changes.
use Rattle.std.proofs.Common.{◌≡◌, ◌≢◌, ℕ, zero, suc, ◌+◌, cond, List, [], ◌∷◌, ◌++◌, map, set, length, refl, sym, ap, ◌∙◌, subst, inr, arith, ⊎_elim, Option, Some, None}
use Rattle.std.specs.Prelude.{◌==◌, slice_index}
use mathlib.Core.Option.{some}
use lib.ListN.{get_elem?}
use lib.Seq.{set-set}
use Rattle.pin_word.specs.PinWord.{state_of}
use Rattle.oak_model.specs.Counts.{one_if, total, rows, Each}
use Rattle.oak_model.specs.Kept.{KeptWord, KeptNumbersStand, AreTrueTo, keeps}
use Rattle.oak_model.specs.Limits.{Sizes}
use Rattle.oak_model.proofs.Counting.{decided, one_at-le, total_append, total_at, total_set, total_two, total_zero}
use Rattle.oak_model.proofs.KeptLaws.{kept_put, kept_unkept}
use Rattle.oak_model.proofs.Lists.{at_map, at_set, at_unmap, each_append, set_there}
use Rattle.oak_model.proofs.RowLaws.{each_first, each_rest}
use Rattle.chunk_core.specs.declared.layout.TheConstants.{BOUND_WORDS}
use Rattle.chunk_core.specs.declared.states.TheConstants.{HELD}
use Rattle.chunk_core.specs.declared.holds.Claim.{Claim}
use Rattle.chunk_core.specs.declared.holds.EntryWords.{EntryWords}
use Rattle.chunk_core.specs.declared.holds.HeldRoom.{HeldRoom}
use Rattle.chunk_core.specs.declared.holds.MovingRange.{MovingRange}
use Rattle.chunk_core.specs.declared.holds.RoomCopy.{RoomCopy}
use Rattle.chunk_core.specs.declared.holds.RoomHeldAs.{RoomHeldAs}
use Rattle.chunk_core.specs.declared.holds.RoomHeldAs.TheVariants.{Frozen, Held}
use Rattle.chunk_core.specs.declared.holds.RoomHolds.{RoomHolds}
use Rattle.chunk_core.specs.CoverSums.{weight}
use Rattle.chunk_core.specs.KeptRooms.{kept_of_claim, kept_of_copy, kept_of_entries, kept_of_held, kept_of_rooms, kept_of_rooms_held}
use Rattle.chunk_core.specs.MayOnRooms.{IsRoomWord}
use Rattle.chunk_core.specs.RoomCopies.{copy_with, held_with, rooms_with}
use Rattle.chunk_core.specs.RoomHolds.{claims_on}
use Rattle.chunk_core.specs.RoomRule.{in_room_state, IsWholeHeld, RoomsStand}
use Rattle.chunk_core.specs.RoomStep.{put_room}
use Rattle.chunk_core.specs.Rooms.{part_at, RoomMemory, RoomSpot, at_high, at_low, read_room, room_at, same_room_spot}
use Rattle.chunk_core.proofs.RoomWords.{read_room-of}
use Rattle.chunk_core.proofs.StoredCopies.{else_true, rooms_true}
use Rattle.chunk_core.proofs.StoredRooms.{whole_with}
use Rattle.chunk_core.proofs.Claims.{claim_cover, unclaimed}
use Rattle.chunk_core.proofs.UnkeptRooms.{none_kept}
use Rattle.chunk_core.proofs.Weights.{is_so, weight_held}

-- how often a word is kept does not depend on the numbers

rows_keep : (q : RoomSpot) (s : ℕ → RoomSpot) (f g : ℕ → ℕ) (i n : ℕ) → keeps same_room_spot q (rows i n (λ k. record { spot = s k; number = f k })) ≡ keeps same_room_spot q (rows i n (λ k. record { spot = s k; number = g k }))
unfolding rows total
rows_keep q s f g i zero = refl
rows_keep q s f g i (suc n) = ap (λ (t : ℕ). one_if (same_room_spot (s i) q) + t) (rows_keep q s f g (suc i) n)

entries_keep : (q : RoomSpot) (r i : ℕ) (es ds : List EntryWords) → length es ≡ length ds → keeps same_room_spot q (kept_of_entries r i es) ≡ keeps same_room_spot q (kept_of_entries r i ds)
unfolding kept_of_entries total
entries_keep q r i [] [] l = refl
entries_keep q r i [] (d ∷ ds) l = absurd (omega arith)
entries_keep q r i (e ∷ es) [] l = absurd (omega arith)
entries_keep q r i (e ∷ es) (d ∷ ds) l = let t = entries_keep q r (suc i) es ds (omega arith) in omega arith

abbrev low_of : ℕ → RoomCopy → List (KeptWord RoomSpot)
low_of r w = rows 0 BOUND_WORDS (λ j. record { spot = at_low r j; number = slice_index w.low j })

abbrev high_of : ℕ → RoomCopy → List (KeptWord RoomSpot)
high_of r w = rows 0 BOUND_WORDS (λ j. record { spot = at_high r j; number = slice_index w.high j })

copies_keep : (q : RoomSpot) (r : ℕ) (w u : RoomCopy) → length w.entries ≡ length u.entries → keeps same_room_spot q (kept_of_copy r w) ≡ keeps same_room_spot q (kept_of_copy r u)
unfolding total
copies_keep q r w u l = let f = λ (t : KeptWord RoomSpot). one_if (same_room_spot t.spot q) in
    let low = rows_keep q (at_low r) (λ j. slice_index w.low j) (λ j. slice_index u.low j) 0 BOUND_WORDS in let high = rows_keep q (at_high r) (λ j. slice_index w.high j) (λ j. slice_index u.high j) 0 BOUND_WORDS in let e = entries_keep q r 0 w.entries u.entries l in
    let a = total_append f (low_of r w) (high_of r w ++ kept_of_entries r 0 w.entries) in let b = total_append f (high_of r w) (kept_of_entries r 0 w.entries) in
    let c = total_append f (low_of r u) (high_of r u ++ kept_of_entries r 0 u.entries) in let d = total_append f (high_of r u) (kept_of_entries r 0 u.entries) in omega arith

-- so a store leaves it
held_keep : (z : Sizes) (q p : RoomSpot) (x r : ℕ) (s : RoomHeldAs) → IsWholeHeld z s → keeps same_room_spot q (kept_of_held r (held_with p x s)) ≡ keeps same_room_spot q (kept_of_held r s)
held_keep z q p x r Frozen whole = refl
held_keep z q p x r (Held w) whole = copies_keep q r (copy_with p x w) w ((whole_with z p x w whole).entries ∙ sym whole.entries)

rooms_keep : (z : Sizes) (q p : RoomSpot) (x : ℕ) (hs : List HeldRoom) → Each (λ (h : HeldRoom). IsWholeHeld z h.held_as) hs → keeps same_room_spot q (kept_of_rooms_held (rooms_with p x hs)) ≡ keeps same_room_spot q (kept_of_rooms_held hs)
unfolding kept_of_rooms_held total
rooms_keep z q p x [] whole = refl
rooms_keep z q p x (h ∷ hs) whole = let f = λ (t : KeptWord RoomSpot). one_if (same_room_spot t.spot q) in let t = rooms_keep z q p x hs whole.1 in
    let a = total_append f (kept_of_held h.room (cond (h.room == room_at p) (held_with p x h.held_as) h.held_as)) (kept_of_rooms_held (rooms_with p x hs)) in let b = total_append f (kept_of_held h.room h.held_as) (kept_of_rooms_held hs) in
    let e : keeps same_room_spot q (kept_of_held h.room (cond (h.room == room_at p) (held_with p x h.held_as) h.held_as)) ≡ keeps same_room_spot q (kept_of_held h.room h.held_as) =
    decided h.room (room_at p) (λ d. keeps same_room_spot q (kept_of_held h.room (cond d (held_with p x h.held_as) h.held_as)) ≡ keeps same_room_spot q (kept_of_held h.room h.held_as)) (λ _. held_keep z q p x h.room h.held_as whole.0) (λ _. refl) in omega arith

-- A pass holds the room of the word p, which becomes x.
module _ (z : Sizes) (m : RoomMemory) (content : ℕ → List ℕ) (hs : List RoomHolds) (rule : RoomsStand z m content hs) (kept : KeptNumbersStand same_room_spot (read_room m) (map kept_of_rooms hs)) (seat : ℕ) (a : RoomHolds) (here : get_elem? hs seat ≡ some a)
    (p : RoomSpot) (x : ℕ) (word : IsRoomWord p x) (held : in_room_state (room_at p) HELD a ≡ 1) where
  abbrev ks : List (List (KeptWord RoomSpot))
  ks = map kept_of_rooms hs

  mine : get_elem? ks seat ≡ some (kept_of_rooms a)
  mine = at_map kept_of_rooms hs seat a here

  -- the room is no cover, and none of its entries is claimed
  pub aside : weight (m.pin (room_at p)) ≡ 0
  aside = weight_held (m.pin (room_at p)) (is_so z m content hs rule seat a here (room_at p) HELD (inr refl) (omega arith))

  free : (i j : ℕ) (u : RoomHolds) → get_elem? hs j ≡ some u → claims_on (room_at p) i u ≡ 0
  free i j u at = let t = total_at (claims_on (room_at p) i) hs j u at in let n = unclaimed z m content hs rule (room_at p) i (λ w. let a = aside in absurd (omega arith)) in omega arith

  -- no other pass keeps the word
  others_none : total (keeps same_room_spot p) (set ks seat []) ≡ 0
  unfolding total
  others_none = total_zero (keeps same_room_spot p) (set ks seat []) (λ j ws e. ⊎_elim (λ (t : (j ≡ seat) × ([] ≡ ws)). ap (keeps same_room_spot p) (sym t.1))
      (λ (t : (j ≢ seat) × (get_elem? ks j ≡ some ws)). let u = at_unmap kept_of_rooms hs j ws t.1 in ap (keeps same_room_spot p) (sym u.2) ∙ none_kept p u.0 (free (part_at p) j u.0 u.1) (unheld j u.0 t.0 u.1))
      (at_set ks seat j [] ws e))
    where
      unheld : (j : ℕ) (u : RoomHolds) → j ≢ seat → get_elem? hs j ≡ some u → in_room_state (room_at p) HELD u ≡ 0
      unheld j u ne at = let t = total_two (in_room_state (room_at p) HELD) hs j seat u a ne at here in let h = rule.held (room_at p) HELD (inr refl) in let o = one_at-le (state_of (m.pin (room_at p))) HELD in let y = held in omega arith

  -- what it keeps of a claim is of another room
  claim_true : (c : Option Claim) → a.claim ≡ c → AreTrueTo (read_room m) (kept_of_claim c) → AreTrueTo (read_room (put_room m p x)) (kept_of_claim c)
  claim_true None e t = tt
  claim_true (Some c) e t = else_true m p x c.room (λ s. let w = claim_cover z m content hs rule seat a c here e in let q = ap (λ (y : ℕ). weight (m.pin y)) s in let n = aside in absurd (omega arith)) (kept_of_claim (Some c)) (refl, (refl, (refl, tt))) t

  -- what the pass keeps then is true
  stored_true : AreTrueTo (read_room (put_room m p x)) (kept_of_claim a.claim ++ kept_of_rooms_held (rooms_with p x a.held))
  stored_true = let P : KeptWord RoomSpot → Type 0 = (λ (t : KeptWord RoomSpot). read_room m t.spot ≡ t.number) in let P' : KeptWord RoomSpot → Type 0 = (λ (t : KeptWord RoomSpot). read_room (put_room m p x) t.spot ≡ t.number) in
      let c = kept_of_claim a.claim in let h = kept_of_rooms_held a.held in let t = kept.true_to seat (kept_of_rooms a) mine in
      each_append P' c (kept_of_rooms_held (rooms_with p x a.held)) (claim_true a.claim refl (each_first P c h t)) (rooms_true z m p x word a.held (rule.passes seat a here).whole (each_rest P c h t))

  -- and no word more often
  stored_keep : (q : RoomSpot) → keeps same_room_spot q (kept_of_claim a.claim ++ kept_of_rooms_held (rooms_with p x a.held)) ≡ keeps same_room_spot q (kept_of_rooms a)
  stored_keep q = let f = λ (t : KeptWord RoomSpot). one_if (same_room_spot t.spot q) in let c = kept_of_claim a.claim in
      let t = total_append f c (kept_of_rooms_held (rooms_with p x a.held)) in let y = total_append f c (kept_of_rooms_held a.held) in let e = rooms_keep z q p x a.held (rule.passes seat a here).whole in omega arith

  -- so the numbers that passes keep of rooms stand behind the store
  pub store_kept : (moving : List MovingRange) → KeptNumbersStand same_room_spot (read_room (put_room m p x)) (set (map kept_of_rooms hs) seat (kept_of_rooms (record a { held = rooms_with p x a.held; moving = moving })))
  unfolding total
  store_kept moving = let read' = read_room (put_room m p x) in let ws : List (KeptWord RoomSpot) = kept_of_rooms (record a { held = rooms_with p x a.held; moving = moving }) in
      let bare = kept_put same_room_spot (read_room m) ks seat (kept_of_rooms a) [] mine tt (λ q. let o = kept.once q in omega arith) kept in
      subst (KeptNumbersStand same_room_spot read') (set-set ks seat [] ws)
      (kept_put same_room_spot read' (set ks seat []) seat [] ws (set_there ks seat (kept_of_rooms a) [] mine) stored_true
      (λ q. let t = total_set (keeps same_room_spot q) ks seat (kept_of_rooms a) [] mine in let o = kept.once q in let k = stored_keep q in omega arith)
      (kept_unkept same_room_spot (read_room m) read' p x (read_room-of _) (set ks seat []) others_none bare))
