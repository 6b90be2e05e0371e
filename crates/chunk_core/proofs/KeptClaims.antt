-- The numbers that passes keep of the words of rooms, behind the steps that claim an entry, store to its words, and link it.
use Rattle.std.proofs.Common.{◌≡◌, ℕ, ◌+◌, ◌<◌, ◌≤◌, cond, List, ◌++◌, map, set, refl, sym, ap, ◌∙◌, subst, inr, arith, Option, Some, None}
use mathlib.Core.Logic.{dite}
use mathlib.Core.Option.{some}
use native.Mathlib.Decide.{ℕ_discrete}
use lib.ListN.{get_elem?}
use Rattle.pin_word.specs.PinWord.{state_of}
use Rattle.oak_model.specs.Counts.{one_at, one_if, total}
use Rattle.oak_model.specs.Kept.{KeptWord, KeptNumbersStand, AreTrueTo, keeps, restored}
use Rattle.oak_model.specs.Limits.{Sizes}
use Rattle.oak_model.proofs.Counting.{one_at-cases, one_if_le, total_append, total_at, total_map, total_zero, test-cases}
use Rattle.oak_model.proofs.KeptLaws.{kept_put, kept_unkept, kept_own-put, now_true, same_spots}
use Rattle.oak_model.proofs.Lists.{at_map, each_append}
use Rattle.oak_model.proofs.RowLaws.{each_rest}
use Rattle.chunk_core.specs.declared.states.TheConstants.{HELD}
use Rattle.chunk_core.specs.declared.holds.Claim.{Claim}
use Rattle.chunk_core.specs.declared.holds.PinnedRoom.{PinnedRoom}
use Rattle.chunk_core.specs.declared.holds.RoomHolds.{RoomHolds}
use Rattle.chunk_core.specs.CoverSums.{weight}
use Rattle.chunk_core.specs.KeptRooms.{kept_of_claim, kept_of_rooms, kept_of_rooms_held}
use Rattle.chunk_core.specs.RoomCopies.{claim_with, claim_after, stays_claimed}
use Rattle.chunk_core.specs.RoomHolds.{claims_on}
use Rattle.chunk_core.specs.RoomReads.{claimed_at}
use Rattle.chunk_core.specs.RoomRule.{in_room_state, RoomsStand}
use Rattle.chunk_core.specs.LinkWords.{link_spot}
use Rattle.chunk_core.specs.RoomStep.{EntryField, of_key, of_value, of_next, entry_spot, put_room}
use Rattle.chunk_core.specs.Rooms.{RoomMemory, RoomSpot, at_room_pin, at_base, at_count, at_latch, at_first, at_low, at_high, at_key, at_value, at_next, read_room, room_at, part_at, same_room_spot}
use Rattle.chunk_core.proofs.Claims.{claim_else, claim_away}
use Rattle.chunk_core.proofs.KeptRoomWords.{claim_restored, restored_unkept}
use Rattle.chunk_core.proofs.ChainLinks.{IsReachedFrom}
use Rattle.chunk_core.proofs.RoomWords.{read_room-of, same_room_spot-self}
use Rattle.chunk_core.proofs.UnkeptRooms.{claim_none, none_kept, field_kept}
use Rattle.chunk_core.proofs.Weights.{weight_held}

keeps_parts : (q : RoomSpot) (l : Option Claim) (a : RoomHolds) → keeps same_room_spot q (kept_of_claim l ++ kept_of_rooms_held a.held) ≡ keeps same_room_spot q (kept_of_claim l) + keeps same_room_spot q (kept_of_rooms_held a.held)
keeps_parts q l a = total_append (λ (w : KeptWord RoomSpot). one_if (same_room_spot w.spot q)) (kept_of_claim l) (kept_of_rooms_held a.held)

-- a claim keeps no word twice
claim_most : (q : RoomSpot) (c : Claim) → keeps same_room_spot q (kept_of_claim (Some c)) ≤ 1
unfolding total
claim_most (at_room_pin r) c = omega arith
claim_most (at_base r) c = omega arith
claim_most (at_count r) c = omega arith
claim_most (at_latch r) c = omega arith
claim_most (at_first r) c = omega arith
claim_most (at_low r j) c = omega arith
claim_most (at_high r j) c = omega arith
claim_most (at_key r i) c = let o = one_if_le (same_room_spot (at_key c.room c.number) (at_key r i)) in omega arith
claim_most (at_value r i) c = let o = one_if_le (same_room_spot (at_value c.room c.number) (at_value r i)) in omega arith
claim_most (at_next r i) c = let o = one_if_le (same_room_spot (at_next c.room c.number) (at_next r i)) in omega arith

-- it keeps the words of its entry
claim_keeps : (f : EntryField) (c : Claim) → 0 < keeps same_room_spot (entry_spot f c.room c.number) (kept_of_claim (Some c))
unfolding total
claim_keeps of_key c = let o = ap one_if (same_room_spot-self (at_key c.room c.number)) in omega arith
claim_keeps of_value c = let o = ap one_if (same_room_spot-self (at_value c.room c.number)) in omega arith
claim_keeps of_next c = let o = ap one_if (same_room_spot-self (at_next c.room c.number)) in omega arith

module _ (z : Sizes) (m : RoomMemory) (content : ℕ → List ℕ) (hs : List RoomHolds) (rule : RoomsStand z m content hs) (kept : KeptNumbersStand same_room_spot (read_room m) (map kept_of_rooms hs)) (seat : ℕ) (a : RoomHolds) (here : get_elem? hs seat ≡ some a) where
  mine : get_elem? (map kept_of_rooms hs) seat ≡ some (kept_of_rooms a)
  mine = at_map kept_of_rooms hs seat a here

  -- no pass holds an open or frozen room
  pub unheld : (r : ℕ) → weight (m.pin r) ≡ 1 → (j : ℕ) (u : RoomHolds) → get_elem? hs j ≡ some u → in_room_state r HELD u ≡ 0
  unheld r w j u at = let h = rule.held r HELD (inr refl) in let t = total_at (in_room_state r HELD) hs j u at in
      let n : one_at (state_of (m.pin r)) HELD ≡ 0 = one_at-cases (state_of (m.pin r)) HELD (λ k. k ≡ 0) (λ e. absurd (let o = weight_held (m.pin r) e in omega arith)) (λ _. refl) in omega arith

  -- nor keeps a word of an entry of it that is not claimed
  pub none_keeps : (q : RoomSpot) → weight (m.pin (room_at q)) ≡ 1 → total (claims_on (room_at q) (part_at q)) hs ≡ 0 → total (keeps same_room_spot q) (map kept_of_rooms hs) ≡ 0
  none_keeps q w none = total_map kept_of_rooms (keeps same_room_spot q) hs ∙ total_zero (λ (u : RoomHolds). keeps same_room_spot q (kept_of_rooms u)) hs
      (λ j u at. none_kept q u (let t = total_at (claims_on (room_at q) (part_at q)) hs j u at in omega arith) (unheld (room_at q) w j u at))

  pub entry_put : (q : RoomSpot) (x : ℕ) → weight (m.pin (room_at q)) ≡ 1 → total (claims_on (room_at q) (part_at q)) hs ≡ 0 → KeptNumbersStand same_room_spot (read_room (put_room m q x)) (map kept_of_rooms hs)
  entry_put q x w none = kept_unkept same_room_spot (read_room m) (read_room (put_room m q x)) q x (read_room-of _) (map kept_of_rooms hs) (none_keeps q w none) kept

  -- nor its count or its first link
  pub count_put : (r x : ℕ) → weight (m.pin r) ≡ 1 → KeptNumbersStand same_room_spot (read_room (put_room m (at_count r) x)) (map kept_of_rooms hs)
  count_put r x w = kept_unkept same_room_spot (read_room m) (read_room (put_room m (at_count r) x)) (at_count r) x (read_room-of _) (map kept_of_rooms hs)
      (total_map kept_of_rooms (keeps same_room_spot (at_count r)) hs ∙ total_zero (λ (u : RoomHolds). keeps same_room_spot (at_count r) (kept_of_rooms u)) hs (λ j u at. field_kept (at_count r) u refl refl refl (unheld r w j u at))) kept

  pub first_put : (r x : ℕ) → weight (m.pin r) ≡ 1 → KeptNumbersStand same_room_spot (read_room (put_room m (at_first r) x)) (map kept_of_rooms hs)
  first_put r x w = kept_unkept same_room_spot (read_room m) (read_room (put_room m (at_first r) x)) (at_first r) x (read_room-of _) (map kept_of_rooms hs)
      (total_map kept_of_rooms (keeps same_room_spot (at_first r)) hs ∙ total_zero (λ (u : RoomHolds). keeps same_room_spot (at_first r) (kept_of_rooms u)) hs (λ j u at. field_kept (at_first r) u refl refl refl (unheld r w j u at))) kept

  -- an entry that nobody has claimed is claimed: its words are newly kept
  pub kept_claimed : (r n x : ℕ) → weight (m.pin r) ≡ 1 → a.claim ≡ None → total (claims_on r n) hs ≡ 0
      → KeptNumbersStand same_room_spot (read_room (put_room m (at_count r) x)) (set (map kept_of_rooms hs) seat (kept_of_rooms (record a { claim = Some (claimed_at m content r n) })))
  kept_claimed r n x w none free = let c : Claim = claimed_at m content r n in let read' = read_room (put_room m (at_count r) x) in let put = count_put r x w in
      kept_put same_room_spot read' (map kept_of_rooms hs) seat (kept_of_rooms a) (kept_of_claim (Some c) ++ kept_of_rooms_held a.held) mine
      (refl, (refl, (refl, each_rest (λ (t : KeptWord RoomSpot). read' t.spot ≡ t.number) (kept_of_claim a.claim) (kept_of_rooms_held a.held) (put.true_to seat (kept_of_rooms a) mine)))) few put
    where
      few : (q : RoomSpot) → total (keeps same_room_spot q) (map kept_of_rooms hs) + keeps same_room_spot q (kept_of_claim (Some (claimed_at m content r n)) ++ kept_of_rooms_held a.held) ≤ 1 + keeps same_room_spot q (kept_of_rooms a)
      few q = let c : Claim = claimed_at m content r n in let p = keeps_parts q (Some c) a in let e = keeps_parts q a.claim a in dite (ℕ_discrete r (room_at q))
          (λ s. dite (ℕ_discrete n (part_at q))
          (λ d. let k = none_keeps q (subst (λ (t : ℕ). weight (m.pin t) ≡ 1) s w) (subst (λ (t : ℕ × ℕ). total (claims_on t.0 t.1) hs ≡ 0) (λ i. (s i, d i)) free) in let o = claim_most q c in omega arith)
          (λ d. let k = claim_none q (Some c) (claim_else (room_at q) (part_at q) c d) in let o = kept.once q in omega arith))
          (λ s. let k = claim_none q (Some c) (claim_away (room_at q) (part_at q) c s) in let o = kept.once q in omega arith)

  -- a word of the claimed entry is stored by the pass that claimed it, which keeps it, or keeps it no more
  pub kept_owned : (f : EntryField) (x : ℕ) (c : Claim) → a.claim ≡ Some c → let p = entry_spot f c.room c.number in
      KeptNumbersStand same_room_spot (read_room (put_room m p x)) (set (map kept_of_rooms hs) seat (kept_of_rooms (record a { claim = claim_after content f x a.claim })))
  kept_owned f x c is = let p = entry_spot f c.room c.number in
      kept_own-put same_room_spot (read_room m) (read_room (put_room m p x)) p x (read_room-of _) (map kept_of_rooms hs) seat (kept_of_rooms a) (kept_of_rooms (record a { claim = claim_after content f x a.claim })) mine (let k = claim_keeps f c in let e = here_parts p in omega arith)
      (subst (λ (o : Option Claim). AreTrueTo (read_room (put_room m p x)) (kept_of_claim (claim_after content f x o) ++ kept_of_rooms_held a.held)) (sym is)
      (test-cases (stays_claimed f x) (λ b. AreTrueTo (read_room (put_room m p x)) (kept_of_claim (cond b (Some (claim_with content f x c)) None) ++ kept_of_rooms_held a.held))
      (λ _. subst (λ (ws : List (KeptWord RoomSpot)). AreTrueTo (read_room (put_room m p x)) (ws ++ kept_of_rooms_held a.held)) (sym (claim_restored content f x c))
      (each_append (λ (t : KeptWord RoomSpot). read_room (put_room m p x) t.spot ≡ t.number) (restored same_room_spot p x (kept_of_claim (Some c))) (kept_of_rooms_held a.held)
      (now_true same_room_spot (read_room m) (read_room (put_room m p x)) p x (read_room-of _) (kept_of_claim (Some c)) (claim_true p)) (rest_true p)))
      (λ _. rest_true p)))
      (λ q. subst (λ (o : Option Claim). keeps same_room_spot q (kept_of_claim (claim_after content f x o) ++ kept_of_rooms_held a.held) ≤ keeps same_room_spot q (kept_of_claim o ++ kept_of_rooms_held a.held)) (sym is)
      (test-cases (stays_claimed f x) (λ b. keeps same_room_spot q (kept_of_claim (cond b (Some (claim_with content f x c)) None) ++ kept_of_rooms_held a.held) ≤ keeps same_room_spot q (kept_of_claim (Some c) ++ kept_of_rooms_held a.held))
      (λ _. let u = keeps_parts q (Some (claim_with content f x c)) a in let v = keeps_parts q (Some c) a in let s = ap (keeps same_room_spot q) (claim_restored content f x c) in
      let t = same_spots same_room_spot (read_room m) (read_room (put_room m p x)) p x (read_room-of _) q (kept_of_claim (Some c)) in omega arith)
      (λ _. let v = keeps_parts q (Some c) a in omega arith))) kept
    where
      here_parts : (q : RoomSpot) → keeps same_room_spot q (kept_of_rooms a) ≡ keeps same_room_spot q (kept_of_claim (Some c)) + keeps same_room_spot q (kept_of_rooms_held a.held)
      here_parts q = ap (λ (o : Option Claim). keeps same_room_spot q (kept_of_claim o ++ kept_of_rooms_held a.held)) is ∙ keeps_parts q (Some c) a

      all_true : AreTrueTo (read_room m) (kept_of_claim (Some c) ++ kept_of_rooms_held a.held)
      all_true = subst (λ (o : Option Claim). AreTrueTo (read_room m) (kept_of_claim o ++ kept_of_rooms_held a.held)) is (kept.true_to seat (kept_of_rooms a) mine)

      claim_true : (p : RoomSpot) → AreTrueTo (read_room m) (kept_of_claim (Some c))
      claim_true p = (all_true.0, (all_true.1.0, (all_true.1.1.0, tt)))

      rest_true : (p : RoomSpot) → AreTrueTo (read_room (put_room m (entry_spot f c.room c.number) x)) (kept_of_rooms_held a.held)
      rest_true _ = let p = entry_spot f c.room c.number in
          subst (AreTrueTo (read_room (put_room m p x))) (restored_unkept same_room_spot p x (kept_of_rooms_held a.held) (let k = claim_keeps f c in let e = here_parts p in let t = total_at (keeps same_room_spot p) (map kept_of_rooms hs) seat (kept_of_rooms a) mine in let o = kept.once p in omega arith))
          (now_true same_room_spot (read_room m) (read_room (put_room m p x)) p x (read_room-of _) (kept_of_rooms_held a.held) (all_true.1.1.1))

  -- the claimed entry is linked: its words are kept no more
  pub kept_linked : (r : ℕ) (from : Option ℕ) (x : ℕ) (o : Option PinnedRoom) → weight (m.pin r) ≡ 1 → IsReachedFrom (m.next r) (m.first r) from → KeptNumbersStand same_room_spot (read_room (put_room m (link_spot r from) x)) (set (map kept_of_rooms hs) seat (kept_of_rooms (record a { claim = None; pin = o })))
  kept_linked r from x o w leads = let read' = read_room (put_room m (link_spot r from) x) in
      kept_put same_room_spot read' (map kept_of_rooms hs) seat (kept_of_rooms a) (kept_of_rooms_held a.held) mine
      (each_rest (λ (t : KeptWord RoomSpot). read' t.spot ≡ t.number) (kept_of_claim a.claim) (kept_of_rooms_held a.held) ((stored from leads).true_to seat (kept_of_rooms a) mine))
      (λ q. let e = keeps_parts q a.claim a in let t = kept.once q in omega arith) (stored from leads)
    where
      stored : (from : Option ℕ) → IsReachedFrom (m.next r) (m.first r) from → KeptNumbersStand same_room_spot (read_room (put_room m (link_spot r from) x)) (map kept_of_rooms hs)
      stored None h = first_put r x w
      stored (Some q) h = entry_put (at_next r q) x w (let e = rule.either r q w in omega arith)
