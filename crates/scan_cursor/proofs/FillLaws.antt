-- What a scan comes to that loads the entries of the room ahead, and that leaves it.
use Rattle.std.proofs.Common.{◌≡◌, ℕ, ◌-◌, ◌≤◌, Bool, true, false, List, [], Option, None, map, reverse, take, drop, refl, sym, ap, subst, ◌∙◌, arith}
use Rattle.oak_model.specs.declared.limits.TheConstants.{GREATEST_ENTRIES}
use Rattle.oak_model.specs.Limits.{Sizes}
use Rattle.chunk_core.specs.declared.holds.RoomHolds.{RoomHolds}
use Rattle.oak_core.specs.declared.sorting.SortSlot.{SortSlot}
use Rattle.oak_core.specs.declared.states.Numbers.{Numbers}
use Rattle.oak_core.specs.declared.states.PassState.{PassState}
use Rattle.oak_core.specs.declared.table.Pass.{Pass}
use Rattle.oak_core.specs.CallSteps.{Stands}
use Rattle.oak_core.specs.PassState.{HoldsNothing}
use Rattle.oak_core.specs.Passes.{Stays, call_of, slots_of, state}
use Rattle.oak_core.specs.QuietSteps.{Quiet}
use Rattle.oak_core.specs.Scratch.{StaysButSlots}
use Rattle.oak_core.proofs.calls.CallSteps.{stands_learns}
use Rattle.chunk_ops.specs.PinRecords.{OnlyMeets, with_room_pin}
use Rattle.chunk_ops.specs.RoomPins.{Unpins}
use Rattle.scan_cursor.specs.declared.walking.Stepped.TheVariants.{Passed}
use Rattle.scan_cursor.specs.declared.walking.Walk.{Walk}
use Rattle.scan_cursor.specs.declared.ways.Way.{Way}
use Rattle.scan_cursor.specs.declared.ways.Way.TheVariants.{Up, Down}
use Rattle.scan_cursor.specs.Gathered.{IsGathered, in_slot, slots_ahead}
use Rattle.scan_cursor.specs.Holding.{Covers, HasRoom, IsRoom, Room, ahead_from, ahead_past, bound_in, cut_room, room_at}
use Rattle.scan_cursor.specs.Marks.{IsWithin}
use Rattle.scan_cursor.specs.Views.{Later, View, view_of}
use Rattle.scan_cursor.specs.Walks.{Gathers, IsWalk, WalkPasses, WalkSteps, course_of, view_at}
use Rattle.scan_cursor.proofs.ReadingViews.{later_both}
use Rattle.scan_cursor.proofs.StepLaws.{later_at, told_at}
use Rattle.scan_cursor.proofs.WalkLaws.{walk_fills}

-- the pass only met more
pub later_met : (z : Sizes) (p q : Pass) → call_of q ≡ call_of p → Stands (call_of p) (state p) (state q) → Quiet (state p) (state q) → Later (view_at z p) (view_at z q)
later_met z p q e s quiet = later_at z p q e record { sizes = refl; call = refl; learns = stands_learns (call_of p) (state p) (state q) s; quiet = quiet }

-- the pin of the room was all that it held
pub idle_again : (z : Sizes) (call now r : ℕ) (u v w : PassState) → HasRoom z r u → OnlyMeets call u v → Unpins z now r v w → HoldsNothing w
idle_again z call now r u v w has only undone = record {
  hand = ap (λ (n : Numbers). n.hand) (undone.stands.numbers ∙ only.stands.numbers) ∙ has.hand;
  blocks = undone.blocks ∙ (only.blocks ∙ has.blocks);
  headers = undone.headers ∙ (only.headers ∙ has.headers);
  rooms = undone.rooms ∙ ap (λ (a : RoomHolds). with_room_pin None a) (only.rooms ∙ has.rooms);
}

-- p before, q with the room pinned, s with a batch of its entries loaded, t with the bound of that, u with the pin undone
module _ (way : Way) (lo hi : ℕ) (z : Sizes) (w : Walk) (p q s t u : Pass) (r to : ℕ) (key : List ℕ) (b : Option (List ℕ)) (going : w.mark.ended ≡ false) (key_is : key ≡ w.mark.key) (first : Stays p q)
    (second : StaysButSlots q s) (few : to ≤ GREATEST_ENTRIES) (has : HasRoom z r (state s)) (room : room_at (state s) ≡ room_at (state q)) (near : Option (List ℕ)) (asked : ℕ) (within : Bool) (inner : within ≡ true → IsWithin way lo hi b) (real : IsRoom (cut_room way (room_at (state q)) near)) (covers : Covers way true key (cut_room way (room_at (state q)) near)) (third : Stays s t) (bound : b ≡ bound_in way (cut_room way (room_at (state s)) near)) (meets : OnlyMeets (call_of s) (state s) (state t)) (fourth : Stays t u) (undone : Unpins z (call_of t) r (state t) (state u)) where
  pub fill_steps : Later (view_at z p) (view_of z (call_of p) (state q)) → Later (view_at z q) (view_of z (call_of q) (state s))
      → IsGathered way (view_at z q) (view_of z (call_of q) (state s)) (ahead_from way key (bound_in way (cut_room way (room_at (state q)) near))) (ahead_past way key (bound_in way (cut_room way (room_at (state q)) near))) (slots_ahead way 0 to (slots_of s))
      → IsWalk way lo hi (course_of way z w p) → WalkSteps Passed way lo hi (course_of way z w p) (course_of way z (record { mark = w.mark; gathered = true; from = 0; to = to; bound = b; within = within; asked = asked }) u)
  fill_steps before while g i =
      let rooms = cut_room way (room_at (state q)) near in
      let ends = bound_in way rooms in
      let same : slots_of u ≡ slots_of s = fourth.sorting ∙ third.sorting in
      let h : Gathers way (view_at z q) (view_of z (call_of q) (state s)) w.mark.key ends (slots_ahead way 0 to (slots_of s)) = subst (λ (k : List ℕ). Gathers way (view_at z q) (view_of z (call_of q) (state s)) k ends (slots_ahead way 0 to (slots_of s))) key_is g in
      let k : Gathers way (view_at z q) (view_at z s) w.mark.key ends (slots_ahead way 0 to (slots_of u)) = subst (λ (l : List SortSlot). Gathers way (view_at z q) (view_at z s) w.mark.key ends (slots_ahead way 0 to l)) (sym same)
      (subst (λ (v : View). Gathers way (view_at z q) v w.mark.key ends (slots_ahead way 0 to (slots_of s))) (told_at z q s second.call) h) in
      let over : Covers way true w.mark.key rooms = subst (λ (k : List ℕ). Covers way true k rooms) key_is covers in
      let behind = later_both (view_at z s) (view_at z t) (view_at z u) (later_met z s t third.call meets.stands meets.quiet) (later_met z t u fourth.call undone.stands undone.quiet) in
      let bound_is : b ≡ ends = bound ∙ ap (λ (x : Room). bound_in way (cut_room way x near)) room in (
        idle_again z (call_of s) (call_of t) r (state s) (state t) (state u) has meets undone,
        subst (λ (o : Option (List ℕ)). WalkPasses way lo hi (course_of way z w p) (course_of way z (record { mark = w.mark; gathered = true; from = 0; to = to; bound = o; within = within; asked = asked }) u)) (sym bound_is)
            (walk_fills way lo hi (course_of way z w p) to asked within rooms (slots_ahead way 0 to (slots_of u)) (view_at z q) (view_at z s) (view_at z u) (λ e. subst (IsWithin way lo hi) bound_is (inner e)) i real over few (later_at z p q first.call before) (later_at z q s second.call while) behind k),
        going,
      )

-- none is left
pub none_left : (way : Way) (from to : ℕ) (slots : List SortSlot) → to ≤ from → slots_ahead way from to slots ≡ []
none_left Up from to slots le = let n : to - from ≡ 0 = omega arith in ap (λ (k : ℕ). map in_slot (take k (drop from slots))) n
none_left Down from to slots le = let n : to - from ≡ 0 = omega arith in ap (λ (k : ℕ). reverse (map in_slot (take k (drop from slots)))) n
