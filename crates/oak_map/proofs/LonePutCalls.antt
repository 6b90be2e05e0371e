-- One law for the calls that put, by what they ask: after a refused try a pass that is alone goes on, or it gives up.
use Rattle.std.proofs.Common.{◌≡◌, ℕ, Bool, true, false, List, Option, Some, None, inl, inr, ⊎_elim, sym, refl, ap, ◌∙◌, subst}
use Rattle.oak_model.specs.declared.cells.CellCall.{CellCall}
use Rattle.oak_model.specs.declared.classes.Class.{Class}
use Rattle.oak_model.specs.declared.replies.Lack.{Lack}
use Rattle.oak_model.specs.declared.replies.Lack.TheVariants.{Block, Header, Room}
use Rattle.oak_model.specs.declared.replies.Pair.{Pair}
use Rattle.oak_model.specs.declared.replies.Wrote.TheVariants.{Full}
use Rattle.oak_model.specs.Cell.{state_after}
use Rattle.oak_model.specs.Key.{is_key}
use Rattle.oak_model.specs.KeyNumber.{key_number}
use Rattle.oak_model.specs.Limits.{Sizes}
use Rattle.oak_model.specs.State.{State}
use Rattle.oak_core.specs.declared.states.PassState.{PassState}
use Rattle.oak_core.specs.AloneWords.{Runs}
use Rattle.oak_core.specs.PassState.{HoldsNothing, IsAlone, seen_of}
use Rattle.oak_core.proofs.seats.AloneRuns.{runs_none}
use Rattle.lone_counts.specs.LoneTable.{AllValued, retired_in}
use Rattle.lone_counts.specs.Maps.{IsMapOf, last_states}
use Rattle.lone_counts.proofs.LoneMaps.{table_map}
use Rattle.lone_counts.proofs.MapChanges.{map_agrees}
use Rattle.point_ops.specs.declared.halts.Halt.{Halt}
use Rattle.point_ops.specs.declared.halts.Halt.TheVariants.{Crowded, NoBlock, NoHeader}
use Rattle.point_ops.specs.Halting.{Halts}
use Rattle.point_ops.specs.LonePuts.{LoneHalts}
use Rattle.point_ops.specs.LoneReplies.{SameAlone, SeesTheSame, SeesWhole}
use Rattle.point_ops.specs.Replies.{Refuses}
use Rattle.point_ops.proofs.LoneHistories.{alone_later}
use Rattle.oak_map.specs.LonePuts.{FullAsLacks, FullBy, HasNoRoomFor, PutsAlone}
use Rattle.oak_map.specs.LoneRetrying.{AreMany, FitsNow, LoneGoing, Retries}
use Rattle.oak_map.specs.MakingRoom.{MakesWay}
use Rattle.oak_map.specs.Putting.{Going}
use Rattle.oak_map.proofs.AbsentKeys.{misses_key}
use Rattle.oak_map.proofs.FullAnswers.{no_block, no_header_left}
use Rattle.oak_map.proofs.FullCounts.{lacks_nothing}
use Rattle.oak_map.proofs.LoneFull.{FullAt, LoneEnd, lone_end, was_alone}
use Rattle.oak_map.proofs.LoneNoted.{lone_gives_up, noted_sees, way_noted}
use Rattle.oak_map.proofs.LoneStates.{needs_last, states_same}
use Rattle.oak_map.proofs.LoneGoesOn.{lone_goes_on}
use Rattle.oak_map.proofs.LoneWays.{NothingLacks}
use Rattle.oak_map.proofs.Trying.{holds_on, idle_on}

-- `Full` for want of a block or a header is not what a map says that lacks nothing for the absent key
never_fits : (z : Sizes) (key : List ℕ) (ask : CellCall) (u : PassState) (c : List ℕ) (lack : Lack) (m : List Pair) (N : Type 0) → (lack ≡ Room → ⊥) → FitsNow z key ask u c → IsMapOf (last_states u) m → FullAsLacks z m (retired_in z c) key N (last_states u key) (state_after (last_states u key) ask) (Full lack) → ⊥
never_fits z key ask u c lack m N other f has says = by (subst (λ (o : Option Lack). FullBy o N (Full lack)) (f.lacks m has)
    (subst (λ (x : State). FullAsLacks z m (retired_in z c) key N None x (Full lack)) f.makes (subst (λ (x : State). FullAsLacks z m (retired_in z c) key N x (state_after x ask) (Full lack)) f.absent says)))
  where
    by : FullBy None N (Full lack) → ⊥
    by (inl n) = let e = n.0 in other cc
    by (inr n) = n.0

-- u is the state of the pass at the call, v the one at its last try, which was refused in w
module _ (z : Sizes) (call : ℕ) (key value : List ℕ) (ask : CellCall) (halt : Halt) (settled : Bool) (u v w : PassState) (is : is_key key ≡ true) (makes : state_after None ask ≡ Some value)
    (numbers : v.numbers ≡ u.numbers) (later : w.numbers ≡ v.numbers) (idle : HoldsNothing w) (going : LoneGoing z key ask settled u v) (same : SameAlone z v w) (halted : Halts halt z call key ask v w) (halts : Runs (LoneHalts halt z key value) v w) where
  -- behind it the pass is alone, if it was

  seen_still : (c : List ℕ) → LoneEnd z key ask u c w → seen_of (key_number key) w.knowledge ≡ seen_of (key_number key) v.knowledge
  seen_still c ends = ends.same (key_number key) ∙ sym (going.seen (was_alone z key ask settled u v w numbers later idle going same ends.table.alone) (key_number key))

  all_valued : (c : List ℕ) → LoneEnd z key ask u c w → AllValued z c
  all_valued c ends r lt o = ends.stays.valued r (record { inside = lt; state = o })

  -- `Full` comes in rooms as settling leaves them
  full_at : (c : List ℕ) (lack : Lack) → (lack ≡ Room → ⊥) → LoneEnd z key ask u c w → ((m : List Pair) → IsMapOf (last_states u) m → FullAsLacks z m (retired_in z c) key (HasNoRoomFor z key c) (last_states u key) (state_after (last_states u key) ask) (Full lack)) → FullAt z key ask u lack c
  full_at c lack other ends says = record {
    says = says;
    many = ⊎_elim (λ (m : AreMany z c). m) (λ (f : IsAlone u → FitsNow z key ask u c). let t = table_map z c w ends.table in
        let has = map_agrees (last_states w) (last_states u) t.0 t.1 (λ q. sym (states_same u w ends.same q)) in
        absurd (never_fits z key ask u c lack t.0 (HasNoRoomFor z key c) other (f (was_alone z key ask settled u v w numbers later idle going same ends.table.alone)) has (says t.0 has)))
        ends.stays.rooms;
  }

  -- by why it was refused

  block_answer : (k : Class) → halt ≡ NoBlock k → (b c : List ℕ) → LoneEnd z key ask u c w → LoneHalts (NoBlock k) z key value b c → FullAt z key ask u (Block k) c
  block_answer k e b c ends q = let n = (subst (λ (h : Halt). Halts h z call key ask v w) e halted).2 in full_at c (Block k) (λ x. absurd cc) ends
      (λ m has. no_block z key value ask u w b c is makes ends.table ends.same q.2.0 (all_valued c ends) m has (HasNoRoomFor z key c) q.0 k q.1 q.2.1 _ n.before (needs_last call key ask (Block k) u v w is (seen_still c ends) ends.same n) n.needs)

  header_answer : halt ≡ NoHeader → (b c : List ℕ) → LoneEnd z key ask u c w → LoneHalts NoHeader z key value b c → FullAt z key ask u Header c
  header_answer e b c ends q = let n = (subst (λ (h : Halt). Halts h z call key ask v w) e halted).1 in full_at c Header (λ x. absurd cc) ends
      (λ m has. no_header_left z key value ask u w b c is makes ends.table ends.same q.2.0 (all_valued c ends) m has (HasNoRoomFor z key c) q.2.1 q.2.2 (needs_last call key ask Header u v w is (seen_still c ends) ends.same n ∙ n.needs.0))

  nothing_lacks : halt ≡ Crowded → (b c : List ℕ) → LoneEnd z key ask u c w → LoneHalts Crowded z key value b c → NothingLacks z key value u c
  nothing_lacks e b c ends q = let n = (subst (λ (h : Halt). Halts h z call key ask v w) e halted).1 in record {
    absent = needs_last call key ask Room u v w is (seen_still c ends) ends.same n ∙ n.needs.0;
    lacks = λ m has. lacks_nothing z key value u w b c ends.table ends.same q.2.0 (all_valued c ends) m has q.0 q.2.1;
  }

  -- it made way until x, in a call of that number

  pub put_goes_on : (now : ℕ) (then : Bool) (x : PassState) → MakesWay halt z now key settled then None w x → LoneGoing z key ask then u x
  put_goes_on now then x way = lone_goes_on z now key value ask halt settled then None u v w x makes numbers
      (λ e alone b c l q s. nothing_lacks e b c (lone_end z key ask settled u v w numbers later idle going same alone c l s) q) going same halts way refl

  pub put_gives_up : (now : ℕ) (then : Bool) (lack : Lack) (x : PassState) → MakesWay halt z now key settled then (Some lack) w x → Runs (PutsAlone z key ask u (Full lack)) u x
  put_gives_up now then lack x way = lone_gives_up z now key value ask settled then (Some lack) lack u v w x makes numbers later idle going same refl halt halts way block_answer header_answer nothing_lacks (misses_key z key u is)

  pub put_sees : (now : ℕ) (then : Bool) (lack : Lack) (x : PassState) → MakesWay halt z now key settled then (Some lack) w x → IsAlone u → SeesTheSame z u x
  put_sees now then lack x way alone = let n = way_noted halt z now key settled then lack w x way in let s = same (alone_later u v numbers alone) in
      noted_sees z now n.lack u n.last x (n.numbers ∙ (later ∙ numbers)) (λ q. ap (seen_of q) n.knowledge ∙ (s.same q ∙ going.seen alone q)) alone
      (⊎_elim (λ (e : v ≡ u). subst (SeesWhole z) e s.begun) (λ (f : IsAlone u → SeesWhole z u). f alone) going.begun) n.notes

-- before its first try the call goes on
pub lone_first : (z : Sizes) (key : List ℕ) (ask : CellCall) (u : PassState) → LoneGoing z key ask false u u
lone_first z key ask u = record { begun = inl refl; seen = λ _ q. refl; runs = runs_none (Retries z key ask false u) u (λ a. record { retired = refl; settled_stays = λ e. absurd cc }) }

-- the pass holds nothing behind a refused try
pub idle_behind : (z : Sizes) (call first : ℕ) (settled : Bool) (u v w : PassState) → HoldsNothing u → Going z first settled u v → Refuses call v w → HoldsNothing w
idle_behind z call first settled u v w idle g r = idle_on v w (holds_on v w r.holds) (idle_on u v g.tries.holds idle)
