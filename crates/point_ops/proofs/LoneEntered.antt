-- To a pass that is alone: an entry that a key gets, or does not get.
use Rattle.std.proofs.Common.{◌≡◌, ℕ, ◌<◌, List, length, sym, refl, ap, ◌∙◌, subst, ⊎_elim, Option, Some, None}
use Rattle.oak_model.specs.declared.classes.Class.{Class}
use Rattle.oak_model.specs.Class.{class_of}
use Rattle.oak_model.specs.Limits.{Sizes}
use Rattle.arena_core.specs.Arena.{at_bits, at_bytes}
use Rattle.arena_ops.specs.Looking.{AllSet}
use Rattle.arena_ops.specs.Taking.{ClearsBit}
use Rattle.chunk_core.specs.LinkWords.{link_spot}
use Rattle.chunk_core.specs.Spans.{Span}
use Rattle.chunk_core.specs.Rooms.{at_base}
use Rattle.oak_core.specs.declared.states.PassState.{PassState}
use Rattle.oak_core.specs.AloneWords.{Runs}
use Rattle.oak_core.specs.Memory.{Spot, at_given, in_arena, in_headers, in_rooms, memory, word_count}
use Rattle.oak_core.proofs.seats.AloneRuns.{Then, runs_then, runs_as, runs_none}
use Rattle.chunk_ops.specs.declared.entries.AddHalt.{AddHalt}
use Rattle.chunk_ops.specs.declared.entries.AddHalt.TheVariants as adds
use Rattle.chunk_ops.specs.declared.entries.EntryNo.{EntryNo}
use Rattle.chunk_ops.specs.AddsAlone.{AddsIn, AddsNext, CrowdedIn, KeepsEntry, Never, NotAddedIn}
use Rattle.point_ops.specs.Inserts.{halt_of}
use Rattle.point_ops.specs.LoneInserts.{AddingHaltsIn, GetsEntryIn, IsClearIn, IsEntered, IsOfBlock, KeepsBut, MakesBlockUnder}
use Rattle.point_ops.specs.LonePuts.{EntersFor}
use Rattle.point_ops.specs.declared.halts.Halt.{Halt}
use Rattle.point_ops.specs.declared.halts.Halt.TheVariants.{NoBlock}
use Rattle.point_ops.proofs.LoneKeys.{missing_still}
use Rattle.point_ops.proofs.LoneReturns.{block_returned}
use Rattle.point_ops.proofs.LoneWords.{but_as, but_both, but_none, but_same}
use Rattle.point_ops.proofs.PutEntries.{put_but, put_value}

-- ---- a block was made for the key

module _ (z : Sizes) (r : ℕ) (span : Span) (inside : r < z.chunks) (c : Class) (b : ℕ) (key a m : List ℕ) (made : MakesBlockUnder z r span c b a m) where
  block_entered : (p : Spot) → IsOfBlock c b p → IsEntered z r a p
  block_entered (in_arena (at_bits d j)) s = tt
  block_entered (in_arena (at_bytes d e k)) s = subst (λ (q : ℕ × ℕ). IsClearIn z q.0 q.1 a) (λ i. (sym s.0 i, sym s.1 i)) made.0.clear
  block_entered (in_headers q) s = absurd s
  block_entered (in_rooms q) s = absurd s
  block_entered at_given s = absurd s

  abbrev E : Spot → Type 0
  E = IsEntered z r a

  first : KeepsBut z (IsEntered z r a) a m
  first = but_as z (IsOfBlock c b) E a m block_entered made.0.but

  long : length m ≡ word_count z
  long = made.0.but.size ∙ made.0.wide

  -- and it is that of the next entry
  module _ (i : EntryNo) (len : ℕ) (d : List ℕ) (n : AddsNext z r i c b len key m d) where
    link_entered : (from : Option ℕ) → IsEntered z r a (in_rooms (link_spot r from))
    link_entered None = refl
    link_entered (Some q) = refl

    then : KeepsBut z (IsEntered z r a) m d
    then = subst (KeepsBut z E m) (sym n.becomes) (put_but z r inside n.from i.0 n.room c b len m n.link E refl refl refl refl (link_entered n.from))

    value_is : (memory z d).rooms.value r i.0 ≡ span.base
    value_is = ap (λ (ws : List ℕ). (memory z ws).rooms.value r i.0) n.becomes ∙ (put_value z r inside n.from i.0 n.room c b len m n.link long
        ∙ (but_same z (IsOfBlock c b) a m made.0.but (in_rooms (at_base r)) (λ e. e) ∙ ap (λ (s : Span). s.base) made.1))

    next_entered : (floor : ℕ) → floor ≡ span.base → GetsEntryIn z r i.0 floor a d
    next_entered floor same = record { but = but_both z E a m d first then; value = value_is ∙ sym same }

  entered : (i : EntryNo) (len : ℕ) (d : List ℕ) → AddsIn z r i c b len key m d → (floor : ℕ) → floor ≡ span.base → EntersFor z r None floor key i a d
  entered i len d s floor same away = ⊎_elim (λ (k : KeepsEntry z r i c b key m d). absurd (missing_still z r a m made.0.keys key away.1 i.0 k.0.0 k.0.1)) (λ (n : AddsNext z r i c b len key m d). next_entered i len d n floor same) s.was

  crowded : (n d : List ℕ) → class_of (length key) ≡ Some c → CrowdedIn z r key m n → ClearsBit z c b n d → AddingHaltsIn (halt_of adds.Crowded) z r key a d
  crowded n d fits s g = (block_returned z r c b a m made.0 m d (but_none z _ m) (subst (λ (ws : List ℕ). ClearsBit z c b ws d) s.0 g), sym made.0.keys.count ∙ s.1, (c, fits, (b, made.0.inside, made.0.clear)))

-- ---- to a pass that is alone

module _ (z : Sizes) (r : ℕ) (span : Span) (inside : r < z.chunks) (c : Class) (b : ℕ) (key : List ℕ) (v u w : PassState) (made : Runs (MakesBlockUnder z r span c b) v u) where
  pub enters_alone : (i : EntryNo) (len : ℕ) → Runs (AddsIn z r i c b len key) u w → (floor : ℕ) → floor ≡ span.base → Runs (EntersFor z r None floor key i) v w
  enters_alone i len s floor same = let A : List ℕ → List ℕ → Type 0 = AddsIn z r i c b len key in runs_as (Then (MakesBlockUnder z r span c b) A) (EntersFor z r None floor key i) v w
      (λ a d h. entered z r span inside c b key a h.0 h.1 i len d h.2 floor same) (runs_then (MakesBlockUnder z r span c b) A v u w made s)

  pub unentered_alone : (why : AddHalt) (x : PassState) → class_of (length key) ≡ Some c → Runs (NotAddedIn why z r key) u w → Runs (ClearsBit z c b) w x → Runs (AddingHaltsIn (halt_of why) z r key) v x
  unentered_alone adds.Crowded x fits s g = let C : List ℕ → List ℕ → Type 0 = CrowdedIn z r key in let B : List ℕ → List ℕ → Type 0 = ClearsBit z c b in
      runs_as (Then (MakesBlockUnder z r span c b) (Then C B)) (AddingHaltsIn (halt_of adds.Crowded) z r key) v x
      (λ a d h. crowded z r span inside c b key a h.0 h.1 h.2.0 d fits h.2.1 h.2.2) (runs_then (MakesBlockUnder z r span c b) (Then C B) v u x made (runs_then C B u w x s g))
  unentered_alone adds.Busy x fits s g = let B : List ℕ → List ℕ → Type 0 = ClearsBit z c b in
      runs_as (Then (MakesBlockUnder z r span c b) (Then Never B)) (AddingHaltsIn (halt_of adds.Busy) z r key) v x
      (λ a d h. h.2.1) (runs_then (MakesBlockUnder z r span c b) (Then Never B) v u x made (runs_then Never B u w x s g))

-- no block was taken
pub unblocked_alone : (z : Sizes) (r : ℕ) (key : List ℕ) (c : Class) (why : Halt) (v w : PassState) → class_of (length key) ≡ Some c → why ≡ NoBlock c → Runs (AllSet z c (λ _. Unit {0})) v w → Runs (AddingHaltsIn why z r key) v w
unblocked_alone z r key c why v w fits e s = subst (λ (y : Halt). Runs (AddingHaltsIn y z r key) v w) (sym e) (runs_as (AllSet z c (λ _. Unit {0})) (AddingHaltsIn (NoBlock c) z r key) v w (λ a b d. (fits, d)) s)

-- the entry that was found has its floor
pub has_entry_alone : (z : Sizes) (r floor : ℕ) (key : List ℕ) (i : EntryNo) (v : PassState) → Runs (EntersFor z r (Some i) floor key i) v v
has_entry_alone z r floor key i v = runs_none (EntersFor z r (Some i) floor key i) v (λ a away. record { but = but_none z (IsEntered z r a) a; value = away.1.1 })
