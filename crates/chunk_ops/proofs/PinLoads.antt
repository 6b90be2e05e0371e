-- What loads under a good pin of their pass leave: the call may have learned, the pass has its pin, and to one that is alone the words of the table stay.
use Rattle.std.proofs.Common.{◌≡◌, ℕ, Bool, true, false, List, [], ◌∷◌, cond, map, sym, refl, ap, ◌∙◌, subst, Option, Some, ◌&&◌, get_or}
use Rattle.oak_model.specs.Counts.{Each}
use Rattle.oak_model.specs.Limits.{Sizes}
use Rattle.oak_model.proofs.Counting.{test-cases}
use Rattle.arena_core.specs.Place.{content}
use Rattle.chunk_core.specs.declared.holds.PinnedRoom.{PinnedRoom}
use Rattle.chunk_core.specs.FoundLinks.{leads}
use Rattle.chunk_core.specs.LinkWords.{link_spot, link_word}
use Rattle.chunk_core.specs.Rooms.{at_count}
use Rattle.chunk_core.specs.RoomsAfter.{pin_walked, walked_pin}
use Rattle.link_search.specs.Met.{IsEntryLoad, IsLoad, Met, gave_up, met_count, met_key, met_link, stored_key, stored_link, stored_value, tried_count, tried_link}
use Rattle.oak_core.specs.declared.states.Gap.{Gap}
use Rattle.oak_core.specs.declared.states.Knowledge.{Knowledge}
use Rattle.oak_core.specs.declared.states.PassState.{PassState}
use Rattle.oak_core.specs.declared.states.Taught.TheVariants.{OfGap}
use Rattle.oak_core.specs.AloneWords.{Runs}
use Rattle.oak_core.specs.LinkTeaching.{gap_at, is_pinned, knows_link, sights_link}
use Rattle.oak_core.specs.Learning.{taught_where}
use Rattle.oak_core.specs.Memory.{Memory, Spot, in_rooms, index, memory}
use Rattle.oak_core.specs.PassState.{knowledge_of}
use Rattle.oak_core.specs.QuietSteps.{IsQuiet, Quiet}
use Rattle.oak_core.specs.Sights.{sights_with}
use Rattle.oak_core.specs.Step.{Told, load}
use Rattle.oak_core.proofs.calls.QuietCalls as steps
use Rattle.oak_core.proofs.lessons.TaughtSteps.{load_learns}
use Rattle.oak_core.proofs.seats.AloneRuns.{load_runs, runs_as}
use Rattle.oak_core.proofs.told.PlainLoads.{knows_linked, rooms_linked, sights_linked}
use Rattle.chunk_ops.specs.LinkedTable.{DoesEach, DoesMet}
use Rattle.chunk_ops.specs.PinRecords.{HasRoomPin, PinKept, UnderPin, WordsStay, room_pin}
use Rattle.chunk_ops.proofs.CountedPins.{counts_now}
use Rattle.chunk_ops.proofs.LinkedPins.{links_now}
use Rattle.chunk_ops.proofs.LoadedWords.{loads_only}
use Rattle.chunk_ops.proofs.MeetingCalls.{both_stay, only_none}
use Rattle.chunk_ops.proofs.PinsKept.{kept_same, under_both, under_only}

pub record LoadsUnder (z : Sizes) (call r : ℕ) (v w : PassState) : Type 0 where
  pub under : UnderPin z call r v w
  pub quiet : Quiet v w
  pub still : Runs WordsStay v w

pub under_none : (z : Sizes) (call r : ℕ) (v : PassState) → HasRoomPin z r v → LoadsUnder z call r v v
under_none z call r v p = let o = only_none call v in record { under = under_only z call r v v p o; quiet = o.quiet; still = o.still }

pub under_then : (z : Sizes) (call r : ℕ) (u v w : PassState) → LoadsUnder z call r u v → LoadsUnder z call r v w → LoadsUnder z call r u w
under_then z call r u v w a b = record {
  under = under_both z call r u v w a.under b.under;
  quiet = steps.only_both IsQuiet u v w a.quiet b.quiet;
  still = both_stay u v w a.still b.still;
}

-- one load leaves the words
stays : (z : Sizes) (call : ℕ) (p : Spot) (v : PassState) (n : ℕ) (w : PassState) → Told z call (load p) v n w → Runs WordsStay v w
stays z call p v n w t = runs_as (λ a b. (n ≡ get_or a (index z p) 0) × (b ≡ a)) WordsStay v w (λ a b d. d.1) (load_runs z call p v n w t)

under_load : (z : Sizes) (call r : ℕ) (p : Spot) (v : PassState) (n : ℕ) (w : PassState) → Told z call (load p) v n w → UnderPin z call r v w → LoadsUnder z call r v w
under_load z call r p v n w t u = record { under = u; quiet = steps.quiet_load z call p v n w t; still = stays z call p v n w t }

-- of the count
pub count_under : (z : Sizes) (call r : ℕ) (v : PassState) (n : ℕ) (w : PassState) → HasRoomPin z r v → Told z call (load (in_rooms (at_count r))) v n w → LoadsUnder z call r v w
count_under z call r v n w p t = under_load z call r (in_rooms (at_count r)) v n w t (counts_now z call r v n w p t).under

none_shown : (a b : Bool) → b ≡ false → (a && b) ≡ false
none_shown true b e = e
none_shown false b e = refl

-- of a link: one that leads on from nothing that was found teaches nothing
module _ (z : Sizes) (call r : ℕ) (v : PassState) (n : ℕ) (w : PassState) (p : HasRoomPin z r v) (from : Option ℕ) (t : Told z call (load (in_rooms (link_spot r from))) v n w) where
  abbrev m : Memory
  m = memory z t.table.words

  abbrev qs : List Knowledge
  qs = map knowledge_of t.table.states

  abbrev bytes : ℕ → List ℕ
  bytes = content m.arena.bytes

  abbrev gap : Gap
  gap = gap_at m.rooms bytes from (room_pin v)

  abbrev shows : Bool
  shows = is_pinned r (room_pin v) && leads from (room_pin v)

  knowledge : w.knowledge ≡ taught_where shows (OfGap gap) qs v.knowledge
  knowledge = ap (λ (y : PassState). y.knowledge) t.after ∙ (knows_linked call m qs v r from ∙ ap (λ (o : Option PinnedRoom). knows_link m.rooms bytes r from o qs v.knowledge) p.pin.is)

  sights : w.findings.sights ≡ sights_with shows call (OfGap gap) v.findings
  sights = ap (λ (y : PassState). y.findings.sights) t.after ∙ (sights_linked call m v r from ∙ ap (λ (o : Option PinnedRoom). sights_link m.rooms bytes r from call o v.findings) p.pin.is)

  rooms_same : leads from (room_pin v) ≡ false → w.rooms ≡ v.rooms
  rooms_same off = ap (λ (y : PassState). y.rooms) t.after ∙ (rooms_linked m v r from
      ∙ (ap (λ (o : Option PinnedRoom). record v.rooms { pin = walked_pin m.rooms bytes r from o }) p.pin.is
      ∙ (ap (λ (b : Bool). record v.rooms { pin = Some (cond b (pin_walked m.rooms bytes (link_word m.rooms r from) (room_pin v)) (room_pin v)) }) (none_shown (is_pinned r (room_pin v)) (leads from (room_pin v)) off)
      ∙ ap (λ (o : Option PinnedRoom). record v.rooms { pin = o }) (sym p.pin.is))))

  away : leads from (room_pin v) ≡ false → UnderPin z call r v w
  away off = record {
    learns = load_learns z call (in_rooms (link_spot r from)) v n w t shows (OfGap gap) knowledge shows sights;
    blocks = ap (λ (y : PassState). y.blocks) t.after;
    headers = ap (λ (y : PassState). y.headers) t.after;
    pin = subst (PinKept z r v.rooms) (sym (rooms_same off)) (kept_same z r v.rooms p);
  }

  pub link_under : LoadsUnder z call r v w
  link_under = under_load z call r (in_rooms (link_spot r from)) v n w t (test-cases (leads from (room_pin v)) (λ b. leads from (room_pin v) ≡ b → UnderPin z call r v w) (λ on _. (links_now z call r v n w p from on t).under) (λ off _. away off) refl)

-- what a search met
module _ (z : Sizes) (call r base place : ℕ) where
  pub met_under : (m : Met) (v w : PassState) → HasRoomPin z r v → IsLoad m → DoesMet z call r base place m v w → LoadsUnder z call r v w
  met_under (met_count n) v w p l d = count_under z call r v n w p d
  met_under (met_link from n) v w p l d = link_under z call r v n w p from d
  met_under (met_key i) v w p l d = let o = loads_only z call r d.met v w d.loads in record { under = under_only z call r v w p o; quiet = o.quiet; still = o.still }
  met_under (tried_count o n) v w p l d = absurd l
  met_under (tried_link f i o n) v w p l d = absurd l
  met_under (stored_value i) v w p l d = absurd l
  met_under (stored_link i n) v w p l d = absurd l
  met_under (stored_key i) v w p l d = absurd l
  met_under (gave_up i) v w p l d = absurd l

  pub each_under : (ms : List Met) (v w : PassState) → HasRoomPin z r v → Each IsLoad ms → DoesEach z call r base place ms v w → LoadsUnder z call r v w
  each_under [] v w p l d = subst (LoadsUnder z call r v) (sym d) (under_none z call r v p)
  each_under (m ∷ ms) v w p l d = let a = met_under m v d.0 p l.0 d.1 in under_then z call r v d.0 w a (each_under ms d.0 w a.under.pin.has l.1 d.2)

-- loads of links and keys are loads
pub entry_load : (m : Met) → IsEntryLoad m → IsLoad m
entry_load (met_count n) e = absurd e
entry_load (met_link f n) e = tt
entry_load (met_key i) e = tt
entry_load (tried_count o n) e = absurd e
entry_load (tried_link f i o n) e = absurd e
entry_load (stored_value i) e = absurd e
entry_load (stored_link i n) e = absurd e
entry_load (stored_key i) e = absurd e
entry_load (gave_up i) e = absurd e
