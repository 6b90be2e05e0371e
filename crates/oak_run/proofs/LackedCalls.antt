-- What a call lacked stands in all findings that go on from those of its pass.
use Rattle.std.proofs.Common.{ℕ, ◌≤◌, true, List, [], ◌∷◌, ◌++◌, length, Option, Some, None, refl, sym, subst, arith}
use Rattle.oak_model.specs.declared.cells.CellCall.{CellCall}
use Rattle.oak_model.specs.declared.replies.Lack.{Lack}
use Rattle.oak_model.specs.declared.replies.Lack.TheVariants.{Block, Header, Room}
use Rattle.oak_model.specs.Cell.{state_after}
use Rattle.oak_model.specs.Counts.{Begins}
use Rattle.oak_model.specs.KeyNumber.{key_number}
use Rattle.oak_model.specs.Limits.{Sizes}
use Rattle.oak_model.proofs.Lists.{at_longer, begins_self}
use Rattle.oak_core.specs.declared.states.Finding.{Finding}
use Rattle.oak_core.specs.declared.states.Findings.{Findings}
use Rattle.oak_core.specs.declared.states.PassState.{PassState}
use Rattle.oak_core.specs.CountReads.{SightedBare}
use Rattle.oak_core.specs.Finding.{finding}
use Rattle.oak_core.specs.FoundBehind.{FoundBehind}
use Rattle.oak_core.specs.Memory.{at_given}
use Rattle.oak_core.specs.Noting.{Notes}
use Rattle.oak_core.specs.RoomLacks.{RoomLackFound}
use Rattle.oak_core.proofs.calls.CallSteps.{begins_same}
use Rattle.oak_core.proofs.calls.Lacked.{holds_longer, lacks_longer}
use Rattle.oak_map.specs.Replying.{AnswersFull, ItsRoom, SpareOf, Tries}
use Rattle.oak_run.specs.Closing.{Closing}
use Rattle.oak_run.specs.Refusals.{SpareFits}
use Rattle.oak_run.specs.Shown.{FindsMore, KeysRoom, LackedIn}
use Rattle.oak_run.specs.Told.{Ask}
use Rattle.oak_run.proofs.LackNeeds.{is_class, takes}

-- ---- the findings go on while a call tries, and when it is noted

pub tries_find : (z : Sizes) (n : ℕ) (v w : PassState) → Tries z n v w → FindsMore v.findings w.findings
tries_find z n v w t = record {
  met = (t.goes.met.more, t.goes.met.met);
  sights = (t.goes.sights.more, t.goes.sights.sights);
  gones = t.goes.gones;
  fulls = begins_same v.findings.fulls w.findings.fulls t.holds.fulls;
  swept = t.holds.swept;
}

pub notes_find : (z : Sizes) (n : ℕ) (lack : Lack) (v w : PassState) → Notes z n lack v w → FindsMore v.findings w.findings
notes_find z n lack v w t = subst (λ (x : PassState). FindsMore v.findings x.findings) (sym t.after) (record {
  met = (finding z n at_given (Some t.number) t.number t.told.table.words v ∷ [], refl);
  sights = begins_self v.findings.sights;
  gones = begins_self v.findings.gones;
  fulls = (record { call = n; lack = lack } ∷ [], refl);
  swept = begins_self v.findings.swept;
})

-- ---- what was found stays found

module _ (met more : List Finding) where
  found_longer : {from to word : ℕ} {P : ℕ → ℕ → Type 0} → FoundBehind from to met word P → FoundBehind from to (met ++ more) word P
  found_longer f = record { place = f.place; from = f.from; to = f.to; finding = f.finding; there = at_longer met more f.place f.finding f.there; word_is = f.word_is; number = f.number; found_is = f.found_is; shows = f.shows }

  room_longer : (z : Sizes) (from ended k : ℕ) → ended ≤ length met → RoomLackFound z from ended met k → RoomLackFound z from ended (met ++ more) k
  room_longer z from ended k le f = record {
    room = f.room;
    inside = f.inside;
    whole = record {
      to = f.whole.to;
      within = f.whole.within;
      holds = holds_longer z from f.whole.to met more (let l = f.whole.within in omega arith) f.room k f.whole.holds;
      values = λ i lt. found_longer (f.whole.values i lt);
    };
    others = λ r lt ne. found_longer (f.others r lt ne);
  }

its_room_more : (lack : Lack) (z : Sizes) (began ended : ℕ) (met later : List Finding) (k : ℕ) → ended ≤ length met → Begins met later → KeysRoom lack z began ended met k → KeysRoom lack z began ended later k
its_room_more (Block c) z began ended met later k le more r = tt
its_room_more Header z began ended met later k le more r = tt
its_room_more Room z began ended met later k le more r = (r.0, r.1, subst (λ (l : List Finding). RoomLackFound z r.0 ended l k) (sym more.1) (room_longer met more.0 z r.0 ended k le r.2))

pub lacked_more : (z : Sizes) (call : ℕ) (lack : Lack) (k : ℕ) (spare : Option ℕ) (fs gs : Findings) → FindsMore fs gs → LackedIn z call lack k spare fs → LackedIn z call lack k spare gs
lacked_more z call lack k spare fs gs m l = record {
  began = l.began;
  ended = l.ended;
  lacks = lacks_longer z call lack spare l.began l.ended fs gs m.met m.swept l.lacks;
  its_room = its_room_more lack z l.began l.ended fs.met gs.met k l.lacks.met m.met l.its_room;
}

-- ---- a call on the map that gave up

room_of : (lack : Lack) (z : Sizes) (key : List ℕ) (v w : PassState) → ItsRoom lack z key v w → KeysRoom lack z (length v.findings.met) (length w.findings.met) w.findings.met (key_number key)
room_of (Block c) z key v w r = tt
room_of Header z key v w r = tt
room_of Room z key v w r = r

-- its last try lacked what it says
pub lacked_by : (z : Sizes) (n : ℕ) (key : List ℕ) (cell : CellCall) (lack : Lack) (v w : PassState) → (g : AnswersFull z n key cell lack v w) → LackedIn z n lack (key_number key) g.spare g.last.findings
lacked_by z n key cell lack v w g = record { began = length v.findings.met; ended = length g.last.findings.met; lacks = g.lacks; its_room = room_of lack z key v g.last g.its_room }

-- a spare block fits, where what was found without an entry in the call stands in the closing so
pub spare_fits : (lack : Lack) (spare : Option ℕ) (n : ℕ) (v w : PassState) (c : Closing) (thread : ℕ) (a : Ask) → ((at : ℕ) → SightedBare n (key_number a.key) at v w → c.Found thread n a.key at true) → SpareOf lack spare n a.key a.cell v w → SpareFits c thread n a lack spare
spare_fits (Block k) None n v w c thread a bare s = tt
spare_fits (Block k) (Some b) n v w c thread a bare s = (takes k (state_after None a.cell) s.0, is_class k _ s.1, (s.2.0, bare s.2.0 s.2.1))
spare_fits Header spare n v w c thread a bare s = s
spare_fits Room spare n v w c thread a bare s = s
