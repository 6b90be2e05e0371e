-- A step only adds to what its pass has noted; a split and a join change nothing there, and the joined pass's is kept under its number.
use Rattle.std.proofs.Common.{◌≡◌, ℕ, [], ◌∷◌, ◌++◌, refl, List, map, length, Bool, true, false, cond}
use Rattle.oak_model.specs.Counts.{Begins}
use Rattle.oak_model.specs.Limits.{Sizes}
use Rattle.oak_model.proofs.Lists.{begins_self}
use Rattle.header_core.specs.HeaderStep.{HeaderStep, claim_header, store_place, store_stamp, change_place, open_header, pin_header, unpin_header, release_header, lock_header, unlock_header, mark_dead, take_back}
use Rattle.oak_core.specs.declared.states.Findings.{Findings}
use Rattle.oak_core.specs.declared.states.Knowledge.{Knowledge}
use Rattle.oak_core.specs.HeaderTeaching.{sights_by_header, gones_by_header, finds_over, locks_known, lock_taught}
use Rattle.oak_core.specs.KeyReads.{home_of}
use Rattle.oak_core.specs.LifeKeys.{key_or, key_known}
use Rattle.oak_core.specs.declared.states.Finding.{Finding}
use Rattle.oak_core.specs.declared.states.Full.{Full}
use Rattle.oak_core.specs.declared.states.PassState.{PassState}
use Rattle.oak_core.specs.Growing.{GrowsTo}
use Rattle.oak_core.specs.PassState.{knowledge_of, no_findings, left_state, right_state, both_state, joined_from}
use Rattle.oak_core.specs.Step.{Step, load, give_number, on_arena, on_headers, on_rooms, store_locked, note_full, state_after}
use Rattle.oak_core.specs.Sweeping.{sweep, swept_by}
use Rattle.oak_core.specs.RebalanceSteps.{is_claim, is_rebalance}
use Rattle.oak_core.specs.TableState.{TableState}
use Rattle.chunk_core.specs.RoomCopies.{copy_of}
use Rattle.chunk_core.specs.RoomStep.{RoomStep, pin_room, unpin_room, claim_entry, own_entry, link_entry, set_value, unlink_entry, freeze_room, thaw_room, hold_room, claim_room, store_room, open_room, retire_room}
use Rattle.oak_core.specs.Memory.{Memory, memory}
use Rattle.oak_core.proofs.told.PlainLoads.{gones_with_grow, sights_grow, sights_with_grow}

pub grows_self : (fs : Findings) → GrowsTo fs fs
grows_self fs = record { met = begins_self fs.met; fulls = begins_self fs.fulls; swept = begins_self fs.swept; sights = begins_self fs.sights; gones = begins_self fs.gones; rebalances = begins_self fs.rebalances.steps; claims = begins_self fs.rebalances.claims }

grows_met : (fs : Findings) (f : Finding) → GrowsTo fs (record fs { met = fs.met ++ f ∷ [] })
grows_met fs f = record { met = (f ∷ [], refl); fulls = begins_self fs.fulls; swept = begins_self fs.swept; sights = begins_self fs.sights; gones = begins_self fs.gones; rebalances = begins_self fs.rebalances.steps; claims = begins_self fs.rebalances.claims }

grows_noted : (fs : Findings) (f : Finding) (n : Full) → GrowsTo fs (record fs { met = fs.met ++ f ∷ []; fulls = fs.fulls ++ n ∷ [] })
grows_noted fs f n = record { met = (f ∷ [], refl); fulls = (n ∷ [], refl); swept = begins_self fs.swept; sights = begins_self fs.sights; gones = begins_self fs.gones; rebalances = begins_self fs.rebalances.steps; claims = begins_self fs.rebalances.claims }

-- what a step on a header found for keys, and which lives it found to be over, is only added to

header_sights_grow : (call : ℕ) (x : HeaderStep) (m : Memory) (qs : List Knowledge) (v : PassState) → Begins v.findings.sights (sights_by_header call x m qs v)
header_sights_grow call (claim_header h old) m qs v = begins_self v.findings.sights
header_sights_grow call (store_place h x) m qs v = begins_self v.findings.sights
header_sights_grow call (store_stamp h x) m qs v = begins_self v.findings.sights
header_sights_grow call (change_place h x) m qs v = begins_self v.findings.sights
header_sights_grow call (open_header h) m qs v = begins_self v.findings.sights
header_sights_grow call (pin_header h g) m qs v = begins_self v.findings.sights
header_sights_grow call (unpin_header h) m qs v = begins_self v.findings.sights
header_sights_grow call (release_header h t) m qs v = begins_self v.findings.sights
header_sights_grow call (lock_header h old) m qs v = sights_with_grow call v.findings (locks_known h old (m.headers.pin h) v.knowledge) (lock_taught h old (m.headers.stamp h) v.knowledge)
header_sights_grow call (unlock_header h kind) m qs v = begins_self v.findings.sights
header_sights_grow call (mark_dead h) m qs v = begins_self v.findings.sights
header_sights_grow call (take_back h x) m qs v = begins_self v.findings.sights

header_gones_grow : (call : ℕ) (x : HeaderStep) (m : Memory) (v : PassState) → Begins v.findings.gones (gones_by_header call x m v)
header_gones_grow call (claim_header h old) m v = begins_self v.findings.gones
header_gones_grow call (store_place h x) m v = begins_self v.findings.gones
header_gones_grow call (store_stamp h x) m v = begins_self v.findings.gones
header_gones_grow call (change_place h x) m v = begins_self v.findings.gones
header_gones_grow call (open_header h) m v = begins_self v.findings.gones
header_gones_grow call (pin_header h g) m v = gones_with_grow call v.findings (finds_over h g (m.headers.pin h) v.knowledge) (key_or (key_known h g v.knowledge)) (home_of h g)
header_gones_grow call (unpin_header h) m v = begins_self v.findings.gones
header_gones_grow call (release_header h t) m v = begins_self v.findings.gones
header_gones_grow call (lock_header h old) m v = begins_self v.findings.gones
header_gones_grow call (unlock_header h kind) m v = begins_self v.findings.gones
header_gones_grow call (mark_dead h) m v = begins_self v.findings.gones
header_gones_grow call (take_back h x) m v = begins_self v.findings.gones

-- the ranges swept are only added to
pub swept_grows : (x : RoomStep) (v : PassState) → Begins v.findings.swept (swept_by x v)
swept_grows (pin_room r) v = begins_self v.findings.swept
swept_grows (unpin_room r) v = begins_self v.findings.swept
swept_grows (claim_entry r old) v = begins_self v.findings.swept
swept_grows (own_entry f r i x) v = begins_self v.findings.swept
swept_grows (link_entry r from i old) v = begins_self v.findings.swept
swept_grows (set_value r i old new kind) v = begins_self v.findings.swept
swept_grows (unlink_entry r i x) v = begins_self v.findings.swept
swept_grows (freeze_room r old) v = begins_self v.findings.swept
swept_grows (thaw_room r) v = begins_self v.findings.swept
swept_grows (hold_room r old) v = begins_self v.findings.swept
swept_grows (claim_room r old) v = begins_self v.findings.swept
swept_grows (store_room p x) v = begins_self v.findings.swept
swept_grows (open_room r) v = (sweep (copy_of r v.rooms.held) (length v.findings.met), refl)
swept_grows (retire_room r) v = begins_self v.findings.swept

-- the steps of rebalances are only added to
places_grow : (b : Bool) (places : List ℕ) (n : ℕ) → Begins places (cond b (places ++ n ∷ []) places)
places_grow true places n = (n ∷ [], refl)
places_grow false places n = begins_self places

pub step_grows : (z : Sizes) (call : ℕ) (x : Step) (s : TableState) (v : PassState) → GrowsTo v.findings (state_after z call x s v).findings
step_grows z call (load p) s v = record { met = (_, refl); fulls = begins_self v.findings.fulls; swept = begins_self v.findings.swept; sights = sights_grow p call (memory z s.words) v; gones = begins_self v.findings.gones; rebalances = begins_self v.findings.rebalances.steps; claims = begins_self v.findings.rebalances.claims }
step_grows z call (give_number k) s v = grows_met v.findings _
step_grows z call (on_arena a) s v = grows_met v.findings _
step_grows z call (on_headers x) s v = record { met = (_, refl); fulls = begins_self v.findings.fulls; swept = begins_self v.findings.swept; sights = header_sights_grow call x (memory z s.words) (map knowledge_of s.states) v; gones = header_gones_grow call x (memory z s.words) v; rebalances = begins_self v.findings.rebalances.steps; claims = begins_self v.findings.rebalances.claims }
step_grows z call (on_rooms x) s v = record { met = (_, refl); fulls = begins_self v.findings.fulls; swept = swept_grows x v; sights = begins_self v.findings.sights; gones = begins_self v.findings.gones; rebalances = places_grow (is_rebalance x) v.findings.rebalances.steps (length v.findings.met); claims = places_grow (is_claim x) v.findings.rebalances.claims (length v.findings.met) }
step_grows z call (store_locked h c b k x) s v = grows_met v.findings _
step_grows z call (note_full lack began) s v = grows_noted v.findings _ _

pub left_grows : (v : PassState) → (left_state v).findings ≡ v.findings
left_grows v = refl

pub right_begins : (v : PassState) → (right_state v).findings ≡ no_findings
right_begins v = refl

pub both_grows : (v w : PassState) → (both_state v w).findings ≡ v.findings
both_grows v w = refl

pub joined_keeps : (w : PassState) → (joined_from w).findings ≡ w.findings
joined_keeps w = refl
