use Rattle.std.proofs.Common.{◌≡◌, ℕ, List, length, ap, sym, ◌∙◌, subst, rules}
use Rattle.oak_model.specs.declared.limits.TheConstants.{GREATEST_ENTRIES}
use Rattle.oak_core.specs.Passes.{state, key as sizes, call_of, slots_of}
use Rattle.chunk_core.specs.declared.holds.RoomCopy.{RoomCopy}
use Rattle.rebalance.specs.Ranges.{IsHighKey}
use Rattle.rebalance.proofs.FrontRooms.{front_words}
use Rattle.rebalance.proofs.FrontLaws.{front_alone, front_bounds, looked_rooms, slots_stay}
use Rattle.rebalance.proofs.chunk_pairs.load_end.Goals as goal

pub load_high-high-requires-clause-held : goal.load_high-high-requires-clause-held
load_high-high-requires-clause-held c = let h = c.requires.front in record { own = c.requires.own; alone = front_alone (sizes c.args.table.now) c.args.room h.0 h.1 h.2 h.3 (state c.args.pass.now) h.4 }

pub load_high-high-requires-clause-fits : goal.load_high-high-requires-clause-fits
load_high-high-requires-clause-fits c = let h = c.requires.front in (front_bounds (sizes c.args.table.now) c.args.room h.0 h.1 h.2 h.3 (state c.args.pass.now) h.4).high_fits

pub returns-clause-own : goal.returns-clause-own
returns-clause-own c = let x = c.load_high-high.ensures in let q = c.load_high-high.new.rooms.pass.now in let behind = sym (ap length (c.slots-2.ensures.slots ∙ c.sorting-2.ensures)) ∙ c.slots-2.ensures.many in let many : length (slots_of q) ≡ GREATEST_ENTRIES = search (rules, behind) in
    let f = slots_stay c.args.pass.now q x.stays.own (sym (ap length (c.slots.ensures.slots ∙ c.sorting.ensures)) ∙ c.slots.ensures.many) many x.slots in
    search (rules, f)

pub returns-clause-rooms : goal.returns-clause-rooms
returns-clause-rooms c = let x = c.load_high-high.ensures in let f = looked_rooms (sizes c.args.table.now) (call_of c.args.pass.now) (state c.args.pass.now) (state c.load_high-high.new.rooms.pass.now) c.requires.front.4.moment x.stays.works x.rooms x.ranges in
    search (rules, f)

pub returns-clause-high : goal.returns-clause-high
returns-clause-high c = λ w g hs gs f. subst (λ (ws : List ℕ). IsHighKey ws c.load_high-high.result) (ap (λ (x : RoomCopy). x.high) (front_words (sizes c.args.table.now) c.args.room w g hs gs (state c.args.pass.now) f)) c.load_high-high.ensures.key
