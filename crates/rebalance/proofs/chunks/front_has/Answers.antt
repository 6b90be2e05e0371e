use Rattle.std.proofs.Common.{◌≡◌, MatchBool, length, ap, sym, ◌∙◌, subst, rules}
use Rattle.oak_model.specs.declared.limits.TheConstants.{GREATEST_ENTRIES}
use Rattle.oak_model.specs.KeyNumber.{key_number}
use Rattle.chunk_core.specs.Spans.{Span, within}
use Rattle.oak_core.specs.Passes.{state, key as sizes, call_of, slots_of}
use Rattle.rebalance.proofs.FrontLaws.{front_alone, front_bounds, front_span, looked_rooms, slots_stay}
use Rattle.rebalance.proofs.chunks.front_has.Goals as goal

pub has_key-has-requires-clause-held : goal.has_key-has-requires-clause-held
has_key-has-requires-clause-held c = let h = c.requires.front in record { own = c.requires.own; alone = front_alone (sizes c.args.table.now) c.args.room h.0 h.1 h.2 h.3 (state c.args.pass.now) h.4 }

pub has_key-has-requires-clause-fit : goal.has_key-has-requires-clause-fit
has_key-has-requires-clause-fit c = let h = c.requires.front in front_bounds (sizes c.args.table.now) c.args.room h.0 h.1 h.2 h.3 (state c.args.pass.now) h.4

pub returns-clause-own : goal.returns-clause-own
returns-clause-own c = let x = c.has_key-has.ensures in let q = c.has_key-has.new.rooms.pass.now in let behind = sym (ap length (c.slots-2.ensures.slots ∙ c.sorting-2.ensures)) ∙ c.slots-2.ensures.many in let many : length (slots_of q) ≡ GREATEST_ENTRIES = search (rules, behind) in
    let f = slots_stay c.args.pass.now q x.stays.own (sym (ap length (c.slots.ensures.slots ∙ c.sorting.ensures)) ∙ c.slots.ensures.many) many x.slots in
    search (rules, f)

pub returns-clause-rooms : goal.returns-clause-rooms
returns-clause-rooms c = let x = c.has_key-has.ensures in let f = looked_rooms (sizes c.args.table.now) (call_of c.args.pass.now) (state c.args.pass.now) (state c.has_key-has.new.rooms.pass.now) c.requires.front.4.moment x.stays.works x.rooms x.ranges in
    search (rules, f)

pub returns-clause-has : goal.returns-clause-has
returns-clause-has c = λ w g hs gs b f stored. subst (λ (s : Span). MatchBool c.has_key-has.result (within s (key_number b) ≡ 1) (within s (key_number b) ≡ 1 → ⊥)) (front_span (sizes c.args.table.now) c.args.room w g hs gs (state c.args.pass.now) f) (c.has_key-has.ensures.has b stored)
