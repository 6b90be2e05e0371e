-- The work of a pass on rooms that it holds, in parts one behind another.
use Rattle.std.proofs.Common.{◌≡◌, ℕ, List, sym, ◌∙◌, subst, arith}
use lib.ListN.{get_elem?}
use mathlib.Core.Option.{some}
use Rattle.oak_model.specs.Limits.{Sizes}
use Rattle.oak_model.proofs.Lists.{at_longer, begins_length}
use Rattle.oak_core.specs.declared.states.Finding.{Finding}
use Rattle.oak_core.specs.declared.states.PassState.{PassState}
use Rattle.rebalance.specs.HeldTables.{HoldsAlone, SeesValue, WorksOnRooms, works_both}

-- behind a part the pass holds the room still
pub alone_still : (z : Sizes) (call r : ℕ) (v w : PassState) → WorksOnRooms z call v w → HoldsAlone z r v → HoldsAlone z r w
alone_still z call r v w a h = let o = h.only in record {
  room = a.copies r h.room;
  only = record { blocks = a.blocks ∙ o.blocks; headers = a.headers ∙ o.headers; pin = a.pin ∙ o.pin; claim = a.claim ∙ o.claim };
  begun = a.moment h.begun;
}

-- two parts of one call
pub works_then : (z : Sizes) (call now : ℕ) (u v w : PassState) → now ≡ call → WorksOnRooms z call u v → WorksOnRooms z now v w → WorksOnRooms z call u w
works_then z call now u v w e a b = works_both z call u v w a (subst (λ (k : ℕ). WorksOnRooms z k v w) e b)

-- a value that was seen in the first part
pub value_later : (z : Sizes) (call r i : ℕ) (u v w : PassState) → SeesValue z r i u v → WorksOnRooms z call v w → SeesValue z r i u w
value_later z call r i u v w h a = let m = a.stands.met in let longer = begins_length v.findings.met w.findings.met (m.more, m.met) in let below = h.to in record {
  place = h.place;
  from = h.from;
  to = omega arith;
  finding = h.finding;
  there = subst (λ (l : List Finding). get_elem? l h.place ≡ some h.finding) (sym m.met) (at_longer v.findings.met m.more h.place h.finding h.there);
  word_is = h.word_is;
  number = h.number;
  found_is = h.found_is;
  shows = h.shows;
}

-- and in the second
pub value_earlier : (z : Sizes) (call r i : ℕ) (u v w : PassState) → WorksOnRooms z call u v → SeesValue z r i v w → SeesValue z r i u w
value_earlier z call r i u v w a h = let m = a.stands.met in let longer = begins_length u.findings.met v.findings.met (m.more, m.met) in let behind = h.from in record {
  place = h.place;
  from = omega arith;
  to = h.to;
  finding = h.finding;
  there = h.there;
  word_is = h.word_is;
  number = h.number;
  found_is = h.found_is;
  shows = h.shows;
}
