use Rattle.std.proofs.Common.{◌≡◌, ℕ, ◌<◌, List, sym, refl, ap, ◌∙◌, subst, arith}
use Rattle.oak_model.specs.declared.limits.TheConstants.{CLASSES}
use Rattle.oak_model.specs.declared.classes.Class.{Class}
use Rattle.oak_model.specs.Class.{class_number}
use Rattle.oak_model.specs.Limits.{Sizes}
use Rattle.arena_core.specs.Arena.{at_bytes, blocks}
use Rattle.arena_core.specs.Place.{class_in, block_in, length_in, class_from}
use Rattle.arena_core.proofs.PlaceLaws.{class_number-from}
use Rattle.header_core.specs.declared.holds.HeaderHolds.{HeaderHolds}
use Rattle.header_core.specs.Headers.{at_place, at_stamp}
use Rattle.oak_core.specs.declared.states.PassState.{PassState}
use Rattle.oak_core.specs.Memory.{in_arena, in_headers, index}
use Rattle.oak_core.specs.Passes.{state, key, call_of}
use Rattle.oak_core.specs.Splitting.{Loads}
use Rattle.oak_core.proofs.memory.Words.{index_below}
use Rattle.value_ops.specs.PinnedValues.{stamp_pinned, value_pinned, ReadsLife}
use Rattle.value_ops.proofs.LearnFacts.{headers_loaded}
use Rattle.value_ops.proofs.LoadFacts.{loaded_placed, loaded_long, place_loaded, stamp_loaded}
use Rattle.value_ops.proofs.ReadFacts.{reading_life, reading_loads, reading_pin, reading_stamp}
use Rattle.value_ops.proofs.pinning.HeaderPin.value.Goals as goal

pub load-place-requires-clause-inside : goal.load-place-requires-clause-inside
load-place-requires-clause-inside c = let e = c.place_at.ensures in let l = index_below (key c.args.table.now) (in_headers (at_place c.args.self.header)) c.requires.pinned.1.inside in omega arith

pub load-stamp-requires-clause-inside : goal.load-stamp-requires-clause-inside
load-stamp-requires-clause-inside c = let e = c.stamp_at.ensures in let l = index_below (key c.args.table.now) (in_headers (at_stamp c.args.self.header)) c.requires.pinned.1.inside in omega arith

-- the class of the place that was loaded
class_is : (k : Class) (n place : ℕ) → k ≡ class_from (class_in n) → n ≡ place → class_in place < CLASSES → class_number k ≡ class_in place
class_is k n place e f lt = ap class_number e ∙ (ap (λ (i : ℕ). class_number (class_from (class_in i))) f ∙ class_number-from (class_in place) lt)

pub bytes_at-block-requires-clause-block : goal.bytes_at-block-requires-clause-block
bytes_at-block-requires-clause-block c = let z : Sizes = key c.args.table.now in let v = state c.args.pass.now in let w = state c.load-place.new.pass in let l = c.load-place.ensures.loaded in let p = c.requires.pinned.0 in let h = c.requires.pinned.1 in
    let e = place_loaded z (call_of c.args.pass.now) c.place_at.result c.load-place.result v w l p h.is h.good c.args.self.header h.inside h.header_is c.place_at.ensures in let placed = loaded_placed z (call_of c.args.pass.now) c.place_at.result c.load-place.result v w l p h.is h.good in
    subst (λ (t : ℕ × ℕ). t.0 < blocks z t.1) (λ i. (sym (c.block_in.ensures ∙ ap block_in e) i, sym (class_is c.class_in.result c.load-place.result p.place c.class_in.ensures e placed.class) i)) placed.block

pub returns-clause-pinned : goal.returns-clause-pinned
returns-clause-pinned c = let z : Sizes = key c.args.table.now in let v = state c.args.pass.now in let w = state c.load-place.new.pass in let l = c.load-place.ensures.loaded in let p = c.requires.pinned.0 in let h = c.requires.pinned.1 in
    let e = place_loaded z (call_of c.args.pass.now) c.place_at.result c.load-place.result v w l p h.is h.good c.args.self.header h.inside h.header_is c.place_at.ensures in let placed = loaded_placed z (call_of c.args.pass.now) c.place_at.result c.load-place.result v w l p h.is h.good in
    let k = c.load-stamp.ensures.loaded in let is = ap (λ (a : HeaderHolds). a.pin) (headers_loaded z (call_of c.args.pass.now) c.place_at.result c.load-place.result v w l) ∙ h.is in record {
      limits = l.told.rule.sizes;
      pin = p;
      has = record { inside = h.inside; is = ap (λ (a : HeaderHolds). a.pin) (headers_loaded z (call_of c.load-place.new.pass) c.stamp_at.result c.load-stamp.result w (state c.load-stamp.new.pass) k) ∙ is; header_is = h.header_is; wanted_is = refl; good = h.good };
      placed = placed;
      block_is = c.bytes_at-block.ensures ∙ (λ i. index z (in_arena (at_bytes (class_is c.class_in.result c.load-place.result p.place c.class_in.ensures e placed.class i) (c.block_in.ensures i) 0))) ∙ ap (λ (j : ℕ). index z (in_arena (at_bytes (class_in p.place) (block_in j) 0))) e;
      length_is = c.length_in.ensures.is ∙ ap length_in e;
      words = loaded_long z (call_of c.args.pass.now) c.place_at.result c.load-place.result v w l p h.is h.good;
      stamp_is = stamp_loaded z (call_of c.load-place.new.pass) c.stamp_at.result c.load-stamp.result w (state c.load-stamp.new.pass) k p is h.good c.args.self.header h.inside h.header_is c.stamp_at.ensures;
    }

-- the two loads, in the call

placed_at : (z : Sizes) (call h word n : ℕ) (v w : PassState) → word ≡ index z (in_headers (at_place h)) → Loads z call word v n w → Loads z call (index z (in_headers (at_place h))) v n w
placed_at z call h word n v w e l = subst (λ (i : ℕ). Loads z call i v n w) e l

stamped_at : (z : Sizes) (call now h word n : ℕ) (v w : PassState) → now ≡ call → word ≡ index z (in_headers (at_stamp h)) → Loads z now word v n w → Loads z call (index z (in_headers (at_stamp h))) v n w
stamped_at z call now h word n v w e is l = subst (λ (i : ℕ × ℕ). Loads z i.0 i.1 v n w) (λ i. (e i, is i)) l

pub returns-clause-only : goal.returns-clause-only
returns-clause-only c = let z : Sizes = key c.args.table.now in let call = call_of c.args.pass.now in let v = state c.args.pass.now in let w = state c.load-place.new.pass in let x = state c.load-stamp.new.pass in let h = c.args.self.header in
    reading_loads z call h c.args.self.generation c.requires.pinned.0 v c.load-place.result w c.load-stamp.result x c.requires.pinned.1 (placed_at z call h c.place_at.result c.load-place.result v w c.place_at.ensures c.load-place.ensures.loaded)
    (stamped_at z call (call_of c.load-place.new.pass) h c.stamp_at.result c.load-stamp.result w x c.load-place.ensures.own.call c.stamp_at.ensures c.load-stamp.ensures.loaded)

pub returns-clause-reads : goal.returns-clause-reads
returns-clause-reads c = λ of knows. let z : Sizes = key c.args.table.now in let call = call_of c.args.pass.now in let v = state c.args.pass.now in let w = state c.load-place.new.pass in let x = state c.load-stamp.new.pass in let h = c.args.self.header in let p = c.requires.pinned.0 in
    let l = placed_at z call h c.place_at.result c.load-place.result v w c.place_at.ensures c.load-place.ensures.loaded in let k = stamped_at z call (call_of c.load-place.new.pass) h c.stamp_at.result c.load-stamp.result w x c.load-place.ensures.own.call c.stamp_at.ensures c.load-stamp.ensures.loaded in
    let is = (reading_pin z call h c.args.self.generation p v c.load-place.result w c.load-stamp.result x c.requires.pinned.1 l k).is in
    let found = reading_stamp z call h c.args.self.generation p v c.load-place.result w c.load-stamp.result x c.requires.pinned.1 l k in
    subst (λ (t : ℕ × List ℕ). ReadsLife h c.args.self.generation of t.0 t.1 v x) (λ i. ((found ∙ sym (ap stamp_pinned is)) i, sym (ap value_pinned is) i)) (reading_life z call h c.args.self.generation p v c.load-place.result w c.load-stamp.result x c.requires.pinned.1 l k of knows)

pub returns-clause-found : goal.returns-clause-found
returns-clause-found c = let z : Sizes = key c.args.table.now in let call = call_of c.args.pass.now in let v = state c.args.pass.now in let w = state c.load-place.new.pass in let x = state c.load-stamp.new.pass in let h = c.args.self.header in let p = c.requires.pinned.0 in
    let l = placed_at z call h c.place_at.result c.load-place.result v w c.place_at.ensures c.load-place.ensures.loaded in let k = stamped_at z call (call_of c.load-place.new.pass) h c.stamp_at.result c.load-stamp.result w x c.load-place.ensures.own.call c.stamp_at.ensures c.load-stamp.ensures.loaded in
    let is = (reading_pin z call h c.args.self.generation p v c.load-place.result w c.load-stamp.result x c.requires.pinned.1 l k).is in
    let found = reading_stamp z call h c.args.self.generation p v c.load-place.result w c.load-stamp.result x c.requires.pinned.1 l k in
    record {
      place = c.load-place.result;
      between = w;
      places = l;
      stamps = subst (λ (n : ℕ). Loads z call (index z (in_headers (at_stamp h))) w n x) (found ∙ sym (ap stamp_pinned is)) k;
    }
