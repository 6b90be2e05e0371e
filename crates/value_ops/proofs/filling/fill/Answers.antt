use Rattle.std.proofs.Common.{◌≡◌, ◌<◌, ◌^◌, ◌∙◌, ℕ, sym, subst, arith}
use Rattle.oak_model.specs.declared.classes.Class.{Class}
use Rattle.oak_model.specs.Class.{class_number}
use Rattle.oak_model.specs.Limits.{Sizes}
use Rattle.arena_core.specs.Place.{place_word}
use Rattle.pin_word.specs.PinWord.{STATE}
use Rattle.header_core.specs.HeaderStep.{store_place, store_stamp, open_header}
use Rattle.header_core.specs.HeaderHolds.{IsFreshAt}
use Rattle.oak_core.specs.declared.states.PassState.{PassState}
use Rattle.oak_core.specs.HeaderCalls.{of_place, of_stamp, StoresPlace, StoresStamp, Opens}
use Rattle.oak_core.specs.Passes.{state, key, call_of}
use Rattle.oak_core.specs.Step.{on_headers, MayOnHeaders}
use Rattle.value_ops.specs.Filling.{Fills}
use Rattle.value_ops.proofs.FilledRows.{filled_fresh}
use Rattle.value_ops.proofs.FillSteps.{may_place, may_stamp, may_open, fills, fresh}
use Rattle.oak_core.proofs.calls.MetMore.{told_in}
use Rattle.value_ops.proofs.filling.fill.Goals as goal

-- the first store, of the place word that was made

may_be : (z : Sizes) (h place x : ℕ) (v : PassState) → x ≡ place → x < 2 ^ 64 → (place < 2 ^ 64 → MayOnHeaders z (store_place h place) v) → MayOnHeaders z (store_place h x) v
may_be z h place x v e lt may = subst (λ (k : ℕ). MayOnHeaders z (store_place h k) v) (sym e) (may (subst (λ (k : ℕ). k < 2 ^ 64) e lt))

places : (z : Sizes) (call h place x : ℕ) (v u : PassState) → x ≡ place → (MayOnHeaders z (store_place h x) v → StoresPlace z call h x v u) → x < 2 ^ 64 → (place < 2 ^ 64 → MayOnHeaders z (store_place h place) v) → StoresPlace z call h place v u
places z call h place x v u e told lt may = subst (λ (k : ℕ). StoresPlace z call h k v u) e (told (may_be z h place x v e lt may))

-- the second store and the opening, in the call

stamps_in : (z : Sizes) (first now h x : ℕ) (v w : PassState) → now ≡ first → StoresStamp z now h x v w → StoresStamp z first h x v w
stamps_in z first now h x v w e t = (t.0, told_in z first now (on_headers (store_stamp h x)) v t.0 w e t.1)

opens_in : (z : Sizes) (first now h n : ℕ) (v w : PassState) → now ≡ first → Opens z now h v n w → Opens z first h v n w
opens_in z first now h n v w e t = told_in z first now (on_headers (open_header h)) v n w e t

pub returns-clause-filled : goal.returns-clause-filled
returns-clause-filled c = let z : Sizes = key c.args.table.now in let call = call_of c.args.pass.now in let h = c.args.owned.header in let d : Class = c.args.block.class in let b = c.args.block.number in let len = c.args.len in
    let v = state c.args.pass.now in let u = state c.store_field.new.pass in let small : b < 2 ^ 32 = omega arith in
    let stores : StoresPlace z call h (place_word (class_number d) b len) v u = places z call h (place_word (class_number d) b len) c.place_word.result v u c.place_word.ensures
    (c.store_field.ensures.told of_place h record { inside = c.requires.inside; word_is = c.place_at-place.ensures }) c.place_word.type_inv (may_place z call h d b len c.args.stamp v c.requires.inside c.requires.owned c.requires.held small c.requires.fits) in
    let y = state c.store_field-2.new.pass in let now = c.store_field.ensures.own.call in
    let stamps : StoresStamp z call h c.args.stamp u y = stamps_in z call (call_of c.store_field.new.pass) h c.args.stamp u y now (c.store_field-2.ensures.told of_stamp h record { inside = c.requires.inside; word_is = c.stamp_at-stamped.ensures }
    (may_stamp z call h d b len c.args.stamp v c.requires.inside c.requires.owned c.requires.held small c.requires.fits u stores c.ranges.stamp.fits)) in
    let w = state c.open_header-found.new.pass in let n = c.open_header-found.result in
    let opens : Opens z call h y n w = opens_in z call (call_of c.store_field-2.new.pass) h n y w (c.store_field-2.ensures.own.call ∙ now) (c.open_header-found.ensures.told h record { inside = c.requires.inside; word_is = c.pin_at-word.ensures }) in
    subst (λ (g : ℕ). Fills z call h d b len c.args.stamp g v w) (sym c.generation.ensures) (fills z call h d b len c.args.stamp v c.requires.inside c.requires.owned c.requires.held small c.requires.fits u stores y stamps n w opens)

pub returns-clause-has : goal.returns-clause-has
returns-clause-has c = filled_fresh (key c.args.table.now) (call_of c.args.pass.now) c.args.owned.header c.args.block.class c.args.block.number c.args.len c.args.stamp c.generation.result (state c.args.pass.now) (state c.open_header-found.new.pass)
    c.requires.inside c.requires.owned c.requires.fits (returns-clause-filled c)

pub store_field-requires-2-clause-names : goal.store_field-requires-2-clause-names
store_field-requires-2-clause-names c = let z : Sizes = key c.args.table.now in let call = call_of c.args.pass.now in let h = c.args.owned.header in let d : Class = c.args.block.class in let b = c.args.block.number in let len = c.args.len in
    let v = state c.args.pass.now in let u = state c.store_field.new.pass in let small : b < 2 ^ 32 = omega arith in
    let stores : StoresPlace z call h (place_word (class_number d) b len) v u = places z call h (place_word (class_number d) b len) c.place_word.result v u c.place_word.ensures
    (c.store_field.ensures.told of_place h record { inside = c.requires.inside; word_is = c.place_at-place.ensures }) c.place_word.type_inv (may_place z call h d b len c.args.stamp v c.requires.inside c.requires.owned c.requires.held small c.requires.fits) in
    (of_stamp, h, record { inside = c.requires.inside; word_is = c.stamp_at-stamped.ensures }, may_stamp z call h d b len c.args.stamp v c.requires.inside c.requires.owned c.requires.held small c.requires.fits u stores c.ranges.stamp.fits)

pub open_header-found-requires-clause-names : goal.open_header-found-requires-clause-names
open_header-found-requires-clause-names c = let z : Sizes = key c.args.table.now in let call = call_of c.args.pass.now in let h = c.args.owned.header in let d : Class = c.args.block.class in let b = c.args.block.number in let len = c.args.len in
    let v = state c.args.pass.now in let u = state c.store_field.new.pass in let small : b < 2 ^ 32 = omega arith in
    let stores : StoresPlace z call h (place_word (class_number d) b len) v u = places z call h (place_word (class_number d) b len) c.place_word.result v u c.place_word.ensures
    (c.store_field.ensures.told of_place h record { inside = c.requires.inside; word_is = c.place_at-place.ensures }) c.place_word.type_inv (may_place z call h d b len c.args.stamp v c.requires.inside c.requires.owned c.requires.held small c.requires.fits) in
    let y = state c.store_field-2.new.pass in let now = c.store_field.ensures.own.call in
    let stamps : StoresStamp z call h c.args.stamp u y = stamps_in z call (call_of c.store_field.new.pass) h c.args.stamp u y now (c.store_field-2.ensures.told of_stamp h record { inside = c.requires.inside; word_is = c.stamp_at-stamped.ensures }
    (may_stamp z call h d b len c.args.stamp v c.requires.inside c.requires.owned c.requires.held small c.requires.fits u stores c.ranges.stamp.fits)) in
    (h, record { inside = c.requires.inside; word_is = c.pin_at-word.ensures }, (λ i. STATE), may_open z call h d b len c.args.stamp v c.requires.inside c.requires.owned c.requires.held small c.requires.fits u stores y stamps)

pub returns-clause-fresh : goal.returns-clause-fresh
returns-clause-fresh c = let z : Sizes = key c.args.table.now in let call = call_of c.args.pass.now in let h = c.args.owned.header in let d : Class = c.args.block.class in let b = c.args.block.number in let len = c.args.len in
    let v = state c.args.pass.now in let u = state c.store_field.new.pass in let small : b < 2 ^ 32 = omega arith in
    let stores : StoresPlace z call h (place_word (class_number d) b len) v u = places z call h (place_word (class_number d) b len) c.place_word.result v u c.place_word.ensures
    (c.store_field.ensures.told of_place h record { inside = c.requires.inside; word_is = c.place_at-place.ensures }) c.place_word.type_inv (may_place z call h d b len c.args.stamp v c.requires.inside c.requires.owned c.requires.held small c.requires.fits) in
    let y = state c.store_field-2.new.pass in let now = c.store_field.ensures.own.call in
    let stamps : StoresStamp z call h c.args.stamp u y = stamps_in z call (call_of c.store_field.new.pass) h c.args.stamp u y now (c.store_field-2.ensures.told of_stamp h record { inside = c.requires.inside; word_is = c.stamp_at-stamped.ensures }
    (may_stamp z call h d b len c.args.stamp v c.requires.inside c.requires.owned c.requires.held small c.requires.fits u stores c.ranges.stamp.fits)) in
    let w = state c.open_header-found.new.pass in let n = c.open_header-found.result in
    let opens : Opens z call h y n w = opens_in z call (call_of c.store_field-2.new.pass) h n y w (c.store_field-2.ensures.own.call ∙ now) (c.open_header-found.ensures.told h record { inside = c.requires.inside; word_is = c.pin_at-word.ensures }) in
    subst (λ (g : ℕ). IsFreshAt h g w.headers) (sym c.generation.ensures) (fresh z call h d b len c.args.stamp v c.requires.inside c.requires.owned c.requires.held small c.requires.fits u stores y stamps n w opens)

pub store_field-requires-clause-names : goal.store_field-requires-clause-names
store_field-requires-clause-names c = let z : Sizes = key c.args.table.now in let h = c.args.owned.header in let d : Class = c.args.block.class in let b = c.args.block.number in let len = c.args.len in let v = state c.args.pass.now in let small : b < 2 ^ 32 = omega arith in
    (of_place, h, record { inside = c.requires.inside; word_is = c.place_at-place.ensures }, may_be z h (place_word (class_number d) b len) c.place_word.result v c.place_word.ensures c.place_word.type_inv (may_place z (call_of c.args.pass.now) h d b len c.args.stamp v c.requires.inside c.requires.owned c.requires.held small c.requires.fits))
