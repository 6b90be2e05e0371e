use Rattle.std.proofs.Common.{◌≡◌, ℕ, List, length, ap, sym, ◌∙◌, subst}
use Rattle.oak_model.specs.declared.classes.Class.{Class}
use Rattle.oak_model.specs.Class.{class_number}
use Rattle.oak_model.specs.Limits.{Sizes}
use Rattle.arena_core.specs.Place.{IsPlace, place_word, class_in, block_in, class_from}
use Rattle.arena_core.proofs.PlaceLaws.{class_number-from}
use Rattle.header_core.specs.HeaderHolds.{place_held}
use Rattle.header_core.specs.HeaderStep.{change_place}
use Rattle.oak_core.specs.declared.states.PassState.{PassState}
use Rattle.oak_core.specs.Finding.{LoadsMore}
use Rattle.oak_core.specs.HeaderCalls.{of_locked_place, ChangesPlace}
use Rattle.oak_core.specs.Passes.{state, key, call_of}
use Rattle.oak_core.specs.Step.{on_headers, MayOnHeaders}
use Rattle.oak_core.proofs.owners.OwnerLaws.{place_below}
use Rattle.value_ops.specs.Rewriting.{HasWords}
use Rattle.value_ops.specs.HeldValue.{words_in}
use Rattle.value_ops.specs.UnderLock.{ComesTo, words_over, with_words}
use Rattle.value_ops.proofs.ComesFurther.{comes_in}
use Rattle.oak_core.proofs.calls.MetMore.{told_in}
use Rattle.value_ops.proofs.AlonePins.{none_stays}
use Rattle.value_ops.proofs.AloneRewrites.{refills_alone, keeps_alone}
use Rattle.value_ops.proofs.RefillFacts.{may_refill, bytes_fit, refills, refills_same, locked_still, locked_same}
use Rattle.value_ops.proofs.RewriteFacts.{words_found, stored_since, words_met}
use Rattle.value_ops.proofs.locking.Locked.fill.Goals as goal

-- the bytes that were stored, and the place word, in the call

stored_in : (z : Sizes) (first now h : ℕ) (bytes : List ℕ) (v y u : PassState) → now ≡ first → LoadsMore z first v y → ComesTo z now y.blocks.held (with_words h (words_over bytes (words_in h y.headers.held)) y.headers.held) y u
    → ComesTo z first v.blocks.held (with_words h (words_over bytes (words_in h v.headers.held)) v.headers.held) v u
stored_in z first now h bytes v y u e met c = stored_since z first h bytes v y u met (comes_in z first now y.blocks.held (with_words h (words_over bytes (words_in h y.headers.held)) y.headers.held) y u e c)

stores_in : (z : Sizes) (first now h n x : ℕ) (u w : PassState) → now ≡ first → n ≡ x → ChangesPlace z now h n u w → ChangesPlace z first h x u w
stores_in z first now h n x u w e is t = subst (λ (k : ℕ). ChangesPlace z first h k u w) is (t.0, told_in z first now (on_headers (change_place h n)) u t.0 w e t.1)

-- the class that was read from the place word
class_again : (n place : ℕ) (k d : Class) → k ≡ class_from (class_in n) → n ≡ place → IsPlace n → class_in place ≡ class_number d → class_number k ≡ class_number d
class_again n place k d e is named class = ap class_number e ∙ (class_number-from (class_in n) (place_below n named) ∙ (ap class_in is ∙ class))

-- the place word of the block, with another length
named_by : (place : ℕ) (d : Class) (b n : ℕ) → class_in place ≡ class_number d → block_in place ≡ b → place_word (class_number d) b n ≡ place_word (class_in place) (block_in place) n
named_by place d b n class block = λ i. place_word (sym class i) (sym block i) n

pub store_bytes-requires-clause-words : goal.store_bytes-requires-clause-words
store_bytes-requires-clause-words c = let z : Sizes = key c.args.table.now in let h = c.args.self.now.header in let g = c.args.self.now.generation in let v = state c.args.pass.now in let o = c.place-place.ensures in
    words_met z h g c.bytes_at.result v (words_found z h g v o.limits c.requires.locked c.place-place.result o.place o.block c.class_in-class.result c.block_in-number.result c.bytes_at.result c.class_in-class.ensures c.block_in-number.ensures c.bytes_at.ensures)
    (call_of c.args.pass.now) (state c.place-place.new.pass) o.met

pub store_field-requires-clause-names : goal.store_field-requires-clause-names
store_field-requires-clause-names c = let z : Sizes = key c.args.table.now in let call = call_of c.args.pass.now in let h = c.args.self.now.header in let g = c.args.self.now.generation in let bytes : List ℕ = c.args.bytes.now in let d : Class = c.requires.fits.0 in let first = c.bytes_at.result in let b = c.block_in-number.result in
    let v = state c.args.pass.now in let y = state c.place-place.new.pass in let u = state c.store_bytes.new.pass in let o = c.place-place.ensures in
    let is : HasWords z h g first v = words_found z h g v o.limits c.requires.locked c.place-place.result o.place o.block c.class_in-class.result b first c.class_in-class.ensures c.block_in-number.ensures c.bytes_at.ensures in
    let s = stored_in z call (call_of c.place-place.new.pass) h bytes v y u o.own.call o.met c.store_bytes.ensures.stored in
    let block : block_in (place_held h v.headers.held) ≡ b = ap block_in (sym o.place) ∙ sym c.block_in-number.ensures in
    let word : c.place_word-named.result ≡ place_word (class_number d) b (length bytes) = c.place_word-named.ensures ∙ ap (λ (k : ℕ). place_word k b (length bytes)) (class_again c.place-place.result (place_held h v.headers.held) c.class_in-class.result d c.class_in-class.ensures o.place o.block.named c.requires.fits.2) in
    let may = subst (λ (x : ℕ). MayOnHeaders z (change_place h x) u) (sym word) (may_refill z call h g first v is bytes d b c.block_in-number.type_inv c.requires.fits.1 c.requires.fits.2 block u s) in
    (of_locked_place, h, record { inside = c.requires.locked.inside; word_is = c.place_at.ensures }, may)

-- where the place word was stored
stored_word : (c : goal.After-store_field) → ChangesPlace (key c.args.table.now) (call_of c.args.pass.now) c.args.self.now.header (place_word (class_number c.requires.fits.0) c.block_in-number.result (length c.args.bytes.now)) (state c.store_bytes.new.pass) (state c.store_field.new.pass)
stored_word c = let z : Sizes = key c.args.table.now in let call = call_of c.args.pass.now in let h = c.args.self.now.header in let g = c.args.self.now.generation in let bytes : List ℕ = c.args.bytes.now in let d : Class = c.requires.fits.0 in let first = c.bytes_at.result in let b = c.block_in-number.result in
    let v = state c.args.pass.now in let y = state c.place-place.new.pass in let u = state c.store_bytes.new.pass in let o = c.place-place.ensures in
    let is : HasWords z h g first v = words_found z h g v o.limits c.requires.locked c.place-place.result o.place o.block c.class_in-class.result b first c.class_in-class.ensures c.block_in-number.ensures c.bytes_at.ensures in
    let s = stored_in z call (call_of c.place-place.new.pass) h bytes v y u o.own.call o.met c.store_bytes.ensures.stored in
    let block : block_in (place_held h v.headers.held) ≡ b = ap block_in (sym o.place) ∙ sym c.block_in-number.ensures in
    let word : c.place_word-named.result ≡ place_word (class_number d) b (length bytes) = c.place_word-named.ensures ∙ ap (λ (k : ℕ). place_word k b (length bytes)) (class_again c.place-place.result (place_held h v.headers.held) c.class_in-class.result d c.class_in-class.ensures o.place o.block.named c.requires.fits.2) in
    let may = subst (λ (x : ℕ). MayOnHeaders z (change_place h x) u) (sym word) (may_refill z call h g first v is bytes d b c.block_in-number.type_inv c.requires.fits.1 c.requires.fits.2 block u s) in
    stores_in z call (call_of c.store_bytes.new.pass) h c.place_word-named.result (place_word (class_number d) b (length bytes)) u (state c.store_field.new.pass) (c.store_bytes.ensures.own.call ∙ o.own.call) word (c.store_field.ensures.told of_locked_place h record { inside = c.requires.locked.inside; word_is = c.place_at.ensures } may)

pub returns-clause-locked : goal.returns-clause-locked
returns-clause-locked c = let z : Sizes = key c.args.table.now in let call = call_of c.args.pass.now in let h = c.args.self.now.header in let g = c.args.self.now.generation in let bytes : List ℕ = c.args.bytes.now in let d : Class = c.requires.fits.0 in let first = c.bytes_at.result in let b = c.block_in-number.result in
    let v = state c.args.pass.now in let y = state c.place-place.new.pass in let u = state c.store_bytes.new.pass in let o = c.place-place.ensures in
    let is : HasWords z h g first v = words_found z h g v o.limits c.requires.locked c.place-place.result o.place o.block c.class_in-class.result b first c.class_in-class.ensures c.block_in-number.ensures c.bytes_at.ensures in
    let s = stored_in z call (call_of c.place-place.new.pass) h bytes v y u o.own.call o.met c.store_bytes.ensures.stored in
    let block : block_in (place_held h v.headers.held) ≡ b = ap block_in (sym o.place) ∙ sym c.block_in-number.ensures in
    locked_still z call h g first v is bytes d b c.block_in-number.type_inv c.requires.fits.1 c.requires.fits.2 block u s (state c.store_field.new.pass) (stored_word c)

pub returns-clause-filled : goal.returns-clause-filled
returns-clause-filled c = let z : Sizes = key c.args.table.now in let call = call_of c.args.pass.now in let h = c.args.self.now.header in let g = c.args.self.now.generation in let bytes : List ℕ = c.args.bytes.now in let d : Class = c.requires.fits.0 in let first = c.bytes_at.result in let b = c.block_in-number.result in
    let v = state c.args.pass.now in let y = state c.place-place.new.pass in let u = state c.store_bytes.new.pass in let o = c.place-place.ensures in
    let is : HasWords z h g first v = words_found z h g v o.limits c.requires.locked c.place-place.result o.place o.block c.class_in-class.result b first c.class_in-class.ensures c.block_in-number.ensures c.bytes_at.ensures in
    let s = stored_in z call (call_of c.place-place.new.pass) h bytes v y u o.own.call o.met c.store_bytes.ensures.stored in
    let block : block_in (place_held h v.headers.held) ≡ b = ap block_in (sym o.place) ∙ sym c.block_in-number.ensures in
    (d, b, refills z call h g first v is bytes d b c.block_in-number.type_inv c.requires.fits.1 c.requires.fits.2 block u s (state c.store_field.new.pass) (stored_word c) (λ k. (c.type_inv.bytes k).fits))

pub returns-clause-alone : goal.returns-clause-alone
returns-clause-alone c = let z : Sizes = key c.args.table.now in let call = call_of c.args.pass.now in let h = c.args.self.now.header in let g = c.args.self.now.generation in let bytes : List ℕ = c.args.bytes.now in let d : Class = c.requires.fits.0 in let first = c.bytes_at.result in let b = c.block_in-number.result in
    let v = state c.args.pass.now in let y = state c.place-place.new.pass in let u = state c.store_bytes.new.pass in let o = c.place-place.ensures in
    let is : HasWords z h g first v = words_found z h g v o.limits c.requires.locked c.place-place.result o.place o.block c.class_in-class.result b first c.class_in-class.ensures c.block_in-number.ensures c.bytes_at.ensures in
    let s = stored_in z call (call_of c.place-place.new.pass) h bytes v y u o.own.call o.met c.store_bytes.ensures.stored in
    let block : block_in (place_held h v.headers.held) ≡ b = ap block_in (sym o.place) ∙ sym c.block_in-number.ensures in
    let fit = bytes_fit z call h g first v is bytes d b c.block_in-number.type_inv c.requires.fits.1 c.requires.fits.2 block u s in
    refills_alone z call h g first v y y is o.loaded (none_stays y) bytes fit u c.store_bytes.ensures.alone (state c.store_field.new.pass)
    (subst (λ (x : ℕ). ChangesPlace z call h x u (state c.store_field.new.pass)) (named_by (place_held h v.headers.held) d b (length bytes) c.requires.fits.2 block) (stored_word c))

-- where it was the same
pub returns-then-named-place-clause-locked : goal.returns-then-named-place-clause-locked
returns-then-named-place-clause-locked c = let z : Sizes = key c.args.table.now in let call = call_of c.args.pass.now in let h = c.args.self.now.header in let g = c.args.self.now.generation in let bytes : List ℕ = c.args.bytes.now in let d : Class = c.requires.fits.0 in let first = c.bytes_at.result in let b = c.block_in-number.result in
    let v = state c.args.pass.now in let y = state c.place-place.new.pass in let u = state c.store_bytes.new.pass in let o = c.place-place.ensures in
    let is : HasWords z h g first v = words_found z h g v o.limits c.requires.locked c.place-place.result o.place o.block c.class_in-class.result b first c.class_in-class.ensures c.block_in-number.ensures c.bytes_at.ensures in
    let s = stored_in z call (call_of c.place-place.new.pass) h bytes v y u o.own.call o.met c.store_bytes.ensures.stored in
    let block : block_in (place_held h v.headers.held) ≡ b = ap block_in (sym o.place) ∙ sym c.block_in-number.ensures in
    let word : c.place_word-named.result ≡ place_word (class_number d) b (length bytes) = c.place_word-named.ensures ∙ ap (λ (k : ℕ). place_word k b (length bytes)) (class_again c.place-place.result (place_held h v.headers.held) c.class_in-class.result d c.class_in-class.ensures o.place o.block.named c.requires.fits.2) in
    locked_same z call h g first v is bytes d b c.block_in-number.type_inv c.requires.fits.1 c.requires.fits.2 block u s (sym word ∙ (c.if-named-place.true ∙ o.place))

pub returns-then-named-place-clause-filled : goal.returns-then-named-place-clause-filled
returns-then-named-place-clause-filled c = let z : Sizes = key c.args.table.now in let call = call_of c.args.pass.now in let h = c.args.self.now.header in let g = c.args.self.now.generation in let bytes : List ℕ = c.args.bytes.now in let d : Class = c.requires.fits.0 in let first = c.bytes_at.result in let b = c.block_in-number.result in
    let v = state c.args.pass.now in let y = state c.place-place.new.pass in let u = state c.store_bytes.new.pass in let o = c.place-place.ensures in
    let is : HasWords z h g first v = words_found z h g v o.limits c.requires.locked c.place-place.result o.place o.block c.class_in-class.result b first c.class_in-class.ensures c.block_in-number.ensures c.bytes_at.ensures in
    let s = stored_in z call (call_of c.place-place.new.pass) h bytes v y u o.own.call o.met c.store_bytes.ensures.stored in
    let block : block_in (place_held h v.headers.held) ≡ b = ap block_in (sym o.place) ∙ sym c.block_in-number.ensures in
    let word : c.place_word-named.result ≡ place_word (class_number d) b (length bytes) = c.place_word-named.ensures ∙ ap (λ (k : ℕ). place_word k b (length bytes)) (class_again c.place-place.result (place_held h v.headers.held) c.class_in-class.result d c.class_in-class.ensures o.place o.block.named c.requires.fits.2) in
    (d, b, refills_same z call h g first v is bytes d b c.block_in-number.type_inv c.requires.fits.1 c.requires.fits.2 block u s (sym word ∙ (c.if-named-place.true ∙ o.place)) (λ k. (c.type_inv.bytes k).fits))

pub returns-then-named-place-clause-alone : goal.returns-then-named-place-clause-alone
returns-then-named-place-clause-alone c = let z : Sizes = key c.args.table.now in let call = call_of c.args.pass.now in let h = c.args.self.now.header in let g = c.args.self.now.generation in let bytes : List ℕ = c.args.bytes.now in let d : Class = c.requires.fits.0 in let first = c.bytes_at.result in let b = c.block_in-number.result in
    let v = state c.args.pass.now in let y = state c.place-place.new.pass in let u = state c.store_bytes.new.pass in let o = c.place-place.ensures in
    let is : HasWords z h g first v = words_found z h g v o.limits c.requires.locked c.place-place.result o.place o.block c.class_in-class.result b first c.class_in-class.ensures c.block_in-number.ensures c.bytes_at.ensures in
    let s = stored_in z call (call_of c.place-place.new.pass) h bytes v y u o.own.call o.met c.store_bytes.ensures.stored in
    let block : block_in (place_held h v.headers.held) ≡ b = ap block_in (sym o.place) ∙ sym c.block_in-number.ensures in
    let word : c.place_word-named.result ≡ place_word (class_number d) b (length bytes) = c.place_word-named.ensures ∙ ap (λ (k : ℕ). place_word k b (length bytes)) (class_again c.place-place.result (place_held h v.headers.held) c.class_in-class.result d c.class_in-class.ensures o.place o.block.named c.requires.fits.2) in
    let fit = bytes_fit z call h g first v is bytes d b c.block_in-number.type_inv c.requires.fits.1 c.requires.fits.2 block u s in
    keeps_alone z call h g first v y y is o.loaded (none_stays y) bytes fit u c.store_bytes.ensures.alone (sym (named_by (place_held h v.headers.held) d b (length bytes) c.requires.fits.2 block) ∙ (sym word ∙ (c.if-named-place.true ∙ o.place)))
