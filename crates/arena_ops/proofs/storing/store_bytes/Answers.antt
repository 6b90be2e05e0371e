use Rattle.std.proofs.Common.{◌≡◌, ◌+◌, ◌*◌, ◌/◌, ◌<◌, length, refl, sym, subst, ◌∙◌, ℕ, arith}
use Rattle.oak_core.specs.Passes.{state, key, call_of}
use Rattle.oak_core.proofs.seats.SamePass.{stays_both}
use Rattle.arena_ops.specs.Taking.{Stores}
use Rattle.arena_core.proofs.WordLaws.{words_at, words_long}
use Rattle.arena_ops.proofs.StoredBytes.{BytesStored, none_stored, one_stored, bytes_stored, word_inside}
use Rattle.arena_ops.proofs.storing.store_bytes.Goals as goal

pub loop-i-init : goal.loop-i-init
loop-i-init c = record {
  stays = record { table = refl; seat = refl; call = refl; scratch = refl; sorting = refl };
  stored = none_stored (key c.args.table.now) (call_of c.args.pass.now) c.args.block.now.class c.args.block.now.number c.args.bytes.now (state c.args.pass.now) c.requires.held;
}

pub store-requires-clause-own : goal.store-requires-clause-own
store-requires-clause-own c = c.loop-i.invariant.stays.table ∙ c.requires.own

pub store-requires-clause-held : goal.store-requires-clause-held
store-requires-clause-held c = c.loop-i.invariant.stored.block

pub store-requires-clause-inside : goal.store-requires-clause-inside
store-requires-clause-inside c = let test = c.loop-i-test.true in word_inside c.args.bytes.now c.args.block.now.class c.loop-i.i c.requires.fits (omega arith)

pub loop-i-preserved : goal.loop-i-preserved
loop-i-preserved c = let z = key c.args.table.now in let bytes = c.args.bytes.now in let i = c.loop-i.i in let s = c.loop-i.invariant in
    let test = c.loop-i-test.true in let lt : 8 * i < length bytes = omega arith in record {
      stays = stays_both s.stays c.store.ensures.own;
      stored = one_stored z (call_of c.args.pass.now) c.args.block.now.class c.args.block.now.number bytes c.requires.fits i (state c.args.pass.now) (state c.loop-i.pass) (state c.store.new.pass) s.stored lt c.full_word.result (c.full_word.ensures ∙ sym (words_at bytes i lt))
          (subst (λ (k : ℕ). Stores z k c.args.block.now.class c.args.block.now.number i c.full_word.result (state c.loop-i.pass) (state c.store.new.pass)) s.stays.call c.store.ensures.stored);
    }

-- the last word, behind the loop

pub store-requires-then-full-bytes-clause-own : goal.store-requires-then-full-bytes-clause-own
store-requires-then-full-bytes-clause-own c = c.loop-i.invariant.stays.table ∙ c.requires.own

pub store-requires-then-full-bytes-clause-held : goal.store-requires-then-full-bytes-clause-held
store-requires-then-full-bytes-clause-held c = c.loop-i.invariant.stored.block

pub store-requires-then-full-bytes-clause-inside : goal.store-requires-then-full-bytes-clause-inside
store-requires-then-full-bytes-clause-inside c = let more = c.if-full-bytes.true in word_inside c.args.bytes.now c.args.block.now.class (length c.args.bytes.now / 8) c.requires.fits (omega arith)

last_stored : (c : goal.After-store-then-full-bytes) → BytesStored (key c.args.table.now) (call_of c.args.pass.now) c.args.block.now.class c.args.block.now.number c.args.bytes.now (length c.args.bytes.now / 8 + 1) (state c.args.pass.now) (state c.store-then-full-bytes.new.pass)
last_stored c = let z = key c.args.table.now in let bytes = c.args.bytes.now in let k : ℕ = length bytes / 8 in let s = c.loop-i.invariant in let more = c.if-full-bytes.true in let lt : 8 * k < length bytes = omega arith in let o = c.store-then-full-bytes in
    let done : c.loop-i.i ≡ k = let end = c.loop-i.auto.i-end in let past = c.loop-i-test.false in omega arith in
    let so = subst (λ (j : ℕ). BytesStored z (call_of c.args.pass.now) c.args.block.now.class c.args.block.now.number bytes j (state c.args.pass.now) (state c.loop-i.pass)) done s.stored in
    one_stored z (call_of c.args.pass.now) c.args.block.now.class c.args.block.now.number bytes c.requires.fits k (state c.args.pass.now) (state c.loop-i.pass) (state o.new.pass) so lt c.word_from.result (c.word_from.ensures ∙ sym (words_at bytes k lt))
    (subst (λ (m : ℕ). Stores z m c.args.block.now.class c.args.block.now.number k c.word_from.result (state c.loop-i.pass) (state o.new.pass)) s.stays.call o.ensures.stored)

pub returns-then-full-bytes-clause-own : goal.returns-then-full-bytes-clause-own
returns-then-full-bytes-clause-own c = stays_both c.loop-i.invariant.stays c.store-then-full-bytes.ensures.own

pub returns-then-full-bytes-clause-times : goal.returns-then-full-bytes-clause-times
returns-then-full-bytes-clause-times c = (last_stored c).times

pub returns-then-full-bytes-clause-stored : goal.returns-then-full-bytes-clause-stored
returns-then-full-bytes-clause-stored c = let bytes = c.args.bytes.now in let more = c.if-full-bytes.true in let many = words_long bytes in
    bytes_stored (key c.args.table.now) (call_of c.args.pass.now) c.args.block.now.class c.args.block.now.number bytes c.requires.fits (λ k. (c.type_inv.bytes k).fits) (length bytes / 8 + 1) (omega arith) (state c.args.pass.now) (state c.store-then-full-bytes.new.pass) (last_stored c)

-- where there is none behind it

pub returns-else-full-bytes-clause-own : goal.returns-else-full-bytes-clause-own
returns-else-full-bytes-clause-own c = c.loop-i.invariant.stays

pub returns-else-full-bytes-clause-times : goal.returns-else-full-bytes-clause-times
returns-else-full-bytes-clause-times c = c.loop-i.invariant.stored.times

pub returns-else-full-bytes-clause-stored : goal.returns-else-full-bytes-clause-stored
returns-else-full-bytes-clause-stored c = let bytes = c.args.bytes.now in let none = c.if-full-bytes.false in let many = words_long bytes in let end = c.loop-i.auto.i-end in let past = c.loop-i-test.false in
    bytes_stored (key c.args.table.now) (call_of c.args.pass.now) c.args.block.now.class c.args.block.now.number bytes c.requires.fits (λ k. (c.type_inv.bytes k).fits) c.loop-i.i (omega arith) (state c.args.pass.now) (state c.loop-i.pass) c.loop-i.invariant.stored
