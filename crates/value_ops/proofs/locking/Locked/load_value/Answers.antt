use Rattle.std.proofs.Common.{◌≡◌, ◌*◌, ◌+◌, ◌<◌, ℕ, List, length, get_or, take, refl, ap, ◌∙◌, subst}
use Rattle.std.specs.List.{refill}
use Rattle.oak_model.specs.Limits.{Sizes}
use Rattle.arena_core.specs.Place.{length_in}
use Rattle.header_core.specs.declared.holds.HeldHeader.{HeldHeader}
use Rattle.header_core.specs.HeaderHolds.{place_held}
use Rattle.value_ops.proofs.AlonePins.{both_stay}
use Rattle.oak_core.specs.Passes.{state, key, call_of, scratch_of}
use Rattle.value_ops.specs.HeldValue.{words_in}
use Rattle.value_ops.proofs.ComesFurther.{loads_in, loads_both, headers_met}
use Rattle.value_ops.proofs.RewriteFacts.{room, words_met}
use Rattle.arena_core.proofs.WordLaws.{put_more, refill_whole, word_of_loop}
use Rattle.value_ops.proofs.locking.Locked.load_value.Goals as goal

pub load_word-word-requires-clause-words : goal.load_word-word-requires-clause-words
load_word-word-requires-clause-words c = words_met (key c.args.table.now) c.args.self.now.header c.args.self.now.generation c.args.first (state c.args.pass.now) c.requires.words (call_of c.args.pass.now) (state c.loop-i.pass) c.loop-i.invariant.met

pub loop-i-preserved : goal.loop-i-preserved
loop-i-preserved c = let z : Sizes = key c.args.table.now in let call = call_of c.args.pass.now in let h = c.args.self.now.header in let v = state c.args.pass.now in let u = state c.loop-i.pass in let w = state c.load_word-word.new.pass in let s = c.loop-i.invariant in let o = c.load_word-word.ensures in
    let out : List ℕ = c.put_word.new.out in let lent : List ℕ = c.scratch_mut-in-loop-i.result.now in
    let wide : length out ≡ length lent = c.put_word.auto.out ∙ ap length c.bytes_mut.ensures.value in
    let whole : refill (length lent) lent out ≡ out = refill_whole lent out wide in
    let was : lent ≡ scratch_of c.loop-i.pass = c.scratch_mut-in-loop-i.ensures.value ∙ o.own.scratch in
    let old : c.bytes_mut.result.now ≡ scratch_of c.loop-i.pass = c.bytes_mut.ensures.value ∙ was in let i = c.loop-i.i in let rs = v.headers.held in let same = headers_met z call v u s.met in
    let lt : 8 * i < length_in (place_held h rs) = subst (λ (n : ℕ). 8 * i < n) c.requires.long (word_of_loop c.args.len i c.div_ceil-i-end.result c.loop-i-test.true c.div_ceil-i-end.ensures) in
    record {
      stays = record { table = o.own.table ∙ s.stays.table; seat = o.own.seat ∙ s.stays.seat; call = o.own.call ∙ s.stays.call; scratch = refl; sorting = o.own.sorting ∙ s.stays.sorting };
      met = loads_both z call v u w s.met (loads_in z call (call_of c.loop-i.pass) u w s.stays.call o.met);
      alone = both_stay v u w s.alone o.alone;
      long = ap length whole ∙ (wide ∙ (ap length was ∙ s.long));
      loaded = ap (take (8 * (i + 1))) whole ∙ put_more (words_in h rs) c.bytes_mut.result.now out (length_in (place_held h rs)) i c.load_word-word.result (ap length old ∙ (s.long ∙ c.requires.long)) lt
          (room z h c.args.self.now.generation c.args.first v c.requires.words) (o.word ∙ ap (λ (ks : List HeldHeader). get_or (words_in h ks) i 0) same) (ap (take (8 * i)) old ∙ s.loaded) c.put_word.ensures.put;
    }
