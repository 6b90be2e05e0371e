use Rattle.std.proofs.Common.{ℕ, List, get_or, sym, ap, ◌∙◌, arith}
use Rattle.oak_core.specs.Passes.{state, key, call_of}
use Rattle.oak_core.proofs.told.PlainLoads.{met_at}
use Rattle.value_ops.proofs.LoadFacts.{word_loaded}
use Rattle.value_ops.proofs.PinFacts.{pin_stays, loads_at}
use Rattle.value_ops.proofs.ValueFacts.{words_are, word_at, word_inside, word_placed, word_spot, word_below, word_in_front, word_small}
use Rattle.value_ops.proofs.pinned_value.PinnedValue.word.Goals as goal

pub overflow_add-self : goal.overflow_add-self
overflow_add-self c = let h = word_small (key c.args.table.now) c.args.self (state c.args.pass.now) c.requires.pinned c.args.i c.requires.inside in omega arith

pub load-requires-clause-inside : goal.load-requires-clause-inside
load-requires-clause-inside c = word_below (key c.args.table.now) c.args.self (state c.args.pass.now) c.requires.pinned c.args.i c.requires.inside

pub returns-clause-word : goal.returns-clause-word
returns-clause-word c = let z = key c.args.table.now in let x = c.args.self in let v = state c.args.pass.now in let is = c.requires.pinned in let i = c.args.i in let lt = c.requires.inside in
    word_loaded z (call_of c.args.pass.now) _ c.load.result v (state c.load.new.pass) c.load.ensures.loaded is.pin is.has.is is.has.good i (word_inside z x v is i lt) (word_spot z x v is i lt)
    ∙ ap (λ (ws : List ℕ). get_or ws i 0) (sym (words_are z x v is))

pub returns-clause-reads : goal.returns-clause-reads
returns-clause-reads c = let z = key c.args.table.now in let x = c.args.self in let v = state c.args.pass.now in let w = state c.load.new.pass in let is = c.requires.pinned in let i = c.args.i in let lt = c.requires.inside in let call = call_of c.args.pass.now in let l = c.load.ensures.loaded in record {
  stays = c.load.ensures.own;
  pinned = record {
    limits = is.limits;
    pin = is.pin;
    has = record { inside = is.has.inside; is = pin_stays v w _ (met_at z call _ c.load.result v w (word_at z x v is i lt) (word_placed z x v is i lt) tt (word_spot z x v is i lt) l) ∙ is.has.is; header_is = is.has.header_is; wanted_is = is.has.wanted_is; good = is.has.good };
    placed = is.placed;
    block_is = is.block_is;
    length_is = is.length_is;
    words = is.words;
    stamp_is = is.stamp_is;
  };
  only = loads_at z call _ c.load.result v w (word_at z x v is i lt) (word_placed z x v is i lt) tt (word_spot z x v is i lt) (word_in_front z x v is i lt) l;
}
