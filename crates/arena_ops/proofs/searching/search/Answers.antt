use Rattle.std.proofs.Common.{◌≡◌, ◌≤◌, ◌<◌, ◌/◌, ◌∙◌, ◌⊎◌, ℕ, slice_index}
use Rattle.oak_model.specs.Class.{class_number}
use Rattle.oak_model.specs.Limits.{Sizes}
use Rattle.oak_core.specs.Passes.{state, key, call_of, searches}
use Rattle.arena_ops.specs.Looking.{Looked}
use Rattle.arena_ops.specs.Taking.{FindsNone, Takes}
use Rattle.arena_ops.proofs.LookLaws.{looked_both, takes_behind}
use Rattle.arena_ops.proofs.SearchLaws.{if_none, if_some, looked_in, takes_in, all_round}
use Rattle.arena_ops.proofs.searching.search.Goals as goal

pub returns-in-Some-take_between-clause-taken : goal.returns-in-Some-take_between-clause-taken
returns-in-Some-take_between-clause-taken c = let z : Sizes = key c.args.table.now in let call = call_of c.args.pass.now in let w = state c.take_next.new.pass in let x = state c.take_between.new.pass in
    let next : ℕ = slice_index (searches c.args.pass.now) (class_number c.args.class) in takes_behind z call c.args.class _ (state c.args.pass.now) w x (λ b. b ≡ next) c.in_default.ensures.none (takes_in z call (call_of c.take_next.new.pass) c.args.class w x c.take_next.ensures.own.call _ c.in-Some-take_between.ensures.taken)

pub returns-clause-taken : goal.returns-clause-taken
returns-clause-taken c = let z : Sizes = key c.args.table.now in let call = call_of c.args.pass.now in let first = c.min-first.result in let words = c.bit_words-words.result in
    let v = state c.args.pass.now in let w = state c.take_next.new.pass in let x = state c.take_between.new.pass in let y = state c.take_between-2.new.pass in
    let next : ℕ = slice_index (searches c.args.pass.now) (class_number c.args.class) in
    if_some c.take_between-2.result (λ b. Takes z (call_of c.take_between.new.pass) c.args.class b x y) (λ b. Takes z call c.args.class b v y)
    (λ b t. takes_behind z call c.args.class b v x y (λ d. (d ≡ next) ⊎ ((first ≤ d / 64) × (d / 64 < words)))
    (looked_both z call c.args.class v w x (λ d. d ≡ next) (λ d. (first ≤ d / 64) × (d / 64 < words)) c.in_default.ensures.none
    (looked_in z call (call_of c.take_next.new.pass) c.args.class w x c.take_next.ensures.own.call (λ d. (first ≤ d / 64) × (d / 64 < words)) c.in_default-take_between.ensures.none))
    (takes_in z call (call_of c.take_between.new.pass) c.args.class x y (c.take_between.ensures.own.call ∙ c.take_next.ensures.own.call) b t))
    c.take_between-2.ensures.taken

pub returns-clause-none : goal.returns-clause-none
returns-clause-none c = let z : Sizes = key c.args.table.now in let call = call_of c.args.pass.now in let first = c.min-first.result in let words = c.bit_words-words.result in
    let v = state c.args.pass.now in let w = state c.take_next.new.pass in let x = state c.take_between.new.pass in let y = state c.take_between-2.new.pass in
    let next : ℕ = slice_index (searches c.args.pass.now) (class_number c.args.class) in
    if_none c.take_between-2.result (Looked z (call_of c.take_between.new.pass) c.args.class x y (λ b. (0 ≤ b / 64) × (b / 64 < first))) (FindsNone z call c.args.class v y)
    (λ m. all_round z call c.args.class v first words w x y (λ b. b ≡ next) c.bit_words-words.ensures.is c.in_default.ensures.none
    (looked_in z call (call_of c.take_next.new.pass) c.args.class w x c.take_next.ensures.own.call (λ b. (first ≤ b / 64) × (b / 64 < words)) c.in_default-take_between.ensures.none)
    (looked_in z call (call_of c.take_between.new.pass) c.args.class x y (c.take_between.ensures.own.call ∙ c.take_next.ensures.own.call) (λ b. (0 ≤ b / 64) × (b / 64 < first)) m))
    c.take_between-2.ensures.none
