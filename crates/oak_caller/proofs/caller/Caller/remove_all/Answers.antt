use Rattle.std.proofs.Common.{◌≡◌, ℕ, ◌+◌, List, ◌∷◌, ◌++◌, [], take, refl, sym, ap, ◌∙◌, subst}
use Rattle.std.proofs.lemmas.Fn.{FoldsTo-push}
use Rattle.std.proofs.lemmas.List.{take_all, take_more}
use Rattle.oak_caller.specs.Callers.{Called}
use Rattle.oak_caller.specs.Clearing.{Counted, RemovesAll, RemovesKey, WearsOut, at_count}
use Rattle.oak_caller.proofs.ClearedKeys.{many_both, many_next, many_none, views_both}
use Rattle.oak_caller.proofs.GatheredKeys.{on_err}
use Rattle.oak_caller.proofs.caller.Caller.remove_all.Goals as goal

pub loop-key-init : goal.loop-key-init
loop-key-init g c = record { on = many_none c.args.self.now; views = λ x h. h; removes = refl }

pub loop-key-preserved : goal.loop-key-preserved
loop-key-preserved g c = let i = c.loop-key.key-index in let inv = c.loop-key.invariant in let keys : List (List ℕ) = c.args.keys.now in let x : List ℕ = c.key-item.result in
    let a = at_count c.args.removed.now c.args.self.now in let m = at_count c.loop-key.removed c.loop-key.self in let b = at_count c.remove_one.new.removed c.remove_one.new.self in
    let more : take (i + 1) keys ≡ take i keys ++ x ∷ [] = take_more keys i x c.loop-key-test.true ∙ ap (λ (y : List ℕ). take i keys ++ y ∷ []) (sym c.key-item.is) in
    let e : RemovesKey m x b = subst (λ (y : List ℕ). RemovesKey m y b) c.bytes.ensures.value c.in_ok-remove_one.ensures.removes in
    record {
      on = many_both c.args.self.now c.loop-key.self c.remove_one.new.self inv.on (many_next c.loop-key.self c.remove_one.new.self e.next);
      views = views_both c.args.self.now c.loop-key.self c.remove_one.new.self inv.views e.views;
      removes = subst (λ (ks : List (List ℕ)). RemovesAll a ks b) (sym more) (FoldsTo-push RemovesKey a (take i keys) m x b inv.removes e);
    }
