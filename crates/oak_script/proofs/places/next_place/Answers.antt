use Rattle.std.proofs.Common.{◌≡◌, true, false, refl, sym, ◌∙◌}
use Rattle.oak_model.specs.Key.{same_key}
use Rattle.oak_script.proofs.StampLemmas.{same_bytes}
use Rattle.oak_script.proofs.places.next_place.Goals as goal

pub returns-then-eq : goal.returns-then-eq
returns-then-eq c =
    let same : same_key c.args.key.now c.args.last.now ≡ true = sym (same_bytes c.args.key.now c.args.last.now) ∙ sym c.eq.ensures ∙ c.if-eq.true in
    rw same refl

pub returns-else-eq : goal.returns-else-eq
returns-else-eq c =
    let same : same_key c.args.key.now c.args.last.now ≡ false = sym (same_bytes c.args.key.now c.args.last.now) ∙ sym c.eq.ensures ∙ c.if-eq.false in
    rw same refl
