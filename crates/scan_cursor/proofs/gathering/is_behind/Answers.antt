use Rattle.std.proofs.Common.{◌≡◌, ◌∙◌, false, refl, subst, sym, true}
use Rattle.oak_model.specs.Key.{key_cmp}
use Rattle.scan_cursor.specs.declared.ways.Way.{Way}
use Rattle.scan_cursor.specs.Loading.{IsBehind}
use Rattle.scan_cursor.proofs.KeysBehind.{less_not, less_number}
use Rattle.scan_cursor.proofs.gathering.is_behind.Goals as goal

pub returns-in-Up : goal.returns-in-Up
returns-in-Up c k q s t a b = let e = c.is_below.ensures k q s t in
    subst (λ (w : Way). (c.is_below.result ≡ true → IsBehind w k q) × (c.is_below.result ≡ false → IsBehind w k q → ⊥)) (sym c.in-Up.is)
    ((λ h. less_number c.args.from.now c.args.key.now k q s t a b (key_cmp k q) refl (sym e ∙ h)), (λ h. less_not c.args.from.now c.args.key.now k q s t a b (key_cmp k q) refl (sym e ∙ h)))

pub returns-in-Down : goal.returns-in-Down
returns-in-Down c k q s t a b = let e = c.is_below-in-Down.ensures q k t s in
    subst (λ (w : Way). (c.is_below-in-Down.result ≡ true → IsBehind w k q) × (c.is_below-in-Down.result ≡ false → IsBehind w k q → ⊥)) (sym c.in-Down.is)
    ((λ h. less_number c.args.key.now c.args.from.now q k t s b a (key_cmp q k) refl (sym e ∙ h)), (λ h. less_not c.args.key.now c.args.from.now q k t s b a (key_cmp q k) refl (sym e ∙ h)))
