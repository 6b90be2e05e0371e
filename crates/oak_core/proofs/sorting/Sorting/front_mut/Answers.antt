use Rattle.std.proofs.Common.{refl, ap, ◌∙◌, ◌≡◌, ◌≤◌, ℕ, ◌-◌, List, ◌++◌, length, take, drop, arith, take_all, length-append, length-drop}
use Rattle.std.proofs.lemmas.List.{take-append-le}
use Rattle.std.specs.List.{refill}
use Rattle.std.specs.Vec.{with_items_from}
use Rattle.oak_core.specs.declared.sorting.SortSlot.{SortSlot}
use Rattle.oak_core.proofs.memory.Refills.{refill_of_front}
use Rattle.oak_core.proofs.sorting.Sorting.front_mut.Goals as goal

-- nothing is cut off in front
none_less : (n : ℕ) → n - 0 ≡ n
none_less n = omega arith

pub returns : goal.returns
returns c =
    let s = c.self.inside in
    let xs = s.slots.items in
    let whole : s.slots.len ≡ length xs = s.slots.ok.0 in
    let lent : (w : List SortSlot) → (with_items_from s.slots 0 w).items ≡ refill (length xs) xs w
    = λ w.
    let ws = w ++ drop (length w) xs in
    let reach : s.slots.len ≤ length ws = omega (arith, length-append w (drop (length w) xs), length-drop (length w) xs) in
    take-append-le s.slots.len ws (drop (length ws) xs) reach
    ∙ (ap (λ n. take n ws) whole ∙ (refill_of_front w xs (length xs) ∙ ap (λ ys. refill (length xs) ys w) (take_all (length xs) xs (omega arith)))) in (
      (refl, λ w. lent w ∙ ap (λ ys. refill (length ys) ys w) c.self.view_is),
      record { writes_back = tt; value = c.slice_mut.ensures.value ∙ (ap (λ n. take n xs) (none_less c.args.n) ∙ ap (take c.args.n) c.self.view_is) },
    )
