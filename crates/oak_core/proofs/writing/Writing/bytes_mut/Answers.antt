use Rattle.std.proofs.Common.{rules, refl, sym, ap, ◌∙◌, ◌≡◌, ◌≤◌, ℕ, List, ◌++◌, length, take, drop, arith, length-take-le, length-append, length-drop}
use Rattle.std.proofs.lemmas.List.{take-take, take-append-le}
use Rattle.std.specs.List.{refill}
use Rattle.std.specs.Vec.{with_items_from}
use Rattle.oak_core.proofs.memory.Refills.{refill_of_front}
use Rattle.oak_core.proofs.writing.Writing.bytes_mut.Goals as goal

pub returns : goal.returns
returns c =
    let s = c.self.inside in
    let xs = s.bytes.items in
    let whole : s.bytes.len ≡ length xs = s.bytes.ok.0 in
    let within : s.len ≤ length xs = search rules in
    let long : length (take s.len xs) ≡ s.len = length-take-le s.len xs within in
    let lent : (w : List ℕ) → take s.len (with_items_from s.bytes 0 w).items ≡ refill s.len (take s.len xs) w
    = λ w.
    let ws = w ++ drop (length w) xs in
    let reach : length xs ≤ length ws = omega (arith, length-append w (drop (length w) xs), length-drop (length w) xs) in
    take-take s.len s.bytes.len (ws ++ drop (length ws) xs) (omega arith)
    ∙ take-append-le s.len ws (drop (length ws) xs) (omega arith)
    ∙ refill_of_front w xs s.len in (
      (refl, λ w. lent w ∙ ap (λ n. refill n (take s.len xs) w) (sym long) ∙ ap (λ ys. refill (length ys) ys w) c.self.view_is),
      record { writes_back = tt; value = search rules },
    )
