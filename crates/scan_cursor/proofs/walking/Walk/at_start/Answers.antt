use Rattle.std.proofs.Common.{◌≡◌, ◌⊎◌, inl, inr, ap, ◌∙◌}
use Rattle.oak_model.specs.KeyNumber.{key_number}
use Rattle.scan_cursor.specs.declared.ways.Way.TheVariants.{Up, Down}
use Rattle.scan_cursor.proofs.MarkLaws.{come_begins}
use Rattle.scan_cursor.proofs.walking.Walk.at_start.Goals.{in-Up, in-Down}
use Rattle.scan_cursor.proofs.walking.Walk.at_start.Goals as goal

pub returns-clause-starts : goal.returns-clause-starts
returns-clause-starts c a =
    let k = c.match-way.key in
    let key : ((c.args.way ≡ Up) × (key_number k ≡ key_number c.args.low.now)) ⊎ ((c.args.way ≡ Down) × (key_number k ≡ key_number c.args.high.now)) = elim c.match-way.branch [
      | in-Up w ↦ inl (w.in-Up.is, ap key_number (w.key-is ∙ w.from_key-key.ensures))
      | in-Down w ↦ inr (w.in-Down.is, ap key_number (w.key-is ∙ w.from_key-key-in-Down.ensures))
    ] in
    come_begins c.args.way _ _ c.is_above.result k a key c.is_above.ensures
