use Rattle.std.proofs.Common.{◌∙◌, ap}
use Rattle.std.specs.Ordering.{is_lt}
use Rattle.chunk_ops.proofs.CompareFacts.{FirstWords, first_greater, first_less}
use Rattle.scan_cursor.proofs.gathering.is_below.Goals as goal

pub returns-then-ours-theirs : goal.returns-then-ours-theirs
returns-then-ours-theirs c = λ k q s t. let w : FirstWords k q c.first_word-ours.result c.first_word-theirs.result = record { first_bytes = s.bytes; second_bytes = t.bytes; first = c.first_word-ours.ensures k s; second = c.first_word-theirs.ensures q t } in
    ap is_lt (first_less w c.if-ours-theirs.true)

pub returns-then-theirs-ours : goal.returns-then-theirs-ours
returns-then-theirs-ours c = λ k q s t. let w : FirstWords k q c.first_word-ours.result c.first_word-theirs.result = record { first_bytes = s.bytes; second_bytes = t.bytes; first = c.first_word-ours.ensures k s; second = c.first_word-theirs.ensures q t } in
    ap is_lt (first_greater w c.if-theirs-ours.true)

pub returns : goal.returns
returns c = λ k q s t. c.is_lt.ensures ∙ ap is_lt (c.order.ensures k q s t)
