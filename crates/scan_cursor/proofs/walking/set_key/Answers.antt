use Rattle.std.proofs.Common.{◌≡◌, ◌∙◌, length, rules}
use Rattle.chunk_ops.specs.declared.stored.TheConstants.{KEY_WORDS}
use Rattle.scan_cursor.proofs.SlotLaws.{slot_key}
use Rattle.scan_cursor.proofs.walking.set_key.Goals as goal

pub returns : goal.returns
returns c = let s = c.args.slot.now in let wide : length s.words ≡ KEY_WORDS = search rules in c.set_words.ensures ∙ slot_key s.words s.length c.min.result wide c.min.ensures
