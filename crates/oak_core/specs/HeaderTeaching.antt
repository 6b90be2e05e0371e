-- What the steps on headers teach their pass: a pin that finds a life over, its removal, and a lock, all of its key's history; the two that end a lock with a write, that write.
use Rattle.std.specs.Prelude.{ℕ, ◌-◌, ◌==◌, ◌&&◌, not, Bool, List}
use Rattle.pin_word.specs.PinWord.{state_of, generation_of}
use Rattle.oak_model.specs.KeyNumber.{key_number}
use Rattle.header_core.specs.declared.states.TheConstants.{DEAD}
use Rattle.header_core.specs.HeaderStep.{HeaderStep, pin_header, lock_header, unlock_header, mark_dead}
use Rattle.oak_core.specs.declared.states.Gone.{Gone}
use Rattle.oak_core.specs.declared.states.Knowledge.{Knowledge}
use Rattle.oak_core.specs.declared.states.PassState.{PassState}
use Rattle.oak_core.specs.declared.states.Sight.{Sight}
use Rattle.oak_core.specs.declared.states.Taught.{Taught}
use Rattle.oak_core.specs.KeyHistories.{removed_at}
use Rattle.oak_core.specs.KeyReads.{home_of}
use Rattle.oak_core.specs.Learning.{of_key_to, taught_where}
use Rattle.oak_core.specs.LifeKeys.{key_known, key_or, is_known}
use Rattle.oak_core.specs.MadeWrites.{held_header, wrote_over, wrote_removal}
use Rattle.oak_core.specs.Memory.{Memory}
use Rattle.oak_core.specs.PassState.{history}
use Rattle.oak_core.specs.Sights.{sights_with, gones_with}

-- the word found says that the life at the generation is over
abbrev pub is_over : (g found : ℕ) → Bool
is_over g found = not ((generation_of found == g) && not (state_of found == DEAD))

-- the pass knows the key of the life, and the word of the header says that it is over
abbrev pub finds_over : (h g found : ℕ) → Knowledge → Bool
finds_over h g found q = is_known (key_known h g q) && is_over g found

-- the key's history up to the removal of the life
abbrev pub over_taught : (h g : ℕ) → List Knowledge → Knowledge → Taught
over_taught h g qs q = of_key_to (key_or (key_known h g q)) (removed_at (home_of h g) (history (key_number (key_or (key_known h g q))) qs) - 1)

-- the pass knows the key of the live header, and locks it
abbrev pub locks_known : (h old found : ℕ) → Knowledge → Bool
locks_known h old found q = is_known (key_known h (generation_of old) q) && (found == old)

abbrev pub lock_taught : (h old stamp : ℕ) → Knowledge → Taught
lock_taught h old stamp q = of_key_to (key_or (key_known h (generation_of old) q)) stamp

-- what the pass knows behind the step of the call
abbrev pub knows_by_header : ℕ → HeaderStep → Memory → List Knowledge → PassState → Knowledge
knows_by_header call (pin_header h g) m qs v = taught_where (finds_over h g (m.headers.pin h) v.knowledge) (over_taught h g qs v.knowledge) qs v.knowledge
knows_by_header call (lock_header h old) m qs v = taught_where (locks_known h old (m.headers.pin h) v.knowledge) (lock_taught h old (m.headers.stamp h) v.knowledge) qs v.knowledge
knows_by_header call (unlock_header h kind) m qs v = wrote_over v.numbers.number call kind (held_header h v.headers.held) qs v.knowledge
knows_by_header call (mark_dead h) m qs v = wrote_removal v.numbers.number call (held_header h v.headers.held) qs v.knowledge
knows_by_header call _ m qs v = v.knowledge

-- which numbers it found for which keys: a pin finds none, but the load of the stamp word under it
abbrev pub sights_by_header : ℕ → HeaderStep → Memory → List Knowledge → PassState → List Sight
sights_by_header call (lock_header h old) m qs v = sights_with (locks_known h old (m.headers.pin h) v.knowledge) call (lock_taught h old (m.headers.stamp h) v.knowledge) v.findings
sights_by_header call _ m qs v = v.findings.sights

-- which lives it found to be over
abbrev pub gones_by_header : ℕ → HeaderStep → Memory → PassState → List Gone
gones_by_header call (pin_header h g) m v = gones_with (finds_over h g (m.headers.pin h) v.knowledge) call (key_or (key_known h g v.knowledge)) (home_of h g) v.findings
gones_by_header call _ m v = v.findings.gones
