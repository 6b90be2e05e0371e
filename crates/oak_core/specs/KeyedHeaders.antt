-- Which key a held header has, and whether an entry names it: a lock gets its key, and the header that is unlinked is named no more.
use Rattle.std.specs.Prelude.{ℕ, ◌==◌, ◌&&◌, not, cond, List, map}
use Rattle.oak_model.specs.KeyNumber.{key_number}
use Rattle.header_core.specs.declared.states.TheConstants.{DEAD}
use Rattle.header_core.specs.declared.holds.HeldHeader.{HeldHeader}
use Rattle.header_core.specs.declared.holds.HeaderHolds.{HeaderHolds}
use Rattle.header_core.specs.Headers.{HeaderMemory}
use Rattle.header_core.specs.HeaderHolds.{held_state}
use Rattle.header_core.specs.HeaderStep.{HeaderStep, lock_header}
use Rattle.pin_word.specs.PinWord.{generation_of}
use Rattle.oak_core.specs.declared.states.Knowledge.{Knowledge}
use Rattle.oak_core.specs.LifeKeys.{key_known, key_or}

abbrev pub keyed_at : ℕ → List ℕ → List HeldHeader → List HeldHeader
keyed_at h key rs = map (λ (r : HeldHeader). record r { key = cond (r.header == h) key r.key }) rs

-- a header that the step locks gets the key that its pass knows of it
abbrev pub headers_keyed : HeaderMemory → HeaderStep → Knowledge → HeaderHolds → HeaderHolds
headers_keyed m (lock_header h old) q a = record a { held = cond (m.pin h == old) (keyed_at h (key_or (key_known h (generation_of old) q)) a.held) a.held }
headers_keyed m _ q a = a

-- the buried header of a key is named no more
abbrev pub unlinked : List ℕ → List HeldHeader → List HeldHeader
unlinked key rs = map (λ (r : HeldHeader). record r { named = r.named && not ((key_number r.key == key_number key) && (held_state r.held_as == DEAD)) }) rs
