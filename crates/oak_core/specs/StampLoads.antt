-- What the load of a header's stamp word teaches its pass, under a pin of the header that found the wanted life, live or dead: all writes of the key of that life up to the stamp.
use Rattle.std.specs.Prelude.{ℕ, ◌==◌, ◌&&◌, not, Bool, false, List, Option, Some, None}
use Rattle.pin_word.specs.PinWord.{state_of, generation_of}
use Rattle.header_core.specs.declared.states.TheConstants.{LIVE, DEAD}
use Rattle.header_core.specs.declared.holds.PinnedHeader.{PinnedHeader}
use Rattle.oak_core.specs.declared.states.Findings.{Findings}
use Rattle.oak_core.specs.declared.states.Knowledge.{Knowledge}
use Rattle.oak_core.specs.declared.states.Sight.{Sight}
use Rattle.oak_core.specs.declared.states.Taught.{Taught}
use Rattle.oak_core.specs.Learning.{of_key_to, taught_where}
use Rattle.oak_core.specs.LifeKeys.{key_known, key_or, is_known, loaded_in}
use Rattle.oak_core.specs.Sights.{sights_with}

-- the pin is one of the header, and found it live or dead at the generation that it wanted
abbrev pub finds_life : ℕ → Option PinnedHeader → Bool
finds_life h None = false
finds_life h (Some p) = (p.header == h) && ((generation_of p.found == p.wanted) && not (not (state_of p.found == LIVE) && not (state_of p.found == DEAD)))

abbrev pub wanted_of : Option PinnedHeader → ℕ
wanted_of None = 0
wanted_of (Some p) = p.wanted

-- the key of the life that the pin wanted, where the pass knows it
abbrev pub stamp_key : ℕ → Option PinnedHeader → Knowledge → Option (List ℕ)
stamp_key h pin q = key_known h (wanted_of pin) q

abbrev pub shows_stamp : ℕ → Option PinnedHeader → Knowledge → Bool
shows_stamp h pin q = finds_life h pin && is_known (stamp_key h pin q)

-- the pin found the life live, or the call had loaded it from the entry of its key
abbrev pub finds_now : ℕ → Option PinnedHeader → Knowledge → Bool
finds_now call None q = false
finds_now call (Some p) q = not (not (state_of p.found == LIVE) && not (loaded_in call p.header p.wanted q.loaded))

-- The number counts as found for the key in the call: the life is the key's, or was within the call. A life that is over, and that the call knows from elsewhere alone, says nothing of what its key is now.
abbrev pub counts_stamp : (call h : ℕ) → Option PinnedHeader → Knowledge → Bool
counts_stamp call h pin q = shows_stamp h pin q && finds_now call pin q

abbrev pub stamp_taught : (h n : ℕ) → Option PinnedHeader → Knowledge → Taught
stamp_taught h n pin q = of_key_to (key_or (stamp_key h pin q)) n

abbrev pub knows_stamp : (h n : ℕ) → Option PinnedHeader → List Knowledge → Knowledge → Knowledge
knows_stamp h n pin qs q = taught_where (shows_stamp h pin q) (stamp_taught h n pin q) qs q

abbrev pub sights_stamp : (h n call : ℕ) → Option PinnedHeader → Knowledge → Findings → List Sight
sights_stamp h n call pin q fs = sights_with (counts_stamp call h pin q) call (stamp_taught h n pin q) fs
