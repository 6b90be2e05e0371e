-- What the summary of a workload's run tells of it.
use Rattle.std.specs.Prelude.{◌≡◌, ℕ, ◌+◌, ◌*◌, suc, if◌then◌else◌, List, [], ◌∷◌, ◌++◌, length, slice_index, option_to_list}
use Rattle.std.specs.List.{list_any}
use Rattle.oak_model.specs.declared.classes.Class.TheVariants.{B16}
use Rattle.oak_model.specs.declared.replies.Pair.{Pair}
use Rattle.oak_model.specs.declared.replies.Reply.{Reply}
use Rattle.oak_model.specs.declared.shapes.Usage.{Usage}
use Rattle.oak_model.specs.Class.{class_number}
use Rattle.oak_model.specs.Key.{same_key}
use Rattle.oak_script.specs.declared.scripts.Call.{Call}
use Rattle.oak_script.specs.Places.{key_of}
use Rattle.oak_script.specs.Summary.{AreNumbers, fulls_of, values_sum}

-- the keys that the calls of a thread name, call by call
abbrev pub keys_along : List Call → List (List ℕ)
keys_along [] = []
keys_along (c ∷ cs) = option_to_list (key_of c) ++ keys_along cs

-- and those of all threads
abbrev pub keys_of : List (List Call) → List (List ℕ)
keys_of [] = []
keys_of (t ∷ ts) = keys_along t ++ keys_of ts

-- how many different keys there are: each counts where it stands last
abbrev pub different : List (List ℕ) → ℕ
different [] = 0
different (k ∷ ks) = if list_any (same_key k) ks then different ks else suc (different ks)

-- The values at the end are numbers. Their sum is the number of the calls that were not refused, each key takes two blocks, and
-- where no call was refused the keys at the end are all that the calls name.
pub record WorkloadFits (calls threads : ℕ) (named : List (List Call)) (said : List (List Reply)) (finals : List Pair) (usage : Usage) : Type 0 where
  pub numbers : AreNumbers finals
  pub sum : values_sum finals + fulls_of said ≡ calls * threads
  pub blocks : slice_index usage.blocks (class_number B16) ≡ 2 * length finals
  pub keys : fulls_of said ≡ 0 → length finals ≡ different (keys_of named)
