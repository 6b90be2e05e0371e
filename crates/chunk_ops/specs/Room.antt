-- What stands of a room while a pin on it stands: the entries that were found.
use Rattle.std.specs.Prelude.{◌≡◌, ℕ, ◌<◌, List, length}
use Rattle.oak_model.specs.declared.limits.TheConstants.{GREATEST_ENTRIES}
use Rattle.oak_model.specs.Key.{IsKey, AreBytes}
use Rattle.arena_core.specs.Place.{length_in}
use Rattle.link_search.specs.Linked.{Linked, IsFound}

-- what was found, by the numbers of entries, and of each the key word, which says where its key stands
pub record Room : Type 0 where
  pub found : Linked
  pub place : ℕ → ℕ

abbrev pub key_at : Room → ℕ → List ℕ
key_at r i = r.found.key i

abbrev pub HasFound : Room → ℕ → Type 0
HasFound r i = IsFound r.found i

-- each key word has the key's length
pub record IsRoom (r : Room) : Type 0 where
  pub few : (i : ℕ) → HasFound r i → i < GREATEST_ENTRIES
  pub long : (i : ℕ) → HasFound r i → length_in (r.place i) ≡ length (key_at r i)
  pub key : (i : ℕ) → HasFound r i → IsKey (key_at r i)
  pub bytes : (i : ℕ) → HasFound r i → AreBytes (key_at r i)
