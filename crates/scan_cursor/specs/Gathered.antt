-- The entries of a room that a scan has loaded, in the slots of its pass.
use Rattle.std.specs.Prelude.{◌≡◌, ℕ, suc, ◌-◌, ◌<◌, ◌≤◌, ◌||◌, Bool, true, false, List, [], ◌∷◌, drop, map, reverse, take, None}
use Rattle.oak_model.specs.Key.{is_key, same_key}
use Rattle.oak_model.specs.KeyNumber.{key_number}
use Rattle.oak_model.specs.WordBytes.{bytes_of}
use Rattle.chunk_core.specs.ValueWord.{header_in, generation_in}
use Rattle.oak_core.specs.declared.sorting.SortSlot.{SortSlot}
use Rattle.scan_cursor.specs.declared.ways.Way.{Way}
use Rattle.scan_cursor.specs.declared.ways.Way.TheVariants.{Up, Down}
use Rattle.scan_cursor.specs.Views.{KnowsLast, Later, ReadsKey, View}

-- a key, and the life that its entry named
pub record Loaded : Type 0 where
  pub key : List ℕ
  pub header : ℕ
  pub generation : ℕ

-- what stands in a slot: the bytes of the key in its words, and the header and the generation that its value word names
abbrev pub in_slot : SortSlot → Loaded
in_slot s = record { key = take s.length (bytes_of s.words); header = header_in s.value; generation = generation_in s.value }

-- the slots from one number on and below another, in the order of the scan
abbrev pub slots_ahead : Way → ℕ → ℕ → List SortSlot → List Loaded
slots_ahead Up from to slots = map in_slot (take (to - from) (drop from slots))
slots_ahead Down from to slots = reverse (map in_slot (take (to - from) (drop from slots)))

-- the key is one of theirs
abbrev pub has_slot : List ℕ → List Loaded → Bool
has_slot q [] = false
has_slot q (x ∷ xs) = same_key q x.key || has_slot q xs

-- at a moment between the two the pass knew that its entry named the life, which was the key's last then
abbrev pub KnewLast : View → View → Loaded → Type 0
KnewLast before now x = (m : View) × Later before m × Later m now × KnowsLast x.key x.header x.generation m

-- they are keys between the two numbers, in the order of the scan; each had its life as its last at a moment of its own between the two views
abbrev pub AreInOrder : Way → View → View → ℕ → ℕ → List Loaded → Type 0
AreInOrder way before now from past [] = Unit {0}
AreInOrder Up before now from past (x ∷ xs) = ((is_key x.key ≡ true) × (from ≤ key_number x.key) × (key_number x.key < past) × KnewLast before now x) × AreInOrder Up before now (suc (key_number x.key)) past xs
AreInOrder Down before now from past (x ∷ xs) = ((is_key x.key ≡ true) × (from ≤ key_number x.key) × (key_number x.key < past) × KnewLast before now x) × AreInOrder Down before now from (key_number x.key) xs

-- Each key between the two numbers is one of theirs, or was read absent.
pub record IsGathered (way : Way) (before now : View) (from past : ℕ) (slots : List Loaded) : Type 0 where
  pub ordered : AreInOrder way before now from past slots
  pub ats : List ℕ → ℕ
  pub absent : (q : List ℕ) → is_key q ≡ true → from ≤ key_number q → key_number q < past → has_slot q slots ≡ false → ReadsKey before now q (ats q) None
