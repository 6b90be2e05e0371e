-- Where a call found its key. v is the state of the pass at the call, w the one at its end.
use Rattle.std.specs.Prelude.{◌≡◌, ℕ, ◌<◌, ◌^◌, true, List, Option, None, Some, IfSome}
use Rattle.oak_model.specs.KeyNumber.{key_number}
use Rattle.oak_model.specs.Limits.{Sizes}
use Rattle.oak_core.specs.declared.states.PassState.{PassState}
use Rattle.oak_core.specs.CountReads.{SightedBare}
use Rattle.oak_core.specs.KeyReads.{home_of}
use Rattle.oak_core.specs.Known.{knows_life}
use Rattle.oak_core.specs.LifeKeys.{key_in_loaded, loaded_in}
use Rattle.oak_core.specs.LastReads.{NotPast, ReadsLast}
use Rattle.chunk_ops.specs.declared.entries.EntryNo.{EntryNo}
use Rattle.chunk_ops.specs.declared.entries.Found.{Found}
use Rattle.chunk_ops.specs.declared.entries.Found.TheVariants.{Entry, Missing}
use Rattle.chunk_ops.specs.Contents.{EntryNamed}
use Rattle.chunk_ops.specs.Finds.{BelongsBehind, LiesBefore}
use Rattle.chunk_ops.specs.PinRecords.{HasEntry}
use Rattle.value_ops.specs.Pinning.{KnowsLife}
use Rattle.point_ops.specs.declared.spots.Spot.{Spot}
use Rattle.point_ops.specs.declared.spots.Spot.TheVariants.{Absent, Present}

-- The key was read absent at the floor of its entry; or at the base of the room, where it has no entry.
pub record FoundAway (call r : ℕ) (entry : Option EntryNo) (floor : ℕ) (key : List ℕ) (v w : PassState) : Type 0 where
  pub small : floor < 2 ^ 63
  pub last : ReadsLast (key_number key) floor None v w
  pub has : IfSome entry (λ i. HasEntry r i.0 key w)
  pub bare : entry ≡ None → SightedBare call (key_number key) floor v w

-- The key's entry names a life of the header, which the pass knows as one of the key, and past which it has not seen the key go.
pub record FoundNamed (z : Sizes) (call r i h g : ℕ) (key : List ℕ) (v w : PassState) : Type 0 where
  pub named : EntryNamed z call r i key h g v w
  pub has : HasEntry r i key w
  pub inside : h < z.headers
  pub known : 0 < knows_life h g w.knowledge
  pub life : KnowsLife h g key w.knowledge
  pub loaded : key_in_loaded h g w.knowledge.loaded ≡ Some key
  pub loads : loaded_in call h g w.knowledge.loaded ≡ true
  pub last : NotPast (key_number key) (home_of h g) w.knowledge

-- the entry that was found, if there is one
abbrev pub entry_in : Found → Option EntryNo
entry_in (Entry i) = Some i
entry_in (Missing behind link) = None

abbrev pub SpotIs : Spot → Sizes → (call r : ℕ) → List ℕ → PassState → PassState → Type 0
SpotIs (Absent entry floor) z call r key v w = FoundAway call r (entry_in entry) floor key v w
SpotIs (Present i o) z call r key v w = FoundNamed z call r i.0 o.header o.generation key v w

-- the pin found the entry of the key, or the one behind which the key belongs, and what the link that leads over the key names
abbrev pub IsPlaceOf : ℕ → Found → List ℕ → PassState → Type 0
IsPlaceOf r (Entry i) key w = HasEntry r i.0 key w
IsPlaceOf r (Missing behind link) key w = BelongsBehind r behind key w × LiesBefore r link key w

abbrev pub SpotPlace : Spot → ℕ → List ℕ → PassState → Type 0
SpotPlace (Absent entry floor) r key w = IsPlaceOf r entry key w
SpotPlace (Present i o) r key w = Unit {0}
