-- Where a key is found: a search of the pinned room, and behind it the load of the room's base or of an entry's value word.
use Rattle.std.proofs.Common.{◌≡◌, ℕ, List, sym, ◌∙◌, subst, Some, None}
use Rattle.oak_model.specs.KeyNumber.{key_number}
use Rattle.oak_model.specs.Limits.{Sizes}
use Rattle.oak_model.specs.State.{State}
use Rattle.chunk_core.specs.PinnedRooms.{span_of}
use Rattle.chunk_core.specs.declared.holds.RoomHolds.{RoomHolds}
use Rattle.oak_core.specs.declared.states.PassState.{PassState}
use Rattle.oak_core.specs.CallSteps.{Learns, Stands}
use Rattle.oak_core.specs.CountReads.{SightedBare}
use Rattle.oak_core.specs.KeyReads.{home_of}
use Rattle.oak_core.specs.LastReads.{KnowsLifeOf, ReadsLast}
use Rattle.oak_core.proofs.known.LoadedIn.{loaded_in_has}
use Rattle.oak_core.proofs.calls.CallSteps.{learns_both, learns_none, stands_none, step_since}
use Rattle.chunk_ops.specs.AskedRanges.{CoversKey}
use Rattle.chunk_ops.specs.Contents.{EntryNamed, FindsContent, TellsOf}
use Rattle.chunk_ops.specs.Finds.{FindsKey, FindsMissing, FoundAbsent}
use Rattle.chunk_ops.specs.PinRecords.{HasEntry, OnlyLearns, OnlyMeets, PinKept, UnderPin, room_pin}
use Rattle.chunk_ops.specs.RoomWords.{FindsBase}
use Rattle.chunk_ops.specs.declared.entries.Content.TheVariants.{Value, Floor}
use Rattle.chunk_ops.specs.declared.entries.EntryNo.{EntryNo}
use Rattle.chunk_ops.specs.declared.entries.Found.{Found}
use Rattle.chunk_ops.specs.declared.entries.Found.TheVariants.{Entry, Missing}
use Rattle.chunk_ops.proofs.PinsKept.{before_kept, belongs_kept, entry_kept, kept_same, under_both, under_only}
use Rattle.point_ops.specs.Spots.{FoundAway, FoundNamed, IsPlaceOf}
use Rattle.point_ops.proofs.Composed.{last_in}
use Rattle.value_ops.proofs.LoadedViews.{known_loaded, names_home}

-- a key that was read was read since every earlier state of the call
pub last_since : (call k at : ℕ) (s : State) (u v w : PassState) → Learns call u v → ReadsLast k at s v w → ReadsLast k at s u w
last_since call k at s u v w a r = last_in call k at s u v w w a (stands_none call w) r

-- and until every later one behind which no more was learned
pub last_until : (call k at : ℕ) (s : State) (u v w : PassState) → Stands call v w → ReadsLast k at s u v → ReadsLast k at s u w
last_until call k at s u v w x r = last_in call k at s u u v w (learns_none call u) x r

-- an entry that the pin found is one still
pub entry_under : (z : Sizes) (call r i : ℕ) (key : List ℕ) (v w : PassState) → UnderPin z call r v w → HasEntry r i key v → HasEntry r i key w
entry_under z call r i key v w u x = record { entry = x.entry; finds = record { pin = u.pin.has.pin; there = u.pin.stays.entries x.entry x.finds.there; number = x.finds.number }; key_is = x.key_is }

-- so is the place of a key, while the pass has the same of rooms
pub place_kept : (r : ℕ) (found : Found) (key : List ℕ) (v w : PassState) → w.rooms ≡ v.rooms → IsPlaceOf r found key v → IsPlaceOf r found key w
place_kept r (Entry i) key v w same h = entry_kept r i.0 key v w same h
place_kept r (Missing behind link) key v w same h = (belongs_kept r behind key v w same h.0, before_kept r link key v w same h.1)

module _ (z : Sizes) (call r : ℕ) (v u w : PassState) (first : UnderPin z call r v u) (later : ℕ) (same : later ≡ call) where
  -- behind the search comes what leaves the pin
  pub under_meets : OnlyMeets later u w → UnderPin z call r v w
  under_meets o = under_both z call r v u w first (under_only z call r u w first.pin.has (subst (λ (i : ℕ). OnlyMeets i u w) same o))

  pub under_learns : OnlyLearns later u w → UnderPin z call r v w
  under_learns o = record {
    learns = learns_both call v u w first.learns (subst (λ (i : ℕ). Learns i u w) same o.learns);
    blocks = o.blocks ∙ first.blocks;
    headers = o.headers ∙ first.headers;
    pin = subst (λ (a : RoomHolds). PinKept z r v.rooms a) (sym o.rooms) first.pin;
  }

  -- without an entry: the base that is loaded is the one at which the search read the key
  module _ (key : List ℕ) where
    pub away_at_base : (base : ℕ) → CoversKey key (span_of (room_pin v)) → FindsMissing z call r key v u → FindsBase z later r base u w → OnlyMeets later u w → FoundAway call r None base key v w
    away_at_base base covers missing b o = record {
      small = b.small;
      last = subst (λ (n : ℕ). ReadsLast (key_number key) n None v w) (sym base_is) (last_until later (key_number key) (room_pin v).base None v u w s record {
        read = absent.absent.read;
        sighted = (bare.more, absent.absent.sighted.sights, record { sight = bare.sighted.sight; there = bare.sighted.there; just = bare.sighted.just });
        ends = record { known = absent.ends.known; state = absent.ends.state };
      });
      has = tt;
      bare = λ _. subst (λ (n : ℕ). SightedBare call (key_number key) n v w) (sym base_is) bare;
    }
      where
        absent : FoundAbsent call (key_number key) (room_pin v).base v u
        absent = missing.read covers

        s : Stands later u w
        s = o.stands

        base_is : base ≡ (room_pin v).base
        base_is = b.pinned ∙ first.pin.stays.base

        bare : SightedBare call (key_number key) (room_pin v).base v w
        bare = let x = absent.absent.sighted in record { more = x.more; sights = s.sights ∙ x.sights; calls = x.calls; sighted = x.sighted }

    -- with an entry
    module _ (i : EntryNo) (found : FindsKey z call r i.0 key v u) (o : OnlyLearns later u w) where
      has_still : HasEntry r i.0 key w
      has_still = entry_under z call r i.0 key u w (under_still) found.entry
        where
          under_still : UnderPin z call r u w
          under_still = record { learns = subst (λ (j : ℕ). Learns j u w) same o.learns; blocks = o.blocks; headers = o.headers; pin = subst (λ (a : RoomHolds). PinKept z r u.rooms a) (sym o.rooms) (kept_same z r u.rooms first.pin.has) }

      pub away_at_floor : (stamp : ℕ) → FindsContent z later r i.0 (Floor stamp) u w → TellsOf (Floor stamp) z later r i.0 key u w → FoundAway call r (Some i) stamp key v w
      away_at_floor stamp c t = record { small = c.says.2; last = last_since call (key_number key) stamp None v u w first.learns t; has = has_still; bare = λ e. absurd cc }

      pub named_life : (h g : ℕ) → FindsContent z later r i.0 (Value h g) u w → TellsOf (Value h g) z later r i.0 key u w → FoundNamed z call r i.0 h g key v w
      named_life h g c t = record {
        named = record { step = step_since z call _ v u w first.learns.met named.step; home = named.home; taught = named.taught };
        has = has_still;
        inside = c.usable.0;
        known = c.usable.1;
        life = t.known;
        loaded = known_loaded later h g key w.knowledge (names_home h g c.step.number c.says.0 c.says.1 c.says.2) t.life t.known;
        loads = loaded_in_has call h g (home_of h g) key (names_home h g c.step.number c.says.0 c.says.1 c.says.2) w.knowledge.loaded (subst (λ (j : ℕ). KnowsLifeOf j key (home_of h g) w.knowledge) same t.life);
        last = t.last;
      }
        where
          named : EntryNamed z call r i.0 key h g u w
          named = subst (λ (j : ℕ). EntryNamed z j r i.0 key h g u w) same t.named
