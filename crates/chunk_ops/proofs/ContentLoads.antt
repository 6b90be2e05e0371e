-- Loads of the value words of found entries: what the words say, and what they tell of the entries' keys.
use Rattle.std.proofs.Common.{◌≡◌, ℕ, ◌/◌, ◌^◌, ◌<◌, ◌≤◌, ◌++◌, List, [], ◌∷◌, get_or, sym, refl, ap, ◌∙◌, subst, arith, Some, None}
use Rattle.oak_model.specs.KeyNumber.{key_number}
use Rattle.oak_model.specs.Limits.{Sizes}
use mathlib.Core.Option.{some}
use lib.ListN.{get_elem?}
use mathlib.Core.Logic.{dite}
use native.Mathlib.Decide.{dec_lt}
use Rattle.oak_model.proofs.Lists.{set_there}
use Rattle.oak_model.proofs.NumberLaws.{key_number_is}
use Rattle.arena_core.specs.Place.{content}
use Rattle.chunk_core.specs.Covers.{key_at}
use Rattle.oak_core.specs.KeyHistories.{IsKeyOf}
use Rattle.oak_core.specs.LifeKeys.{key_known}
use Rattle.oak_core.specs.Rule.{Rule}
use Rattle.oak_core.specs.TableState.{TableState}
use Rattle.oak_core.proofs.kinds.EachEvent.{rule_keeps}
use Rattle.oak_core.proofs.covers.FoundEntries.{key_of_number}
use Rattle.oak_core.proofs.known.KnownLives.{life}
use Rattle.oak_core.proofs.histories.LastLives.{KnowsKeyOf, loaded_key}
use Rattle.oak_model.proofs.Counting.{one_at-same, one_at-other}
use Rattle.chunk_core.specs.PinnedRooms.{found_in}
use Rattle.chunk_core.specs.Rooms.{at_value}
use Rattle.chunk_core.specs.ValueWord.{names_header, header_in, generation_in}
use Rattle.oak_core.specs.declared.states.Knowledge.{Knowledge}
use Rattle.oak_core.specs.declared.states.PassState.{PassState}
use Rattle.oak_core.specs.AloneWords.{Runs}
use Rattle.oak_core.specs.CallSteps.{Learns}
use Rattle.oak_core.specs.FoundKeys.{entry_key}
use Rattle.oak_core.specs.KeyReads.{home_of}
use Rattle.oak_core.specs.Known.{knows_life}
use Rattle.oak_core.specs.LastReads.{KnowsLifeOf, NotPast, ReadsLast}
use Rattle.oak_core.specs.Memory.{in_rooms, index, memory}
use Rattle.oak_core.specs.Step.{load, state_after, Step, table_after, Told}
use Rattle.oak_core.proofs.seats.AloneRuns.{load_runs, runs_as}
use Rattle.oak_core.proofs.calls.CallSteps.{step_alone}
use Rattle.oak_core.proofs.covers.FoundValues.{entry_key_is}
use Rattle.oak_core.proofs.memory.HomeWords.{NamesAt, home_is}
use Rattle.oak_core.proofs.calls.QuietCalls.{quiet_load}
use Rattle.oak_core.proofs.told.ValueTold as told
use Rattle.oak_core.proofs.memory.Words.{memory_read}
use Rattle.chunk_ops.specs.declared.entries.Content.{Content}
use Rattle.chunk_ops.specs.declared.entries.Content.TheVariants.{Value, Floor}
use Rattle.chunk_ops.specs.Contents.{FindsContent, IsUsable, Says, SaysIn, TellsOf}
use Rattle.chunk_ops.specs.PinRecords.{HasEntry, HasRoomPin, OnlyLearns, WordsStay, room_pin}
use Rattle.chunk_ops.proofs.WordLoads.{pin_holds}

-- what a value word says

pub says_floor : (n : ℕ) → n < 2 ^ 63 → Says (Floor n) n
unfolding names_header
says_floor n lt = (one_at-other (n / 2 ^ 63) 1 (λ e. absurd (omega arith)), refl, lt)

pub says_value : (n : ℕ) → n < 2 ^ 64 → 2 ^ 63 ≤ n → Says (Value (header_in n) (generation_in n)) n
unfolding names_header
says_value n lt le = (one_at-same (n / 2 ^ 63) 1 (omega arith), refl, refl)

-- it says something
pub some_content : (n : ℕ) → n < 2 ^ 64 → (c : Content) × Says c n
some_content n lt = dite (dec_lt n (2 ^ 63)) (λ l. (Floor n, says_floor n l)) (λ no. (Value (header_in n) (generation_in n), says_value n lt (omega arith)))

-- a word that names a header names its life
says_home : (h g n : ℕ) → Says (Value h g) n → n ≡ home_of h g
says_home h g n s = sym (home_is n s.0) ∙ (λ i. home_of (s.1 i) (s.2 i))

-- the load of a value word: by what it is it teaches of the entry's key

pub record FloorTold (call : ℕ) (key : List ℕ) (n : ℕ) (v w : PassState) : Type 0 where
  pub learns : Learns call v w
  pub reads : ReadsLast (key_number key) n None v w

pub record LifeTold (z : Sizes) (call : ℕ) (key : List ℕ) (n : ℕ) (v w : PassState) : Type 0 where
  pub learns : Learns call v w
  pub inside : header_in n < z.headers
  pub known : 0 < knows_life (header_in n) (generation_in n) w.knowledge
  pub life : KnowsLifeOf call key n w.knowledge
  pub last : NotPast (key_number key) n w.knowledge
  pub loaded : w.knowledge.loaded ≡ v.knowledge.loaded ++ record { call = call; key = key; home = n } ∷ []

module _ (z : Sizes) (call r i n : ℕ) (v w : PassState) (p : HasRoomPin z r v) (key : List ℕ) (h : HasEntry r i key v) (t : Told z call (load (in_rooms (at_value r i))) v n w) where
  found : entry_key i (found_in (room_pin v)) ≡ Some key
  found = let holds = pin_holds z call r (load (in_rooms (at_value r i))) v n w p t in let m = memory z t.table.words in
      entry_key_is z m.rooms (content m.arena.bytes) (room_pin v) holds i h.entry h.finds.there h.finds.number ∙ ap Some h.key_is

  -- of the room that is pinned
  there : Told z call (load (in_rooms (at_value (room_pin v).room i))) v n w
  there = subst (λ (k : ℕ). Told z call (load (in_rooms (at_value k i))) v n w) (sym p.pin.room) t

  pub told_floor : names_header n ≡ 0 → FloorTold call key n v w
  told_floor floor = record {
    learns = told.floor_learns z call v i n w (room_pin v) p.pin.is p.pin.good key found there floor;
    reads = told.floor_reads z call v i n w (room_pin v) p.pin.is p.pin.good key found there floor;
  }

  pub told_life : names_header n ≡ 1 → LifeTold z call key n v w
  told_life names = record {
    learns = told.life_learns z call v i n w (room_pin v) p.pin.is p.pin.good key found there names;
    inside = told.life_inside z call v i n w (room_pin v) p.pin.is p.pin.good key found there names;
    known = told.life_known z call v i n w (room_pin v) p.pin.is p.pin.good key found there names;
    life = told.life_of z call v i n w (room_pin v) p.pin.is p.pin.good key found there names;
    last = told.life_not_past z call v i n w (room_pin v) p.pin.is p.pin.good key found there names;
    loaded = ap (λ (q : Knowledge). q.loaded) (told.loads z call v i n w (room_pin v) p.pin.is p.pin.good key found there names);
  }

  abbrev x : Step
  x = load (in_rooms (at_value r i))

  -- the table behind the load
  abbrev behind : TableState
  behind = table_after z call (load (in_rooms (at_value r i))) t.seat v t.table

  -- the key that the pass knows for the life is the entry's
  told_known : names_header n ≡ 1 → key_known (header_in n) (generation_in n) w.knowledge ≡ Some key
  told_known names = k.is ∙ ap Some (key_number_is k.known key known_is_key.bytes own_key.bytes known_is_key.is_key own_key.is_key k.number)
    where
      rule : Rule z behind
      rule = rule_keeps z t.table call t.seat v t.rule t.here t.going x t.may

      here : get_elem? behind.states t.seat ≡ some w
      here = subst (λ (y : PassState). get_elem? behind.states t.seat ≡ some y) (sym t.after) (set_there t.table.states t.seat v (state_after z call x t.table v) t.here)

      named : NamesAt (header_in n) (generation_in n)
      named = let e = home_is n names in record { names = ap names_header e ∙ names; header = ap header_in e; generation = ap generation_in e }

      k : KnowsKeyOf (header_in n) (generation_in n) key w.knowledge
      k = loaded_key z behind rule t.seat w here (header_in n) (generation_in n) named call key (subst (λ (h : ℕ). KnowsLifeOf call key h w.knowledge) (sym (home_is n names)) (told_life names).life)

      known_is_key : IsKeyOf (key_number k.known) k.known
      known_is_key = (life z behind rule t.seat w here (header_in n) (generation_in n) (told_life names).inside k.known k.is).key_is

      own_key : IsKeyOf (key_at (content (memory z t.table.words).arena.bytes) ((memory z t.table.words).rooms.key r i)) key
      own_key = let m = memory z t.table.words in subst (IsKeyOf (key_at (content (memory z t.table.words).arena.bytes) ((memory z t.table.words).rooms.key r i))) h.key_is
          (key_of_number z m t.table.states t.rule.rooms t.rule.covers t.seat v t.here r i (room_pin v) h.entry h.finds)

  -- what it finds
  usable : (c : Content) → Says c n → IsUsable c z w
  usable (Value h g) s = let l = told_life s.0 in subst (λ (j : ℕ × ℕ). (j.0 < z.headers) × (0 < knows_life j.0 j.1 w.knowledge)) (λ k. (s.1 k, s.2 k)) (l.inside, l.known)
  usable (Floor stamp) s = tt

  pub content_found : (c : Content) → Says c n → FindsContent z call r i c v w
  content_found c s = record { step = step_alone z call (load (in_rooms (at_value r i))) v n w t; says = s; usable = usable c s }

  pub content_tells : (c : Content) → Says c n → TellsOf c z call r i key v w
  content_tells (Value h g) s = let l = told_life s.0 in let e = says_home h g n s in record {
    named = record {
      step = step_alone z call (load (in_rooms (at_value r i))) v n w t;
      home = e;
      taught = l.loaded ∙ ap (λ (k : ℕ). v.knowledge.loaded ++ record { call = call; key = key; home = k } ∷ []) e;
    };
    life = subst (λ (k : ℕ). KnowsLifeOf call key k w.knowledge) e l.life;
    known = subst (λ (j : ℕ × ℕ). key_known j.0 j.1 w.knowledge ≡ Some key) (λ k. (s.1 k, s.2 k)) (told_known s.0);
    last = subst (λ (k : ℕ). NotPast (key_number key) k w.knowledge) e l.last;
  }
  content_tells (Floor stamp) s = subst (λ (k : ℕ). ReadsLast (key_number key) k None v w) s.1 (told_floor s.0).reads

  learns_here : (c : Content) → Says c n → Learns call v w
  learns_here (Value h g) s = (told_life s.0).learns
  learns_here (Floor stamp) s = (told_floor s.0).learns

  pub content_only : (c : Content) → Says c n → OnlyLearns call v w
  content_only c s = record {
    learns = learns_here c s;
    quiet = quiet_load z call (in_rooms (at_value r i)) v n w t;
    blocks = ap (λ (y : PassState). y.blocks) t.after;
    headers = ap (λ (y : PassState). y.headers) t.after;
    rooms = ap (λ (y : PassState). y.rooms) t.after;
    still = runs_as (λ a b. (n ≡ get_or a (index z (in_rooms (at_value r i))) 0) × (b ≡ a)) WordsStay v w (λ a b d. d.1) (load_runs z call (in_rooms (at_value r i)) v n w t);
  }

  pub content_alone : (c : Content) → Says c n → Runs (SaysIn c z r i) v w
  content_alone c s = runs_as (λ a b. (n ≡ get_or a (index z (in_rooms (at_value r i))) 0) × (b ≡ a)) (SaysIn c z r i) v w
      (λ a b d. (d.1, subst (Says c) (d.0 ∙ sym (memory_read z a (in_rooms (at_value r i)) t.may)) s)) (load_runs z call (in_rooms (at_value r i)) v n w t)
