-- At the start no key has an entry, no pass has seen or made a write, and each header is free at the generation of the opening.
use Rattle.std.proofs.Common.{◌≡◌, ℕ, ◌<◌, ◌≤◌, List, [], ◌∷◌, sym, refl, ap, ◌∙◌, subst, arith}
use mathlib.Core.Logic.{dite}
use native.Mathlib.Decide.{ℕ_discrete}
use Rattle.pin_word.specs.PinWord.{state_of, generation_of}
use Rattle.pin_word.proofs.Laws.{state_of-packed, generation_of-packed}
use Rattle.oak_model.specs.Counts.{one_at, total, longest, Each}
use Rattle.oak_model.specs.Limits.{Sizes}
use Rattle.oak_model.proofs.Lists.{every_one}
use Rattle.arena_core.specs.Place.{content}
use Rattle.header_core.specs.HeaderRule.{stocked}
use Rattle.header_core.specs.declared.holds.HeaderHolds.{HeaderHolds}
use Rattle.header_core.specs.declared.holds.HeldHeader.{HeldHeader}
use Rattle.header_core.specs.declared.states.TheConstants.{FREE, LAST_GENERATION}
use Rattle.chunk_core.specs.CoverSums.{word_for, naming}
use Rattle.oak_core.specs.declared.states.KeyedWrite.{KeyedWrite}
use Rattle.oak_core.specs.declared.states.PassState.{PassState}
use Rattle.oak_core.specs.Bounds.{BasesBound, HasOpened, floor_over}
use Rattle.oak_core.specs.Callers.{CallersAgree, WritesStand, of_caller, made_by}
use Rattle.oak_core.specs.KeyHistories.{IsKeyHistory, last_of, stamp_behind}
use Rattle.oak_core.specs.KeyReads.{word_now, base_now, history_now, shown_by}
use Rattle.oak_core.specs.KeyRule.{KeysStand, LoadedStand, OverIsRemoved}
use Rattle.oak_core.specs.KeyStates.{KeyStands, HoldStands}
use Rattle.oak_core.specs.Memory.{Memory, memory}
use Rattle.oak_core.specs.Opening.{IsOpened, first_state}
use Rattle.oak_core.specs.PassState.{of_key}
use Rattle.oak_core.proofs.keyed.KeyBundles.{KeyBundles}
use Rattle.oak_core.proofs.lessons.LessonSeats.{heard_first}
use Rattle.oak_core.proofs.openings.OpeningRooms.{no_entry_sums, no_base_sums}
use Rattle.oak_core.proofs.owners.OwnerLaws.{live_inside}

unstocked : (s : ℕ) → s ≡ FREE → stocked s ≡ 0
unfolding one_at
unstocked s e = ap stocked e

none_behind : (n : ℕ) → stamp_behind [] ≤ n
unfolding last_of
none_behind n = omega arith

module _ (z : Sizes) (g : ℕ) (words : List ℕ) (some_room : 0 < z.chunks) (early : g < LAST_GENERATION) (open_words : IsOpened z g words) where
  abbrev m : Memory
  m = memory z words

  abbrev bytes : ℕ → List ℕ
  bytes = content m.arena.bytes

  abbrev first : PassState
  first = first_state z g

  abbrev vs : List PassState
  vs = first ∷ []

  -- each history is empty
  no_history : (k : ℕ) → history_now vs k ≡ []
  unfolding longest
  no_history k = refl

  none_of_caller : (i k : ℕ) → of_caller i (history_now vs k) ≡ []
  unfolding of_caller
  none_of_caller i k = ap (of_caller i) (no_history k)

  -- each header is free
  pub free_header : (h : ℕ) → h < z.headers → (state_of (m.headers.pin h) ≡ FREE) × (generation_of (m.headers.pin h) ≡ g)
  free_header h inside = (ap state_of (open_words.headers h inside) ∙ state_of-packed g FREE 0 (omega arith) (omega arith), ap generation_of (open_words.headers h inside) ∙ generation_of-packed g FREE 0 (omega arith) (omega arith))

  no_block : (h : ℕ) → stocked (state_of (m.headers.pin h)) ≡ 0
  no_block h = dite (ℕ_discrete (stocked (state_of (m.headers.pin h))) 0) (λ e. e) (λ ne. unstocked (state_of (m.headers.pin h)) (free_header h (live_inside z words h (omega arith))).0)

  no_word : (k : ℕ) → word_now z m vs k ≡ 0
  no_word k = no_entry_sums z m.rooms bytes some_room open_words.room open_words.others (word_for k)

  keys_open : KeysStand z m vs
  unfolding total
  keys_open = record {
    named = λ h. let n = no_entry_sums z m.rooms bytes some_room open_words.room open_words.others (naming h) in let b = no_block h in omega arith;
    states = λ k. subst (λ (l : List KeyedWrite). KeyStands z m.headers (shown_by m) (base_now z m vs k) (word_now z m vs k) l) (sym (no_history k)) record {
      none = λ _. (refl, none_behind (base_now z m vs k));
      floor = λ f is _. absurd (let e = no_word k in omega arith);
      named = λ x is _. absurd (let e = no_word k in omega arith);
    };
    locks = every_one (λ (a : HeaderHolds). Each (λ (r : HeldHeader). HoldStands (word_now z m vs) (history_now vs) r.held_as r) a.held) first.headers tt;
    legal = λ k. subst (IsKeyHistory k) (sym (no_history k)) record { legal = record { stamps = tt; cell = tt }; lives = tt; keys = tt };
    over = λ k. subst (λ (l : List KeyedWrite). Each (OverIsRemoved m.headers.pin l) l) (sym (no_history k)) tt;
    loaded = every_one (LoadedStand (history_now vs)) first.knowledge tt;
  }

  callers_open : CallersAgree vs
  unfolding total of_key
  callers_open = record {
    writes = every_one (WritesStand (history_now vs)) first record { own = λ _. record { same = λ k. none_of_caller 0 k; rise = tt; small = tt }; joined = tt };
    others = λ i k _. none_of_caller i k;
    distinct = λ x names. omega arith;
  }

  bounds_open : BasesBound z m vs
  bounds_open = record {
    stamps = λ k. subst (λ (l : List KeyedWrite). stamp_behind l ≤ total made_by vs) (sym (no_history k)) (none_behind (total made_by vs));
    floors = no_entry_sums z m.rooms bytes some_room open_words.room open_words.others (floor_over (total made_by vs));
    bases = no_base_sums z m.rooms bytes some_room open_words.room open_words.others (total made_by vs);
  }

  opened_open : HasOpened z m vs
  opened_open = record { generation = g; early = early; until = λ _ h inside. let f = free_header h inside in ((λ dead. absurd (omega arith)), f.1) }

  pub opening_keys : KeyBundles z (memory z words) (first_state z g ∷ [])
  opening_keys = record { keys = keys_open; callers = callers_open; bounds = bounds_open; opened = opened_open; heard = heard_first z m first refl refl refl }
