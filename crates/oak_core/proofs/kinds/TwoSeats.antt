-- A split and a join keep the rule.
use Rattle.std.proofs.Common.{false, true≢false, ◌≡◌, ◌≢◌, ℕ, ◌+◌, ◌<◌, ◌≤◌, ◌⊎◌, List, [], ◌∷◌, ◌++◌, map, length, set, sym, refl, ap, ◌∙◌, subst, arith, ⊎_elim, Option}
use Rattle.std.proofs.lemmas.List.{map-append}
use mathlib.Core.Option.{some}
use lib.ListN.{get_elem?}
use Rattle.oak_model.specs.Limits.{Sizes}
use Rattle.oak_model.specs.Counts.{one_at, total, Every, Each, Begins}
use Rattle.oak_model.specs.Kept.{KeptNumbersStand}
use Rattle.oak_model.proofs.Lists.{at_map, map_set_same, set_else, each_append}
use Rattle.oak_model.proofs.Changes.{Change, divided, joined, change_parts}
use Rattle.oak_model.proofs.KeptLaws.{kept_idle}
use Rattle.arena_core.specs.declared.blocks.HeldBlocks.{HeldBlocks}
use Rattle.arena_core.specs.Blocks.{holds}
use Rattle.arena_core.specs.HeldBlocks.{no_blocks, kept_of_blocks}
use Rattle.arena_core.proofs.OwnedBlocks.{blocks_frame}
use Rattle.arena_core.specs.Place.{IsPlace, names_block, content}
use Rattle.header_core.specs.declared.holds.PinnedHeader.{PinnedHeader}
use Rattle.header_core.specs.HeaderRule.{PinsWhatItKnows}
use Rattle.header_core.specs.HeaderHolds.{fresh_at, kept_of_headers}
use Rattle.header_core.proofs.HeaderLaws.{on_pin, headers_divided, headers_joined}
use Rattle.chunk_core.specs.declared.holds.RoomHolds.{RoomHolds}
use Rattle.chunk_core.specs.CoverSums.{each, owning}
use Rattle.chunk_core.specs.Covers.{used_at}
use Rattle.chunk_core.specs.RoomHolds.{no_rooms}
use Rattle.oak_core.specs.declared.states.Joined.{Joined}
use Rattle.oak_core.specs.declared.states.KeyedWrite.{KeyedWrite}
use Rattle.oak_core.specs.declared.states.Knowledge.{Knowledge}
use Rattle.oak_core.specs.declared.states.PassState.{PassState}
use Rattle.oak_core.specs.Memory.{Memory, same_spot, read, memory}
use Rattle.oak_core.specs.PassState.{blocks_of, headers_held, rooms_held, numbers_of, findings_of, knowledge_of, kept_of, in_hand, has_number, is_parent, splits_of, of_key, seen_of, history, number_in, left_state, right_state, joined_from, both_state, spent_state}
use Rattle.oak_core.specs.TableState.{TableState}
use Rattle.oak_core.specs.Rule.{AloneStands, FindingsHold, SpentIsSpent, JoinedStand, Rule, PassStands}
use Rattle.oak_core.specs.EntryOwners.{all_others}
use Rattle.oak_core.specs.Known.{knows_life, known}
use Rattle.oak_core.specs.Lack.{FullsStand}
use Rattle.oak_core.specs.Schedule.{MaySplit, MayJoin}
use Rattle.oak_core.proofs.owners.KeptWords.{kept_with}
use Rattle.oak_core.proofs.seats.GivenNumbers.{numbers_frame}
use Rattle.oak_core.proofs.calls.Found.{none_met}
use Rattle.oak_core.proofs.histories.Histories.{histories_frame, seen_both}
use Rattle.oak_core.proofs.seats.JoinedNumbers.{same_numbers_joined, more_parents_joined, same_splits_joined}
use Rattle.oak_core.proofs.seats.AloneLast.{alone_joins, alone_fresh}
use Rattle.oak_core.proofs.covers.RoomBundles.{RoomBundles, rooms_now, sums_moved, bundles_moved}
use Rattle.oak_core.proofs.known.KnownInTwo.{both_knows, known_split, known_join}
use Rattle.oak_core.proofs.keyed.SeatBundles.{bundles_split, bundles_join}

-- a pass that holds nothing owns no block
level : (c b o o' : ℕ) (a : HeldBlocks) → o' ≡ o → total (holds c b) (a ∷ no_blocks ∷ []) + o' ≡ total (holds c b) (a ∷ []) + o
unfolding total
level c b o o' a same = omega arith

level-both : (c b o o' : ℕ) (a e : HeldBlocks) → e ≡ no_blocks → o' ≡ o → total (holds c b) (a ∷ no_blocks ∷ []) + o' ≡ total (holds c b) (a ∷ e ∷ []) + o
level-both c b o o' a e is same = ap (λ (p : HeldBlocks × ℕ). total (holds c b) (a ∷ p.0 ∷ []) + p.1) (λ i. (sym is i, same i))

-- nor anything of rooms
apart_level : (a : RoomHolds) (f : RoomHolds → ℕ) → f no_rooms ≡ 0 → total f (a ∷ no_rooms ∷ []) ≡ total f (a ∷ [])
unfolding total
apart_level a f e = omega arith

-- a pin that is known to one of two is known to both together
pin_both : (v w : PassState) → PinsWhatItKnows (λ h g. knows_life h g v.knowledge) v.headers → PinsWhatItKnows (λ h g. knows_life h g (both_state v w).knowledge) v.headers
pin_both v w known_pin = on_pin (λ (p : PinnedHeader). 0 < fresh_at p.header p.wanted v.headers + knows_life p.header p.wanted v.knowledge)
    (λ (p : PinnedHeader). 0 < fresh_at p.header p.wanted v.headers + knows_life p.header p.wanted (both_state v w).knowledge) v.headers.pin
    (λ p _ l. let b = both_knows p.header p.wanted v w in omega arith) known_pin

module _ (z : Sizes) (s : TableState) (seat : ℕ) (v : PassState) (r : Rule z s) (here : get_elem? s.states seat ≡ some v) where
  abbrev m : Memory
  m = memory z s.words

  abbrev rs : List RoomHolds
  rs = map rooms_held s.states

  -- what the pass has of rooms, and what has nothing
  all_rooms : (P : RoomHolds → Type 0) → Every P rs → P no_rooms → Each P (v.rooms ∷ no_rooms ∷ [])
  all_rooms P every none = (every seat v.rooms (at_map rooms_held s.states seat v here), (none, tt))

  module _ (may : MaySplit v) where
    abbrev left : PassState
    left = left_state v

    abbrev right : PassState
    right = right_state v

    abbrev apart : Change s.states (set s.states seat left ++ right ∷ []) (v ∷ []) (left ∷ right ∷ [])
    apart = divided s.states seat v left right here

    same_numbers : (k : ℕ) → total (has_number k) (left.numbers ∷ right.numbers ∷ []) ≡ total (has_number k) (v.numbers ∷ [])
    unfolding total
    same_numbers k = let a : in_hand k v.numbers.hand ≡ one_at may.number k = ap (in_hand k) may.hand in let b : one_at (number_in v.numbers.hand) k ≡ one_at may.number k = ap (λ (o : Option ℕ). one_at (number_in o) k) may.hand in omega arith

    more_parents : (k : ℕ) → total (is_parent k) (v.numbers ∷ []) ≤ total (is_parent k) (left.numbers ∷ right.numbers ∷ [])
    unfolding total
    more_parents k = let p : ℕ = is_parent k v.numbers in let q : ℕ = is_parent k right.numbers in let h : p + 0 ≤ p + (q + 0) = omega arith in h

    same_splits : (k : ℕ) → total (splits_of k) (left.numbers ∷ right.numbers ∷ []) ≡ total (splits_of k) (v.numbers ∷ [])
    unfolding total
    same_splits k = let p : ℕ = splits_of k v.numbers in let h : p + (0 + 0) ≡ p + 0 = omega arith in h

    keeps_nothing : kept_of right ≡ []
    unfolding kept_of_blocks kept_of_headers
    keeps_nothing = refl

    same_kept : map kept_of (set s.states seat left ++ right ∷ []) ≡ map kept_of s.states ++ [] ∷ []
    same_kept = map-append kept_of (set s.states seat left) (right ∷ []) ∙ (λ i. map_set_same kept_of s.states seat v left here refl i ++ keeps_nothing i ∷ [])

    abbrev divided_rooms : List RoomHolds
    divided_rooms = map rooms_held (set s.states seat left ++ right ∷ [])

    rooms_then : RoomBundles z m.rooms m.arena.bytes divided_rooms
    rooms_then = bundles_moved z m.rooms m.arena.bytes rs divided_rooms (v.rooms ∷ []) (v.rooms ∷ no_rooms ∷ []) (change_parts rooms_held apart) (apart_level v.rooms) all_rooms (rooms_now z s r)

    owners_then : (c b : ℕ) → all_others z m divided_rooms c b ≡ all_others z m rs c b
    owners_then c b = let e = sums_moved z m.rooms m.arena.bytes rs divided_rooms (v.rooms ∷ []) (v.rooms ∷ no_rooms ∷ []) (change_parts rooms_held apart) (apart_level v.rooms) all_rooms (used_at m.rooms (content m.arena.bytes)) (each (owning (names_block c b))) in omega arith

    pub split_keeps : Rule z record { words = s.words; states = set s.states seat left ++ right ∷ [] }
    split_keeps = let b = bundles_split z s seat v r here may in record {
      sizes = r.sizes;
      words = r.words;
      numbers = numbers_frame z m.given (change_parts numbers_of apart) same_numbers more_parents same_splits r.numbers;
      findings = (change_parts findings_of apart).every (FindingsHold z m.given) (r.findings seat v.findings (at_map findings_of s.states seat v here), (none_met z m.given, tt)) (λ j x _ e. r.findings j x e);
      joined = apart.every (JoinedStand z) (r.joined seat v here, (tt, tt)) (λ j u _ at. r.joined j u at);
      histories = histories_frame (change_parts knowledge_of apart) seat v.knowledge (at_map knowledge_of s.states seat v here) r.histories
          (λ k. let h = r.histories k seat v.knowledge (at_map knowledge_of s.states seat v here) in (h, (h, tt)))
          (λ k y g. (v.knowledge, (change_parts knowledge_of apart).come.0, ⊎_elim (λ (q : v.knowledge ≡ y). let e = ap (λ (z : Knowledge). length (seen_of k z)) q in omega arith) (λ (q : ⊥). absurd q) g));
      blocks = blocks_frame z m.arena.bits (all_others z m rs) (all_others z m divided_rooms) (change_parts blocks_of apart) r.blocks (r.blocks.whole seat v.blocks (at_map blocks_of s.states seat v here), (tt, tt))
          (λ c b. level c b (all_others z m rs c b) (all_others z m divided_rooms c b) v.blocks (owners_then c b));
      rooms = rooms_then.rooms;
      covers = rooms_then.covers;
      keys = b.keys;
      callers = b.callers;
      bounds = b.bounds;
      opened = b.opened;
      heard = b.heard;
      headers = headers_divided m.headers (content m.arena.bytes) IsPlace (known (map knowledge_of s.states)) (known (map knowledge_of (set s.states seat left ++ right ∷ []))) (known_split s.states seat v here)
          r.headers v.headers (change_parts headers_held apart) (seat, at_map headers_held s.states seat v here);
      alone = apart.every (AloneStands s.words) ((λ met f e a. let h = r.alone seat v here met f e a in (h.0, record { first = h.1.first; others = h.1.others })), (alone_fresh s.words right refl, tt)) (λ j u _ at. r.alone j u at);
      passes = apart.every PassStands (r.passes seat v here, (record { pin = tt; whole = tt; claim = tt }, tt)) (λ j u _ at. r.passes j u at);
      spent = apart.every SpentIsSpent ((λ e. absurd (true≢false (sym e ∙ may.going))), ((λ e. absurd (true≢false (sym e))), tt)) (λ j u _ at. r.spent j u at);
      kept = subst (KeptNumbersStand same_spot (read m)) (sym same_kept) (kept_idle same_spot (read m) (map kept_of s.states) r.kept);
      kept_in_rooms = rooms_then.kept;
    }

  module _ (other : ℕ) (w : PassState) (there : get_elem? s.states other ≡ some w) (ne : other ≢ seat) (going : v.numbers.spent ≡ false) (may : MayJoin w) where
    abbrev both : PassState
    both = both_state v w

    abbrev together : Change s.states (set (set s.states seat both) other spent_state) (v ∷ w ∷ []) (both ∷ spent_state ∷ [])
    together = joined s.states seat other v w both spent_state here there ne

    kept_w : kept_of w ≡ []
    unfolding kept_of_blocks kept_of_headers
    kept_w = λ i. kept_with (may.idle.blocks i) (may.idle.headers i)

    kept_spent : kept_of spent_state ≡ []
    unfolding kept_of_blocks kept_of_headers
    kept_spent = refl

    same_words : map kept_of (set (set s.states seat both) other spent_state) ≡ map kept_of s.states
    same_words = map_set_same kept_of (set s.states seat both) other w spent_state (set_else s.states seat other both ne ∙ there) (kept_spent ∙ sym kept_w) ∙ map_set_same kept_of s.states seat v both here refl

    abbrev joined_rooms : List RoomHolds
    joined_rooms = map rooms_held (set (set s.states seat both) other spent_state)

    rooms_level : (f : RoomHolds → ℕ) → f no_rooms ≡ 0 → total f (v.rooms ∷ no_rooms ∷ []) ≡ total f (v.rooms ∷ w.rooms ∷ [])
    rooms_level f _ = ap (λ (h : RoomHolds). total f (v.rooms ∷ h ∷ [])) (sym may.idle.rooms)

    rooms_joined : RoomBundles z m.rooms m.arena.bytes joined_rooms
    rooms_joined = bundles_moved z m.rooms m.arena.bytes rs joined_rooms (v.rooms ∷ w.rooms ∷ []) (v.rooms ∷ no_rooms ∷ []) (change_parts rooms_held together) rooms_level all_rooms (rooms_now z s r)

    owners_joined : (c b : ℕ) → all_others z m joined_rooms c b ≡ all_others z m rs c b
    owners_joined c b = let e = sums_moved z m.rooms m.arena.bytes rs joined_rooms (v.rooms ∷ w.rooms ∷ []) (v.rooms ∷ no_rooms ∷ []) (change_parts rooms_held together) rooms_level all_rooms (used_at m.rooms (content m.arena.bytes)) (each (owning (names_block c b))) in omega arith

    pub join_keeps : Rule z record { words = s.words; states = set (set s.states seat both) other spent_state }
    join_keeps = let b = bundles_join z s seat v r here other w there ne may in let av = at_map knowledge_of s.states seat v here in let aw = at_map knowledge_of s.states other w there in record {
      sizes = r.sizes;
      words = r.words;
      numbers = numbers_frame z m.given (change_parts numbers_of together) (same_numbers_joined v w may) (more_parents_joined v w may) (same_splits_joined v w may) r.numbers;
      findings = (change_parts findings_of together).every (FindingsHold z m.given) (r.findings seat v.findings (at_map findings_of s.states seat v here), (none_met z m.given, tt)) (λ j x _ e. r.findings j x e);
      joined = together.every (JoinedStand z)
          (each_append (λ (j : Joined). FullsStand z j.findings) v.numbers.joined (joined_from w ∷ w.numbers.joined) (r.joined seat v here) ((r.findings other w.findings (at_map findings_of s.states other w there)).noted, r.joined other w there), (tt, tt))
          (λ j u _ at. r.joined j u at);
      histories = histories_frame (change_parts knowledge_of together) seat v.knowledge av r.histories
          (λ k. (each_append (λ (l : List KeyedWrite). Begins (of_key k l) (history k (map knowledge_of s.states))) v.knowledge.seen w.knowledge.seen (r.histories k seat v.knowledge av) (r.histories k other w.knowledge aw), (tt, tt)))
          (λ k y g. let more = seen_both k v.knowledge w.knowledge both.knowledge refl in (
            both.knowledge,
            (change_parts knowledge_of together).come.0,
            ⊎_elim (λ (q : v.knowledge ≡ y). let e = ap (λ (z : Knowledge). length (seen_of k z)) q in omega arith)
                (λ (q : (w.knowledge ≡ y) ⊎ ⊥). ⊎_elim (λ (q : w.knowledge ≡ y). let e = ap (λ (z : Knowledge). length (seen_of k z)) q in omega arith) (λ (q : ⊥). absurd q) q) g,
          ));
      blocks = blocks_frame z m.arena.bits (all_others z m rs) (all_others z m joined_rooms) (change_parts blocks_of together) r.blocks (r.blocks.whole seat v.blocks (at_map blocks_of s.states seat v here), (tt, tt))
          (λ c b. level-both c b (all_others z m rs c b) (all_others z m joined_rooms c b) v.blocks w.blocks may.idle.blocks (owners_joined c b));
      rooms = rooms_joined.rooms;
      covers = rooms_joined.covers;
      keys = b.keys;
      callers = b.callers;
      bounds = b.bounds;
      opened = b.opened;
      heard = b.heard;
      headers = headers_joined m.headers (content m.arena.bytes) IsPlace (known (map knowledge_of s.states)) (known (map knowledge_of (set (set s.states seat both) other spent_state))) (known_join s.states seat v here other w there ne)
          r.headers v.headers w.headers (change_parts headers_held together) (seat, at_map headers_held s.states seat v here) may.idle.headers;
      alone = together.every (AloneStands s.words) (alone_joins z s r seat v here going other w both there ne may.going refl, (alone_fresh s.words spent_state refl, tt)) (λ j u _ at. r.alone j u at);
      passes = together.every PassStands (record { pin = pin_both v w (r.passes seat v here).pin; whole = (r.passes seat v here).whole; claim = (r.passes seat v here).claim }, (record { pin = tt; whole = tt; claim = tt }, tt)) (λ j u _ at. r.passes j u at);
      spent = together.every SpentIsSpent ((λ e. absurd (true≢false (sym e ∙ going))), ((λ _. refl), tt)) (λ j u _ at. r.spent j u at);
      kept = subst (KeptNumbersStand same_spot (read m)) (sym same_words) r.kept;
      kept_in_rooms = rooms_joined.kept;
    }
