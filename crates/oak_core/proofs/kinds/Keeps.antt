-- Each kind of step keeps the rule.
use Rattle.std.proofs.Common.{false, true≢false, ◌≡◌, ℕ, ◌^◌, ◌<◌, cond, Bool, List, [], ◌∷◌, ◌++◌, map, get_or, set, sym, refl, ap, ◌∙◌, subst, arith, Some, length-set, get_or-set_other, get_or-set_same}
use Rattle.std.specs.Int.{bit_at}
use mathlib.Core.Option.{some}
use mathlib.Core.Logic.{dite}
use native.Mathlib.Decide.{ℕ_discrete}
use lib.ListN.{get_elem?}
use Rattle.oak_model.specs.Limits.{Sizes}
use Rattle.oak_model.specs.Counts.{Begins, Every, Each}
use Rattle.oak_model.specs.Kept.{KeptNumbersStand}
use Rattle.oak_model.proofs.Lists.{at_map, begins_self, map_set, map_set_same}
use Rattle.oak_model.proofs.Changes.{stepped}
use Rattle.arena_core.specs.Blocks.{BlocksAreOwned}
use Rattle.header_core.specs.declared.holds.HeaderHolds.{HeaderHolds}
use Rattle.chunk_core.specs.declared.holds.RoomHolds.{RoomHolds}
use Rattle.oak_core.specs.declared.states.Finding.{Finding}
use Rattle.oak_core.specs.declared.states.Findings.{Findings}
use Rattle.oak_core.specs.declared.states.Joined.{Joined}
use Rattle.oak_core.specs.declared.states.Knowledge.{Knowledge}
use Rattle.oak_core.specs.declared.states.PassState.{PassState}
use Rattle.oak_core.specs.Memory.{Memory, Spot, at_given, same_spot, read, write, memory, index, IsInside, word_count}
use Rattle.oak_core.specs.Finding.{finding}
use Rattle.oak_core.specs.PassState.{blocks_of, headers_held, rooms_held, numbers_of, findings_of, knowledge_of, kept_of}
use Rattle.oak_core.specs.TableState.{TableState}
use Rattle.oak_core.specs.Rule.{WordsStand, NumbersStand, FindingsStand, HistoriesStand, SpentIsSpent, JoinedStand, FindingsHold, Rule, PassStands}
use Rattle.oak_core.specs.EntryOwners.{all_others}
use Rattle.oak_core.specs.Owners.{HeadersAreHeld}
use Rattle.oak_core.specs.Known.{known}
use Rattle.oak_core.specs.Step.{Step, load, give_number, on_arena, on_headers, on_rooms, store_locked, spot, effect, found, state_after, table_after, note_full}
use Rattle.oak_core.specs.Lack.{FullsStand}
use Rattle.oak_core.proofs.memory.Words.{first_word, index_apart, index_below, memory_set, memory_read}
use Rattle.oak_core.proofs.calls.Found.{found_more}
use Rattle.oak_core.proofs.calls.Lacked.{fulls_more}
use Rattle.oak_core.proofs.seats.AloneLast.{alone_steps}
use Rattle.oak_core.proofs.covers.RoomBundles.{RoomBundles, rooms_now}
use Rattle.oak_core.proofs.keyed.KeyBundles.{KeyBundles}

-- the pass met one thing more, and noted no more
pub record MetOne (f : Finding) (fs gs : Findings) : Type 0 where
  pub met : gs.met ≡ fs.met ++ f ∷ []
  pub swept : Begins fs.swept gs.swept
  pub fulls : gs.fulls ≡ fs.fulls

-- without anything else
pub met_only : (f : Finding) (fs : Findings) → MetOne f fs (record fs { met = fs.met ++ f ∷ [] })
met_only f fs = record { met = refl; swept = begins_self fs.swept; fulls = refl }

pub same_number : (n k : ℕ) → Some n ≡ Some k → n ≡ k
same_number n k e = cc

-- a word is below 2^64 where the others are, and it is
pub words_put : (z : Sizes) (ws : List ℕ) (i x : ℕ) → i < word_count z → x < 2 ^ 64 → WordsStand z ws → WordsStand z (set ws i x)
words_put z ws i x lt small r = record {
  counted = length-set ws i x ∙ r.counted;
  small = λ j. dite (ℕ_discrete j i)
      (λ e. subst (λ (n : ℕ). n < 2 ^ 64) (sym (ap (λ (n : ℕ). get_or (set ws i x) n 0) e ∙ get_or-set_same ws i x 0 (let c = r.counted in omega arith))) small)
      (λ ne. subst (λ (n : ℕ). n < 2 ^ 64) (sym (get_or-set_other ws i j x 0 ne)) (r.small j));
}

-- a step leaves its pass going
pub going_after : (z : Sizes) (call : ℕ) (x : Step) (s : TableState) (v : PassState) → (state_after z call x s v).numbers.spent ≡ v.numbers.spent
going_after z call (load p) s v = refl
going_after z call (give_number k) s v = refl
going_after z call (on_arena a) s v = refl
going_after z call (on_headers x) s v = refl
going_after z call (on_rooms x) s v = refl
going_after z call (store_locked h c b k x) s v = refl
going_after z call (note_full lack began) s v = refl

-- a step takes no other pass in
joined_after : (z : Sizes) (call : ℕ) (x : Step) (s : TableState) (v : PassState) → (state_after z call x s v).numbers.joined ≡ v.numbers.joined
joined_after z call (load p) s v = refl
joined_after z call (give_number k) s v = refl
joined_after z call (on_arena a) s v = refl
joined_after z call (on_headers x) s v = refl
joined_after z call (on_rooms x) s v = refl
joined_after z call (store_locked h c b k x) s v = refl
joined_after z call (note_full lack began) s v = refl

module _ (z : Sizes) (s : TableState) (call seat : ℕ) (v : PassState) (r : Rule z s) (here : get_elem? s.states seat ≡ some v) (going : v.numbers.spent ≡ false) where
  abbrev m : Memory
  m = memory z s.words

  pub spent_stays : (x : Step) → Every SpentIsSpent (set s.states seat (state_after z call x s v))
  spent_stays x = (stepped s.states seat v (state_after z call x s v) here).every SpentIsSpent ((λ e. absurd (true≢false (sym e ∙ (going_after z call x s v ∙ going)))), tt) (λ j u _ at. r.spent j u at)

  pub joined_stays : (x : Step) → Every (JoinedStand z) (set s.states seat (state_after z call x s v))
  joined_stays x = (stepped s.states seat v (state_after z call x s v) here).every (JoinedStand z) (subst (λ (js : List Joined). Each (λ (j : Joined). FullsStand z j.findings) js) (sym (joined_after z call x s v)) (r.joined seat v here), tt)
      (λ j u _ at. r.joined j u at)

  -- the pins stay known, if that of this pass does
  pub passes_stay : (w : PassState) → PassStands w → Every PassStands (set s.states seat w)
  passes_stay w mine = (stepped s.states seat v w here).every PassStands (mine, tt) (λ j u _ at. r.passes j u at)

  -- a step that leaves what its pass knows, and its headers, leaves the points on headers
  pub headers_stay : (w : PassState) → w.knowledge ≡ v.knowledge → w.headers ≡ v.headers → HeadersAreHeld m.headers m.arena.bytes (known (map knowledge_of (set s.states seat w))) (map headers_held (set s.states seat w))
  headers_stay w knowledge headers = subst (λ (p : List Knowledge × List HeaderHolds). HeadersAreHeld m.headers m.arena.bytes (known p.0) p.1)
      (λ i. (sym (map_set_same knowledge_of s.states seat v w here knowledge) i, sym (map_set_same headers_held s.states seat v w here headers) i)) r.headers

  -- a step that leaves what its pass has of rooms leaves whatever is said of that
  pub of_rooms : (w : PassState) → w.rooms ≡ v.rooms → (P : List RoomHolds → Type 0) → P (map rooms_held s.states) → P (map rooms_held (set s.states seat w))
  of_rooms w same P h = subst P (sym (map_set_same rooms_held s.states seat v w here same)) h

  -- blocks have the owners that they had, where the pass holds what it held
  pub blocks_stay : (w : PassState) → w.blocks ≡ v.blocks → w.rooms ≡ v.rooms → BlocksAreOwned z m.arena.bits (all_others z m (map rooms_held (set s.states seat w))) (map blocks_of (set s.states seat w))
  blocks_stay w blocks rooms = of_rooms w rooms (λ (hs : List RoomHolds). BlocksAreOwned z m.arena.bits (all_others z m hs) (map blocks_of (set s.states seat w)))
      (subst (BlocksAreOwned z m.arena.bits (all_others z m (map rooms_held s.states))) (sym (map_set_same blocks_of s.states seat v w here blocks)) r.blocks)

  pub rooms_stay : (w : PassState) → w.rooms ≡ v.rooms → RoomBundles z m.rooms m.arena.bytes (map rooms_held (set s.states seat w))
  rooms_stay w same = of_rooms w same (RoomBundles z m.rooms m.arena.bytes) (rooms_now z s r)

  -- the rule after a step that changes its word, from the bundles over the memory and the parts of the states after it
  pub stepped_rule : (x : Step) → IsInside z (spot x) → effect x (found z x s) < 2 ^ 64 → let m' = write m (spot x) (effect x (found z x s)) in let after = set s.states seat (state_after z call x s v) in
      NumbersStand z m'.given (map numbers_of after) → FindingsStand z m'.given (map findings_of after) → HistoriesStand (map knowledge_of after) → BlocksAreOwned z m'.arena.bits (all_others z m' (map rooms_held after)) (map blocks_of after) → HeadersAreHeld m'.headers m'.arena.bytes (known (map knowledge_of after)) (map headers_held after) → RoomBundles z m'.rooms m'.arena.bytes (map rooms_held after)
      → KeyBundles z m' after → KeptNumbersStand same_spot (read m') (map kept_of after) → PassStands (state_after z call x s v) → Rule z (table_after z call x seat v s)
  stepped_rule x inside small numbers findings histories blocks headers rooms keys kept pin =
      let y : ℕ = effect x (found z x s) in let after : List PassState = set s.states seat (state_after z call x s v) in let law = memory_set z s.words (spot x) y r.words.counted inside in
      let later : List ℕ = set s.words (index z (spot x)) y in let now : RoomBundles z (memory z later).rooms (memory z later).arena.bytes (map rooms_held after) = subst (λ (a : Memory). RoomBundles z a.rooms a.arena.bytes (map rooms_held after)) (sym law) rooms in
      let known_now : KeyBundles z (memory z later) after = subst (λ (a : Memory). KeyBundles z a after) (sym law) keys in record {
        sizes = r.sizes;
        words = words_put z s.words (index z (spot x)) y (index_below z (spot x) inside) small r.words;
        numbers = subst (λ (a : Memory). NumbersStand z a.given (map numbers_of after)) (sym law) numbers;
        findings = subst (λ (a : Memory). FindingsStand z a.given (map findings_of after)) (sym law) findings;
        joined = joined_stays x;
        histories = histories;
        spent = spent_stays x;
        blocks = subst (λ (a : Memory). BlocksAreOwned z a.arena.bits (all_others z a (map rooms_held after)) (map blocks_of after)) (sym law) blocks;
        headers = subst (λ (a : Memory). HeadersAreHeld a.headers a.arena.bytes (known (map knowledge_of after)) (map headers_held after)) (sym law) headers;
        rooms = now.rooms;
        covers = now.covers;
        keys = known_now.keys;
        callers = known_now.callers;
        bounds = known_now.bounds;
        opened = known_now.opened;
        heard = known_now.heard;
        passes = passes_stay (state_after z call x s v) pin;
        alone = alone_steps z s r seat v here going call x;
        kept = subst (λ (a : Memory). KeptNumbersStand same_spot (read a) (map kept_of after)) (sym law) kept;
        kept_in_rooms = now.kept;
      }

  -- one more finding, at a word other than word 0
  findings_elsewhere : (p : Spot) (f : Finding) (w : PassState) → IsInside z p → same_spot at_given p ≡ false → f.word ≡ index z p → MetOne f v.findings w.findings → FindingsStand z m.given (map findings_of (set s.states seat w))
  findings_elsewhere p f w inside other at grew = let mine = r.findings seat v.findings (at_map findings_of s.states seat v here) in subst (FindingsStand z m.given) (sym (map_set findings_of s.states seat w))
      ((stepped (map findings_of s.states) seat v.findings w.findings (at_map findings_of s.states seat v here)).every (FindingsHold z m.given) (
        record {
          found = found_more m.given v.findings w.findings f grew.met (λ zero_word n e k set_bit. absurd (true≢false (sym (ap (same_spot at_given) (index_apart z p at_given inside tt (sym at ∙ (zero_word ∙ sym (first_word z))))) ∙ other))) mine.found;
          noted = fulls_more z v.findings w.findings f grew.met grew.swept grew.fulls mine.noted;
        },
        tt,
      )
      (λ j x _ e. r.findings j x e))

  -- a step that stores to a word other than word 0, and leaves the numbers of its pass, owes the bundles of the holds, and of what the passes know
  pub learning_rule : (x : Step) (f : Finding) → IsInside z (spot x) → effect x (found z x s) < 2 ^ 64 → same_spot at_given (spot x) ≡ false → let w = state_after z call x s v in f.word ≡ index z (spot x) → MetOne f v.findings w.findings
      → w.numbers ≡ v.numbers → HistoriesStand (map knowledge_of (set s.states seat w)) → (let m' = write m (spot x) (effect x (found z x s)) in BlocksAreOwned z m'.arena.bits (all_others z m' (map rooms_held (set s.states seat w))) (map blocks_of (set s.states seat w)))
      → (let m' = write m (spot x) (effect x (found z x s)) in HeadersAreHeld m'.headers m'.arena.bytes (known (map knowledge_of (set s.states seat w))) (map headers_held (set s.states seat w)))
      → (let m' = write m (spot x) (effect x (found z x s)) in RoomBundles z m'.rooms m'.arena.bytes (map rooms_held (set s.states seat w)))
      → KeyBundles z (write m (spot x) (effect x (found z x s))) (set s.states seat w) → KeptNumbersStand same_spot (read (write m (spot x) (effect x (found z x s)))) (map kept_of (set s.states seat w)) → PassStands w → Rule z (table_after z call x seat v s)
  learning_rule x f inside small other at grew numbers histories blocks headers rooms keys kept pin =
      let w : PassState = state_after z call x s v in let y : ℕ = effect x (found z x s) in let same : (write m (spot x) y).given ≡ m.given = ap (λ (b : Bool). cond b y m.given) other in
      stepped_rule x inside small
      (subst (λ (g : ℕ). NumbersStand z g (map numbers_of (set s.states seat w))) (sym same) (subst (NumbersStand z m.given) (sym (map_set_same numbers_of s.states seat v w here numbers)) r.numbers))
      (subst (λ (g : ℕ). FindingsStand z g (map findings_of (set s.states seat w))) (sym same) (findings_elsewhere (spot x) f w inside other at grew))
      histories blocks headers rooms keys kept pin

  -- one that teaches nothing owes those of the holds alone
  pub elsewhere_rule : (x : Step) (f : Finding) → IsInside z (spot x) → effect x (found z x s) < 2 ^ 64 → same_spot at_given (spot x) ≡ false → let w = state_after z call x s v in f.word ≡ index z (spot x) → MetOne f v.findings w.findings
      → w.numbers ≡ v.numbers → w.knowledge ≡ v.knowledge → (let m' = write m (spot x) (effect x (found z x s)) in BlocksAreOwned z m'.arena.bits (all_others z m' (map rooms_held (set s.states seat w))) (map blocks_of (set s.states seat w)))
      → (let m' = write m (spot x) (effect x (found z x s)) in HeadersAreHeld m'.headers m'.arena.bytes (known (map knowledge_of s.states)) (map headers_held (set s.states seat w)))
      → (let m' = write m (spot x) (effect x (found z x s)) in RoomBundles z m'.rooms m'.arena.bytes (map rooms_held (set s.states seat w)))
      → KeyBundles z (write m (spot x) (effect x (found z x s))) (set s.states seat w) → KeptNumbersStand same_spot (read (write m (spot x) (effect x (found z x s)))) (map kept_of (set s.states seat w)) → PassStands w → Rule z (table_after z call x seat v s)
  elsewhere_rule x f inside small other at grew numbers knowledge blocks headers rooms keys kept pin =
      let w : PassState = state_after z call x s v in let y : ℕ = effect x (found z x s) in
      learning_rule x f inside small other at grew numbers (subst HistoriesStand (sym (map_set_same knowledge_of s.states seat v w here knowledge)) r.histories) blocks
      (subst (λ (qs : List Knowledge). HeadersAreHeld (write m (spot x) y).headers (write m (spot x) y).arena.bytes (known qs) (map headers_held (set s.states seat w))) (sym (map_set_same knowledge_of s.states seat v w here knowledge)) headers) rooms keys kept pin

  -- one more finding at a word that stays, in a state whose other parts stay
  pub findings_stay : (p : Spot) (n : ℕ) (w : PassState) → w.findings.met ≡ v.findings.met ++ finding z call p (Some n) n s.words v ∷ [] → FullsStand z w.findings → IsInside z p → n ≡ get_or s.words (index z p) 0
      → FindingsStand z m.given (map findings_of (set s.states seat w))
  findings_stay p n w grew noted inside is = subst (FindingsStand z m.given) (sym (map_set findings_of s.states seat w))
      ((stepped (map findings_of s.states) seat v.findings w.findings (at_map findings_of s.states seat v here)).every (FindingsHold z m.given) (
        record {
          found = found_more m.given v.findings w.findings (finding z call p (Some n) n s.words v) grew
              (λ zero_word k e b set_bit. let same : m.given ≡ n = memory_read z s.words at_given tt ∙ (ap (λ (i : ℕ). get_or s.words i 0) (first_word z ∙ sym zero_word) ∙ sym is) in
              ap (λ (x : ℕ). bit_at x b) (same ∙ same_number n k e) ∙ set_bit)
              (r.findings seat v.findings (at_map findings_of s.states seat v here)).found;
          noted = noted;
        },
        tt,
      )
      (λ j x _ e. r.findings j x e))
