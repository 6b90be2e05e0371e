-- A key that is absent has no entry where each entry has a value.
use Rattle.std.proofs.Common.{◌≡◌, ℕ, zero, suc, ◌+◌, ◌-◌, ◌<◌, true, List, take, cond, Some, None, sym, ap, ◌∙◌, arith}
use Rattle.oak_model.specs.Counts.{rows, total}
use Rattle.oak_model.specs.Key.{is_key}
use Rattle.oak_model.specs.KeyNumber.{key_number}
use Rattle.oak_model.specs.Limits.{Sizes}
use Rattle.arena_core.specs.Place.{content}
use Rattle.chunk_core.specs.declared.holds.EntryWords.{EntryWords}
use Rattle.chunk_core.specs.KeyWords.{key_bytes, key_in}
use Rattle.chunk_core.specs.LinkedEntries.{entries_in}
use Rattle.chunk_core.specs.RoomReads.{words_at}
use Rattle.chunk_core.specs.ValueWord.{names_header}
use Rattle.oak_core.specs.declared.states.KeyedWrite.{KeyedWrite}
use Rattle.oak_core.specs.declared.states.PassState.{PassState}
use Rattle.oak_core.specs.KeyHistories.{state_behind}
use Rattle.oak_core.specs.Memory.{memory}
use Rattle.oak_core.specs.PassState.{seen_of}
use Rattle.chunk_ops.proofs.KeyPlaces.{linked_used}
use Rattle.lone_counts.specs.LoneTable.{HasValue}
use Rattle.lone_counts.specs.Maps.{last_states}
use Rattle.lone_counts.proofs.TableCounts.{value_is_present}
use Rattle.oak_map.proofs.LoneNoted.{MissesKey}
use Rattle.oak_map.proofs.RoomOfKey.{weighs_one}
use Rattle.oak_map.proofs.SettledSplits.{names_le}

-- where all of a sum is nothing, so is each part
none_at : (f : EntryWords → ℕ) (g : ℕ → EntryWords) (i n e k : ℕ) → k < n → k < e → total f (take n (rows i e g)) ≡ 0 → f (g (i + k)) ≡ 0
unfolding total rows
none_at f g i n zero k a b h = absurd (omega arith)
none_at f g i zero (suc e) k a b h = absurd (omega arith)
none_at f g i (suc n) (suc e) zero a b h = let c : i + 0 ≡ i = omega arith in ap (λ (j : ℕ). f (g j)) c ∙ (omega arith)
none_at f g i (suc n) (suc e) (suc k) a b h = let c : i + suc k ≡ suc i + k = omega arith in ap (λ (j : ℕ). f (g j)) c ∙ none_at f g (suc i) n e k (omega arith) (omega arith) (omega arith)

-- what was last seen of a key is the same where the same was seen
last_same : (u v : PassState) (key : List ℕ) → ((q : ℕ) → seen_of q v.knowledge ≡ seen_of q u.knowledge) → last_states v key ≡ last_states u key
last_same u v key e = ap (λ (h : List KeyedWrite). cond (is_key key) (state_behind h) None) (e (key_number key))

key_there : (word : ℕ) (words : List ℕ) (n : ℕ) → key_number (key_bytes word words) ≡ n → key_in word words ≡ n
unfolding key_in
key_there word words n e = e

pub misses_key : (z : Sizes) (key : List ℕ) (u : PassState) → is_key key ≡ true → MissesKey z key u
misses_key z key u is d t table same absent settled q o full covers i once e =
    let used : i < entries_in ((memory z d).rooms.count q) = linked_used z (record { words = d; states = table.moment.states }) table.moment.rule q i o.inside (weighs_one ((memory z d).rooms.pin q) o.state) once in
    let zero_add : i ≡ 0 + i = omega arith in let none : 1 - names_header ((memory z d).rooms.value q i) ≡ 0 = ap (λ (j : ℕ). 1 - names_header ((memory z d).rooms.value q j)) zero_add ∙ none_at (λ (x : EntryWords). 1 - names_header x.value) (words_at (memory z d).rooms q) 0 (entries_in ((memory z d).rooms.count q)) z.entries i used (omega arith) (settled.valued q o) in
    let has : HasValue z d key = record {
      room = q;
      inside = o.inside;
      open_is = o.state;
      covers = covers;
      entry = i;
      linked = once;
      key_is = key_there ((memory z d).rooms.key q i) (content (memory z d).arena.bytes ((memory z d).rooms.key q i)) (key_number key) e;
      named = let l = names_le ((memory z d).rooms.value q i) in omega arith;
    } in
    let p = value_is_present z d t key table is has in let f : None ≡ Some p.0 = sym absent ∙ (sym (last_same u t key same) ∙ p.1) in absurd cc
