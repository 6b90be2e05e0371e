-- The last life of a key: a first part of the key's history ends with that life, or has nothing of it. A pass that knows a life from an entry knows its key.
use Rattle.std.proofs.Common.{◌≡◌, ◌≢◌, ℕ, ◌*◌, ◌<◌, ◌≤◌, ◌⊎◌, List, [], ◌∷◌, ◌++◌, map, sym, refl, ap, ◌∙◌, subst, inl, inr, arith, Some, None}
use mathlib.Core.Logic.{dite}
use mathlib.Core.Option.{some}
use native.Mathlib.Decide.{ℕ_discrete}
use lib.ListN.{get_elem?}
use Rattle.oak_model.specs.Counts.{total, Begins}
use Rattle.oak_model.specs.KeyNumber.{key_number}
use Rattle.oak_model.specs.Limits.{Sizes}
use Rattle.oak_model.specs.State.{State}
use Rattle.oak_model.proofs.Counting.{one_at-same, total_append}
use Rattle.oak_model.proofs.Lists.{at_map}
use Rattle.oak_model.proofs.MemberLaws.{each_has, total_has}
use Rattle.chunk_core.specs.ValueWord.{names_header, header_in, generation_in}
use Rattle.chunk_core.proofs.ValueWords.{none_named}
use Rattle.oak_core.specs.declared.states.KeyedWrite.{KeyedWrite}
use Rattle.oak_core.specs.declared.states.KnownLife.{KnownLife}
use Rattle.oak_core.specs.declared.states.Knowledge.{Knowledge}
use Rattle.oak_core.specs.declared.states.PassState.{PassState}
use Rattle.oak_core.specs.Callers.{CallersAgree, begins}
use Rattle.oak_core.specs.KeyHistories.{IsKeyOf, LivesFollow, home_behind, homes_in, last_of}
use Rattle.oak_core.specs.KeyReads.{history_now, home_of}
use Rattle.oak_core.specs.KeyRule.{HistoriesAreLegal}
use Rattle.oak_core.specs.Known.{is_life}
use Rattle.oak_core.specs.LastReads.{KnowsLifeOf}
use Rattle.oak_core.specs.LifeKeys.{key_known}
use Rattle.oak_core.specs.PassState.{knowledge_of}
use Rattle.oak_core.specs.Rule.{Rule}
use Rattle.oak_core.specs.TableState.{TableState}
use Rattle.oak_core.proofs.histories.HomeKeys.{home_key, lives_begin}
use Rattle.oak_core.proofs.memory.HomeWords.{NamesAt}
use Rattle.oak_core.proofs.known.KnownHeaders.{life_key}
use Rattle.oak_core.proofs.known.KnownKeys.{known_is}
use Rattle.oak_core.proofs.histories.LivesOnce.{begins_once}
use Rattle.oak_core.proofs.known.RemovedReads.{begun, lives_first}

-- behind a first part of writes that follow lives the others do
lives_rest : (s : State) (home : ℕ) (a b : List KeyedWrite) → LivesFollow s home (a ++ b) → (t : State) × LivesFollow t (last_of (λ (w : KeyedWrite). w.home) home a) b
unfolding last_of
lives_rest s home [] b l = (s, l)
lives_rest s home (x ∷ xs) b l = lives_rest x.write.after x.home xs b l.3

last_append : (f : KeyedWrite → ℕ) (d : ℕ) (a b : List KeyedWrite) → last_of f d (a ++ b) ≡ last_of f (last_of f d a) b
unfolding last_of
last_append f d [] b = refl
last_append f d (x ∷ xs) b = last_append f (f x) xs b

-- a life that begins once, and is the last, is not gone on from
first_part : (v : ℕ) (a more : List KeyedWrite) → v ≢ 0 → LivesFollow None 0 (a ++ more) → total (begins v) (a ++ more) ≤ 1 → home_behind (a ++ more) ≡ v → (home_behind a ≡ v) ⊎ (homes_in v a ≡ 0)
first_part v a more ne lives once last = dite (ℕ_discrete (home_behind a) v) (λ e. inl e)
    (λ other. inr (dite (ℕ_discrete (homes_in v a) 0) (λ e. e) (λ some_of. absurd (
    let one = lives_begin v None 0 a (lives_first None 0 a more lives) ne (omega arith) in let t = lives_rest None 0 a more lives in
    let two = begun v t.0 (home_behind a) more t.1 other (sym (last_append (λ (w : KeyedWrite). w.home) 0 a more) ∙ last) in let sum = total_append (begins v) a more in omega arith))))

-- so it is of a key's last life
pub part_not_past : (vs : List PassState) → CallersAgree vs → HistoriesAreLegal vs → (v k : ℕ) → names_header v ≡ 1 → home_behind (history_now vs k) ≡ v → (a : List KeyedWrite) → Begins a (history_now vs k) → (home_behind a ≡ v) ⊎ (homes_in v a ≡ 0)
part_not_past vs callers legal v k names last a b = first_part v a b.0 (λ e. none_named v names e) (subst (LivesFollow None 0) b.1 (legal k).lives) (subst (λ (l : List KeyedWrite). total (begins v) l ≤ 1) b.1 (begins_once vs callers v k names)) (sym (ap home_behind b.1) ∙ last)

-- the key that a pass knows for a life that it loaded has the number of the key of the entry
pub record KnowsKeyOf (h g : ℕ) (key : List ℕ) (q : Knowledge) : Type 0 where
  pub known : List ℕ
  pub is : key_known h g q ≡ Some known
  pub number : key_number known ≡ key_number key

pub loaded_key : (z : Sizes) (s : TableState) (r : Rule z s) (seat : ℕ) (v : PassState) → get_elem? s.states seat ≡ some v → (h g : ℕ) → NamesAt h g → (call : ℕ) (key : List ℕ) → KnowsLifeOf call key (home_of h g) v.knowledge → KnowsKeyOf h g key v.knowledge
loaded_key z s r seat v here h g at call key has = record {
  known = found.0;
  is = found.1;
  number = home_key s.states r.callers r.keys.legal (home_of h g) (key_number found.0) (key_number key) at.names (known_is (map knowledge_of s.states) r.histories r.keys.legal r.keys.loaded seat v.knowledge q_here h g found.0 found.1).there stands.1;
}
  where
    life : KnownLife
    life = record { call = call; key = key; home = home_of h g }

    q_here : get_elem? (map knowledge_of s.states) seat ≡ some v.knowledge
    q_here = at_map knowledge_of s.states seat v here

    stands : (names_header (home_of h g) ≡ 1) × (0 < homes_in (home_of h g) (history_now s.states (key_number key))) × IsKeyOf (key_number key) key
    stands = each_has (λ (l : KnownLife). (names_header l.home ≡ 1) × (0 < homes_in l.home (history_now s.states (key_number l.key))) × IsKeyOf (key_number l.key) l.key) v.knowledge.loaded life (r.keys.loaded seat v.knowledge q_here) has

    found : (known : List ℕ) × (key_known h g v.knowledge ≡ Some known)
    found = life_key h g v.knowledge (let t = total_has (is_life h g) v.knowledge.loaded life has in let one : is_life h g life ≡ 1 = (λ j. at.names j * one_at-same (header_in (home_of h g)) h at.header j * one_at-same (generation_in (home_of h g)) g at.generation j) in omega arith)
