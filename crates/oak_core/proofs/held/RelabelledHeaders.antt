-- Held headers of which only the keys change, and whether an entry names them: all else that is said of them stands.
use Rattle.std.proofs.Common.{◌≡◌, ℕ, ◌+◌, ◌<◌, List, [], ◌∷◌, ◌++◌, map, length, set, sym, refl, ap, ◌∙◌, subst, arith}
use mathlib.Core.Option.{some}
use lib.ListN.{get_elem?}
use Rattle.pin_word.specs.PinWord.{generation_of}
use Rattle.oak_model.specs.Counts.{total, Each}
use Rattle.oak_model.specs.Kept.{renamed}
use Rattle.oak_model.proofs.Changes.{stepped}
use Rattle.arena_core.specs.declared.blocks.HeldBlocks.{HeldBlocks}
use Rattle.arena_core.specs.Arena.{block_words}
use Rattle.arena_core.specs.HeldBlocks.{kept_of_blocks}
use Rattle.arena_core.specs.Place.{class_in, block_in, class_from}
use Rattle.header_core.specs.declared.holds.HeldAs.{HeldAs}
use Rattle.header_core.specs.declared.holds.HeldAs.TheVariants.{Owned, Fresh, Locked, Buried}
use Rattle.header_core.specs.declared.holds.HeldHeader.{HeldHeader}
use Rattle.header_core.specs.declared.holds.HeaderHolds.{HeaderHolds}
use Rattle.header_core.specs.declared.holds.PinnedHeader.{PinnedHeader}
use Rattle.header_core.specs.declared.states.TheConstants.{LIVE}
use Rattle.header_core.specs.Headers.{HeaderMemory, at_place, at_stamp}
use Rattle.header_core.specs.HeaderHolds.{held_state, in_state, fresh_at, kept_of_headers}
use Rattle.header_core.specs.HeaderRule.{stocked, HeadersStand, PinsWhatItKnows}
use Rattle.header_core.proofs.HeaderLaws.{headers_change, one_stands, on_pin}
use Rattle.header_core.proofs.HeldRecords.{rows_kept, fresh_kept, each_kept}
use Rattle.oak_core.specs.Memory.{in_arena, in_headers}
use Rattle.oak_core.specs.Owners.{HeadersAreWhole, IsWholeHeader, blocks_of_header, header_blocks}
use Rattle.oak_core.proofs.owners.KeptWords.{kept_with}

-- each held header, as f has it
abbrev pub relabelled : (HeldHeader → HeldHeader) → HeaderHolds → HeaderHolds
relabelled f a = record a { held = map f a.held }

-- f leaves of a record all but its key, and whether it is named
pub record Relabels (f : HeldHeader → HeldHeader) : Type 0 where
  pub header : (r : HeldHeader) → (f r).header ≡ r.header
  pub generation : (r : HeldHeader) → (f r).generation ≡ r.generation
  pub held_as : (r : HeldHeader) → (f r).held_as ≡ r.held_as
  pub place : (r : HeldHeader) → (f r).place ≡ r.place
  pub stamp : (r : HeldHeader) → (f r).stamp ≡ r.stamp
  pub words : (r : HeldHeader) → (f r).words ≡ r.words

module _ (f : HeldHeader → HeldHeader) (same : Relabels f) where
  -- they are held in the states in which they were
  pub relabelled_rows : (h s : ℕ) (a : HeaderHolds) → in_state h s (relabelled f a) ≡ in_state h s a
  relabelled_rows h s a = rows_kept f same.header (λ r. ap held_state (same.held_as r)) h s a.held

  pub relabelled_fresh : (h g : ℕ) (a : HeaderHolds) → fresh_at h g (relabelled f a) ≡ fresh_at h g a
  relabelled_fresh h g a = fresh_kept f same.header (λ r. ap held_state (same.held_as r)) h g a.held same.generation

  -- so a pin is on what the pass knows
  pub relabelled_pins : (knows : ℕ → ℕ → ℕ) (a : HeaderHolds) → PinsWhatItKnows knows a → PinsWhatItKnows knows (relabelled f a)
  relabelled_pins knows a pins = on_pin (λ (p : PinnedHeader). 0 < fresh_at p.header p.wanted a + knows p.header p.wanted) (λ (p : PinnedHeader). 0 < fresh_at p.header p.wanted (relabelled f a) + knows p.header p.wanted) a.pin
      (λ p _ l. let e = relabelled_fresh p.header p.wanted a in omega arith) pins

  -- their words are kept as they were

  pub relabelled_words : (rs : List HeldHeader) → kept_of_headers (map f rs) ≡ kept_of_headers rs
  unfolding kept_of_headers
  relabelled_words [] = refl
  relabelled_words (r ∷ rs) = λ i. record { spot = at_place (same.header r i); number = same.place r i } ∷ record { spot = at_stamp (same.header r i); number = same.stamp r i } ∷ relabelled_words rs i

  one_block : (s : HeldAs) (r : HeldHeader) → blocks_of_header s (f r) ≡ blocks_of_header s r
  one_block Owned r = refl
  one_block Fresh r = λ i. record { class = class_from (class_in (same.place r i)); number = block_in (same.place r i); words = same.words r i } ∷ []
  one_block (Locked at) r = λ i. record { class = class_from (class_in (same.place r i)); number = block_in (same.place r i); words = same.words r i } ∷ []
  one_block Buried r = λ i. record { class = class_from (class_in (same.place r i)); number = block_in (same.place r i); words = same.words r i } ∷ []

  pub relabelled_blocks : (rs : List HeldHeader) → header_blocks (map f rs) ≡ header_blocks rs
  relabelled_blocks [] = refl
  relabelled_blocks (r ∷ rs) = λ i. (ap (λ (s : HeldAs). blocks_of_header s (f r)) (same.held_as r) ∙ one_block r.held_as r) i ++ relabelled_blocks rs i

  pub relabelled_kept : (b : HeldBlocks) (a : HeaderHolds) → kept_with b (relabelled f a) ≡ kept_with b a
  relabelled_kept b a = λ i. renamed in_arena (kept_of_blocks b.held) ++ (renamed in_arena (kept_of_blocks (relabelled_blocks a.held i)) ++ renamed in_headers (relabelled_words a.held i))

  pub relabelled_whole : (a : HeaderHolds) → HeadersAreWhole a → HeadersAreWhole (relabelled f a)
  relabelled_whole a whole = each a.held whole
    where
      each : (rs : List HeldHeader) → Each IsWholeHeader rs → Each IsWholeHeader (map f rs)
      each [] w = tt
      each (r ∷ rs) w = (subst (λ (t : HeldAs × ℕ × List ℕ). 0 < stocked (held_state t.0) → length t.2 ≡ block_words (class_in t.1)) (λ i. (sym (same.held_as r) i, sym (same.place r) i, sym (same.words r) i)) w.0, each rs w.1)

  -- the points on headers stand
  pub relabelled_stand : (m : HeaderMemory) (content : ℕ → List ℕ) (IsPlace : ℕ → Type 0) (known : ℕ → ℕ → ℕ) (hs : List HeaderHolds) → HeadersStand m content IsPlace known hs → (seat : ℕ) (a : HeaderHolds) → get_elem? hs seat ≡ some a → HeadersStand m content IsPlace known (set hs seat (relabelled f a))
  unfolding total
  relabelled_stand m content IsPlace known hs r seat a there = let b : HeaderHolds = relabelled f a in
      headers_change m m content content IsPlace known known (stepped hs seat a b there) r (λ _. refl) (λ i s _ _ _. let e = relabelled_rows i s a in omega arith)
      (λ i. let e = relabelled_rows i LIVE a in let g = r.fresh i in omega arith) (λ i. let e = relabelled_rows i LIVE a in omega arith) r.older (λ i. (r.retired i, r.six i)) r.placed
      (record { generations = each_kept f same.header (λ i g. generation_of (m.pin i) ≡ g) a.held same.generation (r.generations seat a there); good = r.good seat a there; dead = r.dead seat a there }, tt) (λ j u _ at. one_stands m content IsPlace known hs r j u at)
