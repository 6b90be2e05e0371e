-- The record of a header that was filled: it is fresh, at the generation that was found, with the stamp and the first bytes of the block.
use Rattle.std.proofs.Common.{◌≡◌, ℕ, ◌+◌, ◌*◌, ◌<◌, ◌==◌, cond, List, [], ◌∷◌, take, sym, refl, ap, ◌∙◌, arith, Some, eq-eqb, ne_eqb}
use mathlib.Core.Logic.{dite}
use native.Mathlib.Decide.{ℕ_discrete}
use Rattle.oak_model.specs.declared.classes.Class.{Class}
use Rattle.oak_model.specs.Class.{class_number, class_of}
use Rattle.oak_model.specs.Counts.{one_at, total}
use Rattle.oak_model.specs.Limits.{Sizes}
use Rattle.oak_model.specs.WordBytes.{bytes_of}
use Rattle.oak_model.proofs.Counting.{one_at-other}
use Rattle.oak_model.proofs.MemberLaws.{each_has}
use Rattle.pin_word.specs.PinWord.{generation_of}
use Rattle.arena_core.specs.Blocks.{words_held}
use Rattle.arena_core.specs.Place.{place_word}
use Rattle.arena_core.proofs.PlaceLaws.{length_in-word}
use Rattle.header_core.specs.declared.holds.HeldAs.TheVariants.{Fresh}
use Rattle.header_core.specs.declared.holds.HeldHeader.{HeldHeader}
use Rattle.header_core.specs.declared.states.TheConstants.{OWNED}
use Rattle.header_core.specs.HeaderHolds.{in_state, held_state}
use Rattle.header_core.specs.HeaderStep.{open_header}
use Rattle.oak_core.specs.declared.states.PassState.{PassState}
use Rattle.oak_core.specs.HeaderCalls.{Opens}
use Rattle.oak_core.specs.HeldRows.{HasFresh}
use Rattle.oak_core.specs.MadeWrites.{held_header}
use Rattle.oak_core.specs.Memory.{memory}
use Rattle.oak_core.proofs.held.HeaderStanding.{at_headers}
use Rattle.oak_core.proofs.held.HeldRowLaws.{row_mapped}
use Rattle.oak_core.proofs.covers.SetsValue.{held_row}
use Rattle.value_ops.specs.Filling.{Fills}
use Rattle.value_ops.proofs.FillFacts.{fits_class}
use Rattle.value_ops.proofs.StepLeft.{pin_found}

-- a header that the pass has in some state has a record
held_found : (h s : ℕ) (rs : List HeldHeader) → 0 < total (λ (r : HeldHeader). one_at r.header h * one_at (held_state r.held_as) s) rs → (q : HeldHeader) × (held_header h rs ≡ Some q)
unfolding total held_header
held_found h s [] some = absurd (omega arith)
held_found h s (r ∷ rs) some = dite (ℕ_discrete r.header h)
    (λ y. (r, ap (λ (t : _). cond t (Some r) (held_header h rs)) (eq-eqb r.header h y)))
    (λ n. let later = held_found h s rs (rest (one_at r.header h) (one_at (held_state r.held_as) s) (total (λ (x : HeldHeader). one_at x.header h * one_at (held_state x.held_as) s) rs) (one_at-other r.header h n) some) in
    (later.0, ap (λ (t : _). cond t (Some r) (held_header h rs)) (ne_eqb r.header h n) ∙ later.1))
  where
    rest : (a b n : ℕ) → a ≡ 0 → 0 < a * b + n → 0 < n
    rest a b n e l = grind arith

module _ (z : Sizes) (call h : ℕ) (c : Class) (b len stamp g : ℕ) (v w : PassState) (inside : h < z.headers) (own : 0 < in_state h OWNED v.headers) (fits : class_of len ≡ Some c) (f : Fills z call h c b len stamp g v w) where
  abbrev place : ℕ
  place = place_word (class_number c) b len

  abbrev words : List ℕ
  words = words_held (class_number c) b v.blocks.held

  abbrev placed : HeldHeader → HeldHeader
  placed r = record r { place = cond (r.header == h) place r.place }

  abbrev stamped : HeldHeader → HeldHeader
  stamped r = record r { stamp = cond (r.header == h) stamp r.stamp }

  abbrev freshened : HeldHeader → HeldHeader
  freshened r = record r { held_as = cond (r.header == h) Fresh r.held_as; words = cond (r.header == h) words r.words }

  was : (q : HeldHeader) × (held_header h v.headers.held ≡ Some q)
  was = held_found h OWNED v.headers.held own

  is : was.0.header ≡ h
  is = (held_row h v.headers.held was.0 was.1).1

  stamped_row : held_header h f.stamped.headers.held ≡ Some (stamped (placed was.0))
  stamped_row = ap (λ (y : PassState). held_header h y.headers.held) f.stamps.1.after
      ∙ row_mapped stamped (λ r. refl) h (placed was.0) f.placed.headers.held (ap (λ (y : PassState). held_header h y.headers.held) f.stores.1.after ∙ row_mapped placed (λ r. refl) h was.0 v.headers.held was.1)

  told : Opens z call h f.stamped f.number w
  told = f.told

  generation : was.0.generation ≡ g
  generation = sym (each_has (λ (r : HeldHeader). generation_of ((memory z told.table.words).headers.pin r.header) ≡ r.generation) f.stamped.headers.held (stamped (placed was.0)) (told.rule.headers.generations told.seat f.stamped.headers (at_headers z told.table told.seat f.stamped told.rule told.here)) (held_row h f.stamped.headers.held (stamped (placed was.0)) stamped_row).0)
      ∙ (ap (λ (i : ℕ). generation_of ((memory z told.table.words).headers.pin i)) is ∙ (ap generation_of (pin_found z call (open_header h) h refl f.stamped f.number w told) ∙ f.generation_is))

  abbrev filled : HeldHeader
  filled = record was.0 { place = place; stamp = stamp; held_as = Fresh; words = words }

  row : held_header h w.headers.held ≡ Some filled
  row = ap (λ (y : PassState). held_header h y.headers.held) f.after
      ∙ (row_mapped freshened (λ r. refl) h (stamped (placed was.0)) _ (row_mapped stamped (λ r. refl) h (placed was.0) _ (row_mapped placed (λ r. refl) h was.0 v.headers.held was.1))
      ∙ ap (λ (t : _). Some (record was.0 { place = cond t place was.0.place; stamp = cond t stamp was.0.stamp; held_as = cond t Fresh was.0.held_as; words = cond t words was.0.words })) (eq-eqb was.0.header h is))

  pub filled_fresh : HasFresh z h g stamp (take len (bytes_of words)) w
  filled_fresh = record {
    inside = inside;
    header = filled;
    held = row;
    fresh = refl;
    generation = generation;
    stamp_is = refl;
    value = let l = fits_class len c fits in ap (λ (n : ℕ). take n (bytes_of words)) (length_in-word (class_number c) b len (omega arith));
  }
