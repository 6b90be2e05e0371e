-- A header that a pass that is alone claims and fills: what it leaves of the words, and which block the pass has with it.
use Rattle.std.proofs.Common.{◌≡◌, ℕ, ◌+◌, ◌*◌, ◌^◌, ◌<◌, ◌==◌, cond, List, length, set, length-set, sym, refl, ap, ◌∙◌, subst, arith, Some}
use Rattle.pin_word.specs.PinWord.{STATE}
use Rattle.oak_model.specs.declared.classes.Class.{Class}
use Rattle.oak_model.specs.Class.{class_number, class_of}
use Rattle.oak_model.specs.Limits.{Sizes, IsInLimits}
use Rattle.arena_core.specs.Arena.{blocks}
use Rattle.arena_core.specs.Blocks.{words_held}
use Rattle.arena_core.specs.Place.{place_word, class_in, block_in}
use Rattle.arena_core.proofs.ArenaSizes.{greatest_blocks}
use Rattle.arena_core.proofs.PlaceLaws.{class_below, class_in-word, block_in-word}
use Rattle.header_core.specs.declared.holds.HeldAs.TheVariants.{Fresh}
use Rattle.header_core.specs.declared.holds.HeldHeader.{HeldHeader}
use Rattle.header_core.specs.declared.states.TheConstants.{OWNED}
use Rattle.header_core.specs.HeaderHolds.{in_state, place_held}
use Rattle.header_core.specs.Headers.{at_place, at_stamp}
use Rattle.header_core.specs.HeaderStep.{placed_at, stamped_at}
use Rattle.header_core.proofs.HeaderFacts.{holds_some}
use Rattle.oak_core.specs.declared.states.PassState.{PassState}
use Rattle.oak_core.specs.Memory.{Spot, in_headers, index, memory, word_count}
use Rattle.value_ops.specs.Claiming.{OwnsPin, pin_spot}
use Rattle.value_ops.specs.Filling.{Fills, FillsWords}
use Rattle.value_ops.proofs.FillFacts.{fits_class, placed_here, stamped_place}
use Rattle.value_ops.proofs.HeldParts.{place_mapped}
use Rattle.point_ops.specs.LoneInserts.{IsOfHeader, KeepsBut, MakesHeaderIn, NamesBlock}
use Rattle.point_ops.proofs.LoneWords.{but_both, but_set, read_stored}

module _ (z : Sizes) (h place stamp : ℕ) (inside : h < z.headers) (a m d : List ℕ) (wide : length a ≡ word_count z) (o : OwnsPin z h a m) (f : FillsWords z h place stamp m d) where
  abbrev P : Spot → Type 0
  P = IsOfHeader h

  abbrev n : ℕ
  n = (memory z a).headers.pin h

  abbrev placed : List ℕ
  placed = set m (index z (in_headers (at_place h))) place

  abbrev stamped : List ℕ
  stamped = set placed (index z (in_headers (at_stamp h))) stamp

  owns : KeepsBut z P a m
  owns = subst (KeepsBut z P a) (sym o.1) (but_set z P a (pin_spot h) (n + STATE) inside refl)

  fills : KeepsBut z P m d
  fills = subst (KeepsBut z P m) (sym f.1) (but_both z P m stamped (set stamped (index z (pin_spot h)) ((memory z m).headers.pin h + STATE))
      (but_both z P m placed stamped (but_set z P m (in_headers (at_place h)) place inside refl) (but_set z P placed (in_headers (at_stamp h)) stamp inside refl))
      (but_set z P stamped (pin_spot h) ((memory z m).headers.pin h + STATE) inside refl))

  owned : (memory z m).headers.pin h ≡ (memory z a).headers.pin h + STATE
  owned = ap (λ (ws : List ℕ). (memory z ws).headers.pin h) o.1 ∙ read_stored z a (pin_spot h) (n + STATE) wide inside

  long : length stamped ≡ word_count z
  long = length-set placed (index z (in_headers (at_stamp h))) stamp ∙ (length-set m (index z (in_headers (at_place h))) place ∙ (owns.size ∙ wide))

  filled : (memory z d).headers.pin h ≡ (memory z m).headers.pin h + STATE
  filled = ap (λ (ws : List ℕ). (memory z ws).headers.pin h) f.1 ∙ read_stored z stamped (pin_spot h) ((memory z m).headers.pin h + STATE) long inside

  pub makes_header : MakesHeaderIn z h a d
  makes_header = record {
    inside = inside;
    free = o.0;
    but = but_both z P a m d owns fills;
    pin = let x : ℕ = (memory z m).headers.pin h in let y : ℕ = (memory z d).headers.pin h in let u : ℕ = (memory z a).headers.pin h in let e : y ≡ x + STATE = filled in let g : x ≡ u + STATE = owned in let r : y ≡ u + 2 * STATE = omega arith in r;
  }

-- the block that was named by the place word
pub filled_names : (z : Sizes) (call h : ℕ) (c : Class) (b len stamp g : ℕ) (v w : PassState) → IsInLimits z → b < blocks z (class_number c) → class_of len ≡ Some c → 0 < in_state h OWNED v.headers → Fills z call h c b len stamp g v w → NamesBlock h c b w
filled_names z call h c b len stamp g v w limits inside fits own f = let word : ℕ = place_word (class_number c) b len in let held = v.headers.held in let words : List ℕ = words_held (class_number c) b v.blocks.held in
    let few : b < 2 ^ 32 = (let l = limits.blocks_greatest (class_number c) (class_below c) in let k = greatest_blocks (class_number c) in omega arith) in let short : len < 2 ^ 16 = (let l = fits_class len c fits in omega arith) in
    let is : place_held h w.headers.held ≡ word = ap (λ (y : PassState). place_held h y.headers.held) f.after
    ∙ (place_mapped (λ (r : HeldHeader). record r { held_as = cond (r.header == h) Fresh r.held_as; words = cond (r.header == h) words r.words }) (λ r. refl) h (stamped_at h stamp (placed_at h word held)) (λ r. refl)
    ∙ (stamped_place h h stamp (placed_at h word held) ∙ placed_here h word held (holds_some h OWNED v.headers own))) in
    (ap class_in is ∙ class_in-word (class_number c) b len few short, ap block_in is ∙ block_in-word (class_number c) b len few short)
