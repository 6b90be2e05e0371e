-- A fresh header that is freed again, and its block.
use Rattle.std.proofs.Common.{◌≡◌, ℕ, ◌<◌, [], ◌∷◌, sym, refl, ap, ◌∙◌, subst, arith, Some, None}
use Rattle.oak_model.specs.declared.classes.Class.{Class}
use Rattle.oak_model.specs.Class.{class_number}
use Rattle.oak_model.specs.Limits.{Sizes}
use Rattle.arena_core.specs.declared.blocks.HeldBlock.{HeldBlock}
use Rattle.arena_core.specs.Arena.{blocks}
use Rattle.arena_core.specs.Blocks.{HoldsBlock, block_from}
use Rattle.arena_core.specs.Place.{class_in, block_in, class_from}
use Rattle.arena_core.proofs.PlaceLaws.{class_number-from}
use Rattle.header_core.specs.declared.states.TheConstants.{LIVE}
use Rattle.header_core.specs.declared.holds.HeldAs.TheVariants.{Fresh}
use Rattle.header_core.specs.Headers.{at_pin, at_place}
use Rattle.header_core.specs.HeaderHolds.{in_state, place_held, without_header, IsFreshAt}
use Rattle.header_core.specs.HeaderStep.{header_effect, release_header}
use Rattle.header_core.proofs.HeaderFacts.{knows_fresh}
use Rattle.oak_core.specs.declared.states.Finding.{Finding}
use Rattle.oak_core.specs.declared.states.PassState.{PassState}
use Rattle.oak_core.specs.Memory.{Memory, in_headers, index, rooms_at, memory}
use Rattle.oak_core.specs.Finding.{finding, grown, noted, IsLoadOf}
use Rattle.oak_core.specs.HeaderCalls.{Releases}
use Rattle.oak_core.specs.Splitting.{Loads}
use Rattle.oak_core.specs.Step.{found, on_headers, MayOnHeaders}
use Rattle.oak_core.proofs.calls.MetMore.{grown_twice, told_of}
use Rattle.oak_core.proofs.memory.Words.{header_before}
use Rattle.value_ops.specs.Claiming.{pin_spot}
use Rattle.value_ops.specs.Filling.{FreesPin, Withdraws}
use Rattle.value_ops.specs.HeldValue.{words_in}
use Rattle.value_ops.proofs.BlockExchange.{holds_front}
use Rattle.value_ops.proofs.FreedFacts.{freed, frees}
use Rattle.value_ops.proofs.AlonePins.{load_stays, stays_then}
use Rattle.value_ops.proofs.HeldValues.{block_at, block_inside, class_low}
use Rattle.value_ops.proofs.StampStores.{held_place}
use Rattle.oak_core.proofs.told.PlainLoads.{met_at}

module _ (z : Sizes) (call h g : ℕ) (v : PassState) (inside : h < z.headers) (fresh_at : IsFreshAt h g v.headers) (idle : v.headers.pin ≡ None) where
  fresh : 0 < in_state h LIVE v.headers
  fresh = knows_fresh h g v.headers fresh_at

  module _ (word n : ℕ) (u : PassState) (is : word ≡ index z (in_headers (at_place h))) (l : Loads z call word v n u) where
    abbrev first : Finding
    first = finding z call l.spot (Some n) n l.told.table.words v

    now_met : u ≡ grown (first ∷ []) v
    now_met = met_at z call word n v u (in_headers (at_place h)) inside tt is l

    first_of : IsLoadOf z call first
    first_of = (refl, subst (λ (i : ℕ). i < rooms_at z) (sym (l.at ∙ is)) (header_before z (at_place h) inside), refl, refl)

    named : n ≡ place_held h v.headers.held
    named = held_place z call h LIVE word n v u inside (omega arith) (omega arith) fresh l is

    pub may_release : MayOnHeaders z (release_header h Fresh) u
    may_release = record {
      inside = inside;
      headers = (subst (λ (y : PassState). 0 < in_state h LIVE y.headers) (sym now_met) fresh, ap (λ (y : PassState). y.headers.pin) now_met ∙ idle);
      block = tt;
      known = tt;
    }

    module _ (k : ℕ) (w : PassState) (t : Releases z call h Fresh u k w) where
      abbrev m : Memory
      m = memory z t.table.words

      still : 0 < in_state h LIVE u.headers
      still = may_release.headers.0

      -- the place word that was loaded names the header's block
      named_still : place_held h u.headers.held ≡ n
      named_still = ap (λ (y : PassState). place_held h y.headers.held) now_met ∙ sym named

      abbrev c : Class
      c = class_from (class_in n)

      abbrev b : ℕ
      b = block_in n

      class_is : class_number c ≡ class_in n
      class_is = class_number-from (class_in n) (subst (λ (p : ℕ). class_in p < 4) named_still (class_low z t.table t.rule t.seat u t.here h LIVE (omega arith) (omega arith) still))

      abbrev given : HeldBlock
      given = record { class = c; number = b; words = words_in h v.headers.held }

      given_is : block_from m.arena.bytes (class_from (class_in (m.headers.place h))) (block_in (m.headers.place h)) ≡ given
      given_is = block_at z t.table t.rule t.seat u t.here h LIVE (omega arith) (omega arith) still
          ∙ (λ i. record { class = class_from (class_in (named_still i)); number = block_in (named_still i); words = words_in h (now_met i).headers.held })

      abbrev second : Finding
      second = finding z call (pin_spot h) (Some (found z (on_headers (release_header h Fresh)) t.table)) (header_effect (release_header h Fresh) (found z (on_headers (release_header h Fresh)) t.table)) t.table.words u

      abbrev with_block : HeldBlock → PassState → PassState
      with_block o y = record (noted second y) { blocks = record y.blocks { held = o ∷ y.blocks.held }; headers = record y.headers { held = without_header h y.headers.held } }

      after_is : w ≡ with_block given u
      after_is = t.after ∙ ap (λ (o : HeldBlock). with_block o u) given_is

      pub withdraws : Withdraws z call h c b v w
      withdraws = record {
        class_is = ap class_in (sym named) ∙ sym class_is;
        block_is = ap block_in (sym named);
        before = first ∷ [];
        looks = (first_of, tt);
        still = stays_then (FreesPin z h LIVE) v u w (load_stays z call word n v u l) (frees z call h Fresh u k w t);
        number = k;
        told = told_of z call (on_headers (release_header h Fresh)) u (grown (first ∷ []) v) now_met k w t;
        freed = freed z call h Fresh (grown (first ∷ []) v) k w (told_of z call (on_headers (release_header h Fresh)) u (grown (first ∷ []) v) now_met k w t);
        more = first ∷ second ∷ [];
        calls = ((first_of.0, first_of.1, first_of.3), ((refl, header_before z (at_pin h) inside, refl), tt));
        after = after_is ∙ (ap (with_block given) now_met
            ∙ ap (λ (y : PassState). record y { blocks = record v.blocks { held = given ∷ v.blocks.held }; headers = record v.headers { held = without_header h v.headers.held } }) (grown_twice v (first ∷ []) (second ∷ [])));
      }

      pub holds_block : HoldsBlock z (class_number c) b w.blocks
      holds_block = holds_front z (class_number c) b given u.blocks.held w.blocks (ap (λ (y : PassState). y.blocks.held) after_is) refl refl
          (subst (λ (p : ℕ × ℕ). p.0 < blocks z p.1) (λ i. (block_in (named_still i), (ap class_in named_still ∙ sym class_is) i)) (block_inside z t.table t.rule t.seat u t.here h LIVE (omega arith) (omega arith) still))
