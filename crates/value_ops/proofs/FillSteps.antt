-- The steps that fill a header, one behind the other.
use Rattle.std.proofs.Common.{◌≡◌, ℕ, ◌+◌, ◌%◌, ◌^◌, ◌<◌, List, [], ◌∷◌, map, sym, refl, ap, ◌∙◌, subst, arith, Some, None}
use Rattle.pin_word.specs.PinWord.{generation_of, state_of, STATE}
use Rattle.oak_model.specs.declared.classes.Class.{Class}
use Rattle.oak_model.specs.Class.{class_number, class_of}
use Rattle.oak_model.specs.Counts.{rows}
use Rattle.oak_model.specs.Limits.{Sizes}
use Rattle.oak_model.proofs.Lists.{at_map}
use Rattle.arena_core.specs.Arena.{block_words}
use Rattle.arena_core.specs.Blocks.{HoldsBlock, without, words_held}
use Rattle.arena_core.specs.Place.{IsPlace, place_word, class_in, block_in, content}
use Rattle.arena_core.proofs.PlaceLaws.{class_in-word, block_in-word}
use Rattle.header_core.specs.declared.states.TheConstants.{OWNED}
use Rattle.header_core.specs.Headers.{at_pin, at_place, at_stamp}
use Rattle.header_core.specs.HeaderHolds.{in_state, place_held, IsFreshAt}
use Rattle.header_core.specs.HeaderStep.{store_place, store_stamp, open_header, placed_at, stamped_at, freshened}
use Rattle.header_core.proofs.HeldChanges.{rows_placed, rows_stamped}
use Rattle.header_core.proofs.HeaderFacts.{holds_some, held_is, record_of}
use Rattle.oak_core.specs.declared.states.Finding.{Finding}
use Rattle.oak_core.specs.declared.states.PassState.{PassState}
use Rattle.oak_core.specs.Memory.{Memory, in_headers, memory}
use Rattle.oak_core.specs.Finding.{finding, grown, noted}
use Rattle.oak_core.specs.HeaderCalls.{StoresPlace, StoresStamp, Opens}
use Rattle.oak_core.specs.PassState.{headers_held, blocks_of}
use Rattle.oak_core.specs.Step.{found, on_headers, MayOnHeaders}
use Rattle.oak_core.proofs.held.HeaderStanding.{knows, stand, at_headers, parts, place_of}
use Rattle.oak_core.proofs.memory.Words.{memory_read, header_before}
use Rattle.value_ops.proofs.FillRuns.{fill_runs}
use Rattle.value_ops.proofs.StepLeft.{pin_found}
use Rattle.value_ops.specs.Claiming.{pin_spot}
use Rattle.value_ops.specs.Filling.{filled_state, Fills}
use Rattle.value_ops.proofs.FillFacts.{fits_class, is_place, placed_here, stamped_place, freshened_known}
use Rattle.oak_core.proofs.calls.MetMore.{grown_twice}
use Rattle.arena_core.proofs.HeldWords.{held_words}

module _ (z : Sizes) (call h : ℕ) (c : Class) (b len stamp : ℕ) (v : PassState) (inside : h < z.headers) (own : 0 < in_state h OWNED v.headers) (held : HoldsBlock z (class_number c) b v.blocks) (small : b < 2 ^ 32) (fits : class_of len ≡ Some c) where
  abbrev place : ℕ
  place = place_word (class_number c) b len

  pub may_place : place < 2 ^ 64 → MayOnHeaders z (store_place h place) v
  may_place lt = record { inside = inside; headers = (own, lt); block = tt; known = tt }

  module _ (u : PassState) (t1 : StoresPlace z call h place v u) where
    abbrev first : Finding
    first = finding z call (in_headers (at_place h)) None place t1.1.table.words v

    abbrev with_place : PassState → PassState
    with_place y = record (noted first y) { headers = record y.headers { held = placed_at h place y.headers.held } }

    placed : u ≡ with_place v
    placed = t1.1.after

    pub owned_placed : 0 < in_state h OWNED u.headers
    owned_placed = subst (λ (y : PassState). 0 < in_state h OWNED y.headers) (sym placed) (let e = rows_placed h place h OWNED v.headers.held in omega arith)

    pub may_stamp : stamp < 2 ^ 64 → MayOnHeaders z (store_stamp h stamp) u
    may_stamp lt = record { inside = inside; headers = ((let o = owned_placed in omega arith), lt); block = tt; known = tt }

    module _ (y : PassState) (t2 : StoresStamp z call h stamp u y) where
      abbrev second : Finding
      second = finding z call (in_headers (at_stamp h)) None stamp t2.1.table.words u

      abbrev with_stamp : PassState → PassState
      with_stamp y = record (noted second y) { headers = record y.headers { held = stamped_at h stamp y.headers.held } }

      stamped : y ≡ with_stamp u
      stamped = t2.1.after

      abbrev both : PassState
      both = record (grown (first ∷ second ∷ []) v) { headers = record v.headers { held = stamped_at h stamp (placed_at h place v.headers.held) } }

      both_is : y ≡ both
      both_is = stamped ∙ (ap with_stamp placed ∙ ap (λ (s : PassState). record s { headers = record v.headers { held = stamped_at h stamp (placed_at h place v.headers.held) } }) (grown_twice v (first ∷ []) (second ∷ [])))

      same_blocks : y.blocks ≡ v.blocks
      same_blocks = ap (λ (s : PassState). s.blocks) both_is

      pub owned_stamped : 0 < in_state h OWNED y.headers
      owned_stamped = subst (λ (s : PassState). 0 < in_state h OWNED s.headers) (sym stamped) (let e = rows_stamped h stamp h OWNED u.headers.held in let o = owned_placed in omega arith)

      place_is : place_held h y.headers.held ≡ place
      place_is = ap (λ (s : PassState). place_held h s.headers.held) both_is ∙ (stamped_place h h stamp (placed_at h place v.headers.held) ∙ placed_here h place v.headers.held (holds_some h OWNED v.headers own))

      class_is : class_in place ≡ class_number c
      class_is = let l = fits_class len c fits in class_in-word (class_number c) b len small (omega arith)

      number_is : block_in place ≡ b
      number_is = let l = fits_class len c fits in block_in-word (class_number c) b len small (omega arith)

      pub may_open : MayOnHeaders z (open_header h) y
      may_open = record {
        inside = inside;
        headers = owned_stamped;
        block = record {
          place = subst IsPlace (sym place_is) (is_place c b len small fits);
          block = subst (λ (k : ℕ × ℕ). HoldsBlock z k.0 k.1 y.blocks) (λ i. (sym (ap class_in place_is ∙ class_is) i, sym (ap block_in place_is ∙ number_is) i)) (subst (HoldsBlock z (class_number c) b) (sym same_blocks) held);
        };
        known = tt;
      }

      module _ (n : ℕ) (w : PassState) (t3 : Opens z call h y n w) where
        abbrev m : Memory
        m = memory z t3.table.words

        abbrev third : Finding
        third = finding z call (pin_spot h) (Some (found z (on_headers (open_header h)) t3.table)) ((found z (on_headers (open_header h)) t3.table + STATE) % 2 ^ 64) t3.table.words y

        named : m.headers.place h ≡ place
        named = place_of z t3.table t3.seat y t3.rule t3.here h (holds_some h OWNED y.headers owned_stamped) ∙ place_is

        words : content m.arena.bytes (m.headers.place h) ≡ words_held (class_number c) b v.blocks.held
        words = (λ i. rows 0 (block_words ((ap class_in named ∙ class_is) i)) (m.arena.bytes ((ap class_in named ∙ class_is) i) ((ap block_in named ∙ number_is) i)))
            ∙ (held_words m.arena (class_number c) b y.blocks.held (t3.rule.blocks.whole t3.seat y.blocks (at_map blocks_of t3.table.states t3.seat y t3.here)) (parts z t3.table t3.seat y t3.rule t3.here).blocks
            (subst (λ (a : _). 0 < Rattle.arena_core.specs.Blocks.holds (class_number c) b a) (sym same_blocks) held.held)
            ∙ ap (λ (a : _). words_held (class_number c) b (a.held)) same_blocks)

        abbrev with_open : ℕ → ℕ → List ℕ → PassState → PassState
        with_open d e ws s = record (noted third s) { blocks = record s.blocks { held = without d e s.blocks.held }; headers = record s.headers { held = freshened h ws s.headers.held } }

        opened : w ≡ with_open (class_number c) b (words_held (class_number c) b v.blocks.held) y
        opened = t3.after ∙ (λ i. with_open ((ap class_in named ∙ class_is) i) ((ap block_in named ∙ number_is) i) (words i) y)

        was_owned : state_of n ≡ OWNED
        was_owned = ap state_of (sym (pin_found z call (open_header h) h refl y n w t3))
            ∙ held_is m.headers (content m.arena.bytes) IsPlace (knows t3.table) (map headers_held t3.table.states) (stand z t3.table t3.seat y t3.rule t3.here) t3.seat y.headers h OWNED (at_headers z t3.table t3.seat y t3.rule t3.here) (omega arith) (omega arith) owned_stamped

        pub fills : Fills z call h c b len stamp (generation_of n) v w
        fills = record {
          placed = u;
          stamped = y;
          stores = t1;
          stamps = t2;
          number = n;
          told = t3;
          generation_is = refl;
          more = first ∷ second ∷ third ∷ [];
          calls = ((refl, header_before z (at_place h) inside, refl), ((refl, header_before z (at_stamp h) inside, refl), ((refl, header_before z (at_pin h) inside, refl), tt)));
          still = fill_runs z h inside call place stamp v u y n w t1 t2 t3 was_owned;
          after = opened ∙ (ap (with_open (class_number c) b (words_held (class_number c) b v.blocks.held)) both_is
              ∙ ap (λ (s : PassState). record s { blocks = (filled_state h c b len stamp v).blocks; headers = (filled_state h c b len stamp v).headers }) (grown_twice v (first ∷ second ∷ []) (third ∷ [])));
        }

        pub fresh : IsFreshAt h (generation_of n) w.headers
        fresh = let r = record_of m.headers (content m.arena.bytes) IsPlace (knows t3.table) (map headers_held t3.table.states) (stand z t3.table t3.seat y t3.rule t3.here) t3.seat y.headers h OWNED (at_headers z t3.table t3.seat y t3.rule t3.here) owned_stamped in
            let g : generation_of n ≡ r.0.generation = ap generation_of (sym (memory_read z t3.table.words (pin_spot h) inside ∙ t3.finds)) ∙ r.4 in
            subst (λ (k : ℕ). IsFreshAt h k w.headers) (sym g) (subst (λ (s : PassState). IsFreshAt h r.0.generation s.headers) (sym t3.after) (freshened_known h (content m.arena.bytes (m.headers.place h)) y.headers.held r.0 r.1 r.2))
