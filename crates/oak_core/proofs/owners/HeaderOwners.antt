-- Who owns which block after a step on a word of a header: a block goes to a header that is opened, and comes back from one that is released.
use Rattle.std.proofs.Common.{◌≡◌, ◌≢◌, ℕ, ◌+◌, ◌*◌, ◌<◌, sym, refl, ap, ◌∙◌, arith}
use Rattle.pin_word.specs.PinWord.{state_of}
use Rattle.oak_model.specs.Limits.{Sizes}
use Rattle.arena_core.specs.Place.{names_block}
use Rattle.header_core.specs.Headers.{HeaderMemory, at_pin, at_place}
use Rattle.header_core.specs.HeaderRule.{stocked}
use Rattle.header_core.specs.HeaderStep.{put_header}
use Rattle.oak_model.proofs.PutLaws.{put-here, put-else, put-cases}
use Rattle.oak_core.specs.Owners.{has_block, other_owners}
use Rattle.oak_core.proofs.owners.OwnerLaws.{owners_put, owners_same}

module _ (z : Sizes) (m : HeaderMemory) (h x : ℕ) (c b : ℕ) where
  -- the pin word becomes x
  pub pin_block-else : (k : ℕ) → k ≢ h → has_block (put_header m (at_pin h) x) c b k ≡ has_block m c b k
  pin_block-else k ne = ap (λ (w : ℕ). stocked (state_of w) * names_block c b (m.place k)) (put-else m.pin h x k ne)

  pub pin_block-here : has_block (put_header m (at_pin h) x) c b h ≡ stocked (state_of x) * names_block c b (m.place h)
  pin_block-here = ap (λ (w : ℕ). stocked (state_of w) * names_block c b (m.place h)) (put-here m.pin h x h refl)

  -- and the header has a block before where it has one after
  pub pin_owners-same : stocked (state_of x) ≡ stocked (state_of (m.pin h)) → other_owners z (put_header m (at_pin h) x) c b ≡ other_owners z m c b
  pin_owners-same e = owners_same z m (put_header m (at_pin h) x) c b
      (λ k. put-cases m.pin h x k (λ w. stocked (state_of w) * names_block c b (m.place k) ≡ stocked (state_of (m.pin k)) * names_block c b (m.place k))
      (λ q. ap (λ (i : ℕ). i * names_block c b (m.place k)) (e ∙ ap (λ (i : ℕ). stocked (state_of (m.pin i))) (sym q))) (λ _. refl))

  -- the header has a block after, and had none
  pub pin_owners-more : h < z.headers → stocked (state_of x) ≡ 1 → stocked (state_of (m.pin h)) ≡ 0 → other_owners z (put_header m (at_pin h) x) c b ≡ other_owners z m c b + names_block c b (m.place h)
  pin_owners-more lt one none = let o = owners_put z m (put_header m (at_pin h) x) h c b lt (λ k ne. pin_block-else k ne) in let n : ℕ = names_block c b (m.place h) in
      let a : has_block m c b h ≡ 0 = ap (λ (i : ℕ). i * n) none ∙ (let e : 0 * n ≡ 0 = omega arith in e) in let d : has_block (put_header m (at_pin h) x) c b h ≡ n = pin_block-here ∙ (ap (λ (i : ℕ). i * n) one ∙ (let e : 1 * n ≡ n = omega arith in e)) in omega arith

  -- or had one, and has none after
  pub pin_owners-less : h < z.headers → stocked (state_of x) ≡ 0 → stocked (state_of (m.pin h)) ≡ 1 → other_owners z (put_header m (at_pin h) x) c b + names_block c b (m.place h) ≡ other_owners z m c b
  pin_owners-less lt none one = let o = owners_put z m (put_header m (at_pin h) x) h c b lt (λ k ne. pin_block-else k ne) in let n : ℕ = names_block c b (m.place h) in
      let a : has_block m c b h ≡ n = ap (λ (i : ℕ). i * n) one ∙ (let e : 1 * n ≡ n = omega arith in e) in let d : has_block (put_header m (at_pin h) x) c b h ≡ 0 = pin_block-here ∙ (ap (λ (i : ℕ). i * n) none ∙ (let e : 0 * n ≡ 0 = omega arith in e)) in omega arith

  -- the place word of a header without a block becomes x
  pub place_owners-same : stocked (state_of (m.pin h)) ≡ 0 → other_owners z (put_header m (at_place h) x) c b ≡ other_owners z m c b
  place_owners-same none = owners_same z m (put_header m (at_place h) x) c b
      (λ k. put-cases m.place h x k (λ w. stocked (state_of (m.pin k)) * names_block c b w ≡ stocked (state_of (m.pin k)) * names_block c b (m.place k))
      (λ q. let s : stocked (state_of (m.pin k)) ≡ 0 = ap (λ (i : ℕ). stocked (state_of (m.pin i))) q ∙ none in
      let zero_of : (n : ℕ) → stocked (state_of (m.pin k)) * n ≡ 0 = (λ n. ap (λ (i : ℕ). i * n) s ∙ (let e : 0 * n ≡ 0 = omega arith in e)) in zero_of (names_block c b x) ∙ sym (zero_of (names_block c b (m.place k)))) (λ _. refl))

  -- or of one with a block
  pub place_owners : h < z.headers → stocked (state_of (m.pin h)) ≡ 1 → other_owners z (put_header m (at_place h) x) c b + names_block c b (m.place h) ≡ other_owners z m c b + names_block c b x
  place_owners lt one = let o = owners_put z m (put_header m (at_place h) x) h c b lt (λ k ne. ap (λ (w : ℕ). stocked (state_of (m.pin k)) * names_block c b w) (put-else m.place h x k ne)) in let n : ℕ = names_block c b (m.place h) in let i : ℕ = names_block c b x in
      let a : has_block m c b h ≡ n = ap (λ (k : ℕ). k * n) one ∙ (let e : 1 * n ≡ n = omega arith in e) in
      let d : has_block (put_header m (at_place h) x) c b h ≡ i = ap (λ (w : ℕ). stocked (state_of (m.pin h)) * names_block c b w) (put-here m.place h x h refl) ∙ (ap (λ (k : ℕ). k * i) one ∙ (let e : 1 * i ≡ i = omega arith in e)) in omega arith
