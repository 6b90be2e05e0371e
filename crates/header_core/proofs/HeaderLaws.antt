-- One law for each way in which the headers' words and the passes' holds change.
use Rattle.std.proofs.Common.{◌≡◌, ◌≢◌, ℕ, ◌+◌, ◌<◌, ◌≤◌, ◌⊎◌, List, [], ◌∷◌, set, sym, refl, ap, ◌∙◌, subst, arith, Option, Some, None, ⊎_elim, inl, inr}
use mathlib.Core.Option.{some}
use lib.ListN.{get_elem?}
use Rattle.pin_word.specs.PinWord.{generation_of, state_of, count_of}
use Rattle.oak_model.specs.Counts.{one_at, total, Each}
use Rattle.oak_model.proofs.Lists.{every_one}
use Rattle.oak_model.proofs.Counting.{one_at-same, one_at-other}
use Rattle.oak_model.proofs.Changes.{Among, Change, stepped}
use Rattle.header_core.specs.declared.states.TheConstants.{FREE, LIVE, LOCKED, DEAD, RETIRED, LAST_GENERATION}
use Rattle.header_core.specs.declared.holds.HeldHeader.{HeldHeader}
use Rattle.header_core.specs.declared.holds.PinnedHeader.{PinnedHeader}
use Rattle.header_core.specs.declared.holds.HeaderHolds.{HeaderHolds}
use Rattle.header_core.specs.Headers.{HeaderMemory}
use Rattle.header_core.specs.HeaderHolds.{no_headers, pins_on, in_state}
use Rattle.header_core.proofs.HeldHeaders.{held_in}
use Rattle.header_core.specs.HeaderStep.{reworded}
use Rattle.header_core.proofs.HeldChanges.{rows_reworded, each_reworded}
use Rattle.header_core.specs.HeaderRule.{stocked, IsGood, OnPin, PinHolds, GoodPinHolds, RemovalStands, DeadPinHolds, HeadersStand}

pub on_pin : (P Q : PinnedHeader → Type 0) (o : Option PinnedHeader) → ((p : PinnedHeader) → o ≡ Some p → P p → Q p) → OnPin P o → OnPin Q o
on_pin P Q None f s = tt
on_pin P Q (Some p) f s = f p refl s

-- a header below the live state has no block
pub unstocked : (s : ℕ) → s < LIVE → stocked s ≡ 0
unstocked s l = let a = one_at-other s LIVE (λ e. omega arith) in let b = one_at-other s LOCKED (λ e. omega arith) in let c = one_at-other s DEAD (λ e. omega arith) in omega arith

-- what holds of each header in the list, where it may be used that it is in it
pub each_held : (P Q : ℕ → ℕ → Type 0) (rs : List HeldHeader) → ((k g : ℕ) → 0 < held_in k rs → P k g → Q k g) → Each (λ (r : HeldHeader). P r.header r.generation) rs → Each (λ (r : HeldHeader). Q r.header r.generation) rs
unfolding total
each_held P Q [] f e = tt
each_held P Q (r ∷ rs) f e = (f r.header r.generation (let o = one_at-same r.header r.header refl in omega arith) e.0, each_held P Q rs (λ k g l. f k g (omega arith)) e.1)

-- what the bundle says of one pass alone
pub record OneStands (m : HeaderMemory) (content : ℕ → List ℕ) (a : HeaderHolds) : Type 0 where
  pub generations : Each (λ (r : HeldHeader). generation_of (m.pin r.header) ≡ r.generation) a.held
  pub good : OnPin (GoodPinHolds m content) a.pin
  pub dead : OnPin (DeadPinHolds m) a.pin

pub one_stands : (m : HeaderMemory) (content : ℕ → List ℕ) (IsPlace : ℕ → Type 0) (known : ℕ → ℕ → ℕ) (hs : List HeaderHolds) → HeadersStand m content IsPlace known hs → (j : ℕ) (a : HeaderHolds) → get_elem? hs j ≡ some a → OneStands m content a
one_stands m content IsPlace known hs r j a at = record { generations = r.generations j a at; good = r.good j a at; dead = r.dead j a at }

-- a pass that holds nothing
pub none_stands : (m : HeaderMemory) (content : ℕ → List ℕ) → OneStands m content no_headers
none_stands m content = record { generations = tt; good = tt; dead = tt }

-- a pass whose holds stay, where the memory changes and the headers that it holds keep their generations
pub still_stands : (m m' : HeaderMemory) (content content' : ℕ → List ℕ) (a : HeaderHolds) → ((h : ℕ) → 0 < held_in h a.held → generation_of (m'.pin h) ≡ generation_of (m.pin h)) → ((p : PinnedHeader) → a.pin ≡ Some p → IsGood p → PinHolds m content p → PinHolds m' content' p)
    → ((p : PinnedHeader) → a.pin ≡ Some p → RemovalStands m p → RemovalStands m' p) → OneStands m content a → OneStands m' content' a
still_stands m m' content content' a same good dead s = record {
  generations = each_held (λ k g. generation_of (m.pin k) ≡ g) (λ k g. generation_of (m'.pin k) ≡ g) a.held (λ k g held e. same k held ∙ e) s.generations;
  good = on_pin (GoodPinHolds m content) (GoodPinHolds m' content') a.pin (λ p is f g. good p is g (f g)) s.good;
  dead = on_pin (DeadPinHolds m) (DeadPinHolds m') a.pin (λ p is f g. dead p is (f g)) s.dead;
}

-- pins and states go with the words as the holds change
pub headers_change : (m m' : HeaderMemory) (content content' : ℕ → List ℕ) (IsPlace : ℕ → Type 0) (known known' : ℕ → ℕ → ℕ) {before after gone fresh : List HeaderHolds} (ch : Change before after gone fresh) → HeadersStand m content IsPlace known before
    → ((h : ℕ) → total (pins_on h) fresh + count_of (m.pin h) ≡ total (pins_on h) gone + count_of (m'.pin h))
    → ((h s : ℕ) → 0 < s → s < RETIRED → s ≢ LIVE → total (in_state h s) fresh + one_at (state_of (m.pin h)) s ≡ total (in_state h s) gone + one_at (state_of (m'.pin h)) s)
    → ((h : ℕ) → total (in_state h LIVE) before + total (in_state h LIVE) fresh ≤ total (in_state h LIVE) gone + one_at (state_of (m'.pin h)) LIVE)
    → ((h : ℕ) → total (in_state h LIVE) fresh + known' h (generation_of (m'.pin h)) + stocked (state_of (m.pin h)) ≡ total (in_state h LIVE) gone + known h (generation_of (m.pin h)) + stocked (state_of (m'.pin h)))
    → ((h g : ℕ) → 0 < known' h g → g ≤ generation_of (m'.pin h))
    → ((h : ℕ) → (one_at (state_of (m'.pin h)) RETIRED ≡ one_at (generation_of (m'.pin h)) LAST_GENERATION) × (state_of (m'.pin h) ≤ RETIRED))
    → ((h : ℕ) → 0 < stocked (state_of (m'.pin h)) → IsPlace (m'.place h))
    → Each (OneStands m' content') fresh
    → ((j : ℕ) (a : HeaderHolds) → ch.Stays j → get_elem? before j ≡ some a → OneStands m' content' a)
    → HeadersStand m' content' IsPlace known' after
headers_change m m' content content' IsPlace known known' ch r counts states lives settled older retired placed new stays = let ones = ch.every (OneStands m' content') new stays in record {
  counted = λ h. let s = ch.sums (pins_on h) in let c = r.counted h in let k = counts h in omega arith;
  held = λ h s pos low ne. let t = ch.sums (in_state h s) in let c = r.held h s pos low ne in let k = states h s pos low ne in omega arith;
  fresh = λ h. let t = ch.sums (in_state h LIVE) in let k = lives h in omega arith;
  settled = λ h. let t = ch.sums (in_state h LIVE) in let c = r.settled h in let k = settled h in omega arith;
  older = older;
  six = λ h. (retired h).1;
  retired = λ h. (retired h).0;
  placed = placed;
  generations = λ j a at. (ones j a at).generations;
  good = λ j a at. (ones j a at).good;
  dead = λ j a at. (ones j a at).dead;
}

-- a block changes that no good pin found
pub content_frame : (m : HeaderMemory) (content content' : ℕ → List ℕ) (IsPlace : ℕ → Type 0) (known : ℕ → ℕ → ℕ) (hs : List HeaderHolds)
    → ((j : ℕ) (u : HeaderHolds) (p : PinnedHeader) → get_elem? hs j ≡ some u → u.pin ≡ Some p → IsGood p → content' p.place ≡ content p.place)
    → HeadersStand m content IsPlace known hs → HeadersStand m content' IsPlace known hs
content_frame m content content' IsPlace known hs same r = record {
  counted = r.counted;
  held = r.held;
  fresh = r.fresh;
  settled = r.settled;
  older = r.older;
  six = r.six;
  retired = r.retired;
  placed = r.placed;
  generations = r.generations;
  good = λ j u at. on_pin (GoodPinHolds m content) (GoodPinHolds m content') u.pin
      (λ p is f g. let t = f g in record { live = t.live; generation = t.generation; place = t.place; stamp = t.stamp; words = same j u p at is g ∙ t.words }) (r.good j u at);
  dead = r.dead;
}

-- a word of a block changes of which a pass has the header, and which no good pin found
pub reworded_keeps : (m : HeaderMemory) (content content' : ℕ → List ℕ) (IsPlace : ℕ → Type 0) (known : ℕ → ℕ → ℕ) (hs : List HeaderHolds) (r : HeadersStand m content IsPlace known hs) (seat : ℕ) (a : HeaderHolds) (there : get_elem? hs seat ≡ some a) (h k x : ℕ)
    → ((j : ℕ) (u : HeaderHolds) (p : PinnedHeader) → get_elem? hs j ≡ some u → u.pin ≡ Some p → IsGood p → content' p.place ≡ content p.place)
    → HeadersStand m content' IsPlace known (set hs seat (record a { held = reworded h k x a.held }))
unfolding total
reworded_keeps m content content' IsPlace known hs r seat a there h k x same = let t = content_frame m content content' IsPlace known hs same r in let b : HeaderHolds = record a { held = reworded h k x a.held } in
    headers_change m m content' content' IsPlace known known (stepped hs seat a b there) t (λ _. refl) (λ i s _ _ _. let e = rows_reworded h k x i s a.held in omega arith)
    (λ i. let e = rows_reworded h k x i LIVE a.held in let f = r.fresh i in omega arith) (λ i. let e = rows_reworded h k x i LIVE a.held in omega arith) r.older (λ i. (r.retired i, r.six i)) r.placed
    (record { generations = each_reworded h k x (λ i g. generation_of (m.pin i) ≡ g) a.held (r.generations seat a there); good = t.good seat a there; dead = r.dead seat a there }, tt) (λ j u _ at. one_stands m content' IsPlace known hs t j u at)

-- holds pass from one seat to another, and idle passes come and go
module _ (m : HeaderMemory) (content : ℕ → List ℕ) (IsPlace : ℕ → Type 0) (known known' : ℕ → ℕ → ℕ) (same : (h g : ℕ) → known' h g ≡ known h g) {before : List HeaderHolds} (r : HeadersStand m content IsPlace known before) where
  known_ones : (fresh : List HeaderHolds) → Each (λ (b : HeaderHolds). Among before b ⊎ (b ≡ no_headers)) fresh → Each (OneStands m content) fresh
  known_ones [] k = tt
  known_ones (b ∷ bs) k = (
    ⊎_elim (λ (t : Among before b). one_stands m content IsPlace known before r t.0 b t.1) (λ (e : b ≡ no_headers). subst (OneStands m content) (sym e) (none_stands m content)) k.0,
    known_ones bs k.1,
  )

  pub headers_frame : {after gone fresh : List HeaderHolds} (ch : Change before after gone fresh) → Each (λ (b : HeaderHolds). Among before b ⊎ (b ≡ no_headers)) fresh
      → ((h : ℕ) → total (pins_on h) fresh ≡ total (pins_on h) gone) → ((h s : ℕ) → total (in_state h s) fresh ≡ total (in_state h s) gone) → HeadersStand m content IsPlace known' after
  headers_frame {after} {gone} {fresh} ch among pins states = headers_change m m content content IsPlace known known' ch r
      (λ h. let e = pins h in omega arith) (λ h s _ _ _. let e = states h s in omega arith) (λ h. let e = states h LIVE in let f = r.fresh h in omega arith)
      (λ h. let e = states h LIVE in let k = same h (generation_of (m.pin h)) in omega arith) (λ h g l. r.older h g (let k = same h g in omega arith)) (λ h. (r.retired h, r.six h)) r.placed
      (known_ones fresh among) (λ j a _ at. one_stands m content IsPlace known before r j a at)

  pub headers_divided : {after : List HeaderHolds} (a : HeaderHolds) (ch : Change before after (a ∷ []) (a ∷ no_headers ∷ [])) → Among before a → HeadersStand m content IsPlace known' after
  unfolding total
  headers_divided a ch among = headers_frame ch (inl among, (inr refl, tt)) (λ h. omega arith) (λ h s. omega arith)

  pub headers_joined : {after : List HeaderHolds} (a b : HeaderHolds) (ch : Change before after (a ∷ b ∷ []) (a ∷ no_headers ∷ [])) → Among before a → b ≡ no_headers → HeadersStand m content IsPlace known' after
  headers_joined a b ch among idle = headers_frame ch (inl among, (inr refl, tt))
      (λ h. ap (λ (x : HeaderHolds). total (pins_on h) (a ∷ x ∷ [])) (sym idle)) (λ h s. ap (λ (x : HeaderHolds). total (in_state h s) (a ∷ x ∷ [])) (sym idle))

-- at the start all headers are free and without a pin, below the last generation, and none is known
pub headers_open : (m : HeaderMemory) (content : ℕ → List ℕ) (IsPlace : ℕ → Type 0) (known : ℕ → ℕ → ℕ) → ((h g : ℕ) → known h g ≡ 0)
    → ((h : ℕ) → (count_of (m.pin h) ≡ 0) × (state_of (m.pin h) ≡ FREE) × (generation_of (m.pin h) < LAST_GENERATION)) → HeadersStand m content IsPlace known (no_headers ∷ [])
unfolding total
headers_open m content IsPlace known none free = record {
  counted = λ h. let f = (free h).0 in omega arith;
  held = λ h s pos low ne. let f = (free h).1 in let o = one_at-other (state_of (m.pin h)) s (λ e. omega arith) in omega arith;
  fresh = λ h. let f = (free h).1 in let o = one_at-other (state_of (m.pin h)) LIVE (λ e. omega arith) in omega arith;
  settled = λ h. let f = (free h).1 in let k = none h (generation_of (m.pin h)) in let u = unstocked (state_of (m.pin h)) (omega arith) in omega arith;
  older = λ h g l. let k = none h g in absurd (omega arith);
  six = λ h. let f = (free h).1 in omega arith;
  retired = λ h. let f = (free h).1 in let g = (free h).2 in one_at-other (state_of (m.pin h)) RETIRED (λ e. omega arith) ∙ sym (one_at-other (generation_of (m.pin h)) LAST_GENERATION (λ e. omega arith));
  placed = λ h pos. let f = (free h).1 in let u = unstocked (state_of (m.pin h)) (omega arith) in absurd (omega arith);
  generations = every_one (λ (a : HeaderHolds). Each (λ (r : HeldHeader). generation_of (m.pin r.header) ≡ r.generation) a.held) no_headers tt;
  good = every_one (λ (a : HeaderHolds). OnPin (GoodPinHolds m content) a.pin) no_headers tt;
  dead = every_one (λ (a : HeaderHolds). OnPin (DeadPinHolds m) a.pin) no_headers tt;
}
