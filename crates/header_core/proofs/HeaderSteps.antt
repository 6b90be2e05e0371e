-- Each kind of step on the headers' words keeps the points on headers.
use Rattle.std.proofs.Common.{◌≡◌, ◌≢◌, ℕ, ◌+◌, ◌^◌, ◌<◌, ◌≤◌, cond, List, ◌∷◌, set, sym, ap, ◌∙◌, subst, arith}
use mathlib.Core.Option.{some}
use lib.ListN.{get_elem?}
use prog.Atomic.{either}
use mathlib.Core.Logic.{dite}
use native.Mathlib.Decide.{ℕ_discrete, dec_lt}
use Rattle.header_core.specs.declared.holds.HeldHeader.{HeldHeader}
use Rattle.header_core.specs.declared.holds.PinnedHeader.{PinnedHeader}
use Rattle.header_core.proofs.HeldHeaders.{fresh_in}
use Rattle.header_core.proofs.HeldChanges.{fresh_placed, fresh_stamped, fresh_changed, fresh_taken, fresh_freshened, fresh_without-others, fresh_buried-others}
use Rattle.header_core.proofs.HeaderFacts.{held_is, fresh_at_is}
use Rattle.header_core.proofs.HeaderLaws.{on_pin}
use Rattle.pin_word.specs.PinWord.{generation_of, state_of, STATE}
use Rattle.oak_model.specs.Counts.{total, Every}
use Rattle.header_core.specs.declared.states.TheConstants.{OWNED, LIVE, LOCKED, DEAD, RETIRED}
use Rattle.header_core.specs.declared.holds.HeldAs.TheVariants.{Owned, Fresh, Locked, Buried}
use Rattle.header_core.specs.declared.holds.HeaderHolds.{HeaderHolds}
use Rattle.header_core.specs.Headers.{HeaderMemory, read_header}
use Rattle.header_core.specs.HeaderHolds.{pins_on, in_state, fresh_at, without_header}
use Rattle.header_core.specs.HeaderRule.{OnPin, HeadersStand, PinsWhatItKnows}
use Rattle.header_core.specs.HeaderStep.{HeaderStep, claim_header, store_place, store_stamp, change_place, open_header, pin_header, unpin_header, release_header, lock_header, unlock_header, mark_dead, take_back, header_spot, header_effect, MayHeader, headers_after, put_header, placed_at, stamped_at, freshened, changed_at, buried_at, owned_at, locked_at}
use Rattle.header_core.proofs.HeaderPins.{pin_keeps, unpin_keeps}
use Rattle.header_core.proofs.HeaderStores.{store_place_keeps, store_stamp_keeps, change_place_keeps}
use Rattle.oak_model.proofs.Counting.{decided}
use Rattle.header_core.proofs.ClaimedHeaders.{claim_keeps, open_keeps, release_keeps}
use Rattle.header_core.proofs.LockedHeaders.{lock_keeps, unlock_keeps, bury_keeps, renew_keeps}

-- what the step needs of the table: the count has room for one more pin, a header that is opened has a block, a place word that is stored names one, and a header that is locked is known
abbrev pub Needs : HeaderMemory → (ℕ → Type 0) → (ℕ → ℕ → ℕ) → List HeaderHolds → HeaderStep → Type 0
Needs m IsPlace known hs (pin_header h g) = total (pins_on h) hs + 1 < 2 ^ 28
Needs m IsPlace known hs (open_header h) = IsPlace (m.place h)
Needs m IsPlace known hs (change_place h x) = IsPlace x
Needs m IsPlace known hs (lock_header h old) = 0 < known h (generation_of old)
Needs m IsPlace known hs _ = Unit {0}

-- one clause for each kind
pub headers_keep : (m : HeaderMemory) (content : ℕ → List ℕ) (IsPlace : ℕ → Type 0) (known : ℕ → ℕ → ℕ) (hs : List HeaderHolds) (r : HeadersStand m content IsPlace known hs) (pins : Every (PinsWhatItKnows known) hs) (small : (h : ℕ) → m.pin h < 2 ^ 64)
    (seat : ℕ) (a : HeaderHolds) (there : get_elem? hs seat ≡ some a) (x : HeaderStep) → MayHeader x a → Needs m IsPlace known hs x
    → HeadersStand (put_header m (header_spot x) (header_effect x (read_header m (header_spot x)))) content IsPlace known (set hs seat (headers_after m content x a))
headers_keep m content IsPlace known hs r pins small seat a there (claim_header h old) may needs = claim_keeps m content IsPlace known hs r seat a there h old may
headers_keep m content IsPlace known hs r pins small seat a there (store_place h x) may needs = store_place_keeps m content IsPlace known hs r seat a there h may.0 x
headers_keep m content IsPlace known hs r pins small seat a there (store_stamp h x) may needs = store_stamp_keeps m content IsPlace known hs r seat a there h may.0 x
headers_keep m content IsPlace known hs r pins small seat a there (change_place h x) may needs = change_place_keeps m content IsPlace known hs r seat a there h may.0 x needs
headers_keep m content IsPlace known hs r pins small seat a there (open_header h) may needs = open_keeps m content IsPlace known hs r seat a there h may (small h) needs
headers_keep m content IsPlace known hs r pins small seat a there (pin_header h g) may needs = pin_keeps m content IsPlace known hs r seat a there h (small h) g may needs
headers_keep m content IsPlace known hs r pins small seat a there (unpin_header h) may needs = unpin_keeps m content IsPlace known hs r seat a there h (small h) may
headers_keep m content IsPlace known hs r pins small seat a there (release_header h s) may needs = release_keeps m content IsPlace known hs r seat a there h s may.0 may.1 pins (small h)
headers_keep m content IsPlace known hs r pins small seat a there (lock_header h old) may needs = lock_keeps m content IsPlace known hs r seat a there h old may needs
headers_keep m content IsPlace known hs r pins small seat a there (unlock_header h kind) may needs = unlock_keeps m content IsPlace known hs r seat a there h kind may (small h)
headers_keep m content IsPlace known hs r pins small seat a there (mark_dead h) may needs = bury_keeps m content IsPlace known hs r seat a there h may (small h)
headers_keep m content IsPlace known hs r pins small seat a there (take_back h x) may needs = renew_keeps m content IsPlace known hs r seat a there h x may.0 may.1 (small h)

-- a header that the step pins is one that its pass has fresh, or knows otherwise
abbrev pub MayKnow : (ℕ → ℕ → ℕ) → HeaderStep → HeaderHolds → Type 0
MayKnow knows (pin_header h g) a = 0 < fresh_at h g a + knows h g
MayKnow knows _ a = Unit {0}

-- what is fresh stays so
fresher : (knows : ℕ → ℕ → ℕ) (a : HeaderHolds) (rs : List HeldHeader) → ((k g : ℕ) → fresh_in k g a.held ≤ fresh_in k g rs) → PinsWhatItKnows knows a → PinsWhatItKnows knows (record a { held = rs })
fresher knows a rs more pins = on_pin (λ (p : PinnedHeader). 0 < fresh_in p.header p.wanted a.held + knows p.header p.wanted) (λ (p : PinnedHeader). 0 < fresh_in p.header p.wanted rs + knows p.header p.wanted) a.pin
    (λ p _ l. let t = more p.header p.wanted in omega arith) pins

-- also where a header goes that is not live
lost : (m : HeaderMemory) (content : ℕ → List ℕ) (IsPlace : ℕ → Type 0) (known : ℕ → ℕ → ℕ) (hs : List HeaderHolds) (r : HeadersStand m content IsPlace known hs) (seat : ℕ) (a : HeaderHolds) (there : get_elem? hs seat ≡ some a) (h s : ℕ) → 0 < in_state h s a → s ≢ LIVE → 0 < s → s < RETIRED
    → (rs : List HeldHeader) → ((k g : ℕ) → k ≢ h → fresh_in k g rs ≡ fresh_in k g a.held) → (k g : ℕ) → fresh_in k g a.held ≤ fresh_in k g rs
lost m content IsPlace known hs r seat a there h s own ne pos low rs others k g = dite (ℕ_discrete k h)
    (λ e. dite (dec_lt 0 (fresh_in h g a.held))
    (λ l. let f = (fresh_at_is m content IsPlace known hs r seat a h g there l).0 in let t = held_is m content IsPlace known hs r seat a h s there pos low own in absurd (ne (sym t ∙ f)))
    (λ no. let w = ap (λ (i : ℕ). fresh_in i g a.held) e in omega arith))
    (λ n. let o = others k g n in omega arith)

-- so a pass pins what it knows after each step
pub pins_kept : (m : HeaderMemory) (content : ℕ → List ℕ) (IsPlace : ℕ → Type 0) (known : ℕ → ℕ → ℕ) (hs : List HeaderHolds) (r : HeadersStand m content IsPlace known hs) (seat : ℕ) (a : HeaderHolds) (there : get_elem? hs seat ≡ some a) (knows : ℕ → ℕ → ℕ)
    (x : HeaderStep) → MayHeader x a → MayKnow knows x a → PinsWhatItKnows knows a → PinsWhatItKnows knows (headers_after m content x a)
pins_kept m content IsPlace known hs r seat a there knows (claim_header h old) may know pins = decided (m.pin h) old (λ t. PinsWhatItKnows knows (record a { held = cond t (owned_at m h ∷ a.held) a.held }))
    (λ _. fresher knows a (owned_at m h ∷ a.held) (λ k g. fresh_taken (owned_at m h) k g a.held) pins) (λ _. pins)
pins_kept m content IsPlace known hs r seat a there knows (store_place h x) may know pins = fresher knows a (placed_at h x a.held) (λ k g. let e = fresh_placed h x k g a.held in omega arith) pins
pins_kept m content IsPlace known hs r seat a there knows (store_stamp h x) may know pins = fresher knows a (stamped_at h x a.held) (λ k g. let e = fresh_stamped h x k g a.held in omega arith) pins
pins_kept m content IsPlace known hs r seat a there knows (change_place h x) may know pins = fresher knows a (changed_at h x (content x) a.held) (λ k g. let e = fresh_changed h x (content x) k g a.held in omega arith) pins
pins_kept m content IsPlace known hs r seat a there knows (open_header h) may know pins = fresher knows a (freshened h (content (m.place h)) a.held) (λ k g. fresh_freshened h k g (content (m.place h)) a.held) pins
pins_kept m content IsPlace known hs r seat a there knows (pin_header h g) may know pins = know
pins_kept m content IsPlace known hs r seat a there knows (unpin_header h) may know pins = tt
pins_kept m content IsPlace known hs r seat a there knows (release_header h Owned) may know pins = fresher knows a (without_header h a.held) (lost m content IsPlace known hs r seat a there h OWNED may.0 (λ e. omega arith) (omega arith) (omega arith) (without_header h a.held) (λ k g ne. fresh_without-others h k g a.held ne)) pins
pins_kept m content IsPlace known hs r seat a there knows (release_header h Fresh) may know pins = subst (OnPin (λ (p : PinnedHeader). 0 < fresh_in p.header p.wanted (without_header h a.held) + knows p.header p.wanted)) (sym may.1) tt
pins_kept m content IsPlace known hs r seat a there knows (release_header h (Locked at)) may know pins = absurd may.1
pins_kept m content IsPlace known hs r seat a there knows (release_header h Buried) may know pins = absurd may.1
pins_kept m content IsPlace known hs r seat a there knows (lock_header h old) may know pins = decided (m.pin h) old (λ t. PinsWhatItKnows knows (record a { held = cond t (locked_at m content h ∷ a.held) a.held }))
    (λ _. fresher knows a (locked_at m content h ∷ a.held) (λ k g. fresh_taken (locked_at m content h) k g a.held) pins) (λ _. pins)
pins_kept m content IsPlace known hs r seat a there knows (unlock_header h kind) may know pins = fresher knows a (without_header h a.held) (lost m content IsPlace known hs r seat a there h LOCKED may (λ e. omega arith) (omega arith) (omega arith) (without_header h a.held) (λ k g ne. fresh_without-others h k g a.held ne)) pins
pins_kept m content IsPlace known hs r seat a there knows (mark_dead h) may know pins = fresher knows a (buried_at h a.held) (lost m content IsPlace known hs r seat a there h LOCKED may (λ e. omega arith) (omega arith) (omega arith) (buried_at h a.held) (λ k g ne. fresh_buried-others h k g a.held ne)) pins
pins_kept m content IsPlace known hs r seat a there knows (take_back h x) may know pins = fresher knows a (without_header h a.held) (lost m content IsPlace known hs r seat a there h DEAD may.0 (λ e. omega arith) (omega arith) (omega arith) (without_header h a.held) (λ k g ne. fresh_without-others h k g a.held ne)) pins

-- the next state of a word of 64 bits is one
next_fits : (w : ℕ) → state_of w < 15 → w < 2 ^ 64 → w + STATE < 2 ^ 64
unfolding state_of
next_fits w low l = omega arith

-- what a step leaves is a word of 64 bits
pub header_fits : (x : HeaderStep) (a : HeaderHolds) (n : ℕ) → MayHeader x a → n < 2 ^ 64 → header_effect x n < 2 ^ 64
unfolding state_of
header_fits (claim_header h old) a n may l = decided n old (λ t. either t (old + STATE) n < 2 ^ 64) (λ e. next_fits old (let s = may.state in omega arith) (omega arith)) (λ _. l)
header_fits (store_place h x) a n may l = may.1
header_fits (store_stamp h x) a n may l = may.1
header_fits (change_place h x) a n may l = may.1
header_fits (open_header h) a n may l = omega arith
header_fits (pin_header h g) a n may l = omega arith
header_fits (unpin_header h) a n may l = omega arith
header_fits (release_header h Owned) a n may l = omega arith
header_fits (release_header h Fresh) a n may l = omega arith
header_fits (release_header h (Locked at)) a n may l = absurd may.1
header_fits (release_header h Buried) a n may l = absurd may.1
header_fits (lock_header h old) a n may l = decided n old (λ t. either t (old + STATE) n < 2 ^ 64) (λ e. next_fits old (let s = may.state in omega arith) (omega arith)) (λ _. l)
header_fits (unlock_header h kind) a n may l = omega arith
header_fits (mark_dead h) a n may l = omega arith
header_fits (take_back h x) a n may l = omega arith
