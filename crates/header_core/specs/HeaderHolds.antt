-- What a pass holds of headers.
use Rattle.std.specs.Prelude.{ℕ, ◌+◌, ◌*◌, ◌<◌, ◌==◌, nat_lt, cond, List, [], ◌∷◌, Option, Some, None}
use Rattle.oak_model.specs.Counts.{one_if, one_at, total}
use Rattle.oak_model.specs.Kept.{KeptWord}
use Rattle.header_core.specs.declared.states.TheConstants.{OWNED, LIVE, LOCKED, DEAD}
use Rattle.header_core.specs.declared.holds.HeldAs.{HeldAs}
use Rattle.header_core.specs.declared.holds.HeldAs.TheVariants.{Owned, Fresh, Locked, Buried}
use Rattle.header_core.specs.declared.holds.HeldHeader.{HeldHeader}
use Rattle.header_core.specs.declared.holds.PinnedHeader.{PinnedHeader}
use Rattle.header_core.specs.declared.holds.HeaderHolds.{HeaderHolds}
use Rattle.header_core.specs.Headers.{HeaderSpot, at_place, at_stamp}

abbrev pub no_headers : HeaderHolds
no_headers = record { pin = None; held = [] }

abbrev pub pins_of : ℕ → Option PinnedHeader → ℕ
pins_of h None = 0
pins_of h (Some p) = one_at p.header h

-- how many pins the pass has on the header
abbrev pub pins_on : ℕ → HeaderHolds → ℕ
pins_on h a = pins_of h a.pin

-- the state in which a header is that is held so
abbrev pub held_state : HeldAs → ℕ
held_state Owned = OWNED
held_state Fresh = LIVE
held_state (Locked at) = LOCKED
held_state Buried = DEAD

-- how often the pass holds the header in the state
abbrev pub in_state : ℕ → ℕ → HeaderHolds → ℕ
in_state h s a = total (λ (r : HeldHeader). one_at r.header h * one_at (held_state r.held_as) s) a.held

-- 1 where the pass has a pin on the header, or holds it
abbrev pub had_header : ℕ → HeaderHolds → ℕ
had_header h a = one_if (nat_lt 0 (pins_on h a + total (λ (r : HeldHeader). one_at r.header h) a.held))

-- how often the pass has the header fresh at the generation
abbrev pub fresh_at : ℕ → ℕ → HeaderHolds → ℕ
fresh_at h g a = total (λ (r : HeldHeader). one_at r.header h * one_at r.generation g * one_at (held_state r.held_as) LIVE) a.held

-- the pass has the header fresh at the generation
abbrev pub IsFreshAt : ℕ → ℕ → HeaderHolds → Type 0
IsFreshAt h g a = 0 < fresh_at h g a

-- what stands in the place word of a held header, and its generation

abbrev pub place_held : ℕ → List HeldHeader → ℕ
place_held h [] = 0
place_held h (r ∷ rs) = cond (r.header == h) r.place (place_held h rs)

abbrev pub generation_held : ℕ → List HeldHeader → ℕ
generation_held h [] = 0
generation_held h (r ∷ rs) = cond (r.header == h) r.generation (generation_held h rs)

-- the held headers but this one
abbrev pub without_header : ℕ → List HeldHeader → List HeldHeader
without_header h [] = []
without_header h (r ∷ rs) = cond (r.header == h) (without_header h rs) (r ∷ without_header h rs)

-- the place and the stamp word of each held header
unfoldable pub kept_of_headers : List HeldHeader → List (KeptWord HeaderSpot)
kept_of_headers [] = []
kept_of_headers (r ∷ rs) = record { spot = at_place r.header; number = r.place } ∷ record { spot = at_stamp r.header; number = r.stamp } ∷ kept_of_headers rs
