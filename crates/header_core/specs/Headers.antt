-- The words of the headers, as functions of a header's number, and where each lies.
use Rattle.std.specs.Prelude.{ℕ, ◌+◌, ◌*◌, ◌<◌, ◌==◌, nat_lt, Bool, false}
use Rattle.oak_model.specs.Limits.{Sizes}
use Rattle.header_core.specs.declared.layout.TheConstants.{HEADER_WORDS}

abbrev pub header_words : Sizes → ℕ
header_words z = HEADER_WORDS * z.headers

pub record HeaderMemory : Type 0 where
  pub pin : ℕ → ℕ
  pub place : ℕ → ℕ
  pub stamp : ℕ → ℕ

pub data HeaderSpot : Type 0 where
  at_pin : ℕ → HeaderSpot
  at_place : ℕ → HeaderSpot
  at_stamp : ℕ → HeaderSpot

abbrev pub same_header_spot : HeaderSpot → HeaderSpot → Bool
same_header_spot (at_pin h) (at_pin k) = h == k
same_header_spot (at_place h) (at_place k) = h == k
same_header_spot (at_stamp h) (at_stamp k) = h == k
same_header_spot _ _ = false

abbrev pub read_header : HeaderMemory → HeaderSpot → ℕ
read_header m (at_pin h) = m.pin h
read_header m (at_place h) = m.place h
read_header m (at_stamp h) = m.stamp h

-- the memory that has these numbers
abbrev pub headers_of : (HeaderSpot → ℕ) → HeaderMemory
headers_of f = record { pin = λ h. f (at_pin h); place = λ h. f (at_place h); stamp = λ h. f (at_stamp h) }

abbrev pub header_at : HeaderSpot → ℕ
header_at (at_pin h) = h
header_at (at_place h) = h
header_at (at_stamp h) = h

-- the words that the table has
abbrev pub IsInHeaders : Sizes → HeaderSpot → Type 0
IsInHeaders z p = header_at p < z.headers

abbrev pub is_in_headers : Sizes → HeaderSpot → Bool
is_in_headers z p = nat_lt (header_at p) z.headers

-- where a word lies, counted from the headers' first
unfoldable pub header_index : HeaderSpot → ℕ
header_index (at_pin h) = h * HEADER_WORDS
header_index (at_place h) = h * HEADER_WORDS + 1
header_index (at_stamp h) = h * HEADER_WORDS + 2
