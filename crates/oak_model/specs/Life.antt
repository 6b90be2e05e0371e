-- The lives of a key: from a write that inserts it to just before the next removal, or to the end.
use Rattle.std.specs.Prelude.{◌≡◌, ℕ, ◌<◌, ◌≤◌, length, None, IsSome}
use Rattle.oak_model.specs.History.{History, state_at}

-- The life that has the place r has the place p too, which is not before r: the key is present at each place from r to p.
pub record IsLifeAt (h : History) (r p : ℕ) : Type 0 where
  pub from : r ≤ p
  pub last : p ≤ length h
  pub present : (x : ℕ) → r ≤ x → x ≤ p → IsSome (state_at h x)

-- the place of the removal that ends the life that has the place r
pub record EndsAt (h : History) (r g : ℕ) : Type 0 where
  pub after : r < g
  pub last : g ≤ length h
  pub present : (x : ℕ) → r ≤ x → x < g → IsSome (state_at h x)
  pub removed : state_at h g ≡ None
