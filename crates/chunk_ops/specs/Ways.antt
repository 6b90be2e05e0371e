-- On which side of a bound a key is sought.

-- towards the greater keys, or towards the smaller ones
pub data Way : Type 0 where
  Up : Way
  Down : Way
