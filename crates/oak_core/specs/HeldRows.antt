-- What callers say of the record of a header that their pass has fresh, or buries.
use Rattle.std.specs.Prelude.{◌≡◌, ℕ, ◌<◌, Bool, List, Some}
use Rattle.oak_model.specs.KeyNumber.{key_number}
use Rattle.oak_model.specs.Limits.{Sizes}
use Rattle.header_core.specs.declared.holds.HeldAs.TheVariants.{Fresh, Buried}
use Rattle.header_core.specs.declared.holds.HeldHeader.{HeldHeader}
use Rattle.oak_core.specs.declared.states.PassState.{PassState}
use Rattle.oak_core.specs.KeyReads.{value_in}
use Rattle.oak_core.specs.MadeWrites.{held_header}

-- the pass has the header fresh, at the generation, with the stamp, and with these bytes as its value
pub record HasFresh (z : Sizes) (h g stamp : ℕ) (bytes : List ℕ) (v : PassState) : Type 0 where
  pub inside : h < z.headers
  pub header : HeldHeader
  pub held : held_header h v.headers.held ≡ Some header
  pub fresh : header.held_as ≡ Fresh
  pub generation : header.generation ≡ g
  pub stamp_is : header.stamp ≡ stamp
  pub value : value_in header.place header.words ≡ bytes

-- the pass buries a life of the key, whose removal has the stamp; an entry names it still, or does not
pub record BuriesLife (key : List ℕ) (h g stamp : ℕ) (named : Bool) (v : PassState) : Type 0 where
  pub header : HeldHeader
  pub held : held_header h v.headers.held ≡ Some header
  pub buried : header.held_as ≡ Buried
  pub generation : header.generation ≡ g
  pub key_is : key_number header.key ≡ key_number key
  pub stamp_is : header.stamp ≡ stamp
  pub named_is : header.named ≡ named
