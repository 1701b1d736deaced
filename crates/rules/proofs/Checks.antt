-- What checks in a stated order leave known where none of them refuses. Assumes nothing.
use Rattle.std.proofs.Common.{◌≡◌, Bool, true, false, None, Option, refl}
use Rattle.basics.specs.Check.{unless}

-- where nothing is refused, the first test holds and the others refuse nothing
pub unless_none : {F : Type 0} (holds : Bool) (fault : F) (rest : Option F) → unless holds fault rest ≡ None → (holds ≡ true) × (rest ≡ None)
unless_none true fault rest e = (refl, e)
unless_none false fault rest e = absurd (cc)
