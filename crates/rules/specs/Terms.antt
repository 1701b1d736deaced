-- The terms of a block and the checks that they have passed. Assumes nothing.
use Rattle.std.specs.Prelude.{ℕ, Bool, cond, nat_lt}
use Rattle.curve.specs.declared.one_sided.Sides.{Sides}
use Rattle.curve.specs.declared.one_sided.Sides.TheVariants.{Low as low_alone, High as high_alone, Both}
use Rattle.rules.specs.declared.terms.Contract.{Contract}
use Rattle.rules.specs.declared.terms.Contract.TheVariants.{Low, High}
use Rattle.rules.specs.declared.terms.Held.{Held}
use Rattle.rules.specs.declared.terms.Terms.{Terms}
use Rattle.rules.specs.Contract.{picked}
use Rattle.rules.specs.TermsCheck.{handed}
use Rattle.rules.specs.declared.terms_input.TermsInput.{TermsInput}

-- A block has eight periods, whatever its terms.
abbrev pub periods : Terms → ℕ
periods t = 8

-- A contract's quantity in MW and its price in pence per MW and hour.
abbrev pub terms_of : Terms → Contract → Held
terms_of t c = picked c t.low t.high

abbrev pub quantity : Terms → Contract → ℕ
quantity t c = (terms_of t c).quantity

-- A contract is held exactly if its quantity is above 0.
abbrev pub holds : Terms → Contract → Bool
holds t c = nat_lt 0 (quantity t c)

-- The contracts that are held: at least one is.
abbrev pub sides : Terms → Sides
sides t = cond (holds t Low) (cond (holds t High) Both low_alone) high_alone

-- What was handed in to get these terms.
abbrev pub handed_in : Terms → TermsInput
handed_in t = handed t.ticks t.needed t.a t.b t.low t.high
