-- Which contracts a flag makes available, and the change of flags that brings a held contract back. Assumes nothing.
use Rattle.std.specs.Prelude.{◌/◌, ◌%◌, Bool, not, ◌&&◌, ◌||◌, ℤ, ◌==◌, unsigned_abs}
use Rattle.curve.specs.declared.one_sided.Sides.{Sides}
use Rattle.curve.specs.declared.one_sided.Sides.TheVariants.{Low as low_alone, High as high_alone, Both}
use Rattle.rules.specs.declared.terms.Contract.{Contract}
use Rattle.rules.specs.declared.terms.Contract.TheVariants.{Low, High}

-- Flag 0 makes neither contract available, 1 low only, 2 high only, 3 both: low is its first bit, high its second.
abbrev pub available : Contract → ℤ → Bool
available Low flag = unsigned_abs flag % 2 == 1
available High flag = unsigned_abs flag / 2 % 2 == 1

-- The old flag lacks the contract and the new one has it.
abbrev pub regains : Contract → ℤ → ℤ → Bool
regains c old new = not (available c old) && available c new

-- The change brings a held contract back.
abbrev pub brings_back : Sides → ℤ → ℤ → Bool
brings_back low_alone old new = regains Low old new
brings_back high_alone old new = regains High old new
brings_back Both old new = regains Low old new || regains High old new
