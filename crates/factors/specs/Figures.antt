-- Worked figures. Assumes nothing.
use Rattle.std.specs.Prelude.{◌≡◌, pos}
use Rattle.factors.specs.Factors.{whole, factor_of}
use Rattle.factors.specs.Money.{half_hour}

-- With A 30,000 and B 70,000, an E of 30,000 is whole, 30,001 gives 999,975, 69,999 gives 25 and 70,000 gives 0; and 51 MW at
-- 1,701 pence per MW and hour earn 43,376 pence in half an hour.
abbrev pub WorkedFigures : Type 0
WorkedFigures =
    (factor_of 30000 70000 30000 ≡ whole)
    × (factor_of 30000 70000 30001 ≡ 999975)
    × (factor_of 30000 70000 69999 ≡ 25)
    × (factor_of 30000 70000 70000 ≡ 0)
    × (half_hour (record { quantity = 51; price = pos 1701 }) ≡ pos 43376)
