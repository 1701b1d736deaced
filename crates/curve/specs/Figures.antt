-- Containment's parts at seven frequencies in mHz. Assumes nothing.
use Rattle.std.specs.Prelude.{◌≡◌, List, [], ◌∷◌, ℤ, pos, negsuc}
use Rattle.curve.specs.Containment.{containment}

-- The figures.
abbrev pub figures : List ℤ
figures = pos 0 ∷ pos 60 ∷ pos 11100 ∷ pos 11803 ∷ pos 116550 ∷ pos 222000 ∷ negsuc 11099 ∷ []

-- The parts that are told at each of seven frequencies.
abbrev pub Figures : Type 0
Figures =
    (containment.parts (pos 49985) ≡ pos 0)
    × (containment.parts (pos 49984) ≡ pos 60)
    × (containment.parts (pos 49800) ≡ pos 11100)
    × (containment.parts (pos 49799) ≡ pos 11803)
    × (containment.parts (pos 49650) ≡ pos 116550)
    × (containment.parts (pos 49499) ≡ pos 222000)
    × (containment.parts (pos 50200) ≡ negsuc 11099)
