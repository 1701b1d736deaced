-- A block has at most 288,000 readings. Assumes nothing.
use Rattle.std.proofs.Common.{◌≡◌, ◌<◌, true, List, [], ◌∷◌, length, pos, ◌≤ℤ◌, Some, None, arith}
use lib.Signed.{lt_z}
use Rattle.std.proofs.lemmas.Int.{ints}
use Rattle.bounds.specs.Window.{newest}
use Rattle.rules.specs.ReadingsCheck.{refused_reading}
use Rattle.rules.specs.declared.reading.Reading.{Reading}
use Rattle.rules.specs.declared.terms.Terms.{Terms}
use Rattle.rules.proofs.ReadingsFacts.{passed, facts, accepted_in_range}
use Rattle.account.specs.History.{AllAccepted}

-- ticks rise, so as many readings as came before are at most the tick
rises : (t : Terms) (r : Reading) (h : List Reading) → AllAccepted t (r ∷ h) → pos (length h) ≤ℤ r.tick
rises t r [] (n, a) = (facts r (accepted_in_range t None r n)).least_tick
rises t r (p ∷ h) (n, a) =
    let before : pos (length h) ≤ℤ p.tick = rises t p h a in
    let later : lt_z p.tick r.tick ≡ true = (passed t (Some p) r n).after in
    omega (arith, ints)

pub short : (t : Terms) (r : Reading) (h : List Reading) → refused_reading t (newest h) r ≡ None → AllAccepted t h → length h < 288000
short t r h n a =
    let low : pos (length h) ≤ℤ r.tick = rises t r h (n, a) in
    let most : r.tick ≤ℤ pos 287999 = (facts r (accepted_in_range t (newest h) r n)).most_tick in
    omega (arith, ints)
