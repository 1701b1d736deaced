-- What is kept from reading to reading, and what it stands for. Assumes nothing.
use Rattle.std.specs.Prelude.{ℕ, zero, suc, ◌-◌, Bool, true, false, cond, List, [], ◌∷◌, ◌++◌, length, drop, ℤ, Some, None, Option}
use Rattle.bounds.specs.declared.kept_window.Window.{Window}
use Rattle.bounds.specs.declared.limits.Bounds.{Bounds}
use Rattle.curve.specs.declared.one_sided.Sides.{Sides}
use Rattle.rules.specs.Flags.{brings_back}
use Rattle.rules.specs.declared.reading.Reading.{Reading}
use Rattle.bounds.specs.Window.{successive}
use Rattle.bounds.specs.declared.phase.Phase.{Phase}
use Rattle.bounds.specs.declared.phase.Phase.TheVariants.{Waiting, Grace, Following}
use Rattle.bounds.specs.declared.phase.Event.{Event}
use Rattle.bounds.specs.declared.phase.Event.TheVariants.{Plain, Gap, ContractBack}

-- The frequencies of a kept window, the oldest first.
abbrev pub told : Window → List ℤ
told w = drop (11 - w.count) w.latest

-- The parts of kept bounds, the lower first.
abbrev pub parts_of : Bounds → ℤ × ℤ
parts_of b = (b.lower.n, b.upper.n)

-- Only the newest n of a list, whose newest stands last.
abbrev pub newest_of : {X : Type 0} → ℕ → List X → List X
newest_of n xs = drop (length xs - n) xs

-- One frequency more: after a gap it stands alone, and no more than lag stand before it.
abbrev pub slid : ℕ → Bool → List ℤ → ℤ → List ℤ
slid lag after_gap fs f = cond after_gap (f ∷ []) (newest_of lag fs ++ f ∷ [])

-- What a reading is, after the last one accepted.
abbrev pub event : Sides → Option Reading → Reading → Event
event held None r = Plain
event held (Some p) r = cond (successive p r) (cond (brings_back held p.flag r.flag) ContractBack Plain) Gap

-- The phase that follows: grace has so many readings still to come.
abbrev pub after : ℕ → Phase → Event → Phase
after lag Waiting Plain = Grace lag
after lag Waiting Gap = Grace lag
after lag Waiting ContractBack = Grace lag
after lag (Grace left) Gap = Grace lag
after lag (Grace left) ContractBack = Grace lag
after lag Following Gap = Grace lag
after lag Following ContractBack = Grace lag
after lag (Grace zero) Plain = Following
after lag (Grace (suc left)) Plain = Grace left
after lag Following Plain = Following

abbrev pub in_grace : Phase → Bool
in_grace Waiting = false
in_grace (Grace left) = true
in_grace Following = false

abbrev pub is_gap : Event → Bool
is_gap Plain = false
is_gap Gap = true
is_gap ContractBack = false
