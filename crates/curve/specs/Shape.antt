-- What a response curve means, and the facts that make it one. Frequencies are whole numbers of mHz.
-- Assumes nothing.
use Rattle.std.specs.Prelude.{◌≡◌, ℕ, ◌≤◌, ℤ, pos, neg_ℤ, ◌≤ℤ◌}

-- The frequency at which no response is called for, and the two ends beyond which a curve tells no more.
abbrev pub nominal : ℤ
nominal = pos 50000

abbrev pub lowest : ℤ
lowest = pos 40000

abbrev pub highest : ℤ
highest = pos 60000

-- The most parts that full may be, and the longest lag in ticks.
abbrev pub greatest_full : ℕ
greatest_full = 1000000

abbrev pub greatest_lag : ℕ
greatest_lag = 10

-- The meaning of a curve: the parts that are full, the parts a bound may move in a tick, the lag in ticks, and the parts
-- that are told for each frequency. Positive parts are what low frequency calls for.
pub record Shape : Type 0 where
  pub full : ℕ
  pub ramp : ℕ
  pub lag : ℕ
  pub parts : ℤ → ℤ

-- The facts of a curve.
pub record IsCurve (s : Shape) : Type 0 where
  pub some_full : 1 ≤ s.full
  pub most_full : s.full ≤ greatest_full
  pub some_ramp : 1 ≤ s.ramp
  pub most_ramp : s.ramp ≤ s.full
  pub most_lag : s.lag ≤ greatest_lag
  pub least_parts : (f : ℤ) → neg_ℤ (pos s.full) ≤ℤ s.parts f
  pub most_parts : (f : ℤ) → s.parts f ≤ℤ pos s.full
  pub at_nominal : s.parts nominal ≡ pos 0
  pub falls : (f g : ℤ) → f ≤ℤ g → s.parts g ≤ℤ s.parts f
  pub below : (f : ℤ) → f ≤ℤ lowest → s.parts f ≡ s.parts lowest
  pub above : (f : ℤ) → highest ≤ℤ f → s.parts f ≡ s.parts highest

-- Curves are equal if they agree in all four parts of their meaning.
pub record SameShape (s t : Shape) : Type 0 where
  pub same_full : s.full ≡ t.full
  pub same_ramp : s.ramp ≡ t.ramp
  pub same_lag : s.lag ≡ t.lag
  pub same_parts : (f : ℤ) → s.parts f ≡ t.parts f
