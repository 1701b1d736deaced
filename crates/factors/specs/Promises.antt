-- What holds of factors and payments, over the judgements of one contract, newest first. Assumes nothing.
use Rattle.std.specs.Prelude.{◌≡◌, ℕ, ◌+◌, ◌<◌, ◌≤◌, List, ◌∷◌, ◌++◌, ◌≤ℤ◌, Some, None, Option, All}
use Rattle.std.specs.List.{AllZip}
use Rattle.rules.specs.Terms.{periods}
use Rattle.rules.specs.declared.terms.Contract.{Contract}
use Rattle.rules.specs.declared.terms.Terms.{Terms}
use Rattle.factors.specs.Factors.{whole}
use Rattle.factors.specs.Money.{Settled, settled}
use Rattle.factors.specs.Worst.{Largest}
use Rattle.factors.specs.declared.judgement.Judgement.{Judgement}

-- Both readings are judged and the second's error is not smaller, or neither is judged.
abbrev pub NoSmallerError : Option ℕ → Option ℕ → Type 0
NoSmallerError None None = Unit {0}
NoSmallerError None (Some f) = ⊥
NoSmallerError (Some e) None = ⊥
NoSmallerError (Some e) (Some f) = e ≤ f

-- The readings differ at most in their errors, and the second's is not smaller.
pub record ErrsNoLess (i j : Judgement) : Type 0 where
  pub tick : j.tick ≡ i.tick
  pub period : j.period ≡ i.period
  pub available : j.available ≡ i.available
  pub error : NoSmallerError i.error j.error

-- At no reading is the second's error smaller.
abbrev pub NoSmaller : List Judgement → List Judgement → Type 0
NoSmaller js ks = AllZip ErrsNoLess js ks

-- No period has a larger factor in the second, and nor has the block.
abbrev pub NoBetterFactors : Settled → Settled → Type 0
NoBetterFactors s w = AllZip (λ f g. g.factor ≤ f.factor) s.periods w.periods × (w.factor ≤ s.factor)

-- Every period's factor is whole, and so is the block's.
abbrev pub WholeFactors : Settled → Type 0
WholeFactors s = All (λ f. f.factor ≡ whole) s.periods × (s.factor ≡ whole)

-- An error, where there is one, of at most a; and an error of more than a.
abbrev pub AtMost : ℕ → Option ℕ → Type 0
AtMost a None = Unit {0}
AtMost a (Some e) = e ≤ a

abbrev pub Over : ℕ → Option ℕ → Type 0
Over a None = ⊥
Over a (Some e) = a < e

-- Every error is within A.
abbrev pub WithinA : Terms → List Judgement → Type 0
WithinA t js = All (λ j. AtMost t.a j.error) js

-- Four readings next to one another, on successive ticks, of one period of the block, all judged and all erring by more than A.
pub record Four (t : Terms) (js : List Judgement) : Type 0 where
  pub newer : List Judgement
  pub fourth : Judgement
  pub third : Judgement
  pub second : Judgement
  pub first : Judgement
  pub older : List Judgement
  pub stand : js ≡ newer ++ (fourth ∷ third ∷ second ∷ first ∷ older)
  pub successive : (second.tick ≡ first.tick + 1) × (third.tick ≡ second.tick + 1) × (fourth.tick ≡ third.tick + 1)
  pub same_period : (second.period ≡ first.period) × (third.period ≡ first.period) × (fourth.period ≡ first.period)
  pub inside : first.period < periods t
  pub errors : Over t.a first.error × Over t.a second.error × Over t.a third.error × Over t.a fourth.error

-- What is promised of a contract that has come to s after these readings.

-- Worse errors, no better factors; worse errors, no larger payment.
abbrev pub WorseErrorsNoBetterFactors : Terms → Contract → List Judgement → Settled → Type 0
WorseErrorsNoBetterFactors t c js s = (ks : List Judgement) → NoSmaller js ks → NoBetterFactors s (settled t c ks)

abbrev pub WorseErrorsNoLargerPayment : Terms → Contract → List Judgement → Settled → Type 0
WorseErrorsNoLargerPayment t c js s = (ks : List Judgement) → NoSmaller js ks → (settled t c ks).payment ≤ℤ s.payment

-- Errors within A leave every factor whole.
abbrev pub WithinAIsWhole : Terms → List Judgement → Settled → Type 0
WithinAIsWhole t js s = WithinA t js → WholeFactors s

-- The block factor is below whole exactly where four err by more than A.
abbrev pub BelowWholeExactlyWhereFourErr : Terms → List Judgement → Settled → Type 0
BelowWholeExactlyWhereFourErr t js s = (s.factor < whole → Four t js) × (Four t js → s.factor < whole)

-- Each period's E is its largest rolling error, with the first tick that reached it.
abbrev pub WorstIsLargest : List Judgement → Settled → Type 0
WorstIsLargest js s = All (λ f. Largest f.period js f.worst) s.periods

pub record Promised (t : Terms) (c : Contract) (js : List Judgement) (s : Settled) : Type 0 where
  pub factors : WorseErrorsNoBetterFactors t c js s
  pub payment : WorseErrorsNoLargerPayment t c js s
  pub within : WithinAIsWhole t js s
  pub below : BelowWholeExactlyWhereFourErr t js s
  pub largest : WorstIsLargest js s
