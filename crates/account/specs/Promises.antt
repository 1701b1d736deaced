-- What is promised of a block, for each contract on its own. Assumes nothing.
use Rattle.std.specs.Prelude.{◌≡◌, ℕ, ◌<◌, ◌≤◌, true, ◌⊎◌, List, [], ◌∷◌, ◌++◌, pos, ◌+ℤ◌, ◌≤ℤ◌, Some, None, Option}
use Rattle.bounds.specs.Errors.{error_at}
use Rattle.bounds.specs.Laws.{Follows}
use Rattle.bounds.specs.Window.{newest}
use Rattle.curve.specs.Shape.{Shape}
use Rattle.factors.specs.Factors.{whole}
use Rattle.factors.specs.Money.{Settled}
use Rattle.factors.specs.Promises.{NoBetterFactors, WholeFactors, Over}
use Rattle.rules.specs.ReadingsCheck.{refused_reading, power_fits}
use Rattle.rules.specs.declared.reading.Reading.{Reading}
use Rattle.rules.specs.declared.terms.Contract.{Contract}
use Rattle.rules.specs.declared.terms.Terms.{Terms}
use Rattle.account.specs.History.{taken_in, history, period}
use Rattle.account.specs.Settled.{seen, comes_to}

-- Two readings that differ at most in their power.
pub record SameButPower (r q : Reading) : Type 0 where
  pub tick : q.tick ≡ r.tick
  pub frequency : q.frequency ≡ r.frequency
  pub baseline : q.baseline ≡ r.baseline
  pub flag : q.flag ≡ r.flag

-- Readings handed in after a history that differ only in the power of accepted ones, which stays within range.
abbrev pub DifferInPower : Terms → List Reading → List Reading → List Reading → Type 0
DifferInPower t h [] [] = Unit {0}
DifferInPower t h [] (q ∷ qs) = ⊥
DifferInPower t h (r ∷ rs) [] = ⊥
DifferInPower t h (r ∷ rs) (q ∷ qs) =
    ((r ≡ q) ⊎ ((refused_reading t (newest h) r ≡ None) × SameButPower r q × (power_fits q ≡ true))) × DifferInPower t (taken_in t h r) rs qs

-- The second error is not smaller than the first, where both readings are judged.
abbrev pub NotSmaller : Option ℕ → Option ℕ → Type 0
NotSmaller None f = Unit {0}
NotSmaller (Some e) None = Unit {0}
NotSmaller (Some e) (Some f) = e ≤ f

-- At no reading of two histories is the second's error smaller than the first's.
abbrev pub NoSmallerErrors : Terms → Shape → Shape → Contract → List Reading → List Reading → Type 0
NoSmallerErrors t s u c [] k = Unit {0}
NoSmallerErrors t s u c (r ∷ h) [] = Unit {0}
NoSmallerErrors t s u c (r ∷ h) (q ∷ k) = NotSmaller (error_at t (seen t s) c r h) (error_at t (seen t u) c q k) × NoSmallerErrors t s u c h k

-- Worse errors earn no more: let a second run have the same terms, any curve, and readings that differ from these only in
-- the power of accepted ones. If none of its errors is smaller, then it has no better factor and no larger payment.
abbrev pub WorseErrorsEarnNoMore : Terms → Shape → Contract → List Reading → Settled → Type 0
WorseErrorsEarnNoMore t s c rs x =
    (u : Shape) (qs : List Reading) → DifferInPower t [] rs qs → NoSmallerErrors t s u c (history t rs) (history t qs) →
    NoBetterFactors x (comes_to t u c (history t qs)) × ((comes_to t u c (history t qs)).payment ≤ℤ x.payment)

-- Every reading's response is within 1 kW of the curve times the quantity, at the frequency of some reading in its window.
abbrev pub AllFollow : Terms → Shape → List Reading → Type 0
AllFollow t s [] = Unit {0}
AllFollow t s (r ∷ h) = Follows t (seen t s) r h × AllFollow t s h

-- Following the curve is whole: every period factor and the block factor.
abbrev pub FollowingTheCurveIsWhole : Terms → Shape → List Reading → Settled → Type 0
FollowingTheCurveIsWhole t s h x = AllFollow t s h → WholeFactors x

-- Four accepted readings next to one another, on successive ticks, of one period, all judged for the contract and all erring
-- by more than A.
pub record FourErr (t : Terms) (s : Shape) (c : Contract) (h : List Reading) : Type 0 where
  pub newer : List Reading
  pub fourth : Reading
  pub third : Reading
  pub second : Reading
  pub first : Reading
  pub older : List Reading
  pub stand : h ≡ newer ++ (fourth ∷ third ∷ second ∷ first ∷ older)
  pub successive : (second.tick ≡ first.tick +ℤ pos 1) × (third.tick ≡ second.tick +ℤ pos 1) × (fourth.tick ≡ third.tick +ℤ pos 1)
  pub same_period : (period t second ≡ period t first) × (period t third ≡ period t first) × (period t fourth ≡ period t first)
  pub first_errs : Over t.a (error_at t (seen t s) c first older)
  pub second_errs : Over t.a (error_at t (seen t s) c second (first ∷ older))
  pub third_errs : Over t.a (error_at t (seen t s) c third (second ∷ first ∷ older))
  pub fourth_errs : Over t.a (error_at t (seen t s) c fourth (third ∷ second ∷ first ∷ older))

-- The block factor is below whole exactly where four err by more than A.
abbrev pub BelowWholeExactlyWhereFourErr : Terms → Shape → Contract → List Reading → Settled → Type 0
BelowWholeExactlyWhereFourErr t s c h x = (x.factor < whole → FourErr t s c h) × (FourErr t s c h → x.factor < whole)

-- What is promised of a contract that has come to x, after readings rs that were handed in one after the other.
pub record Promised (t : Terms) (s : Shape) (c : Contract) (rs : List Reading) (x : Settled) : Type 0 where
  pub worse_errors_earn_no_more : WorseErrorsEarnNoMore t s c rs x
  pub following_the_curve_is_whole : FollowingTheCurveIsWhole t s (history t rs) x
  pub below_whole_exactly_where_four_err : BelowWholeExactlyWhereFourErr t s c (history t rs) x
