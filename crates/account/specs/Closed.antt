-- What a closed block tells. Assumes nothing.
use Rattle.std.specs.Prelude.{◌≡◌, ℕ, false, cond, List, ℤ, pos, None, Ok, Err, Result, slice_index_or, unsigned_abs}
use Rattle.curve.specs.Shape.{Shape}
use Rattle.factors.specs.Money.{Settled, told}
use Rattle.factors.specs.declared.settlement.PeriodFigures.{PeriodFigures}
use Rattle.basics.specs.Check.{within}
use Rattle.rules.specs.declared.reading.Reading.{Reading}
use Rattle.rules.specs.declared.terms.Contract.{Contract}
use Rattle.rules.specs.declared.terms.Contract.TheVariants.{Low, High}
use Rattle.account.specs.Calls.{Carries}
use Rattle.account.specs.History.{history}
use Rattle.account.specs.Promises.{Promised}
use Rattle.account.specs.Settled.{comes_to}
use Rattle.account.specs.declared.closed_block.ClosedBlock.{ClosedBlock}
use Rattle.account.specs.declared.closed_block.figures.PeriodFault.{PeriodFault}
use Rattle.account.specs.declared.closed_block.figures.PeriodFault.TheVariants.{NoSuchPeriod}
use Rattle.account.specs.declared.open_account.Account.{Account}

-- What a closed block tells of a contract.
abbrev pub told_of : {C : Type 0} → Contract → ClosedBlock C → Settled
told_of Low b = told b.low
told_of High b = told b.high

-- The figures of a period that has no reading, and stands for no period.
abbrev pub no_figures : PeriodFigures
no_figures = record { period = 0; readings = 0; payable = false; worst = record { error = 0; tick = None }; factor = 0 }

-- The record of a period, by its number from 0 to 7.
abbrev pub period_record : Settled → ℤ → Result PeriodFigures PeriodFault
period_record s n = cond (within (pos 0) (pos 7) n) (Ok (slice_index_or s.periods (unsigned_abs n) no_figures)) (Err NoSuchPeriod)

abbrev pub period_number : PeriodFault → ℕ
period_number NoSuchPeriod = 26

-- Closing an account: after any history each contract comes to what is defined, on the account's terms and curve, and what
-- is promised holds of it.
pub record Closes {C : Type 0} (shape : C → Shape) (a : Account C) (b : ClosedBlock C) : Type 0 where
  pub curve : b.curve ≡ a.curve.curve
  pub settled : (h : List Reading) → Carries shape h a → (c : Contract) → told_of c b ≡ comes_to a.terms (shape b.curve) c h
  pub promised : (rs : List Reading) → Carries shape (history a.terms rs) a → (c : Contract) → Promised a.terms (shape b.curve) c rs (told_of c b)
