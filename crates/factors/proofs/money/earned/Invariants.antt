use Rattle.std.proofs.Common.{◌≡◌, ◌*◌, ◌≤◌, drop, ◌+ℤ◌, nat_abs}
use Rattle.factors.specs.Money.{earned}
use Rattle.factors.proofs.money.earned.Given as goal

-- the sum so far and what the rest earns
abbrev pub invariant-loop-period : goal.invariant-loop-period
invariant-loop-period l = (l.sum +ℤ earned l.each (drop l.period-index l.periods) ≡ earned l.each l.periods) × (nat_abs l.sum ≤ 5000000 * l.period-index)
