-- Money in pence. Assumes nothing.
use Rattle.std.specs.Prelude.{ℕ, ◌*◌, cond, List, [], ◌∷◌, ℤ, pos, ◌+ℤ◌, ◌*ℤ◌}
use Rattle.std.specs.Int.{int_div_euclid}
use Rattle.rules.specs.Terms.{terms_of}
use Rattle.rules.specs.declared.terms.Contract.{Contract}
use Rattle.rules.specs.declared.terms.Held.{Held}
use Rattle.rules.specs.declared.terms.Terms.{Terms}
use Rattle.factors.specs.Factors.{whole, all_figures, lowest}
use Rattle.factors.specs.declared.judgement.Judgement.{Judgement}
use Rattle.factors.specs.declared.settlement.PeriodFigures.{PeriodFigures}
use Rattle.factors.specs.declared.settlement.Settlement.{Settlement}

-- The whole number nearest to n ÷ d, halves up: (2n + d) ÷ 2d, rounded down.
abbrev pub nearest : ℤ → ℕ → ℤ
nearest n d = int_div_euclid ((n +ℤ n) +ℤ pos d) (pos (2 * d))

-- What a contract earns in half an hour: price × MW ÷ 2.
abbrev pub half_hour : Held → ℤ
half_hour h = nearest (h.price *ℤ pos h.quantity) 2

-- What a payable period earns.
abbrev pub earning : Terms → Contract → ℤ
earning t c = half_hour (terms_of t c)

-- The sum over the payable ones of some periods, where each earns e.
abbrev pub earns : ℤ → PeriodFigures → ℤ
earns e f = cond f.payable e (pos 0)

abbrev pub earned : ℤ → List PeriodFigures → ℤ
earned e [] = pos 0
earned e (f ∷ fs) = earns e f +ℤ earned e fs

-- Sum × factor ÷ 1,000,000.
abbrev pub paid : ℤ → ℕ → ℤ
paid s f = nearest (s *ℤ pos f) whole

-- What a contract comes to: the figures of its periods, the sum over the payable ones, the block factor and the payment.
pub record Settled : Type 0 where
  pub periods : List PeriodFigures
  pub sum : ℤ
  pub factor : ℕ
  pub payment : ℤ

-- From the figures of the periods, where each payable one earns e.
abbrev pub come_to : ℤ → List PeriodFigures → Settled
come_to e fs = record { periods = fs; sum = earned e fs; factor = lowest fs; payment = paid (earned e fs) (lowest fs) }

abbrev pub settled : Terms → Contract → List Judgement → Settled
settled t c js = come_to (earning t c) (all_figures t js)

abbrev pub sum : Terms → Contract → List Judgement → ℤ
sum t c js = (settled t c js).sum

abbrev pub payment : Terms → Contract → List Judgement → ℤ
payment t c js = (settled t c js).payment

-- What a settlement tells.
abbrev pub told : Settlement → Settled
told s = record { periods = s.periods; sum = s.sum; factor = s.factor; payment = s.payment }
