-- What a block comes to. Assumes nothing.
use Rattle.std.specs.Prelude.{List}
use Rattle.curve.specs.Shape.{Shape}
use Rattle.curve.specs.Sides.{sided}
use Rattle.factors.specs.Money.{Settled, settled}
use Rattle.rules.specs.Terms.{sides}
use Rattle.rules.specs.declared.reading.Reading.{Reading}
use Rattle.rules.specs.declared.terms.Contract.{Contract}
use Rattle.rules.specs.declared.terms.Terms.{Terms}
use Rattle.account.specs.History.{judgements}

-- The curve as the held contracts see it.
abbrev pub seen : Terms → Shape → Shape
seen t s = sided (sides t) s

-- What a contract comes to on a curve after a history: the figures of every period, the sum, the block factor and the
-- payment.
abbrev pub comes_to : Terms → Shape → Contract → List Reading → Settled
comes_to t s c h = settled t c (judgements t (seen t s) c h)
