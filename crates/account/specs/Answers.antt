-- What is answered for an accepted reading. Assumes nothing.
use Rattle.std.specs.Prelude.{List}
use Rattle.bounds.specs.Bounds.{bounds}
use Rattle.bounds.specs.Errors.{error_at}
use Rattle.curve.specs.Shape.{Shape}
use Rattle.rules.specs.Terms.{sides}
use Rattle.rules.specs.declared.reading.Reading.{Reading}
use Rattle.rules.specs.declared.terms.Contract.TheVariants.{Low, High}
use Rattle.rules.specs.declared.terms.Terms.{Terms}
use Rattle.account.specs.History.{period}
use Rattle.account.specs.declared.answer.Answer.{Answer}

-- The answer for a reading after a history, on the curve that the held contracts see.
abbrev pub answer : Terms → Shape → Reading → List Reading → Answer
answer t s r h = record {
  period = period t r;
  bounds = bounds (sides t) s r h;
  low = error_at t s Low r h;
  high = error_at t s High r h;
}
