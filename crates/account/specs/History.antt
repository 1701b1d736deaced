-- The accepted readings, the newest first, and what they mean for a contract. Assumes nothing.
use Rattle.std.specs.Prelude.{◌≡◌, ℕ, ◌/◌, List, [], ◌∷◌, Some, None, fold, Option, unsigned_abs}
use Rattle.bounds.specs.Errors.{error_at}
use Rattle.bounds.specs.Window.{newest}
use Rattle.curve.specs.Shape.{Shape}
use Rattle.factors.specs.declared.judgement.Judgement.{Judgement}
use Rattle.rules.specs.Flags.{available}
use Rattle.rules.specs.ReadingsCheck.{refused_reading}
use Rattle.rules.specs.declared.reading.Reading.{Reading}
use Rattle.rules.specs.declared.reading.SampleFault.{SampleFault}
use Rattle.rules.specs.declared.terms.Contract.{Contract}
use Rattle.rules.specs.declared.terms.Terms.{Terms}

-- A reading that is refused changes nothing; one that is accepted is the newest.
abbrev pub admit : Option SampleFault → Reading → List Reading → List Reading
admit None r h = r ∷ h
admit (Some e) r h = h

abbrev pub taken_in : Terms → List Reading → Reading → List Reading
taken_in t h r = admit (refused_reading t (newest h) r) r h

-- The history after some readings that are handed in one after the other, and that of a block from its start.
abbrev pub onward : Terms → List Reading → List Reading → List Reading
onward t h rs = fold (taken_in t) h rs

abbrev pub history : Terms → List Reading → List Reading
history t rs = onward t [] rs

-- Every reading was accepted after those before it.
abbrev pub AllAccepted : Terms → List Reading → Type 0
AllAccepted t [] = Unit {0}
AllAccepted t (r ∷ h) = (refused_reading t (newest h) r ≡ None) × AllAccepted t h

-- A tick's period.
abbrev pub period : Terms → Reading → ℕ
period t r = unsigned_abs r.tick / t.ticks

-- What a reading after a history means for a contract, on the curve that the held contracts see.
abbrev pub judgement : Terms → Shape → Contract → Reading → List Reading → Judgement
judgement t s c r h = record {
  tick = unsigned_abs r.tick;
  period = period t r;
  available = available c r.flag;
  error = error_at t s c r h;
}

abbrev pub judgements : Terms → Shape → Contract → List Reading → List Judgement
judgements t s c [] = []
judgements t s c (r ∷ h) = judgement t s c r h ∷ judgements t s c h
