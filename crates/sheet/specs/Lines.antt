-- The three lines of a sheet and their text. Assumes nothing.
use Rattle.std.specs.Prelude.{◌≡◌, ℕ, zero, suc, ◌≤◌, true, List, [], ◌∷◌, ◌++◌, length, ℤ, codes}
use Rattle.basics.specs.Few.{items}
use Rattle.curve.specs.declared.loading.Point.{Point}
use Rattle.rules.specs.declared.reading.Reading.{Reading}
use Rattle.rules.specs.declared.terms_input.TermsInput.{TermsInput}
use Rattle.template.specs.Templates.{all_short, fill, longest}
use Rattle.sheet.specs.declared.curve_line.CurveLine.{CurveLine}
use Rattle.sheet.specs.declared.line.Line.{Line}
use Rattle.sheet.specs.declared.line.Line.TheVariants.{Block, Curve, Reading as OfReading}

-- What a line says: the terms of a block; a curve's ramp, lag and points; or a reading.
pub data Said : Type 0 where
  of_block : TermsInput → Said
  of_curve : ℤ → ℤ → List Point → Said
  of_reading : Reading → Said

-- The lines, with # where a number stands. A curve line has as many (p # #) as it has points.
abbrev pub block_template : List ℕ
block_template = codes "(block # # (band # #) (low # #) (high # #))"

abbrev pub points_template : ℕ → List ℕ
points_template zero = codes ")"
points_template (suc n) = codes " (p # #)" ++ points_template n

abbrev pub curve_template : ℕ → List ℕ
curve_template n = codes "(curve # #" ++ points_template n

abbrev pub reading_template : List ℕ
reading_template = codes "(s # # # # #)"

abbrev pub line_template : Said → List ℕ
line_template (of_block t) = block_template
line_template (of_curve ramp lag points) = curve_template (length points)
line_template (of_reading r) = reading_template

-- The numbers, in their order: L, S, A, B, the low quantity and price, the high quantity and price; ramp, lag, and of each point the
-- deviation and the parts; tick, frequency, power, baseline and flag.
abbrev pub block_numbers : TermsInput → List ℤ
block_numbers t =
    t.ticks ∷ (t.needed ∷ (t.a ∷ (t.b ∷ (t.low.quantity ∷ (t.low.price ∷ (t.high.quantity ∷ (t.high.price ∷ [])))))))

abbrev pub points_numbers : List Point → List ℤ
points_numbers [] = []
points_numbers (p ∷ ps) = p.deviation ∷ (p.parts ∷ points_numbers ps)

abbrev pub reading_numbers : Reading → List ℤ
reading_numbers r = r.tick ∷ (r.frequency ∷ (r.power ∷ (r.baseline ∷ (r.flag ∷ []))))

abbrev pub line_numbers : Said → List ℤ
line_numbers (of_block t) = block_numbers t
line_numbers (of_curve ramp lag points) = ramp ∷ (lag ∷ points_numbers points)
line_numbers (of_reading r) = reading_numbers r

-- The text of a line.
abbrev pub text : Said → List ℕ
text said = fill (line_template said) (line_numbers said)

-- These bytes are a line that says this: they are its text, its numbers have at most ten digits, and it has at most 200 bytes.
pub record IsLine (bytes : List ℕ) (said : Said) : Type 0 where
  pub spelled : bytes ≡ text said
  pub short : all_short (line_numbers said) ≡ true
  pub within : length bytes ≤ longest

-- What the program's lines say.
abbrev pub points_of : CurveLine → List Point
points_of line = items line.points

abbrev pub curve_said : CurveLine → Said
curve_said line = of_curve line.ramp line.lag (points_of line)

abbrev pub said_by : Line → Said
said_by (Block t) = of_block t
said_by (Curve line) = curve_said line
said_by (OfReading r) = of_reading r
