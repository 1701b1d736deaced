-- How the program tells the three lines apart: the answers of its parts, one for each kind. `Reads` says what they amount to. Assumes
-- nothing.
use Rattle.std.specs.Prelude.{◌≡◌, ℕ, suc, true, cond, List, [], ◌∷◌, ℤ, Some, None, Option, ◌==◌}
use Rattle.curve.specs.declared.loading.Point.{Point}
use Rattle.template.specs.Templates.{all_short}
use Rattle.sheet.specs.Lines.{IsLine, Said, curve_said, line_numbers, of_curve, text}
use Rattle.sheet.specs.declared.curve_line.CurveLine.{CurveLine}

-- What a line of one kind says, or that the bytes are no line of that kind.
abbrev pub KindRead : {T : Type 0} → (T → Said) → List ℕ → Option T → Type 0
KindRead says bytes (Some x) = (bytes ≡ text (says x)) × (all_short (line_numbers (says x)) ≡ true)
KindRead {T} says bytes None = (x : T) → IsLine bytes (says x) → ⊥

abbrev pub CurveRead : List ℕ → Option CurveLine → Type 0
CurveRead bytes (Some line) = (bytes ≡ text (curve_said line)) × (all_short (line_numbers (curve_said line)) ≡ true)
CurveRead bytes None = (ramp lag : ℤ) (points : List Point) → IsLine bytes (of_curve ramp lag points) → ⊥

-- How many opening brackets there are.
abbrev pub openings : List ℕ → ℕ
openings [] = 0
openings (b ∷ bs) = cond (b == 40) (suc (openings bs)) (openings bs)
