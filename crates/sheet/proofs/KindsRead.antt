-- One kind of line, read by its template.
use Rattle.std.proofs.Common.{◌≡◌, ℕ, zero, suc, ◌+◌, ◌-◌, ◌*◌, ◌<◌, ◌≤◌, true, List, [], ◌∷◌, length, ℤ, None, sym, refl, ap, ◌∙◌, arith}
use Rattle.std.proofs.lemmas.List.{take_all}
use Rattle.std.proofs.lemmas.Bool.{and_from}
use Rattle.curve.specs.declared.loading.Point.{Point}
use Rattle.template.specs.Templates.{all_short, apart, ends_number, fill, Fills, holes, Unfilled}
use Rattle.template.proofs.FilledRead.{fill_long}
use Rattle.sheet.specs.Lines.{IsLine, Said, curve_template, line_numbers, line_template, of_curve, points_numbers, points_template, text}
use Rattle.sheet.specs.Kinds.{CurveRead, openings}
use Rattle.sheet.proofs.CurveTemplates.{length_points}
use Rattle.sheet.proofs.Openings.{curve_openings}

-- The numbers that were read are those of what a line says, by the template of its kind.
pub kind_read : (said : Said) (t bytes : List ℕ) (zs : List ℤ) → line_template said ≡ t → line_numbers said ≡ zs → Fills t bytes zs × (length zs ≡ holes t)
    → (bytes ≡ text said) × (all_short (line_numbers said) ≡ true)
kind_read said t bytes zs is same so = (
  so.0.spelled ∙ (ap (λ s. fill s zs) (sym is) ∙ ap (fill (line_template said)) (sym same)),
  ap all_short same ∙ (sym (ap all_short (take_all (holes t) zs (omega arith))) ∙ so.0.short),
)

-- The holes of a curve line's template.
ends_points : (n : ℕ) → ends_number (points_template n) ≡ true
ends_points zero = refl
ends_points (suc n) = refl

apart_points : (n : ℕ) → apart (points_template n) ≡ true
apart_points zero = refl
apart_points (suc n) = apart_points n

pub apart_curve : (n : ℕ) → apart (curve_template n) ≡ true
apart_curve n = and_from (ends_number (points_template n)) (apart (points_template n)) (ends_points n) (apart_points n)

holes_points : (n : ℕ) → holes (points_template n) ≡ 2 * n
holes_points zero = refl
holes_points (suc n) = omega (arith, holes_points n)

pub holes_curve : (n : ℕ) → holes (curve_template n) ≡ 2 * n + 2
holes_curve n = omega (arith, holes_points n)

-- A curve line has an opening bracket more than points, and no more than 23 points.
pub some_points : (bytes : List ℕ) (ramp lag : ℤ) (ps : List Point) → IsLine bytes (of_curve ramp lag ps) → (openings bytes ≡ suc (length ps)) × (length ps ≤ 23)
some_points bytes ramp lag ps line =
    let long : length (curve_template (length ps)) ≤ length (text (of_curve ramp lag ps)) = fill_long (curve_template (length ps)) (line_numbers (of_curve ramp lag ps)) line.short in
    (ap openings line.spelled ∙ curve_openings ramp lag ps line.short, omega (arith, long, length_points (length ps), ap length line.spelled, line.within))

pub length_numbers : (ps : List Point) → length (points_numbers ps) ≡ 2 * length ps
length_numbers [] = refl
length_numbers (p ∷ ps) = omega (arith, length_numbers ps)

pub too_many : (bytes : List ℕ) (points : ℕ) → points ≡ openings bytes - 1 → 23 < points → CurveRead bytes None
too_many bytes points is many ramp lag ps line = omega (arith, some_points bytes ramp lag ps line)

-- So many points by the numbers, and by the opening brackets.
pub as_many : (ramp lag : ℤ) (ps : List Point) (n : ℕ) (zs : List ℤ) → line_numbers (of_curve ramp lag ps) ≡ zs → length zs ≡ holes (curve_template n) → length ps ≡ n
as_many ramp lag ps n zs is many = omega (arith, ap length is, length_numbers ps, holes_curve n)

pub no_curve : (bytes : List ℕ) (points room : ℕ) → points ≡ openings bytes - 1 → (apart (curve_template points) ≡ true → holes (curve_template points) ≤ room → Unfilled (curve_template points) bytes)
    → 2 * points + 2 ≤ room → CurveRead bytes None
no_curve bytes points room is so wide ramp lag ps line =
    let many : length ps ≡ points = omega (arith, some_points bytes ramp lag ps line) in
    so (apart_curve points) (omega (arith, holes_curve points)) (line_numbers (of_curve ramp lag ps)) line.short
    (line.spelled ∙ ap (λ k. fill (curve_template k) (line_numbers (of_curve ramp lag ps))) many)
