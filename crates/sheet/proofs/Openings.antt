-- Opening brackets: one more, and how many a filled template has.
use Rattle.std.proofs.Common.{◌≡◌, ℕ, suc, ◌^◌, ◌<◌, ◌≤◌, true, cond, ◌&&◌, List, [], ◌∷◌, ◌++◌, length, ℤ, pos, negsuc, decimal, sym, refl, ap, ◌∙◌, arith}
use Rattle.std.proofs.lemmas.Fmt.{digits_decimal}
use Rattle.std.proofs.lemmas.List.Recursion.{is_count_by}
use Rattle.std.proofs.Math.Numerals.{one-add}
use Rattle.std.specs.Bool.{◌==◌}
use Rattle.std.specs.List.{count_by}
use Rattle.std.proofs.lemmas.Bool.{and_parts, leb-true, ltb-true, ne_eqb}
use Rattle.std.specs.Char.{is_ascii_digit}
use Rattle.std.specs.Fmt.{signed_decimal}
use Rattle.std.specs.Str.{all_ascii_digits}
use Rattle.template.specs.Numbers.{short}
use Rattle.curve.specs.declared.loading.Point.{Point}
use Rattle.template.specs.Templates.{all_short, fill}
use Rattle.template.proofs.DigitsRead.{own}
use Rattle.sheet.specs.Lines.{line_numbers, of_curve, points_numbers, points_template, text}
use Rattle.sheet.specs.Kinds.{openings}

no_bracket : (b : ℕ) (bs : List ℕ) → (b ≡ 40 → ⊥) → openings (b ∷ bs) ≡ openings bs
no_bracket b bs not = ap (λ test. cond test (suc (openings bs)) (openings bs)) (ne_eqb b 40 not)

pub openings_counted : (bs : List ℕ) → openings bs ≡ count_by (λ b. b == 40) bs
openings_counted bs = is_count_by openings (λ b. b == 40) refl (λ b bs. ap (λ n. cond (b == 40) n (openings bs)) (sym (one-add (openings bs)))) bs

digits_none : (ds rest : List ℕ) → all_ascii_digits ds ≡ true → openings (ds ++ rest) ≡ openings rest
digits_none [] rest digits = refl
digits_none (d ∷ ds) rest digits =
    let both = and_parts (is_ascii_digit d) (all_ascii_digits ds) digits in
    let low : 48 ≤ d = leb-true _ _ (and_parts _ _ both.0).0 in
    no_bracket d (ds ++ rest) (λ is. omega arith) ∙ digits_none ds rest both.1

number_none : (z : ℤ) (rest : List ℕ) → short z ≡ true → openings (signed_decimal z ++ rest) ≡ openings rest
number_none (pos n) rest few =
    let small : n < 10 ^ 10 = ltb-true n (10 ^ 10) few in
    digits_none (decimal n) rest (digits_decimal own n (omega arith))
number_none (negsuc n) rest few =
    let small : suc n < 10 ^ 10 = ltb-true (suc n) (10 ^ 10) few in
    digits_none (decimal (suc n)) rest (digits_decimal own (suc n) (omega arith))

-- A curve line has one for itself and one for each point.
points_openings : (ps : List Point) → all_short (points_numbers ps) ≡ true → openings (fill (points_template (length ps)) (points_numbers ps)) ≡ length ps
points_openings [] few = refl
points_openings (p ∷ ps) few =
    let both = and_parts (short p.deviation) (short p.parts && all_short (points_numbers ps)) few in
    let rest = and_parts (short p.parts) (all_short (points_numbers ps)) both.1 in
    ap suc
    (number_none p.deviation (32 ∷ (signed_decimal p.parts ++ (41 ∷ fill (points_template (length ps)) (points_numbers ps)))) both.0
    ∙ (number_none p.parts (41 ∷ fill (points_template (length ps)) (points_numbers ps)) rest.0 ∙ points_openings ps rest.1))

pub curve_openings : (ramp lag : ℤ) (ps : List Point) → all_short (line_numbers (of_curve ramp lag ps)) ≡ true → openings (text (of_curve ramp lag ps)) ≡ suc (length ps)
curve_openings ramp lag ps few =
    let both = and_parts (short ramp) (short lag && all_short (points_numbers ps)) few in
    let rest = and_parts (short lag) (all_short (points_numbers ps)) both.1 in
    ap suc
    (number_none ramp (32 ∷ (signed_decimal lag ++ fill (points_template (length ps)) (points_numbers ps))) both.0
    ∙ (number_none lag (fill (points_template (length ps)) (points_numbers ps)) rest.0 ∙ points_openings ps rest.1))
