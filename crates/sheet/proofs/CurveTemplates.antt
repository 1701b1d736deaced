-- The template of a curve line of fewer points, from that of 23.
use Rattle.std.proofs.Common.{◌≡◌, ℕ, zero, suc, ◌+◌, ◌*◌, ◌≤◌, [], ◌∷◌, ◌++◌, length, take, set, codes, refl, ap, ◌∙◌, arith}
use Rattle.std.proofs.lemmas.List.{take_more_set}
use Rattle.sheet.specs.Lines.{curve_template, points_template}

points_front : (n m : ℕ) → n ≤ m → take (8 * n) (points_template m) ++ (41 ∷ []) ≡ points_template n
points_front zero m few = refl
points_front (suc n) zero few = absurd (omega arith)
points_front (suc n) (suc m) few =
    let eight : 8 * suc n ≡ suc (suc (suc (suc (suc (suc (suc (suc (8 * n)))))))) = omega arith in
    ap (λ k. take k (points_template (suc m)) ++ (41 ∷ [])) eight ∙ ap (λ rest. codes " (p # #)" ++ rest) (points_front n m (omega arith))

pub length_points : (n : ℕ) → length (points_template n) ≡ 8 * n + 1
length_points zero = refl
length_points (suc n) = omega (arith, length_points n)

pub curve_front : (n : ℕ) → n ≤ 23 → take (8 * n + 11) (set (curve_template 23) (8 * n + 10) 41) ≡ curve_template n
curve_front n few =
    let long : length (curve_template 23) ≡ 195 = refl in
    let more : 8 * n + 11 ≡ (8 * n + 10) + 1 = omega arith in
    let ten : 8 * n + 10 ≡ suc (suc (suc (suc (suc (suc (suc (suc (suc (suc (8 * n)))))))))) = omega arith in
    ap (λ k. take k (set (curve_template 23) (8 * n + 10) 41)) more
    ∙ (take_more_set (curve_template 23) (8 * n + 10) 41 (omega arith)
    ∙ (ap (λ k. take k (curve_template 23) ++ (41 ∷ [])) ten ∙ ap (λ rest. codes "(curve # #" ++ rest) (points_front n 23 few)))
