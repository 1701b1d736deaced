-- Numbers of a line, one by one and as a list.
use Rattle.std.proofs.Common.{◌≡◌, ℕ, ◌+◌, ◌-◌, ◌<◌, ◌≤◌, List, [], ◌∷◌, ◌++◌, length, get_or, take, drop, ℤ, pos, sym, refl, ap, ◌∙◌, arith}
use Rattle.std.proofs.lemmas.List.{append-nil, append_assoc, at_drop_more, take_rest}
use Rattle.curve.specs.declared.loading.Point.{Point}
use Rattle.sheet.specs.Lines.{points_numbers}

-- What stands past the end of points.
abbrev pub no_point : Point
no_point = record { deviation = pos 0; parts = pos 0 }

pub eight : (zs : List ℤ) → length zs ≡ 8 → ◌≡◌ {A = List ℤ} (get_or zs 0 (pos 0) ∷ (get_or zs 1 (pos 0) ∷ (get_or zs 2 (pos 0) ∷ (get_or zs 3 (pos 0) ∷ (get_or zs 4 (pos 0) ∷ (get_or zs 5 (pos 0) ∷ (get_or zs 6 (pos 0) ∷ (get_or zs 7 (pos 0) ∷ [])))))))) zs
eight [] is = absurd (omega arith)
eight (z0 ∷ []) is = absurd (omega arith)
eight (z0 ∷ (z1 ∷ [])) is = absurd (omega arith)
eight (z0 ∷ (z1 ∷ (z2 ∷ []))) is = absurd (omega arith)
eight (z0 ∷ (z1 ∷ (z2 ∷ (z3 ∷ [])))) is = absurd (omega arith)
eight (z0 ∷ (z1 ∷ (z2 ∷ (z3 ∷ (z4 ∷ []))))) is = absurd (omega arith)
eight (z0 ∷ (z1 ∷ (z2 ∷ (z3 ∷ (z4 ∷ (z5 ∷ [])))))) is = absurd (omega arith)
eight (z0 ∷ (z1 ∷ (z2 ∷ (z3 ∷ (z4 ∷ (z5 ∷ (z6 ∷ []))))))) is = absurd (omega arith)
eight (z0 ∷ (z1 ∷ (z2 ∷ (z3 ∷ (z4 ∷ (z5 ∷ (z6 ∷ (z7 ∷ [])))))))) is = refl
eight (z0 ∷ (z1 ∷ (z2 ∷ (z3 ∷ (z4 ∷ (z5 ∷ (z6 ∷ (z7 ∷ (z ∷ (zs)))))))))) is = absurd (omega arith)

-- One point's numbers more.
pub point_put : (ps : List Point) (zs : List ℤ) (i : ℕ) (x y : ℤ) → i < length ps → x ≡ (get_or ps i no_point).deviation → y ≡ (get_or ps i no_point).parts
    → ((zs ++ x ∷ []) ++ y ∷ []) ++ points_numbers (drop (i + 1) ps) ≡ zs ++ points_numbers (drop i ps)
point_put ps zs i x y inside is is' =
    simp append_assoc
    (ap (λ ys. zs ++ ys) (ap (λ z. z ∷ (y ∷ points_numbers (drop (i + 1) ps))) is
    ∙ (ap (λ z. (get_or ps i no_point).deviation ∷ (z ∷ points_numbers (drop (i + 1) ps))) is' ∙ sym (at_drop_more points_numbers ps i no_point inside))))

-- One point more, of the next two numbers.
points_push : (ps : List Point) (p : Point) (zs : List ℤ) → points_numbers (ps ++ p ∷ []) ++ zs ≡ points_numbers ps ++ (p.deviation ∷ (p.parts ∷ zs))
points_push [] p zs = refl
points_push (q ∷ ps) p zs = ap (λ xs. q.deviation ∷ (q.parts ∷ xs)) (points_push ps p zs)

pub point_taken : (ps : List Point) (rest : List ℤ) (p : Point) → 2 ≤ length rest → p.deviation ≡ get_or rest 0 (pos 0) → p.parts ≡ get_or rest 1 (pos 0)
    → points_numbers (ps ++ p ∷ []) ++ take (length rest - 2) (drop 2 rest) ≡ points_numbers ps ++ rest
point_taken ps [] p some is is' = absurd (omega arith)
point_taken ps (x ∷ []) p some is is' = absurd (omega arith)
point_taken ps (x ∷ (y ∷ rest)) p some is is' =
    points_push ps p _ ∙ ap (λ zs. points_numbers ps ++ zs) (ap (λ zs. p.deviation ∷ (p.parts ∷ zs)) (take_rest (x ∷ (y ∷ rest)) 2) ∙ (ap (λ z. z ∷ (p.parts ∷ rest)) is ∙ ap (λ z. x ∷ (z ∷ rest)) is'))

-- Ramp and lag before them, and no number left.
pub line_taken : (x y : ℤ) (zs rest : List ℤ) (ps qs : List Point) → x ≡ get_or zs 0 (pos 0) → y ≡ get_or zs 1 (pos 0) → 2 ≤ length zs → rest ≡ [] → points_numbers ps ++ rest ≡ drop 2 zs
    → qs ≡ ps → ◌≡◌ {A = List ℤ} (x ∷ (y ∷ points_numbers qs)) zs
line_taken x y [] rest ps qs is is' some none all same = absurd (omega arith)
line_taken x y (a ∷ []) rest ps qs is is' some none all same = absurd (omega arith)
line_taken x y (a ∷ (b ∷ zs)) rest ps qs is is' some none all same =
    let whole : points_numbers qs ≡ zs = ap points_numbers same ∙ (sym (append-nil (points_numbers ps)) ∙ (ap (λ r. points_numbers ps ++ r) (sym none) ∙ all)) in
    ap (λ z. z ∷ (y ∷ points_numbers qs)) is ∙ (ap (λ z. a ∷ (z ∷ points_numbers qs)) is' ∙ ap (λ r. a ∷ (b ∷ r)) whole)
