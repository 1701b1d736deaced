-- What accepted points tell, point by point.
use Rattle.std.proofs.Common.{◌≡◌, ℕ, ◌<◌, leb, List, [], ◌∷◌, ◌++◌, ℤ, None, ◌∙◌, arith}
use Rattle.std.proofs.lemmas.Bool.{cond-true, cond-false, le-leb, lt-leb}
use Rattle.curve.specs.Loading.{refused_points}
use Rattle.curve.specs.Points.{at, line, beyond, along, Onward}
use Rattle.curve.specs.Laws.{JoinedByLines}
use Rattle.curve.specs.declared.loading.Point.{Point}
use Rattle.curve.specs.AcceptedPoints.{all_met}
use Rattle.curve.specs.PointsFacts.{onward_next, accepted_onward}

-- Every later point lies ahead.
ahead : (s : Point) (ss : List Point) (p : Point) (ps : List Point) → Onward s (ss ++ p ∷ ps) → at s < at p
ahead s [] p ps on = (onward_next s p ps on).0.ahead
ahead s (t ∷ ts) p ps on =
    let next = onward_next s t (ts ++ p ∷ ps) on in
    omega (arith, next.0.ahead, ahead t ts p ps next.1)

-- Past a point only that point and the later ones count.
beyond_past : (s : Point) (ss : List Point) (p : Point) (ps : List Point) (d : ℕ) → Onward s (ss ++ p ∷ ps) → at p < d
    → beyond s (ss ++ p ∷ ps) d ≡ beyond p ps d
beyond_past s [] p ps d on past = cond-false (leb d (at p)) (line s p d) (beyond p ps d) (lt-leb d (at p) past)
beyond_past s (t ∷ ts) p ps d on past =
    let next = onward_next s t (ts ++ p ∷ ps) on in
    let far : at t < d = omega (arith, ahead t ts p ps next.1) in
    cond-false (leb d (at t)) (line s t d) (beyond t (ts ++ p ∷ ps) d) (lt-leb d (at t) far)
    ∙ beyond_past t ts p ps d next.1 past

along_past : (before : List Point) (p : Point) (ps : List Point) (ramp lag : ℤ) → refused_points (before ++ p ∷ ps) ramp lag ≡ None
    → (d : ℕ) → at p < d → along (before ++ p ∷ ps) d ≡ beyond p ps d
along_past [] p ps ramp lag none d past = cond-false (leb d (at p)) 0 (beyond p ps d) (lt-leb d (at p) past)
along_past (s ∷ ss) p ps ramp lag none d past =
    let met = all_met (s ∷ (ss ++ p ∷ ps)) ramp lag none in
    let on = accepted_onward s (ss ++ p ∷ ps) met.rise met.climb in
    let far : at s < d = omega (arith, ahead s ss p ps on) in
    cond-false (leb d (at s)) 0 (beyond s (ss ++ p ∷ ps) d) (lt-leb d (at s) far) ∙ beyond_past s ss p ps d on past

pub joined_by_lines : JoinedByLines
joined_by_lines = record {
  up_to_first = λ p ps d h. cond-true (leb d (at p)) 0 (beyond p ps d) (le-leb d (at p) h);
  between = λ before p q after ramp lag none d past h.
      along_past before p (q ∷ after) ramp lag none d past
      ∙ cond-true (leb d (at q)) (line p q d) (beyond q after d) (le-leb d (at q) h);
  past_the_last = λ before p ramp lag none d past. along_past before p [] ramp lag none d past;
}
