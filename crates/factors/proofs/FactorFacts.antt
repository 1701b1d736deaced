-- How the factor depends on the error. Assumes nothing.
use Rattle.std.proofs.Common.{◌≡◌, ℕ, ◌-◌, ◌*◌, ◌/◌, ◌<◌, ◌≤◌, leb, ◌∙◌, inl, inr, mul-le-mul_right, div-lt_iff_lt-mul, arith}
use lib.Ieee.Nearest.{div_mono}
use Rattle.std.proofs.lemmas.Bool.{cases_lt, cond-true, cond-false, le-leb, lt-leb}
use Rattle.factors.specs.Factors.{whole, factor_of}

module _ (a b : ℕ) (rising : a < b) where
  -- the three pieces
  pub factor_whole : (e : ℕ) → e ≤ a → factor_of a b e ≡ whole
  factor_whole e h = cond-true (leb e a) _ _ (le-leb e a h)

  pub factor_none : (e : ℕ) → b ≤ e → factor_of a b e ≡ 0
  factor_none e h = cond-false (leb e a) _ _ (lt-leb e a (omega arith)) ∙ cond-true (leb b e) _ _ (le-leb b e h)

  pub factor_between : (e : ℕ) → a < e → e < b → factor_of a b e ≡ whole * (b - e) / (b - a)
  factor_between e h k = cond-false (leb e a) _ _ (lt-leb e a h) ∙ cond-false (leb b e) _ _ (lt-leb b e k)

  pub between_most : (e : ℕ) → a < e → whole * (b - e) / (b - a) < whole
  between_most e h = (div-lt_iff_lt-mul {k = b - a} {x = whole * (b - e)} {y = whole} (omega arith)).1 (omega arith)

  -- it is whole up to a and below whole past it
  pub factor_below : (e : ℕ) → a < e → factor_of a b e < whole
  factor_below e h =
      elim (cases_lt e b) [
        | inl k ↦ omega (arith, factor_between e h k, between_most e h)
        | inr k ↦ omega (arith, factor_none e k)
      ]

  pub factor_most : (e : ℕ) → factor_of a b e ≤ whole
  factor_most e =
      elim (cases_lt a e) [
        | inl k ↦ omega (arith, factor_below e k)
        | inr k ↦ omega (arith, factor_whole e k)
      ]

  -- a larger error has no larger factor
  falls_between : (e f : ℕ) → e ≤ f → whole * (b - f) / (b - a) ≤ whole * (b - e) / (b - a)
  falls_between e f h =
      let m : whole * (b - f) ≤ whole * (b - e) = omega arith in
      div_mono (whole * (b - f)) (b - a) (whole * (b - e)) (b - a) (omega arith) (omega arith) (mul-le-mul_right (b - a) m)

  pub factor_falls : (e f : ℕ) → e ≤ f → factor_of a b f ≤ factor_of a b e
  factor_falls e f h =
      elim (cases_lt a e) [
        | inl k ↦ elim (cases_lt f b) [
          | inl l ↦ omega (arith, factor_between e k (omega arith), factor_between f (omega arith) l, falls_between e f h)
          | inr l ↦ omega (arith, factor_none f l)
        ]
        | inr k ↦ omega (arith, factor_whole e k, factor_most f)
      ]
