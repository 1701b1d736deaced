-- Parts that are told by the deviation, and mirrored, make a curve if they rise from 0 up to full.
use Rattle.std.specs.Prelude.{◌≡◌, ℕ, suc, ◌≤◌, cond, ℤ, pos, negsuc, neg_ℤ, ◌≤ℤ◌}
use Rattle.std.proofs.Common.{ap, arith}
use Rattle.std.proofs.Math.Dec.{leb-suc-zero}
use Rattle.std.proofs.lemmas.Int.{ints, clamps}
use Rattle.curve.specs.Shape.{IsCurve, lowest, highest}
use Rattle.curve.specs.Deviations.{deviation, mirrored}

mirrored_pos : (told : ℕ → ℕ) (d : ℕ) → mirrored told (pos d) ≡ pos (told d)
mirrored_pos told d = ap (λ b. cond b (neg_ℤ (pos (told d))) (pos (told d))) (leb-suc-zero d)

mirrored_order : (told : ℕ → ℕ) → ((d e : ℕ) → d ≤ e → told d ≤ told e)
    → (d e : ℤ) → d ≤ℤ e → mirrored told d ≤ℤ mirrored told e
mirrored_order told rise (pos d) (pos e) h =
    let r = rise d e (omega (arith, ints)) in
    omega (arith, ints, mirrored_pos told d, mirrored_pos told e)
mirrored_order told rise (pos d) (negsuc e) h = absurd (omega (arith, ints))
mirrored_order told rise (negsuc d) (pos e) h = omega (arith, ints, mirrored_pos told e)
mirrored_order told rise (negsuc d) (negsuc e) h =
    let r = rise (suc e) (suc d) (omega (arith, ints)) in
    omega (arith, ints)

mirrored_least : (told : ℕ → ℕ) (full : ℕ) → ((d : ℕ) → told d ≤ full) → (d : ℤ) → neg_ℤ (pos full) ≤ℤ mirrored told d
mirrored_least told full most (pos d) = omega (arith, ints, mirrored_pos told d)
mirrored_least told full most (negsuc d) = let m = most (suc d) in omega (arith, ints)

mirrored_most : (told : ℕ → ℕ) (full : ℕ) → ((d : ℕ) → told d ≤ full) → (d : ℤ) → mirrored told d ≤ℤ pos full
mirrored_most told full most (pos d) = let m = most d in omega (arith, ints, mirrored_pos told d)
mirrored_most told full most (negsuc d) = omega (arith, ints)

-- The deviation falls as the frequency rises, and stays beyond either end.
deviation_falls : (f g : ℤ) → f ≤ℤ g → deviation g ≤ℤ deviation f
deviation_falls f g h = omega (arith, ints, clamps)

deviation_below : (f : ℤ) → f ≤ℤ lowest → deviation f ≡ deviation lowest
deviation_below f h = omega (arith, ints, clamps)

deviation_above : (f : ℤ) → highest ≤ℤ f → deviation f ≡ deviation highest
deviation_above f h = omega (arith, ints, clamps)

-- Parts that rise from 0 to at most full.
pub record Rises (told : ℕ → ℕ) (full : ℕ) : Type 0 where
  pub from_none : told 0 ≡ 0
  pub rise : (d e : ℕ) → d ≤ e → told d ≤ told e
  pub most : (d : ℕ) → told d ≤ full

pub mirrored_is_curve : (told : ℕ → ℕ) (full ramp lag : ℕ) → 1 ≤ ramp → ramp ≤ full → full ≤ 1000000 → lag ≤ 10 → Rises told full
    → IsCurve (record { full = full; ramp = ramp; lag = lag; parts = λ f. mirrored told (deviation f) })
mirrored_is_curve told full ramp lag some_ramp most_ramp most_full most_lag rises = record {
  some_full = omega arith;
  most_full = most_full;
  some_ramp = some_ramp;
  most_ramp = most_ramp;
  most_lag = most_lag;
  least_parts = λ f. mirrored_least told full rises.most (deviation f);
  most_parts = λ f. mirrored_most told full rises.most (deviation f);
  at_nominal = ap pos rises.from_none;
  falls = λ f g h. mirrored_order told rises.rise (deviation g) (deviation f) (deviation_falls f g h);
  below = λ f h. ap (mirrored told) (deviation_below f h);
  above = λ f h. ap (mirrored told) (deviation_above f h);
}
