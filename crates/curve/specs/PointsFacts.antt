-- Accepted points make a curve.
use Rattle.std.specs.Prelude.{◌≡◌, ℕ, ◌+◌, ◌-◌, ◌*◌, ◌<◌, ◌≤◌, true, ◌&&◌, List, [], ◌∷◌, length, take, drop, ℤ, pos, negsuc, ◌≤ℤ◌, None, int_le, int_lt, nat_le, slice_index_or, unsigned_abs, refl}
use Rattle.std.proofs.Common.{ap, sym, ◌∙◌, subst, mul_comm, mul-le-mul_left, mul-le-mul_right, arith}
use Rattle.std.proofs.Math.Nat.{div-le_of_le-mul}
use Rattle.std.specs.Float.Ieee.Nearest.{div_mono}
use Rattle.std.proofs.lemmas.List.{drop_more, take_all}
use Rattle.std.proofs.lemmas.Int.{ints}
use Rattle.std.proofs.lemmas.Bool.{both_ways, and_parts, cond-true, cond-false, cond_both, le-leb, lt-leb, leb-true, leb-false}
use Rattle.basics.specs.Check.{within}
use Rattle.curve.specs.Loading.{follows, rises, rising, starts, climbs, climbing, last_parts, full_parts, refused_points}
use Rattle.curve.specs.Shape.{IsCurve}
use Rattle.curve.specs.Points.{at, height, line, beyond, along, points_shape, Neighbours, Onward}
use Rattle.curve.specs.declared.loading.Point.{Point}
use Rattle.curve.specs.MirroredFacts.{Rises, mirrored_is_curve}
use Rattle.curve.specs.AcceptedPoints.{Met, within_says, all_met}

-- What the tests say of two numbers that follow each other.
follows_says : (a b : ℤ) → pos 0 ≤ℤ a → follows a b ≡ true → (pos 0 ≤ℤ b) × (unsigned_abs a < unsigned_abs b) × (unsigned_abs b ≤ 10000)
follows_says a b some told =
    let w = and_parts (within (pos 0) (pos 10000) b) (int_lt a b) told in
    let z = and_parts (int_le (pos 0) b) (int_le b (pos 10000)) w.0 in
    (grind (arith, ints), grind (arith, ints), grind (arith, ints))

climb_says : (a b : ℤ) → pos 0 ≤ℤ a → int_le a b ≡ true → (pos 0 ≤ℤ b) × (unsigned_abs a ≤ unsigned_abs b)
climb_says a b some told = (grind (arith, ints), grind (arith, ints))

-- The last parts are no fewer than those of any point.
last_parts_most : (a : ℤ) (ps : List Point) → pos 0 ≤ℤ a → climbs a ps ≡ true → unsigned_abs a ≤ unsigned_abs (last_parts a ps)
last_parts_most a [] some told = omega arith
last_parts_most a (p ∷ ps) some told =
    let w = and_parts (int_le a p.parts) (climbs p.parts ps) told in
    let up = climb_says a p.parts some w.0 in
    let on = last_parts_most p.parts ps up.0 w.1 in
    omega arith

-- None of them is negative.
last_parts_some : (a : ℤ) (ps : List Point) → pos 0 ≤ℤ a → climbs a ps ≡ true → pos 0 ≤ℤ last_parts a ps
last_parts_some a [] some told = some
last_parts_some a (p ∷ ps) some told =
    let w = and_parts (int_le a p.parts) (climbs p.parts ps) told in
    last_parts_some p.parts ps (climb_says a p.parts some w.0).0 w.1

-- Sizes of numbers that are not negative.
pub size_order : (y z : ℤ) → pos 0 ≤ℤ y → y ≤ℤ z → unsigned_abs y ≤ unsigned_abs z
size_order y z some most = grind (arith, ints)

size_some : (z : ℤ) → pos 1 ≤ℤ z → 1 ≤ unsigned_abs z
size_some z some = grind (arith, ints)

size_from : (z : ℤ) → pos 1 ≤ℤ z → pos 0 ≤ℤ z
size_from z some = omega (arith, ints)

-- An accepted point, the next one, and those after it.
pub onward_next : (p q : Point) (qs : List Point) → Onward p (q ∷ qs) → Neighbours p q × Onward q qs
onward_next p q qs on =
    let r = and_parts (follows p.deviation q.deviation) (rises q.deviation qs) on.rise in
    let c = and_parts (int_le p.parts q.parts) (climbs q.parts qs) on.climb in
    let d = follows_says p.deviation q.deviation on.some_deviation r.0 in
    let u = climb_says p.parts q.parts on.some_parts c.0 in
    let l = last_parts_most q.parts qs u.0 c.1 in
    let m = size_order (last_parts q.parts qs) (pos 1000000) (last_parts_some q.parts qs u.0 c.1) on.most in (
      record { ahead = d.1; near = d.2; up = u.1; most = omega arith },
      record { some_deviation = d.0; some_parts = u.0; rise = r.1; climb = c.1; most = on.most },
    )

pub onward_more : (p : Point) (ps : List Point) (i : ℕ) (d : Point) → i < length ps → Onward p (drop i ps)
    → Neighbours p (slice_index_or ps i d) × Onward (slice_index_or ps i d) (drop (i + 1) ps)
onward_more p ps i d inside on = onward_next p (slice_index_or ps i d) (drop (i + 1) ps) (subst (Onward p) (drop_more ps i d inside) on)

-- Parts up to the next point, and past it.
pub beyond_here : (p : Point) (ps : List Point) (i : ℕ) (d : Point) (n : ℕ) → i < length ps → n ≤ at (slice_index_or ps i d)
    → beyond p (drop i ps) n ≡ line p (slice_index_or ps i d) n
beyond_here p ps i d n inside here =
    ap (λ qs. beyond p qs n) (drop_more ps i d inside)
    ∙ cond-true (nat_le n (at (slice_index_or ps i d))) (line p (slice_index_or ps i d) n) (beyond (slice_index_or ps i d) (drop (i + 1) ps) n) (le-leb n (at (slice_index_or ps i d)) here)

pub beyond_more : (p : Point) (ps : List Point) (i : ℕ) (d : Point) (n : ℕ) → i < length ps → at (slice_index_or ps i d) < n
    → beyond p (drop i ps) n ≡ beyond (slice_index_or ps i d) (drop (i + 1) ps) n
beyond_more p ps i d n inside past =
    ap (λ qs. beyond p qs n) (drop_more ps i d inside)
    ∙ cond-false (nat_le n (at (slice_index_or ps i d))) (line p (slice_index_or ps i d) n) (beyond (slice_index_or ps i d) (drop (i + 1) ps) n) (lt-leb n (at (slice_index_or ps i d)) past)

-- The first point of accepted points, and those after it.
pub accepted_onward : (p : Point) (ps : List Point) → rising (p ∷ ps) ≡ true → climbing (p ∷ ps) ≡ true → Onward p ps
accepted_onward p ps rise climb =
    let r = and_parts (follows (negsuc 0) p.deviation) (rises p.deviation ps) rise in
    let w = and_parts (within (pos 0) (pos 10000) p.deviation) (int_lt (negsuc 0) p.deviation) r.0 in
    let c = and_parts (starts (p ∷ ps)) (climbs (pos 0) (p ∷ ps) && within (pos 1) (pos 1000000) (last_parts p.parts ps)) climb in
    let u = and_parts (climbs (pos 0) (p ∷ ps)) (within (pos 1) (pos 1000000) (last_parts p.parts ps)) c.1 in
    let k = and_parts (int_le (pos 0) p.parts) (climbs p.parts ps) u.0 in
    record {
      some_deviation = (within_says (pos 0) (pos 10000) p.deviation w.0).0;
      some_parts = (within_says (pos 0) (pos 0) p.parts c.0).0;
      rise = r.1;
      climb = k.1;
      most = (within_says (pos 1) (pos 1000000) (last_parts p.parts ps) u.1).1;
    }

-- A line rises, from the lower point to the higher.
line_rises : (p q : Point) (d e : ℕ) → Neighbours p q → d ≤ e → line p q d ≤ line p q e
line_rises p q d e near h =
    let s : d - at p ≤ e - at p = omega arith in
    let run : 0 < at q - at p = omega (arith, near.ahead) in
    let m = mul-le-mul_right (at q - at p) (mul-le-mul_left (height q - height p) s) in
    let v = div_mono ((height q - height p) * (d - at p)) (at q - at p) ((height q - height p) * (e - at p)) (at q - at p) run run m in
    omega arith

line_most : (p q : Point) (d : ℕ) → Neighbours p q → d ≤ at q → line p q d ≤ height q
line_most p q d near h =
    let s : d - at p ≤ at q - at p = omega arith in
    let m : (height q - height p) * (d - at p) ≤ (at q - at p) * (height q - height p) = rw (mul_comm (at q - at p) (height q - height p)) (mul-le-mul_left (height q - height p) s) in
    let v = div-le_of_le-mul (at q - at p) m in
    let u = near.up in
    omega arith

-- So do the parts beyond a point: no fewer than its own, and no more than the last.
beyond_least : (p : Point) (ps : List Point) (d : ℕ) → Onward p ps → height p ≤ beyond p ps d
beyond_least p [] d on = omega arith
beyond_least p (q ∷ qs) d on =
    let next = onward_next p q qs on in
    let rest = beyond_least q qs d next.1 in
    let up = next.0.up in
    cond_both (nat_le d (at q)) (line p q d) (beyond q qs d) (λ n. height p ≤ n) (λ e. omega arith) (λ e. omega arith)

beyond_most : (p : Point) (ps : List Point) (d : ℕ) → Onward p ps → beyond p ps d ≤ unsigned_abs (last_parts p.parts ps)
beyond_most p [] d on = omega arith
beyond_most p (q ∷ qs) d on =
    let next = onward_next p q qs on in
    let rest = beyond_most q qs d next.1 in
    let last = last_parts_most q.parts qs next.1.some_parts next.1.climb in
    cond_both (nat_le d (at q)) (line p q d) (beyond q qs d) (λ n. n ≤ unsigned_abs (last_parts q.parts qs))
    (λ e. omega (arith, line_most p q d next.0 (leb-true d (at q) e))) (λ e. rest)

beyond_rises : (p : Point) (ps : List Point) (d e : ℕ) → Onward p ps → d ≤ e → beyond p ps d ≤ beyond p ps e
beyond_rises p [] d e on h = omega arith
beyond_rises p (q ∷ qs) d e on h =
    let next = onward_next p q qs on in
    cond_both (nat_le d (at q)) (line p q d) (beyond q qs d) (λ n. n ≤ beyond p (q ∷ qs) e)
    (λ low. cond_both (nat_le e (at q)) (line p q e) (beyond q qs e) (λ n. line p q d ≤ n)
    (λ _. line_rises p q d e next.0 h)
    (λ _. omega (arith, line_most p q d next.0 (leb-true d (at q) low), beyond_least q qs e next.1)))
    (λ high. cond_both (nat_le e (at q)) (line p q e) (beyond q qs e) (λ n. beyond q qs d ≤ n)
    (λ low. absurd (omega (arith, leb-false d (at q) high, leb-true e (at q) low)))
    (λ _. beyond_rises q qs d e next.1 h))

-- Parts along accepted points rise from 0 to the last parts.
along_rises : (p : Point) (ps : List Point) → Onward p ps → Rises (along (p ∷ ps)) (unsigned_abs (last_parts p.parts ps))
along_rises p ps on = record {
  from_none = cond-true (nat_le 0 (at p)) 0 (beyond p ps 0) (le-leb 0 (at p) (omega arith));
  rise = λ d e h.
      cond_both (nat_le d (at p)) 0 (beyond p ps d) (λ n. n ≤ along (p ∷ ps) e)
      (λ _. omega arith)
      (λ high. cond_both (nat_le e (at p)) 0 (beyond p ps e) (λ n. beyond p ps d ≤ n)
      (λ low. absurd (omega (arith, leb-false d (at p) high, leb-true e (at p) low)))
      (λ _. beyond_rises p ps d e on h));
  most = λ d. cond_both (nat_le d (at p)) 0 (beyond p ps d) (λ n. n ≤ unsigned_abs (last_parts p.parts ps)) (λ _. omega arith) (λ _. beyond_most p ps d on);
}

-- Points, a ramp and a lag without a fault make a curve.
pub met_is_curve : (points : List Point) (ramp lag : ℤ) → Met points ramp lag → IsCurve (points_shape points ramp lag)
met_is_curve [] ramp lag met = absurd (omega (arith, met.some_points))
met_is_curve (p ∷ ps) ramp lag met =
    mirrored_is_curve (along (p ∷ ps)) (unsigned_abs (full_parts (p ∷ ps))) (unsigned_abs ramp) (unsigned_abs lag)
    (size_some ramp met.some_ramp)
    (size_order ramp (full_parts (p ∷ ps)) (size_from ramp met.some_ramp) met.most_ramp)
    (size_order (full_parts (p ∷ ps)) (pos 1000000) (size_from (full_parts (p ∷ ps)) met.some_full) met.most_full)
    (size_order lag (pos 10) met.some_lag met.most_lag)
    (along_rises p ps (accepted_onward p ps met.rise met.climb))

pub points_is_curve : (points : List Point) (ramp lag : ℤ) → refused_points points ramp lag ≡ None → IsCurve (points_shape points ramp lag)
points_is_curve points ramp lag none = met_is_curve points ramp lag (all_met points ramp lag none)

-- The same of a slice, its first point and the others.
pub first_onward : (ps : List Point) (d : Point) → rising ps ≡ true → climbing ps ≡ true
    → Onward (slice_index_or ps 0 d) (take (length ps - 1) (drop 1 ps))
first_onward [] d rise climb = absurd (both_ways (climbing []) refl climb)
first_onward (p ∷ ps) d rise climb =
    let e : take (length (p ∷ ps) - 1) ps ≡ ps = take_all (length (p ∷ ps) - 1) ps (omega arith) in
    subst (Onward p) (sym e) (accepted_onward p ps rise climb)

pub first_along : (ps : List Point) (d : Point) (n : ℕ) → climbing ps ≡ true → at (slice_index_or ps 0 d) < n
    → beyond (slice_index_or ps 0 d) (take (length ps - 1) (drop 1 ps)) n ≡ along ps n
first_along [] d n climb past = absurd (both_ways (climbing []) refl climb)
first_along (p ∷ ps) d n climb past =
    let e : take (length (p ∷ ps) - 1) ps ≡ ps = take_all (length (p ∷ ps) - 1) ps (omega arith) in
    ap (λ qs. beyond p qs n) e ∙ sym (cond-false (nat_le n (at p)) 0 (beyond p ps n) (lt-leb n (at p) past))

pub along_most : (ps : List Point) (n : ℕ) → rising ps ≡ true → climbing ps ≡ true → along ps n ≤ 1000000
along_most [] n rise climb = omega arith
along_most (p ∷ ps) n rise climb =
    let on = accepted_onward p ps rise climb in
    let some = last_parts_some p.parts ps on.some_parts on.climb in
    let m = size_order (last_parts p.parts ps) (pos 1000000) some on.most in
    omega (arith, (along_rises p ps on).most n)
