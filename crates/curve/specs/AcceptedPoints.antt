-- What it says of points, a ramp and a lag that there is no fault in them.
use Rattle.std.specs.Prelude.{◌≡◌, ℕ, ◌≤◌, Bool, true, false, not, ◌&&◌, List, length, take, ℤ, pos, ◌≤ℤ◌, is_some, Some, None, Option, int_le, nat_le, refl}
use Rattle.std.proofs.Common.{ap, arith}
use Rattle.std.proofs.lemmas.Int.{ints}
use Rattle.std.proofs.lemmas.List.{take_all}
use Rattle.std.proofs.lemmas.Bool.{and_parts, leb-true}
use Rattle.basics.specs.Check.{unless, within}
use Rattle.curve.specs.Loading.{countable, rising, starts, climbs, climbing, full_parts, refused_points, accepted}
use Rattle.curve.specs.declared.loading.Point.{Point}
use Rattle.curve.specs.declared.loading.PointsFault.{PointsFault}
use Rattle.curve.specs.declared.loading.PointsFault.TheVariants.{Count, Deviation, Parts, Ramp, Lag}

pub record Met (points : List Point) (ramp lag : ℤ) : Type 0 where
  pub some_points : 2 ≤ length points
  pub most_points : length points ≤ 8
  pub rise : rising points ≡ true
  pub climb : climbing points ≡ true
  pub some_full : pos 1 ≤ℤ full_parts points
  pub most_full : full_parts points ≤ℤ pos 1000000
  pub some_ramp : pos 1 ≤ℤ ramp
  pub most_ramp : ramp ≤ℤ full_parts points
  pub some_lag : pos 0 ≤ℤ lag
  pub most_lag : lag ≤ℤ pos 10

-- One test of the chain was met, and so were those after it.
met : (test : Bool) (fault : PointsFault) (rest : Option PointsFault) → unless test fault rest ≡ None → (test ≡ true) × (rest ≡ None)
met true fault rest none = (refl, none)
met false fault rest none = absurd (let z : ◌≡◌ {A = ℕ} 0 1 = cc in omega arith)

pub within_says : (low high z : ℤ) → within low high z ≡ true → (low ≤ℤ z) × (z ≤ℤ high)
within_says low high z told =
    let both = and_parts (int_le low z) (int_le z high) told in
    (grind (arith, ints), grind (arith, ints))

pub all_met : (points : List Point) (ramp lag : ℤ) → refused_points points ramp lag ≡ None → Met points ramp lag
all_met points ramp lag none =
    let a = met (countable (length points)) Count _ none in
    let b = met (rising points) Deviation _ a.1 in
    let c = met (climbing points) Parts _ b.1 in
    let d = met (within (pos 1) (full_parts points) ramp) Ramp _ c.1 in
    let e = met (within (pos 0) (pos 10) lag) Lag _ d.1 in
    let n = and_parts (nat_le 2 (length points)) (nat_le (length points) 8) a.0 in
    let p = and_parts (starts points) (climbs (pos 0) points && within (pos 1) (pos 1000000) (full_parts points)) c.0 in
    let q = and_parts (climbs (pos 0) points) (within (pos 1) (pos 1000000) (full_parts points)) p.1 in
    let full = within_says (pos 1) (pos 1000000) (full_parts points) q.1 in
    let r = within_says (pos 1) (full_parts points) ramp d.0 in
    let l = within_says (pos 0) (pos 10) lag e.0 in
    record {
      some_points = leb-true 2 (length points) n.0;
      most_points = leb-true (length points) 8 n.1;
      rise = b.0;
      climb = c.0;
      some_full = full.0;
      most_full = full.1;
      some_ramp = r.0;
      most_ramp = r.1;
      some_lag = l.0;
      most_lag = l.1;
    }

-- Accepted points fit eight places.
pub all_kept : (points : List Point) (ramp lag : ℤ) → refused_points points ramp lag ≡ None → take 8 points ≡ points
all_kept points ramp lag none = take_all 8 points (all_met points ramp lag none).most_points

-- The test that a curve's own points meet, and back.
pub none_accepted : (points : List Point) (ramp lag : ℤ) → refused_points points ramp lag ≡ None → accepted points ramp lag ≡ true
none_accepted points ramp lag none = ap (λ o. not (is_some o)) none

none_from : (o : Option PointsFault) → not (is_some o) ≡ true → o ≡ None
none_from None told = refl
none_from (Some fault) told = absurd (let z : ◌≡◌ {A = ℕ} 0 1 = cc in omega arith)

pub accepted_met : (points : List Point) (ramp lag : ℤ) → accepted points ramp lag ≡ true → Met points ramp lag
accepted_met points ramp lag told = all_met points ramp lag (none_from (refused_points points ramp lag) told)
