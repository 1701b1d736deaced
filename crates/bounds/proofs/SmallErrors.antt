-- A response within 1 kW of the curve errs by at most 1,000 millionths. Assumes nothing.
use Rattle.std.proofs.Common.{◌≡◌, ℕ, suc, ◌*◌, ◌≤◌, Bool, true, cond, ◌&&◌, ltb, List, ℤ, pos, negsuc, ◌-ℤ◌, ◌*ℤ◌, nat_abs, ◌≤ℤ◌, Some, sym, ap, ◌∙◌, subst, mul-le-mul_right, mul_assoc, mul_comm, arith}
use native.Mathlib.Nat.{div-le_of_le-mul}
use lib.Signed.{lt_z}
use Rattle.std.proofs.lemmas.Int.{ints, clamps}
use Rattle.std.proofs.lemmas.Option.{cond_some}
use Rattle.std.proofs.lemmas.Bool.Decides.{nat_tests}
use Rattle.std.proofs.lemmas.Bool.{and_parts, ltb-true}
use Rattle.curve.specs.Shape.{Shape, IsCurve}
use Rattle.curve.specs.Sides.{sided}
use Rattle.curve.specs.declared.one_sided.Sides.{Sides}
use Rattle.curve.specs.declared.one_sided.Sides.TheVariants.{Low as low_alone, High as high_alone, Both}
use Rattle.rules.specs.Flags.{available}
use Rattle.rules.specs.Terms.{quantity, holds, sides}
use Rattle.rules.specs.declared.reading.Reading.{Reading}
use Rattle.rules.specs.declared.terms.Contract.{Contract}
use Rattle.rules.specs.declared.terms.Contract.TheVariants.{Low, High}
use Rattle.rules.specs.declared.terms.Terms.{Terms}
use Rattle.bounds.specs.Bounds.{bounds}
use Rattle.bounds.specs.Errors.{kilowatts, in_kilowatts, response, share, outside, distance, scaled, error_at}
use Rattle.bounds.specs.Laws.{Follows}
use Rattle.bounds.proofs.Encloses.{bounds_law}

-- more parts are no fewer kW
grows : (high low : ℕ) (p q : ℤ) → p ≤ℤ q → (p *ℤ cond (lt_z p (pos 0)) (pos high) (pos low)) ≤ℤ (q *ℤ cond (lt_z q (pos 0)) (pos high) (pos low))
grows high low (pos p) (pos q) h =
    let m : p * low ≤ q * low = mul-le-mul_right low (omega (arith, ints)) in
    grind (arith, ints, nat_tests)
grows high low (negsuc p) (pos q) h = grind (arith, ints, nat_tests)
grows high low (negsuc p) (negsuc q) h =
    let m : suc q * high ≤ suc p * high = mul-le-mul_right high (omega (arith, ints)) in omega (arith, ints)
grows high low (pos p) (negsuc q) h = absurd (omega (arith, ints))

kilowatts_grow : (t : Terms) (p q : ℤ) → p ≤ℤ q → kilowatts t p ≤ℤ kilowatts t q
kilowatts_grow t p q h = grows (1000 * quantity t High) (1000 * quantity t Low) p q h

near : (l u x k : ℤ) (n : ℕ) → l ≤ℤ k → k ≤ℤ u → nat_abs (x -ℤ k) ≤ n → outside (l, u) x ≤ n
near l u x k n hl hu h = grind (arith, ints)

share_near : (held : Sides) (c : Contract) (l u x k : ℤ) (n : ℕ) → l ≤ℤ k → k ≤ℤ u → nat_abs (x -ℤ k) ≤ n → outside (share held c l, share held c u) (share held c x) ≤ n
share_near low_alone c l u x k n hl hu h = near l u x k n hl hu h
share_near high_alone c l u x k n hl hu h = near l u x k n hl hu h
share_near Both Low l u x k n hl hu h = near (share Both Low l) (share Both Low u) (share Both Low x) (share Both Low k) n (omega (arith, ints, clamps)) (omega (arith, ints, clamps)) (omega (arith, ints, clamps))
share_near Both High l u x k n hl hu h = near (share Both High l) (share Both High u) (share Both High x) (share Both High k) n (omega (arith, ints, clamps)) (omega (arith, ints, clamps)) (omega (arith, ints, clamps))

-- a distance of at most 1 kW is at most 1,000 millionths of the quantity
small_scaled : (full mw d : ℕ) → 1 ≤ mw → d ≤ full → scaled full mw d ≤ 1000
small_scaled full mw d m h =
    let more : 1 * full ≤ mw * full = mul-le-mul_right full m in
    let same : mw * 1000 * full ≡ 1000 * (mw * full) = ap (λ k. k * full) (mul_comm mw 1000) ∙ mul_assoc 1000 mw full in
    div-le_of_le-mul (mw * 1000 * full) (subst (λ k. d * 1000000 ≤ k * 1000) (sym same) (omega arith))

error_small : (b : Bool) (t : Terms) (full : ℕ) (c : Contract) (d e : ℕ) → (holds t c && b) ≡ true → d ≤ full → scaled full (quantity t c) d ≡ e → e ≤ 1000
error_small b t full c d e k h s =
    let held : ltb 0 (quantity t c) ≡ true = (and_parts (holds t c) b k).0 in
    subst (λ x. x ≤ 1000) s (small_scaled full (quantity t c) d (ltb-true 0 (quantity t c) held) h)

pub follows_small : (t : Terms) (s : Shape) → IsCurve s → (c : Contract) (r : Reading) (h : List Reading) (e : ℕ) → Follows t (sided (sides t) s) r h → error_at t (sided (sides t) s) c r h ≡ Some e → e ≤ 1000
follows_small t s curve c r h e (f, m, n) k =
    let law = bounds_law (sides t) s curve in
    let b = bounds (sides t) (sided (sides t) s) r h in
    let p = (sided (sides t) s).parts f in
    let lower = kilowatts_grow t b.0 p (law.lower r h f m) in
    let upper = kilowatts_grow t p b.1 (law.upper r h f m) in
    let d : distance t s.full c (in_kilowatts t b) r ≤ s.full = share_near (sides t) c (kilowatts t b.0) (kilowatts t b.1) (response s.full r) (kilowatts t p) s.full lower upper n in
    let j = cond_some (holds t c && available c r.flag) (scaled s.full (quantity t c) (distance t s.full c (in_kilowatts t b) r)) e k in
    error_small (available c r.flag) t s.full c (distance t s.full c (in_kilowatts t b) r) e j.0 d j.1
