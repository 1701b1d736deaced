-- What is known of terms that the check refuses nothing of. Assumes nothing.
use Rattle.std.proofs.Common.{◌≡◌, ℕ, ◌+◌, ◌<◌, ◌≤◌, true, not, ℤ, pos, nat_abs, ◌≤ℤ◌, is_some, None, ap, ◌∙◌, arith, w64, to_z, of_z}
use Rattle.std.proofs.lemmas.Grind.{common_steps}
use Rattle.std.proofs.lemmas.Int.{ints}
use Rattle.rules.specs.TermsCheck.{refused_terms, handed, sound, some_held, quantities_fit, prices_fit, a_fits, b_fits, length_fits, needed_fits}
use Rattle.rules.specs.declared.terms_input.TermsInput.{TermsInput}
use Rattle.rules.specs.declared.terms_input.TermsFault.TheVariants.{NothingHeld, Quantity, Price, ToleranceA, ToleranceB, PeriodLength, LeastReadings}
use Rattle.rules.specs.declared.terms.Held.{Held}
use Rattle.rules.specs.declared.terms.Terms.{Terms}
use Rattle.rules.proofs.Checks.{unless_none}

-- what each of the seven checks has found
pub record Passed (i : TermsInput) : Type 0 where
  pub some : some_held i ≡ true
  pub quantities : quantities_fit i ≡ true
  pub prices : prices_fit i ≡ true
  pub a : a_fits i ≡ true
  pub b : b_fits i ≡ true
  pub length : length_fits i ≡ true
  pub needed : needed_fits i ≡ true

pub passed : (i : TermsInput) → refused_terms i ≡ None → Passed i
passed i e =
    let p1 = unless_none (some_held i) NothingHeld _ e in
    let p2 = unless_none (quantities_fit i) Quantity _ p1.1 in
    let p3 = unless_none (prices_fit i) Price _ p2.1 in
    let p4 = unless_none (a_fits i) ToleranceA _ p3.1 in
    let p5 = unless_none (b_fits i) ToleranceB _ p4.1 in
    let p6 = unless_none (length_fits i) PeriodLength _ p5.1 in
    let p7 = unless_none (needed_fits i) LeastReadings _ p6.1 in
    record { some = p1.0; quantities = p2.0; prices = p3.0; a = p4.0; b = p5.0; length = p6.0; needed = p7.0 }

-- a signed number from its bits
abbrev back : ℤ → ℤ
back z = to_z w64 (of_z w64 z)

-- a number that is not too large is told by its bits
told : (n : ℕ) (z : ℤ) → (pos 0 ≤ℤ z) × (z ≤ℤ pos 1000000) → n ≡ nat_abs (back z) → pos n ≡ z
told n z h e = omega (arith, ints, h.0, h.1)

-- the numbers of terms that pass are no larger
record Small (i : TermsInput) : Type 0 where
  ticks : (pos 0 ≤ℤ i.ticks) × (i.ticks ≤ℤ pos 1000000)
  needed : (pos 0 ≤ℤ i.needed) × (i.needed ≤ℤ pos 1000000)
  a : (pos 0 ≤ℤ i.a) × (i.a ≤ℤ pos 1000000)
  b : (pos 0 ≤ℤ i.b) × (i.b ≤ℤ pos 1000000)
  low : pos 0 ≤ℤ i.low.quantity
  high : pos 0 ≤ℤ i.high.quantity

small : (i : TermsInput) → Passed i → Small i
small i p = record {
  ticks = (grind (arith, ints, p.length), grind (arith, ints, p.length));
  needed = (grind (arith, ints, p.needed), grind (arith, ints, p.length, p.needed));
  a = (grind (arith, ints, p.a), grind (arith, ints, p.a, p.b));
  b = (grind (arith, ints, p.a, p.b), grind (arith, ints, p.b));
  low = grind (arith, ints, p.quantities);
  high = grind (arith, ints, p.quantities);
}

-- what the check keeps is what was handed in, and sound
module _ (i : TermsInput) (ticks needed a b : ℕ) (low high : Held) (none : refused_terms i ≡ None) (t : ticks ≡ nat_abs (back i.ticks)) (n : needed ≡ nat_abs (back i.needed)) (a' : a ≡ nat_abs (back i.a)) (b' : b ≡ nat_abs (back i.b)) (lq : low.quantity ≡ nat_abs i.low.quantity) (lp : low.price ≡ i.low.price) (hq : high.quantity ≡ nat_abs i.high.quantity) (hp : high.price ≡ i.high.price) where
  pub kept : handed ticks needed a b low high ≡ i
  kept =
      let s = small i (passed i none) in
      let l : pos low.quantity ≡ i.low.quantity = omega (arith, ints, s.low) in
      let h : pos high.quantity ≡ i.high.quantity = omega (arith, ints, s.high) in
      rw (told _ _ s.ticks t, told _ _ s.needed n, told _ _ s.a a', told _ _ s.b b', l, lp, h, hp)

  pub kept_sound : sound ticks needed a b low high ≡ true
  unfolding sound
  kept_sound = ap (λ o. not (is_some o)) (ap refused_terms kept ∙ none)

-- what is known of checked terms
pub record Facts (t : Terms) : Type 0 where
  pub some : 1 ≤ t.low.quantity + t.high.quantity
  pub low_quantity : t.low.quantity ≤ 100
  pub high_quantity : t.high.quantity ≤ 100
  pub low_price : pos 0 ≤ℤ t.low.price
  pub low_price_most : t.low.price ≤ℤ pos 99999
  pub high_price : pos 0 ≤ℤ t.high.price
  pub high_price_most : t.high.price ≤ℤ pos 99999
  pub least_a : 1000 ≤ t.a
  pub rising : t.a < t.b
  pub most_b : t.b ≤ 1000000
  pub least_ticks : 16 ≤ t.ticks
  pub most_ticks : t.ticks ≤ 36000
  pub some_needed : 1 ≤ t.needed
  pub most_needed : t.needed ≤ t.ticks

pub facts : (t : Terms) → Facts t
unfolding sound
facts t = let e = t.checked in record {
  some = grind (arith, common_steps);
  low_quantity = grind (arith, common_steps);
  high_quantity = grind (arith, common_steps);
  low_price = grind (arith, common_steps);
  low_price_most = grind (arith, common_steps);
  high_price = grind (arith, common_steps);
  high_price_most = grind (arith, common_steps);
  least_a = grind (arith, common_steps);
  rising = grind (arith, common_steps);
  most_b = grind (arith, common_steps);
  least_ticks = grind (arith, common_steps);
  most_ticks = grind (arith, common_steps);
  some_needed = grind (arith, common_steps);
  most_needed = grind (arith, common_steps);
}
