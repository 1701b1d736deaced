-- The check of terms that are handed in. Assumes nothing.
use Rattle.std.specs.Prelude.{ℕ, Bool, not, ◌&&◌, pos, is_some, None, Option, int_le, int_lt}
use Rattle.basics.specs.Check.{unless, within}
use Rattle.rules.specs.Check.{same}
use Rattle.rules.specs.declared.terms.Held.{Held}
use Rattle.rules.specs.declared.terms_input.Offer.{Offer}
use Rattle.rules.specs.declared.terms_input.TermsInput.{TermsInput}
use Rattle.rules.specs.declared.terms_input.TermsFault.{TermsFault}
use Rattle.rules.specs.declared.terms_input.TermsFault.TheVariants.{NothingHeld, Quantity, Price, ToleranceA, ToleranceB, PeriodLength, LeastReadings}

-- What terms have to meet: a quantity other than 0; quantities from 0 to 100 MW; prices from 0 to 99,999 pence per MW and
-- hour; A at least 1,000; B above A and at most 1,000,000; 16 to 36,000 ticks in a period; 1 to so many readings needed.
abbrev pub some_held : TermsInput → Bool
some_held i = not (same i.low.quantity (pos 0) && same i.high.quantity (pos 0))

abbrev pub quantities_fit : TermsInput → Bool
quantities_fit i = within (pos 0) (pos 100) i.low.quantity && within (pos 0) (pos 100) i.high.quantity

abbrev pub prices_fit : TermsInput → Bool
prices_fit i = within (pos 0) (pos 99999) i.low.price && within (pos 0) (pos 99999) i.high.price

abbrev pub a_fits : TermsInput → Bool
a_fits i = int_le (pos 1000) i.a

abbrev pub b_fits : TermsInput → Bool
b_fits i = int_lt i.a i.b && int_le i.b (pos 1000000)

abbrev pub length_fits : TermsInput → Bool
length_fits i = within (pos 16) (pos 36000) i.ticks

abbrev pub needed_fits : TermsInput → Bool
needed_fits i = within (pos 1) i.ticks i.needed

-- The first check that the terms fail, in the order of the refusals' numbers.
abbrev pub refused_terms : TermsInput → Option TermsFault
refused_terms i =
    unless (some_held i) NothingHeld
    (unless (quantities_fit i) Quantity
    (unless (prices_fit i) Price
    (unless (a_fits i) ToleranceA
    (unless (b_fits i) ToleranceB
    (unless (length_fits i) PeriodLength
    (unless (needed_fits i) LeastReadings
    None))))))

-- The number of each refusal.
abbrev pub terms_number : TermsFault → ℕ
terms_number NothingHeld = 1
terms_number Quantity = 2
terms_number Price = 3
terms_number ToleranceA = 4
terms_number ToleranceB = 5
terms_number PeriodLength = 6
terms_number LeastReadings = 7

-- An offer as it is handed in, from what is held of it.
abbrev pub offered : Held → Offer
offered h = record { quantity = pos h.quantity; price = h.price }

-- Terms as they are handed in, from the ticks of a period, the readings that it needs, A and B, and what is held of low and
-- of high.
abbrev pub handed : ℕ → ℕ → ℕ → ℕ → Held → Held → TermsInput
handed ticks needed a b low high = record {
  ticks = pos ticks;
  needed = pos needed;
  a = pos a;
  b = pos b;
  low = offered low;
  high = offered high;
}

-- The check refuses none of them.
unfoldable pub sound : ℕ → ℕ → ℕ → ℕ → Held → Held → Bool
sound ticks needed a b low high = not (is_some (refused_terms (handed ticks needed a b low high)))
