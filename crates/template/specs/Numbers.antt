-- Numbers as text. Assumes nothing.
--
-- The text of a number is the one that the standard library writes: `decimal n` is its digits, without a leading zero, and `signed_decimal z`
-- has a minus before them where z is below 0.
use Rattle.std.specs.Prelude.{◌≡◌, ℕ, ◌+◌, ◌-◌, ◌*◌, ◌^◌, ◌<◌, Bool, true, false, List, [], ◌∷◌, ◌++◌, ℤ, Some, None, decimal, Option, nat_lt, unsigned_abs}
use Rattle.std.specs.Char.{is_ascii_digit}
use Rattle.std.specs.Fmt.{signed_decimal}
use Rattle.std.specs.Borrow.{Bor}

-- At most ten digits.
abbrev pub short : ℤ → Bool
short z = nat_lt (unsigned_abs z) (10 ^ 10)

-- The bytes go on with a digit.
abbrev pub digit_first : List ℕ → Bool
digit_first [] = false
digit_first (b ∷ bs) = is_ascii_digit b

-- The bytes begin with the whole text of a number of at most ten digits, and the rest comes after it.
pub record Leads (bytes : List ℕ) (z : ℤ) (rest : List ℕ) : Type 0 where
  pub spelled : bytes ≡ signed_decimal z ++ rest
  pub whole : digit_first rest ≡ false
  pub small : short z ≡ true

-- The number that bytes begin with and what comes after it; or none, and then they begin with no such number.
abbrev pub Led : List ℕ → Option (ℤ × Bor (List ℕ)) → Type 0
Led bytes None = (z : ℤ) (rest : List ℕ) → Leads bytes z rest → ⊥
Led bytes (Some led) = Leads bytes led.0 led.1.now

-- The steps by which the program finds it. The value of digits, after those that came to n.
abbrev pub read_on : ℕ → List ℕ → ℕ
read_on n [] = n
read_on n (d ∷ ds) = read_on (n * 10 + (d - 48)) ds

-- As Leads and Led, of a number without a sign.
pub record LeadsPlain (bytes : List ℕ) (n : ℕ) (rest : List ℕ) : Type 0 where
  pub spelled : bytes ≡ decimal n ++ rest
  pub whole : digit_first rest ≡ false
  pub small : n < 10 ^ 10

abbrev pub LedPlain : List ℕ → Option (ℕ × Bor (List ℕ)) → Type 0
LedPlain bytes None = (n : ℕ) (rest : List ℕ) → LeadsPlain bytes n rest → ⊥
LedPlain bytes (Some led) = LeadsPlain bytes led.0 led.1.now
