-- The bytes that a form is made of. Assumes nothing.
use Rattle.std.specs.Prelude.{ℕ, Bool, true, ◌&&◌, ◌||◌, List, [], ◌∷◌, ◌==◌, nat_le}

-- a to z.
abbrev pub letter : ℕ → Bool
letter b = nat_le 97 b && nat_le b 122

-- 0 to 9.
abbrev pub digit : ℕ → Bool
digit b = nat_le 48 b && nat_le b 57

-- 1 to 9.
abbrev pub first_digit : ℕ → Bool
first_digit b = nat_le 49 b && nat_le b 57

-- Small letters, digits, brackets, space and minus.
abbrev pub in_alphabet : ℕ → Bool
in_alphabet b = letter b || (digit b || (b == 40 || (b == 41 || (b == 32 || b == 45))))

-- Every byte of a list passes a test.
abbrev pub every : (ℕ → Bool) → List ℕ → Bool
every test [] = true
every test (b ∷ bs) = test b && every test bs
