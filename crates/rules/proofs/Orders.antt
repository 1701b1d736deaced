-- The rising and the falling order of numbers, as tests on the numbers. Assumes nothing.
use Rattle.std.proofs.Common.{◌≡◌, ℕ, Bool, true, false, cond, List, ℤ, int_lt, nat_lt, refl, ap, ◌==◌}
use Rattle.std.specs.declared.cmp.Ordering.{Ordering}
use Rattle.std.specs.declared.cmp.Ordering.TheVariants.{Less, Equal, Greater}
use Rattle.std.specs.Ordering.{is_lt, int_cmp, nat_cmp}
use Rattle.rules.specs.Least.{least}

-- a comparison that answers `Less` exactly where the first test holds does what the test does
tested : (first second : Bool) (x y : Ordering) → is_lt x ≡ false → is_lt y ≡ false → is_lt (cond first Less (cond second x y)) ≡ first
tested true second x y at_x at_y = refl
tested false true x y at_x at_y = at_x
tested false false x y at_x at_y = at_y

signed : (x y : ℤ) → is_lt (int_cmp x y) ≡ int_lt x y
signed x y = tested (int_lt x y) (int_lt y x) Greater Equal refl refl

unsigned : (x y : ℕ) → is_lt (nat_cmp x y) ≡ nat_lt x y
unsigned x y = tested (nat_lt x y) (x == y) Equal Greater refl refl

pub least_signed : (run : List ℤ) → least (λ x y. is_lt (int_cmp x y)) run ≡ least int_lt run
least_signed run = ap (λ before. least before run) (λ i x y. signed x y i)

pub greatest_signed : (run : List ℤ) → least (λ x y. is_lt (int_cmp y x)) run ≡ least (λ x y. int_lt y x) run
greatest_signed run = ap (λ before. least before run) (λ i x y. signed y x i)

pub least_unsigned : (run : List ℕ) → least (λ x y. is_lt (nat_cmp x y)) run ≡ least nat_lt run
least_unsigned run = ap (λ before. least before run) (λ i x y. unsigned x y i)
