-- Digits at the front of bytes: how many there are, and what they come to.
use Rattle.std.proofs.Common.{◌≡◌, ℕ, suc, ◌+◌, ◌-◌, ◌*◌, ◌^◌, ◌<◌, ◌≤◌, true, false, cond, ◌&&◌, List, [], ◌∷◌, ◌++◌, length, get_or, take, drop, ℤ, pos, negsuc, decimal, sym, refl, ap, ◌∙◌, subst, inl, inr, add-one, arith, rules}
use native.Mathlib.Numerals.{one-add}
use native.Mathlib.Nat.{pow-le-pow_right}
use Rattle.std.proofs.lemmas.List.{at_drop_more, at_drop_all, drop_at, take_at, take-append-drop}
use Rattle.std.proofs.lemmas.Bool.{and_from, and_parts, cases_Bool, cases_lt, cases_order, leb-true, ltb-true}
use Rattle.std.proofs.lemmas.Fmt.{decimal_digit, decimal_nonempty, decimal-digits_value, digits_decimal, first_decimal, length-decimal-le, decimal_injective}
use Rattle.std.proofs.lemmas.Str.Parse.{IsNumeralModel, numerals_by_fold, digits_value_short}
use Rattle.std.specs.Char.{is_ascii_digit}
use Rattle.std.specs.List.{prefix_len}
use Rattle.std.specs.Str.{all_ascii_digits}
use Rattle.template.specs.Numbers.{read_on, digit_first, Leads, LeadsPlain}

pub own : IsNumeralModel (λ ds. all_ascii_digits ds ≡ true) (read_on 0)
own = numerals_by_fold _ (search rules) read_on (search rules)

-- How many digits bytes begin with.
abbrev pub leading : List ℕ → ℕ
leading bytes = prefix_len is_ascii_digit bytes

leading_front : (b : ℕ) (bs : List ℕ) → is_ascii_digit b ≡ true → leading (b ∷ bs) ≡ suc (leading bs)
leading_front b bs is = ap (λ t. cond t (1 + leading bs) 0) is ∙ one-add (leading bs)

leading_other : (b : ℕ) (bs : List ℕ) → is_ascii_digit b ≡ false → leading (b ∷ bs) ≡ 0
leading_other b bs is = ap (λ t. cond t (1 + leading bs) 0) is

grows_to : (i : ℕ) → i ≤ 9 → 10 ^ i ≤ 10 ^ 9
grows_to i few = pow-le-pow_right (omega arith) few

-- One digit more of a number.
pub record Turn (ds : List ℕ) (i n : ℕ) : Type 0 where
  pub low : 48 ≤ get_or ds i 0
  pub high : get_or ds i 0 ≤ 57
  pub value : read_on (n * 10 + (get_or ds i 0 - 48)) (drop (i + 1) ds) ≡ read_on 0 ds
  pub digits : all_ascii_digits (drop (i + 1) ds) ≡ true
  pub small : n < 10 ^ 9
  pub bound : n * 10 + (get_or ds i 0 - 48) < 10 ^ (i + 1)

pub turn : (ds : List ℕ) (i n : ℕ) → i < length ds → length ds ≤ 10 → read_on n (drop i ds) ≡ read_on 0 ds → all_ascii_digits (drop i ds) ≡ true → n < 10 ^ i
    → Turn ds i n
turn ds i n inside few so_far digits bound =
    let e : all_ascii_digits (drop i ds) ≡ (is_ascii_digit (get_or ds i 0) && all_ascii_digits (drop (i + 1) ds)) = at_drop_more all_ascii_digits ds i 0 inside in
    let both = and_parts (is_ascii_digit (get_or ds i 0)) (all_ascii_digits (drop (i + 1) ds)) (sym e ∙ digits) in
    let edges = and_parts _ _ both.0 in
    let low : 48 ≤ get_or ds i 0 = leb-true _ _ edges.0 in
    let high : get_or ds i 0 ≤ 57 = leb-true _ _ edges.1 in
    let grows : 10 ^ i ≤ 10 ^ 9 = grows_to i (omega arith) in
    record { low = low; high = high; value = sym (at_drop_more (read_on n) ds i 0 inside) ∙ so_far; digits = both.1; small = omega arith; bound = rw add-one (omega arith) }

pub value_all : (ds : List ℕ) (i n : ℕ) → length ds ≤ i → read_on n (drop i ds) ≡ read_on 0 ds → n ≡ read_on 0 ds
value_all ds i n past so_far = sym (at_drop_all (read_on n) ds i past) ∙ so_far

-- The digits that bytes begin with, and what comes after them.
front_digits : (bs : List ℕ) → all_ascii_digits (take (leading bs) bs) ≡ true
front_digits [] = refl
front_digits (b ∷ bs) =
    elim (cases_Bool (is_ascii_digit b)) [
      | inl is ↦ rw (leading_front b bs is) (and_from (is_ascii_digit b) (all_ascii_digits (take (leading bs) bs)) is (front_digits bs))
      | inr not ↦ rw (leading_other b bs not) refl
    ]

after_digits : (bs : List ℕ) → digit_first (drop (leading bs) bs) ≡ false
after_digits [] = refl
after_digits (b ∷ bs) =
    elim (cases_Bool (is_ascii_digit b)) [
      | inl is ↦ rw (leading_front b bs is) (after_digits bs)
      | inr not ↦ rw (leading_other b bs not) not
    ]

leading_joined : (ds rest : List ℕ) → all_ascii_digits ds ≡ true → digit_first rest ≡ false → leading (ds ++ rest) ≡ length ds
leading_joined [] [] digits whole = refl
leading_joined [] (b ∷ bs) digits whole = leading_other b bs whole
leading_joined (d ∷ ds) rest digits whole =
    let both = and_parts (is_ascii_digit d) (all_ascii_digits ds) digits in
    leading_front d (ds ++ rest) both.0 ∙ ap suc (leading_joined ds rest both.1 whole)

-- Bytes begin with one number at most.
front_of : (bytes : List ℕ) (n : ℕ) (rest : List ℕ) → LeadsPlain bytes n rest → (decimal n ≡ take (leading bytes) bytes) × (rest ≡ drop (leading bytes) bytes)
front_of bytes n rest led =
    let fits : n < 2 ^ 64 = omega (arith, led.small) in
    let count : length (decimal n) ≡ leading bytes = sym (ap leading led.spelled ∙ leading_joined (decimal n) rest (digits_decimal own n fits) led.whole) in
    let spelled = led.spelled in
    (sym (ap (take (leading bytes)) spelled ∙ take_at (decimal n) rest (leading bytes) count), sym (ap (drop (leading bytes)) spelled ∙ drop_at (decimal n) rest (leading bytes) count))

pub same_plain : (bytes : List ℕ) (n : ℕ) (rest : List ℕ) → LeadsPlain bytes n rest → (n' : ℕ) (rest' : List ℕ) → LeadsPlain bytes n' rest' → (n ≡ n') × (rest ≡ rest')
same_plain bytes n rest led n' rest' led' =
    let f = front_of bytes n rest led in
    let f' = front_of bytes n' rest' led' in
    (decimal_injective n n' (omega (arith, led.small)) (omega (arith, led'.small)) (f.0 ∙ sym f'.0), f.1 ∙ sym f'.1)

-- Digits that are the text of a number.
pub record Numeral (ds : List ℕ) : Type 0 where
  pub some : 0 < length ds
  pub few : length ds ≤ 10
  pub no_nought : 1 < length ds → get_or ds 0 0 ≡ 48 → ⊥

numeral : (n : ℕ) → n < 10 ^ 10 → Numeral (decimal n)
numeral n small =
    let fits : n < 2 ^ 64 = omega arith in
    record {
      some = decimal_nonempty n fits;
      few = length-decimal-le 10 n (omega arith) small fits;
      no_nought = λ more is.
          elim (cases_order n 0) [
            | inl none ↦ omega (arith, ap (λ k. length (decimal k)) none, ap length (decimal_digit 0 (omega arith)))
            | inr other ↦ elim other [ inl less ↦ omega arith | inr above ↦ omega (arith, first_decimal n above fits) ]
          ];
    }

alone : (ds : List ℕ) → Numeral ds → get_or ds 0 0 ≡ 48 → length ds ≡ 1
alone ds is first = elim (cases_lt 1 (length ds)) [ inl more ↦ absurd (is.no_nought more first) | inr less ↦ omega (arith, is.some) ]

-- The digits that bytes begin with, and what comes after them: the number is theirs.
module _ (bytes ds : List ℕ) (front : ds ≡ take (leading bytes) bytes) where
  pub front_digits_are : all_ascii_digits ds ≡ true
  front_digits_are = rw front (front_digits bytes)

  pub front_read : (rest : List ℕ) (n : ℕ) → rest ≡ drop (leading bytes) bytes → Numeral ds → n ≡ read_on 0 ds → LeadsPlain bytes n rest
  front_read rest n behind is comes =
      let small : n < 10 ^ 10 = rw comes (digits_value_short own ds 10 front_digits_are is.few) in
      let e : decimal (read_on 0 ds) ≡ ds = decimal-digits_value own ds front_digits_are is.some (alone ds is) (omega (arith, is.few)) in
      let spelled : decimal n ≡ take (leading bytes) bytes = ap decimal comes ∙ (e ∙ front) in
      record { spelled = sym (take-append-drop (leading bytes) bytes) ∙ (ap (λ s. s ++ drop (leading bytes) bytes) (sym spelled) ∙ ap (λ s. decimal n ++ s) (sym behind)); whole = rw behind (after_digits bytes); small = small }

  pub front_none : (Numeral ds → ⊥) → (n : ℕ) (rest : List ℕ) → LeadsPlain bytes n rest → ⊥
  front_none none n rest led = none (subst Numeral ((front_of bytes n rest led).0 ∙ sym front) (numeral n led.small))

-- Digits begin with a digit, and so not with a minus.
first_of : (ds rest : List ℕ) (b : ℕ) (bs : List ℕ) → all_ascii_digits ds ≡ true → 0 < length ds → (b ∷ bs) ≡ ds ++ rest → 48 ≤ b
first_of [] rest b bs digits some e = absurd (omega arith)
first_of (d ∷ ds) rest b bs digits some e =
    let both = and_parts (is_ascii_digit d) (all_ascii_digits ds) digits in
    let low : 48 ≤ d = leb-true _ _ (and_parts _ _ both.0).0 in
    let same : b ≡ d = cc in
    omega arith

tail_of : (bytes : List ℕ) (n : ℕ) (rest : List ℕ) → Leads (45 ∷ bytes) (negsuc n) rest → LeadsPlain bytes (suc n) rest
tail_of bytes n rest led = record { spelled = ap (drop 1) led.spelled; whole = led.whole; small = ltb-true (suc n) (10 ^ 10) led.small }

-- Bytes that begin with a minus.
plain_no_minus : (n : ℕ) (bytes rest : List ℕ) → Leads (45 ∷ bytes) (pos n) rest → ⊥
plain_no_minus n bytes rest led =
    let small : n < 10 ^ 10 = ltb-true n (10 ^ 10) led.small in
    let fits : n < 2 ^ 64 = omega arith in
    omega (arith, first_of (decimal n) rest 45 bytes (digits_decimal own n fits) (decimal_nonempty n fits) led.spelled)

pub none_minus : (bytes : List ℕ) → ((n : ℕ) (rest : List ℕ) → LeadsPlain bytes n rest → n ≡ 0)
    → (z : ℤ) (rest : List ℕ) → Leads (45 ∷ bytes) z rest → ⊥
none_minus bytes none (pos n) rest led = plain_no_minus n bytes rest led
none_minus bytes none (negsuc n) rest led = omega (arith, none (suc n) rest (tail_of bytes n rest led))

-- Bytes begin with one number at most, with its sign.
plain_of : (bytes : List ℕ) (n : ℕ) (rest : List ℕ) → Leads bytes (pos n) rest → LeadsPlain bytes n rest
plain_of bytes n rest led = record { spelled = led.spelled; whole = led.whole; small = ltb-true n (10 ^ 10) led.small }

after_minus : (bytes : List ℕ) (n : ℕ) (rest : List ℕ) → Leads bytes (negsuc n) rest → LeadsPlain (drop 1 bytes) (suc n) rest
after_minus bytes n rest led = record { spelled = ap (drop 1) led.spelled; whole = led.whole; small = ltb-true (suc n) (10 ^ 10) led.small }

mixed : (bytes : List ℕ) (n : ℕ) (rest : List ℕ) → Leads bytes (pos n) rest → (n' : ℕ) (rest' : List ℕ) → Leads bytes (negsuc n') rest' → ⊥
mixed bytes n rest led n' rest' led' =
    plain_no_minus n (decimal (suc n') ++ rest') rest (record { spelled = sym led'.spelled ∙ led.spelled; whole = led.whole; small = led.small })

pub same_led : (bytes : List ℕ) (z : ℤ) (rest : List ℕ) → Leads bytes z rest → (z' : ℤ) (rest' : List ℕ) → Leads bytes z' rest' → (z ≡ z') × (rest ≡ rest')
same_led bytes (pos n) rest led (pos n') rest' led' =
    let same = same_plain bytes n rest (plain_of bytes n rest led) n' rest' (plain_of bytes n' rest' led') in (ap pos same.0, same.1)
same_led bytes (negsuc n) rest led (negsuc n') rest' led' =
    let same = same_plain (drop 1 bytes) (suc n) rest (after_minus bytes n rest led) (suc n') rest' (after_minus bytes n' rest' led') in
    let e : n ≡ n' = omega (arith, same.0) in
    (ap negsuc e, same.1)
same_led bytes (pos n) rest led (negsuc n') rest' led' = absurd (mixed bytes n rest led n' rest' led')
same_led bytes (negsuc n) rest led (pos n') rest' led' = absurd (mixed bytes n' rest' led' n rest led)
