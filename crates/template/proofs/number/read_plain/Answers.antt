use Rattle.std.proofs.Common.{◌≡◌, ℕ, List, length, take, drop, ap, ◌∙◌, arith, rules}
use Rattle.std.proofs.lemmas.List.Folds.{length-prefix_len}
use Rattle.std.specs.Char.{is_ascii_digit}
use Rattle.template.proofs.DigitsRead.{front_digits_are, front_none, front_read, leading, Numeral}
use Rattle.template.proofs.number.read_plain.Goals as goal
use Rattle.template.proofs.number.read_plain.Goals.{in_default-via-then-digits-lt2, in_default-via-else-digits-lt2+in_default-1, then-digits-lt1, else-digits-lt1+else-digits-lt2+in-48-1}

-- What stands in front of and behind so many bytes as there are digits.
count_is : (bytes : List ℕ) (n : ℕ) → n ≡ length (take (leading bytes) bytes) → n ≡ leading bytes
count_is bytes n is = is ∙ length-prefix_len is_ascii_digit bytes

front : (bytes ds : List ℕ) (n : ℕ) → ds ≡ take n bytes → n ≡ length (take (leading bytes) bytes) → ds ≡ take (leading bytes) bytes
front bytes ds n is count = is ∙ ap (λ k. take k bytes) (count_is bytes n count)

back : (bytes rest : List ℕ) (n : ℕ) → rest ≡ drop n bytes → n ≡ length (take (leading bytes) bytes) → rest ≡ drop (leading bytes) bytes
back bytes rest n is count = is ∙ ap (λ k. drop k bytes) (count_is bytes n count)

pub value-requires-clause-digits : goal.value-requires-clause-digits
value-requires-clause-digits c = front_digits_are c.args.bytes.now c.split_at.result.0.now (front _ _ _ c.split_at.ensures.front c.leading_digits.ensures.value)

pub returns-in_default : goal.returns-in_default
returns-in_default c = front_none c.args.bytes.now c.split_at.result.0.now (front _ _ _ c.split_at.ensures.front c.leading_digits.ensures.value) (λ is. omega (arith, is.few))

pub returns-in_default-2 : goal.returns-in_default-2
returns-in_default-2 c =
    let is : Numeral c.split_at.result.0.now = record { some = search rules; few = c.if-digits-gt10.false; no_nought = λ more nought. grind arith } in
    front_read c.args.bytes.now c.split_at.result.0.now (front _ _ _ c.split_at.ensures.front c.leading_digits.ensures.value) c.split_at.result.1.now c.value.result
    (back _ _ _ c.split_at.ensures.back c.leading_digits.ensures.value) is c.value.ensures

pub returns-in-empty : goal.returns-in-empty
returns-in-empty c =
    front_none c.args.bytes.now c.split_at.result.0.now (front _ _ _ c.split_at.ensures.front c.leading_digits.ensures.value)
    (λ is. grind (arith, is.some, is.no_nought))
