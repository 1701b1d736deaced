-- Templates: text with a hole, #, for each number. Assumes nothing.
use Rattle.std.specs.Prelude.{◌≡◌, ℕ, suc, ◌<◌, ◌≤◌, Bool, true, false, cond, not, ◌&&◌, ◌||◌, List, [], ◌∷◌, ◌++◌, length, take, drop, ℤ, pos, Some, None, Ok, Err, Option, Result, ◌==◌, ◌≢◌, nat_le, slice_index_or}
use Rattle.std.specs.Char.{is_ascii_digit}
use Rattle.std.specs.Fmt.{signed_decimal}
use Rattle.std.specs.List.{list_all}
use Rattle.template.specs.Numbers.{short}
use Rattle.template.specs.declared.fault.WriteFault.{WriteFault}
use Rattle.template.specs.declared.fault.WriteFault.TheVariants.{TooLong, NoRoom}

-- # is the hole.
abbrev pub is_hole : ℕ → Bool
is_hole b = b == 35

-- What a byte of a template becomes: the next number's text at a hole, 0 where the numbers have run out; else itself.
abbrev pub piece : ℕ → List ℤ → List ℕ
piece b numbers = cond (is_hole b) (signed_decimal (slice_index_or numbers 0 (pos 0))) (b ∷ [])

-- The numbers that are left for the bytes after it.
abbrev pub left : ℕ → List ℤ → List ℤ
left b numbers = cond (is_hole b) (drop 1 numbers) numbers

-- The text of a template with the numbers in its holes, in their order.
abbrev pub fill : List ℕ → List ℤ → List ℕ
fill [] numbers = []
fill (b ∷ bs) numbers = piece b numbers ++ fill bs (left b numbers)

-- How many holes there are.
abbrev pub holes : List ℕ → ℕ
holes [] = 0
holes (b ∷ bs) = cond (is_hole b) (suc (holes bs)) (holes bs)

-- The template ends, or goes on with neither a digit nor a hole.
abbrev pub ends_number : List ℕ → Bool
ends_number [] = true
ends_number (b ∷ bs) = not (is_hole b || is_ascii_digit b)

-- Behind each hole comes neither a digit nor a hole, so that it can be told where its number ends.
abbrev pub apart : List ℕ → Bool
apart [] = true
apart (b ∷ bs) = cond (is_hole b) (ends_number bs && apart bs) (apart bs)

-- Numbers of at most ten digits each.
abbrev pub all_short : List ℤ → Bool
all_short numbers = list_all short numbers

-- Bytes are the template's text for these numbers, which are short.
pub record Fills (template bytes : List ℕ) (numbers : List ℤ) : Type 0 where
  pub spelled : bytes ≡ fill template numbers
  pub short : all_short (take (holes template) numbers) ≡ true

-- They are its text for no short numbers.
abbrev pub Unfilled : List ℕ → List ℕ → Type 0
Unfilled template bytes = (others : List ℤ) → all_short others ≡ true → bytes ≢ fill template others

-- The answer to whether bytes are the template's text for some short numbers: yes, for these; or no, where it can be told where each
-- number ends and there is room for all of them.
abbrev pub Tells : List ℕ → List ℕ → ℕ → List ℤ → Bool → Type 0
Tells template bytes room numbers true = Fills template bytes numbers
Tells template bytes room numbers false = apart template ≡ true → holes template ≤ room → Unfilled template bytes

-- The most bytes that a text has.
abbrev pub longest : ℕ
longest = 200

-- More bytes are put behind a text; or there would then be more than 200.
abbrev pub PutBehind : List ℕ → List ℕ → List ℕ → Result (Unit {0}) WriteFault → Type 0
PutBehind more before after (Ok done) = after ≡ before ++ more
PutBehind more before after (Err fault) = (longest < length (before ++ more)) × (fault ≡ TooLong)

-- Each number has at most ten digits, and the text at most 200 bytes.
abbrev pub fits_a_line : List ℤ → List ℕ → Bool
fits_a_line numbers text = all_short numbers && nat_le (length text) longest

-- Why a text is not written into so much room: it fits no line; then, there is less room than it takes.
abbrev pub refused_text : List ℤ → List ℕ → ℕ → Option WriteFault
refused_text numbers text room = cond (fits_a_line numbers text) (cond (nat_le (length text) room) None (Some NoRoom)) (Some TooLong)

-- The number of each fault.
abbrev pub write_fault_number : WriteFault → ℕ
write_fault_number TooLong = 27
write_fault_number NoRoom = 28

-- A buffer with a text at its front, and what it held behind that.
abbrev pub onto : List ℕ → List ℕ → List ℕ
onto text buffer = text ++ drop (length text) buffer

-- Written: nothing stood against it, the count is that of the text's bytes, and the text stands at the buffer's front, with what was
-- there behind it. Refused: for the defined reason, and the buffer is as it was.
abbrev pub WrittenText : List ℤ → List ℕ → List ℕ → List ℕ → Result ℕ WriteFault → Type 0
WrittenText numbers text before after (Ok n) =
    (refused_text numbers text (length before) ≡ None) × (n ≡ length text) × (after ≡ onto text before)
WrittenText numbers text before after (Err fault) = (refused_text numbers text (length before) ≡ Some fault) × (after ≡ before)
