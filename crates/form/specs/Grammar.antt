-- The grammar of forms. Assumes nothing.
--
-- A form is "(", a word of 1 to 8 small letters, items each after one space, and ")". An item is a number or a form. A number is
-- 0, or an optional minus and digits without a leading zero. How many digits a number may have, and how deep forms may stand in one
-- another, are given as `most` and `deepest`: ten and four on a sheet. The outer form has depth 1.
use Rattle.std.specs.Prelude.{◌≡◌, ℕ, suc, ◌<◌, ◌≤◌, Bool, true, ◌&&◌, List, [], ◌∷◌, ◌++◌, length, nat_le}
use Rattle.form.specs.Alphabet.{letter, digit, first_digit, every}

-- 1 to 8 small letters.
abbrev pub is_word : List ℕ → Bool
is_word w = nat_le 1 (length w) && (nat_le (length w) 8 && every letter w)

-- The text of a number of at most so many digits.
pub data Number (most : ℕ) : List ℕ → Type 0 where
  nought : Number most (48 ∷ [])
  plain : {c : ℕ} {cs : List ℕ} → first_digit c ≡ true → every digit cs ≡ true → suc (length cs) ≤ most → Number most (c ∷ cs)
  minus : {c : ℕ} {cs : List ℕ} → first_digit c ≡ true → every digit cs ≡ true → suc (length cs) ≤ most → Number most (45 ∷ (c ∷ cs))

-- What stands in a form after its word: nothing; a number, by its text, and more items; a form, by its word and items, and more
-- items.
pub data Items : Type 0 where
  nothing : Items
  number : List ℕ → Items → Items
  form : List ℕ → Items → Items → Items

-- The bytes of items, with what comes after them.
abbrev pub items_text : Items → List ℕ → List ℕ
items_text nothing after = after
items_text (number text more) after = 32 ∷ (text ++ items_text more after)
items_text (form word inner more) after = 32 ∷ (40 ∷ (word ++ items_text inner (41 ∷ items_text more after)))

-- Items that may stand in a form of this depth.
abbrev pub Fits : ℕ → ℕ → ℕ → Items → Type 0
Fits most deepest depth nothing = Unit {0}
Fits most deepest depth (number text more) = Number most text × Fits most deepest depth more
Fits most deepest depth (form word inner more) =
    (is_word word ≡ true) × (depth < deepest) × Fits most deepest (suc depth) inner × Fits most deepest depth more

-- These bytes are a form.
pub record IsForm (most deepest : ℕ) (bytes : List ℕ) : Type 0 where
  pub word : List ℕ
  pub items : Items
  pub worded : is_word word ≡ true
  pub fits : Fits most deepest 1 items
  pub spelled : bytes ≡ 40 ∷ (word ++ items_text items (41 ∷ []))
