-- Every form is passed: its bytes lead from the start to the end.
use Rattle.std.proofs.Common.{◌≡◌, ℕ, zero, suc, ◌≤◌, Bool, true, false, ◌&&◌, cond, leb, List, [], ◌∷◌, ◌++◌, length, Some, refl, ap, ◌∙◌, arith}
use Rattle.std.proofs.lemmas.Bool.{and_parts, leb-true, lt-ltb, ne_eqb}
use Rattle.form.specs.Alphabet.{letter, digit, every}
use Rattle.form.specs.Grammar.{is_word, Number, nought, plain, minus, Items, nothing, number, form, items_text, Fits, IsForm}
use Rattle.form.specs.Scanning.{closed, after_item, one_more, step, run}
use Rattle.form.specs.declared.state.State.{State}
use Rattle.form.specs.declared.state.State.TheVariants.{Start, Opened, Word, Gap, After, Done}
use Rattle.form.specs.declared.state.State.TheVariants.{Number as Digits}

module _ (l m : ℕ) where
  -- What words and numbers have alike, each with its test of a byte.
  module _ (make : ℕ → ℕ → State) (test : ℕ → Bool)
      (steps : (left d b : ℕ) → step l m (make left d) b ≡ cond (test b) (one_more make left d) (after_item d b))
      (no_space : test 32 ≡ false) (no_bracket : test 41 ≡ false) where
    -- The end of a word or a number, before items and a closing bracket.
    ends : (left d : ℕ) (is : Items) (rest : List ℕ)
        → run l m (make left d) (items_text is (41 ∷ rest)) ≡ run l m (After d) (items_text is (41 ∷ rest))
    ends left d nothing rest = rw (steps, no_bracket) refl
    ends left d (number text more) rest = rw (steps, no_space) refl
    ends left d (form word inner more) rest = rw (steps, no_space) refl

    read : (left d : ℕ) (cs : List ℕ) (is : Items) (rest : List ℕ) → every test cs ≡ true → length cs ≤ left
        → run l m (make left d) (cs ++ items_text is (41 ∷ rest)) ≡ run l m (After d) (items_text is (41 ∷ rest))
    read left d [] is rest all few = ends left d is rest
    read zero d (c ∷ cs) is rest all few = absurd (omega arith)
    read (suc left) d (c ∷ cs) is rest all few =
        let a = and_parts (test c) (every test cs) all in
        rw (steps, a.0) (read left d cs is rest a.1 (omega arith))

  word_read : (d : ℕ) (w : List ℕ) (is : Items) (rest : List ℕ) → is_word w ≡ true
      → run l m (Opened d) (w ++ items_text is (41 ∷ rest)) ≡ run l m (After d) (items_text is (41 ∷ rest))
  word_read d [] is rest worded = cc
  word_read d (c ∷ cs) is rest worded =
      let some = and_parts (leb 1 (length (c ∷ cs))) (leb (length (c ∷ cs)) 8 && every letter (c ∷ cs)) worded in
      let a = and_parts (leb (length (c ∷ cs)) 8) (every letter (c ∷ cs)) some.1 in
      let b = and_parts (letter c) (every letter cs) a.1 in
      let few = leb-true (length (c ∷ cs)) 8 a.0 in
      rw b.0 (read Word letter (λ _ _ _. refl) refl refl 7 d cs is rest b.1 (omega arith))

  number_read : (d : ℕ) {text : List ℕ} → Number (suc l) text → (is : Items) (rest : List ℕ)
      → run l m (Gap d) (text ++ items_text is (41 ∷ rest)) ≡ run l m (After d) (items_text is (41 ∷ rest))
  number_read d nought is rest = refl
  number_read d (plain {c} {cs} first all few) is rest =
      let low = leb-true 49 c (and_parts (leb 49 c) (leb c 57) first).0 in
      rw (ne_eqb c 48 (λ e. omega arith), first) (read Digits digit (λ _ _ _. refl) refl refl l d cs is rest all (omega arith))
  number_read d (minus {c} {cs} first all few) is rest =
      rw first (read Digits digit (λ _ _ _. refl) refl refl l d cs is rest all (omega arith))

  items_read : (d : ℕ) (is : Items) (rest : List ℕ) → Fits (suc l) m (suc d) is
      → run l m (After d) (items_text is (41 ∷ rest)) ≡ run l m (closed d) rest
  items_read d nothing rest fits = refl
  items_read d (number text more) rest fits = number_read d fits.0 more rest ∙ items_read d more rest fits.1
  items_read d (form word inner more) rest fits =
      let u = items_text more (41 ∷ rest) in
      rw (lt-ltb (suc d) m fits.1)
      (word_read (suc d) word inner u fits.0 ∙ (items_read (suc d) inner u fits.2 ∙ items_read d more rest fits.3))

  pub form_passes : (bs : List ℕ) → IsForm (suc l) m bs → run l m Start bs ≡ Some Done
  form_passes bs is =
      ap (run l m Start) is.spelled
      ∙ (word_read 0 is.word is.items [] is.worded ∙ items_read 0 is.items [] is.fits)
