-- Bytes that lead from the start to the end are a form.
use Rattle.std.proofs.Common.{◌≡◌, ℕ, zero, suc, ◌<◌, ◌≤◌, Bool, true, false, cond, ◌&&◌, eqb, ltb, leb, List, [], ◌∷◌, ◌++◌, length, Option, Some, None, option_and_then, refl, ap, arith}
use Rattle.std.proofs.lemmas.Bool.{and_from, le-leb, ltb-true, eqb-true}
use Rattle.std.proofs.lemmas.Option.{same_Some}
use Rattle.std.specs.Option.{IsSomeAnd}
use Rattle.form.specs.Alphabet.{letter, digit, first_digit, every}
use Rattle.form.specs.Grammar.{is_word, Number, nought, plain, minus, Items, nothing, number, form, items_text, Fits, IsForm}
use Rattle.form.specs.Scanning.{closed, after_item, one_more, item_begins, step, run}
use Rattle.form.specs.declared.state.State.{State}
use Rattle.form.specs.declared.state.State.TheVariants.{Start, Opened, Word, Gap, Minus, After, Done}
use Rattle.form.specs.declared.state.State.TheVariants.{Number as Digits}

-- Bytes that end so many open forms.
abbrev Open : ℕ → ℕ → ℕ → List ℕ → Type 0
Open n m zero bs = bs ≡ []
Open n m (suc d) bs =
    (is : Items) × (rest : List ℕ) × Fits n m (suc d) is × (bs ≡ items_text is (41 ∷ rest)) × Open n m d rest

-- The same after letters or digits, as many as may come.
abbrev Onward : ℕ → ℕ → ℕ → (ℕ → Bool) → ℕ → List ℕ → Type 0
Onward n m d test left bs =
    (cs : List ℕ) × (rest : List ℕ) × (every test cs ≡ true) × (length cs ≤ left) × (bs ≡ cs ++ rest) × Open n m (suc d) rest

-- Bytes that may come after a state.
abbrev Rest : ℕ → ℕ → State → List ℕ → Type 0
Rest l m Start bs = IsForm (suc l) m bs
Rest l m (Opened d) bs =
    (w : List ℕ) × (rest : List ℕ) × (is_word w ≡ true) × (bs ≡ w ++ rest) × Open (suc l) m (suc d) rest
Rest l m (Word left d) bs = Onward (suc l) m d letter left bs
Rest l m (Gap d) bs = Open (suc l) m (suc d) (32 ∷ bs)
Rest l m (Minus d) bs = Open (suc l) m (suc d) (32 ∷ (45 ∷ bs))
Rest l m (Digits left d) bs = Onward (suc l) m d digit left bs
Rest l m (After d) bs = Open (suc l) m (suc d) bs
Rest l m Done bs = bs ≡ []

module _ (l m : ℕ) where
  -- The same after a step.
  abbrev Next : List ℕ → Option State → Type 0
  Next bs o = IsSomeAnd o (λ s. Rest l m s bs)

  either : (bs : List ℕ) {Q : Type 0} (b : Bool) (x y : Option State)
      → (b ≡ true → Next bs x → Q) → (b ≡ false → Next bs y → Q) → Next bs (cond b x y) → Q
  either bs true x y p q on = p refl on
  either bs false x y p q on = q refl on

  -- A byte after a whole item.
  closed_back : (d : ℕ) (bs : List ℕ) → Rest l m (closed d) bs → Open (suc l) m d bs
  closed_back zero bs on = on
  closed_back (suc d) bs on = on

  after_back : (d b : ℕ) (bs : List ℕ) → Next bs (after_item d b) → Open (suc l) m (suc d) (b ∷ bs)
  after_back d b bs =
      either bs (eqb b 32) _ _ (λ e on. rw (eqb-true b 32 e) on)
      (λ _. either bs (eqb b 41) _ _ (λ e on. (nothing, bs, tt, ap (λ x. x ∷ bs) (eqb-true b 41 e), closed_back d bs on))
      (λ _ none. absurd none))

  -- A byte of a word or a number.
  onward_back : (make : ℕ → ℕ → State) (test : ℕ → Bool)
      → ((left d : ℕ) (bs : List ℕ) → Rest l m (make left d) bs → Onward (suc l) m d test left bs)
      → (left d b : ℕ) (bs : List ℕ) → Next bs (cond (test b) (one_more make left d) (after_item d b))
      → Onward (suc l) m d test left (b ∷ bs)
  onward_back make test is zero d b bs =
      either bs (test b) _ _ (λ _ none. absurd none)
      (λ _ on. ([], b ∷ bs, refl, omega arith, refl, after_back d b bs on))
  onward_back make test is (suc left) d b bs =
      either bs (test b) _ _ (λ e more. let on = is left d bs more in (
        b ∷ on.0,
        on.1,
        and_from (test b) (every test on.0) e on.2,
        omega (arith, on.3),
        ap (λ u. b ∷ u) on.4,
        on.5,
      ))
      (λ _ on. ([], b ∷ bs, refl, omega arith, refl, after_back d b bs on))

  -- A whole number before what ends the open forms.
  number_before : (d : ℕ) (text rest : List ℕ) → Number (suc l) text → Open (suc l) m (suc d) rest
      → Open (suc l) m (suc d) (32 ∷ (text ++ rest))
  number_before d text rest is on =
      (number text on.0, on.1, (is, on.2), ap (λ u. 32 ∷ (text ++ u)) on.3, on.4)

  -- The same of a form.
  form_before : (d : ℕ) (bs : List ℕ) → suc d < m → Rest l m (Opened (suc d)) bs → Open (suc l) m (suc d) (32 ∷ (40 ∷ bs))
  form_before d bs shallow on =
      let inner = on.4 in let after = inner.4 in (
        form on.0 inner.0 after.0,
        after.1,
        (on.2, shallow, inner.2, after.2),
        cc,
        after.4,
      )

  gap_back : (d b : ℕ) (bs : List ℕ) → Next bs (item_begins l m d b) → Open (suc l) m (suc d) (32 ∷ (b ∷ bs))
  gap_back d b bs =
      either bs (eqb b 48) _ _ (λ e on. rw (eqb-true b 48 e) (number_before d (48 ∷ []) bs nought on))
      (λ _. either bs (first_digit b) _ _
      (λ e on. rw on.4 (number_before d (b ∷ on.0) on.1 (plain e on.2 (omega (arith, on.3))) on.5))
      (λ _. either bs (eqb b 45) _ _ (λ e on. rw (eqb-true b 45 e) on)
      (λ _. either bs (eqb b 40) _ _ (λ e. either bs (ltb (suc d) m) _ _
      (λ shallow on. rw (eqb-true b 40 e) (form_before d bs (ltb-true (suc d) m shallow) on))
      (λ _ none. absurd none))
      (λ _ none. absurd none))))

  minus_back : (d b : ℕ) (bs : List ℕ) → Next bs (step l m (Minus d) b) → Open (suc l) m (suc d) (32 ∷ (45 ∷ (b ∷ bs)))
  minus_back d b bs =
      either bs (first_digit b) _ _
      (λ e on. rw on.4 (number_before d (45 ∷ (b ∷ on.0)) on.1 (minus e on.2 (omega (arith, on.3))) on.5))
      (λ _ none. absurd none)

  word_from : (b : ℕ) (cs : List ℕ) → letter b ≡ true → every letter cs ≡ true → length cs ≤ 7 → is_word (b ∷ cs) ≡ true
  word_from b cs first all few =
      and_from (leb 1 (length (b ∷ cs))) (leb (length (b ∷ cs)) 8 && every letter (b ∷ cs))
      (le-leb 1 (length (b ∷ cs)) (omega arith))
      (and_from (leb (length (b ∷ cs)) 8) (every letter (b ∷ cs))
      (le-leb (length (b ∷ cs)) 8 (omega arith))
      (and_from (letter b) (every letter cs) first all))

  -- One byte earlier.
  back : (s : State) (b : ℕ) (bs : List ℕ) → Next bs (step l m s b) → Rest l m s (b ∷ bs)
  back Start b bs =
      either bs (eqb b 40) _ _ (λ e on. let items = on.4 in let is_bracket = eqb-true b 40 e in record {
        word = on.0;
        items = items.0;
        worded = on.2;
        fits = items.2;
        spelled = cc;
      })
      (λ _ none. absurd none)
  back (Opened d) b bs =
      either bs (letter b) _ _
      (λ e on. (b ∷ on.0, on.1, word_from b on.0 e on.2 on.3, ap (λ u. b ∷ u) on.4, on.5))
      (λ _ none. absurd none)
  back (Word left d) b bs = onward_back Word letter (λ _ _ _ on. on) left d b bs
  back (Gap d) b bs = gap_back d b bs
  back (Minus d) b bs = minus_back d b bs
  back (Digits left d) b bs = onward_back Digits digit (λ _ _ _ on. on) left d b bs
  back (After d) b bs = after_back d b bs
  back Done b bs = λ none. absurd none

  rest_back : (s : State) (bs : List ℕ) → run l m s bs ≡ Some Done → Rest l m s bs
  rest_back s [] done = rw (same_Some s Done done) refl
  rest_back s (b ∷ bs) done =
      back s b bs
      (elim (step l m s b) as (λ o. option_and_then (λ t. run l m t bs) o ≡ Some Done → Next bs o)
      [ None ↦ λ e. cc | Some t ↦ rest_back t bs ] done)

  pub passed_form : (bs : List ℕ) → run l m Start bs ≡ Some Done → IsForm (suc l) m bs
  passed_form bs done = rest_back Start bs done
