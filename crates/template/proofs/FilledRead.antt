-- Bytes read by a template: its first byte or hole, and the rest.
use Rattle.std.proofs.Common.{◌≡◌, ℕ, suc, ◌+◌, ◌<◌, ◌≤◌, Bool, true, false, ◌==◌, cond, not, ◌&&◌, ◌||◌, List, [], ◌∷◌, ◌++◌, length, get_or, set, take, drop, ℤ, pos, negsuc, sym, refl, ap, ◌∙◌, subst, inl, inr, arith}
use Rattle.std.proofs.lemmas.Fmt.{decimal_nonempty}
use Rattle.std.proofs.lemmas.List.{append_assoc, at_drop_more, drop-drop, drop-set-lt, drop_all, length-append, length-take-le, length_push, nil_from_length, take-append-drop, take_more_set}
use Rattle.std.proofs.lemmas.Bool.{and_from, and_parts, cases_Bool, eq-eqb, eqb-false, eqb-true, ltb-true, ne_eqb, not-true, or_parts}
use Rattle.std.specs.Char.{is_ascii_digit}
use Rattle.std.specs.Fmt.{signed_decimal}
use Rattle.template.specs.Numbers.{digit_first, short, Leads}
use Rattle.template.specs.Templates.{all_short, apart, ends_number, fill, Fills, holes, is_hole, Tells, Unfilled}
use Rattle.template.proofs.DigitsRead.{same_led}

module _ (b : ℕ) (t : List ℕ) (is : is_hole b ≡ false) where
  apart_byte : apart (b ∷ t) ≡ apart t
  apart_byte = ap (λ test. cond test (ends_number t && apart t) (apart t)) is

  holes_byte : holes (b ∷ t) ≡ holes t
  holes_byte = ap (λ test. cond test (suc (holes t)) (holes t)) is

  pub fill_byte : (zs : List ℤ) → fill (b ∷ t) zs ≡ b ∷ fill t zs
  fill_byte zs = ap (λ test. cond test (signed_decimal (get_or zs 0 (pos 0))) (b ∷ []) ++ fill t (cond test (drop 1 zs) zs)) is

  fills_byte : (bytes : List ℕ) (zs : List ℤ) → Fills t bytes zs → Fills (b ∷ t) (b ∷ bytes) zs
  fills_byte bytes zs so = record { spelled = ap (λ bs. b ∷ bs) so.spelled ∙ sym (fill_byte zs); short = ap (λ n. all_short (take n zs)) holes_byte ∙ so.short }

  unfilled_byte : (bytes : List ℕ) → Unfilled t bytes → Unfilled (b ∷ t) (b ∷ bytes)
  unfilled_byte bytes none = λ others few e. none others few (ap (drop 1) (e ∙ fill_byte others))

first_short : (zs : List ℤ) → all_short zs ≡ true → short (get_or zs 0 (pos 0)) ≡ true
first_short [] few = refl
first_short (z ∷ zs) few = (and_parts (short z) (all_short zs) few).0

rest_short : (zs : List ℤ) → all_short zs ≡ true → all_short (drop 1 zs) ≡ true
rest_short [] few = refl
rest_short (z ∷ zs) few = (and_parts (short z) (all_short zs) few).1

whole_number : (t : List ℕ) (zs : List ℤ) → ends_number t ≡ true → digit_first (fill t zs) ≡ false
whole_number [] zs ends = refl
whole_number (c ∷ t) zs ends =
    let parts = or_parts (is_hole c) (is_ascii_digit c) (not-true (is_hole c || is_ascii_digit c) ends) in
    ap digit_first (fill_byte c t parts.0 zs) ∙ parts.1

module _ (b : ℕ) (t : List ℕ) (is : is_hole b ≡ true) where
  apart_hole : apart (b ∷ t) ≡ (ends_number t && apart t)
  apart_hole = ap (λ test. cond test (ends_number t && apart t) (apart t)) is

  holes_hole : holes (b ∷ t) ≡ suc (holes t)
  holes_hole = ap (λ test. cond test (suc (holes t)) (holes t)) is

  fill_hole : (zs : List ℤ) → fill (b ∷ t) zs ≡ signed_decimal (get_or zs 0 (pos 0)) ++ fill t (drop 1 zs)
  fill_hole zs = ap (λ test. cond test (signed_decimal (get_or zs 0 (pos 0))) (b ∷ []) ++ fill t (cond test (drop 1 zs) zs)) is

  led_by : (bytes : List ℕ) (zs : List ℤ) → ends_number t ≡ true → all_short zs ≡ true → bytes ≡ fill (b ∷ t) zs → Leads bytes (get_or zs 0 (pos 0)) (fill t (drop 1 zs))
  led_by bytes zs ends few e = record { spelled = e ∙ fill_hole zs; whole = whole_number t (drop 1 zs) ends; small = first_short zs few }

  fills_hole : (bytes : List ℕ) (z : ℤ) (rest : List ℕ) (zs : List ℤ) → Leads bytes z rest → Fills t rest zs → Fills (b ∷ t) bytes (z ∷ zs)
  fills_hole bytes z rest zs led so = record {
    spelled = led.spelled ∙ (ap (λ bs. signed_decimal z ++ bs) so.spelled ∙ sym (fill_hole (z ∷ zs)));
    short = ap (λ n. all_short (take n (z ∷ zs))) holes_hole ∙ and_from (short z) (all_short (take (holes t) zs)) led.small so.short;
  }

  unfilled_hole : (bytes : List ℕ) (z : ℤ) (rest : List ℕ) → ends_number t ≡ true → Leads bytes z rest → Unfilled t rest → Unfilled (b ∷ t) bytes
  unfilled_hole bytes z rest ends led none = λ others few e.
      none (drop 1 others) (rest_short others few) (same_led bytes z rest led (get_or others 0 (pos 0)) (fill t (drop 1 others)) (led_by bytes others ends few e)).1

-- How far a template has been read: what is left of it and of the bytes, and the numbers so far, decide.
pub record SoFar (ts bytes : List ℕ) (i : ℕ) (rest : List ℕ) (zs : List ℤ) : Type 0 where
  pub filled : (ys : List ℤ) → Fills (drop i ts) rest ys → Fills ts bytes (zs ++ ys)
  pub counted : length zs + holes (drop i ts) ≡ holes ts
  pub none : (apart (drop i ts) ≡ true → Unfilled (drop i ts) rest) → apart ts ≡ true → Unfilled ts bytes

module _ (ts bytes : List ℕ) (i : ℕ) (inside : i < length ts) (rest : List ℕ) (zs : List ℤ) (so_far : SoFar ts bytes i rest zs) where
  abbrev pub b : ℕ
  b = get_or ts i 0

  abbrev pub t : List ℕ
  t = drop (i + 1) ts

  here : drop i ts ≡ b ∷ t
  here = at_drop_more (λ xs. xs) ts i 0 inside

  -- It goes on with a byte that is no hole.
  pub byte_read : (after : List ℕ) → (b ≡ 35 → ⊥) → rest ≡ b ∷ after → SoFar ts bytes (i + 1) after zs
  byte_read after not is =
      let no : is_hole b ≡ false = ne_eqb b 35 not in
      record {
        filled = λ ys so.
            so_far.filled ys
            (subst (λ (s : List ℕ). Fills s rest ys) (sym here) (subst (λ (s : List ℕ). Fills (b ∷ t) s ys) (sym is) (fills_byte b t no after ys so)));
        counted = ap (λ n. length zs + n) (sym (ap holes here ∙ holes_byte b t no)) ∙ so_far.counted;
        none = λ none. so_far.none (λ aparts.
            subst (λ (s : List ℕ). Unfilled s rest) (sym here)
            (subst (λ (s : List ℕ). Unfilled (b ∷ t) s) (sym is)
            (unfilled_byte b t no after (none (sym (ap apart here ∙ apart_byte b t no) ∙ aparts)))));
      }

  -- It goes on with a hole.
  pub number_read : (z : ℤ) (after : List ℕ) → b ≡ 35 → Leads rest z after → SoFar ts bytes (i + 1) after (zs ++ z ∷ [])
  number_read z after is led =
      let yes : is_hole b ≡ true = eq-eqb b 35 is in
      record {
        filled = λ ys so.
            subst (λ (xs : List ℤ). Fills ts bytes xs) (sym (append_assoc zs (z ∷ []) ys))
            (so_far.filled (z ∷ ys) (subst (λ (s : List ℕ). Fills s rest (z ∷ ys)) (sym here) (fills_hole b t yes rest z after ys led so)));
        counted = omega (arith, so_far.counted, length_push zs z, ap holes here, holes_hole b t yes);
        none = λ none. so_far.none (λ aparts.
            let both = and_parts (ends_number t) (apart t) (sym (ap apart here ∙ apart_hole b t yes) ∙ aparts) in
            subst (λ (s : List ℕ). Unfilled s rest) (sym here)
            (unfilled_hole b t yes rest z after both.0 led (none both.1)));
      }

-- The template has been read to its end: the numbers so far fill it, whatever stands behind them.
pub read_whole : (ts bytes : List ℕ) (i : ℕ) (zs ys : List ℤ) → length ts ≤ i → SoFar ts bytes i [] zs → Fills ts bytes (zs ++ ys)
read_whole ts bytes i zs ys past so_far = so_far.filled ys (subst (λ (s : List ℕ). Fills s [] ys) (sym (drop_all i ts past)) (record { spelled = refl; short = refl }))

-- Where the template has been read to its end, the bytes that are left decide whether the numbers so far, and any behind them, fill it.
pub told_at_end : (ts bytes : List ℕ) (room i count : ℕ) (rest : List ℕ) (numbers : List ℤ) → length ts ≤ i → SoFar ts bytes i rest (take count numbers)
    → (empty : Bool) → empty ≡ (length rest == 0) → Tells ts bytes room numbers empty
told_at_end ts bytes room i count rest numbers past so_far true is =
    subst (λ (zs : List ℤ). Fills ts bytes zs) (take-append-drop count numbers)
    (read_whole ts bytes i (take count numbers) (drop count numbers) past
    (subst (λ (s : List ℕ). SoFar ts bytes i s (take count numbers)) (nil_from_length rest (eqb-true (length rest) 0 (sym is))) so_far))
told_at_end ts bytes room i count rest numbers past so_far false is = λ aparts few.
    so_far.none (λ behind others short e. eqb-false (length rest) 0 (sym is) (ap length e ∙ ap (λ s. length (fill s others)) (drop_all i ts past))) aparts

-- Numbers that are the lent ones from some place on are so behind the holes too.
pub stays_behind : (ts bytes : List ℕ) (i count : ℕ) (rest : List ℕ) (numbers lent : List ℤ) → SoFar ts bytes i rest (take count numbers) → count ≤ length numbers
    → drop count numbers ≡ drop count lent → drop (holes ts) numbers ≡ drop (holes ts) lent
stays_behind ts bytes i count rest numbers lent so_far within same =
    let n = holes (drop i ts) in
    let all : count + n ≡ holes ts = ap (λ k. k + n) (sym (length-take-le count numbers within)) ∙ so_far.counted in
    ap (λ k. drop k numbers) (sym all) ∙ (sym (drop-drop n count numbers) ∙ (ap (drop n) same ∙ (drop-drop n count lent ∙ ap (λ k. drop k lent) all)))

-- A number more is put down in the place behind those so far.
module _ (ts bytes : List ℕ) (i : ℕ) (inside : i < length ts) (rest : List ℕ) (count : ℕ) (numbers lent : List ℤ) (so_far : SoFar ts bytes i rest (take count numbers)) (room : count < length numbers) where
  pub put : (z : ℤ) (after : List ℕ) → get_or ts i 0 ≡ 35 → Leads rest z after → SoFar ts bytes (i + 1) after (take (count + 1) (set numbers count z))
  put z after is led =
      subst (λ (zs : List ℤ). SoFar ts bytes (i + 1) after zs) (sym (take_more_set numbers count z room))
      (number_read ts bytes i inside rest (take count numbers) so_far z after is led)

  pub put_before : (z : ℤ) → drop count numbers ≡ drop count lent → drop (count + 1) (set numbers count z) ≡ drop (count + 1) lent
  put_before z same = drop-set-lt (count + 1) numbers count z (omega arith) ∙ (sym (drop-drop 1 count numbers) ∙ (ap (drop 1) same ∙ drop-drop 1 count lent))

-- Each hole becomes a byte at least.
some_bytes : (z : ℤ) → short z ≡ true → 0 < length (signed_decimal z)
some_bytes (pos n) few = decimal_nonempty n (omega (arith, ltb-true n 10000000000 few))
some_bytes (negsuc n) few = omega arith

pub fill_long : (ts : List ℕ) (zs : List ℤ) → all_short zs ≡ true → length ts ≤ length (fill ts zs)
fill_long [] zs few = omega arith
fill_long (b ∷ t) zs few =
    elim (cases_Bool (is_hole b)) [
      | inl is ↦ omega (arith, ap length (fill_hole b t is zs), length-append (signed_decimal (get_or zs 0 (pos 0))) (fill t (drop 1 zs)), some_bytes (get_or zs 0 (pos 0)) (first_short zs few), fill_long t (drop 1 zs) (rest_short zs few))
      | inr not ↦ omega (arith, ap length (fill_byte b t not zs), fill_long t zs few)
    ]

-- A text is filled in by one list of numbers only.
abbrev Once : List ℕ → Type 0
Once ts =
    (zs ys : List ℤ) → apart ts ≡ true → all_short zs ≡ true → all_short ys ≡ true → length zs ≡ holes ts → length ys ≡ holes ts
    → fill ts zs ≡ fill ts ys → zs ≡ ys

same_hole : (b : ℕ) (t : List ℕ) → is_hole b ≡ true → Once t → Once (b ∷ t)
same_hole b t is once [] ys aparts few few' all all' e = absurd (omega (arith, holes_hole b t is))
same_hole b t is once (z ∷ zs) [] aparts few few' all all' e = absurd (omega (arith, holes_hole b t is))
same_hole b t is once (z ∷ zs) (y ∷ ys) aparts few few' all all' e =
    let both = and_parts (ends_number t) (apart t) (sym (apart_hole b t is) ∙ aparts) in
    let same = same_led (fill (b ∷ t) (z ∷ zs)) z (fill t zs) (led_by b t is (fill (b ∷ t) (z ∷ zs)) (z ∷ zs) both.0 few refl) y (fill t ys) (led_by b t is (fill (b ∷ t) (z ∷ zs)) (y ∷ ys) both.0 few' e) in
    let rest : zs ≡ ys = once zs ys both.1 (rest_short (z ∷ zs) few) (rest_short (y ∷ ys) few') (omega (arith, holes_hole b t is)) (omega (arith, holes_hole b t is)) same.1 in
    ap (λ x. x ∷ zs) same.0 ∙ ap (λ xs. y ∷ xs) rest

pub fill_same : (ts : List ℕ) → Once ts
fill_same [] zs ys aparts few few' all all' e = nil_from_length zs all ∙ sym (nil_from_length ys all')
fill_same (b ∷ t) zs ys aparts few few' all all' e =
    elim (cases_Bool (is_hole b)) [
      | inl is ↦ same_hole b t is (fill_same t) zs ys aparts few few' all all' e
      | inr not ↦ fill_same t zs ys (sym (apart_byte b t not) ∙ aparts) few few' (all ∙ holes_byte b t not) (all' ∙ holes_byte b t not)
          (ap (drop 1) (sym (fill_byte b t not zs) ∙ (e ∙ fill_byte b t not ys)))
    ]
