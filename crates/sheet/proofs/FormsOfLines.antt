-- Every line is a form.
use Rattle.std.proofs.Common.{◌≡◌, ℕ, zero, suc, ◌^◌, ◌<◌, ◌≤◌, true, ◌&&◌, leb, List, [], ◌∷◌, ◌++◌, length, get_or, ℤ, pos, negsuc, codes, decimal, sym, refl, ap, ◌∙◌, subst, arith}
use Rattle.std.proofs.lemmas.Fmt.{decimal_digit, decimal_nonempty, digits_decimal, first_decimal, length-decimal-le}
use Rattle.std.proofs.lemmas.Bool.{and_from, and_parts, le-leb, ltb-true}
use Rattle.std.specs.Char.{is_ascii_digit}
use Rattle.std.specs.Fmt.{signed_decimal}
use Rattle.std.specs.Str.{all_ascii_digits}
use Rattle.curve.specs.declared.loading.Point.{Point}
use Rattle.rules.specs.declared.reading.Reading.{Reading}
use Rattle.rules.specs.declared.terms_input.TermsInput.{TermsInput}
use Rattle.form.specs.Alphabet.{digit, every, first_digit}
use Rattle.form.specs.Grammar.{Fits, form, IsForm, Items, items_text, minus, nothing, nought, Number, number, plain}
use Rattle.template.specs.Numbers.{short}
use Rattle.template.specs.Templates.{all_short, fill}
use Rattle.template.proofs.DigitsRead.{own}
use Rattle.sheet.specs.Lines.{IsLine, of_block, of_curve, of_reading, points_numbers, points_template, Said}

same_digits : (ds : List ℕ) → every digit ds ≡ all_ascii_digits ds
same_digits [] = refl
same_digits (d ∷ ds) = ap (λ rest. digit d && rest) (same_digits ds)

-- Digits without a leading zero, and the same after a minus.
digits_number : (ds : List ℕ) → all_ascii_digits ds ≡ true → 0 < length ds → 48 < get_or ds 0 0 → length ds ≤ 10 → Number 10 ds × Number 10 (45 ∷ ds)
digits_number [] digits some first few = absurd (omega arith)
digits_number (c ∷ cs) digits some first few =
    let both = and_parts (is_ascii_digit c) (all_ascii_digits cs) digits in
    let high = (and_parts (leb 48 c) (leb c 57) both.0).1 in
    let start : first_digit c ≡ true = and_from (leb 49 c) (leb c 57) (le-leb 49 c (omega arith)) high in
    let rest : every digit cs ≡ true = same_digits cs ∙ both.1 in
    (plain start rest few, minus start rest few)

above_nought : (n : ℕ) → 0 < n → n < 10 ^ 10 → Number 10 (decimal n) × Number 10 (45 ∷ decimal n)
above_nought n some few =
    let fits : n < 2 ^ 64 = omega arith in
    digits_number (decimal n) (digits_decimal own n fits) (decimal_nonempty n fits) (first_decimal n some fits) (length-decimal-le 10 n (omega arith) few fits)

signed_number : (z : ℤ) → short z ≡ true → Number 10 (signed_decimal z)
signed_number (pos zero) few = subst (λ (ds : List ℕ). Number 10 ds) (sym (decimal_digit 0 (omega arith))) nought
signed_number (pos (suc n)) few = (above_nought (suc n) (omega arith) (ltb-true (suc n) (10 ^ 10) few)).0
signed_number (negsuc n) few = (above_nought (suc n) (omega arith) (ltb-true (suc n) (10 ^ 10) few)).1

-- Two numbers in a form of their own, as a band, a contract or a point has them.
abbrev pair : List ℕ → ℤ → ℤ → Items → Items
pair word x y more = form word (number (signed_decimal x) (number (signed_decimal y) nothing)) more

points_items : List Point → Items
points_items [] = nothing
points_items (p ∷ ps) = pair (112 ∷ []) p.deviation p.parts (points_items ps)

-- The first number is short, and so are the rest.
parts : (z : ℤ) (zs : List ℤ) → all_short (z ∷ zs) ≡ true → Number 10 (signed_decimal z) × (all_short zs ≡ true)
parts z zs few = let both = and_parts (short z) (all_short zs) few in (signed_number z both.0, both.1)

points_fit : (ps : List Point) → all_short (points_numbers ps) ≡ true → Fits 10 4 1 (points_items ps)
unfolding points_items
points_fit [] few = tt
points_fit (p ∷ ps) few =
    let x = parts p.deviation (p.parts ∷ points_numbers ps) few in
    let y = parts p.parts (points_numbers ps) x.1 in
    (refl, omega arith, (x.0, (y.0, tt)), points_fit ps y.1)

points_spelled : (ps : List Point) → fill (points_template (length ps)) (points_numbers ps) ≡ items_text (points_items ps) (41 ∷ [])
unfolding points_items
points_spelled [] = refl
points_spelled (p ∷ ps) =
    ap (λ rest. 32 ∷ (40 ∷ (112 ∷ (32 ∷ (signed_decimal p.deviation ++ (32 ∷ (signed_decimal p.parts ++ (41 ∷ rest)))))))) (points_spelled ps)

reading_form : (bytes : List ℕ) (r : Reading) → IsLine bytes (of_reading r) → IsForm 10 4 bytes
reading_form bytes r line =
    let a = parts r.tick (r.frequency ∷ (r.power ∷ (r.baseline ∷ (r.flag ∷ [])))) line.short in
    let b = parts r.frequency (r.power ∷ (r.baseline ∷ (r.flag ∷ []))) a.1 in
    let c = parts r.power (r.baseline ∷ (r.flag ∷ [])) b.1 in
    let d = parts r.baseline (r.flag ∷ []) c.1 in
    let e = parts r.flag [] d.1 in
    record {
      word = 115 ∷ [];
      items = number (signed_decimal r.tick) (number (signed_decimal r.frequency) (number (signed_decimal r.power) (number (signed_decimal r.baseline) (number (signed_decimal r.flag) nothing))));
      worded = refl;
      fits = (a.0, (b.0, (c.0, (d.0, (e.0, tt)))));
      spelled = line.spelled;
    }

block_form : (bytes : List ℕ) (t : TermsInput) → IsLine bytes (of_block t) → IsForm 10 4 bytes
block_form bytes t line =
    let a = parts t.ticks (t.needed ∷ (t.a ∷ (t.b ∷ (t.low.quantity ∷ (t.low.price ∷ (t.high.quantity ∷ (t.high.price ∷ []))))))) line.short in
    let b = parts t.needed (t.a ∷ (t.b ∷ (t.low.quantity ∷ (t.low.price ∷ (t.high.quantity ∷ (t.high.price ∷ [])))))) a.1 in
    let c = parts t.a (t.b ∷ (t.low.quantity ∷ (t.low.price ∷ (t.high.quantity ∷ (t.high.price ∷ []))))) b.1 in
    let d = parts t.b (t.low.quantity ∷ (t.low.price ∷ (t.high.quantity ∷ (t.high.price ∷ [])))) c.1 in
    let e = parts t.low.quantity (t.low.price ∷ (t.high.quantity ∷ (t.high.price ∷ []))) d.1 in
    let f = parts t.low.price (t.high.quantity ∷ (t.high.price ∷ [])) e.1 in
    let g = parts t.high.quantity (t.high.price ∷ []) f.1 in
    let h = parts t.high.price [] g.1 in
    record {
      word = codes "block";
      items = number (signed_decimal t.ticks) (number (signed_decimal t.needed)
          (pair (codes "band") t.a t.b (pair (codes "low") t.low.quantity t.low.price (pair (codes "high") t.high.quantity t.high.price nothing))));
      worded = refl;
      fits = (a.0, (b.0, (refl, omega arith, (c.0, (d.0, tt)), (refl, omega arith, (e.0, (f.0, tt)), (refl, omega arith, (g.0, (h.0, tt)), tt)))));
      spelled = line.spelled;
    }

curve_form : (bytes : List ℕ) (ramp lag : ℤ) (ps : List Point) → IsLine bytes (of_curve ramp lag ps) → IsForm 10 4 bytes
curve_form bytes ramp lag ps line =
    let a = parts ramp (lag ∷ points_numbers ps) line.short in
    let b = parts lag (points_numbers ps) a.1 in
    record {
      word = codes "curve";
      items = number (signed_decimal ramp) (number (signed_decimal lag) (points_items ps));
      worded = refl;
      fits = (a.0, (b.0, points_fit ps b.1));
      spelled = line.spelled ∙ ap (λ rest. codes "(curve " ++ (signed_decimal ramp ++ (32 ∷ (signed_decimal lag ++ rest)))) (points_spelled ps);
    }

pub line_form : (bytes : List ℕ) (said : Said) → IsLine bytes said → IsForm 10 4 bytes
line_form bytes (of_block t) line = block_form bytes t line
line_form bytes (of_curve ramp lag ps) line = curve_form bytes ramp lag ps line
line_form bytes (of_reading r) line = reading_form bytes r line
