-- The promises on factors and payments. Assumes nothing.
use Rattle.std.proofs.Common.{◌≡◌, ℕ, ◌+◌, ◌*◌, ◌/◌, ◌<◌, ◌≤◌, true, false, cond, ◌&&◌, leb, ◌⊎◌, List, [], ◌∷◌, ◌++◌, map, get_or, ℤ, pos, negsuc, ◌+ℤ◌, ◌*ℤ◌, ◌≤ℤ◌, sym, refl, ap, ◌∙◌, subst, inl, inr, le_refl, mul-le-mul_right, mul-le-mul, arith}
use lib.Ieee.Nearest.{div_mono}
use Rattle.std.specs.List.{range_with_len, All, AllZip}
use Rattle.std.proofs.lemmas.List.Elements.{All-map, recursion_from_All}
use Rattle.std.proofs.lemmas.Int.{ints}
use Rattle.std.proofs.lemmas.Bool.{cases_lt}
use Rattle.rules.specs.Terms.{periods, terms_of}
use Rattle.rules.specs.declared.terms.Contract.{Contract}
use Rattle.rules.specs.declared.terms.Contract.TheVariants.{Low, High}
use Rattle.rules.specs.declared.terms.Terms.{Terms}
use Rattle.rules.proofs.TermsFacts.{facts}
use Rattle.factors.specs.Factors.{whole, payable, figures, period_factor, all_figures, block_factor}
use Rattle.factors.specs.Money.{nearest, earning, earned, sum, paid, payment, settled}
use Rattle.factors.specs.Periods.{readings, throughout}
use Rattle.factors.specs.Promises.{NoSmaller, AtMost, WithinA, Four, WorseErrorsNoBetterFactors, WorseErrorsNoLargerPayment, WithinAIsWhole, BelowWholeExactlyWhereFourErr, WorstIsLargest, Promised}
use Rattle.factors.specs.Worst.{unerring, worst, Reached, Largest}
use Rattle.factors.specs.declared.judgement.Judgement.{Judgement}
use Rattle.factors.specs.declared.settlement.PeriodFigures.{PeriodFigures}
use Rattle.factors.specs.declared.worst.Worst.{Worst}
use Rattle.factors.proofs.FactorFacts.{factor_falls, factor_whole, factor_below}
use Rattle.factors.proofs.FourErring.{Erring, rolling_erring, erring_rolling, together_parts, together_from}
use Rattle.factors.proofs.LowestFacts.{block_lowest}
use Rattle.factors.proofs.WorseErrors.{worst_no_less, readings_same, throughout_same, worst_most}
use Rattle.factors.proofs.WorstFacts.{worst_at, reached, worst_largest}

each_map : {X Y : Type 0} (R : Y → Y → Type 0) (g h : X → Y) → ((x : X) → R (g x) (h x)) → (xs : List X) → AllZip R (map g xs) (map h xs)
each_map R g h is [] = tt
each_map R g h is (x ∷ xs) = (is x, each_map R g h is xs)

all_of : {X : Type 0} (P : X → Type 0) → ((x : X) → P x) → (xs : List X) → All P xs
all_of P is xs = λ k d l. is (get_or xs k d)

-- worse errors, no better factors
module _ (t : Terms) (js ks : List Judgement) (h : NoSmaller js ks) where
  pub period_no_better : (p : ℕ) → period_factor t p ks ≤ period_factor t p js
  period_no_better p = factor_falls t.a t.b (facts t).rising (worst p js).error (worst p ks).error (worst_no_less p js ks h)

  all_no_better : AllZip (λ (f g : PeriodFigures). g.factor ≤ f.factor) (all_figures t js) (all_figures t ks)
  unfolding all_figures
  all_no_better = each_map (λ (f g : PeriodFigures). g.factor ≤ f.factor) (λ p. figures t p js) (λ p. figures t p ks) period_no_better (range_with_len 0 (periods t))

  pub block_no_better : block_factor t ks ≤ block_factor t js
  block_no_better =
      let low = block_lowest t js in
      omega (arith, low.reached, period_no_better low.place, (block_lowest t ks).below low.place low.within)

pub worse_errors_no_better_factors : (t : Terms) (c : Contract) (js : List Judgement) → WorseErrorsNoBetterFactors t c js (settled t c js)
worse_errors_no_better_factors t c js ks h = (all_no_better t js ks h, block_no_better t js ks h)

-- the periods that are payable stay so, and so does the sum
earned_same : (e : ℤ) (g h : ℕ → PeriodFigures) → ((p : ℕ) → (h p).payable ≡ (g p).payable) → (ps : List ℕ) → earned e (map h ps) ≡ earned e (map g ps)
earned_same e g h is [] = refl
earned_same e g h is (p ∷ ps) = ap (λ b. cond b e (pos 0) +ℤ earned e (map h ps)) (is p) ∙ ap (λ z. cond (g p).payable e (pos 0) +ℤ z) (earned_same e g h is ps)

payable_same : (t : Terms) (js ks : List Judgement) → NoSmaller js ks → (p : ℕ) → payable t p ks ≡ payable t p js
payable_same t js ks h p = ap (λ n. leb t.needed n && throughout p ks) (readings_same p js ks h) ∙ ap (λ b. leb t.needed (readings p js) && b) (throughout_same p js ks h)

pub sum_same : (t : Terms) (c : Contract) (js ks : List Judgement) → NoSmaller js ks → sum t c ks ≡ sum t c js
unfolding all_figures
sum_same t c js ks h = earned_same (earning t c) (λ p. figures t p js) (λ p. figures t p ks) (payable_same t js ks h) (range_with_len 0 (periods t))

-- the sum is not negative, since no price is
earned_positive : (n : ℕ) (fs : List PeriodFigures) → (m : ℕ) × (earned (pos n) fs ≡ pos m)
earned_positive n [] = (0, refl)
earned_positive n (f ∷ fs) =
    let rest = earned_positive n fs in
    elim f.payable as (λ b. (m : ℕ) × (cond b (pos n) (pos 0) +ℤ earned (pos n) fs ≡ pos m)) [
      | true ↦ (n + rest.0, ap (λ z. pos n +ℤ z) rest.1)
      | false ↦ (0 + rest.0, ap (λ z. pos 0 +ℤ z) rest.1)
    ]

product_positive : (z : ℤ) (q : ℕ) → pos 0 ≤ℤ z → (n : ℕ) × (nearest (z *ℤ pos q) 2 ≡ pos n)
product_positive (pos p) q h = ((p * q + p * q + 2) / 4, refl)
product_positive (negsuc p) q h = absurd (omega (arith, ints))

price_positive : (t : Terms) (c : Contract) → pos 0 ≤ℤ (terms_of t c).price
price_positive t Low = (facts t).low_price
price_positive t High = (facts t).high_price

pub sum_positive : (t : Terms) (c : Contract) (js : List Judgement) → (m : ℕ) × (sum t c js ≡ pos m)
sum_positive t c js =
    let e = product_positive (terms_of t c).price (terms_of t c).quantity (price_positive t c) in
    let s = earned_positive e.0 (all_figures t js) in
    (s.0, ap (λ z. earned z (all_figures t js)) e.1 ∙ s.1)

paid_rises : (m f g : ℕ) → f ≤ g → paid (pos m) f ≤ℤ paid (pos m) g
paid_rises m f g h =
    let p : m * f ≤ m * g = mul-le-mul (le_refl m) h in
    let q : m * f + m * f + 1000000 ≤ m * g + m * g + 1000000 = omega arith in
    let r : (m * f + m * f + 1000000) / 2000000 ≤ (m * g + m * g + 1000000) / 2000000 = div_mono (m * f + m * f + 1000000) 2000000 (m * g + m * g + 1000000) 2000000 (omega arith) (omega arith) (mul-le-mul_right 2000000 q) in
    omega (arith, ints, r)

pub worse_errors_no_larger_payment : (t : Terms) (c : Contract) (js : List Judgement) → WorseErrorsNoLargerPayment t c js (settled t c js)
worse_errors_no_larger_payment t c js ks h =
    let s = sum_positive t c js in
    let same : paid (sum t c ks) (block_factor t ks) ≡ paid (pos s.0) (block_factor t ks) = ap (λ z. paid z (block_factor t ks)) (sum_same t c js ks h ∙ s.1) in
    let was : paid (sum t c js) (block_factor t js) ≡ paid (pos s.0) (block_factor t js) = ap (λ z. paid z (block_factor t js)) s.1 in
    subst (λ z. z ≤ℤ payment t c js) (sym same) (subst (λ z. paid (pos s.0) (block_factor t ks) ≤ℤ z) (sym was) (paid_rises s.0 _ _ (block_no_better t js ks h)))

-- errors within A leave every factor whole
module _ (t : Terms) (js : List Judgement) (h : WithinA t js) where
  pub period_whole : (p : ℕ) → period_factor t p js ≡ whole
  period_whole p = factor_whole t.a t.b (facts t).rising (worst p js).error (worst_most t.a p js (recursion_from_All (λ (j : Judgement). AtMost t.a j.error) js h))

  all_whole : All (λ (f : PeriodFigures). f.factor ≡ whole) (all_figures t js)
  unfolding all_figures
  all_whole = All-map (λ (f : PeriodFigures). f.factor ≡ whole) (λ p. figures t p js) (range_with_len 0 (periods t)) (all_of (λ p. period_factor t p js ≡ whole) period_whole (range_with_len 0 (periods t)))

  pub block_whole : block_factor t js ≡ whole
  block_whole = let low = block_lowest t js in low.reached ∙ period_whole low.place

pub within_a_is_whole : (t : Terms) (c : Contract) (js : List Judgement) → WithinAIsWhole t js (settled t c js)
within_a_is_whole t c js h = (all_whole t js h, block_whole t js h)

-- below whole exactly where four err
four_of : (t : Terms) (js newer : List Judgement) (j : Judgement) (older : List Judgement) → js ≡ newer ++ (j ∷ older) → j.period < periods t → Erring t.a 4 (j ∷ older) → Four t js
four_of t js newer j [] s p h = absurd h.2
four_of t js newer j (i ∷ []) s p h = absurd h.2.2
four_of t js newer j (i ∷ l ∷ []) s p h = absurd h.2.2.2
four_of t js newer j (i ∷ l ∷ k ∷ older) s p h =
    let x = together_parts i j h.1 in
    let y = together_parts l i h.2.1 in
    let z = together_parts k l h.2.2.1 in
    record {
      newer = newer;
      fourth = j;
      third = i;
      second = l;
      first = k;
      older = older;
      stand = s;
      successive = (z.0, y.0, x.0);
      same_period = (z.1, y.1 ∙ z.1, x.1 ∙ (y.1 ∙ z.1));
      inside = omega arith;
      errors = (h.2.2.2.0, h.2.2.0, h.2.0, h.0);
    }

four_at : (t : Terms) (js : List Judgement) (p : ℕ) → p < periods t → t.a < (worst p js).error → (worst p js ≡ unerring) ⊎ Reached p js (worst p js) → Four t js
four_at t js p h l (inl none) = absurd (omega (arith, ap (λ (w : Worst). w.error) none))
four_at t js p h l (inr r) = four_of t js r.newer r.place r.older r.stands (omega (arith, r.period)) (rolling_erring t.a (worst p js).error (r.place ∷ r.older) r.error l)

pub below_then_four : (t : Terms) (js : List Judgement) → block_factor t js < whole → Four t js
below_then_four t js h =
    let low = block_lowest t js in
    elim (cases_lt t.a (worst low.place js).error) [
      | inl l ↦ four_at t js low.place low.within l (reached low.place js)
      | inr l ↦ absurd (omega (arith, low.reached, factor_whole t.a t.b (facts t).rising (worst low.place js).error l))
    ]

pub four_then_below : (t : Terms) (js : List Judgement) → Four t js → block_factor t js < whole
four_then_below t js f =
    let p : ℕ = f.first.period in
    let rest : List Judgement = f.third ∷ f.second ∷ f.first ∷ f.older in
    let erring : Erring t.a 4 (f.fourth ∷ rest) = (
      f.errors.3,
      together_from f.third f.fourth f.successive.2 (f.same_period.2 ∙ sym f.same_period.1),
      (
        f.errors.2,
        together_from f.second f.third f.successive.1 (f.same_period.1 ∙ sym f.same_period.0),
        (
          f.errors.1,
          together_from f.first f.second f.successive.0 f.same_period.0,
          (f.errors.0, tt, tt),
        ),
      ),
    ) in
    let r = erring_rolling t.a (f.fourth ∷ rest) erring in
    let e : r.0 ≤ (worst p js).error = subst (λ x. r.0 ≤ (worst p x).error) (sym f.stand) (worst_at p f.newer f.fourth rest r.0 f.same_period.2 r.1) in
    omega (arith, (block_lowest t js).below p f.inside, factor_below t.a t.b (facts t).rising (worst p js).error (omega (arith, r.2)))

pub below_whole_exactly_where_four_err : (t : Terms) (c : Contract) (js : List Judgement) → BelowWholeExactlyWhereFourErr t js (settled t c js)
below_whole_exactly_where_four_err t c js = (below_then_four t js, four_then_below t js)

-- each period's E
pub worst_is_largest : (t : Terms) (c : Contract) (js : List Judgement) → WorstIsLargest js (settled t c js)
unfolding all_figures
worst_is_largest t c js = All-map (λ (f : PeriodFigures). Largest f.period js f.worst) (λ p. figures t p js) (range_with_len 0 (periods t)) (all_of (λ p. Largest p js (worst p js)) (λ p. worst_largest p js) (range_with_len 0 (periods t)))

pub promised : (t : Terms) (c : Contract) (js : List Judgement) → Promised t c js (settled t c js)
promised t c js = record {
  factors = worse_errors_no_better_factors t c js;
  payment = worse_errors_no_larger_payment t c js;
  within = within_a_is_whole t c js;
  below = below_whole_exactly_where_four_err t c js;
  largest = worst_is_largest t c js;
}
