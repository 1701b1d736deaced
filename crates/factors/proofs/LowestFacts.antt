-- The lowest factor is that of some period, and no period has a lower one. Assumes nothing.
use Rattle.std.proofs.Common.{◌≡◌, ℕ, ◌<◌, ◌≤◌, List, [], ◌∷◌, map, length, get_or, ap, ◌∙◌, arith}
use Rattle.std.specs.List.{range_with_len}
use Rattle.std.proofs.lemmas.List.FromFn.{length-map-range_with_len, get_or-map-range_with_len, fill_by_all}
use Rattle.rules.specs.Terms.{periods}
use Rattle.rules.specs.declared.terms.Terms.{Terms}
use Rattle.rules.proofs.TermsFacts.{facts}
use Rattle.factors.specs.Factors.{whole, factor, figures, figures_of, period_factor, all_figures, tabled, lowest, block_factor}
use Rattle.factors.specs.Periods.{beyond}
use Rattle.factors.specs.Tally.{Tallied}
use Rattle.factors.specs.declared.judgement.Judgement.{Judgement}
use Rattle.factors.specs.declared.period_record.PeriodRecord.{PeriodRecord}
use Rattle.factors.specs.declared.settlement.PeriodFigures.{PeriodFigures}
use Rattle.factors.specs.declared.tally.Tally.{Tally}
use Rattle.factors.proofs.FactorFacts.{factor_most}
use Rattle.factors.proofs.LeastFacts.{LowestOf, least_lowest}

lowest_at : (fs : List PeriodFigures) (d : PeriodFigures) → 0 < length fs → LowestOf (length fs) (λ k. (get_or fs k d).factor) (lowest fs)
lowest_at [] d h = absurd (omega arith)
lowest_at (f ∷ fs) d h = least_lowest (λ (f : PeriodFigures). f.factor) f fs d

lowest_counted : (g : ℕ → PeriodFigures) (n : ℕ) → 0 < n → LowestOf n (λ k. (g k).factor) (lowest (map g (range_with_len 0 n)))
lowest_counted g n h =
    let l = length-map-range_with_len g 0 n in
    let low = lowest_at (map g (range_with_len 0 n)) (g 0) (omega (arith, l)) in
    let is : (k : ℕ) → k < n → (get_or (map g (range_with_len 0 n)) k (g 0)).factor ≡ (g k).factor = λ k w. ap (λ x. x.factor) (get_or-map-range_with_len g 0 n k k (g 0) w (omega arith)) in
    let w : low.place < n = omega (arith, l, low.within) in
    record {
      place = low.place;
      within = w;
      reached = low.reached ∙ is low.place w;
      below = λ k v. omega (arith, low.below k (omega (arith, l)), is k v);
    }

-- the block factor among the factors of the periods
pub block_lowest : (t : Terms) (js : List Judgement) → LowestOf (periods t) (λ p. period_factor t p js) (block_factor t js)
unfolding all_figures
block_lowest t js = lowest_counted (λ p. figures t p js) (periods t) (omega arith)

tabled_lowest : (t : Terms) (records : List PeriodRecord) → LowestOf (periods t) (λ p. factor t (get_or records p beyond).worst.error) (lowest (tabled t records))
unfolding tabled
tabled_lowest t records = lowest_counted (λ p. figures_of t p (get_or records p beyond)) (periods t) (omega arith)

pub tabled_most : (t : Terms) (records : List PeriodRecord) → lowest (tabled t records) ≤ whole
tabled_most t records =
    let low = tabled_lowest t records in
    omega (arith, low.reached, factor_most t.a t.b (facts t).rising (get_or records low.place beyond).worst.error)

-- the figures from the records are those of the readings
pub tabled_is : (t : Terms) (y : Tally) (js : List Judgement) → Tallied y js → tabled t y.records ≡ all_figures t js
unfolding tabled all_figures
tabled_is t y js h =
    let g : ℕ → PeriodFigures = λ p. figures_of t p (get_or y.records p beyond) in
    fill_by_all (λ p. figures t p js) (map g (range_with_len 0 (periods t))) (periods t) (g 0) (length-map-range_with_len g 0 (periods t))
    (λ k w. get_or-map-range_with_len g 0 (periods t) k k (g 0) w (omega arith) ∙ ap (figures_of t k) (h.each k w))
