-- Factors, in millionths. Assumes nothing.
use Rattle.std.specs.Prelude.{ℕ, ◌-◌, ◌*◌, ◌/◌, Bool, cond, ◌&&◌, List, map, Some, None, nat_le, nat_lt, slice_index_or}
use Rattle.std.specs.List.{range_with_len}
use Rattle.rules.specs.Least.{least}
use Rattle.rules.specs.Terms.{periods}
use Rattle.rules.specs.declared.terms.Terms.{Terms}
use Rattle.factors.specs.Periods.{record_of, beyond}
use Rattle.factors.specs.declared.judgement.Judgement.{Judgement}
use Rattle.factors.specs.declared.period_record.PeriodRecord.{PeriodRecord}
use Rattle.factors.specs.declared.settlement.PeriodFigures.{PeriodFigures}

abbrev pub whole : ℕ
whole = 1000000

-- Whole for an error e up to a, 0 for one of b or more, else 1,000,000 × (b − e) ÷ (b − a), fraction dropped.
abbrev pub factor_of : ℕ → ℕ → ℕ → ℕ
factor_of a b e = cond (nat_le e a) whole (cond (nat_le b e) 0 (whole * (b - e) / (b - a)))

-- The factor that an error leaves under the terms' A and B.
abbrev pub factor : Terms → ℕ → ℕ
factor t e = factor_of t.a t.b e

-- The figures of period p from its record. It is payable if it has at least the readings needed and every one of them has the
-- contract available; its factor is that of its largest rolling error.
abbrev pub figures_of : Terms → ℕ → PeriodRecord → PeriodFigures
figures_of t p r = record {
  period = p;
  readings = r.readings;
  payable = nat_le t.needed r.readings && r.throughout;
  worst = r.worst;
  factor = factor t r.worst.error;
}

abbrev pub figures : Terms → ℕ → List Judgement → PeriodFigures
figures t p js = figures_of t p (record_of p js)

abbrev pub payable : Terms → ℕ → List Judgement → Bool
payable t p js = (figures t p js).payable

abbrev pub period_factor : Terms → ℕ → List Judgement → ℕ
period_factor t p js = (figures t p js).factor

-- The figures of every period, in order.
unfoldable pub all_figures : Terms → List Judgement → List PeriodFigures
all_figures t js = map (λ p. figures t p js) (range_with_len 0 (periods t))

-- The lowest factor of a run of periods.
abbrev pub lowest : List PeriodFigures → ℕ
lowest fs = elim (least (λ x y. nat_lt x.factor y.factor) fs) [ None ↦ whole | Some f ↦ f.factor ]

-- The block factor is the lowest of its periods.
abbrev pub block_factor : Terms → List Judgement → ℕ
block_factor t js = lowest (all_figures t js)

-- The figures of every period from the periods' records.
unfoldable pub tabled : Terms → List PeriodRecord → List PeriodFigures
tabled t records = map (λ p. figures_of t p (slice_index_or records p beyond)) (range_with_len 0 (periods t))
