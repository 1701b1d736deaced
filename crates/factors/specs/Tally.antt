-- The state of one contract after some readings. Assumes nothing.
use Rattle.std.specs.Prelude.{◌≡◌, ℕ, ◌<◌, cond, List, length, Option, nat_lt, slice_index_or, slice_set}
use Rattle.factors.specs.Periods.{period_count, record_of, noted, beyond}
use Rattle.factors.specs.Rolling.{Runs}
use Rattle.factors.specs.declared.judgement.Judgement.{Judgement}
use Rattle.factors.specs.declared.period_record.PeriodRecord.{PeriodRecord}
use Rattle.factors.specs.declared.tally.Tally.{Tally}

-- A block has at most 288,000 ticks, and so at most as many readings.
abbrev pub most_readings : ℕ
most_readings = 288000

-- The state after these readings: each period has its own record.
pub record Tallied (t : Tally) (js : List Judgement) : Type 0 where
  pub runs : Runs t.rolling js
  pub places : length t.records ≡ period_count
  pub each : (k : ℕ) → k < period_count → slice_index_or t.records k beyond ≡ record_of k js

-- The records with one more reading: only that of its own period is altered, by one reading and the rolling error at it, if
-- any. A period past the last has no record.
abbrev pub with_reading : List PeriodRecord → Judgement → Option ℕ → List PeriodRecord
with_reading records j rolling = cond (nat_lt j.period period_count) (slice_set records j.period (noted (slice_index_or records j.period beyond) j rolling)) records
