-- The record of a period. Assumes nothing.
use Rattle.std.specs.Prelude.{ℕ, ◌+◌, ◌-◌, ◌^◌, min, Bool, true, false, cond, ◌&&◌, List, [], ◌∷◌, Option, ◌==◌}
use Rattle.factors.specs.Worst.{unerring, worse, worst}
use Rattle.factors.specs.declared.judgement.Judgement.{Judgement}
use Rattle.factors.specs.declared.period_record.PeriodRecord.{PeriodRecord}

-- A block has eight periods, and a record for each.
abbrev pub period_count : ℕ
period_count = 8

-- The readings of period p.
abbrev pub readings : ℕ → List Judgement → ℕ
readings p [] = 0
readings p (j ∷ js) = cond (j.period == p) (readings p js + 1) (readings p js)

-- Every reading of period p has the contract available.
abbrev pub throughout : ℕ → List Judgement → Bool
throughout p [] = true
throughout p (j ∷ js) = cond (j.period == p) (throughout p js && j.available) (throughout p js)

-- The record of period p after these readings.
abbrev pub record_of : ℕ → List Judgement → PeriodRecord
record_of p js = record { readings = readings p js; throughout = throughout p js; worst = worst p js }

-- The record of a period with no reading.
abbrev pub unread : PeriodRecord
unread = record { readings = 0; throughout = true; worst = unerring }

-- What a list of records is read as past its end, where it is never read.
abbrev pub beyond : PeriodRecord
beyond = record { readings = 0; throughout = false; worst = unerring }

-- A record with one more reading, and the rolling error at it. A count of 64 bits is never full in a block.
abbrev pub noted : PeriodRecord → Judgement → Option ℕ → PeriodRecord
noted r j rolling = record {
  readings = min (r.readings + 1) (2 ^ 64 - 1);
  throughout = r.throughout && j.available;
  worst = worse r.worst rolling j.tick;
}
