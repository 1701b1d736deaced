-- How many figures are as they should be, and how many are not. Assumes nothing.
use Rattle.std.specs.Prelude.{ℕ, ◌+◌, ◌-◌, ◌^◌, Bool, true, false, min}
use Rattle.report.specs.declared.counts.Counts.{Counts}

-- No figure yet.
abbrev pub uncounted : Counts
uncounted = record { right = 0; wrong = 0 }

-- One more, which stops at the greatest number of 64 bits.
abbrev pub one_more : ℕ → ℕ
one_more n = min (n + 1) (2 ^ 64 - 1)

-- A figure that is as it should be, or not, counted too.
abbrev pub counted : Bool → Counts → Counts
counted true c = record { right = one_more c.right; wrong = c.wrong }
counted false c = record { right = c.right; wrong = one_more c.wrong }
