-- The rolling error of one contract, over the judgements of its readings, newest first. Assumes nothing.
use Rattle.std.specs.Prelude.{◌≡◌, ℕ, zero, suc, ◌+◌, Bool, false, cond, ◌&&◌, ltb, List, [], ◌∷◌, length, Some, None, Option, IfSome, ◌==◌}
use Rattle.rules.specs.Least.{least}
use Rattle.factors.specs.declared.judgement.Judgement.{Judgement}
use Rattle.factors.specs.declared.rolling.Rolling.{Rolling}
use Rattle.factors.specs.declared.rolling.Run.{Run}

-- The second reading follows on the first: on the next tick, in the same period.
abbrev pub together : Judgement → Judgement → Bool
together i j = j.tick == i.tick + 1 && j.period == i.period

-- A reading follows on the newest of those before it.
abbrev pub joins : Judgement → List Judgement → Bool
joins j [] = false
joins j (i ∷ js) = together i j

-- An error before those of earlier readings; none of them counts behind a reading that is not judged.
abbrev pub onto : Option ℕ → List ℕ → List ℕ
onto None es = []
onto (Some e) es = e ∷ es

-- The errors of the newest readings, newest first and at most n: as far back as each is judged and follows on the one before.
abbrev pub run : ℕ → List Judgement → List ℕ
run zero js = []
run (suc n) [] = []
run (suc n) (j ∷ js) = onto j.error (cond (joins j js) (run n js) [])

-- The least of four errors; none of fewer.
abbrev pub least_of_four : List ℕ → Option ℕ
least_of_four es = cond (length es == 4) (least ltb es) None

-- The rolling error at the newest reading: the least of its error and the three before it, if all four are judged, on
-- successive ticks, in one period.
abbrev pub rolling : List Judgement → Option ℕ
rolling js = least_of_four (run 4 js)

-- The newest reading has this tick and period.
abbrev pub Newest : ℕ → ℕ → List Judgement → Type 0
Newest tick period [] = ⊥
Newest tick period (j ∷ js) = (j.tick ≡ tick) × (j.period ≡ period)

-- The errors of a list up to the first place that has none.
abbrev pub leading : List (Option ℕ) → List ℕ
leading [] = []
leading (o ∷ os) = onto o (leading os)

-- The errors of a run, newest first; and those of the run that a rolling error keeps, if it keeps one.
abbrev pub errors : Run → List ℕ
errors u = u.error ∷ leading u.before

abbrev pub kept : Rolling → List ℕ
kept r = elim r.run [ None ↦ [] | Some u ↦ errors u ]

-- The state of a rolling error after these readings.
pub record Runs (r : Rolling) (js : List Judgement) : Type 0 where
  pub places : IfSome r.run (λ u. length u.before ≡ 3)
  pub errors : kept r ≡ run 4 js
  pub newest : IfSome r.run (λ u. Newest u.tick u.period js)

-- A reading follows on a run.
abbrev pub extends : Run → Judgement → Bool
extends u j = j.tick == u.tick + 1 && j.period == u.period
