-- The largest rolling error of a period, and the first tick that reached it. Assumes nothing.
use Rattle.std.specs.Prelude.{◌≡◌, ℕ, ◌<◌, ◌≤◌, cond, ◌⊎◌, List, [], ◌∷◌, ◌++◌, Some, None, Option, ◌==◌, nat_lt}
use Rattle.factors.specs.Rolling.{rolling}
use Rattle.factors.specs.declared.judgement.Judgement.{Judgement}
use Rattle.factors.specs.declared.worst.Worst.{Worst}

-- No error, and so no tick.
abbrev pub unerring : Worst
unerring = record { error = 0; tick = None }

-- A rolling error at tick k takes the place of a smaller one, and of no other: a tie keeps the earlier tick.
abbrev pub worse : Worst → Option ℕ → ℕ → Worst
worse w None k = w
worse w (Some e) k = cond (nat_lt w.error e) (record { error = e; tick = Some k }) w

-- E of period p, and the first tick that reached it.
abbrev pub worst : ℕ → List Judgement → Worst
worst p [] = unerring
worst p (j ∷ js) = cond (j.period == p) (worse (worst p js) (rolling (j ∷ js)) j.tick) (worst p js)

-- At some reading of period p the rolling error is e.
pub record Erred (p : ℕ) (js : List Judgement) (e : ℕ) : Type 0 where
  pub newer : List Judgement
  pub place : Judgement
  pub older : List Judgement
  pub stands : js ≡ newer ++ (place ∷ older)
  pub period : place.period ≡ p
  pub error : rolling (place ∷ older) ≡ Some e

-- At some reading of period p the rolling error is that of w, above 0 and above every earlier one, and w has its tick.
pub record Reached (p : ℕ) (js : List Judgement) (w : Worst) : Type 0 where
  pub newer : List Judgement
  pub place : Judgement
  pub older : List Judgement
  pub stands : js ≡ newer ++ (place ∷ older)
  pub period : place.period ≡ p
  pub error : rolling (place ∷ older) ≡ Some w.error
  pub tick : w.tick ≡ Some place.tick
  pub positive : 0 < w.error
  pub earliest : (e : ℕ) → Erred p older e → e < w.error

-- The largest rolling error of period p, with the first tick that reached it; 0 and no tick if none is above 0.
pub record Largest (p : ℕ) (js : List Judgement) (w : Worst) : Type 0 where
  pub most : (e : ℕ) → Erred p js e → e ≤ w.error
  pub reached : (w ≡ unerring) ⊎ Reached p js w
