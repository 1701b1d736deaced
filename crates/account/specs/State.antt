-- What an account keeps of its history. Assumes nothing.
use Rattle.std.specs.Prelude.{◌≡◌, ℕ, ◌<◌, List, ◌∷◌, length, ◌≢◌, slice_index_or}
use Rattle.bounds.specs.Track.{Tracks}
use Rattle.curve.specs.Shape.{Shape}
use Rattle.factors.specs.Periods.{unread}
use Rattle.factors.specs.Tally.{Tallied}
use Rattle.rules.specs.Terms.{sides}
use Rattle.rules.specs.declared.reading.Reading.{Reading}
use Rattle.rules.specs.declared.terms.Contract.TheVariants.{Low, High}
use Rattle.rules.specs.declared.terms.Terms.{Terms}
use Rattle.account.specs.Answers.{answer}
use Rattle.account.specs.History.{judgements, period}
use Rattle.account.specs.declared.answer.Answer.{Answer}
use Rattle.account.specs.declared.state.State.{State}

-- What is kept is that of the history, on the curve that the held contracts see: the newest reading with its window, phase
-- and bounds, and what the readings come to for each contract.
pub record Kept (t : Terms) (s : Shape) (h : List Reading) (a : State) : Type 0 where
  pub track : Tracks (sides t) s h a.track
  pub low : Tallied a.low (judgements t s Low h)
  pub high : Tallied a.high (judgements t s High h)

-- Only the record of one period is altered, for either contract.
pub record OnlyIn (p : ℕ) (a b : State) : Type 0 where
  pub low : (k : ℕ) → (k ≢ p) → slice_index_or b.low.records k unread ≡ slice_index_or a.low.records k unread
  pub high : (k : ℕ) → (k ≢ p) → slice_index_or b.high.records k unread ≡ slice_index_or a.high.records k unread

-- An accepted reading is taken in and answered.
pub record TakenIn (t : Terms) (s : Shape) (r : Reading) (a b : State) (x : Answer) : Type 0 where
  pub own : OnlyIn (period t r) a b
  pub kept : (h : List Reading) → length h < 288000 → Kept t s h a → Kept t s (r ∷ h) b
  pub answer : (h : List Reading) → length h < 288000 → Kept t s h a → x ≡ answer t s r h
