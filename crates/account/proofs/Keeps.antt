-- What is kept goes on to be that of the history. Assumes nothing.
use Rattle.std.proofs.Common.{◌≡◌, ℕ, suc, Bool, true, false, cond, ltb, List, [], ◌∷◌, length, get_or, set, ℤ, nat_abs, Option, refl, ap, ◌∙◌, subst}
use Rattle.std.proofs.lemmas.List.{get_or-set_other}
use Rattle.bounds.specs.Bounds.{bounds}
use Rattle.bounds.specs.Errors.{error_at}
use Rattle.bounds.specs.Track.{Tracks}
use Rattle.bounds.specs.declared.track.Track.{Track}
use Rattle.curve.specs.Shape.{Shape}
use Rattle.factors.specs.Periods.{unread}
use Rattle.factors.specs.Tally.{Tallied, with_reading}
use Rattle.factors.specs.declared.period_record.PeriodRecord.{PeriodRecord}
use Rattle.factors.specs.declared.judgement.Judgement.{Judgement}
use Rattle.factors.specs.declared.tally.Tally.{Tally}
use Rattle.rules.specs.Flags.{available}
use Rattle.rules.specs.Terms.{sides}
use Rattle.rules.specs.declared.reading.Reading.{Reading}
use Rattle.rules.specs.declared.terms.Contract.{Contract}
use Rattle.rules.specs.declared.terms.Contract.TheVariants.{Low, High}
use Rattle.rules.specs.declared.terms.Terms.{Terms}
use Rattle.account.specs.Answers.{answer}
use Rattle.account.specs.declared.answer.Answer.{Answer}
use Rattle.account.specs.History.{period, judgements}
use Rattle.account.specs.State.{Kept, OnlyIn}
use Rattle.account.specs.declared.state.State.{State}

pub length_judgements : (t : Terms) (s : Shape) (c : Contract) (h : List Reading) → length (judgements t s c h) ≡ length h
length_judgements t s c [] = refl
length_judgements t s c (r ∷ h) = ap suc (length_judgements t s c h)

-- a judgement with any error
abbrev pub judged_with : Terms → Contract → Reading → Option ℕ → Judgement
judged_with t c r e = record { tick = nat_abs r.tick; period = period t r; available = available c r.flag; error = e }

tallied_on : (t : Terms) (s : Shape) (c : Contract) (r : Reading) (h : List Reading) (j : Judgement) (e : Option ℕ) (y : Tally) → j ≡ judged_with t c r e → e ≡ error_at t s c r h → Tallied y (j ∷ judgements t s c h) → Tallied y (judgements t s c (r ∷ h))
tallied_on t s c r h j e y ej ee k = subst (λ x. Tallied y (x ∷ judgements t s c h)) (ej ∙ ap (judged_with t c r) ee) k

pub kept_on : (t : Terms) (s : Shape) (r : Reading) (h : List Reading) (k : Track) (low high : Tally) (jl jh : Judgement) (el eh : Option ℕ) → Tracks (sides t) s (r ∷ h) k → jl ≡ judged_with t Low r el → el ≡ error_at t s Low r h → Tallied low (jl ∷ judgements t s Low h) → jh ≡ judged_with t High r eh → eh ≡ error_at t s High r h → Tallied high (jh ∷ judgements t s High h) → Kept t s (r ∷ h) record { track = k; low = low; high = high }
kept_on t s r h k low high jl jh el eh tr l1 l2 l3 h1 h2 h3 =
    record { track = tr; low = tallied_on t s Low r h jl el low l1 l2 l3; high = tallied_on t s High r h jh eh high h1 h2 h3 }

pub answer_is : (t : Terms) (s : Shape) (r : Reading) (h : List Reading) (jl jh : Judgement) (el eh : Option ℕ) (b : ℤ × ℤ) → jl ≡ judged_with t Low r el → el ≡ error_at t s Low r h → jh ≡ judged_with t High r eh → eh ≡ error_at t s High r h → b ≡ bounds (sides t) s r h → ◌≡◌ {A = Answer} record { period = jl.period; bounds = b; low = jl.error; high = jh.error } (answer t s r h)
answer_is t s r h jl jh el eh b l1 l2 h1 h2 e = rw (l1, l2, h1, h2, e)

-- a reading alters no record but that of its period
others : (b : Bool) (rs : List PeriodRecord) (p k : ℕ) (x : PeriodRecord) → (k ≡ p → ⊥) → get_or (cond b (set rs p x) rs) k unread ≡ get_or rs k unread
others true rs p k x n = get_or-set_other rs p k x unread n
others false rs p k x n = refl

only_one : (t : Terms) (c : Contract) (r : Reading) (rs qs : List PeriodRecord) (j : Judgement) (e : Option ℕ) → j ≡ judged_with t c r e → ((o : Option ℕ) × (qs ≡ with_reading rs j o)) → (k : ℕ) → (k ≡ period t r → ⊥) → get_or qs k unread ≡ get_or rs k unread
only_one t c r rs qs j e ej (o, eq) k n =
    ap (λ ys. get_or ys k unread) eq ∙ others (ltb j.period _) rs j.period k _ (λ same. n (same ∙ ap (λ (y : Judgement). y.period) ej))

pub only_in : (t : Terms) (r : Reading) (a : State) (track : Track) (low high : Tally) (jl jh : Judgement) (el eh : Option ℕ) → jl ≡ judged_with t Low r el → ((o : Option ℕ) × (low.records ≡ with_reading a.low.records jl o)) → jh ≡ judged_with t High r eh → ((o : Option ℕ) × (high.records ≡ with_reading a.high.records jh o)) → OnlyIn (period t r) a record { track = track; low = low; high = high }
only_in t r a track low high jl jh el eh l1 l2 h1 h2 =
    record { low = only_one t Low r a.low.records low.records jl el l1 l2; high = only_one t High r a.high.records high.records jh eh h1 h2 }
