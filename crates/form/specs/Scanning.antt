-- How a form is recognised byte by byte: what has been read so far, as far as it matters for what may follow. The program's own
-- steps; `Misfits` says what they amount to. Assumes nothing.
use Rattle.std.specs.Prelude.{◌≡◌, ℕ, zero, suc, cond, List, [], ◌∷◌, Option, Some, None, Ok, Err, Result, ◌==◌, ◌≢◌, nat_lt, is_some, option_and_then}
use Rattle.form.specs.Alphabet.{letter, digit, first_digit, in_alphabet}
use Rattle.form.specs.declared.misfit.Misfit.{Misfit}
use Rattle.form.specs.declared.misfit.Kind.{Kind}
use Rattle.form.specs.declared.misfit.Kind.TheVariants.{Alien, Misplaced, TooDeep, TooManyDigits}
use Rattle.form.specs.declared.state.State.{State}
use Rattle.form.specs.declared.state.State.TheVariants.{Start, Opened, Word, Gap, Minus, Number, After, Done}

-- After the closing bracket of a form that stands in so many others.
abbrev pub closed : ℕ → State
closed zero = Done
closed (suc outer) = After outer

-- A byte after a whole word or item: a space before the next item, or the closing bracket.
abbrev pub after_item : ℕ → ℕ → Option State
after_item outer b = cond (b == 32) (Some (Gap outer)) (cond (b == 41) (Some (closed outer)) None)

-- A letter or digit after others, where so many may still come.
abbrev pub one_more : (ℕ → ℕ → State) → ℕ → ℕ → Option State
one_more make zero outer = None
one_more make (suc left) outer = Some (make left outer)

-- A byte where an item begins: 0, another digit, a minus, or a form's opening bracket unless it would stand too deep.
abbrev pub item_begins : ℕ → ℕ → ℕ → ℕ → Option State
item_begins more deepest outer b =
    cond (b == 48) (Some (After outer))
    (cond (first_digit b) (Some (Number more outer))
    (cond (b == 45) (Some (Minus outer))
    (cond (b == 40) (cond (nat_lt (suc outer) deepest) (Some (Opened (suc outer))) None)
    None)))

-- One byte more, where a number may have so many digits after its first, and forms may stand so deep; none, where the bytes then
-- begin no form.
abbrev pub step : ℕ → ℕ → State → ℕ → Option State
step more deepest Start b = cond (b == 40) (Some (Opened 0)) None
step more deepest (Opened outer) b = cond (letter b) (Some (Word 7 outer)) None
step more deepest (Word left outer) b = cond (letter b) (one_more Word left outer) (after_item outer b)
step more deepest (Gap outer) b = item_begins more deepest outer b
step more deepest (Minus outer) b = cond (first_digit b) (Some (Number more outer)) None
step more deepest (Number left outer) b = cond (digit b) (one_more Number left outer) (after_item outer b)
step more deepest (After outer) b = after_item outer b
step more deepest Done b = None

-- All bytes, one after another.
abbrev pub run : ℕ → ℕ → State → List ℕ → Option State
run more deepest state [] = Some state
run more deepest state (b ∷ bs) = option_and_then (λ next. run more deepest next bs) (step more deepest state b)

-- The same state, where a number that is full may have one digit more.
abbrev pub with_room : State → State
with_room (Number zero outer) = Number 1 outer
with_room state = state

-- What is wrong with a byte that does not fit after this state: whether it would fit at one depth more, or at one digit more.
abbrev pub kind_after : State → ℕ → Kind
kind_after state b =
    cond (in_alphabet b)
    (cond (is_some (step 9 5 state b)) TooDeep (cond (is_some (step 10 4 (with_room state) b)) TooManyDigits Misplaced))
    Alien

-- The misfit at a byte that does not fit after this state.
abbrev pub misfit_at : State → ℕ → ℕ → Misfit
misfit_at state at b = record { byte = at; kind = kind_after state b }

-- The answer for so many bytes that lead to this state.
abbrev pub Ended : State → ℕ → Result Unit Misfit → Type 0
Ended state many (Ok _) = state ≡ Done
Ended state many (Err misfit) = (misfit ≡ record { byte = many; kind = Misplaced }) × (state ≢ Done)
