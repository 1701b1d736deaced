-- Looser limits change nothing before the byte that does not fit.
use Rattle.std.proofs.Common.{◌≡◌, ℕ, suc, List, [], ◌∷◌, Some, None, refl, arith}
use Rattle.std.proofs.lemmas.Bool.Decides.{nat_tests}
use Rattle.std.proofs.lemmas.Option.{option_and_then_some}
use Rattle.std.specs.Option.{is_some}
use Rattle.form.specs.Scanning.{item_begins, step, run, with_room}
use Rattle.form.specs.declared.state.State.{State}
use Rattle.form.specs.declared.state.State.TheVariants.{Gap, Number}

-- What holds of one step holds of all.
looser_run : (l m l' m' : ℕ) (f : State → State)
    → ((s t : State) (b : ℕ) → step l m s b ≡ Some t → step l' m' (f s) b ≡ Some (f t))
    → (s t : State) (bs : List ℕ) → run l m s bs ≡ Some t → run l' m' (f s) bs ≡ Some (f t)
looser_run l m l' m' f fits s t [] is = cc
looser_run l m l' m' f fits s t (b ∷ bs) is =
    option_and_then_some _ (step l m s b) t is
    (λ u one more. rw (fits s u b one) (looser_run l m l' m' f fits u t bs more))

-- One depth more.
deeper_item : (l m d : ℕ) (t : State) (b : ℕ) → item_begins l m d b ≡ Some t → item_begins l (suc m) d b ≡ Some t
deeper_item l m d t b is = grind (arith, nat_tests)

deeper_step : (l m : ℕ) (s t : State) (b : ℕ) → step l m s b ≡ Some t → step l (suc m) s b ≡ Some t
deeper_step l m (Gap d) t b is = deeper_item l m d t b is
deeper_step l m _ t b is = is

pub deeper_run : (l m : ℕ) (s t : State) (bs : List ℕ) → run l m s bs ≡ Some t → run l (suc m) s bs ≡ Some t
deeper_run l m = looser_run l m l (suc m) (λ s. s) (deeper_step l m)

-- One digit more: a number has one more left.
abbrev pub longer : State → State
longer (Number left d) = Number (suc left) d
longer s = s

longer_step : (l m : ℕ) (s t : State) (b : ℕ) → step l m s b ≡ Some t → step (suc l) m (longer s) b ≡ Some (longer t)
longer_step l m (Number left d) t b is = grind arith
longer_step l m _ t b is = grind arith

pub longer_run : (l m : ℕ) (s t : State) (bs : List ℕ) → run l m s bs ≡ Some t → run (suc l) m (longer s) bs ≡ Some (longer t)
longer_run l m = looser_run l m (suc l) m longer (longer_step l m)

-- At a byte that does not fit, only a full number has to be given the digit.
pub room_enough : (l m : ℕ) (s : State) (b : ℕ) → step l m s b ≡ None
    → is_some (step (suc l) m (longer s) b) ≡ is_some (step (suc l) m (with_room s) b)
room_enough l m (Number (suc left) d) b none = grind arith
room_enough l m _ b none = refl
