-- What runs of steps come to.
use Rattle.std.proofs.Common.{◌≡◌, ℕ, ◌+◌, ◌<◌, List, [], ◌∷◌, ◌++◌, length, get_or, take, Some, None, option_and_then, refl}
use Rattle.std.proofs.lemmas.List.{take_more}
use Rattle.form.specs.Scanning.{step, run}
use Rattle.form.specs.declared.state.State.{State}
use Rattle.form.specs.declared.state.State.TheVariants.{Start}

pub run_append : (l m : ℕ) (s : State) (p q : List ℕ)
    → run l m s (p ++ q) ≡ option_and_then (λ t. run l m t q) (run l m s p)
run_append l m s [] q = refl
run_append l m s (b ∷ p) q =
    elim (step l m s b) as (λ o. option_and_then (λ t. run l m t (p ++ q)) o
    ≡ option_and_then (λ t. run l m t q) (option_and_then (λ t. run l m t p) o))
    [ None ↦ refl | Some t ↦ run_append l m t p q ]

-- One byte more after the first bytes.
pub run_more : (l m : ℕ) (bytes : List ℕ) (i : ℕ) (s : State) → i < length bytes → run l m Start (take i bytes) ≡ Some s
    → run l m Start (take (i + 1) bytes) ≡ step l m s (get_or bytes i 0)
run_more l m bytes i s inside is =
    rw (take_more bytes i 0 inside, run_append l m Start (take i bytes) (get_or bytes i 0 ∷ []), is)
    (elim (step l m s (get_or bytes i 0)) as (λ o. option_and_then Some o ≡ o) [ None ↦ refl | Some t ↦ refl ])
