-- Bytes can be completed to a form just where the steps over them go on.
use Rattle.std.proofs.Common.{◌≡◌, ℕ, zero, suc, ◌+◌, ◌<◌, ◌≤◌, List, [], ◌∷◌, ◌++◌, length, get_or, take, drop, Some, None, Decides, refl, subst}
use Rattle.std.proofs.lemmas.List.{append_assoc, take-append-drop, take-take}
use Rattle.std.specs.Option.{is_some}
use Rattle.form.specs.Grammar.{IsForm}
use Rattle.form.specs.Misfits.{Completable}
use Rattle.form.specs.Scanning.{closed, step, run}
use Rattle.form.specs.declared.state.State.{State}
use Rattle.form.specs.declared.state.State.TheVariants.{Start, Opened, Word, Gap, Minus, Number, After, Done}
use Rattle.form.proofs.RunFacts.{run_append, run_more}
use Rattle.form.proofs.FormsPass.{form_passes}
use Rattle.form.proofs.PassedForms.{passed_form}

module _ (l m : ℕ) where
  -- Some bytes lead to the end: closing brackets, and what a form or a number still lacks before them.
  closing : (d : ℕ) → (f : List ℕ) × (run l m (closed d) f ≡ Some Done)
  closing zero = ([], refl)
  closing (suc d) = (41 ∷ (closing d).0, (closing d).1)

  finish : (s : State) → (f : List ℕ) × (run l m s f ≡ Some Done)
  finish Start = (40 ∷ (97 ∷ (41 ∷ [])), refl)
  finish (Opened d) = (97 ∷ (41 ∷ (closing d).0), (closing d).1)
  finish (Word left d) = (41 ∷ (closing d).0, (closing d).1)
  finish (Gap d) = (48 ∷ (41 ∷ (closing d).0), (closing d).1)
  finish (Minus d) = (49 ∷ (41 ∷ (closing d).0), (closing d).1)
  finish (Number left d) = (41 ∷ (closing d).0, (closing d).1)
  finish (After d) = (41 ∷ (closing d).0, (closing d).1)
  finish Done = ([], refl)

  pub completable : (p : List ℕ) (s : State) → run l m Start p ≡ Some s → Completable (suc l) m p
  completable p s is =
      let f = finish s in
      (f.0, passed_form l m (p ++ f.0) (rw (run_append l m Start p f.0, is) f.1))

  -- And only where the steps go on.
  decided : (p : List ℕ) → Decides (is_some (run l m Start p)) (Completable (suc l) m p)
  decided p =
      elim (run l m Start p) as (λ o. run l m Start p ≡ o → Decides (is_some o) (Completable (suc l) m p)) [
        | None ↦ λ is. (λ t. cc, λ on. cc (form_passes l m (p ++ on.0) on.1, run_append l m Start p on.0))
        | Some s ↦ λ is. (λ _. completable p s is, λ _. refl)
      ] refl

  -- Whether one byte more can be completed, after bytes that lead to this state.
  pub fits : (bytes : List ℕ) (i : ℕ) (s : State) → i < length bytes → run l m Start (take i bytes) ≡ Some s
      → Decides (is_some (step l m s (get_or bytes i 0))) (Completable (suc l) m (take (i + 1) bytes))
  fits bytes i s inside is = rw (← run_more l m bytes i s inside is) (decided (take (i + 1) bytes))

-- The front of what can be completed can be.
pub shorter_completable : (n m k i : ℕ) (bs : List ℕ) → k ≤ i → Completable n m (take i bs) → Completable n m (take k bs)
shorter_completable n m k i bs less on =
    (drop k (take i bs) ++ on.0, subst (IsForm n m) (rw (← append_assoc, ← take-take k i bs less, take-append-drop) refl) on.1)
