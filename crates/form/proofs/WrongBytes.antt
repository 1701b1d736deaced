-- What the steps over bytes say of them.
use Rattle.std.proofs.Common.{◌≡◌, ℕ, ◌<◌, ◌≤◌, List, length, get_or, take, Option, Some, None, Ok, Err, Result, Decides, refl, ap, sym, subst, inl, inr}
use Rattle.std.proofs.lemmas.List.{take_all}
use Rattle.std.proofs.lemmas.Bool.{cond_both}
use Rattle.std.proofs.lemmas.Bool.Decides.{not_from_Decides}
use Rattle.std.specs.Option.{is_some}
use Rattle.form.specs.Alphabet.{in_alphabet}
use Rattle.form.specs.Misfits.{FirstMisfit, FitsDeeper, FitsLonger, Wrong, Checked}
use Rattle.form.specs.Scanning.{step, run, with_room, kind_after, misfit_at, Ended}
use Rattle.form.specs.declared.misfit.Misfit.{Misfit}
use Rattle.form.specs.declared.misfit.Kind.TheVariants.{Alien, Misplaced, TooDeep, TooManyDigits}
use Rattle.form.specs.declared.state.State.{State}
use Rattle.form.specs.declared.state.State.TheVariants.{Start}
use Rattle.form.proofs.FormsPass.{form_passes}
use Rattle.form.proofs.PassedForms.{passed_form}
use Rattle.form.proofs.Completions.{completable, fits, shorter_completable}
use Rattle.form.proofs.LooserLimits.{longer, deeper_run, longer_run, room_enough}

-- The first bytes lead to this state.
abbrev pub Reached : List ℕ → ℕ → State → Type 0
Reached bytes i s = run 9 4 Start (take i bytes) ≡ Some s

-- The byte after them does not fit.
module _ (bytes : List ℕ) (i : ℕ) (s : State) (inside : i < length bytes) (so_far : Reached bytes i s)
    (next : Option State) (is : next ≡ step 9 4 s (get_or bytes i 0)) (none : next ≡ None) where
  sticks : step 9 4 s (get_or bytes i 0) ≡ None
  sticks = cc

  first_misfit : FirstMisfit bytes i
  first_misfit = record {
    inside = inside;
    before = λ k less. shorter_completable 10 4 k i bytes less (completable 9 4 (take i bytes) s so_far);
    with_it = not_from_Decides _ (fits 9 4 bytes i s inside so_far) (ap is_some sticks);
  }

  deeper : Decides (is_some (step 9 5 s (get_or bytes i 0))) (FitsDeeper bytes i)
  deeper = fits 9 5 bytes i s inside (deeper_run 9 4 Start s (take i bytes) so_far)

  long : Decides (is_some (step 10 4 (with_room s) (get_or bytes i 0))) (FitsLonger bytes i)
  long =
      subst (λ t. Decides t (FitsLonger bytes i)) (room_enough 9 4 s (get_or bytes i 0) sticks)
      (fits 10 4 bytes i (longer s) inside (longer_run 9 4 Start s (take i bytes) so_far))

  wrong_kind : Wrong bytes i (kind_after s (get_or bytes i 0))
  wrong_kind =
      cond_both (in_alphabet (get_or bytes i 0)) _ Alien (Wrong bytes i)
      (λ known. cond_both (is_some (step 9 5 s (get_or bytes i 0))) TooDeep _ (Wrong bytes i)
      (λ fits. (first_misfit, known, deeper.0 fits))
      (λ shallow. cond_both (is_some (step 10 4 (with_room s) (get_or bytes i 0))) TooManyDigits Misplaced (Wrong bytes i)
      (λ fits. (first_misfit, known, not_from_Decides _ deeper shallow, long.0 fits))
      (λ short. inl (first_misfit, known, not_from_Decides _ deeper shallow, not_from_Decides _ long short))))
      (λ alien. (first_misfit, alien))

  pub wrong : (misfit : Misfit) → misfit ≡ misfit_at s i (get_or bytes i 0) → Wrong bytes misfit.byte misfit.kind
  wrong misfit told = subst (λ t. Wrong bytes t.byte t.kind) (sym told) wrong_kind

-- At the end of the bytes.
pub checked : (bytes : List ℕ) (i : ℕ) (s : State) (r : Result Unit Misfit) → length bytes ≤ i → Reached bytes i s
    → Ended s (length bytes) r → Checked bytes r
checked bytes i s (Ok _) all so_far done = passed_form 9 4 bytes (cc (take_all i bytes all))
checked bytes i s (Err misfit) all so_far unfinished =
    let whole : run 9 4 Start bytes ≡ Some s = cc (take_all i bytes all) in
    subst (λ t. Wrong bytes t.byte t.kind) (sym unfinished.0) (inr (
      refl,
      record {
        before = completable 9 4 bytes s whole;
        no_form = λ is. unfinished.1 (cc (form_passes 9 4 bytes is));
      },
    ))
