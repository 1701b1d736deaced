-- The kept phase is grace exactly where some reading among the newest lag + 1 opened it. Assumes nothing.
use Rattle.std.proofs.Common.{◌≡◌, ℕ, zero, suc, ◌-◌, ◌≤◌, Bool, true, false, cond, not, ◌||◌, ltb, List, [], ◌∷◌, Some, sym, refl, ap, ◌∙◌, arith}
use Rattle.std.proofs.lemmas.Bool.{lt-ltb, le-ltb, or_parts}
use Rattle.std.proofs.lemmas.Bool.Decides.{nat_tests}
use Rattle.curve.specs.declared.one_sided.Sides.{Sides}
use Rattle.rules.specs.Flags.{brings_back}
use Rattle.rules.specs.declared.reading.Reading.{Reading}
use Rattle.bounds.specs.Window.{successive}
use Rattle.bounds.specs.Grace.{opens, opened, grace}
use Rattle.bounds.specs.Kept.{event, after, in_grace}
use Rattle.bounds.specs.Track.{phase_of}
use Rattle.bounds.specs.declared.phase.Phase.{Phase}
use Rattle.bounds.specs.declared.phase.Phase.TheVariants.{Waiting, Grace, Following}
use Rattle.bounds.specs.declared.phase.Event.{Event}
use Rattle.bounds.specs.declared.phase.Event.TheVariants.{Plain, Gap, ContractBack}

-- what a phase says of a history: grace with so many readings left was opened lag less that many readings ago
abbrev Says : Sides → ℕ → List Reading → Phase → Type 0
Says held lag h Waiting = h ≡ []
Says held lag h (Grace left) = (left ≤ lag) × ((n : ℕ) → opened held n h ≡ ltb (lag - left) n)
Says held lag h Following = opened held (suc lag) h ≡ false

-- an event that opens grace, and one that does not
abbrev starts : Event → Bool
starts Plain = false
starts Gap = true
starts ContractBack = true

starts_is : (held : Sides) (p r : Reading) (h : List Reading) → starts (event held (Some p) r) ≡ opens held r (p ∷ h)
starts_is held p r h = go (successive p r) (brings_back held p.flag r.flag) where
  go : (s b : Bool) → starts (cond s (cond b ContractBack Plain) Gap) ≡ (not s || b)
  go true true = refl
  go true false = refl
  go false b = refl

opened_now : (held : Sides) (n : ℕ) (r : Reading) (h : List Reading) → opens held r h ≡ true → opened held n (r ∷ h) ≡ ltb 0 n
opened_now held zero r h e = refl
opened_now held (suc n) r h e = ap (λ b. b || opened held n h) e ∙ sym (lt-ltb 0 (suc n) (omega arith))

fresh : (held : Sides) (lag : ℕ) (r : Reading) (h : List Reading) → opens held r h ≡ true → Says held lag (r ∷ h) (Grace lag)
fresh held lag r h e =
    let none : 0 ≡ lag - lag = omega arith in
    (omega arith, λ n. opened_now held n r h e ∙ ap (λ k. ltb k n) none)

opened_later : (held : Sides) (n : ℕ) (r : Reading) (h : List Reading) → opens held r h ≡ false → opened held (suc n) (r ∷ h) ≡ opened held n h
opened_later held n r h e = ap (λ b. b || opened held n h) e

one_less : (a b n : ℕ) → b ≡ suc a → ltb a n ≡ ltb b (suc n)
one_less a b n e = grind (arith, nat_tests)

-- one reading less is left of grace
later : (held : Sides) (lag left n : ℕ) (r : Reading) (h : List Reading) → suc left ≤ lag → opens held r h ≡ false → ((m : ℕ) → opened held m h ≡ ltb (lag - suc left) m) → opened held n (r ∷ h) ≡ ltb (lag - left) n
later held lag left zero r h l e o = sym (le-ltb (lag - left) 0 (omega arith))
later held lag left (suc n) r h l e o =
    opened_later held n r h e ∙ o n ∙ one_less (lag - suc left) (lag - left) n (omega arith)

-- what did not open among more did not open among fewer
fewer : (held : Sides) (n : ℕ) (h : List Reading) → opened held (suc n) h ≡ false → opened held n h ≡ false
fewer held zero h e = refl
fewer held (suc n) [] e = refl
fewer held (suc n) (r ∷ h) e =
    let b = or_parts (opens held r h) (opened held (suc n) h) e in
    ap (λ x. x || opened held n h) b.0 ∙ fewer held n h b.1

module _ (held : Sides) (lag : ℕ) (p r : Reading) (h : List Reading) where
  -- by what the reading is
  turn : (e : Event) → starts e ≡ opens held r (p ∷ h) → (ph : Phase) → Says held lag (p ∷ h) ph → Says held lag (r ∷ p ∷ h) (after lag ph e)
  turn Gap e Waiting s = fresh held lag r (p ∷ h) (sym e)
  turn Gap e (Grace left) s = fresh held lag r (p ∷ h) (sym e)
  turn Gap e Following s = fresh held lag r (p ∷ h) (sym e)
  turn ContractBack e Waiting s = fresh held lag r (p ∷ h) (sym e)
  turn ContractBack e (Grace left) s = fresh held lag r (p ∷ h) (sym e)
  turn ContractBack e Following s = fresh held lag r (p ∷ h) (sym e)
  turn Plain e Waiting s = cc
  turn Plain e (Grace zero) s = opened_later held lag r (p ∷ h) (sym e) ∙ s.1 lag ∙ le-ltb (lag - 0) lag (omega arith)
  turn Plain e (Grace (suc left)) s =
      let less : left ≤ lag = omega (arith, s.0) in
      (less, λ n. later held lag left n r (p ∷ h) s.0 (sym e) s.1)
  turn Plain e Following s =
      opened_later held lag r (p ∷ h) (sym e) ∙ fewer held lag (p ∷ h) s

pub says : (held : Sides) (lag : ℕ) (h : List Reading) → Says held lag h (phase_of held lag h)
says held lag [] = refl
says held lag (r ∷ []) = fresh held lag r [] refl
says held lag (r ∷ p ∷ h) = turn held lag p r h (event held (Some p) r) (starts_is held p r h) (phase_of held lag (p ∷ h)) (says held lag (p ∷ h))

grace_says : (held : Sides) (lag : ℕ) (h : List Reading) (ph : Phase) → Says held lag h ph → in_grace ph ≡ grace held lag h
grace_says held lag h Waiting s = sym (ap (opened held (suc lag)) s)
grace_says held lag h (Grace left) s = sym (s.1 (suc lag) ∙ lt-ltb (lag - left) (suc lag) (omega arith))
grace_says held lag h Following s = sym s

pub grace_is : (held : Sides) (lag : ℕ) (h : List Reading) → in_grace (phase_of held lag h) ≡ grace held lag h
grace_is held lag h = grace_says held lag h (phase_of held lag h) (says held lag h)
