-- The recursion for E gives the largest rolling error, and the first tick that reached it. Assumes nothing.
use Rattle.std.proofs.Common.{◌≡◌, ℕ, ◌<◌, ◌≤◌, eqb, ltb, ◌⊎◌, List, [], ◌∷◌, ◌++◌, Some, None, Option, sym, refl, ap, subst, inl, inr, arith}
use Rattle.std.proofs.lemmas.Bool.{eq-eqb, eqb-true, ltb-true, cond-true, cond_both}
use Rattle.factors.specs.Rolling.{rolling}
use Rattle.factors.specs.Worst.{unerring, worse, worst, Erred, Reached, Largest}
use Rattle.factors.specs.declared.judgement.Judgement.{Judgement}
use Rattle.factors.specs.declared.worst.Worst.{Worst}
use Rattle.factors.proofs.WorseErrors.{worse_error}

-- no reading makes it smaller
worse_grows : (w : Worst) (o : Option ℕ) (k : ℕ) → w.error ≤ (worse w o k).error
worse_grows w None k = omega arith
worse_grows w (Some e) k = omega (arith, worse_error w e k)

pub worst_grows : (p : ℕ) (j : Judgement) (js : List Judgement) → (worst p js).error ≤ (worst p (j ∷ js)).error
worst_grows p j js = cond_both (eqb j.period p) _ _ (λ (w : Worst). (worst p js).error ≤ w.error) (λ _. worse_grows (worst p js) (rolling (j ∷ js)) j.tick) (λ _. omega arith)

-- it is at least the rolling error at a reading of its period
worse_takes : (w : Worst) (o : Option ℕ) (e k : ℕ) → o ≡ Some e → e ≤ (worse w o k).error
worse_takes w None e k h = let z : ◌≡◌ {A = ℕ} 0 1 = cc in absurd (omega arith)
worse_takes w (Some f) e k h = let same : f ≡ e = cc in omega (arith, worse_error w f k)

worst_takes : (p : ℕ) (j : Judgement) (js : List Judgement) (e : ℕ) → j.period ≡ p → rolling (j ∷ js) ≡ Some e → e ≤ (worst p (j ∷ js)).error
worst_takes p j js e h is =
    omega (arith, worse_takes (worst p js) (rolling (j ∷ js)) e j.tick is, ap (λ (x : Worst). x.error) (cond-true (eqb j.period p) (worse (worst p js) (rolling (j ∷ js)) j.tick) (worst p js) (eq-eqb j.period p h)))

pub worst_at : (p : ℕ) (newer : List Judgement) (j : Judgement) (older : List Judgement) (e : ℕ) → j.period ≡ p → rolling (j ∷ older) ≡ Some e → e ≤ (worst p (newer ++ (j ∷ older))).error
worst_at p [] j older e h is = worst_takes p j older e h is
worst_at p (n ∷ newer) j older e h is = omega (arith, worst_at p newer j older e h is, worst_grows p n (newer ++ (j ∷ older)))

most : (p : ℕ) (js : List Judgement) (e : ℕ) → Erred p js e → e ≤ (worst p js).error
most p js e h = subst (λ x. e ≤ (worst p x).error) (sym h.stands) (worst_at p h.newer h.place h.older e h.period h.error)

-- a larger one is reached where it is found, and stays reached
later : (p : ℕ) (j : Judgement) (js : List Judgement) (w : Worst) → (w ≡ unerring) ⊎ Reached p js w → (w ≡ unerring) ⊎ Reached p (j ∷ js) w
later p j js w (inl h) = inl h
later p j js w (inr h) = inr (record { newer = j ∷ h.newer; place = h.place; older = h.older; stands = ap (λ x. j ∷ x) h.stands; period = h.period; error = h.error; tick = h.tick; positive = h.positive; earliest = h.earliest })

taken : (p : ℕ) (j : Judgement) (js : List Judgement) (o : Option ℕ) → j.period ≡ p → rolling (j ∷ js) ≡ o → (worst p js ≡ unerring) ⊎ Reached p js (worst p js) → (worse (worst p js) o j.tick ≡ unerring) ⊎ Reached p (j ∷ js) (worse (worst p js) o j.tick)
taken p j js None h is before = later p j js (worst p js) before
taken p j js (Some e) h is before =
    cond_both (ltb (worst p js).error e) _ _ (λ w. (w ≡ unerring) ⊎ Reached p (j ∷ js) w)
    (λ t. let above : (worst p js).error < e = ltb-true (worst p js).error e t in inr (record { newer = []; place = j; older = js; stands = refl; period = h; error = is; tick = refl; positive = omega arith; earliest = λ x y. omega (arith, most p js x y) }))
    (λ _. later p j js (worst p js) before)

pub reached : (p : ℕ) (js : List Judgement) → (worst p js ≡ unerring) ⊎ Reached p js (worst p js)
reached p [] = inl refl
reached p (j ∷ js) =
    cond_both (eqb j.period p) _ _ (λ w. (w ≡ unerring) ⊎ Reached p (j ∷ js) w) (λ t. taken p j js (rolling (j ∷ js)) (eqb-true j.period p t) refl (reached p js)) (λ _. later p j js (worst p js) (reached p js))

pub worst_largest : (p : ℕ) (js : List Judgement) → Largest p js (worst p js)
worst_largest p js = record { most = most p js; reached = reached p js }
