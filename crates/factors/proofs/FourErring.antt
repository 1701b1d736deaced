-- A rolling error of more than a stands where four successive readings of one period err by more than a. Assumes nothing.
use Rattle.std.proofs.Common.{◌≡◌, ℕ, zero, suc, ◌+◌, ◌<◌, Bool, true, false, cond, eqb, ltb, List, [], ◌∷◌, length, Some, None, Option, sym, refl, ap, subst, arith}
use Rattle.std.specs.List.{best_of, AllByRecursion}
use Rattle.std.proofs.lemmas.Bool.{and_parts, and_from, eqb-true, eq-eqb, cond-true}
use Rattle.std.proofs.lemmas.List.Elements.{All-from_recursion, recursion_from_All}
use Rattle.rules.specs.Least.{least}
use Rattle.factors.specs.Promises.{Over}
use Rattle.factors.specs.Rolling.{together, joins, onto, run, least_of_four, rolling}
use Rattle.factors.specs.declared.judgement.Judgement.{Judgement}
use Rattle.factors.proofs.LeastFacts.{least_lowest}

-- the newest n readings follow on one another and err by more than a
abbrev pub Linked : ℕ → Judgement → List Judgement → Type 0
Linked zero j js = Unit {0}
Linked (suc n) j js = joins j js ≡ true

abbrev pub Erring : ℕ → ℕ → List Judgement → Type 0
Erring a zero js = Unit {0}
Erring a (suc n) [] = ⊥
Erring a (suc n) (j ∷ js) = Over a j.error × Linked n j js × Erring a n js

abbrev Full : ℕ → ℕ → List ℕ → Type 0
Full a n es = (length es ≡ n) × AllByRecursion (λ e. a < e) es

-- their errors are then a full run, and from a full run they follow
onto_full : (a n : ℕ) (o : Option ℕ) (es : List ℕ) → Over a o → Full a n es → Full a (suc n) (onto o es)
onto_full a n None es h f = absurd h
onto_full a n (Some e) es h f = (ap suc f.0, (h, f.1))

linked_full : (a n : ℕ) (j : Judgement) (js : List Judgement) → Linked n j js → Full a n (run n js) → Full a n (cond (joins j js) (run n js) [])
linked_full a zero j js h f = elim (joins j js) as (λ b. Full a 0 (cond b [] [])) [ true ↦ (refl, tt) | false ↦ (refl, tt) ]
linked_full a (suc n) j js h f = subst (λ es. Full a (suc n) es) (sym (cond-true (joins j js) (run (suc n) js) [] h)) f

erring_full : (a n : ℕ) (js : List Judgement) → Erring a n js → Full a n (run n js)
erring_full a zero js h = (refl, tt)
erring_full a (suc n) [] h = absurd h
erring_full a (suc n) (j ∷ js) h = onto_full a n j.error _ h.0 (linked_full a n j js h.1 (erring_full a n js h.2))

full_onto : (a n : ℕ) (o : Option ℕ) (es : List ℕ) → Full a (suc n) (onto o es) → Over a o × Full a n es
full_onto a n None es f = absurd (omega (arith, f.0))
full_onto a n (Some e) es f = (f.1.0, (omega (arith, f.0), f.1.1))

full_linked : (a n : ℕ) (j : Judgement) (js : List Judgement) (b : Bool) → joins j js ≡ b → Full a n (cond b (run n js) []) → Linked n j js × Full a n (run n js)
full_linked a zero j js b h f = (tt, (refl, tt))
full_linked a (suc n) j js true h f = (h, f)
full_linked a (suc n) j js false h f = absurd (omega (arith, f.0))

full_erring : (a n : ℕ) (js : List Judgement) → Full a n (run n js) → Erring a n js
full_erring a zero js f = tt
full_erring a (suc n) [] f = absurd (omega (arith, f.0))
full_erring a (suc n) (j ∷ js) f =
    let p = full_onto a n j.error _ f in
    let q = full_linked a n j js (joins j js) refl p.1 in
    (p.0, q.0, full_erring a n js q.1)

-- the least of some errors is above a exactly if all are
best_over : (a x : ℕ) (es : List ℕ) → a < x → AllByRecursion (λ e. a < e) es → a < best_of ltb x es
best_over a x es h hs =
    let low = least_lowest (λ e. e) x es x in
    omega (arith, low.reached, All-from_recursion (λ e. a < e) (x ∷ es) (h, hs) low.place x low.within)

over_best : (a x : ℕ) (es : List ℕ) → a < best_of ltb x es → AllByRecursion (λ e. a < e) (x ∷ es)
over_best a x es h = recursion_from_All (λ e. a < e) (x ∷ es) (λ k d l. omega (arith, h, (least_lowest (λ e. e) x es d).below k l))

four_full : (a e : ℕ) (b : Bool) (es : List ℕ) → eqb (length es) 4 ≡ b → cond b (least ltb es) None ≡ Some e → a < e → Full a 4 es
four_full a e false es t h l = let z : ◌≡◌ {A = ℕ} 0 1 = cc in absurd (omega arith)
four_full a e true [] t h l = let z : ◌≡◌ {A = ℕ} 0 1 = cc in absurd (omega arith)
four_full a e true (x ∷ es) t h l =
    let is : best_of ltb x es ≡ e = cc in
    let over = over_best a x es (omega (arith, is)) in
    (eqb-true (length (x ∷ es)) 4 t, over)

full_four : (a : ℕ) (es : List ℕ) → Full a 4 es → (e : ℕ) × (least_of_four es ≡ Some e) × (a < e)
full_four a [] f = absurd (omega (arith, f.0))
full_four a (x ∷ es) f = (best_of ltb x es, cond-true (eqb (length (x ∷ es)) 4) (Some (best_of ltb x es)) None (eq-eqb (length (x ∷ es)) 4 f.0), best_over a x es f.1.0 f.1.1)

pub rolling_erring : (a e : ℕ) (js : List Judgement) → rolling js ≡ Some e → a < e → Erring a 4 js
rolling_erring a e js h l = full_erring a 4 js (four_full a e (eqb (length (run 4 js)) 4) (run 4 js) refl h l)

pub erring_rolling : (a : ℕ) (js : List Judgement) → Erring a 4 js → (e : ℕ) × (rolling js ≡ Some e) × (a < e)
erring_rolling a js h = full_four a (run 4 js) (erring_full a 4 js h)

-- what it says of a reading that it follows on another
pub together_parts : (i j : Judgement) → together i j ≡ true → (j.tick ≡ i.tick + 1) × (j.period ≡ i.period)
together_parts i j h =
    let p = and_parts (eqb j.tick (i.tick + 1)) (eqb j.period i.period) h in
    (eqb-true j.tick (i.tick + 1) p.0, eqb-true j.period i.period p.1)

pub together_from : (i j : Judgement) → j.tick ≡ i.tick + 1 → j.period ≡ i.period → together i j ≡ true
together_from i j h k = and_from (eqb j.tick (i.tick + 1)) (eqb j.period i.period) (eq-eqb j.tick (i.tick + 1) h) (eq-eqb j.period i.period k)
