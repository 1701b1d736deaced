-- Errors that are not smaller give no smaller rolling errors, and the rest stays. Assumes nothing.
use Rattle.std.proofs.Common.{◌≡◌, ℕ, zero, suc, ◌<◌, ◌≤◌, max, Bool, true, false, cond, eqb, ltb, List, [], ◌∷◌, length, Some, None, Option, sym, refl, subst, arith}
use Rattle.std.specs.List.{best_of, AllZip, AllByRecursion}
use Rattle.std.proofs.lemmas.List.Elements.{length_all_zip, AllZip-get_or}
use Rattle.std.proofs.lemmas.Bool.{cond_both, ltb-true, ltb-false}
use Rattle.rules.specs.Least.{least}
use Rattle.factors.specs.Periods.{readings, throughout}
use Rattle.factors.specs.Promises.{NoSmallerError, ErrsNoLess, NoSmaller, AtMost}
use Rattle.factors.specs.Rolling.{joins, onto, run, least_of_four, rolling}
use Rattle.factors.specs.Worst.{worse, worst}
use Rattle.factors.specs.declared.judgement.Judgement.{Judgement}
use Rattle.factors.specs.declared.worst.Worst.{Worst}
use Rattle.factors.proofs.LeastFacts.{least_lowest}

abbrev NoLess : List ℕ → List ℕ → Type 0
NoLess es fs = AllZip (λ e f. e ≤ f) es fs

joins_same : (j k : Judgement) (js ks : List Judgement) → ErrsNoLess j k → NoSmaller js ks → joins k ks ≡ joins j js
joins_same j k [] [] h hs = refl
joins_same j k [] (l ∷ ks) h hs = absurd hs
joins_same j k (i ∷ js) [] h hs = absurd hs
joins_same j k (i ∷ js) (l ∷ ks) h hs = rw (h.tick, h.period, hs.0.tick, hs.0.period)

onto_no_less : (o q : Option ℕ) (es fs : List ℕ) → NoSmallerError o q → NoLess es fs → NoLess (onto o es) (onto q fs)
onto_no_less None None es fs h hs = tt
onto_no_less None (Some f) es fs h hs = absurd h
onto_no_less (Some e) None es fs h hs = absurd h
onto_no_less (Some e) (Some f) es fs h hs = (h, hs)

-- what holds of each side of a choice holds of what is chosen
both_ways : {A B : Type 0} (R : A → B → Type 0) (b : Bool) (x y : A) (u v : B) → R x u → R y v → R (cond b x y) (cond b u v)
both_ways R true x y u v h k = h
both_ways R false x y u v h k = k

run_no_less : (n : ℕ) (js ks : List Judgement) → NoSmaller js ks → NoLess (run n js) (run n ks)
run_no_less zero js ks h = tt
run_no_less (suc n) [] [] h = tt
run_no_less (suc n) [] (k ∷ ks) h = absurd h
run_no_less (suc n) (j ∷ js) [] h = absurd h
run_no_less (suc n) (j ∷ js) (k ∷ ks) h =
    let same : joins k ks ≡ joins j js = joins_same j k js ks h.0 h.1 in
    onto_no_less j.error k.error _ _ h.0.error
    (subst (λ b. NoLess (cond (joins j js) (run n js) []) (cond b (run n ks) [])) (sym same) (both_ways NoLess (joins j js) _ _ _ _ (run_no_less n js ks h.1) tt))

best_no_less : (a b : ℕ) (es fs : List ℕ) → a ≤ b → NoLess es fs → best_of ltb a es ≤ best_of ltb b fs
best_no_less a b es fs h hs =
    let low = least_lowest (λ e. e) b fs b in
    let pairs : NoLess (a ∷ es) (b ∷ fs) = (h, hs) in
    let within : low.place < length (a ∷ es) = omega (arith, low.within, length_all_zip (λ e f. e ≤ f) (a ∷ es) (b ∷ fs) pairs) in
    omega (arith, low.reached, (least_lowest (λ e. e) a es a).below low.place within, AllZip-get_or (λ e f. e ≤ f) (a ∷ es) (b ∷ fs) low.place a b pairs within)

four_no_less : (es fs : List ℕ) → NoLess es fs → NoSmallerError (least_of_four es) (least_of_four fs)
four_no_less [] [] h = tt
four_no_less [] (f ∷ fs) h = absurd h
four_no_less (e ∷ es) [] h = absurd h
four_no_less (e ∷ es) (f ∷ fs) h =
    let same : length (e ∷ es) ≡ length (f ∷ fs) = length_all_zip (λ e f. e ≤ f) (e ∷ es) (f ∷ fs) h in
    subst (λ n. NoSmallerError (least_of_four (e ∷ es)) (cond (eqb n 4) (least ltb (f ∷ fs)) None)) same
    (both_ways NoSmallerError (eqb (length (e ∷ es)) 4) (least ltb (e ∷ es)) None (least ltb (f ∷ fs)) None (best_no_less e f es fs h.0 h.1) tt)

rolling_no_less : (js ks : List Judgement) → NoSmaller js ks → NoSmallerError (rolling js) (rolling ks)
rolling_no_less js ks h = four_no_less (run 4 js) (run 4 ks) (run_no_less 4 js ks h)

-- the error after one more is the larger of the two
pub worse_error : (w : Worst) (e k : ℕ) → (worse w (Some e) k).error ≡ max w.error e
worse_error w e k = cond_both (ltb w.error e) _ _ (λ (x : Worst). x.error ≡ max w.error e) (λ t. omega (arith, ltb-true w.error e t)) (λ t. omega (arith, ltb-false w.error e t))

worse_no_less : (w v : Worst) (o q : Option ℕ) (k l : ℕ) → w.error ≤ v.error → NoSmallerError o q → (worse w o k).error ≤ (worse v q l).error
worse_no_less w v None None k l h e = h
worse_no_less w v None (Some f) k l h e = absurd e
worse_no_less w v (Some x) None k l h e = absurd e
worse_no_less w v (Some x) (Some y) k l h e = omega (arith, worse_error w x k, worse_error v y l)

pub worst_no_less : (p : ℕ) (js ks : List Judgement) → NoSmaller js ks → (worst p js).error ≤ (worst p ks).error
worst_no_less p [] [] h = omega arith
worst_no_less p [] (k ∷ ks) h = absurd h
worst_no_less p (j ∷ js) [] h = absurd h
worst_no_less p (j ∷ js) (k ∷ ks) h =
    let before = worst_no_less p js ks h.1 in
    subst (λ i. (worst p (j ∷ js)).error ≤ (cond (eqb i p) (worse (worst p ks) (rolling (k ∷ ks)) k.tick) (worst p ks)).error) (sym h.0.period)
    (both_ways (λ (w v : Worst). w.error ≤ v.error) (eqb j.period p) _ _ _ _ (worse_no_less (worst p js) (worst p ks) _ _ j.tick k.tick before (rolling_no_less (j ∷ js) (k ∷ ks) h)) before)

pub readings_same : (p : ℕ) (js ks : List Judgement) → NoSmaller js ks → readings p ks ≡ readings p js
readings_same p [] [] h = refl
readings_same p [] (k ∷ ks) h = absurd h
readings_same p (j ∷ js) [] h = absurd h
readings_same p (j ∷ js) (k ∷ ks) h = rw (h.0.period, readings_same p js ks h.1)

pub throughout_same : (p : ℕ) (js ks : List Judgement) → NoSmaller js ks → throughout p ks ≡ throughout p js
throughout_same p [] [] h = refl
throughout_same p [] (k ∷ ks) h = absurd h
throughout_same p (j ∷ js) [] h = absurd h
throughout_same p (j ∷ js) (k ∷ ks) h = rw (h.0.period, h.0.available, throughout_same p js ks h.1)

-- where every error is at most a, so is every rolling error
onto_most : (a : ℕ) (o : Option ℕ) (es : List ℕ) → AtMost a o → AllByRecursion (λ e. e ≤ a) es → AllByRecursion (λ e. e ≤ a) (onto o es)
onto_most a None es h hs = tt
onto_most a (Some e) es h hs = (h, hs)

run_most : (a n : ℕ) (js : List Judgement) → AllByRecursion (λ j. AtMost a j.error) js → AllByRecursion (λ e. e ≤ a) (run n js)
run_most a zero js h = tt
run_most a (suc n) [] h = tt
run_most a (suc n) (j ∷ js) h = onto_most a j.error _ h.0 (cond_both (joins j js) (run n js) [] (AllByRecursion (λ e. e ≤ a)) (λ _. run_most a n js h.1) (λ _. tt))

four_most : (a : ℕ) (es : List ℕ) → AllByRecursion (λ e. e ≤ a) es → AtMost a (least_of_four es)
four_most a [] h = tt
four_most a (e ∷ es) h =
    let least : best_of ltb e es ≤ a = omega (arith, (least_lowest (λ e. e) e es e).below 0 (omega arith), h.0) in
    cond_both (eqb (length (e ∷ es)) 4) (Some (best_of ltb e es)) None (AtMost a) (λ _. least) (λ _. tt)

worse_most : (a : ℕ) (w : Worst) (o : Option ℕ) (k : ℕ) → w.error ≤ a → AtMost a o → (worse w o k).error ≤ a
worse_most a w None k h e = h
worse_most a w (Some x) k h e = omega (arith, worse_error w x k)

pub worst_most : (a p : ℕ) (js : List Judgement) → AllByRecursion (λ j. AtMost a j.error) js → (worst p js).error ≤ a
worst_most a p [] h = omega arith
worst_most a p (j ∷ js) h =
    let before = worst_most a p js h.1 in
    cond_both (eqb j.period p) _ _ (λ (w : Worst). w.error ≤ a) (λ _. worse_most a (worst p js) _ j.tick before (four_most a (run 4 (j ∷ js)) (run_most a 4 (j ∷ js) h))) (λ _. before)
