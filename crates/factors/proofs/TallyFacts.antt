-- The records follow the readings, each those of its own period. Assumes nothing.
use Rattle.std.proofs.Common.{◌≡◌, ℕ, ◌+◌, ◌-◌, ◌^◌, ◌<◌, ◌≤◌, min, true, false, eqb, List, [], ◌∷◌, length, get_or, set, Option, sym, ap, ◌∙◌, subst, inl, inr, arith}
use Rattle.std.proofs.lemmas.Bool.{cases_eq, cases_lt, lt-ltb, le-ltb, cond-true, cond-false, eq-eqb, ne_eqb}
use Rattle.std.proofs.lemmas.Bool.Decides.{nat_tests}
use Rattle.std.proofs.lemmas.List.{get_or-set_same, get_or-set_other, length-set, set_past}
use Rattle.factors.specs.declared.judgement.Judgement.{Judgement}
use Rattle.factors.specs.declared.period_record.PeriodRecord.{PeriodRecord}
use Rattle.factors.specs.declared.rolling.Rolling.{Rolling}
use Rattle.factors.specs.declared.tally.Tally.{Tally}
use Rattle.factors.specs.Periods.{period_count, readings, record_of, beyond, noted}
use Rattle.factors.specs.Rolling.{rolling, Runs}
use Rattle.factors.specs.Tally.{Tallied, most_readings, with_reading}

pub readings_most : (p : ℕ) (js : List Judgement) → readings p js ≤ length js
readings_most p [] = omega arith
readings_most p (j ∷ js) = let h = readings_most p js in grind (arith, nat_tests)

-- the count does not fill up, so that a record that takes in a reading of its period counts it
counted : (n : ℕ) → n < most_readings → min (n + 1) (2 ^ 64 - 1) ≡ n + 1
counted n h = omega arith

noted_is : (p : ℕ) (j : Judgement) (js : List Judgement) → j.period ≡ p → length js < most_readings → noted (record_of p js) j (rolling (j ∷ js)) ≡ record_of p (j ∷ js)
noted_is p j js e l =
    let t : eqb j.period p ≡ true = eq-eqb j.period p e in
    let c : min (readings p js + 1) (2 ^ 64 - 1) ≡ readings p js + 1 = counted (readings p js) (omega (arith, readings_most p js)) in
    rw (t, c)

kept_is : (p : ℕ) (j : Judgement) (js : List Judgement) → (j.period ≡ p → ⊥) → record_of p js ≡ record_of p (j ∷ js)
kept_is p j js ne =
    let t : eqb j.period p ≡ false = ne_eqb j.period p ne in
    rw t

each_noted : (records : List PeriodRecord) (j : Judgement) (js : List Judgement) → length records ≡ period_count → length js < most_readings → ((k : ℕ) → k < period_count → get_or records k beyond ≡ record_of k js) → (k : ℕ) → k < period_count → get_or (set records j.period (noted (get_or records j.period beyond) j (rolling (j ∷ js)))) k beyond ≡ record_of k (j ∷ js)
each_noted records j js places l each k h =
    elim (cases_eq k j.period) [
      | inl same ↦
          let within : j.period < length records = omega arith in
          ap (λ i. get_or (set records j.period (noted (get_or records j.period beyond) j (rolling (j ∷ js)))) i beyond) same
          ∙ get_or-set_same records j.period _ beyond within
          ∙ ap (λ r. noted r j (rolling (j ∷ js))) (ap (λ i. get_or records i beyond) (sym same) ∙ each k h)
          ∙ noted_is k j js (sym same) l
      | inr other ↦ get_or-set_other records j.period k _ beyond other ∙ each k h ∙ kept_is k j js (λ e. other (sym e))
    ]

-- a period past the last has no place in the list either
as_set : (records : List PeriodRecord) (j : Judgement) (o : Option ℕ) → length records ≡ period_count → with_reading records j o ≡ set records j.period (noted (get_or records j.period beyond) j o)
as_set records j o places =
    elim (cases_lt j.period period_count) [
      | inl h ↦ cond-true _ _ _ (lt-ltb j.period period_count h)
      | inr h ↦ cond-false _ _ _ (le-ltb j.period period_count h) ∙ sym (set_past records j.period _ (omega arith))
    ]

pub taken_in : (before : Tally) (after : Tally) (j : Judgement) (o : Option ℕ) (r : Rolling) → ((js : List Judgement) → Runs before.rolling js → Runs r (j ∷ js) × (o ≡ rolling (j ∷ js))) → after.rolling ≡ r → after.records ≡ with_reading before.records j o → (js : List Judgement) → length js < most_readings → Tallied before js → Tallied after (j ∷ js)
taken_in before after j o r runs same records js l t =
    let step = runs js t.runs in
    let is : after.records ≡ set before.records j.period (noted (get_or before.records j.period beyond) j (rolling (j ∷ js))) = records ∙ as_set before.records j o t.places ∙ ap (λ x. set before.records j.period (noted (get_or before.records j.period beyond) j x)) step.1 in
    record {
      runs = subst (λ x. Runs x (j ∷ js)) (sym same) step.0;
      places = ap length is ∙ length-set before.records j.period _ ∙ t.places;
      each = λ k h. ap (λ rs. get_or rs k beyond) is ∙ each_noted before.records j js t.places l t.each k h;
    }
