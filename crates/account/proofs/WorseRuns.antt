-- Readings that differ only in the power of accepted ones have histories that differ only so, and errors that are not
-- smaller make judgements that are not. Assumes nothing.
use Rattle.std.proofs.Common.{◌≡◌, ℕ, ◌/◌, Bool, true, false, cond, ◌&&◌, ◌⊎◌, List, [], ◌∷◌, nat_abs, Some, None, Option, sym, refl, ap, ◌∙◌, subst, inl, inr, arith}
use Rattle.std.specs.List.{AllZip}
use Rattle.bounds.specs.Window.{newest}
use Rattle.curve.specs.Shape.{Shape}
use Rattle.factors.specs.Promises.{NoSmallerError, NoSmaller}
use Rattle.basics.specs.Check.{unless}
use Rattle.rules.specs.Flags.{available}
use Rattle.rules.specs.ReadingsCheck.{refused_reading, frequency_fits, power_fits, baseline_fits, flag_fits, after_last, in_block}
use Rattle.rules.specs.Terms.{holds}
use Rattle.rules.specs.declared.reading.Reading.{Reading}
use Rattle.rules.specs.declared.reading.SampleFault.{SampleFault}
use Rattle.rules.specs.declared.reading.SampleFault.TheVariants.{Frequency, Power, Baseline, Flag, NotAfterLast, OutsideBlock}
use Rattle.rules.specs.declared.terms.Contract.{Contract}
use Rattle.rules.specs.declared.terms.Terms.{Terms}
use Rattle.rules.proofs.ReadingsFacts.{Passed, passed}
use Rattle.account.specs.History.{admit, taken_in, onward, judgements}
use Rattle.account.specs.Promises.{SameButPower, DifferInPower, NotSmaller, NoSmallerErrors}
use Rattle.account.specs.Settled.{seen}

unless_holds : {F : Type 0} (holds : Bool) (fault : F) (rest : Option F) → holds ≡ true → unless holds fault rest ≡ rest
unless_holds true fault rest e = refl
unless_holds false fault rest e = let z : ◌≡◌ {A = ℕ} 0 1 = cc in absurd (omega arith)

none_from : (t : Terms) (last : Option Reading) (r : Reading) → Passed t last r → refused_reading t last r ≡ None
none_from t last r p =
    unless_holds (frequency_fits r) Frequency _ p.frequency ∙ (unless_holds (power_fits r) Power _ p.power ∙ (unless_holds (baseline_fits r) Baseline _ p.baseline ∙ (unless_holds (flag_fits r) Flag _ p.flag ∙ (unless_holds (after_last last r) NotAfterLast _ p.after ∙ unless_holds (in_block t r) OutsideBlock None p.inside))))

abbrev Alike : List Reading → List Reading → Type 0
Alike h k = AllZip SameButPower h k

same_itself : (r : Reading) → SameButPower r r
same_itself r = record { tick = refl; frequency = refl; baseline = refl; flag = refl }

-- the tick rule looks only at ticks
after_alike : (h k : List Reading) (r q : Reading) → Alike h k → q.tick ≡ r.tick → after_last (newest h) r ≡ after_last (newest k) q
after_alike [] [] r q a e = refl
after_alike [] (y ∷ k) r q a e = absurd a
after_alike (x ∷ h) [] r q a e = absurd a
after_alike (x ∷ h) (y ∷ k) r q (b, a) e = rw (b.tick, e) refl

refused_alike : (t : Terms) (h k : List Reading) (r : Reading) → Alike h k → refused_reading t (newest h) r ≡ refused_reading t (newest k) r
refused_alike t h k r a =
    ap (λ x. unless (frequency_fits r) Frequency (unless (power_fits r) Power (unless (baseline_fits r) Baseline (unless (flag_fits r) Flag (unless x NotAfterLast (unless (in_block t r) OutsideBlock None)))))) (after_alike h k r r a refl)

accepted_alike : (t : Terms) (h k : List Reading) (r q : Reading) → Alike h k → refused_reading t (newest h) r ≡ None → SameButPower r q → power_fits q ≡ true → refused_reading t (newest k) q ≡ None
accepted_alike t h k r q a n s w =
    let p = passed t (newest h) r n in
    none_from t (newest k) q record {
      frequency = rw s.frequency p.frequency;
      power = w;
      baseline = rw s.baseline p.baseline;
      flag = rw s.flag p.flag;
      after = sym (after_alike h k r q a s.tick) ∙ p.after;
      inside = rw s.tick p.inside;
    }

admit_alike : (o : Option SampleFault) (r q : Reading) (h k : List Reading) → Alike h k → SameButPower r q → Alike (admit o r h) (admit o q k)
admit_alike None r q h k a s = (s, a)
admit_alike (Some e) r q h k a s = a

taken_alike : (t : Terms) (h k : List Reading) (r q : Reading) → Alike h k → ((r ≡ q) ⊎ ((refused_reading t (newest h) r ≡ None) × SameButPower r q × (power_fits q ≡ true))) → Alike (taken_in t h r) (taken_in t k q)
taken_alike t h k r q a (inl e) =
    subst (λ x. Alike (taken_in t h r) (taken_in t k x)) e
    (subst (λ o. Alike (taken_in t h r) (admit o r k)) (refused_alike t h k r a) (admit_alike (refused_reading t (newest h) r) r r h k a (same_itself r)))
taken_alike t h k r q a (inr (n, s, w)) =
    subst (λ o. Alike (admit o r h) (taken_in t k q)) (sym n)
    (subst (λ o. Alike (r ∷ h) (admit o q k)) (sym (accepted_alike t h k r q a n s w)) (s, a))

pub alike : (t : Terms) (h k rs qs : List Reading) → Alike h k → DifferInPower t h rs qs → Alike (onward t h rs) (onward t k qs)
alike t h k [] [] a d = a
alike t h k [] (q ∷ qs) a d = absurd d
alike t h k (r ∷ rs) [] a d = absurd d
alike t h k (r ∷ rs) (q ∷ qs) a (now, later) = alike t (taken_in t h r) (taken_in t k q) rs qs (taken_alike t h k r q a now) later

-- both are judged, or neither
judged_alike : (b d : Bool) (x y : ℕ) → d ≡ b → NotSmaller (cond b (Some x) None) (cond d (Some y) None) → NoSmallerError (cond b (Some x) None) (cond d (Some y) None)
judged_alike true true x y e n = n
judged_alike false false x y e n = tt
judged_alike true false x y e n = let z : ◌≡◌ {A = ℕ} 0 1 = cc in absurd (omega arith)
judged_alike false true x y e n = let z : ◌≡◌ {A = ℕ} 0 1 = cc in absurd (omega arith)

pub no_smaller : (t : Terms) (s u : Shape) (c : Contract) (h k : List Reading) → Alike h k → NoSmallerErrors t s u c h k → NoSmaller (judgements t (seen t s) c h) (judgements t (seen t u) c k)
no_smaller t s u c [] [] a n = tt
no_smaller t s u c [] (q ∷ k) a n = absurd a
no_smaller t s u c (r ∷ h) [] a n = absurd a
no_smaller t s u c (r ∷ h) (q ∷ k) (b, a) (e, n) = (
  record {
    tick = ap nat_abs b.tick;
    period = ap (λ x. nat_abs x / t.ticks) b.tick;
    available = ap (available c) b.flag;
    error = judged_alike (holds t c && available c r.flag) (holds t c && available c q.flag) _ _ (ap (λ x. holds t c && available c x) b.flag) e;
  },
  no_smaller t s u c h k a n,
)
