-- The bounds enclose what the curve tells in the window. Assumes nothing.
use Rattle.std.proofs.Common.{unwrap_or, rules, ◌≡◌, ℕ, Bool, true, false, cond, List, [], ◌∷◌, map, reverse, get_or, ℤ, pos, ◌+ℤ◌, ◌-ℤ◌, neg_ℤ, ◌≤ℤ◌, sym, ap, ◌∙◌, subst, arith}
use lib.Signed.{lt_z}
use Rattle.std.proofs.lemmas.List.MinMax.{IsFirstBest-from_best_of}
use Rattle.std.proofs.lemmas.List.Elements.{Contains-push, at_from_Contains}
use Rattle.std.proofs.lemmas.List.{reverse-append}
use Rattle.std.proofs.lemmas.Int.{ints, clamps}
use Rattle.std.specs.Int.{int_max, int_min}
use Rattle.std.specs.Cmp.{IsStrictWeakOrder}
use Rattle.std.specs.List.{best_of, Contains}
use Rattle.curve.specs.Shape.{Shape, IsCurve, nominal}
use Rattle.rules.specs.Least.{least}
use Rattle.curve.specs.Sides.{side, sided}
use Rattle.curve.specs.declared.one_sided.Sides.{Sides}
use Rattle.curve.specs.declared.one_sided.Sides.TheVariants.{Low, High, Both}
use Rattle.curve.specs.SidedFacts as sided_facts
use Rattle.rules.specs.declared.reading.Reading.{Reading}
use Rattle.bounds.specs.Bounds.{raw, raw_bounds, bounds, top, bottom}
use Rattle.bounds.specs.Grace.{grace}
use Rattle.bounds.specs.Laws.{BoundsLaw}
use Rattle.bounds.specs.Window.{gap, window, frequencies, lowest, highest}

no_less : (x y : ℤ) → lt_z x y ≡ false → y ≤ℤ x
no_less x y e = grind (arith, ints)

-- no frequency of a window comes before the one that is taken of it
first_is : (before : ℤ → ℤ → Bool) → IsStrictWeakOrder before → (fs : List ℤ) (f : ℤ) → Contains fs f → before f (unwrap_or (least before fs) nominal) ≡ false
first_is before o [] f m = absurd (omega (arith, m.1))
first_is before o (x ∷ xs) f m =
    let at = at_from_Contains (x ∷ xs) f m in
    let b = IsFirstBest-from_best_of o x xs in
    let best = best_of before x xs in
    ap (λ y. before y best) (sym (at.2 x)) ∙ ap (before (get_or (x ∷ xs) at.0 x)) (sym b.2) ∙ b.1.1 at.0 x at.1

pub lowest_is : (fs : List ℤ) (f : ℤ) → Contains fs f → lowest fs ≤ℤ f
lowest_is fs f m = no_less f (lowest fs) (first_is lt_z (search rules) fs f m)

pub highest_is : (fs : List ℤ) (f : ℤ) → Contains fs f → f ≤ℤ highest fs
highest_is fs f m = no_less (highest fs) f (first_is (λ x y. lt_z y x) (search rules) fs f m)

-- what a curve seen from the held contracts tells lies within bottom and top
abbrev Inside : Sides → Shape → Type 0
Inside held s = (f : ℤ) → (bottom held (pos s.full) ≤ℤ s.parts f) × (s.parts f ≤ℤ top held (pos s.full))

side_inside : (held : Sides) (full : ℕ) (p : ℤ) → neg_ℤ (pos full) ≤ℤ p → p ≤ℤ pos full → (bottom held (pos full) ≤ℤ side held p) × (side held p ≤ℤ top held (pos full))
side_inside Low full p l h = (omega (arith, ints, clamps), omega (arith, ints, clamps))
side_inside High full p l h = (omega (arith, ints, clamps), omega (arith, ints, clamps))
side_inside Both full p l h = (l, h)

inside : (held : Sides) (s : Shape) → IsCurve s → Inside held (sided held s)
inside held s c f = side_inside held s.full (s.parts f) (c.least_parts f) (c.most_parts f)

module _ (held : Sides) (s : Shape) (curve : IsCurve s) (in' : Inside held s) where
  raw_encloses : (g : Bool) (fs : List ℤ) (f : ℤ) → Contains fs f → ((raw held s g fs).0 ≤ℤ s.parts f) × (s.parts f ≤ℤ (raw held s g fs).1)
  raw_encloses true fs f m = in' f
  raw_encloses false fs f m = (curve.falls f (highest fs) (highest_is fs f m), curve.falls (lowest fs) f (lowest_is fs f m))

  encloses : (r : Reading) (h : List Reading) (f : ℤ) → Contains (frequencies s.lag (r ∷ h)) f → ((bounds held s r h).0 ≤ℤ s.parts f) × (s.parts f ≤ℤ (bounds held s r h).1)
  encloses r [] f m = raw_encloses (grace held s.lag (r ∷ [])) (frequencies s.lag (r ∷ [])) f m
  encloses r (p ∷ h) f m =
      let e = raw_encloses (grace held s.lag (r ∷ p ∷ h)) (frequencies s.lag (r ∷ p ∷ h)) f m in
      (min_under (raw_bounds held s (r ∷ p ∷ h)).0 _ (s.parts f) e.0, over_max (raw_bounds held s (r ∷ p ∷ h)).1 _ (s.parts f) e.1)
    where
      min_under : (x y z : ℤ) → x ≤ℤ z → int_min x y ≤ℤ z
      min_under x y z h = omega (arith, ints, clamps)

      over_max : (x y z : ℤ) → z ≤ℤ x → z ≤ℤ int_max x y
      over_max x y z h = omega (arith, ints, clamps)

-- the newest frequency stands in its window
own : (lag : ℕ) (r : Reading) (h : List Reading) → Contains (frequencies lag (r ∷ h)) r.frequency
own lag r h =
    let rest = map (λ (x : Reading). x.frequency) (cond (gap r h) [] (window lag h)) in
    subst (λ xs. Contains xs r.frequency) (sym (reverse-append (r.frequency ∷ []) rest)) (Contains-push (reverse rest) r.frequency)

-- the bounds stay within bottom and top
between : (b t x y : ℤ) (n : ℕ) → b ≤ℤ x → b ≤ℤ y → b ≤ℤ int_min x (y +ℤ pos n)
between b t x y n h k = omega (arith, ints, clamps)

under : (t x y : ℤ) (n : ℕ) → x ≤ℤ t → y ≤ℤ t → int_max x (y -ℤ pos n) ≤ℤ t
under t x y n h k = omega (arith, ints, clamps)

module _ (held : Sides) (s : Shape) (in' : Inside held s) where
  raw_inside : (g : Bool) (fs : List ℤ) → (bottom held (pos s.full) ≤ℤ (raw held s g fs).0) × ((raw held s g fs).1 ≤ℤ top held (pos s.full))
  raw_inside true fs = (omega (arith, ints), omega (arith, ints))
  raw_inside false fs = ((in' (highest fs)).0, (in' (lowest fs)).1)

  stays : (r : Reading) (h : List Reading) → (bottom held (pos s.full) ≤ℤ (bounds held s r h).0) × ((bounds held s r h).1 ≤ℤ top held (pos s.full))
  stays r [] = raw_inside (grace held s.lag (r ∷ [])) (frequencies s.lag (r ∷ []))
  stays r (p ∷ h) =
      let now = raw_inside (grace held s.lag (r ∷ p ∷ h)) (frequencies s.lag (r ∷ p ∷ h)) in
      let last = stays p h in (
        between _ (pos 0) (raw_bounds held s (r ∷ p ∷ h)).0 (bounds held s p h).0 s.ramp now.0 last.0,
        under _ (raw_bounds held s (r ∷ p ∷ h)).1 (bounds held s p h).1 s.ramp now.1 last.1,
      )

pub bounds_law : (held : Sides) (s : Shape) → IsCurve s → BoundsLaw held s
bounds_law held s c =
    let k = sided_facts.sided_is_curve held s c in
    let e = encloses held (sided held s) k (inside held s c) in
    let w = stays held (sided held s) (inside held s c) in
    record {
      ordered = λ r h. omega (arith, ints, e r h r.frequency (own s.lag r h));
      above_bottom = λ r h. (w r h).0;
      below_top = λ r h. (w r h).1;
      lower = λ r h f m. (e r h f m).0;
      upper = λ r h f m. (e r h f m).1;
    }
