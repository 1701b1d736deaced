-- Four judgements that err are four readings that do, and the other way round. Assumes nothing.
use Rattle.std.proofs.Common.{◌≡◌, ℕ, ◌+◌, ◌*◌, ◌/◌, ◌<◌, ◌≤◌, true, ◌&&◌, List, [], ◌∷◌, ◌++◌, ℤ, pos, ◌+ℤ◌, nat_abs, ◌≤ℤ◌, sym, refl, ap, ◌∙◌, subst, div-lt_iff_lt-mul, arith}
use lib.Signed.{le_z, lt_z}
use Rattle.std.proofs.lemmas.Int.{ints}
use Rattle.std.proofs.lemmas.Bool.{and_parts}
use Rattle.bounds.specs.Errors.{error_at}
use Rattle.bounds.specs.Window.{newest}
use Rattle.curve.specs.Shape.{Shape}
use Rattle.factors.specs.Promises.{Four, Over}
use Rattle.factors.specs.declared.judgement.Judgement.{Judgement}
use Rattle.rules.proofs.ReadingsFacts.{passed, facts, accepted_in_range}
use Rattle.rules.proofs.TermsFacts as terms
use Rattle.rules.specs.Terms.{periods}
use Rattle.rules.specs.declared.reading.Reading.{Reading}
use Rattle.rules.specs.declared.terms.Contract.{Contract}
use Rattle.rules.specs.declared.terms.Terms.{Terms}
use Rattle.account.specs.History.{AllAccepted, period, judgement, judgements}
use Rattle.account.specs.Promises.{FourErr}
use Rattle.account.specs.Settled.{seen}

cons_first : {X : Type 0} {x y : X} {xs ys : List X} → x ∷ xs ≡ y ∷ ys → x ≡ y
cons_first e = cc

cons_rest : {X : Type 0} {x y : X} {xs ys : List X} → x ∷ xs ≡ y ∷ ys → xs ≡ ys
cons_rest e = cc

accepted_tail : (t : Terms) (newer tail : List Reading) → AllAccepted t (newer ++ tail) → AllAccepted t tail
accepted_tail t [] tail a = a
accepted_tail t (r ∷ newer) tail (n, a) = accepted_tail t newer tail a

-- a tick of a block is not negative, and lies in one of its periods
not_negative : (t : Terms) (r : Reading) (h : List Reading) → AllAccepted t (r ∷ h) → pos 0 ≤ℤ r.tick
not_negative t r h (n, a) = (facts r (accepted_in_range t (newest h) r n)).least_tick

in_a_period : (n m : ℕ) (z : ℤ) → 1 ≤ n → (le_z (pos 0) z && lt_z z (pos (m * n))) ≡ true → nat_abs z / n < m
in_a_period n m z h e =
    let b : lt_z z (pos (m * n)) ≡ true = (and_parts (le_z (pos 0) z) (lt_z z (pos (m * n))) e).1 in
    let a : le_z (pos 0) z ≡ true = (and_parts (le_z (pos 0) z) (lt_z z (pos (m * n))) e).0 in
    let below : nat_abs z < m * n = omega (arith, ints) in
    (div-lt_iff_lt-mul {k = n} {x = nat_abs z} {y = m} h).1 below

inside : (t : Terms) (r : Reading) (h : List Reading) → AllAccepted t (r ∷ h) → period t r < periods t
inside t r h (n, a) =
    let some : 16 ≤ t.ticks = (terms.facts t).least_ticks in
    in_a_period t.ticks 8 r.tick (omega arith) (passed t (newest h) r n).inside

next_down : (y z : ℤ) → pos 0 ≤ℤ y → pos 0 ≤ℤ z → z ≡ y +ℤ pos 1 → nat_abs z ≡ nat_abs y + 1
next_down y z hy hz e = omega (arith, ints)

next_up : (y z : ℤ) → pos 0 ≤ℤ y → pos 0 ≤ℤ z → nat_abs z ≡ nat_abs y + 1 → z ≡ y +ℤ pos 1
next_up y z hy hz e = omega (arith, ints)

module _ (t : Terms) (s : Shape) (c : Contract) where
  abbrev js : List Reading → List Judgement
  js h = judgements t (seen t s) c h

  js_append : (newer tail : List Reading) → (xs : List Judgement) × (js (newer ++ tail) ≡ xs ++ js tail)
  js_append [] tail = ([], refl)
  js_append (r ∷ newer) tail =
      let on = js_append newer tail in
      (judgement t (seen t s) c r (newer ++ tail) ∷ on.0, ap (◌∷◌ (judgement t (seen t s) c r (newer ++ tail))) on.1)

  -- a front of the judgements is that of a front of the readings
  split : (h : List Reading) (xs ys : List Judgement) → js h ≡ xs ++ ys → (newer : List Reading) × ((tail : List Reading) × ((h ≡ newer ++ tail) × (js tail ≡ ys)))
  split h [] ys e = ([], (h, (refl, e)))
  split [] (x ∷ xs) ys e = let z : ◌≡◌ {A = ℕ} 0 1 = cc in absurd (omega arith)
  split (r ∷ h) (x ∷ xs) ys e =
      let rest : js h ≡ xs ++ ys = cc in
      let on = split h xs ys rest in
      (r ∷ on.0, (on.1.0, (ap (◌∷◌ r) on.1.1.0, on.1.1.1)))

  abbrev err : Reading → List Reading → Type 0
  err r h = Over t.a (error_at t (seen t s) c r h)

  over : (r : Reading) (k : List Reading) (x : Judgement) → judgement t (seen t s) c r k ≡ x → Over t.a x.error → err r k
  over r k x e o = subst (λ (y : Judgement). Over t.a y.error) (sym e) o

  tick_is : (r : Reading) (k : List Reading) (x : Judgement) → judgement t (seen t s) c r k ≡ x → nat_abs r.tick ≡ x.tick
  tick_is r k x e = ap (λ (y : Judgement). y.tick) e

  period_is : (r : Reading) (k : List Reading) (x : Judgement) → judgement t (seen t s) c r k ≡ x → period t r ≡ x.period
  period_is r k x e = ap (λ (y : Judgement). y.period) e

  -- the readings of four judgements at the front
  module _ (h : List Reading) (acc : AllAccepted t h) (f : Four t (js h)) (newer : List Reading) where
    go : (tail : List Reading) → h ≡ newer ++ tail → js tail ≡ f.fourth ∷ f.third ∷ f.second ∷ f.first ∷ f.older → FourErr t s c h
    go [] stand e = let z : ◌≡◌ {A = ℕ} 0 1 = cc (e) in absurd (omega arith)
    go (r4 ∷ []) stand e = let z : ◌≡◌ {A = ℕ} 0 1 = cc (e) in absurd (omega arith)
    go (r4 ∷ r3 ∷ []) stand e = let z : ◌≡◌ {A = ℕ} 0 1 = cc (e) in absurd (omega arith)
    go (r4 ∷ r3 ∷ r2 ∷ []) stand e = let z : ◌≡◌ {A = ℕ} 0 1 = cc (e) in absurd (omega arith)
    go (r4 ∷ r3 ∷ r2 ∷ r1 ∷ k) stand e =
        let e4 : judgement t (seen t s) c r4 (r3 ∷ r2 ∷ r1 ∷ k) ≡ f.fourth = cons_first e in
        let d3 : js (r3 ∷ r2 ∷ r1 ∷ k) ≡ f.third ∷ f.second ∷ f.first ∷ f.older = cons_rest e in
        let e3 : judgement t (seen t s) c r3 (r2 ∷ r1 ∷ k) ≡ f.third = cons_first d3 in
        let d2 : js (r2 ∷ r1 ∷ k) ≡ f.second ∷ f.first ∷ f.older = cons_rest d3 in
        let e2 : judgement t (seen t s) c r2 (r1 ∷ k) ≡ f.second = cons_first d2 in
        let d1 : js (r1 ∷ k) ≡ f.first ∷ f.older = cons_rest d2 in
        let e1 : judgement t (seen t s) c r1 k ≡ f.first = cons_first d1 in
        let acc4 : AllAccepted t (r4 ∷ r3 ∷ r2 ∷ r1 ∷ k) = accepted_tail t newer (r4 ∷ r3 ∷ r2 ∷ r1 ∷ k) (subst (AllAccepted t) stand acc) in
        let n4 = not_negative t r4 (r3 ∷ r2 ∷ r1 ∷ k) acc4 in
        let n3 = not_negative t r3 (r2 ∷ r1 ∷ k) acc4.1 in
        let n2 = not_negative t r2 (r1 ∷ k) acc4.1.1 in
        let n1 = not_negative t r1 k acc4.1.1.1 in
        let t4 = tick_is r4 (r3 ∷ r2 ∷ r1 ∷ k) f.fourth e4 in
        let t3 = tick_is r3 (r2 ∷ r1 ∷ k) f.third e3 in
        let t2 = tick_is r2 (r1 ∷ k) f.second e2 in
        let t1 = tick_is r1 k f.first e1 in
        let p4 = period_is r4 (r3 ∷ r2 ∷ r1 ∷ k) f.fourth e4 in
        let p3 = period_is r3 (r2 ∷ r1 ∷ k) f.third e3 in
        let p2 = period_is r2 (r1 ∷ k) f.second e2 in
        let p1 = period_is r1 k f.first e1 in
        record {
          newer = newer;
          fourth = r4;
          third = r3;
          second = r2;
          first = r1;
          older = k;
          stand = stand;
          successive = (next_up r1.tick r2.tick n1 n2 (t2 ∙ f.successive.0 ∙ ap (λ x. x + 1) (sym t1)), next_up r2.tick r3.tick n2 n3 (t3 ∙ f.successive.1 ∙ ap (λ x. x + 1) (sym t2)), next_up r3.tick r4.tick n3 n4 (t4 ∙ f.successive.2 ∙ ap (λ x. x + 1) (sym t3)));
          same_period = (p2 ∙ f.same_period.0 ∙ sym p1, p3 ∙ f.same_period.1 ∙ sym p1, p4 ∙ f.same_period.2 ∙ sym p1);
          first_errs = over r1 k f.first e1 f.errors.0;
          second_errs = over r2 (r1 ∷ k) f.second e2 f.errors.1;
          third_errs = over r3 (r2 ∷ r1 ∷ k) f.third e3 f.errors.2;
          fourth_errs = over r4 (r3 ∷ r2 ∷ r1 ∷ k) f.fourth e4 f.errors.3;
        }

  pub readings_err : (h : List Reading) → AllAccepted t h → Four t (js h) → FourErr t s c h
  readings_err h acc f =
      let cut = split h f.newer (f.fourth ∷ f.third ∷ f.second ∷ f.first ∷ f.older) f.stand in
      go h acc f cut.0 cut.1.0 cut.1.1.0 cut.1.1.1

  pub judgements_err : (h : List Reading) → AllAccepted t h → FourErr t s c h → Four t (js h)
  judgements_err h acc f =
      let r4 = f.fourth in let r3 = f.third in let r2 = f.second in let r1 = f.first in let k = f.older in
      let acc4 : AllAccepted t (r4 ∷ r3 ∷ r2 ∷ r1 ∷ k) = accepted_tail t f.newer (r4 ∷ r3 ∷ r2 ∷ r1 ∷ k) (subst (AllAccepted t) f.stand acc) in
      let n4 = not_negative t r4 (r3 ∷ r2 ∷ r1 ∷ k) acc4 in
      let n3 = not_negative t r3 (r2 ∷ r1 ∷ k) acc4.1 in
      let n2 = not_negative t r2 (r1 ∷ k) acc4.1.1 in
      let n1 = not_negative t r1 k acc4.1.1.1 in
      let cut = js_append f.newer (r4 ∷ r3 ∷ r2 ∷ r1 ∷ k) in
      record {
        newer = cut.0;
        fourth = judgement t (seen t s) c r4 (r3 ∷ r2 ∷ r1 ∷ k);
        third = judgement t (seen t s) c r3 (r2 ∷ r1 ∷ k);
        second = judgement t (seen t s) c r2 (r1 ∷ k);
        first = judgement t (seen t s) c r1 k;
        older = js k;
        stand = ap js f.stand ∙ cut.1;
        successive = (next_down _ _ n1 n2 f.successive.0, next_down _ _ n2 n3 f.successive.1, next_down _ _ n3 n4 f.successive.2);
        same_period = f.same_period;
        inside = inside t r1 k acc4.1.1.1;
        errors = (f.first_errs, f.second_errs, f.third_errs, f.fourth_errs);
      }
