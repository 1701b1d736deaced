-- The promises, of what a contract comes to after any readings. Assumes nothing.
use Rattle.std.proofs.Common.{◌≡◌, List, [], sym, refl, subst}
use Rattle.curve.specs.Shape.{Shape, IsCurve}
use Rattle.curve.specs.Sides.{sided}
use Rattle.factors.proofs.PromiseFacts as factors
use Rattle.factors.specs.Money.{told, settled}
use Rattle.factors.specs.declared.settlement.Settlement.{Settlement}
use Rattle.rules.specs.declared.reading.Reading.{Reading}
use Rattle.rules.specs.declared.terms.Contract.{Contract}
use Rattle.rules.specs.declared.terms.Contract.TheVariants.{Low, High}
use Rattle.rules.specs.declared.terms.Terms.{Terms}
use Rattle.account.specs.Calls.{Carries}
use Rattle.account.specs.Closed.{told_of, Closes}
use Rattle.account.specs.History.{AllAccepted, history, judgements}
use Rattle.account.specs.Promises.{Promised}
use Rattle.account.specs.Settled.{seen, comes_to}
use Rattle.account.specs.State.{Kept}
use Rattle.account.specs.declared.closed_block.ClosedBlock.{ClosedBlock}
use Rattle.account.specs.declared.open_account.Account.{Account}
use Rattle.account.proofs.FollowingRuns.{within_a}
use Rattle.account.proofs.FourRuns.{readings_err, judgements_err}
use Rattle.account.proofs.WorseRuns.{alike, no_smaller}

pub promised : (t : Terms) (s : Shape) → IsCurve s → (c : Contract) (rs : List Reading) → AllAccepted t (history t rs) → Promised t s c rs (comes_to t s c (history t rs))
promised t s curve c rs acc =
    let p = factors.promised t c (judgements t (seen t s) c (history t rs)) in
    record {
      worse_errors_earn_no_more = λ u qs d n.
          let worse = no_smaller t s u c (history t rs) (history t qs) (alike t [] [] rs qs tt d) n in
          (p.factors (judgements t (seen t u) c (history t qs)) worse, p.payment (judgements t (seen t u) c (history t qs)) worse);
      following_the_curve_is_whole = λ f. p.within (within_a t s curve c (history t rs) f);
      below_whole_exactly_where_four_err =
          (λ b. readings_err t s c (history t rs) acc (p.below.0 b), λ f. p.below.1 (judgements_err t s c (history t rs) acc f));
    }

module _ {C : Type 0} (shape : C → Shape) (a : Account C) where
  -- what is kept is on the curve that the held contracts see
  kept_seen : (h : List Reading) → Carries shape h a → Kept a.terms (seen a.terms (shape a.curve.curve)) h a.state
  kept_seen h k = subst (λ x. Kept a.terms (sided x (shape a.curve.curve)) h a.state) k.held k.kept

  pub closes : IsCurve (shape a.curve.curve) → (low high : Settlement) → ((s : Shape) (h : List Reading) → Kept a.terms s h a.state → told low ≡ settled a.terms Low (judgements a.terms s Low h)) → ((s : Shape) (h : List Reading) → Kept a.terms s h a.state → told high ≡ settled a.terms High (judgements a.terms s High h)) → Closes shape a record { curve = a.curve.curve; low = low; high = high }
  closes curve low high el eh =
      let s = shape a.curve.curve in
      let b : ClosedBlock C = record { curve = a.curve.curve; low = low; high = high } in
      let is : (h : List Reading) → Carries shape h a → (c : Contract) → told_of c b ≡ comes_to a.terms s c h = λ h k c. by h (kept_seen h k) c in
      record {
        curve = refl;
        settled = is;
        promised = λ rs k c. subst (λ x. Promised a.terms s c rs x) (sym (is (history a.terms rs) k c)) (promised a.terms s curve c rs k.accepted);
      }
    where
      by : (h : List Reading) → Kept a.terms (seen a.terms (shape a.curve.curve)) h a.state → (c : Contract) → told_of c record { curve = a.curve.curve; low = low; high = high } ≡ comes_to a.terms (shape a.curve.curve) c h
      by h k Low = el (seen a.terms (shape a.curve.curve)) h k
      by h k High = eh (seen a.terms (shape a.curve.curve)) h k
