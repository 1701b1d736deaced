use Rattle.std.proofs.Common.{◌<◌, List, ◌∷◌, sym, ◌∙◌, subst}
use Rattle.bounds.specs.Track.{Tracks}
use Rattle.rules.specs.Terms.{sides}
use Rattle.rules.specs.declared.terms.Contract.TheVariants.{Low, High}
use Rattle.rules.specs.declared.reading.Reading.{Reading}
use Rattle.account.specs.State.{Kept}
use Rattle.account.specs.History.{judgements}
use Rattle.account.proofs.Keeps.{length_judgements, kept_on, answer_is, only_in}
use Rattle.account.proofs.state.State.take_in.Goals as goal

pub returns : goal.returns
returns g c =
    let t = c.args.terms.now in
    let s = g.K.Curve.shape c.args.curve.now in
    let r = c.args.reading.reading in
    let now : (h : List Reading) → Kept t s h c.args.self.now → Tracks (sides t) s (r ∷ h) c.take_in.new.self = λ h k.
    subst (λ x. Tracks x s (r ∷ h) c.take_in.new.self) c.sides.ensures
    (c.take_in.ensures h (subst (λ x. Tracks x s h c.args.self.now.track) (sym c.sides.ensures) k.track)) in
    record {
      own = only_in t r c.args.self.now _ _ _ _ _ _ _ c.judgement-low.ensures c.take_in-2.ensures.own c.judgement-high.ensures c.take_in-3.ensures.own;
      kept = λ h short k.
          kept_on t s r h _ _ _ _ _ _ _ (now h k)
          c.judgement-low.ensures (c.error.ensures.error r h (now h k))
          (c.take_in-2.ensures.tallied (judgements t s Low h) (subst (λ n. n < 288000) (sym (length_judgements t s Low h)) short) k.low)
          c.judgement-high.ensures (c.error-2.ensures.error r h (now h k))
          (c.take_in-3.ensures.tallied (judgements t s High h) (subst (λ n. n < 288000) (sym (length_judgements t s High h)) short) k.high);
      answer = λ h short k.
          answer_is t s r h _ _ _ _ _ c.judgement-low.ensures (c.error.ensures.error r h (now h k)) c.judgement-high.ensures (c.error-2.ensures.error r h (now h k)) (c.bounds.ensures ∙ (now h k).bounds);
    }
