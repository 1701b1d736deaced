-- Responses within 1 kW of the curve err by no more than A. Assumes nothing.
use Rattle.std.proofs.Common.{◌≡◌, ℕ, ◌≤◌, List, [], ◌∷◌, Some, None, Option, refl, arith}
use Rattle.std.proofs.lemmas.List.Elements.{All-nil, All-cons}
use Rattle.bounds.proofs.SmallErrors.{follows_small}
use Rattle.bounds.specs.Errors.{error_at}
use Rattle.curve.specs.Shape.{Shape, IsCurve}
use Rattle.factors.specs.Promises.{AtMost, WithinA}
use Rattle.factors.specs.declared.judgement.Judgement.{Judgement}
use Rattle.rules.proofs.TermsFacts as terms
use Rattle.rules.specs.declared.reading.Reading.{Reading}
use Rattle.rules.specs.declared.terms.Contract.{Contract}
use Rattle.rules.specs.declared.terms.Terms.{Terms}
use Rattle.account.specs.History.{judgements}
use Rattle.account.specs.Promises.{AllFollow}
use Rattle.account.specs.Settled.{seen}

at_most : (a : ℕ) (o : Option ℕ) → ((e : ℕ) → o ≡ Some e → e ≤ a) → AtMost a o
at_most a None f = tt
at_most a (Some e) f = f e refl

pub within_a : (t : Terms) (s : Shape) → IsCurve s → (c : Contract) (h : List Reading) → AllFollow t s h → WithinA t (judgements t (seen t s) c h)
within_a t s curve c [] f = All-nil (λ (j : Judgement). AtMost t.a j.error)
within_a t s curve c (r ∷ h) (near, f) =
    All-cons (λ (j : Judgement). AtMost t.a j.error) _ (judgements t (seen t s) c h)
    (at_most t.a (error_at t (seen t s) c r h) (λ e k.
    let small : e ≤ 1000 = follows_small t s curve c r h e near k in
    let a : 1000 ≤ t.a = (terms.facts t).least_a in
    omega arith))
    (within_a t s curve c h f)
