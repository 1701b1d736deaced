use Rattle.std.proofs.Common.{sym, ap, subst, ◌∙◌}
use Rattle.factors.specs.Money.{earning, come_to}
use Rattle.factors.specs.Promises.{Promised}
use Rattle.factors.proofs.LowestFacts.{tabled_is}
use Rattle.factors.proofs.PromiseFacts.{promised}
use Rattle.factors.proofs.tally.Tally.settle.Goals as goal

pub returns-clause-value : goal.returns-clause-value
returns-clause-value c js h = c.come_to.ensures ∙ ap (come_to (earning c.args.terms.now c.args.contract)) (c.tabled.ensures ∙ tabled_is c.args.terms.now c.args.self.now js h)

pub returns-clause-promised : goal.returns-clause-promised
returns-clause-promised c js h = subst (λ s. Promised c.args.terms.now c.args.contract js s) (sym (returns-clause-value c js h)) (promised c.args.terms.now c.args.contract js)
