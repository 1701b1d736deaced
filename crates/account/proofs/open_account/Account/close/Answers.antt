use Rattle.std.proofs.Common.{sym, subst}
use Rattle.account.specs.Closed.{Closes}
use Rattle.account.proofs.PromisesKept.{closes}
use Rattle.account.proofs.open_account.Account.close.Goals as goal

pub returns : goal.returns
returns g c =
    subst (λ b. Closes g.C.Curve.shape c.args.self b) (sym c.new.ensures)
    (closes g.C.Curve.shape c.args.self (g.met.C.Curve.facts c.args.self.curve.curve) _ _ c.settle.ensures c.settle-2.ensures)
