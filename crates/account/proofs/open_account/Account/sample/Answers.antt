use Rattle.account.proofs.Carrying.{sampled}
use Rattle.account.proofs.open_account.Account.sample.Goals as goal

pub returns : goal.returns
returns g c = sampled g.C.Curve.shape c.args.reading.now c.args.self.now c.advance.new.self c.advance.result c.advance.ensures
