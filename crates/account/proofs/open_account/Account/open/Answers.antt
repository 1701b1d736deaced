use Rattle.std.proofs.Common.{refl, ap}
use Rattle.bounds.proofs.Encloses.{bounds_law}
use Rattle.rules.specs.Terms.{sides}
use Rattle.account.proofs.open_account.Account.open.Goals as goal

pub returns : goal.returns
returns g c = record {
  terms = refl;
  curve = ap (λ y. y.curve) c.seen_by.ensures;
  carries = record { held = ap (λ y. y.held) c.seen_by.ensures; accepted = tt; kept = c.new.ensures _ _ };
  bounds = bounds_law (sides c.args.terms) _ (g.met.C.Curve.facts c.args.curve);
}
