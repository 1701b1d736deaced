use Rattle.account.proofs.WholeRuns.{turn, same_kinds, settles}
use Rattle.account.proofs.Rest.{alike_after}
use Rattle.account.proofs.runs.settle.Goals as goal

pub loop-call-preserved : goal.loop-call-preserved
loop-call-preserved g c =
    let inv = c.loop-call.invariant in (
      turn g.C.Curve.shape c.open-account.result c.loop-call.calls c.args.calls.now c.loop-call.call-index c.call-item.result c.make.new.call c.loop-call.account c.make.new.self c.loop-call-test.true c.loop-call.auto.calls inv.0 inv.2 c.make.ensures.made,
      same_kinds c.loop-call.calls c.args.calls.now c.loop-call.call-index c.call-item.result c.make.new.call c.loop-call-test.true c.loop-call.auto.calls inv.1 c.make.ensures.kind,
      alike_after c.loop-call.calls c.args.calls.now c.loop-call.call-index c.make.new.call c.loop-call-test.true c.loop-call.auto.calls inv.2 c.make.new.call,
    )

pub returns : goal.returns
returns g c =
    settles g.C.Curve.shape c.args.terms c.args.curve c.loop-call.calls c.args.calls.now c.loop-call.call-index c.open-account.result c.loop-call.account c.close.result c.loop-call-test.false c.loop-call.auto.calls c.open-account.ensures c.loop-call.invariant.1 c.loop-call.invariant.0 c.close.ensures
