use Rattle.std.proofs.Common.{◌≡◌, map, take, drop}
use Rattle.account.specs.Runs.{entries, is_batch, AllMade}
use Rattle.account.proofs.runs.settle.Given as goal

abbrev pub invariant-loop-call : goal.invariant-loop-call
invariant-loop-call g l =
    AllMade g.C.Curve.shape (entries (take l.call-index l.initial.calls)) (entries (take l.call-index l.calls)) l.initial.account l.account
    × (map is_batch l.calls ≡ map is_batch l.initial.calls)
    × (drop l.call-index l.calls ≡ drop l.call-index l.initial.calls)
