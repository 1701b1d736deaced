use Rattle.std.proofs.Common.{◌≡◌, Bool, List, [], ◌∷◌, Some, sym, refl, subst, ◌∙◌, arith}
use Rattle.std.proofs.lemmas.Grind.{common_steps}
use Rattle.std.proofs.lemmas.List.{get_or_default}
use Rattle.std.proofs.lemmas.List.MinMax.{IsFirstBest-from_best_of}
use Rattle.std.specs.Cmp.{IsStrictWeakOrder}
use Rattle.std.specs.List.{best_of}
use Rattle.rules.specs.Least.{least, EarliestLeast}
use Rattle.rules.proofs.run.least.Goals as goal

is_earliest : {X : Type 0} (before : X → X → Bool) → IsStrictWeakOrder before → (run : List X) → EarliestLeast before run (least before run)
is_earliest before ranks [] = refl
is_earliest before ranks (x ∷ xs) =
    let f = IsFirstBest-from_best_of ranks x xs in
    (f.0, f.1, get_or_default (x ∷ xs) f.0 (best_of before x xs) x f.1.0 ∙ f.2)

pub returns-clause-earliest : goal.returns-clause-earliest
returns-clause-earliest g c =
    let value : Some c.loop-x.best ≡ least g.O.Order.before c.args.run.now = grind (arith, common_steps) in
    subst (EarliestLeast g.O.Order.before c.args.run.now) (sym value) (is_earliest g.O.Order.before g.met.O.Order.ranks c.args.run.now)
