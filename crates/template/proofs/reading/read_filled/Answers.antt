use Rattle.std.proofs.Common.{◌≡◌, ◌-◌, ◌<◌, ◌∷◌, length, take, drop, set, ap, ◌∙◌, w64, SFits, arith, rules}
use Rattle.std.proofs.lemmas.Int.{to_z-of_z}
use Rattle.std.proofs.lemmas.List.{length-set}
use Rattle.std.proofs.lemmas.Slice.{first_rest}
use Rattle.template.proofs.FilledRead.{byte_read, put, put_before, stays_behind, told_at_end}
use Rattle.template.proofs.reading.read_filled.Goals as goal
use Rattle.template.proofs.reading.read_filled.Goals.{then-t-eq35+else-count-numbers+in-Some, else-t-eq35+in-len1-up}

pub returns-in_default-clause-behind : goal.returns-in_default-clause-behind
returns-in_default-clause-behind c =
    let inv = c.loop-t.invariant in
    stays_behind c.args.template.now c.args.bytes.now c.loop-t.t-index c.loop-t.count c.loop-t.rest.now c.loop-t.numbers c.args.numbers.now inv.0 inv.1 inv.3

pub returns-in_default-rest-clause-behind : goal.returns-in_default-rest-clause-behind
returns-in_default-rest-clause-behind c =
    let inv = c.loop-t.invariant in
    stays_behind c.args.template.now c.args.bytes.now c.loop-t.t-index c.loop-t.count c.loop-t.rest.now c.loop-t.numbers c.args.numbers.now inv.0 inv.1 inv.3

pub returns-in_default-rest-2-clause-behind : goal.returns-in_default-rest-2-clause-behind
returns-in_default-rest-2-clause-behind c =
    let inv = c.loop-t.invariant in
    stays_behind c.args.template.now c.args.bytes.now c.loop-t.t-index c.loop-t.count c.loop-t.rest.now c.loop-t.numbers c.args.numbers.now inv.0 inv.1 inv.3

pub loop-t-preserved : goal.loop-t-preserved
loop-t-preserved c =
    let inv = c.loop-t.invariant in
    elim c.if-t-eq35.branch [
      | then-t-eq35+else-count-numbers+in-Some w ↦
          let z = w.in-Some.number in
          let fits : SFits w64 z = search rules in
          let room : c.loop-t.count < length c.loop-t.numbers = omega (arith, w.if-count-numbers.false, inv.1) in
          let now : c.if-t-eq35.numbers ≡ set c.loop-t.numbers c.loop-t.count z = w.numbers-is ∙ ap (set c.loop-t.numbers c.loop-t.count) (to_z-of_z w64 z fits) in
          let long : length (set c.loop-t.numbers c.loop-t.count z) ≡ length c.loop-t.numbers = length-set c.loop-t.numbers c.loop-t.count z in
          rw (now, w.rest-is, w.count-is) (
            put c.args.template.now c.args.bytes.now c.loop-t.t-index c.loop-t-test.true c.loop-t.rest.now c.loop-t.count c.loop-t.numbers c.args.numbers.now inv.0 room
                z w.in-Some.after.now w.if-t-eq35.true w.in-Some.ensures,
            omega (arith, long, room),
            long ∙ inv.2,
            put_before c.args.template.now c.args.bytes.now c.loop-t.t-index c.loop-t-test.true c.loop-t.rest.now c.loop-t.count c.loop-t.numbers c.args.numbers.now inv.0 room z inv.3,
          )
      | else-t-eq35+in-len1-up w ↦
          let after : c.if-t-eq35.rest.now ≡ take (length c.loop-t.rest.now - 1) (drop 1 c.loop-t.rest.now) = ap (λ r. r.now) w.rest-is in
          rw (w.numbers-is, w.count-is, after) (
            byte_read c.args.template.now c.args.bytes.now c.loop-t.t-index c.loop-t-test.true c.loop-t.rest.now (take c.loop-t.count c.loop-t.numbers) inv.0
                _ w.if-t-eq35.false (first_rest c.loop-t.rest.now 0 w.in-len1-up.len_at_least ∙ ap (λ b. b ∷ take (length c.loop-t.rest.now - 1) (drop 1 c.loop-t.rest.now)) w.if-b-t.true),
            inv.1,
            inv.2,
            inv.3,
          )
    ]

pub returns-clause-read : goal.returns-clause-read
returns-clause-read c =
    told_at_end c.args.template.now c.args.bytes.now (length c.args.numbers.now) c.loop-t.t-index c.loop-t.count c.loop-t.rest.now c.loop-t.numbers c.loop-t-test.false c.loop-t.invariant.0 c.is_empty.result c.is_empty.ensures
