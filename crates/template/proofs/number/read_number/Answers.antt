use Rattle.std.proofs.Common.{◌≡◌, ℕ, ◌-◌, ◌≤◌, List, ◌∷◌, length, get_or, take, drop, None, sym, ap, ◌∙◌, subst, arith}
use Rattle.std.proofs.lemmas.Slice.{first_rest}
use Rattle.template.specs.Numbers.{Led}
use Rattle.template.proofs.DigitsRead.{none_minus, same_plain}
use Rattle.template.proofs.number.read_number.Goals as goal

-- A minus, and what comes after it as a part of a slice has it.
minus_first : (bytes : List ℕ) → 1 ≤ length bytes → get_or bytes 0 0 ≡ 45 → 45 ∷ take (length bytes - 1) (drop 1 bytes) ≡ bytes
minus_first bytes some is = sym (first_rest bytes 0 (omega arith) ∙ ap (λ b. b ∷ take (length bytes - 1) (drop 1 bytes)) is)

pub returns-in_err-n : goal.returns-in_err-n
returns-in_err-n c =
    let minus : get_or c.args.bytes.now 0 0 ≡ 45 = omega arith in
    rw c.from_residual.ensures
    (subst (λ (bs : List ℕ). Led bs None) (minus_first c.args.bytes.now c.in-45.len_at_least minus)
    (none_minus (take (length c.args.bytes.now - 1) (drop 1 c.args.bytes.now)) (λ n rest led. absurd (c.in_err-n.ensures n rest led))))

pub returns-then-n-eq0 : goal.returns-then-n-eq0
returns-then-n-eq0 c =
    let minus : get_or c.args.bytes.now 0 0 ≡ 45 = omega arith in
    subst (λ (bs : List ℕ). Led bs None) (minus_first c.args.bytes.now c.in-45.len_at_least minus)
    (none_minus (take (length c.args.bytes.now - 1) (drop 1 c.args.bytes.now)) (λ n rest led. omega (arith, (same_plain _ n rest led _ _ c.in_ok-n.ensures).0)))
