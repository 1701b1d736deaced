-- What is known of accepted readings. Assumes nothing.
use Rattle.std.proofs.Common.{◌≡◌, ◌≤◌, true, pos, negsuc, ◌≤ℤ◌, None, Option, arith}
use Rattle.std.proofs.lemmas.Bool.{and_from}
use Rattle.std.proofs.lemmas.Grind.{common_steps}
use Rattle.basics.specs.Check.{within}
use Rattle.rules.specs.ReadingsCheck.{refused_reading, frequency_fits, power_fits, baseline_fits, flag_fits, after_last, in_block, in_range}
use Rattle.rules.specs.declared.terms.Terms.{Terms}
use Rattle.rules.specs.declared.reading.Reading.{Reading}
use Rattle.rules.specs.declared.reading.SampleFault.TheVariants.{Frequency, Power, Baseline, Flag, NotAfterLast, OutsideBlock}
use Rattle.rules.proofs.Checks.{unless_none}
use Rattle.rules.proofs.TermsFacts as terms

-- what each of the six checks has found
pub record Passed (t : Terms) (last : Option Reading) (r : Reading) : Type 0 where
  pub frequency : frequency_fits r ≡ true
  pub power : power_fits r ≡ true
  pub baseline : baseline_fits r ≡ true
  pub flag : flag_fits r ≡ true
  pub after : after_last last r ≡ true
  pub inside : in_block t r ≡ true

pub passed : (t : Terms) (last : Option Reading) (r : Reading) → refused_reading t last r ≡ None → Passed t last r
passed t last r e =
    let p1 = unless_none (frequency_fits r) Frequency _ e in
    let p2 = unless_none (power_fits r) Power _ p1.1 in
    let p3 = unless_none (baseline_fits r) Baseline _ p2.1 in
    let p4 = unless_none (flag_fits r) Flag _ p3.1 in
    let p5 = unless_none (after_last last r) NotAfterLast _ p4.1 in
    let p6 = unless_none (in_block t r) OutsideBlock _ p5.1 in
    record { frequency = p1.0; power = p2.0; baseline = p3.0; flag = p4.0; after = p5.0; inside = p6.0 }

-- a tick of the block is one of at most 288,000
tick_in : (t : Terms) (r : Reading) → t.ticks ≤ 36000 → in_block t r ≡ true → within (pos 0) (pos 287999) r.tick ≡ true
tick_in t r h e = grind (arith, common_steps)

pub accepted_in_range : (t : Terms) (last : Option Reading) (r : Reading) → refused_reading t last r ≡ None → in_range r ≡ true
unfolding in_range
accepted_in_range t last r e =
    let p = passed t last r e in
    and_from _ _ p.frequency (and_from _ _ p.power (and_from _ _ p.baseline (and_from _ _ p.flag (tick_in t r (terms.facts t).most_ticks p.inside))))

pub record Facts (r : Reading) : Type 0 where
  pub least_frequency : pos 40000 ≤ℤ r.frequency
  pub most_frequency : r.frequency ≤ℤ pos 60000
  pub least_power : negsuc 999998 ≤ℤ r.power
  pub most_power : r.power ≤ℤ pos 999999
  pub least_baseline : negsuc 999998 ≤ℤ r.baseline
  pub most_baseline : r.baseline ≤ℤ pos 999999
  pub least_flag : pos 0 ≤ℤ r.flag
  pub most_flag : r.flag ≤ℤ pos 3
  pub least_tick : pos 0 ≤ℤ r.tick
  pub most_tick : r.tick ≤ℤ pos 287999

pub facts : (r : Reading) → in_range r ≡ true → Facts r
unfolding in_range
facts r e = record {
  least_frequency = grind (arith, common_steps);
  most_frequency = grind (arith, common_steps);
  least_power = grind (arith, common_steps);
  most_power = grind (arith, common_steps);
  least_baseline = grind (arith, common_steps);
  most_baseline = grind (arith, common_steps);
  least_flag = grind (arith, common_steps);
  most_flag = grind (arith, common_steps);
  least_tick = grind (arith, common_steps);
  most_tick = grind (arith, common_steps);
}
