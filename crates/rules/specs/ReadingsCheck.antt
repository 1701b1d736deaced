-- Readings and the check that they have to pass. Assumes nothing.
use Rattle.std.specs.Prelude.{ℕ, ◌*◌, Bool, true, ◌&&◌, pos, negsuc, Some, None, Option, int_le, int_lt}
use Rattle.basics.specs.Check.{unless, within}
use Rattle.rules.specs.Terms.{periods}
use Rattle.rules.specs.declared.terms.Terms.{Terms}
use Rattle.rules.specs.declared.reading.Reading.{Reading}
use Rattle.rules.specs.declared.reading.SampleFault.{SampleFault}
use Rattle.rules.specs.declared.reading.SampleFault.TheVariants.{Frequency, Power, Baseline, Flag, NotAfterLast, OutsideBlock}

-- What a reading has to meet: a frequency from 40,000 to 60,000 mHz; power and baseline from -999,999 to 999,999 kW; a flag
-- from 0 to 3; a tick above that of the last accepted reading, if there is one; a tick of the block.
abbrev pub frequency_fits : Reading → Bool
frequency_fits r = within (pos 40000) (pos 60000) r.frequency

abbrev pub power_fits : Reading → Bool
power_fits r = within (negsuc 999998) (pos 999999) r.power

abbrev pub baseline_fits : Reading → Bool
baseline_fits r = within (negsuc 999998) (pos 999999) r.baseline

abbrev pub flag_fits : Reading → Bool
flag_fits r = within (pos 0) (pos 3) r.flag

abbrev pub after_last : Option Reading → Reading → Bool
after_last None r = true
after_last (Some last) r = int_lt last.tick r.tick

abbrev pub in_block : Terms → Reading → Bool
in_block t r = int_le (pos 0) r.tick && int_lt r.tick (pos (periods t * t.ticks))

-- The first check that a reading fails, in the order of the refusals' numbers.
abbrev pub refused_reading : Terms → Option Reading → Reading → Option SampleFault
refused_reading t last r =
    unless (frequency_fits r) Frequency
    (unless (power_fits r) Power
    (unless (baseline_fits r) Baseline
    (unless (flag_fits r) Flag
    (unless (after_last last r) NotAfterLast
    (unless (in_block t r) OutsideBlock
    None)))))

-- The number of each refusal.
abbrev pub sample_number : SampleFault → ℕ
sample_number Frequency = 13
sample_number Power = 14
sample_number Baseline = 15
sample_number Flag = 16
sample_number NotAfterLast = 17
sample_number OutsideBlock = 18

-- What every accepted reading meets, whatever the terms: a block has at most 288,000 ticks.
unfoldable pub in_range : Reading → Bool
in_range r = frequency_fits r && (power_fits r && (baseline_fits r && (flag_fits r && within (pos 0) (pos 287999) r.tick)))
