use lib.Ieee.{of_bits, of_int, round}
use Rattle.cookbook.specs.Cookbook.{cookbook}
use Rattle.cookbook.proofs.BiquadKind.section.Goals as goal

pub returns-in-LowPass : goal.returns-in-LowPass
unfolding cookbook of_bits of_int round
returns-in-LowPass c = rw c.in-LowPass.is c.with_numerator.ensures

pub returns-in-HighPass : goal.returns-in-HighPass
unfolding cookbook of_bits of_int round
returns-in-HighPass c = rw c.in-HighPass.is c.with_numerator-in-HighPass.ensures

pub returns-in-Peak : goal.returns-in-Peak
unfolding cookbook of_bits of_int round
returns-in-Peak c = rw c.in-Peak.is c.with_numerator-in-Peak.ensures

pub returns-in-Notch : goal.returns-in-Notch
unfolding cookbook of_bits of_int round
returns-in-Notch c = rw c.in-Notch.is c.with_numerator-in-Notch.ensures
