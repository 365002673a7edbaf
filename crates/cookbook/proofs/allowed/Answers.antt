use Rattle.std.proofs.Common.{rules}
use lib.Ieee.{of_bits, of_int, round}
use native.Mathlib.Omega.{arith}
use Rattle.cookbook.specs.Cookbook.{design_settings_allowed, frequency_allowed, quality_allowed, cosine_allowed, sine_allowed}
use Rattle.cookbook.proofs.allowed.Goals as goal

pub returns-then-within : goal.returns-then-within
unfolding design_settings_allowed frequency_allowed quality_allowed cosine_allowed sine_allowed of_bits of_int round
returns-then-within c = search rules

pub returns-else-within : goal.returns-else-within
unfolding design_settings_allowed frequency_allowed quality_allowed cosine_allowed sine_allowed of_bits of_int round
returns-else-within c = grind arith
