-- The room that a stage wants fits a word. Assumes nothing.
use Rattle.std.specs.Prelude.{ℕ, ◌+◌, ◌-◌, ◌*◌, ◌≤◌}
use Rattle.std.proofs.Common.{mul-le-mul, div-le_self, arith}
use Rattle.rates.specs.Rates.{room_frames}
use Rattle.stage.specs.declared.StageKind.{StageKind}
use Rattle.stage.specs.declared.StageKind.TheVariants as kind
use Rattle.stage.specs.Rooms.{frames_wanted, Bounded}

-- room for a stage fits a word
pub wanted_most : (k : StageKind) (n : ℕ) → Bounded k → n ≤ 2400000000000 → frames_wanted k n ≤ 922000000000000000
unfolding frames_wanted room_frames
wanted_most (kind.Gain g) n b h = omega arith
wanted_most kind.MonoToStereo n b h = omega arith
wanted_most kind.StereoToMono n b h = omega arith
wanted_most (kind.Resample q) n b h = omega (arith, div-le_self (n * q.out_rate + (q.in_rate - 1)) q.in_rate, mul-le-mul h b.output_rate.1, b.input_rate.1)
wanted_most (kind.DcBlock c) n b h = omega arith
wanted_most (kind.Biquad c) n b h = omega arith

pub wide : (w g : ℕ) → w ≤ 922000000000000000 → g ≤ 2 → w * (g * 2) ≤ 3688000000000000000
wide w g h k = mul-le-mul h (let l : g * 2 ≤ 4 = omega arith in l)
