-- Where an output lies among the frames, carried from output to output with no division: num / out_r frames as whole frames, 2^32nds of a
-- frame, and out_r-ths of such. Assumes nothing.
use Rattle.std.specs.Prelude.{◌≡◌, ℕ, ◌+◌, ◌*◌, ◌^◌, ◌≤◌, ◌<◌}
use Rattle.resample.specs.declared.Position.{Position}

-- in units of 1 / (2^32 * out_r) of a frame
abbrev pub ticks : ℕ → Position → ℕ
ticks o p = (p.frame * 2 ^ 32 + p.frac) * o + p.over

-- fewer than 2^32 2^32nds, and fewer than out_r out_r-ths of one, where out_r is a rate within its limit
pub record Parts (o : ℕ) (p : Position) : Type 0 where
  pub limit : o ≤ 384000
  pub small : p.frac < 2 ^ 32
  pub rest : p.over < o

-- p is the position num / out_r
pub record At (o num : ℕ) (p : Position) : Type 0 where
  pub is : ticks o p ≡ num * 2 ^ 32
  pub parts : Parts o p

-- r is the sum of the positions p and s
pub record Sum (o : ℕ) (p s r : Position) : Type 0 where
  pub is : ticks o r ≡ ticks o p + ticks o s
  pub parts : Parts o r
