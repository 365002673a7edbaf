-- An accepted block: what its questions have shown. Definitions only.
use Rattle.std.specs.Prelude.{◌≡◌, true, List, ℕ, ◌*◌, ◌/◌, ◌%◌, ◌≤◌, ◌<◌, length, Ok}
use Rattle.pipeline.specs.declared.Pipeline.{Pipeline}
use Rattle.block.specs.BlockCall.{legal, halves_verdict, shorter}
use Rattle.pipeline.specs.WritingBack.{stages_of}

-- a block whose questions were all answered yes
pub record Accepts (c : Pipeline) (block a b : List ℕ) : Type 0 where
  pub chain : legal c ≡ true
  pub whole : length block % (c.format.channels * 2) ≡ 0
  pub some : 0 < length block
  pub most : length block / (c.format.channels * 2) ≤ 8192
  pub room : halves_verdict c.format (stages_of c) (length block) (shorter a b) ≡ Ok tt
