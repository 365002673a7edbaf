-- What the definitions come to: the chief theorems of this crate. Assumes nothing.
use Rattle.std.specs.Prelude.{◌≡◌, List, ℕ, length, drop}
use Rattle.pcm.specs.Frames.{written}
use Rattle.pipeline.specs.declared.Pipeline.{Pipeline}
use Rattle.chain_words.specs.Layout.{words_of, chain_of_words}
use Rattle.chain_words.specs.Storable.{Storable}
use Rattle.chain_words.specs.laws.Chains.{chain_back, stands_back}

-- words that were written for a chain stand for it
pub written_stands : (c : Pipeline) → Storable c → (w : List ℕ) → chain_of_words (written (words_of c) w) ≡ c
unfolding chain_of_words written
written_stands c u w = rw (stands_back c u (drop (length (words_of c)) w)) (chain_back c u (drop (length (words_of c)) w))
