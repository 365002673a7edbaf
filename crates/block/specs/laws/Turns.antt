-- What holds of an accepted block after one stage's turn, before each stage and past the last. Assumes nothing.
use Rattle.std.specs.Prelude.{◌≡◌, true, List, ◌++◌, ℕ, ◌*◌, ◌≤◌, ◌<◌, length, take, drop, Ok}
use Rattle.pcm.specs.declared.PcmFormat.{PcmFormat}
use Rattle.pcm.specs.Frames.{Frame, FramesOf, frames_of, bytes_of}
use Rattle.stage.specs.declared.Stage.{Stage}
use Rattle.stage.specs.Stages.{stage_out, stage_next, format_after}
use Rattle.block.specs.Chain.{chain_out, chain_next}
use Rattle.pipeline.specs.Reset.{format_leaving}
use Rattle.turns.specs.Turns.{Halves, source_at}
use Rattle.block.specs.BlockCall.{put, suited, rooms_verdict, passed}

pub record Turns (f : PcmFormat) (s next : Stage) (xs : List Frame) (i len : ℕ) (before after : Halves) : Type 0 where
  pub keeps : next ≡ stage_next s xs
  pub size : len ≡ length (bytes_of (stage_out s xs))
  pub gives : after ≡ put i (bytes_of (stage_out s xs)) before
  pub frames : FramesOf f.channels xs → FramesOf (format_after f s.kind).channels (stage_out s xs)

-- past the last stage that was run: `old`, `count`, `format`, `block` and `before` are the call's stages, their number, its format, bytes
-- and halves; the stages are now `stages`, and len bytes came out
pub record Ended (old : List Stage) (count : ℕ) (format : PcmFormat) (block : List ℕ) (before : Halves)
    (stages : List Stage) (f : PcmFormat) (len : ℕ) (h : Halves) : Type 0 where
  pub keeps : stages ≡ chain_next (take count old) (frames_of format.channels block) ++ drop count old
  pub size : len ≡ length (bytes_of (chain_out (take count old) (frames_of format.channels block)))
  pub form : (len ≡ 0 → ⊥) → f ≡ format_leaving format (take count old)
  pub halves_are : h ≡ passed 0 (take count old) (frames_of format.channels block) before

-- before stage i + 1: `old`, `count`, `format`, `block` and `before` are the call's stages, their number, its format, bytes and halves;
-- the stages are now `stages`, and stage i + 1 takes xs
pub record Reached (old : List Stage) (count : ℕ) (format : PcmFormat) (block : List ℕ) (before : Halves) (shorter : ℕ)
    (stages : List Stage) (f : PcmFormat) (n i : ℕ) (h : Halves) : Type 0 where
  pub xs : List Frame
  pub good : FramesOf f.channels xs
  pub some : 0 < length xs
  pub channels : (0 < f.channels) × (f.channels ≤ 2)
  pub source : frames_of f.channels (source_at i n block h) ≡ xs
  pub long : length (source_at i n block h) ≡ length xs * (f.channels * 2)
  pub size : n ≡ length (bytes_of xs)
  pub suit : suited f (drop i (take count old)) ≡ true
  pub room : rooms_verdict f (drop i (take count old)) (length xs) shorter ≡ Ok tt
  pub sides : passed 0 (take count old) (frames_of format.channels block) before ≡ passed i (drop i (take count old)) xs h
  pub makes : chain_out (take count old) (frames_of format.channels block) ≡ chain_out (drop i (take count old)) xs
  pub keeps : chain_next (take count old) (frames_of format.channels block) ++ drop count old
      ≡ take i stages ++ (chain_next (drop i (take count old)) xs ++ drop count old)
  pub tail : drop i stages ≡ drop i old
  pub form : format_leaving format (take count old) ≡ format_leaving f (drop i (take count old))
