-- Demand 3 (document 01, 'The whole stream'; document 02, Q-1 and Q-2): a single claim about every list of block, reset and finish calls on a freshly
-- opened chain. Definitions only.
use Rattle.std.specs.Prelude.{◌≡◌, List, ◌∷◌, ℕ, length, take, drop}
use Rattle.pcm.specs.declared.PcmFormat.{PcmFormat}
use Rattle.pcm.specs.Frames.{Frame, FramesOf, bytes_of}
use Rattle.rates.specs.declared.LinearResampler.{LinearResampler}
use Rattle.stage.specs.declared.StageKind.{StageKind}
use Rattle.stage.specs.declared.StageKind.TheVariants as kind
use Rattle.pipeline.specs.declared.Pipeline.{Pipeline}
use Rattle.pipeline.specs.Reset.{format_leaving}
use Rattle.pipeline.specs.WritingBack.{stages_of}
use Rattle.block.specs.BlockCall.{block_verdict, shorter}
use Rattle.finish.specs.FinishCall.{finish_verdict}
use Rattle.stream.specs.Calls.{Run}
use Rattle.stream.specs.Opened.{kinds_in}
use Rattle.stream.specs.PlainChain.{plain_out, plain_state, received_by, delivered_by}
use Rattle.stream.specs.PlainClipped.{plain_clips, plain_end_clips}
use Rattle.stream.specs.PlainRoom.{plain_verdict}
use Rattle.stream.specs.PlainEnd.{plain_end, plain_finish, received_at_end, delivered_at_end}
use Rattle.stream.specs.Resamplers.{Resampled, ResampledToEnd}
use Rattle.stream.specs.Stream.{Stream, running, ended, fed}

-- o is the chain that opening returned, with stages of the kinds `kinds_in o`.
-- X is the stream, the frames of accepted blocks since opening, the last reset or the accepted finish before; r holds the chain as the calls
-- left it and their output joined since the stream began.

-- ---- the stream goes on. Document 01's sentences, by part:
--   output      'The last stage's frames, as bytes, are the joined output, or the stream itself where there are no stages.'
--   state       'Gain and the channel stages keep nothing. DC and biquad start each channel with x1, x2, y1, y2 at +0 ..' and
--               a resampler's 'sound state is its newest frame and a phase': each stage's after all that it has received
--   frames      what the stage that i stages stand before has received has one sample of 16 bits for each channel
--   resamplers  'A resampler of unequal rates that has received T frames delivers, in order, each output k ..', for each one in the
--               chain, i stages standing before it: how many frames, and each sample by 'Output k's neighbours' and 'the line there'
--   clipped     document 02: the counts that accepted calls answered are 'the sum over its stages', and add 'up equally over any cutting':
--               each stage's count over all that it has received
pub record RunningStream (o : Pipeline) (X : List Frame) (r : Run) : Type 0 where
  pub output : r.joined ≡ bytes_of (plain_out (kinds_in o) X)
  pub state : stages_of r.chain ≡ plain_state (kinds_in o) X
  pub clipped : r.clipped ≡ plain_clips (kinds_in o) X
  pub frames : (i : ℕ) → FramesOf (format_leaving o.format (take i (stages_of o))).channels (received_by i (kinds_in o) X)
  pub resamplers : (i : ℕ) (s : LinearResampler) (later : List StageKind) → drop i (kinds_in o) ≡ kind.Resample s ∷ later → (s.in_rate ≡ s.out_rate → ⊥)
      → Resampled s (received_by i (kinds_in o) X) (delivered_by i (kinds_in o) X)

-- ---- the last call, an accepted finish, ended the stream. Document 02's sentences, by part:
--   output      'an accepted one's output is the last of the stream that it ends, and a list that ends with it compares that stream's
--               whole output'
--   state       'and the sound state with that after opening'
--   frames      'That frame runs on through the later stages before they finish in turn': what each of them has then received
--   resamplers  'With T frames received, T at least 1, such a resampler has then delivered floor((T - 1) * out / in) + 1 in all': how many,
--               and each sample; the last one's 'value is that last frame, which alone stands for both neighbours and the line'
--   clipped     the finish's count included, over all that each stage has then received
pub record EndedStream (o : Pipeline) (X : List Frame) (r : Run) : Type 0 where
  pub output : r.joined ≡ bytes_of (plain_end (kinds_in o) X)
  pub state : stages_of r.chain ≡ stages_of o
  pub clipped : r.clipped ≡ plain_end_clips (kinds_in o) X
  pub frames : (i : ℕ) → FramesOf (format_leaving o.format (take i (stages_of o))).channels (received_at_end i (kinds_in o) X)
  pub resamplers : (i : ℕ) (s : LinearResampler) (later : List StageKind) → drop i (kinds_in o) ≡ kind.Resample s ∷ later → (s.in_rate ≡ s.out_rate → ⊥)
      → ResampledToEnd s (received_at_end i (kinds_in o) X) (delivered_at_end i (kinds_in o) X)

abbrev pub Compared : Pipeline → Stream → Run → Type 0
Compared o (running X) r = RunningStream o X r
Compared o (ended X) r = EndedStream o X r

-- ---- either
--   count, format, spare: a call moves nothing else of the chain but its counters
--   questions   'A block is accepted if the questions give it no number ..; the stages that will be reached are those that would then
--               take frames in the plain chain': of any next block
--   at_finish   'The room a stage wants here is the bytes it delivers in this call': of any next finish
pub record WholeStream (o : Pipeline) (S : Stream) (r : Run) : Type 0 where
  pub compared : Compared o S r
  pub count : r.chain.count ≡ o.count
  pub format : r.chain.format ≡ o.format
  pub spare : drop o.count r.chain.stages ≡ drop o.count o.stages
  pub questions : (format : PcmFormat) (bytes a b : List ℕ)
      → block_verdict r.chain format (length bytes) (shorter a b) ≡ plain_verdict o.format (kinds_in o) (fed S) format bytes (shorter a b)
  pub at_finish : (a b : List ℕ) → finish_verdict r.chain (shorter a b) ≡ plain_finish o.format (kinds_in o) (fed S) (shorter a b)
