-- Laws of the definitions in WholeStream. Assumes nothing.
use Rattle.std.proofs.Common.{sym, subst}
use Rattle.std.specs.Prelude.{List, ◌≤◌, ◌<◌, take}
use Rattle.pcm.specs.Samples.{All}
use Rattle.pcm.specs.Frames.{Frame, FramesOf}
use Rattle.stage.specs.declared.Stage.{Stage}
use Rattle.pipeline.specs.declared.Pipeline.{Pipeline}
use Rattle.pipeline.specs.Reset.{format_leaving}
use Rattle.block.specs.laws.Bounds.{legal_parts}
use Rattle.stream.specs.Calls.{Call, Lent, Run}
use Rattle.stream.specs.Opened.{kinds_in, FreshlyOpened}
use Rattle.stream.specs.PlainChain.{received_by}
use Rattle.stream.specs.PlainEnd.{received_at_end}
use Rattle.stream.specs.Stream.{Stream, running, ended, stream_of, run_of}
use Rattle.stream.proofs.laws.Resamplers.{received_frames, resampler_in_chain, received_at_end_frames, resampler_at_end}
use Rattle.stream.specs.FromChain.{Since, EndedSince}
use Rattle.stream.proofs.laws.AfterCalls.{Stands, as_opened, suit, state_plain, output_plain, clipped_plain, end_state_plain, end_output_plain, end_clipped_plain, verdict_plain, finish_plain, stands_within, after_all}
use Rattle.stream.specs.WholeStream.{RunningStream, EndedStream, WholeStream}

module _ (o : Pipeline) (opened : FreshlyOpened o) where
  two_channels : (0 < o.format.channels) × (o.format.channels ≤ 2)
  two_channels = (legal_parts o opened.lawful).channels

  running_stream : {X : List Frame} {r : Run} → Since o X r → RunningStream o X r
  running_stream {X} {r} v = record {
    output = output_plain o opened v;
    state = state_plain o opened v;
    clipped = clipped_plain o opened v;
    frames = λ i. subst (λ (l : List Stage). FramesOf (format_leaving o.format (take i l)).channels (received_by i (kinds_in o) X)) (sym (as_opened o opened))
        (received_frames o.format (kinds_in o) X (suit o opened) two_channels v.frames i);
    resamplers = resampler_in_chain o.format (kinds_in o) X (suit o opened) two_channels v.frames opened.rates;
  }

  ended_stream : {X : List Frame} {r : Run} → EndedSince o X r → EndedStream o X r
  ended_stream {X} {r} v = record {
    output = end_output_plain o opened v;
    state = end_state_plain o opened v;
    clipped = end_clipped_plain o opened v;
    frames = λ i. subst (λ (l : List Stage). FramesOf (format_leaving o.format (take i l)).channels (received_at_end i (kinds_in o) X)) (sym (as_opened o opened))
        (received_at_end_frames o.format (kinds_in o) X (suit o opened) two_channels v.frames i);
    resamplers = resampler_at_end o.format (kinds_in o) X (suit o opened) two_channels v.frames opened.rates;
  }

  whole : (S : Stream) (r : Run) → Stands o opened S r → WholeStream o S r
  whole (running X) r v = record {
    compared = running_stream v;
    count = v.moved.count;
    format = v.moved.format;
    spare = v.moved.spare;
    questions = verdict_plain o opened v;
    at_finish = finish_plain o opened v;
  }
  whole (ended X) r v = record {
    compared = ended_stream v;
    count = v.moved.count;
    format = v.moved.format;
    spare = v.moved.spare;
    questions = verdict_plain o opened (stands_within o opened (ended X) r v);
    at_finish = finish_plain o opened (stands_within o opened (ended X) r v);
  }

  pub whole_stream_of : (calls : List Call) → All Lent calls → WholeStream o (stream_of o calls) (run_of o calls)
  whole_stream_of calls lent = whole (stream_of o calls) (run_of o calls) (after_all o opened calls lent)
