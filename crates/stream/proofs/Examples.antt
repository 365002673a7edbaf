-- Document 01's example (f) by calls on the chain of its recipe's bytes, with a refused block, a reset and finishes among them. Assumes nothing.
use Rattle.std.specs.Prelude.{◌≡◌, refl, List, [], ◌∷◌, ◌++◌, map, ℕ, pos, Ok, Err}
use Rattle.std.proofs.Common.{◌∙◌}
use Rattle.pcm.specs.declared.PcmFormat.{PcmFormat}
use Rattle.pcm.specs.declared.Error.TheVariants.{BufferTooSmall, InvalidGeometry, TooLong}
use Rattle.pcm.specs.Formats.{rate_allowed, channels_allowed, format_allowed}
use Rattle.pcm.specs.Samples.{held, outside, sample_of, low_of, high_of}
use Rattle.pcm.specs.Frames.{Frame, frames_of, bytes_of, written}
use Rattle.gain.specs.Gain.{scaled}
use Rattle.gain.specs.Clipping.{clipped_by, clipped_in}
use Rattle.rates.specs.Divisor.{gcd, largest_divisor}
use Rattle.rates.specs.Rates.{carried_count, resampled_count, rates_allowed, reduced, room_frames}
use Rattle.resample.specs.Value.{interpolated}
use Rattle.resample.specs.Resample.{blend, output_at, whole_outputs, among, first_at, outputs_from, carried_outputs, carried_state, resampled, state_after, resampled_whole}
use Rattle.stage.specs.declared.StageKind.TheVariants as kind
use Rattle.stage.specs.Stages.{stage_out, stage_next, stage_clipped, stage_as_opened}
use Rattle.stage.specs.Rooms.{rates_suit, stage_suits, frames_out, frames_wanted, room_wanted}
use Rattle.recipe.specs.Records.{record_verdict, record_of, records_after}
use Rattle.opening.specs.Opening.{stage_verdict}
use Rattle.pipeline.specs.declared.Pipeline.{Pipeline}
use Rattle.pipeline.specs.Opening.{open_records, open_stages, chain_of, open_call}
use Rattle.pipeline.specs.Reset.{format_leaving}
use Rattle.answers.specs.declared.Answer.TheVariants.{NothingYet}
use Rattle.block.specs.BlockCall.{suited, legal, rooms_verdict, block_verdict, passed, accepted, BlockResult, block_call}
use Rattle.ending.specs.ResamplerEnd.{on_last, whole_last, held_last, resampler_end, end_count, end_frame_count}
use Rattle.ending.specs.StageEnd.{stage_end, frames_at_end}
use Rattle.finish.specs.FinishCall as finishing
use Rattle.finish.specs.FinishCall.{chain_end, room_at_end, end_verdict, finish_verdict, ended_halves, finish_call}
use Rattle.questions.specs.Walk.{block_frames, size_verdict, larger, due_of, first_short, room_of, further, begun, along}
use Rattle.room.specs.Room.{found, block_room, finish_room}
use Rattle.stream.specs.Calls.{Call, block, reset, finish, call_output, finish_output}
use Rattle.stream.specs.Opened.{kinds_in}
use Rattle.stream.specs.PlainChain.{plain_stage, through, plain_out}
use Rattle.stream.specs.PlainRoom.{plain_room, plain_verdict}
use Rattle.stream.specs.PlainEnd.{plain_last, plain_ended, plain_end, plain_end_room}
use Rattle.stream.specs.Stream.{running, ended, stream_of, run_of}
use Rattle.stream.specs.WholeStream.{WholeStream}
use Rattle.stream.proofs.Theorems.{whole_stream}
use Rattle.stream.proofs.laws.Calls.{all_lent_lem}

abbrev mono8000 : PcmFormat
mono8000 = record { rate = 8000; channels = 1 }

-- (f) 8,000 to 16,000 Hz
abbrev recipe : List ℕ
recipe = 0x0A ∷ 0x00 ∷ 0x04 ∷ 0x00 ∷ 0x40 ∷ 0x1F ∷ 0x00 ∷ 0x00 ∷ 0x80 ∷ 0x3E ∷ 0x00 ∷ 0x00 ∷ []

abbrev doubling : Pipeline
doubling = chain_of mono8000 (stage_as_opened (kind.Resample (reduced 8000 16000)) ∷ [])

opened_f : open_call mono8000 recipe ≡ Ok doubling
unfolding open_call open_stages open_records records_after record_verdict stage_verdict record_of rate_allowed channels_allowed format_allowed rates_allowed
opened_f = refl

-- with a note of two bytes before its stage, and one of none after it
noted_f : open_call mono8000 (0x04 ∷ 0x00 ∷ 0x00 ∷ 0x80 ∷ 0x68 ∷ 0x69 ∷ recipe ++ (0x02 ∷ 0x00 ∷ 0xFF ∷ 0xFF ∷ [])) ≡ Ok doubling
unfolding open_call open_stages open_records records_after record_verdict stage_verdict record_of rate_allowed channels_allowed format_allowed rates_allowed
noted_f = refl

-- ---- cut after frame 0 the first call is 'nothing yet', and the second delivers 0, 50, 100, 75
abbrev lent_half : List ℕ
lent_half = 7 ∷ 7 ∷ 7 ∷ 7 ∷ 7 ∷ 7 ∷ 7 ∷ 7 ∷ 7 ∷ 7 ∷ []

abbrev played : Pipeline → List ℕ → BlockResult
played c bytes = block_call c mono8000 0 bytes lent_half lent_half

cut_f : ((played doubling (0 ∷ 0 ∷ [])).answer ≡ Ok (NothingYet 0))
    × (call_output (played (played doubling (0 ∷ 0 ∷ [])).chain (100 ∷ 0 ∷ 50 ∷ 0 ∷ [])) ≡ 0 ∷ 0 ∷ 50 ∷ 0 ∷ 100 ∷ 0 ∷ 75 ∷ 0 ∷ [])
unfolding block_call block_verdict legal suited stage_suits rates_suit rates_allowed rate_allowed channels_allowed format_allowed rooms_verdict room_wanted frames_wanted frames_out resampled_count carried_count room_frames accepted passed written bytes_of frames_of sample_of low_of high_of format_leaving stage_out stage_next stage_clipped resampled state_after carried_outputs outputs_from carried_state among first_at output_at blend interpolated reduced gcd largest_divisor chain_of
cut_f = (
  refl,
  refl,
)

-- ---- a gain of 2 before it: of 20,000 one sample is clipped, and the call is 'nothing yet' all the same (document 02, Q-2)
abbrev louder : Pipeline
louder = chain_of mono8000 (stage_as_opened (kind.Gain (record { q15 = pos 65536 })) ∷ stage_as_opened (kind.Resample (reduced 8000 16000)) ∷ [])

clipped_first : (played louder (0x20 ∷ 0x4E ∷ [])).answer ≡ Ok (NothingYet 1)
unfolding block_call block_verdict legal suited stage_suits rates_suit rates_allowed rate_allowed channels_allowed format_allowed rooms_verdict room_wanted frames_wanted frames_out resampled_count carried_count room_frames accepted passed written bytes_of frames_of sample_of low_of high_of format_leaving stage_out stage_next stage_clipped resampled state_after carried_outputs outputs_from carried_state among first_at output_at blend interpolated reduced gcd largest_divisor chain_of clipped_in clipped_by outside scaled held
clipped_first = refl

-- then finish delivers 50; with a half of one byte it is 3, and needed is 4
abbrev waiting : Pipeline → Pipeline
waiting c = (played (played c (0 ∷ 0 ∷ [])).chain (100 ∷ 0 ∷ 50 ∷ 0 ∷ [])).chain

end_f : (finish_output (finish_call (waiting doubling) lent_half lent_half) ≡ 50 ∷ 0 ∷ []) × ((finish_call (waiting doubling) (7 ∷ []) lent_half).answer ≡ Err (BufferTooSmall 4))
unfolding block_call block_verdict legal suited stage_suits rates_suit rates_allowed rate_allowed channels_allowed format_allowed rooms_verdict room_wanted frames_wanted frames_out resampled_count carried_count room_frames accepted passed written bytes_of frames_of sample_of low_of high_of format_leaving stage_out stage_next stage_clipped resampled state_after carried_outputs outputs_from carried_state among first_at output_at blend interpolated reduced gcd largest_divisor chain_of held_last resampler_end end_count end_frame_count stage_end frames_at_end chain_end room_at_end end_verdict finish_verdict ended_halves finishing.finished finish_call
end_f = (
  refl,
  refl,
)

-- ---- the room known beforehand (document 02, Q-5): three frames bring four and want 14 bytes in each half; one brings nothing yet and wants 6;
-- of none and of 8,193 nothing is told; then the finish brings one frame and wants 2
room_f : (block_room doubling 3 ≡ Ok (record { frames = 4; half = 14 })) × (block_room doubling 1 ≡ Ok (record { frames = 0; half = 6 })) × (block_room doubling 0 ≡ Err InvalidGeometry) × (block_room doubling 8193 ≡ Err TooLong)
    × (finish_room doubling ≡ Ok (record { frames = 0; half = 0 })) × (finish_room (waiting doubling) ≡ Ok (record { frames = 1; half = 2 }))
unfolding block_room finish_room found along further begun block_frames size_verdict due_of room_of first_short larger end_count end_frame_count frames_at_end block_call block_verdict legal suited stage_suits rates_suit rates_allowed rate_allowed channels_allowed format_allowed rooms_verdict room_wanted frames_wanted frames_out resampled_count carried_count room_frames accepted passed written bytes_of frames_of sample_of low_of high_of format_leaving stage_out stage_next stage_clipped resampled state_after carried_outputs outputs_from carried_state among first_at output_at blend interpolated reduced gcd largest_divisor chain_of
room_f = (
  refl,
  refl,
  refl,
  refl,
  refl,
  refl,
)

-- ---- `whole_stream` at work
abbrev call : List ℕ → Call
call bytes = block mono8000 0 bytes lent_half lent_half

-- frames 0, 100, 50, cut after frame 0; half a frame is refused, as are five frames for want of room; what came before the reset is gone
abbrev calls : List Call
calls = call (9 ∷ 0 ∷ 9 ∷ 0 ∷ []) ∷ reset ∷ call (0 ∷ 0 ∷ []) ∷ call (1 ∷ []) ∷ call (1 ∷ 0 ∷ 2 ∷ 0 ∷ 3 ∷ 0 ∷ 4 ∷ 0 ∷ 5 ∷ 0 ∷ []) ∷ call (100 ∷ 0 ∷ 50 ∷ 0 ∷ []) ∷ []

abbrev frames : List Frame
frames = map (λ (x : ℕ). pos x ∷ []) (0 ∷ 100 ∷ 50 ∷ [])

stream_f : stream_of doubling calls ≡ running frames
unfolding plain_verdict plain_room plain_stage resampled_whole whole_outputs output_at blend interpolated reduced gcd largest_divisor frames_wanted room_wanted room_frames frames_of sample_of rate_allowed channels_allowed format_allowed chain_of
stream_f = refl

whole_f : WholeStream doubling (running frames) (run_of doubling calls)
whole_f = rw stream_f at (whole_stream mono8000 recipe doubling opened_f calls (all_lent_lem calls refl))

-- 0, 50, 100, 75
plain_f : bytes_of (plain_out (kinds_in doubling) frames) ≡ 0 ∷ 0 ∷ 50 ∷ 0 ∷ 100 ∷ 0 ∷ 75 ∷ 0 ∷ []
unfolding through plain_stage resampled_whole whole_outputs output_at blend interpolated reduced gcd largest_divisor bytes_of low_of high_of chain_of
plain_f = refl

output_f : (run_of doubling calls).joined ≡ 0 ∷ 0 ∷ 50 ∷ 0 ∷ 100 ∷ 0 ∷ 75 ∷ 0 ∷ []
output_f = whole_f.compared.output ∙ plain_f

-- a refused finish, and one that ends the stream
abbrev finished_calls : List Call
finished_calls = calls ++ (finish (7 ∷ []) lent_half ∷ finish lent_half lent_half ∷ [])

stream_ended_f : stream_of doubling finished_calls ≡ ended frames
unfolding plain_verdict plain_room plain_stage plain_last plain_ended plain_end_room on_last whole_last resampled_whole whole_outputs output_at blend interpolated reduced gcd largest_divisor frames_wanted room_wanted room_frames frames_of sample_of rate_allowed channels_allowed format_allowed chain_of
stream_ended_f = refl

whole_ended_f : WholeStream doubling (ended frames) (run_of doubling finished_calls)
whole_ended_f = rw stream_ended_f at (whole_stream mono8000 recipe doubling opened_f finished_calls (all_lent_lem finished_calls refl))

-- 0, 50, 100, 75, 50
plain_ended_f : bytes_of (plain_end (kinds_in doubling) frames) ≡ 0 ∷ 0 ∷ 50 ∷ 0 ∷ 100 ∷ 0 ∷ 75 ∷ 0 ∷ 50 ∷ 0 ∷ []
unfolding through plain_stage plain_last plain_ended on_last whole_last resampled_whole whole_outputs output_at blend interpolated reduced gcd largest_divisor bytes_of low_of high_of chain_of
plain_ended_f = refl

output_ended_f : (run_of doubling finished_calls).joined ≡ 0 ∷ 0 ∷ 50 ∷ 0 ∷ 100 ∷ 0 ∷ 75 ∷ 0 ∷ 50 ∷ 0 ∷ []
output_ended_f = whole_ended_f.compared.output ∙ plain_ended_f

-- a call after it begins a new stream
stream_after_f : stream_of doubling (finished_calls ++ (call (9 ∷ 0 ∷ []) ∷ [])) ≡ running ((pos 9 ∷ []) ∷ [])
unfolding plain_verdict plain_room plain_stage plain_last plain_ended plain_end_room on_last whole_last resampled_whole whole_outputs output_at blend interpolated reduced gcd largest_divisor frames_wanted room_wanted room_frames frames_of sample_of rate_allowed channels_allowed format_allowed chain_of
stream_after_f = refl
