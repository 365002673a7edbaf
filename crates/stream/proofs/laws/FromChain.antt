-- A stream's run from whatever chain it began with, call by call, by the laws of the stages. Assumes nothing.
use Rattle.pcm.specs.Refusals.{Verdict}
use Rattle.std.specs.Prelude.{◌≡◌, refl, ℕ, ◌+◌, ◌≤◌, length, drop, Ok, Err}
use Rattle.std.proofs.Common.{sym, ap, ap₂, ◌∙◌, subst, add-zero, arith}
use mathlib.Core.List.{List, [], ◌++◌, append-nil, map}
use Rattle.pcm.specs.declared.PcmFormat.{PcmFormat}
use Rattle.pcm.specs.declared.Error.{Error}
use Rattle.pcm.specs.Samples.{Bytes}
use Rattle.pcm.specs.Frames.{Frame, FrameOf, FramesOf, frames_of, bytes_of}
use Rattle.pcm.specs.laws.Frames.{bytes-append, frames_are_frames, all_append}
use Rattle.stage.specs.declared.Stage.{Stage}
use Rattle.stage.specs.Stages.{stage_clear}
use Rattle.pipeline.specs.declared.Pipeline.{Pipeline}
use Rattle.pipeline.specs.Reset.{reset_call}
use Rattle.pipeline.specs.WritingBack.{stages_of}
use Rattle.pipeline.proofs.Theorems.{reset_stages}
use Rattle.block.specs.Chain.{chain_out, chain_next, chain_clipped}
use Rattle.block.specs.laws.Chain.{chain_out-nil, chain_next-nil, chain_clipped-nil, chain_out-append, chain_next-append, chain_clipped-append, chain_clear_next}
use Rattle.block.specs.BlockCall.{block_verdict, shorter, accepted, block_call}
use Rattle.block.specs.Turns.{Accepts}
use Rattle.block.specs.laws.Steps.{accepts}
use Rattle.finish.specs.FinishCall.{chain_end, end_clipped, finish_verdict, finished, finish_call}
use Rattle.finish.specs.laws.ChainEnd.{chain_ends, end_clips}
use Rattle.stream.specs.Calls.{block, reset, finish, Run, fresh, joined_by, finished_by, after_call}
use Rattle.stream.specs.Stream.{added_by}
use Rattle.stream.specs.OneCall.{Moved}
use Rattle.stream.proofs.laws.OneCall.{accepted_moves, accepted_output, accepted_clipped, reset_moves, finished_output, finished_clipped, finished_moves}
use Rattle.stream.specs.FromChain.{Since, EndedSince}

-- ---- chains that move on
-- from one that had moved
moves_on : {o c d : Pipeline} {l m : List Stage} → Moved o c l → Moved c d m → Moved o d m
moves_on {o} {c} {d} {l} {m} p q = record {
  stages = q.stages;
  count = q.count ∙ p.count;
  format = q.format ∙ p.format;
  spare = ap (λ (n : ℕ). drop n d.stages) (sym p.count) ∙ q.spare ∙ ap (λ (n : ℕ). drop n c.stages) p.count ∙ p.spare;
  places = q.places;
}

moved_as : {o d : Pipeline} {l m : List Stage} → l ≡ m → Moved o d l → Moved o d m
moved_as {o} {d} e p = subst (Moved o d) e p

-- from one that moved from the same
moved_beside : {o c d : Pipeline} {l m : List Stage} → Moved o c l → Moved o d m → Moved c d m
moved_beside {o} {c} {d} {l} {m} p q = record {
  stages = q.stages;
  count = q.count ∙ sym p.count;
  format = q.format ∙ sym p.format;
  spare = ap (λ (n : ℕ). drop n d.stages) p.count ∙ q.spare ∙ sym p.spare ∙ ap (λ (n : ℕ). drop n c.stages) (sym p.count);
  places = q.places;
}

-- ---- a stream begins
pub begun : (o : Pipeline) → length o.stages ≡ 8 → Since o [] (fresh o)
unfolding bytes_of
begun o places = record {
  output = sym (ap bytes_of (chain_out-nil (stages_of o)));
  clipped = sym (chain_clipped-nil (stages_of o));
  moved = record { stages = sym (chain_next-nil (stages_of o)); count = refl; format = refl; spare = refl; places = places };
  frames = tt;
}

-- with a chain of which only the counters differ
begun_with : (o d : Pipeline) → Moved o d (stages_of o) → Since o [] (fresh d)
unfolding bytes_of
begun_with o d p = record { output = sym (ap bytes_of (chain_out-nil (stages_of o))); clipped = sym (chain_clipped-nil (stages_of o)); moved = moved_as (sym (chain_next-nil (stages_of o))) p; frames = tt }

module _ (o : Pipeline) (places : length o.stages ≡ 8) (few : o.count ≤ 8) where
  -- a chain that was cleared is that with which a stream begins after a reset
  cleared_begins : (d : Pipeline) → Moved o d (map stage_clear (stages_of o)) → Since (reset_call o) [] (fresh d)
  cleared_begins d p = begun_with (reset_call o) d (moved_as (sym (reset_stages o few)) (moved_beside (reset_moves o places few) p))

  module _ (X : List Frame) (r : Run) (v : Since o X r) where
    still_few : r.chain.count ≤ 8
    still_few = omega (arith, few, v.moved.count)

    -- ---- reset
    clear_moves : Moved o (reset_call r.chain) (map stage_clear (stages_of o))
    clear_moves =
        moved_as (ap (map stage_clear) v.moved.stages ∙ chain_clear_next (stages_of o) X) (moves_on v.moved (reset_moves r.chain v.moved.places still_few))

    pub after_reset : Since (reset_call o) [] (after_call r reset)
    after_reset = cleared_begins (reset_call r.chain) clear_moves

    -- ---- a finish
    module _ (a b : List ℕ) where
      after_accepted_finish : EndedSince o X (finished_by r (finished r.chain (record { a = a; b = b })))
      after_accepted_finish = record {
        output =
            ap₂ (λ (u w : List ℕ). u ++ w) v.output
            (finished_output r.chain v.moved.places still_few a b ∙ ap₂ (λ (f : PcmFormat) (l : List Stage). bytes_of (chain_end f l [])) v.moved.format v.moved.stages)
            ∙ sym (bytes-append (chain_out (stages_of o) X) (chain_end o.format (chain_next (stages_of o) X) [])) ∙ ap bytes_of (chain_ends o.format (stages_of o) X);
        clipped =
            ap₂ (λ (n m : ℕ). n + m) v.clipped
            (finished_clipped r.chain v.moved.places a b ∙ ap₂ (λ (f : PcmFormat) (l : List Stage). end_clipped f l []) v.moved.format v.moved.stages)
            ∙ end_clips o.format (stages_of o) X;
        moved =
            moved_as (ap (map stage_clear) v.moved.stages ∙ chain_clear_next (stages_of o) X)
            (moves_on v.moved (finished_moves r.chain v.moved.places still_few a b));
        frames = v.frames;
      }

      pub finish_accepted : finish_verdict r.chain (shorter a b) ≡ Ok tt → EndedSince o X (after_call r (finish a b))
      unfolding finish_call
      finish_accepted h = rw h after_accepted_finish

      pub finish_refused : (e : Error) → finish_verdict r.chain (shorter a b) ≡ Err e → Since o X (after_call r (finish a b))
      unfolding finish_call
      finish_refused e h = rw (h, append-nil, add-zero) v

    -- ---- a block
    module _ (format : PcmFormat) (t : ℕ) (bytes a b : List ℕ) (lent : Bytes bytes) where
      abbrev Y : List Frame
      Y = frames_of o.format.channels bytes

      after_accepted : Accepts r.chain bytes a b → Since o (X ++ Y) (joined_by r (accepted r.chain t bytes (record { a = a; b = b })))
      after_accepted w =
          let y : frames_of r.chain.format.channels bytes ≡ Y = ap (λ (f : PcmFormat). frames_of f.channels bytes) v.moved.format in
          record {
            output =
                ap₂ (λ (u w : List ℕ). u ++ w) v.output (accepted_output r.chain v.moved.places t bytes a b w lent ∙ ap bytes_of (ap₂ chain_out v.moved.stages y))
                ∙ sym (ap bytes_of (chain_out-append (stages_of o) X Y) ∙ bytes-append (chain_out (stages_of o) X) (chain_out (chain_next (stages_of o) X) Y));
            clipped =
                ap₂ (λ (n m : ℕ). n + m) v.clipped (accepted_clipped r.chain v.moved.places t bytes a b w ∙ ap₂ chain_clipped v.moved.stages y)
                ∙ sym (chain_clipped-append (stages_of o) X Y);
            moved = moved_as (ap₂ chain_next v.moved.stages y ∙ sym (chain_next-append (stages_of o) X Y)) (moves_on v.moved (accepted_moves r.chain v.moved.places t bytes a b w));
            frames = all_append (FrameOf o.format.channels) X Y v.frames (frames_are_frames o.format.channels bytes lent);
          }

      after_refused : Since o (X ++ []) (record { chain = r.chain; joined = r.joined ++ []; clipped = r.clipped + 0 })
      after_refused = rw (append-nil, append-nil, add-zero) v

      pub after_block : (w : Verdict) → block_verdict r.chain format (length bytes) (shorter a b) ≡ w → Since o (X ++ added_by w Y) (after_call r (block format t bytes a b))
      unfolding block_call
      after_block (Err e) h = rw h after_refused
      after_block (Ok _) h = rw h (after_accepted (accepts r.chain format bytes a b h))

  -- ---- after a finish a stream begins as after a reset
  pub anew : (X : List Frame) (r : Run) → EndedSince o X r → Since (reset_call o) [] (fresh r.chain)
  anew X r v = cleared_begins r.chain v.moved

  -- ---- a chain in which no sound is yet is what reset makes of it
  pub as_before : stages_of o ≡ map stage_clear (stages_of o) → {X : List Frame} {r : Run} → Since (reset_call o) X r → Since o X r
  as_before silent {X} {r} v =
      let e : stages_of (reset_call o) ≡ stages_of o = reset_stages o few ∙ sym silent in
      let p = reset_moves o places few in
      record {
        output = v.output ∙ ap (λ (l : List Stage). bytes_of (chain_out l X)) e;
        clipped = v.clipped ∙ ap (λ (l : List Stage). chain_clipped l X) e;
        moved = moved_as (ap (λ (l : List Stage). chain_next l X) e) (moves_on p v.moved);
        frames = subst (λ (f : PcmFormat). FramesOf f.channels X) p.format v.frames;
      }
