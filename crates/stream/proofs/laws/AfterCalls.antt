-- The run after any calls on a chain that opening returned. Assumes nothing.
use Rattle.pcm.specs.Refusals.{Verdict}
use Rattle.std.specs.Prelude.{◌≡◌, true, ℕ, ◌≤◌, length, Ok, Err}
use Rattle.std.proofs.Common.{sym, ap, ◌∙◌, subst}
use Rattle.std.proofs.Math.Path.{ap₂}
use mathlib.Core.List.{List, [], ◌∷◌, append-nil, map}
use Rattle.std.proofs.Math.Dec.{leb}
use Rattle.pcm.specs.declared.PcmFormat.{PcmFormat}
use Rattle.pcm.specs.Formats.{format_allowed}
use Rattle.pcm.specs.Samples.{All}
use Rattle.pcm.specs.Frames.{Frame, FramesOf, bytes_of}
use Rattle.pcm.specs.laws.Tests.{both}
use Rattle.stage.specs.declared.Stage.{Stage}
use Rattle.stage.specs.Stages.{stage_as_opened}
use Rattle.pipeline.specs.declared.Pipeline.{Pipeline}
use Rattle.pipeline.specs.WritingBack.{stages_of}
use Rattle.block.specs.Chain.{chain_out, chain_next, chain_clipped}
use Rattle.block.specs.BlockCall.{suited, legal, block_verdict, shorter}
use Rattle.block.specs.laws.Bounds.{legal_parts}
use Rattle.finish.specs.FinishCall.{chain_end, end_clipped, end_verdict, finish_verdict}
use Rattle.stream.specs.Calls.{Call, block, reset, finish, Lent, Run, fresh, after_call}
use Rattle.stream.specs.Opened.{kinds_in, FreshlyOpened}
use Rattle.stream.specs.PlainChain.{plain_out, plain_state}
use Rattle.stream.proofs.laws.PlainChain.{chain_is_plain, state_is_plain}
use Rattle.finish.specs.laws.ChainEnd.{clear_is_opened}
use Rattle.stream.specs.PlainClipped.{plain_clips, plain_end_clips}
use Rattle.stream.proofs.laws.PlainClipped.{clips_are_plain, end_clips_are_plain}
use Rattle.stream.specs.PlainRoom.{plain_verdict}
use Rattle.stream.proofs.laws.PlainRoom.{suited_still, verdict_is_plain}
use Rattle.stream.specs.PlainEnd.{plain_end, plain_finish}
use Rattle.stream.proofs.laws.PlainEnd.{chain_end_is_plain, end_room_is_plain}
use Rattle.stream.specs.Stream.{Stream, running, ended, fed, within, ended_by, after_feeding, stream_from, stream_of, after_calls, run_of}
use Rattle.stream.specs.FromChain.{Since, EndedSince}
use Rattle.stream.proofs.laws.FromChain.{begun, after_reset, after_block, finish_accepted, finish_refused, anew, as_before}

module _ (o : Pipeline) (opened : FreshlyOpened o) where
  -- the chain as opened
  pub as_opened : stages_of o ≡ map stage_as_opened (kinds_in o)
  as_opened = opened.silent ∙ clear_is_opened (stages_of o)

  few : o.count ≤ 8
  few = (legal_parts o opened.lawful).few

  pub suit : suited o.format (map stage_as_opened (kinds_in o)) ≡ true
  suit = sym (ap (suited o.format) as_opened) ∙ (legal_parts o opened.lawful).suit

  -- ---- a stream that goes on
  module _ {X : List Frame} {r : Run} (v : Since o X r) where
    pub state_plain : stages_of r.chain ≡ plain_state (kinds_in o) X
    state_plain = v.moved.stages ∙ ap (λ (l : List Stage). chain_next l X) as_opened ∙ state_is_plain (kinds_in o) X

    pub output_plain : r.joined ≡ bytes_of (plain_out (kinds_in o) X)
    output_plain = v.output ∙ ap bytes_of (ap (λ (l : List Stage). chain_out l X) as_opened ∙ chain_is_plain (kinds_in o) X)

    pub clipped_plain : r.clipped ≡ plain_clips (kinds_in o) X
    clipped_plain = v.clipped ∙ ap (λ (l : List Stage). chain_clipped l X) as_opened ∙ clips_are_plain (kinds_in o) X

    pub verdict_plain : (format : PcmFormat) (bytes a b : List ℕ)
        → block_verdict r.chain format (length bytes) (shorter a b) ≡ plain_verdict o.format (kinds_in o) X format bytes (shorter a b)
    unfolding legal
    verdict_plain format bytes a b =
        let p = both (leb o.count 8) _ opened.lawful in
        let q = both (format_allowed o.format) _ p.1 in
        verdict_is_plain r.chain o.format (kinds_in o) X (ap (λ (n : ℕ). leb n 8) v.moved.count ∙ p.0) q.0 suit v.moved.format state_plain format bytes (shorter a b)

    pub legal_since : legal r.chain ≡ true
    unfolding legal
    legal_since =
        let p = both (leb o.count 8) _ opened.lawful in
        let q = both (format_allowed o.format) _ p.1 in
        rw (state_plain, v.moved.count, p.0, v.moved.format, q.0) (suited_still o.format (kinds_in o) X suit)

    pub finish_plain : (a b : List ℕ) → finish_verdict r.chain (shorter a b) ≡ plain_finish o.format (kinds_in o) X (shorter a b)
    unfolding finish_verdict
    finish_plain a b =
        let e : end_verdict r.chain.format (stages_of r.chain) 0 (shorter a b) ≡ end_verdict o.format (plain_state (kinds_in o) X) 0 (shorter a b) =
        ap₂ (λ (f : PcmFormat) (l : List Stage). end_verdict f l 0 (shorter a b)) v.moved.format state_plain in
        rw (legal_since, e)
        (end_room_is_plain o.format (kinds_in o) X [] (shorter a b) suit (legal_parts o opened.lawful).channels (subst (FramesOf o.format.channels) (sym (append-nil X)) v.frames))

  -- ---- a stream that has ended
  pub end_output_plain : {X : List Frame} {r : Run} → EndedSince o X r → r.joined ≡ bytes_of (plain_end (kinds_in o) X)
  end_output_plain {X} {r} v =
      v.output
      ∙ ap bytes_of (ap (λ (l : List Stage). chain_end o.format l X) as_opened ∙ chain_end_is_plain o.format (kinds_in o) X suit (legal_parts o opened.lawful).channels v.frames)

  pub end_clipped_plain : {X : List Frame} {r : Run} → EndedSince o X r → r.clipped ≡ plain_end_clips (kinds_in o) X
  end_clipped_plain {X} {r} v =
      v.clipped
      ∙ ap (λ (l : List Stage). end_clipped o.format l X) as_opened ∙ end_clips_are_plain o.format (kinds_in o) X suit (legal_parts o opened.lawful).channels v.frames

  pub end_state_plain : {X : List Frame} {r : Run} → EndedSince o X r → stages_of r.chain ≡ stages_of o
  end_state_plain v = v.moved.stages ∙ sym opened.silent

  -- ---- either
  abbrev pub Stands : Stream → Run → Type 0
  Stands (running X) r = Since o X r
  Stands (ended X) r = EndedSince o X r

  -- in the stream that the next call falls into
  pub stands_within : (S : Stream) (r : Run) → Stands S r → Since o (fed S) (within S r)
  stands_within (running X) r v = v
  stands_within (ended X) r v = as_before o opened.places few opened.silent (anew o opened.places few X r v)

  pub after_call_lem : (X : List Frame) (r : Run) (call : Call) → Since o X r → Lent call → Stands (after_feeding o X call) (after_call r call)
  after_call_lem X r (block format t bytes a b) v lent =
      after_block o opened.places few X r v format t bytes a b lent (plain_verdict o.format (kinds_in o) X format bytes (shorter a b)) (verdict_plain v format bytes a b)
  after_call_lem X r reset v lent = as_before o opened.places few opened.silent (after_reset o opened.places few X r v)
  after_call_lem X r (finish a b) v lent = go (plain_finish o.format (kinds_in o) X (shorter a b)) (finish_plain v a b)
    where
      go : (w : Verdict) → finish_verdict r.chain (shorter a b) ≡ w → Stands (ended_by w X) (after_call r (finish a b))
      go (Ok _) h = finish_accepted o opened.places few X r v a b h
      go (Err e) h = finish_refused o opened.places few X r v a b e h

  after_calls_lem : (S : Stream) (r : Run) (calls : List Call) → Stands S r → All Lent calls → Stands (stream_from o S calls) (after_calls o S r calls)
  after_calls_lem S r [] v lent = v
  after_calls_lem S r (call ∷ calls) v lent =
      after_calls_lem (after_feeding o (fed S) call) (after_call (within S r) call) calls (after_call_lem (fed S) (within S r) call (stands_within S r v) lent.0) lent.1

  -- the calls on the chain as opened
  pub after_all : (calls : List Call) → All Lent calls → Stands (stream_of o calls) (run_of o calls)
  after_all calls lent = after_calls_lem (running []) (fresh o) calls (begun o opened.places) lent
