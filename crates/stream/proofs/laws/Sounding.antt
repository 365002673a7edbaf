-- After any calls on a chain that opening returned, frames of 16-bit samples leave it, at its end too. Assumes nothing.
use Rattle.std.specs.Prelude.{◌≡◌, refl, List, [], ◌∷◌, ◌++◌, map, ℕ, ◌≤◌, ◌<◌, length, take}
use Rattle.std.proofs.Common.{sym, ap, ap₂, ◌∙◌, subst, arith, take_all, drop_at}
use Rattle.std.proofs.lemmas.List.{length-map}
use Rattle.std.proofs.Math.Seq.{take-length}
use Rattle.pcm.specs.declared.PcmFormat.{PcmFormat}
use Rattle.pcm.specs.Frames.{Frame, FrameOf, FramesOf}
use Rattle.pcm.specs.laws.Frames.{all_append, all_drop}
use Rattle.stage.specs.declared.Stage.{Stage}
use Rattle.stage.specs.declared.StageKind.{StageKind}
use Rattle.stage.specs.Stages.{stage_out, stage_as_opened, format_after}
use Rattle.ending.specs.laws.StageEnd.{next_kind_lem}
use Rattle.pipeline.specs.declared.Pipeline.{Pipeline}
use Rattle.pipeline.specs.Reset.{format_leaving}
use Rattle.pipeline.specs.WritingBack.{stages_of}
use Rattle.block.specs.Chain.{chain_out, chain_next}
use Rattle.block.specs.laws.Bounds.{legal_parts}
use Rattle.block.specs.laws.Chain.{chain_out-append}
use Rattle.finish.specs.FinishCall.{chain_end}
use Rattle.finish.specs.laws.ChainEnd.{chain_ends}
use Rattle.room.specs.Beforehand.{Sounding}
use Rattle.stream.specs.Calls.{Run}
use Rattle.stream.specs.FromChain.{Since}
use Rattle.stream.specs.Opened.{kinds_in, FreshlyOpened}
use Rattle.stream.specs.PlainChain.{plain_out}
use Rattle.stream.specs.PlainEnd.{plain_end}
use Rattle.stream.proofs.laws.AfterCalls.{as_opened, suit}
use Rattle.stream.proofs.laws.PlainChain.{chain_is_plain}
use Rattle.stream.proofs.laws.PlainEnd.{chain_end_is_plain}
use Rattle.stream.proofs.laws.Resamplers.{received_frames, received_at_end_frames}

-- the format that leaves is that of the kinds, whatever the stages remember
leaving_next : (f : PcmFormat) (l : List Stage) (X : List Frame) → format_leaving f (chain_next l X) ≡ format_leaving f l
unfolding format_leaving
leaving_next f [] X = refl
leaving_next f (s ∷ l) X =
    ap (λ (k : StageKind). format_leaving (format_after f k) (chain_next l (stage_out s X))) (next_kind_lem s X) ∙ leaving_next (format_after f s.kind) l (stage_out s X)

frames_after : (ch : ℕ) (xs ys : List Frame) → FramesOf ch (xs ++ ys) → FramesOf ch ys
frames_after ch xs ys a = subst (FramesOf ch) (drop_at xs ys (length xs) refl) (all_drop (FrameOf ch) (length xs) (xs ++ ys) a)

module _ (o : Pipeline) (opened : FreshlyOpened o) where
  abbrev leaving : ℕ
  leaving = (format_leaving o.format (stages_of o)).channels

  two : (0 < o.format.channels) × (o.format.channels ≤ 2)
  two = (legal_parts o opened.lawful).channels

  -- past the last stage
  past_all : (through : List StageKind → List Frame) → ((i : ℕ) → FramesOf (format_leaving o.format (take i (map stage_as_opened (kinds_in o)))).channels (through (take i (kinds_in o))))
      → FramesOf (format_leaving o.format (stages_of o)).channels (through (kinds_in o))
  past_all through a =
      let n : length (map stage_as_opened (kinds_in o)) ≤ length (kinds_in o) = omega (arith, length-map (kinds_in o) stage_as_opened) in
      subst (λ (ks : List StageKind). FramesOf leaving (through ks)) (take-length (kinds_in o))
      (subst (λ (l : List Stage). FramesOf (format_leaving o.format l).channels (through (take (length (kinds_in o)) (kinds_in o))))
      (take_all (length (kinds_in o)) (map stage_as_opened (kinds_in o)) n ∙ sym (as_opened o opened)) (a (length (kinds_in o))))

  -- all that leaves of the stream Y, and of its end
  whole_leaves : (Y : List Frame) → FramesOf o.format.channels Y → FramesOf leaving (chain_out (stages_of o) Y)
  whole_leaves Y a =
      subst (FramesOf leaving) (sym (ap (λ (l : List Stage). chain_out l Y) (as_opened o opened) ∙ chain_is_plain (kinds_in o) Y))
      (past_all (λ ks. plain_out ks Y) (received_frames o.format (kinds_in o) Y (suit o opened) two a))

  whole_ends : (Y : List Frame) → FramesOf o.format.channels Y → FramesOf leaving (chain_end o.format (stages_of o) Y)
  whole_ends Y a =
      subst (FramesOf leaving) (sym (ap (λ (l : List Stage). chain_end o.format l Y) (as_opened o opened) ∙ chain_end_is_plain o.format (kinds_in o) Y (suit o opened) two a))
      (past_all (λ ks. plain_end ks Y) (received_at_end_frames o.format (kinds_in o) Y (suit o opened) two a))

  -- the part of it that the chain as it stands has yet to deliver
  module _ {X : List Frame} {r : Run} (v : Since o X r) where
    same_leaving : format_leaving r.chain.format (stages_of r.chain) ≡ format_leaving o.format (stages_of o)
    same_leaving = ap₂ format_leaving v.moved.format v.moved.stages ∙ leaving_next o.format (stages_of o) X

    leaves : (xs : List Frame) → FramesOf r.chain.format.channels xs → FramesOf (format_leaving r.chain.format (stages_of r.chain)).channels (chain_out (stages_of r.chain) xs)
    leaves xs a =
        let b : FramesOf o.format.channels xs = subst (λ (f : PcmFormat). FramesOf f.channels xs) v.moved.format a in
        let e : FramesOf leaving (chain_out (stages_of o) X ++ chain_out (chain_next (stages_of o) X) xs) =
        subst (FramesOf leaving) (chain_out-append (stages_of o) X xs) (whole_leaves (X ++ xs) (all_append (FrameOf o.format.channels) X xs v.frames b)) in
        rw (same_leaving, v.moved.stages) (frames_after leaving (chain_out (stages_of o) X) _ e)

    ends : FramesOf (format_leaving r.chain.format (stages_of r.chain)).channels (chain_end r.chain.format (stages_of r.chain) [])
    ends =
        let e : FramesOf leaving (chain_out (stages_of o) X ++ chain_end o.format (chain_next (stages_of o) X) []) =
        subst (FramesOf leaving) (sym (chain_ends o.format (stages_of o) X)) (whole_ends X v.frames) in
        rw (same_leaving, v.moved.stages, v.moved.format) (frames_after leaving (chain_out (stages_of o) X) _ e)

    pub sounding : Sounding r.chain
    sounding = record { places = v.moved.places; leaving = leaves; ending = ends }
